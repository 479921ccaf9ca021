use Rattle.std.proofs.Common.{None, map, ap, sym, ◌∙◌}
use Rattle.ev_groups.specs.Groups.{siblings}
use Rattle.ev_scene.specs.Ids.{value_of}
use Rattle.ev_scene.specs.Board.{values_of}
use Rattle.ev_scene.specs.Change.{apply}
use Rattle.ev_scene.specs.declared.change.Change.TheVariants as change
use Rattle.ev_scene.proofs.Releasing.{none_clipped}
use Rattle.ev_scene.proofs.delete.released.Goals as goal

pub returns-then-below_of-eq0-clause-states : goal.returns-then-below_of-eq0-clause-states
returns-then-below_of-eq0-clause-states c =
    ap (map value_of) c.new.ensures.items
    ∙ ap (map (apply (change.Clip None))) (sym (none_clipped (values_of c.args.roll.now.states) c.args.links.now c.requires.tied c.args.id c.below_of.result c.below_of.ensures c.if-below_of-eq0.true (siblings c.args.groups.now c.args.parent)))
