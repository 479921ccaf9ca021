use Rattle.std.proofs.Common.{sym, ◌∙◌}
use Rattle.ev_model.specs.Look.{look_of}
use Rattle.ev_damage.proofs.Placing.{place_kept, found_in_map}
use Rattle.ev_damage.proofs.places.kept_at.Goals as goal

pub equal_at-requires-clause-within : goal.equal_at-requires-clause-within
equal_at-requires-clause-within c = found_in_map c.args.others.now c.args.one.now.id c.args.at c.requires.place

pub returns-else-may_differ : goal.returns-else-may_differ
returns-else-may_differ c =
    sym (place_kept c.args.others.now (look_of c.args.one.now) c.args.at c.args.one.now c.requires.own c.requires.place
    (c.requires.unmarked (sym c.may_differ.ensures ∙ c.if-may_differ.false)))
