use Rattle.std.proofs.Common.{◌+◌, length, subst}
use Rattle.std.specs.Option.{option_map_or}
use Rattle.ev_scene.specs.Board.{MakesAtMost}
use Rattle.ev_scene.specs.Cast.{board_of}
use Rattle.ev_scene.specs.Edits.{clipped_by}
use Rattle.ev_scene.proofs.Making.{makes_both, makes_none}
use Rattle.ev_scene.proofs.cast.Cast.delete.Goals as goal

pub returns-in_err-delete_one-clause-made : goal.returns-in_err-delete_one-clause-made
returns-in_err-delete_one-clause-made c =
    subst (λ found. MakesAtMost (option_map_or (λ o. length (clipped_by (board_of c.args.self.now) o.id o.parent) + 1) found 1) c.args.self.now.roll.made c.delete_one.new.self.roll.made) (c.in-Some.ensures).value
    (makes_both c.delete_one.ensures.made makes_none)
