use Rattle.std.proofs.Common.{arith, inl, inr}
use Rattle.ev_cmds.proofs.Seeing.{some_part, no_part}
use Rattle.ev_cmds.proofs.part.part_on.Goals as goal
use Rattle.ev_cmds.proofs.part.part_on.Goals.{else-part_left-part_right-via-then-part_left-part_right+else-part_top-part_bottom, else-part_left-part_right-via-else-part_left-part_right}

pub returns-then-part_top-part_bottom : goal.returns-then-part_top-part_bottom
returns-then-part_top-part_bottom c =
    some_part c.args.edges.now c.args.left c.args.top _ (omega (arith, c.saturating_sub-part_left.ensures)) (omega (arith, c.min-part_right.ensures, c.saturating_sub.ensures))
    (omega (arith, c.saturating_sub-part_top.ensures)) (omega (arith, c.min-part_bottom.ensures, c.saturating_sub-2.ensures)) (omega arith) (omega arith)

pub returns-else-part_left-part_right : goal.returns-else-part_left-part_right
returns-else-part_left-part_right c = elim c.else-part_left-part_right.branch [
  | else-part_left-part_right-via-then-part_left-part_right+else-part_top-part_bottom w ↦
      no_part c.args.edges.now c.args.left c.args.top (inr (omega (arith, w.if-part_top-part_bottom.false, c.saturating_sub-part_top.ensures, c.min-part_bottom.ensures, c.saturating_sub-2.ensures)))
  | else-part_left-part_right-via-else-part_left-part_right w ↦
      no_part c.args.edges.now c.args.left c.args.top (inl (omega (arith, w.if-part_left-part_right.false, c.saturating_sub-part_left.ensures, c.min-part_right.ensures, c.saturating_sub.ensures)))
]
