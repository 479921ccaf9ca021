use Rattle.std.proofs.Common.{◌+◌, subst, sym, arith}
use Rattle.ev_cmds.proofs.Baring.{HasFirst, first_more, first_same}
use Rattle.ev_cmds.proofs.opening.bare_part.Goals as goal
use Rattle.ev_cmds.proofs.opening.bare_part.Goals.{in-Some, in-None}

pub loop-one-preserved : goal.loop-one-preserved
loop-one-preserved c = elim c.match-part_on.branch [
  | in-Some w ↦
      subst (HasFirst c.args.near.now (c.loop-one.one-index + 1) c.args.left c.args.top) (sym w.bare-is)
      (first_more c.args.near.now c.loop-one.one-index _ c.args.left c.args.top c.loop-one.bare _ w.in-Some.patch (omega arith) c.loop-one.invariant w.in-Some.ensures w.add.ensures)
  | in-None w ↦
      subst (HasFirst c.args.near.now (c.loop-one.one-index + 1) c.args.left c.args.top) (sym w.bare-is)
      (first_same c.args.near.now c.loop-one.one-index _ c.args.left c.args.top c.loop-one.bare (omega arith) c.loop-one.invariant w.in-None.ensures)
]
