use Rattle.ev_scene.specs.Board.{values_of}
use Rattle.ev_scene.proofs.Refusing.{MayBelow}
use Rattle.ev_scene.proofs.cast.Cast.first_cause.Given as goal

abbrev pub invariant-loop-other : goal.invariant-loop-other
invariant-loop-other l = MayBelow l.fn.dx l.fn.dy (values_of l.fn.self.roll.states) l.fn.self.links l.fn.id l.other
