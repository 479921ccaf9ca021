-- States that are made one after another.
use Rattle.std.proofs.Common.{ℕ, ◌+◌, arith}
use Rattle.ev_scene.specs.Board.{MakesAtMost}

pub makes_both : {m n a b c : ℕ} → MakesAtMost m a b → MakesAtMost n b c → MakesAtMost (m + n) a c
makes_both one other = record { grows = omega (arith, one.grows, other.grows); bound = omega (arith, one.bound, other.bound) }

pub makes_none : {n a : ℕ} → MakesAtMost n a a
makes_none = record { grows = omega arith; bound = omega arith }
