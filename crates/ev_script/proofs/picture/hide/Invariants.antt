use Rattle.std.proofs.Common.{◌≡◌, ◌<◌, ℕ, length, get_or, None}
use Rattle.ev_argb.specs.Argb.{clear}
use Rattle.ev_script.specs.Dumps.{unhidden}
use Rattle.ev_script.proofs.picture.hide.Given as goal

abbrev pub invariant-loop-x : goal.invariant-loop-x
invariant-loop-x l = record {
  done : (k : ℕ) → k < l.x → get_or l.places k None ≡ unhidden l.hidden k l.y (get_or l.pixels k clear);
  size : length l.places ≡ length l.pixels;
}
