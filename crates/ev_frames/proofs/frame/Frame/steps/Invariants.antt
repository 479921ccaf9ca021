use Rattle.std.proofs.Common.{ℕ, ℤ, Bool, ◌≡◌, ◌+◌, length}
use Rattle.ev_argb.specs.Argb.{Argb}
use Rattle.ev_frames.specs.Running.{Keeps}
use Rattle.ev_frames.proofs.frame.Frame.steps.Given as goal

abbrev pub invariant-loop : goal.invariant-loop
invariant-loop l = record {
  left : length l.self.jobs + l.counter ≡ length l.initial.self.jobs;
  drawn : length l.self.done ≡ length l.initial.self.done + l.counter;
  cut : l.self.cut ≡ l.initial.self.cut;
  loan : l.self.loan ≡ l.initial.self.loan;
  lent : l.self.lent ≡ l.initial.self.lent;
  kept : (paint : ℕ → ℕ → Argb) (hidden : ℤ → ℤ → Bool) → Keeps paint hidden l.initial.self → Keeps paint hidden l.self;
}
