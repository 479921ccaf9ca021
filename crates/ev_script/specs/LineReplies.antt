-- What the log tells of a line that was carried out.
use Rattle.std.specs.Prelude.{ℕ, List, [], ◌∷◌}
use Rattle.ev_model.specs.Answer.{Answer, Bad}
use Rattle.ev_canvas.specs.Canvas.{Canvas}
use Rattle.ev_canvas.specs.Events.{told_event}
use Rattle.ev_canvas.specs.Turns.{told_result, told_flush, printed, rows, sums}
use Rattle.ev_script.specs.declared.outcome.Outcome.{Outcome}
use Rattle.ev_script.specs.declared.outcome.Outcome.TheVariants as outcome

-- the replies to line n, by its outcome and the canvas that it left
abbrev pub told : Canvas → ℕ → Outcome → List Answer
told canvas n (outcome.Bad fault) = Bad fault n ∷ []
told canvas n (outcome.Done result) = told_result n result
told canvas n (outcome.Flushed flushed) = told_flush flushed canvas.frames.newest
told canvas n (outcome.Event event) = told_event event ∷ []
told canvas n outcome.Rows = printed rows n canvas.frames.newest
told canvas n outcome.Totals = printed sums n canvas.frames.newest
