-- The machine that a script drives: what each line may do, and a script line by line.
use Rattle.std.specs.Prelude.{◌≡◌, ℕ, ◌+◌, List, [], ◌∷◌, ◌++◌, sum_by}
use Rattle.ev_model.specs.Answer.{Answer, Lost, PreloadFailed, Bad}
use Rattle.ev_model.specs.declared.refusal.LoadFault.TheVariants as load
use Rattle.ev_lang.specs.declared.line.Line.{Line}
use Rattle.ev_lang.specs.declared.line.Line.TheVariants as line
use Rattle.ev_canvas.specs.Turns.{Setting, State, Turn, stays}
use Rattle.ev_canvas.specs.Commands.{Commanded}

-- how many frames a reply tells as lost
abbrev pub losses_of : Answer → ℕ
losses_of (Lost n) = 1
losses_of other = 0

-- how many frames these replies tell as lost
abbrev pub lost_frames : List Answer → ℕ
lost_frames replies = sum_by losses_of replies

-- how many loads a reply tells as failed in the store
abbrev pub store_failures_of : Answer → ℕ
store_failures_of (PreloadFailed name load.Store) = 1
store_failures_of other = 0

-- how many loads these replies tell as failed in the store
abbrev pub store_failures : List Answer → ℕ
store_failures replies = sum_by store_failures_of replies

-- what line n may do in this setting
abbrev pub Step : Setting → State → ℕ → Line → Turn → Type 0
Step setting old n line.Empty turn = turn ≡ stays old []
Step setting old n (line.Bad fault) turn = turn ≡ stays old (Bad fault n ∷ [])
Step setting old n (line.Command command) turn = Commanded setting old n command turn

-- lines from number n on may have these replies, and leave this state
abbrev pub Plays : Setting → State → ℕ → List Line → List Answer → State → Type 0
Plays setting old n [] replies new = (replies ≡ []) × (new ≡ old)
Plays setting old n (line ∷ lines) replies new = (turn : Turn) × (rest : List Answer) × Step setting old n line turn × Plays setting turn.after (n + 1) lines rest new × (replies ≡ turn.replies ++ rest)
