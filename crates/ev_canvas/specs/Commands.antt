-- What each command may do.
use Rattle.std.specs.Prelude.{◌≡◌, ℕ, List, [], ◌∷◌}
use Rattle.ev_model.specs.Answer.{Answer, Bad}
use Rattle.ev_model.specs.declared.command.Command.{Command}
use Rattle.ev_model.specs.declared.command.Command.TheVariants as command
use Rattle.ev_model.specs.declared.refusal.BadLine.TheVariants as bad
use Rattle.ev_canvas.specs.CanvasCalls.{MayEdit, MayDamage, MayHide, area_of, cleared}
use Rattle.ev_canvas.specs.Turns.{Setting, State, Turn, Does, Edited, Renders, LoadsFile, stays, told_result, told_edit, printed, rows, sums}

-- a command that isn't built yet is a bad word
abbrev pub unbuilt : ℕ → List Answer
unbuilt n = Bad bad.Word n ∷ []

-- what a command of line n may do, in this setting
abbrev pub Commanded : Setting → State → ℕ → Command → Turn → Type 0
Commanded setting old n (command.Edit edit) turn = Does (λ (edited : Edited) now. MayEdit old.now edit edited.result now edited.events) (told_edit n) old turn
Commanded setting old n (command.Damage x y w h) turn = Does (MayDamage old.now (area_of x y w h)) (told_result n) old turn
Commanded setting old n (command.HideArea x y w h) turn = Does (MayHide old.now (area_of x y w h)) (told_result n) old turn
Commanded setting old n command.ClearAreas turn = turn ≡ record { replies = []; after = record old { now = cleared old.now } }
Commanded setting old n (command.Preload name) turn = turn ≡ stays old (unbuilt n)
Commanded setting old n (command.Load name) turn = LoadsFile setting old n name turn
Commanded setting old n (command.Cancel name) turn = turn ≡ stays old (unbuilt n)
Commanded setting old n command.Serve turn = turn ≡ stays old (unbuilt n)
Commanded setting old n command.Start turn = turn ≡ stays old (unbuilt n)
Commanded setting old n (command.Step k) turn = turn ≡ stays old (unbuilt n)
Commanded setting old n command.Poll turn = turn ≡ stays old (unbuilt n)
Commanded setting old n command.Wait turn = turn ≡ stays old (unbuilt n)
Commanded setting old n command.Render turn = Renders setting old n turn
Commanded setting old n command.Dump turn = turn ≡ stays old (printed rows n old.now.frames.newest)
Commanded setting old n command.Sum turn = turn ≡ stays old (printed sums n old.now.frames.newest)
Commanded setting old n command.Stats turn = turn ≡ stays old (unbuilt n)
