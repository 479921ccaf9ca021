-- Lines as values of their own: where a text lies in memory doesn't count.
use Rattle.std.specs.Prelude.{ℕ, List}
use Rattle.std.specs.Borrow.{Bor}
use Rattle.ev_model.specs.declared.command.Edit.{Edit}
use Rattle.ev_model.specs.declared.command.Edit.TheVariants as edit
use Rattle.ev_model.specs.declared.command.Command.{Command}
use Rattle.ev_model.specs.declared.command.Command.TheVariants as command
use Rattle.ev_model.specs.Limits.{IsCommand}
use Rattle.ev_lang.specs.declared.line.Line.{Line}
use Rattle.ev_lang.specs.declared.line.Line.TheVariants as says

-- a text that lies nowhere
abbrev pub text : List ℕ → Bor (List ℕ)
text bytes = record { ref_ptr = (0, 0); now = bytes }

abbrev pub edit_by_value : Edit → Edit
edit_by_value (edit.Say name said) = edit.Say name (text said.now)
edit_by_value other = other

abbrev pub command_by_value : Command → Command
command_by_value (command.Edit change) = command.Edit (edit_by_value change)
command_by_value other = other

abbrev pub by_value : Line → Line
by_value (says.Command order) = says.Command (command_by_value order)
by_value other = other

-- what a line says keeps the limits of texts
abbrev pub IsLine : Line → Type 0
IsLine (says.Command order) = IsCommand order
IsLine other = Unit {0}
