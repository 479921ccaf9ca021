-- Lines of a script, and what each says.
use Rattle.std.specs.Prelude.{ℕ, Bool, ◌&&◌, not, nat_le, nat_lt, length, Option, Some, None, Result, Ok, Err, List, [], ◌∷◌, ◌==◌, if◌then◌else◌}
use Rattle.std.specs.List.{list_all}
use Rattle.ev_model.specs.declared.command.Command.{Command}
use Rattle.ev_model.specs.declared.command.Command.TheVariants.{Edit, Damage, HideArea, Step}
use Rattle.ev_model.specs.declared.command.Edit.TheVariants as edit
use Rattle.ev_model.specs.declared.refusal.BadLine.{BadLine}
use Rattle.ev_model.specs.declared.refusal.BadLine.TheVariants as bad
use Rattle.ev_lang.specs.declared.verb.Verb.{Verb}
use Rattle.ev_lang.specs.declared.verb.Verb.TheVariants as verb
use Rattle.ev_lang.specs.declared.line.Line.{Line}
use Rattle.ev_lang.specs.declared.line.Line.TheVariants as says
use Rattle.ev_lang.specs.Words.{onto_first, words, skipped, first_word, after_word}
use Rattle.ev_lang.specs.Args.{no_words, one_number, two_numbers, four_numbers, one_name, two_names, name_and_number, name_and_two, name_and_four, name_and_op, name_and_switch, name_and_text}
use Rattle.ev_lang.specs.Verbs.{verb_of, of_alone, of_name, of_names, of_two, of_four}
use Rattle.ev_lang.specs.Value.{text}

-- the lines of a script: each ends with byte 10, which the last may lack
abbrev pub lines : List ℕ → List (List ℕ)
lines [] = []
lines (b ∷ bs) = if b == 10 then [] ∷ lines bs else onto_first b (lines bs)

-- the first line
abbrev pub first_line : List ℕ → List ℕ
first_line [] = []
first_line (b ∷ bs) = if b == 10 then [] else b ∷ first_line bs

-- what stands behind the first line
abbrev pub after_line : List ℕ → List ℕ
after_line [] = []
after_line (b ∷ bs) = if b == 10 then bs else after_line bs

-- the line of what was read
abbrev pub said : {A : Type 0} → Result A BadLine → (A → Command) → Line
said (Ok read) command = says.Command (command read)
said (Err fault) command = says.Bad fault

-- what a first word says with the bytes behind it
unfoldable pub command_line : Verb → List ℕ → Line
command_line (verb.Alone which) rest = said (no_words (words rest)) (λ _. of_alone which)
command_line (verb.OneName which) rest = said (one_name (words rest)) (λ name. of_name which name)
command_line (verb.TwoNames which) rest = said (two_names (words rest)) (λ p. of_names which p.0 p.1)
command_line (verb.NameAndTwo which) rest = said (name_and_two (words rest)) (λ p. of_two which p.0 p.1 p.2)
command_line (verb.NameAndFour which) rest = said (name_and_four (words rest)) (λ p. of_four which p.0 p.1 p.2 p.3 p.4)
command_line verb.Op rest = said (name_and_op (words rest)) (λ p. Edit (edit.SetOp p.0 p.1))
command_line verb.Center rest = said (name_and_switch (words rest)) (λ p. Edit (edit.Center p.0 p.1))
command_line verb.Layer rest = said (name_and_number (words rest)) (λ p. Edit (edit.Layer p.0 p.1))
command_line verb.Say rest = said (name_and_text rest) (λ p. Edit (edit.Say p.0 (text p.1)))
command_line verb.Size rest = said (two_numbers (words rest)) (λ p. Edit (edit.Size p.0 p.1))
command_line verb.Damage rest = said (four_numbers (words rest)) (λ p. Damage p.0 p.1 p.2 p.3)
command_line verb.HideArea rest = said (four_numbers (words rest)) (λ p. HideArea p.0 p.1 p.2 p.3)
command_line verb.Step rest = said (one_number (words rest)) (λ k. Step k)

-- a line whose first word is known
abbrev pub verb_line : Option Verb → List ℕ → Line
verb_line None rest = says.Bad bad.Word
verb_line (Some known) rest = command_line known rest

-- what a line says from its first word on; a comment begins with `#`
abbrev pub word_line : List ℕ → Line
word_line [] = says.Empty
word_line (c ∷ cs) = if c == 35 then says.Empty else verb_line (verb_of (first_word (c ∷ cs))) (after_word (c ∷ cs))

-- the bytes of which lines are made
abbrev pub is_text_byte : ℕ → Bool
is_text_byte b = nat_le 32 b && nat_le b 126

-- what a line says: it has at most 1,024 bytes, all of them text
unfoldable pub line_of : List ℕ → Line
line_of line =
    if nat_lt 1024 (length line) then says.Bad bad.Long
    else if not (list_all is_text_byte line) then says.Bad bad.Byte
    else word_line (skipped line)
