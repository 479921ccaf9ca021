-- What may follow the first word of a command. The count of words comes first, then the first of them from the left that
-- isn't what it should be.
use Rattle.std.specs.Prelude.{ℕ, ℤ, Bool, ◌==◌, if◌then◌else◌, length, Result, Ok, Err, List, [], ◌∷◌}
use Rattle.ev_model.specs.Name.{is_name}
use Rattle.ev_model.specs.declared.object.Op.{Op}
use Rattle.ev_model.specs.declared.refusal.BadLine.{BadLine}
use Rattle.ev_model.specs.declared.refusal.BadLine.TheVariants as bad
use Rattle.ev_lang.specs.Words.{skipped, first_word, after_word, after_one}
use Rattle.ev_lang.specs.Classes.{name_arg, number_arg, op_arg, switch_arg}

-- what is read in so many words
abbrev pub counted : {A : Type 0} → ℕ → List (List ℕ) → Result A BadLine → Result A BadLine
counted n args read = if length args == n then read else Err bad.Count

-- what is read behind something, which had no fault
abbrev pub and_then : {A B : Type 0} → Result A BadLine → (A → Result B BadLine) → Result B BadLine
and_then (Ok read) next = next read
and_then (Err fault) next = Err fault

-- no words
unfoldable pub no_words : List (List ℕ) → Result (Unit {0}) BadLine
no_words args = counted 0 args (Ok tt)

-- a number
unfoldable pub one_number : List (List ℕ) → Result ℤ BadLine
one_number args = counted 1 args (and_then (number_arg args) (λ n. Ok n.0))

-- two numbers, one after the other
unfoldable pub pair : List (List ℕ) → Result (ℤ × ℤ) BadLine
pair args = and_then (number_arg args) (λ m. and_then (number_arg m.1) (λ n. Ok (m.0, n.0)))

-- four numbers, one after the other
unfoldable pub quad : List (List ℕ) → Result (ℤ × ℤ × ℤ × ℤ) BadLine
quad args = and_then (number_arg args) (λ k. and_then (number_arg k.1) (λ l. and_then (pair l.1) (λ p. Ok (k.0, l.0, p.0, p.1))))

-- two numbers and no more
unfoldable pub two_numbers : List (List ℕ) → Result (ℤ × ℤ) BadLine
two_numbers args = counted 2 args (pair args)

-- four numbers and no more
unfoldable pub four_numbers : List (List ℕ) → Result (ℤ × ℤ × ℤ × ℤ) BadLine
four_numbers args = counted 4 args (quad args)

-- a name
unfoldable pub one_name : List (List ℕ) → Result (List ℕ) BadLine
one_name args = counted 1 args (and_then (name_arg args) (λ name. Ok name.0))

-- two names
unfoldable pub two_names : List (List ℕ) → Result (List ℕ × List ℕ) BadLine
two_names args = counted 2 args (and_then (name_arg args) (λ name. and_then (name_arg name.1) (λ other. Ok (name.0, other.0))))

-- a name and a number
unfoldable pub name_and_number : List (List ℕ) → Result (List ℕ × ℤ) BadLine
name_and_number args = counted 2 args (and_then (name_arg args) (λ name. and_then (number_arg name.1) (λ n. Ok (name.0, n.0))))

-- a name and two numbers
unfoldable pub name_and_two : List (List ℕ) → Result (List ℕ × ℤ × ℤ) BadLine
name_and_two args = counted 3 args (and_then (name_arg args) (λ name. and_then (pair name.1) (λ p. Ok (name.0, p.0, p.1))))

-- a name and four numbers
unfoldable pub name_and_four : List (List ℕ) → Result (List ℕ × ℤ × ℤ × ℤ × ℤ) BadLine
name_and_four args = counted 5 args (and_then (name_arg args) (λ name. and_then (quad name.1) (λ p. Ok (name.0, p.0, p.1, p.2, p.3))))

-- a name and an operation
unfoldable pub name_and_op : List (List ℕ) → Result (List ℕ × Op) BadLine
name_and_op args = counted 2 args (and_then (name_arg args) (λ name. and_then (op_arg name.1) (λ op. Ok (name.0, op))))

-- a name and a switch
unfoldable pub name_and_switch : List (List ℕ) → Result (List ℕ × Bool) BadLine
name_and_switch args = counted 2 args (and_then (name_arg args) (λ name. and_then (switch_arg name.1) (λ on. Ok (name.0, on))))

-- a name in front of a text: after one space all that follows is text
abbrev pub named_text : List ℕ → Result (List ℕ × List ℕ) BadLine
named_text [] = Err bad.Count
named_text (c ∷ cs) = if is_name (first_word (c ∷ cs)) then Ok (first_word (c ∷ cs), after_one (after_word (c ∷ cs))) else Err bad.Name

-- what follows the first word of a line: a name, and a text
unfoldable pub name_and_text : List ℕ → Result (List ℕ × List ℕ) BadLine
name_and_text rest = named_text (skipped rest)
