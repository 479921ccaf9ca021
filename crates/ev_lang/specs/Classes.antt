-- Words that are names, numbers and choices.
use Rattle.std.specs.Prelude.{ℕ, Bool, true, false, ◌+◌, ◌-◌, ◌*◌, ℤ, pos, neg_ℤ, ◌&&◌, ◌||◌, nat_le, nat_lt, length, Option, Some, None, option_map, ok_or, Result, Ok, Err, List, [], ◌∷◌, codes, ◌==◌, if◌then◌else◌}
use Rattle.std.specs.Str.{bytes_eq}
use Rattle.ev_model.specs.Name.{is_name}
use Rattle.ev_model.specs.declared.refusal.BadLine.{BadLine}
use Rattle.ev_model.specs.declared.refusal.BadLine.TheVariants as bad
use Rattle.ev_model.specs.declared.object.Op.{Op}
use Rattle.ev_model.specs.declared.object.Op.TheVariants as op

-- the value of digits that stand behind a value, if they are digits
abbrev pub digits_from : List ℕ → ℕ → Option ℕ
digits_from [] n = Some n
digits_from (c ∷ cs) n = if nat_le 48 c && nat_le c 57 then digits_from cs (n * 10 + (c - 48)) else None

abbrev pub begins_zero : List ℕ → Bool
begins_zero [] = false
begins_zero (c ∷ cs) = c == 48

-- `0`, or 1 to 10 digits of which the first isn't 0
unfoldable pub natural : List ℕ → Option ℕ
natural cs = if nat_lt 10 (length cs) || (length cs == 0) || (begins_zero cs && nat_lt 1 (length cs)) then None else digits_from cs 0

-- the same behind a sign, but for 0
unfoldable pub negative : List ℕ → Option ℤ
negative cs = if begins_zero cs then None else option_map (λ n. neg_ℤ (pos n)) (natural cs)

-- a number
unfoldable pub number : List ℕ → Option ℤ
number [] = None
number (c ∷ cs) = if c == 45 then negative cs else option_map pos (natural (c ∷ cs))

-- a name among the words, and the words behind it
unfoldable pub name_arg : List (List ℕ) → Result (List ℕ × List (List ℕ)) BadLine
name_arg [] = Err bad.Count
name_arg (word ∷ words) = if is_name word then Ok (word, words) else Err bad.Name

-- a number among the words, and the words behind it
unfoldable pub number_arg : List (List ℕ) → Result (ℤ × List (List ℕ)) BadLine
number_arg [] = Err bad.Count
number_arg (word ∷ words) = ok_or (option_map (λ n. (n, words)) (number word)) bad.Number

-- `blend` or `copy`
abbrev pub op_of : List ℕ → Option Op
op_of word = if bytes_eq word (codes "blend") then Some op.Blend else if bytes_eq word (codes "copy") then Some op.Copy else None

-- `on` or `off`
abbrev pub switch_of : List ℕ → Option Bool
switch_of word = if bytes_eq word (codes "on") then Some true else if bytes_eq word (codes "off") then Some false else None

-- an operation that is the first of the words
unfoldable pub op_arg : List (List ℕ) → Result Op BadLine
op_arg [] = Err bad.Count
op_arg (word ∷ words) = ok_or (op_of word) bad.Word

-- a switch that is the first of the words
unfoldable pub switch_arg : List (List ℕ) → Result Bool BadLine
switch_arg [] = Err bad.Count
switch_arg (word ∷ words) = ok_or (switch_of word) bad.Word
