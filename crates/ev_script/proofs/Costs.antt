-- How many pixels lines may paint, by their bytes: a line that renders has at least three.
use Rattle.std.proofs.Common.{◌≡◌, ℕ, ◌+◌, ◌*◌, ◌<◌, ◌≤◌, ◌==◌, not, nat_lt, Bool, true, false, cond, if◌then◌else◌, List, [], ◌∷◌, length, codes, Option, Some, None, Result, Ok, Err, refl, sym, ap, ◌∙◌, arith}
use Rattle.std.specs.List.{list_all}
use Rattle.std.specs.Str.{bytes_eq}
use Rattle.std.proofs.lemmas.Bool.{false_from_ne_true}
use Rattle.std.proofs.lemmas.Bool.Decides.{nat_tests}
use Rattle.std.proofs.lemmas.Slice.Eq.{bytes_eq-Decides}
use Rattle.ev_model.specs.declared.command.Command.{Command}
use Rattle.ev_model.specs.declared.command.Command.TheVariants as command
use Rattle.ev_model.specs.declared.command.Edit.TheVariants as edit
use Rattle.ev_model.specs.declared.refusal.BadLine.{BadLine}
use Rattle.ev_lang.specs.Args.{name_and_op}
use Rattle.ev_lang.specs.Lines.{first_line, after_line, line_of, word_line, verb_line, command_line, said, is_text_byte}
use Rattle.ev_lang.specs.Value.{by_value}
use Rattle.ev_lang.specs.Verbs.{object_verb, order_verb, content_verb, frame_verb, verb_of}
use Rattle.ev_lang.specs.Words.{skipped, first_word, after_word, words}
use Rattle.ev_lang.specs.declared.line.Line.{Line}
use Rattle.ev_lang.specs.declared.line.Line.TheVariants as says
use Rattle.ev_lang.specs.declared.verb.Verb.{Verb}
use Rattle.ev_lang.specs.declared.verb.Verb.TheVariants as verb
use Rattle.ev_script.specs.Session.{most_by, most_of_frame}

-- lists of different lengths differ
unlike : (w k : List ℕ) → length w < length k → bytes_eq w k ≡ false
unlike w k short = false_from_ne_true (bytes_eq w k) (λ e. (let same : length w ≡ length k = ap length ((bytes_eq-Decides w k).0 e) in absurd (omega (arith, same, short))))

skip : (w k : List ℕ) (n : ℕ) (x y : Option Verb) → length k ≡ n → length w < n → (if bytes_eq w k then x else y) ≡ y
skip w k n x y is short = ap (λ b. cond b x y) (unlike w k (omega (arith, is, short)))

taken : (w k : List ℕ) (x y : Option Verb) → bytes_eq w k ≡ true → (if bytes_eq w k then x else y) ≡ x
taken w k x y is = ap (λ b. cond b x y) is

passed : (w k : List ℕ) (x y : Option Verb) → bytes_eq w k ≡ false → (if bytes_eq w k then x else y) ≡ y
passed w k x y is = ap (λ b. cond b x y) is

-- of the words with at most two bytes `op` alone begins a command
object_short : (w : List ℕ) (t : Bool) → length w ≤ 2 → bytes_eq w (codes "op") ≡ t → object_verb w ≡ (if t then Some verb.Op else None)
unfolding object_verb
object_short w true few op =
    skip w (codes "move") 4 _ _ refl (omega (arith, few))
    ∙ skip w (codes "resize") 6 _ _ refl (omega (arith, few))
    ∙ skip w (codes "show") 4 _ _ refl (omega (arith, few))
    ∙ skip w (codes "hide") 4 _ _ refl (omega (arith, few))
    ∙ skip w (codes "color") 5 _ _ refl (omega (arith, few))
    ∙ taken w (codes "op") _ _ op
object_short w false few op =
    skip w (codes "move") 4 _ _ refl (omega (arith, few))
    ∙ skip w (codes "resize") 6 _ _ refl (omega (arith, few))
    ∙ skip w (codes "show") 4 _ _ refl (omega (arith, few))
    ∙ skip w (codes "hide") 4 _ _ refl (omega (arith, few))
    ∙ skip w (codes "color") 5 _ _ refl (omega (arith, few))
    ∙ passed w (codes "op") _ _ op
    ∙ skip w (codes "rect") 4 _ _ refl (omega (arith, few))
    ∙ skip w (codes "image") 5 _ _ refl (omega (arith, few))
    ∙ skip w (codes "text") 4 _ _ refl (omega (arith, few))
    ∙ skip w (codes "smart") 5 _ _ refl (omega (arith, few))
    ∙ skip w (codes "delete") 6 _ _ refl (omega (arith, few))

order_short : (w : List ℕ) → length w ≤ 2 → order_verb w ≡ None
unfolding order_verb
order_short w few =
    skip w (codes "layer") 5 _ _ refl (omega (arith, few))
    ∙ skip w (codes "raise") 5 _ _ refl (omega (arith, few))
    ∙ skip w (codes "lower") 5 _ _ refl (omega (arith, few))
    ∙ skip w (codes "above") 5 _ _ refl (omega (arith, few))
    ∙ skip w (codes "below") 5 _ _ refl (omega (arith, few))
    ∙ skip w (codes "clip") 4 _ _ refl (omega (arith, few))
    ∙ skip w (codes "unclip") 6 _ _ refl (omega (arith, few))
    ∙ skip w (codes "member") 6 _ _ refl (omega (arith, few))
    ∙ skip w (codes "free") 4 _ _ refl (omega (arith, few))

content_short : (w : List ℕ) → length w ≤ 2 → content_verb w ≡ None
unfolding content_verb
content_short w few =
    skip w (codes "say") 3 _ _ refl (omega (arith, few))
    ∙ skip w (codes "file") 4 _ _ refl (omega (arith, few))
    ∙ skip w (codes "font") 4 _ _ refl (omega (arith, few))
    ∙ skip w (codes "fill") 4 _ _ refl (omega (arith, few))
    ∙ skip w (codes "filled") 6 _ _ refl (omega (arith, few))
    ∙ skip w (codes "border") 6 _ _ refl (omega (arith, few))
    ∙ skip w (codes "center") 6 _ _ refl (omega (arith, few))
    ∙ skip w (codes "preload") 7 _ _ refl (omega (arith, few))
    ∙ skip w (codes "load") 4 _ _ refl (omega (arith, few))
    ∙ skip w (codes "cancel") 6 _ _ refl (omega (arith, few))
    ∙ skip w (codes "serve") 5 _ _ refl (omega (arith, few))

frame_short : (w : List ℕ) → length w ≤ 2 → frame_verb w ≡ None
unfolding frame_verb
frame_short w few =
    skip w (codes "render") 6 _ _ refl (omega (arith, few))
    ∙ skip w (codes "start") 5 _ _ refl (omega (arith, few))
    ∙ skip w (codes "step") 4 _ _ refl (omega (arith, few))
    ∙ skip w (codes "poll") 4 _ _ refl (omega (arith, few))
    ∙ skip w (codes "wait") 4 _ _ refl (omega (arith, few))
    ∙ skip w (codes "dump") 4 _ _ refl (omega (arith, few))
    ∙ skip w (codes "sum") 3 _ _ refl (omega (arith, few))
    ∙ skip w (codes "stats") 5 _ _ refl (omega (arith, few))
    ∙ skip w (codes "size") 4 _ _ refl (omega (arith, few))
    ∙ skip w (codes "damage") 6 _ _ refl (omega (arith, few))
    ∙ skip w (codes "hide-area") 9 _ _ refl (omega (arith, few))
    ∙ skip w (codes "clear-areas") 11 _ _ refl (omega (arith, few))

verb_short : (w : List ℕ) (t : Bool) → length w ≤ 2 → bytes_eq w (codes "op") ≡ t → verb_of w ≡ (if t then Some verb.Op else None)
unfolding verb_of
verb_short w true few op = rw (object_short w true few op) refl
verb_short w false few op = rw (object_short w false few op, order_short w few, content_short w few, frame_short w few) refl

-- such words render nothing
none_said : {A : Type 0} (read : Result A BadLine) (of : A → Command) → ((a : A) → most_by (says.Command (of a)) ≡ 0) → most_by (said read of) ≡ 0
none_said (Ok a) of none = none a
none_said (Err fault) of none = refl

op_said : (rest : List ℕ) → most_by (command_line verb.Op rest) ≡ 0
unfolding command_line
op_said rest = none_said (name_and_op (words rest)) (λ p. command.Edit (edit.SetOp p.0 p.1)) (λ p. refl)

verb_said : (w rest : List ℕ) (t : Bool) → length w ≤ 2 → bytes_eq w (codes "op") ≡ t → most_by (verb_line (verb_of w) rest) ≡ 0
verb_said w rest true few op = ap (λ v. most_by (verb_line v rest)) (verb_short w true few op) ∙ op_said rest
verb_said w rest false few op = ap (λ v. most_by (verb_line v rest)) (verb_short w false few op)

first_fits : (line : List ℕ) → length (first_word line) ≤ length line
first_fits [] = omega arith
first_fits (c ∷ cs) = go (c == 32) refl (first_fits cs) where
  go : (t : Bool) → (c == 32) ≡ t → length (first_word cs) ≤ length cs → length (first_word (c ∷ cs)) ≤ length (c ∷ cs)
  go true e later = rw e (omega arith)
  go false e later = rw e (omega (arith, later))

skipped_fits : (line : List ℕ) → length (skipped line) ≤ length line
skipped_fits [] = omega arith
skipped_fits (c ∷ cs) = go (c == 32) refl (skipped_fits cs) where
  go : (t : Bool) → (c == 32) ≡ t → length (skipped cs) ≤ length cs → length (skipped (c ∷ cs)) ≤ length (c ∷ cs)
  go true e later = rw e (omega (arith, later))
  go false e later = rw e (omega arith)

word_said : (line : List ℕ) → length line ≤ 2 → most_by (word_line line) ≡ 0
word_said [] few = refl
word_said (c ∷ cs) few = go (c == 35) refl where
  go : (t : Bool) → (c == 35) ≡ t → most_by (word_line (c ∷ cs)) ≡ 0
  go true e = rw e refl
  go false e =
      ap (λ b. most_by (cond b says.Empty (verb_line (verb_of (first_word (c ∷ cs))) (after_word (c ∷ cs))))) e
      ∙ verb_said (first_word (c ∷ cs)) (after_word (c ∷ cs)) (bytes_eq (first_word (c ∷ cs)) (codes "op")) (let fits = first_fits (c ∷ cs) in omega (arith, fits, few)) refl

short_said : (line : List ℕ) → length line ≤ 2 → most_by (line_of line) ≡ 0
unfolding line_of
short_said line few = go (nat_lt 1024 (length line)) (not (list_all is_text_byte line)) refl refl where
  go : (long bad : Bool) → nat_lt 1024 (length line) ≡ long → not (list_all is_text_byte line) ≡ bad → most_by (line_of line) ≡ 0
  go true bad e f = rw e refl
  go false true e f = rw (e, f) refl
  go false false e f = rw (e, f) (word_said (skipped line) (let fits = skipped_fits line in omega (arith, fits, few)))

at_most : (line : Line) → most_by line ≤ most_of_frame
at_most (says.Command command.Render) = omega arith
at_most (says.Command other) = omega arith
at_most other = omega arith

-- a byte of three pays for a third of what a line paints
pub most_said : (line : List ℕ) → 3 * most_by (line_of line) ≤ length line * most_of_frame
most_said line = go (nat_lt 2 (length line)) refl where
  go : (t : Bool) → nat_lt 2 (length line) ≡ t → 3 * most_by (line_of line) ≤ length line * most_of_frame
  go true e = let long : 3 ≤ length line = grind (arith, nat_tests, e) in let most = at_most (line_of line) in omega (arith, long, most)
  go false e = let few : length line ≤ 2 = grind (arith, nat_tests, e) in let none = short_said line few in omega (arith, none)

-- a line paints what its value does
pub most_by_value : (line : Line) → most_by (by_value line) ≡ most_by line
most_by_value (says.Command (command.Edit (edit.Say name bytes))) = refl
most_by_value (says.Command (command.Edit other)) = refl
most_by_value (says.Command other) = refl
most_by_value other = refl

split_fits : (bs : List ℕ) → length (first_line bs) + length (after_line bs) ≤ length bs
split_fits [] = omega arith
split_fits (b ∷ bs) = go (b == 10) refl (split_fits bs) where
  go : (t : Bool) → (b == 10) ≡ t → length (first_line bs) + length (after_line bs) ≤ length bs → length (first_line (b ∷ bs)) + length (after_line (b ∷ bs)) ≤ length (b ∷ bs)
  go true e later = rw e (omega arith)
  go false e later = rw e (omega (arith, later))

-- the bytes of a script pay for what its lines paint, three for a frame
pub pays : (script rest behind : List ℕ) (line : Line) (old new : ℕ) → by_value line ≡ line_of (first_line rest) → behind ≡ after_line rest → new ≤ old + most_by line
    → 3 * old + length rest * most_of_frame ≤ length script * most_of_frame → 3 * new + length behind * most_of_frame ≤ length script * most_of_frame
pays script rest behind line old new is behind_is more before =
    let most = most_said (first_line rest) in
    let same : most_by (line_of (first_line rest)) ≡ most_by line = sym (ap most_by is) ∙ most_by_value line in
    let fits = split_fits rest in
    let left : length behind ≡ length (after_line rest) = ap length behind_is in
    omega (arith, more, before, most, same, fits, left)
