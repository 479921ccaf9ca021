-- Walks from bottom to top.
use Rattle.std.proofs.Common.{◌≡◌, ◌≢◌, ◌-◌, ◌+◌, ◌<◌, ℕ, ℤ, true, List, [], ◌∷◌, Option, Some, None, zero, suc, inl, inr, refl, sym, ◌∙◌, ap, eq-eqb, arith}
use Rattle.std.proofs.lemmas.Bool.Decides.{eqb_tells}
use Rattle.ev_stack.specs.LayerOrder.{is_in, IsApart, IsDistinct, bottom_in, above_in, at_place, ids_of, ids_above, ids_from}
use Rattle.ev_stack.specs.Links.{next_in, id_or_none, climbed}
use Rattle.ev_stack.proofs.Lists.{neq-eqb, in_apart}

-- the link from the start leads to the lowest object
pub bottom_in-next_in : (start : ℕ) (xs : List (ℕ × ℤ)) → IsApart 0 xs → id_or_none (next_in start xs start) ≡ bottom_in xs
bottom_in-next_in start [] objects = refl
bottom_in-next_in start (one ∷ rest) objects = rw (eq-eqb start start refl, neq-eqb one.0 0 objects.0) refl

-- the link from an object leads to the one above
pub above_in-next_in : (start : ℕ) (xs : List (ℕ × ℤ)) (id : ℕ) → IsApart 0 xs → id ≢ start → id_or_none (next_in start xs id) ≡ above_in xs id
above_in-next_in start [] id objects away = refl
above_in-next_in start (one ∷ rest) id objects away =
    elim (eqb_tells one.0 id) [
      | inl same ↦ rw (neq-eqb id start away, same.0) (ap (λ n. id_or_none (next_in one.0 rest n)) (sym same.1) ∙ bottom_in-next_in one.0 rest objects.1)
      | inr differ ↦ rw (neq-eqb id start away, differ.0) (above_in-next_in one.0 rest id objects.1 (λ e. differ.1 (sym e)))
    ]

-- nothing stands above what is not there
pub above_in-absent : (xs : List (ℕ × ℤ)) (id : ℕ) → IsApart id xs → above_in xs id ≡ None
above_in-absent [] id apart = refl
above_in-absent (one ∷ rest) id apart = rw (neq-eqb one.0 id apart.0) (above_in-absent rest id apart.1)

is_in-later : (one : ℕ × ℤ) (rest : List (ℕ × ℤ)) (id : ℕ) → is_in rest id ≡ true → is_in (one ∷ rest) id ≡ true
is_in-later one rest id later = elim (eqb_tells one.0 id) [ inl same ↦ rw same.0 refl | inr differ ↦ rw differ.0 later ]

-- what is left of a loop's steps
pub none_done : (n : ℕ) → n - 0 ≡ n
none_done n = omega arith

pub left_more : (at end : ℕ) → at < end → end - at ≡ suc (end - (at + 1))
left_more at end below = omega arith

-- so many steps up from the bottom lead to the object at that place
pub at_place-climbed : (above : ℕ → Option ℕ) (xs : List (ℕ × ℤ)) (place : ℕ) → ((id : ℕ) → is_in xs id ≡ true → above id ≡ above_in xs id) → IsDistinct xs → climbed above place (bottom_in xs) ≡ at_place xs place
at_place-climbed above [] zero up distinct = refl
at_place-climbed above [] (suc place) up distinct = refl
at_place-climbed above (one ∷ rest) zero up distinct = refl
at_place-climbed above (one ∷ rest) (suc place) up distinct =
    let first : above one.0 ≡ bottom_in rest = up one.0 (rw (eq-eqb one.0 one.0 refl) refl) ∙ rw (eq-eqb one.0 one.0 refl) refl in
    rw first
    (at_place-climbed above rest place
    (λ id there. up id (is_in-later one rest id there) ∙ rw (neq-eqb one.0 id (λ e. in_apart rest id one.0 there distinct.0 (sym e))) refl)
    distinct.1)

-- from the bottom on are all
pub ids_from-bottom_in : (xs : List (ℕ × ℤ)) → ids_from xs (bottom_in xs) ≡ ids_of xs
ids_from-bottom_in [] = refl
ids_from-bottom_in (one ∷ rest) = rw (eq-eqb one.0 one.0 refl) refl

-- what begins above the lowest object doesn't mention it
ids_from-later : (one : ℕ × ℤ) (rest : List (ℕ × ℤ)) (found : Option ℕ) → ((id : ℕ) → found ≡ Some id → one.0 ≢ id) → ids_from (one ∷ rest) found ≡ ids_from rest found
ids_from-later one rest None away = refl
ids_from-later one rest (Some id) away = rw (neq-eqb one.0 id (away id refl)) refl

bottom_in-apart : (xs : List (ℕ × ℤ)) (other id : ℕ) → IsApart other xs → bottom_in xs ≡ Some id → other ≢ id
bottom_in-apart [] other id apart found = cc
bottom_in-apart (one ∷ rest) other id apart found = λ e. apart.0 (let same : one.0 ≡ id = cc in same ∙ sym e)

above_in-apart : (xs : List (ℕ × ℤ)) (below other id : ℕ) → IsApart other xs → above_in xs below ≡ Some id → other ≢ id
above_in-apart [] below other id apart found = cc
above_in-apart (one ∷ rest) below other id apart found =
    elim (eqb_tells one.0 below) [
      | inl same ↦ bottom_in-apart rest other id apart.1 (rw same.0 at found)
      | inr differ ↦ above_in-apart rest below other id apart.1 (rw differ.0 at found)
    ]

-- from the object above on are those that stand above
pub ids_from-above_in : (xs : List (ℕ × ℤ)) (id : ℕ) → IsDistinct xs → ids_from xs (above_in xs id) ≡ ids_above xs id
ids_from-above_in [] id distinct = refl
ids_from-above_in (one ∷ rest) id distinct =
    elim (eqb_tells one.0 id) [
      | inl same ↦ rw same.0 (ids_from-later one rest (bottom_in rest) (λ q. bottom_in-apart rest one.0 q distinct.0) ∙ ids_from-bottom_in rest)
      | inr differ ↦ rw differ.0 (ids_from-later one rest (above_in rest id) (λ q. above_in-apart rest id one.0 q distinct.0) ∙ ids_from-above_in rest id distinct.1)
    ]
