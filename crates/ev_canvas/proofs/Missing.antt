-- What the buffer that is lent next has missed, from start to start.
use Rattle.std.proofs.Common.{◌≡◌, ℕ, zero, suc, ◌+◌, ◌-◌, ◌≤◌, ℤ, Bool, true, false, List, [], ◌∷◌, ◌++◌, length, take, drop, option_to_list, Option, Some, None, is_some, refl, sym, ap, subst, ◌∙◌, arith, append-nil, length-append}
use Rattle.std.proofs.Math.Bool.{true≢false}
use Rattle.ev_geom.specs.Area.{Area}
use Rattle.ev_buffers.specs.Marks.{is_unused, IsNextOf}
use Rattle.ev_buffers.specs.declared.mark.Mark.{Mark}
use Rattle.ev_buffers.specs.BufferChain.{AreUnused, last_updates}
use Rattle.ev_canvas.specs.Drawings.{updates_in, AreUsed, AreUsedLast}

used_next : (updates : List Area) (others marks : List Mark) → IsNextOf updates others marks → AreUsed others → AreUsed marks
used_next updates others [] e u = absurd e
used_next updates [] (lent ∷ marks) e u = (ap (λ m. is_unused m.updates) e.0, subst AreUsed (sym e.1) tt)
used_next updates (other ∷ others) (mark ∷ marks) e u = (ap is_unused e.0.updates_kept ∙ u.0, used_next updates others marks e.1 u.1)

pub last_next : (updates : List Area) (others marks : List Mark) → IsNextOf updates others marks → AreUsedLast others → AreUsedLast marks
last_next updates others [] e u = absurd e
last_next updates [] (lent ∷ marks) e u = (λ used. subst AreUsed (sym e.1) tt, subst AreUsedLast (sym e.1) tt)
last_next updates (other ∷ others) (mark ∷ marks) e u =
    (λ used. used_next updates others marks e.1 (u.0 (sym (ap is_unused e.0.updates_kept) ∙ used)), last_next updates others marks e.1 u.1)

-- the updates of the plan stand in the last mark
pub used_last_next : (updates : List Area) (others marks : List Mark) → IsNextOf updates others marks → is_some (last_updates marks) ≡ true
used_last_next updates others [] e = absurd e
used_last_next updates [] (lent ∷ marks) e = ap (λ ms. is_some (last_updates (lent ∷ ms))) e.1 ∙ ap (λ (m : Mark). is_some m.updates) e.0
used_last_next updates (other ∷ others) (mark ∷ []) e = absurd e.1
used_last_next updates (other ∷ others) (mark ∷ (next ∷ marks)) e = used_last_next updates others (next ∷ marks) e.1

-- as many marks as there were
pub length_next : (updates : List Area) (others marks : List Mark) → IsNextOf updates others marks → length marks ≡ suc (length others)
length_next updates others [] e = absurd e
length_next updates [] (lent ∷ marks) e = ap (λ (ms : List Mark). suc (length ms)) e.1
length_next updates (other ∷ others) (mark ∷ marks) e = ap suc (length_next updates others marks e.1)

pub length_dropped : (marks : List Mark) → 1 ≤ length marks → suc (length (drop 1 marks)) ≡ length marks
length_dropped [] some = absurd (omega arith)
length_dropped (mark ∷ marks) some = refl

pub last_dropped : (marks : List Mark) → AreUsedLast marks → AreUsedLast (drop 1 marks)
last_dropped [] u = u
last_dropped (mark ∷ marks) u = u.1

-- ---- new buffers

pub last_new : (whole : ℤ → ℤ → Bool) (marks : List Mark) → AreUnused whole marks → AreUsedLast marks
last_new whole [] unused = tt
last_new whole (mark ∷ marks) unused = (λ used. absurd (true≢false (sym (ap is_unused unused.1) ∙ used)), last_new whole marks unused.2)

none_in : (whole : ℤ → ℤ → Bool) (marks : List Mark) → AreUnused whole marks → updates_in marks ≡ []
none_in whole [] unused = refl
none_in whole (mark ∷ marks) unused = ap (λ us. us ++ option_to_list mark.updates) (none_in whole marks unused.2) ∙ ap option_to_list unused.1

pub none_missed : (whole : ℤ → ℤ → Bool) (marks : List Mark) → AreUnused whole marks → updates_in (drop 1 marks) ≡ []
none_missed whole [] unused = refl
none_missed whole (mark ∷ marks) unused = none_in whole marks unused.2

-- ---- what is missed

-- the updates of the plan come first
newest_first : (updates : List Area) (others marks : List Mark) → IsNextOf updates others marks → updates_in marks ≡ updates ∷ updates_in others
newest_first updates others [] e = absurd e
newest_first updates [] (lent ∷ marks) e = ap (λ ms. updates_in ms ++ option_to_list lent.updates) e.1 ∙ ap (λ m. option_to_list m.updates) e.0
newest_first updates (other ∷ others) (mark ∷ marks) e =
    ap (λ us. us ++ option_to_list mark.updates) (newest_first updates others marks e.1)
    ∙ ap (λ o. updates ∷ (updates_in others ++ option_to_list o)) e.0.updates_kept

take_front : (k : ℕ) (xs ys : List (List Area)) → length xs ≡ k → take k (xs ++ ys) ≡ xs
take_front zero [] ys e = refl
take_front zero (x ∷ xs) ys e = absurd (omega (arith, e))
take_front (suc k) [] ys e = absurd (omega (arith, e))
take_front (suc k) (x ∷ xs) ys e = ap (λ zs. x ∷ zs) (take_front k xs ys (omega (arith, e)))

take_all : (k : ℕ) (xs : List (List Area)) → length xs ≤ k → take k xs ≡ xs
take_all zero [] h = refl
take_all zero (x ∷ xs) h = absurd (omega (arith, h))
take_all (suc k) [] h = refl
take_all (suc k) (x ∷ xs) h = ap (λ zs. x ∷ zs) (take_all k xs (omega (arith, h)))

one_at_most : (o : Option (List Area)) → length (option_to_list o) ≤ 1
one_at_most None = omega arith
one_at_most (Some region) = omega arith

few : (marks : List Mark) → length (updates_in marks) ≤ length marks
few [] = omega arith
few (mark ∷ marks) = omega (arith, few marks, length-append (updates_in marks) (option_to_list mark.updates), one_at_most mark.updates)

one_each : (o : Option (List Area)) → is_unused o ≡ false → length (option_to_list o) ≡ 1
one_each None u = absurd (cc)
one_each (Some region) u = refl

many : (marks : List Mark) → AreUsed marks → length (updates_in marks) ≡ length marks
many [] u = refl
many (mark ∷ marks) u = omega (arith, many marks u.1, length-append (updates_in marks) (option_to_list mark.updates), one_each mark.updates u.0)

-- of the updates of a buffer and those behind it, as many as those behind it: the buffer's own fall away
fallen : (other : Mark) (others : List Mark) (o : Option (List Area)) → other.updates ≡ o → (is_unused o ≡ false → AreUsed others) → take (length others) (updates_in others ++ option_to_list other.updates) ≡ updates_in others
fallen other others None e u =
    ap (λ p. take (length others) (updates_in others ++ option_to_list p)) e
    ∙ ap (take (length others)) (append-nil (updates_in others))
    ∙ take_all (length others) (updates_in others) (few others)
fallen other others (Some region) e u = take_front (length others) (updates_in others) (option_to_list other.updates) (many others (u refl))

-- once the next buffer was lent the one after it has missed these updates and what it had missed before, as many as there are other buffers
pub missed_next : (updates : List Area) (marks new : List Mark) → IsNextOf updates (drop 1 marks) new → AreUsedLast (drop 1 marks) → 1 ≤ length marks
    → updates_in (drop 1 new) ≡ take (length marks - 1) (updates ∷ updates_in (drop 1 marks))
missed_next updates [] new e u some = absurd (omega arith)
missed_next updates (first ∷ others) [] e u some = absurd e
missed_next updates (first ∷ []) (mark ∷ new) e u some = ap updates_in e.1
missed_next updates (first ∷ (other ∷ others)) (mark ∷ new) e u some =
    let n : suc (length others) ≡ length (first ∷ (other ∷ others)) - 1 = omega arith in
    newest_first updates others new e.1
    ∙ ap (λ us. updates ∷ us) (sym (fallen other others other.updates refl u.0))
    ∙ ap (λ k. take k (updates ∷ updates_in (other ∷ others))) n
