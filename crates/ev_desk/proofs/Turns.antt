-- A search goes round the places, from one of them on.
use Rattle.std.proofs.Common.{◌≡◌, ◌≢◌, ℕ, ◌+◌, ◌-◌, ◌%◌, ◌<◌, ◌≤◌, List, set, get_or, length, sym, refl, ap, ◌∙◌, subst, inl, inr, ⊎_elim, arith, get_or-set_other, get_or-set_same}
use mathlib.Core.Logic.{dite}
use native.Mathlib.Decide.{ℕ_discrete}
use Rattle.std.proofs.lemmas.Bool.{cases_lt}
use Rattle.ev_desk.specs.DeskTally.{no_try}
use Rattle.ev_desk.specs.DeskSays.{try_at, IsTried, IsMissed, IsFirstHit}
use Rattle.ev_desk.specs.declared.view.Try.{Try}
use Rattle.ev_desk.specs.declared.view.View.{View}

-- how many turns after the start a place is tried
abbrev pub turns_to : ℕ → ℕ → ℕ
turns_to start q = (q + (64 - start)) % 64

-- after so many turns the places that were passed were tried in vain, and the others not
pub record Round {J : Type 0} (v : View J) (start turn : ℕ) (w : View J) : Type 0 where
  pub past : (q : ℕ) → q < 64 → turns_to start q < turn → IsMissed v w q
  pub ahead : (q : ℕ) → q < 64 → turn ≤ turns_to start q → try_at q w ≡ try_at q v

module _ {J : Type 0} (v : View J) (start : ℕ) where
  pub round_starts : Round v start 0 v
  round_starts = record { past = λ q small lt. absurd (omega arith); ahead = λ q small le. refl }

  pub round_ends : (w : View J) (turn : ℕ) → 64 ≤ turn → Round v start turn w → (q : ℕ) → q < 64 → IsMissed v w q
  round_ends w turn all r q small = r.past q small (omega arith)

  module _ (turn place word : ℕ) (w w' : View J) (r : Round v start turn w) (small : start < 64) (lt : turn < 64) (at : place ≡ (start + turn) % 64) (many : length w.counts.loader.tries ≡ 64)
      (tries : w'.counts.loader.tries ≡ set w.counts.loader.tries place record { count = (try_at place w).count + 1; found = word }) where
    made : try_at place w' ≡ record { count = (try_at place w).count + 1; found = word }
    made = ap (λ (l : List Try). get_or l place no_try) tries ∙ get_or-set_same w.counts.loader.tries place _ no_try (omega (arith, many, at))

    others : (q : ℕ) → q ≢ place → try_at q w' ≡ try_at q w
    others q n = ap (λ (l : List Try). get_or l q no_try) tries ∙ get_or-set_other w.counts.loader.tries place q _ no_try n

    untried : try_at place w ≡ try_at place v
    untried = r.ahead place (omega (arith, at)) (omega (arith, at))

    pub tried_here : IsTried v w' place word
    tried_here = (ap (λ (x : Try). x.count) made ∙ ap (λ (x : Try). x.count + 1) untried, ap (λ (x : Try). x.found) made)

    pub first_hit : IsFirstHit v w' place
    first_hit q inside n = ⊎_elim
        (λ h. inl (let m = r.past q inside h in (ap (λ (x : Try). x.count) (others q n) ∙ m.0, (λ e. m.1 (ap (λ (x : Try). x.found) (sym (others q n)) ∙ e)), λ e. m.2 (ap (λ (x : Try). x.found) (sym (others q n)) ∙ e))))
        (λ h. inr (others q n ∙ r.ahead q inside h)) (cases_lt (turns_to start q) turn)

    pub round_more : (next : ℕ) → next ≡ turn + 1 → word ≢ 1 → word ≢ 4 → Round v start next w'
    round_more next is a b = record {
      past = λ q inside h. dite (ℕ_discrete q place)
          (λ e. subst (λ (k : ℕ). IsMissed v w' k) (sym e) (tried_here.0, (λ x. a (sym tried_here.1 ∙ x)), λ x. b (sym tried_here.1 ∙ x)))
          (λ n. let behind : turns_to start q < turn = omega (arith, at) in let m = r.past q inside behind in
          (ap (λ (x : Try). x.count) (others q n) ∙ m.0, (λ e. m.1 (ap (λ (x : Try). x.found) (sym (others q n)) ∙ e)), λ e. m.2 (ap (λ (x : Try). x.found) (sym (others q n)) ∙ e)));
      ahead = λ q inside h. let n : q ≢ place = λ e. omega (arith, at) in others q n ∙ r.ahead q inside (omega arith);
    }
