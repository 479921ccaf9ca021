-- Totals that are counted pixel by pixel.
use Rattle.std.proofs.Common.{◌≡◌, ℕ, ◌+◌, ◌<◌, List, [], ◌∷◌, ◌++◌, length, fold, sum_by, take, get_or, Option, Some, None, refl, ap, ap₂, sym, ◌∙◌, arith}
use Rattle.std.specs.List.{flat_map, range_with_len}
use Rattle.std.proofs.lemmas.List.{take_more, append-nil, map-id}
use Rattle.std.proofs.lemmas.List.FromFn.{map-range_with_len_more}
use Rattle.std.proofs.lemmas.List.Sums.{sum_by-cons}
use Rattle.std.proofs.lemmas.Grind.{fold-append, flat_map-append}
use Rattle.ev_argb.specs.Argb.{Argb}
use Rattle.ev_model.specs.Answer.{Sum}
use Rattle.ev_canvas.specs.Totals.{shown_part, weighted, totals}
use Rattle.ev_script.specs.PixelTotals.{Counts, told, none, with_place}

-- counting pixels on top of totals
abbrev pub counted : Counts → List (Option Argb) → Counts
counted t ps = fold with_place t ps

pub counts : (t : Counts) (ps : List (Option Argb)) → (counted t ps).count ≡ t.count + length ps
counts t [] = omega arith
counts t (None ∷ ps) = counts (with_place t None) ps ∙ omega arith
counts t (Some p ∷ ps) = counts (with_place t (Some p)) ps ∙ omega arith

-- each channel is counted by itself
tells : (of : Counts → ℕ) (part : Argb → ℕ) → ((t : Counts) → of (with_place t None) ≡ of t) → ((t : Counts) (p : Argb) → of (with_place t (Some p)) ≡ of t + part p)
    → (t : Counts) (ps : List (Option Argb)) → of (counted t ps) ≡ of t + sum_by (shown_part part) ps
tells of part hidden shown t [] = omega arith
tells of part hidden shown t (None ∷ ps) = omega (arith, tells of part hidden shown (with_place t None) ps, hidden t, sum_by-cons (shown_part part) None ps)
tells of part hidden shown t (Some p ∷ ps) = omega (arith, tells of part hidden shown (with_place t (Some p)) ps, shown t p, sum_by-cons (shown_part part) (Some p) ps)

tells_weighted : (t : Counts) (ps : List (Option Argb)) → (counted t ps).weighted ≡ t.weighted + weighted (t.count + 1) ps
tells_weighted t [] = omega arith
tells_weighted t (None ∷ ps) = tells_weighted (with_place t None) ps ∙ omega arith
tells_weighted t (Some p ∷ ps) = tells_weighted (with_place t (Some p)) ps ∙ omega arith

-- what is counted from nothing are the totals of the pixels
pub tells_all : (ps : List (Option Argb)) → told (counted none ps) ≡ totals ps
tells_all ps =
    let a : (counted none ps).a ≡ sum_by (shown_part (λ p. p.a)) ps = omega (arith, tells (λ t. t.a) (λ p. p.a) (λ t. refl) (λ t p. refl) none ps) in
    let r : (counted none ps).r ≡ sum_by (shown_part (λ p. p.r)) ps = omega (arith, tells (λ t. t.r) (λ p. p.r) (λ t. refl) (λ t p. refl) none ps) in
    let g : (counted none ps).g ≡ sum_by (shown_part (λ p. p.g)) ps = omega (arith, tells (λ t. t.g) (λ p. p.g) (λ t. refl) (λ t p. refl) none ps) in
    let b : (counted none ps).b ≡ sum_by (shown_part (λ p. p.b)) ps = omega (arith, tells (λ t. t.b) (λ p. p.b) (λ t. refl) (λ t p. refl) none ps) in
    ap₂ (λ a r. Sum a r (counted none ps).g (counted none ps).b (counted none ps).weighted) a r
    ∙ ap₂ (λ g b. Sum (sum_by (shown_part (λ p. p.a)) ps) (sum_by (shown_part (λ p. p.r)) ps) g b (counted none ps).weighted) g b
    ∙ ap (Sum (sum_by (shown_part (λ p. p.a)) ps) (sum_by (shown_part (λ p. p.r)) ps) (sum_by (shown_part (λ p. p.g)) ps) (sum_by (shown_part (λ p. p.b)) ps)) (tells_weighted none ps ∙ omega arith)

-- one pixel more of a row
pub counted_more : (t : Counts) (ps : List (Option Argb)) (i : ℕ) (d : Option Argb) → i < length ps → with_place (counted t (take i ps)) (get_or ps i d) ≡ counted t (take (i + 1) ps)
counted_more t ps i d below = sym (ap (counted t) (take_more ps i d below) ∙ fold-append with_place t (take i ps) (get_or ps i d ∷ []))

-- one row more of a picture
pub counted_row : (row : ℕ → List (Option Argb)) (y : ℕ) → counted (counted none (flat_map row (range_with_len 0 y))) (row y) ≡ counted none (flat_map row (range_with_len 0 (y + 1)))
counted_row row y =
    let numbers = range_with_len 0 y in
    let more : range_with_len 0 (y + 1) ≡ numbers ++ y ∷ [] = sym (map-id (range_with_len 0 (y + 1))) ∙ map-range_with_len_more (λ n. n) 0 y y (omega arith) ∙ ap (λ ns. ns ++ y ∷ []) (map-id numbers) in
    sym (
    ap (λ ys. counted none (flat_map row ys)) more
    ∙ ap (counted none) (flat_map-append row numbers (y ∷ []) ∙ ap (λ ps. flat_map row numbers ++ ps) (append-nil (row y)))
    ∙ fold-append with_place none (flat_map row numbers) (row y))
