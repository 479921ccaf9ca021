-- The sizes of a banded list's rectangles sum up to the number of pixels.
use Rattle.std.proofs.Common.{◌≡◌, ℕ, zero, suc, ◌+◌, ◌*◌, ◌-◌, ◌≤◌, ◌<◌, Bool, true, false, not, List, [], ◌∷◌, sum_by, refl, sym, ap, ap₂, ◌∙◌, subst, arith, ⊎_elim, inl, inr}
use Rattle.std.specs.Prelude.{ℤ, pos, if◌then◌else◌}
use Rattle.std.proofs.lemmas.Bool.{le-leb, lt-leb, cases_lt}
use Rattle.std.proofs.lemmas.List.Sums.{sum_by-append}
use Rattle.ev_geom.specs.Area.{Area, size_of}
use Rattle.ev_geom.specs.Bands.{has_pixel, is_inside, IsRow, Band, row_at, IsBands, run_rects, rects_of, IsBanded}
use Rattle.ev_geom.proofs.Rows.{is_inside-before}
use Rattle.ev_geom.proofs.Banding.{row_at-before}
use Rattle.ev_geom.proofs.Listing.{has_pixel-rects_of, banded_within}
use Rattle.ev_region.specs.Count.{sum_below, pixels_within, LiesWithin}

-- 1 for a pixel inside
abbrev one : Bool → ℕ
one inside = if inside then 1 else 0

sum_same : (n : ℕ) (f g : ℕ → ℕ) → ((k : ℕ) → k < n → f k ≡ g k) → sum_below n f ≡ sum_below n g
unfolding sum_below
sum_same zero f g same = refl
sum_same (suc n) f g same = ap₂ (λ (a b : ℕ). a + b) (sum_same n f g (λ k low. same k (omega arith))) (same n (omega arith))

sum_const : (n c : ℕ) (f : ℕ → ℕ) → ((k : ℕ) → k < n → f k ≡ c) → sum_below n f ≡ n * c
unfolding sum_below
sum_const zero c f same = omega arith
sum_const (suc n) c f same =
    let before : sum_below n f ≡ n * c = sum_const n c f (λ k low. same k (omega arith)) in
    let last : f n ≡ c = same n (omega arith) in
    omega arith

-- f is g below m and h from m on
sum_turn : (n m : ℕ) (f g h : ℕ → ℕ) → m ≤ n → ((k : ℕ) → k < m → f k ≡ g k) → ((k : ℕ) → m ≤ k → f k ≡ h k) → sum_below n f + sum_below m h ≡ sum_below m g + sum_below n h
unfolding sum_below
sum_turn zero zero f g h low before after = refl
sum_turn zero (suc m) f g h low before after = absurd (omega arith)
sum_turn (suc n) m f g h low before after = ⊎_elim
    (λ less. let rest = sum_turn n m f g h (omega arith) before after in let last : f n ≡ h n = after n (omega arith) in omega (arith, rest, last))
    (λ all. let here : m ≡ suc n = omega arith in
    let same : sum_below m f ≡ sum_below m g = sum_same m f g before in
    subst (λ (k : ℕ). sum_below k f + sum_below m h ≡ sum_below m g + sum_below k h) here (omega (arith, same)))
    (cases_lt m (suc n))

-- numbers from m on add nothing
sum_cut : (n m : ℕ) (f : ℕ → ℕ) → m ≤ n → ((k : ℕ) → m ≤ k → f k ≡ 0) → sum_below n f ≡ sum_below m f
sum_cut n m f low none =
    let turn = sum_turn n m f f (λ k. 0) low (λ k before. refl) none in
    let left : sum_below m (λ (k : ℕ). 0) ≡ m * 0 = sum_const m 0 (λ k. 0) (λ k before. refl) in
    let right : sum_below n (λ (k : ℕ). 0) ≡ n * 0 = sum_const n 0 (λ k. 0) (λ k before. refl) in
    omega (arith, turn, left, right)

sum_cut_both : (n m : ℕ) (f : ℕ → ℕ) → ((k : ℕ) → m ≤ k → f k ≡ 0) → ((k : ℕ) → n ≤ k → f k ≡ 0) → sum_below n f ≡ sum_below m f
sum_cut_both n m f from_m from_n = ⊎_elim
    (λ less. sym (sum_cut m n f (omega arith) from_n))
    (λ more. sum_cut n m f more from_m)
    (cases_lt n m)

-- how many of the first n columns of a row lie inside
abbrev width : ℕ → Bool → List ℕ → ℕ
width n inside edges = sum_below n (λ x. one (is_inside inside edges x))

turn_row : (n limit from : ℕ) (inside : Bool) (edge : ℕ) (edges : List ℕ) → IsRow limit from inside (edge ∷ edges) → limit ≤ n → width n inside (edge ∷ edges) + edge * one (not inside) ≡ edge * one inside + width n (not inside) edges
turn_row n limit from inside edge edges row fits =
    let turn = sum_turn n edge (λ x. one (is_inside inside (edge ∷ edges) x)) (λ x. one inside) (λ x. one (is_inside (not inside) edges x)) (omega (arith, row.1))
    (λ k low. rw (lt-leb edge k low) refl)
    (λ k high. rw (le-leb edge k high) refl) in
    let before = sum_const edge (one (not inside)) (λ x. one (is_inside (not inside) edges x))
    (λ k low. ap one (is_inside-before limit (edge + 1) (not inside) edges k row.2 (omega arith))) in
    let left = sum_const edge (one inside) (λ x. one inside) (λ k low. refl) in
    omega (arith, turn, before, left)

no_width : (n : ℕ) → width n false [] ≡ 0
no_width n = let none = sum_const n 0 (λ x. 0) (λ k low. refl) in omega (arith, none)

two_turns : (n limit from left right : ℕ) (edges : List ℕ) → IsRow limit from false (left ∷ (right ∷ edges)) → limit ≤ n → width n false (left ∷ (right ∷ edges)) ≡ (right - left) + width n false edges
two_turns n limit from left right edges row fits =
    let first = turn_row n limit from false left (right ∷ edges) row fits in
    let second = turn_row n limit (left + 1) true right edges row.2 fits in
    omega (arith, first, second, row.2.0)

-- the sizes of a row's runs
run_sizes : (n limit from top bottom : ℕ) (edges : List ℕ) → IsRow limit from false edges → limit ≤ n → sum_by size_of (run_rects top bottom edges) ≡ width n false edges * (bottom - top)
run_sizes n limit from top bottom [] row fits = rw (no_width n) (omega arith)
run_sizes n limit from top bottom (left ∷ []) row fits = absurd (let inside : true ≡ false = row.2 in cc)
run_sizes n limit from top bottom (left ∷ (right ∷ edges)) row fits =
    let rest = run_sizes n limit (right + 1) top bottom edges row.2.2 fits in
    let first : Area = record { x = pos left; y = pos top; w = pos (right - left); h = pos (bottom - top) } in
    let split : ((right - left) + width n false edges) * (bottom - top) ≡ (right - left) * (bottom - top) + width n false edges * (bottom - top) = omega arith in
    rw (two_turns n limit from left right edges row fits)
    (omega (arith, sum_by-append size_of (first ∷ []) (run_rects top bottom edges), rest, split))

-- how many pixels of the first n rows and columns lie in bands
abbrev height : ℕ → List ℕ → List Band → ℕ
height n above bands = sum_below n (λ y. width n false (row_at above bands y))

turn_band : (n limit from : ℕ) (above : List ℕ) (band : Band) (bands : List Band) → IsBands limit from above (band ∷ bands) → limit ≤ n → height n above (band ∷ bands) + band.top * width n false band.edges ≡ band.top * width n false above + height n band.edges bands
turn_band n limit from above band bands good fits =
    let turn = sum_turn n band.top (λ y. width n false (row_at above (band ∷ bands) y)) (λ y. width n false above) (λ y. width n false (row_at band.edges bands y)) (omega (arith, good.1))
    (λ k low. rw (lt-leb band.top k low) refl)
    (λ k high. rw (le-leb band.top k high) refl) in
    let before = sum_const band.top (width n false band.edges) (λ y. width n false (row_at band.edges bands y))
    (λ k low. ap (width n false) (row_at-before limit (band.top + 1) band.edges bands k good.4 (omega arith))) in
    let left = sum_const band.top (width n false above) (λ y. width n false above) (λ k low. refl) in
    omega (arith, turn, before, left)

no_height : (n : ℕ) → height n [] [] ≡ 0
no_height n =
    let none = sum_const n 0 (λ y. width n false []) (λ k low. no_width n) in omega (arith, none)

split_product : (a b c : ℕ) → a ≤ b → b * c ≡ a * c + c * (b - a)
split_product a b c low =
    let e : a + (b - a) ≡ b = omega arith in
    let split : (a + (b - a)) * c ≡ a * c + (b - a) * c = omega arith in
    let turned : (b - a) * c ≡ c * (b - a) = omega arith in
    rw e at split ∙ ap (λ (k : ℕ). a * c + k) turned

-- the sizes of the rectangles below a band's top
below_top : (n limit from : ℕ) (above : List ℕ) (band : Band) (bands : List Band) → IsBands limit from above (band ∷ bands) → limit ≤ n → height n band.edges bands ≡ band.top * width n false band.edges + sum_by size_of (rects_of (band ∷ bands))
below_top n limit from above band [] good fits =
    rw (good.4, no_height n, no_width n) (omega arith)
below_top n limit from above band (next ∷ bands) good fits =
    let turn = turn_band n limit (band.top + 1) band.edges next bands good.4 fits in
    let rest = below_top n limit (band.top + 1) band.edges next bands good.4 fits in
    let runs = run_sizes n limit 0 band.top next.top band.edges good.3 fits in
    let all = sum_by-append size_of (run_rects band.top next.top band.edges) (rects_of (next ∷ bands)) in
    let product = split_product band.top next.top (width n false band.edges) (omega (arith, good.4.0)) in
    omega (arith, turn, rest, runs, all, product)

band_sizes : (n limit : ℕ) (bands : List Band) → IsBands limit 0 [] bands → limit ≤ n → sum_by size_of (rects_of bands) ≡ height n [] bands
band_sizes n limit [] good fits = sym (no_height n)
band_sizes n limit (band ∷ bands) good fits =
    let turn = rw (no_width n) at (turn_band n limit 0 [] band bands good fits) in
    let rest = below_top n limit 0 [] band bands good fits in
    omega (arith, turn, rest)

count_bands : (n limit : ℕ) (bands : List Band) → IsBands limit 0 [] bands → limit ≤ n → sum_by size_of (rects_of bands) ≡ pixels_within n n (has_pixel (rects_of bands))
unfolding pixels_within
count_bands n limit bands good fits =
    band_sizes n limit bands good fits
    ∙ sum_same n _ _ (λ y low. sum_same n _ _ (λ x left. ap one (sym (has_pixel-rects_of limit 0 [] bands x y good))))

pub sizes_all : (rects : List Area) → IsBanded rects → sum_by size_of rects ≡ pixels_within 1000000 1000000 (has_pixel rects)
sizes_all rects banded =
    rw banded.listed (count_bands 1000000 1000000 banded.bands banded.canonical (omega arith))

-- a larger or smaller canvas that holds the set too
same_count : (n w h : ℕ) (set : ℤ → ℤ → Bool) → LiesWithin n n set → LiesWithin w h set → pixels_within n n set ≡ pixels_within w h set
unfolding pixels_within
same_count n w h set square canvas =
    sum_same n _ _ (λ y low. sum_cut_both n w (λ x. one (set (pos x) (pos y)))
    (λ x far. ap one (canvas.right x y far)) (λ x far. ap one (square.right x y far)))
    ∙ sum_cut_both n h (λ y. sum_below w (λ x. one (set (pos x) (pos y))))
    (λ y far. none_in w (λ x. set (pos x) (pos y)) (λ x. canvas.below x y far))
    (λ y far. none_in w (λ x. set (pos x) (pos y)) (λ x. square.below x y far))
  where
    none_in : (w : ℕ) (row : ℕ → Bool) → ((x : ℕ) → row x ≡ false) → sum_below w (λ x. one (row x)) ≡ 0
    none_in w row none = let all = sum_const w 0 (λ x. one (row x)) (λ x low. ap one (none x)) in omega (arith, all)

pub sizes_within : (rects : List Area) (w h : ℕ) → IsBanded rects → LiesWithin w h (has_pixel rects) → sum_by size_of rects ≡ pixels_within w h (has_pixel rects)
sizes_within rects w h banded canvas =
    sizes_all rects banded
    ∙ same_count 1000000 w h (has_pixel rects)
    (record { right = λ x y far. banded_within rects x y banded (inl far); below = λ x y far. banded_within rects x y banded (inr far) })
    canvas
