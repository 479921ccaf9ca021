-- A frame costs no more than the pixels of its work region do.
use Rattle.std.proofs.Common.{ℕ, zero, suc, ◌≡◌, ◌+◌, ◌-◌, ◌*◌, ◌/◌, ◌%◌, ◌<◌, ◌≤◌, Bool, true, false, cond, List, [], ◌∷◌, filter, sum_by, ℤ, refl, sym, ap, ap₂, ◌∙◌, arith}
use Rattle.std.specs.Prelude.{if◌then◌else◌}
use Rattle.std.specs.List.{range_with_len}
use Rattle.std.proofs.lemmas.List.Sums.{sum_by-cons}
use Rattle.std.proofs.lemmas.Nat.{mod-mul-add, div-mul-add}
use Rattle.ev_geom.specs.Tiles.{holds_tile, tiles_along}
use Rattle.ev_region.specs.Count.{sum_below, LiesWithin}
use Rattle.ev_model.specs.Capture.{Capture}
use Rattle.ev_cmds.specs.Sheets.{cost_at, layers}
use Rattle.ev_frames.specs.Running.{frame_cost, tile_cost}
use Rattle.ev_frames.specs.Costs.{pixels_cost}

sum_same : (n : ℕ) (f g : ℕ → ℕ) → ((k : ℕ) → k < n → f k ≡ g k) → sum_below n f ≡ sum_below n g
unfolding sum_below
sum_same zero f g same = refl
sum_same (suc n) f g same = ap₂ (λ (a b : ℕ). a + b) (sum_same n f g (λ k low. same k (omega arith))) (same n (omega arith))

sum_none : (n : ℕ) (f : ℕ → ℕ) → ((k : ℕ) → k < n → f k ≡ 0) → sum_below n f ≡ 0
unfolding sum_below
sum_none zero f none = refl
sum_none (suc n) f none = let rest = sum_none n f (λ k low. none k (omega arith)) in let last = none n (omega arith) in omega (arith, rest, last)

sum_add : (n : ℕ) (f g : ℕ → ℕ) → sum_below n (λ k. f k + g k) ≡ sum_below n f + sum_below n g
unfolding sum_below
sum_add zero f g = refl
sum_add (suc n) f g = let rest = sum_add n f g in omega arith

-- the sum over the first m numbers, and over the n behind them
sum_plus : (m n : ℕ) (f : ℕ → ℕ) → sum_below (m + n) f ≡ sum_below m f + sum_below n (λ k. f (m + k))
unfolding sum_below
sum_plus m zero f = let e : sum_below (m + 0) f ≡ sum_below m f = ap (λ (k : ℕ). sum_below k f) (let z : m + 0 ≡ m = omega arith in z) in omega (arith, e)
sum_plus m (suc n) f =
    let e : sum_below (m + suc n) f ≡ sum_below (m + n) f + f (m + n) = ap (λ (k : ℕ). sum_below k f) (let z : m + suc n ≡ suc (m + n) = omega arith in z) in
    let rest = sum_plus m n f in
    omega (arith, e, rest)

-- n times m numbers, m at a time
sum_product : (n m : ℕ) (f : ℕ → ℕ) → sum_below (n * m) f ≡ sum_below n (λ i. sum_below m (λ j. f (i * m + j)))
unfolding sum_below
sum_product zero m f = ap (λ (k : ℕ). sum_below k f) (let z : 0 * m ≡ 0 = omega arith in z)
sum_product (suc n) m f =
    let e : sum_below (suc n * m) f ≡ sum_below (n * m + m) f = ap (λ (k : ℕ). sum_below k f) (let z : suc n * m ≡ n * m + m = omega arith in z) in
    let split = sum_plus (n * m) m f in
    let rest = sum_product n m f in
    omega (arith, e, split, rest)

sum_swap : (n m : ℕ) (g : ℕ → ℕ → ℕ) → sum_below n (λ i. sum_below m (λ j. g i j)) ≡ sum_below m (λ j. sum_below n (λ i. g i j))
unfolding sum_below
sum_swap zero m g = sym (sum_none m (λ j. 0) (λ k low. refl))
sum_swap (suc n) m g =
    let rest = sum_swap n m g in
    let both = sum_add m (λ j. sum_below n (λ i. g i j)) (λ j. g n j) in
    omega (arith, rest, both)

-- numbers from m on add nothing
sum_cut : (n m : ℕ) (f : ℕ → ℕ) → m ≤ n → ((k : ℕ) → m ≤ k → f k ≡ 0) → sum_below n f ≡ sum_below m f
sum_cut n m f low none =
    let e : sum_below n f ≡ sum_below (m + (n - m)) f = ap (λ (k : ℕ). sum_below k f) (let z : n ≡ m + (n - m) = omega (arith, low) in z) in
    let split = sum_plus m (n - m) f in
    let past : sum_below (n - m) (λ k. f (m + k)) ≡ 0 = sum_none (n - m) (λ k. f (m + k)) (λ k low. none (m + k) (omega arith)) in
    omega (arith, e, split, past)

-- the numbers from a on
ranged : (f : ℕ → ℕ) (a n : ℕ) → sum_by f (range_with_len a n) ≡ sum_below n (λ k. f (a + k))
unfolding sum_below
ranged f a zero = refl
ranged f a (suc n) =
    let rest : sum_by f (range_with_len (a + 1) n) ≡ sum_below n (λ k. f (a + 1 + k)) = ranged f (a + 1) n in
    let same : sum_below n (λ k. f (a + 1 + k)) ≡ sum_below n (λ k. f (a + (1 + k))) = sum_same n (λ k. f (a + 1 + k)) (λ k. f (a + (1 + k))) (λ k low. ap f (omega arith)) in
    let here : sum_by f (range_with_len a (suc n)) ≡ f a + sum_by f (range_with_len (a + 1) n) = sum_by-cons f a (range_with_len (a + 1) n) in
    let all = sum_plus 1 n (λ k. f (a + k)) in
    let ends : sum_below (1 + n) (λ k. f (a + k)) ≡ sum_below n (λ k. f (a + k)) + f (a + n) = ap (λ (k : ℕ). sum_below k (λ k. f (a + k))) (let z : 1 + n ≡ suc n = omega arith in z) in
    let begins : sum_below 1 (λ k. f (a + k)) ≡ 0 + f (a + 0) = refl in
    let first : f (a + 0) ≡ f a = ap f (let z : a + 0 ≡ a = omega arith in z) in
    omega (arith, here, rest, same, all, ends, begins, first)

filtered : (p : ℕ → Bool) (f : ℕ → ℕ) (xs : List ℕ) → sum_by f (filter p xs) ≤ sum_by f xs
filtered p f [] = omega arith
filtered p f (x ∷ xs) = one (p x) (filtered p f xs)
  where
    one : (b : Bool) → sum_by f (filter p xs) ≤ sum_by f xs → sum_by f (cond b (x ∷ filter p xs) (filter p xs)) ≤ sum_by f (x ∷ xs)
    one true h = let more : sum_by f (x ∷ filter p xs) ≤ sum_by f (x ∷ xs) = (let e = sum_by-cons f x (filter p xs) in let g = sum_by-cons f x xs in omega (arith, e, g, h)) in more
    one false h = let more : sum_by f (filter p xs) ≤ sum_by f (x ∷ xs) = (let g = sum_by-cons f x xs in omega (arith, g, h)) in more

-- the tiles of a canvas that is a tiles wide and b tiles high have its pixels
tiled : (a b : ℕ) (f : ℕ → ℕ → ℕ) → sum_below (b * a) (λ t. sum_below 64 (λ y. sum_below 64 (λ x. f (t % a * 64 + x) (t / a * 64 + y)))) ≡ sum_below (b * 64) (λ y. sum_below (a * 64) (λ x. f x y))
tiled a b f =
    sum_product b a (λ t. sum_below 64 (λ y. sum_below 64 (λ x. f (t % a * 64 + x) (t / a * 64 + y))))
    ∙ sum_same b (λ r. sum_below a (λ c. sum_below 64 (λ y. sum_below 64 (λ x. f ((r * a + c) % a * 64 + x) ((r * a + c) / a * 64 + y))))) (λ r. sum_below 64 (λ y. sum_below (a * 64) (λ x. f x (r * 64 + y)))) (λ r low.
    sum_same a (λ c. sum_below 64 (λ y. sum_below 64 (λ x. f ((r * a + c) % a * 64 + x) ((r * a + c) / a * 64 + y)))) (λ c. sum_below 64 (λ y. sum_below 64 (λ x. f (c * 64 + x) (r * 64 + y)))) (λ c less.
    ap (λ (k : ℕ). sum_below 64 (λ y. sum_below 64 (λ x. f (k * 64 + x) ((r * a + c) / a * 64 + y)))) (mod-mul-add r a c less)
    ∙ ap (λ (k : ℕ). sum_below 64 (λ y. sum_below 64 (λ x. f (c * 64 + x) (k * 64 + y)))) (div-mul-add r a c less))
    ∙ sum_swap a 64 (λ c y. sum_below 64 (λ x. f (c * 64 + x) (r * 64 + y)))
    ∙ sum_same 64 (λ y. sum_below a (λ c. sum_below 64 (λ x. f (c * 64 + x) (r * 64 + y)))) (λ y. sum_below (a * 64) (λ x. f x (r * 64 + y))) (λ y less. sym (sum_product a 64 (λ x. f x (r * 64 + y)))))
    ∙ sym (sum_product b 64 (λ y. sum_below (a * 64) (λ x. f x y)))

-- nothing is counted right of the canvas or below it
cut : (a b w h : ℕ) (f : ℕ → ℕ → ℕ) → w ≤ a * 64 → h ≤ b * 64 → ((x y : ℕ) → w ≤ x → f x y ≡ 0) → ((x y : ℕ) → h ≤ y → f x y ≡ 0)
    → sum_below (b * 64) (λ y. sum_below (a * 64) (λ x. f x y)) ≡ sum_below h (λ y. sum_below w (λ x. f x y))
cut a b w h f wide high right below =
    sum_cut (b * 64) h (λ y. sum_below (a * 64) (λ x. f x y)) high (λ y past. sum_none (a * 64) (λ x. f x y) (λ x low. below x y past))
    ∙ sum_same h (λ y. sum_below (a * 64) (λ x. f x y)) (λ y. sum_below w (λ x. f x y)) (λ y low. sum_cut (a * 64) w (λ x. f x y) wide (λ x past. right x y past))

pub frame_within : (work : ℤ → ℤ → Bool) (capture : Capture) → LiesWithin capture.w capture.h work → frame_cost work capture ≤ pixels_cost work capture
frame_within work capture within =
    let a = tiles_along capture.w in
    let b = tiles_along capture.h in
    let most = filtered (holds_tile work a) (tile_cost work capture) (range_with_len 0 (b * a)) in
    let all = ranged (tile_cost work capture) 0 (b * a) in
    let tiles : sum_below (b * a) (λ t. tile_cost work capture (0 + t)) ≡ sum_below (b * 64) (λ y. sum_below (a * 64) (λ x. cost_at work capture.looks x y)) =
    sum_same (b * a) (λ t. tile_cost work capture (0 + t)) (λ t. tile_cost work capture t) (λ t low. ap (tile_cost work capture) (let z : 0 + t ≡ t = omega arith in z)) ∙ tiled a b (λ x y. cost_at work capture.looks x y) in
    let wide : capture.w ≤ a * 64 = omega arith in
    let high : capture.h ≤ b * 64 = omega arith in
    let pixels = cut a b capture.w capture.h (λ x y. cost_at work capture.looks x y) wide high
    (λ x y past. ap (λ (i : Bool). if i then 1 + layers capture.looks x y else 0) (within.right x y past))
    (λ x y past. ap (λ (i : Bool). if i then 1 + layers capture.looks x y else 0) (within.below x y past)) in
    omega (arith, most, all, tiles, pixels)
