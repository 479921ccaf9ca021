-- Patches hold as many places as their sizes say, and a tile costs no more than its places may.
use Rattle.std.proofs.Common.{ℕ, zero, suc, ◌≡◌, ◌+◌, ◌-◌, ◌*◌, ◌<◌, ◌≤◌, min, Bool, true, false, not, ◌&&◌, List, [], ◌∷◌, length, All, refl, ap, ap₂, ◌∙◌, ⊎_elim, arith}
use Rattle.std.specs.Prelude.{if◌then◌else◌, ℤ, pos}
use Rattle.std.specs.List.{AllByRecursion}
use Rattle.std.proofs.lemmas.Bool.{cases_lt}
use Rattle.std.proofs.lemmas.List.Elements.{All-head, All-tail}
use Rattle.ev_geom.specs.Area.{holds}
use Rattle.ev_region.specs.Count.{sum_below}
use Rattle.ev_model.specs.Look.{Look}
use Rattle.ev_cmds.specs.Cuts.{most_painted}
use Rattle.ev_cmds.specs.Opaque.{is_hidden}
use Rattle.ev_cmds.specs.Masks.{has_bit, count_of}
use Rattle.ev_cmds.specs.Patches.{has_place, one, times, total, size_of, IsPatch}
use Rattle.ev_cmds.specs.Sheets.{layers, cost_at, cost, patches_of, Fits, Shows}
use Rattle.ev_cmds.specs.declared.patch.Patch.{Patch}
use Rattle.ev_cmds.specs.declared.sheet.Command.{Command}
use Rattle.ev_cmds.specs.Patches.{lies}
use Rattle.ev_cmds.proofs.Placing.{lies_in, lies_before, lies_after, at_is}

sum_add : (n : ℕ) (f g : ℕ → ℕ) → sum_below n (λ k. f k + g k) ≡ sum_below n f + sum_below n g
unfolding sum_below
sum_add zero f g = refl
sum_add (suc n) f g = let rest = sum_add n f g in omega arith

sum_scale : (n m : ℕ) (f : ℕ → ℕ) → sum_below n (λ k. m * f k) ≡ m * sum_below n f
unfolding sum_below
sum_scale zero m f = omega arith
sum_scale (suc n) m f = let rest = sum_scale n m f in omega arith

sum_same : (n : ℕ) (f g : ℕ → ℕ) → ((k : ℕ) → k < n → f k ≡ g k) → sum_below n f ≡ sum_below n g
unfolding sum_below
sum_same zero f g same = refl
sum_same (suc n) f g same = ap₂ (λ (a b : ℕ). a + b) (sum_same n f g (λ k low. same k (omega arith))) (same n (omega arith))

sum_le : (n : ℕ) (f g : ℕ → ℕ) → ((k : ℕ) → k < n → f k ≤ g k) → sum_below n f ≤ sum_below n g
unfolding sum_below
sum_le zero f g less = omega arith
sum_le (suc n) f g less = let rest = sum_le n f g (λ k low. less k (omega arith)) in let last = less n (omega arith) in omega arith

sum_zero : (n : ℕ) → sum_below n (λ k. 0) ≡ 0
unfolding sum_below
sum_zero zero = refl
sum_zero (suc n) = let rest = sum_zero n in omega arith

-- the places of a stretch among the first n
stretch : (n from to : ℕ) → from ≤ to → sum_below n (λ x. one (lies from to x)) ≡ min n to - min n from
unfolding sum_below
stretch zero from to h = omega arith
stretch (suc n) from to h =
    let rest = stretch n from to h in
    ⊎_elim
    (λ (low : n < from). let last : one (lies from to n) ≡ 0 = ap one (lies_before from to n low) in omega arith)
    (λ (low : from ≤ n). ⊎_elim
    (λ (high : n < to). let last : one (lies from to n) ≡ 1 = ap one (lies_in from to n low high) in omega arith)
    (λ (high : to ≤ n). let last : one (lies from to n) ≡ 0 = ap one (lies_after from to n high) in omega arith)
    (cases_lt n to))
    (cases_lt n from)

side : (from to : ℕ) → from < to → to ≤ 64 → sum_below 64 (λ x. one (lies from to x)) ≡ to - from
side from to h k = let all = stretch 64 from to (omega arith) in omega arith

-- a sum over the places of a tile
abbrev pub over_tile : (ℕ → ℕ → ℕ) → ℕ
over_tile f = sum_below 64 (λ y. sum_below 64 (λ x. f x y))

size_is : (p : Patch) → IsPatch p → over_tile (λ x y. one (has_place p x y)) ≡ size_of p
size_is p h =
    sum_same 64 _ _ (λ y low.
    sum_same 64 _ _ (λ x left. at_is p x y ∙ turned (one (lies p.left p.right x)) (one (lies p.top p.bottom y)))
    ∙ sum_scale 64 (one (lies p.top p.bottom y)) (λ x. one (lies p.left p.right x))
    ∙ turned (one (lies p.top p.bottom y)) (sum_below 64 (λ x. one (lies p.left p.right x))))
    ∙ sum_scale 64 (sum_below 64 (λ x. one (lies p.left p.right x))) (λ y. one (lies p.top p.bottom y))
    ∙ ap₂ (λ (a b : ℕ). a * b) (side p.left p.right h.wide h.right) (side p.top p.bottom h.tall h.bottom)
  where
    turned : (a b : ℕ) → a * b ≡ b * a
    turned a b = omega arith

tile_add : (f g : ℕ → ℕ → ℕ) → over_tile (λ x y. f x y + g x y) ≡ over_tile f + over_tile g
tile_add f g =
    sum_same 64 _ _ (λ y low. sum_add 64 (λ x. f x y) (λ x. g x y))
    ∙ sum_add 64 (λ y. sum_below 64 (λ x. f x y)) (λ y. sum_below 64 (λ x. g x y))

-- as many places as the sizes say
pub total_is : (ps : List Patch) → AllByRecursion IsPatch ps → over_tile (times ps) ≡ total ps
total_is [] h = sum_same 64 (λ y. sum_below 64 (λ x. 0)) (λ y. 0) (λ y low. sum_zero 64) ∙ sum_zero 64
total_is (p ∷ ps) h =
    tile_add (λ x y. one (has_place p x y)) (times ps) ∙ ap₂ (λ (a b : ℕ). a + b) (size_is p h.0) (total_is ps h.1)

place_cost : (w h b : Bool) (c n : ℕ) → b ≡ (w && not h) → c ≡ (if w then n else 0) → one b + c ≤ (if w then 1 + n else 0)
place_cost true true b c n e f = let g : one b ≡ 0 = ap one e in omega arith
place_cost true false b c n e f = let g : one b ≡ 1 = ap one e in omega arith
place_cost false h b c n e f = let g : one b ≡ 0 = ap one e in omega arith

-- the law: what is cleared and painted of a tile is at most its cost
pub within_cost : (work : ℤ → ℤ → Bool) (looks : List Look) (left top : ℕ) (bare : List ℕ) (commands : List Command) → AllByRecursion IsPatch (patches_of commands)
    → Shows work looks left top bare commands → count_of bare + total (patches_of commands) ≤ cost work looks left top
within_cost work looks left top bare commands patches shows =
    let c = total_is (patches_of commands) patches in
    let both = tile_add (λ x y. one (has_bit bare x y)) (times (patches_of commands)) in
    let less : over_tile (λ x y. one (has_bit bare x y) + times (patches_of commands) x y) ≤ cost work looks left top =
    sum_le 64 _ _ (λ y low. sum_le 64 _ _ (λ x right.
    place_cost (work (pos (left + x)) (pos (top + y))) (is_hidden looks (left + x) (top + y)) (has_bit bare x y) (times (patches_of commands) x y) (layers looks (left + x) (top + y))
    (shows.bare_places x y right low) (shows.command_places x y right low))) in
    omega (arith, c, both, less)

-- a sum of one number again and again
sum_of : (n m : ℕ) → sum_below n (λ k. m) ≡ n * m
unfolding sum_below
sum_of zero m = omega arith
sum_of (suc n) m = let rest = sum_of n m in omega arith

one_le : (b : Bool) → one b ≤ 1
one_le true = omega arith
one_le false = omega arith

layers_le : (looks : List Look) (x y : ℕ) → layers looks x y ≤ length looks
unfolding layers
layers_le [] x y = omega arith
layers_le (l ∷ above) x y =
    let here = one_le (holds l.area (pos x) (pos y) && not (is_hidden above x y)) in
    let rest = layers_le above x y in
    omega arith

cost_at_le : (work : ℤ → ℤ → Bool) (looks : List Look) (x y : ℕ) → cost_at work looks x y ≤ 1 + length looks
cost_at_le work looks x y = cases (work (pos x) (pos y))
  where
    cases : (b : Bool) → (if b then 1 + layers looks x y else 0) ≤ 1 + length looks
    cases true = let all = layers_le looks x y in omega arith
    cases false = omega arith

-- a tile costs at most what clearing it and painting each look on all of it does
cost_le : (work : ℤ → ℤ → Bool) (looks : List Look) (left top : ℕ) → cost work looks left top ≤ 64 * (64 * (1 + length looks))
cost_le work looks left top =
    let row = sum_of 64 (1 + length looks) in
    let all = sum_of 64 (sum_below 64 (λ x. 1 + length looks)) in
    let less : cost work looks left top ≤ sum_below 64 (λ y. sum_below 64 (λ x. 1 + length looks)) =
    sum_le 64 _ _ (λ y low. sum_le 64 _ _ (λ x right. cost_at_le work looks (left + x) (top + y))) in
    omega (arith, row, all, less)

-- what fits has patches of a tile
pub patches_good : (left top w h : ℕ) (commands : List Command) → All (Fits left top w h) commands → AllByRecursion IsPatch (patches_of commands)
patches_good left top w h [] all = tt
patches_good left top w h (c ∷ cs) all = ((All-head (Fits left top w h) c cs all).patch, patches_good left top w h cs (All-tail (Fits left top w h) c cs all))

-- commands that show at most 65,536 looks don't paint too many pixels
pub few_painted : (work : ℤ → ℤ → Bool) (looks : List Look) (left top w h : ℕ) (bare : List ℕ) (commands : List Command) → length looks ≤ 65536 → All (Fits left top w h) commands
    → Shows work looks left top bare commands → count_of bare + total (patches_of commands) ≤ most_painted
few_painted work looks left top w h bare commands few fits shows =
    let within = within_cost work looks left top bare commands (patches_good left top w h commands fits) shows in
    let most = cost_le work looks left top in
    omega (arith, within, most, few)
