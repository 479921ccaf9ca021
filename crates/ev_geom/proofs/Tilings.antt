-- The tiles that hold a pixel of a set, found by one pixel of each in the set widened to whole tiles.
use Rattle.std.proofs.Common.{ℕ, zero, suc, ◌≡◌, ◌+◌, ◌*◌, ◌/◌, ◌%◌, ◌<◌, ◌≤◌, Bool, true, false, ◌||◌, cond, List, [], ◌∷◌, ◌++◌, length, filter, ℤ, pos, ◌⊎◌, inl, inr, refl, sym, ap, ◌∙◌, subst, arith, add-one, append-nil, zero-add, All, ◌≢◌}
use Rattle.std.specs.List.{list_any, range_with_len}
use Rattle.std.proofs.lemmas.List.FromFn.{length-range_with_len, get_or-range_with_len}
use Rattle.std.proofs.lemmas.Bool.Decides.{eqb_tells}
use Rattle.std.proofs.lemmas.List.Folds.{list_any_at}
use Rattle.std.proofs.lemmas.List.Elements.{filter-append}
use Rattle.std.proofs.lemmas.Nat.{mod-mul-add, div-mul-add}
use Rattle.std.proofs.Math.Nat.{div-lt_iff_lt-mul}
use Rattle.ev_geom.specs.Area.{Area}
use Rattle.ev_geom.specs.Bands.{has_pixel}
use Rattle.ev_geom.specs.Snap.{SharesCell, IsSnapOf}
use Rattle.ev_geom.specs.Tiles.{holds_tile}

-- equal where each is true if the other is
same_bool : (a b : Bool) → (a ≡ true → b ≡ true) → (b ≡ true → a ≡ true) → a ≡ b
same_bool true b f g = sym (f refl)
same_bool false true f g = g refl
same_bool false false f g = refl

-- a number below n that passes a test
found : (p : ℕ → Bool) (n k : ℕ) → k < n → p k ≡ true → list_any p (range_with_len 0 n) ≡ true
found p n k h t =
    let len : k < length (range_with_len 0 n) = omega (arith, length-range_with_len 0 n) in
    list_any_at p (range_with_len 0 n) k 0 len (rw (get_or-range_with_len 0 n k 0 h, zero-add k) t)

record Passes (p : ℕ → Bool) (from to : ℕ) : Type 0 where
  number : ℕ
  low : from ≤ number
  high : number < to
  passes : p number ≡ true

either : (b c : Bool) → (b || c) ≡ true → (b ≡ true) ⊎ (c ≡ true)
either true c h = inl refl
either false c h = inr h

finds : (p : ℕ → Bool) (a n : ℕ) → list_any p (range_with_len a n) ≡ true → Passes p a (a + n)
finds p a zero h = absurd (cc)
finds p a (suc n) h =
    elim (either (p a) (list_any p (range_with_len (a + 1) n)) h) [
      | inl t ↦ record { number = a; low = omega arith; high = omega arith; passes = t }
      | inr t ↦
          let later : Passes p (a + 1) (a + 1 + n) = finds p (a + 1) n t in
          record { number = later.number; low = omega (arith, later.low); high = omega (arith, later.high); passes = later.passes }
    ]

-- whether the k-th pixel of the tile is in the set
abbrev pub is_in : (ℤ → ℤ → Bool) → ℕ → ℕ → ℕ → Bool
is_in set across t k = set (pos (t % across * 64 + k % 64)) (pos (t / across * 64 + k / 64))

-- a pixel of the set in the tile
pub held : (set : ℤ → ℤ → Bool) (across t : ℕ) → SharesCell 64 set (t % across * 64) (t / across * 64) → holds_tile set across t ≡ true
unfolding holds_tile
held set across t cell =
    let k : ℕ = cell.row % 64 * 64 + cell.column % 64 in
    let i : k % 64 ≡ cell.column % 64 = mod-mul-add (cell.row % 64) 64 (cell.column % 64) (omega arith) in
    let j : k / 64 ≡ cell.row % 64 = div-mul-add (cell.row % 64) 64 (cell.column % 64) (omega arith) in
    let x : t % across * 64 + k % 64 ≡ cell.column = omega (arith, cell.across) in
    let y : t / across * 64 + k / 64 ≡ cell.row = omega (arith, cell.down) in
    found (is_in set across t) 4096 k (omega arith) (rw (x, y) cell.held)

-- a tile that holds a pixel of the set
pub holds : (set : ℤ → ℤ → Bool) (across t : ℕ) → holds_tile set across t ≡ true → SharesCell 64 set (t % across * 64) (t / across * 64)
unfolding holds_tile
holds set across t h =
    let p : Passes (is_in set across t) 0 (0 + 4096) = finds (is_in set across t) 0 4096 h in
    record {
      column = t % across * 64 + p.number % 64;
      row = t / across * 64 + p.number / 64;
      held = p.passes;
      across = omega arith;
      down = omega (arith, p.high);
    }

pub met : (set : ℤ → ℤ → Bool) (w h across t : ℕ) (snapped : List Area) → IsSnapOf 64 w h set snapped → t % across * 64 < w → t / across * 64 < h
    → has_pixel snapped (pos (t % across * 64)) (pos (t / across * 64)) ≡ holds_tile set across t
met set w h across t snapped snap x y =
    same_bool _ _
    (λ e. held set across t (snap.within (t % across * 64) (t / across * 64) e).2)
    (λ e. snap.whole (t % across * 64) (t / across * 64) x y (holds set across t e))

range_more : (a n : ℕ) → range_with_len a (suc n) ≡ range_with_len a n ++ (a + n) ∷ []
range_more a zero = let e : a ≡ a + 0 = omega arith in ap (λ x. x ∷ []) e
range_more a (suc n) =
    let e : a + 1 + n ≡ a + suc n = omega arith in
    ap (λ xs. a ∷ xs) (range_more (a + 1) n ∙ ap (λ x. range_with_len (a + 1) n ++ x ∷ []) e)

pub filter_more : (p : ℕ → Bool) (n : ℕ) → filter p (range_with_len 0 (n + 1)) ≡ filter p (range_with_len 0 n) ++ cond (p n) (n ∷ []) []
filter_more p n =
    let e : 0 + n ≡ n = omega arith in
    ap (λ k. filter p (range_with_len 0 k)) (add-one n)
    ∙ ap (filter p) (range_more 0 n ∙ ap (λ x. range_with_len 0 n ++ x ∷ []) e)
    ∙ filter-append p (range_with_len 0 n) (n ∷ [])

-- a tile that is kept, and one that isn't
pub kept_tile : (p : ℕ → Bool) (n : ℕ) (before after : List ℕ) → p n ≡ true → before ≡ filter p (range_with_len 0 n) → after ≡ before ++ n ∷ [] → after ≡ filter p (range_with_len 0 (n + 1))
kept_tile p n before after t b a = rw (filter_more p n, t) (a ∙ ap (λ xs. xs ++ n ∷ []) b)

pub left_tile : (p : ℕ → Bool) (n : ℕ) (before : List ℕ) → p n ≡ false → before ≡ filter p (range_with_len 0 n) → before ≡ filter p (range_with_len 0 (n + 1))
left_tile p n before f b = rw (filter_more p n, f) (b ∙ sym (append-nil (filter p (range_with_len 0 n))))

-- the first pixel of a tile lies in the canvas
pub inside : (w h columns rows t : ℕ) → columns ≡ (w + 63) / 64 → rows ≡ (h + 63) / 64 → t < rows * columns → (t % columns * 64 < w) × (t / columns * 64 < h)
inside w h zero rows t c r b = absurd (omega arith)
inside w h (suc k) rows t c r b =
    let m : t % suc k < suc k = omega arith in
    let d : t / suc k < rows = (div-lt_iff_lt-mul {k = suc k} {x = t} {y = rows} (omega arith)).1 b in
    (omega arith, omega arith)

filter_step : (P : ℕ → Type 0) (a t : ℕ) (rest : List ℕ) (b : Bool) → All P (cond b (a ∷ rest) rest) → (t ≡ a → b ≡ true) → (t ≢ a → All P rest → P t) → P t
filter_step P a t rest true all f g =
    elim (eqb_tells t a) [
      | inl e ↦ subst P (sym e.1) (all 0 a (omega arith))
      | inr n ↦ g n.1 (λ k d h. all (suc k) d (omega arith))
    ]
filter_step P a t rest false all f g =
    elim (eqb_tells t a) [
      | inl e ↦ absurd (let z : false ≡ true = f e.1 in cc)
      | inr n ↦ g n.1 all
    ]

-- what holds of all kept numbers, of one that is kept
pub in_filter : (p : ℕ → Bool) (P : ℕ → Type 0) (a n t : ℕ) → All P (filter p (range_with_len a n)) → a ≤ t → t < a + n → p t ≡ true → P t
in_filter p P a zero t all l h k = absurd (omega arith)
in_filter p P a (suc n) t all l h k =
    filter_step P a t (filter p (range_with_len (a + 1) n)) (p a) all
    (λ e. sym (ap p e) ∙ k)
    (λ other rest. in_filter p P (a + 1) n t rest (omega arith) (omega arith) k)
