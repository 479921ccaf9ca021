-- A picture that is made anew place by place.
use Rattle.std.proofs.Common.{◌≡◌, ℕ, ◌+◌, ◌<◌, ◌≤◌, inl, inr, ℤ, pos, ◌+ℤ◌, ◌≤ℤ◌, ◌<ℤ◌, int_lt, int_le, Bool, true, false, ◌&&◌, refl, ap, ap₂, sym, ◌∙◌, arith, below_more}
use Rattle.std.proofs.lemmas.Int.{ints}
use Rattle.std.proofs.lemmas.Bool.{cases_lt}
use Rattle.ev_argb.specs.Argb.{Argb}
use Rattle.ev_argb.specs.Grid.{Grid, SetsPixel, IsWhole, pixel_at, with_pixel}
use Rattle.ev_geom.specs.Area.{holds, is_within}
use Rattle.ev_model.specs.Look.{Look}
use Rattle.ev_model.specs.Paint.{painted, put_sample, sample_at}
use Rattle.ev_model.specs.Remade.{Remakes, RemakesRowsBelow, RemakesRow, RemakesColumnsBelow}

within : (from len at : ℤ) → from ≤ℤ at → at <ℤ (from +ℤ len) → is_within from len at ≡ true
within from len at low high =
    let a : int_le from at ≡ true = grind (arith, ints) in
    let b : int_lt at (from +ℤ len) ≡ true = grind (arith, ints) in
    ap₂ ◌&&◌ a b

not_second : (a : Bool) → (a && false) ≡ false
not_second true = refl
not_second false = refl

past : (from len at : ℤ) → (from +ℤ len) ≤ℤ at → is_within from len at ≡ false
past from len at h =
    let b : int_lt at (from +ℤ len) ≡ false = grind (arith, ints) in
    ap (λ t. int_le from at && t) b ∙ not_second (int_le from at)

-- what a look paints on a place of its area
pub painted_inside : (l : Look) (x y : ℕ) (value p : Argb) → l.area.x ≤ℤ pos x → pos x <ℤ (l.area.x +ℤ l.area.w) → l.area.y ≤ℤ pos y → pos y <ℤ (l.area.y +ℤ l.area.h)
    → p ≡ put_sample l.object.op l.color (sample_at l.object x y) value → p ≡ painted l x y value
painted_inside l x y value p a b c d is =
    let inside : holds l.area (pos x) (pos y) ≡ true = ap₂ ◌&&◌ (within l.area.x l.area.w (pos x) a b) (within l.area.y l.area.h (pos y) c d) in
    is ∙ sym (rw inside refl)

unpainted : (l : Look) (x y : ℕ) (value : Argb) → holds l.area (pos x) (pos y) ≡ false → painted l x y value ≡ value
unpainted l x y value e = rw e refl

-- nothing is painted behind the last column, or below the last row
pub nothing_past_column : (l : Look) (y n w : ℕ) → (l.area.x +ℤ l.area.w) ≤ℤ pos n → (x : ℕ) (value : Argb) → x < w → n ≤ x → painted l x y value ≡ value
nothing_past_column l y n w last x value fits h =
    let behind : (l.area.x +ℤ l.area.w) ≤ℤ pos x = omega (arith, ints, last, h) in
    unpainted l x y value (ap (λ t. t && is_within l.area.y l.area.h (pos y)) (past l.area.x l.area.w (pos x) behind))

pub nothing_past_row : (l : Look) (n h : ℕ) → (l.area.y +ℤ l.area.h) ≤ℤ pos n → (x y : ℕ) (value : Argb) → y < h → n ≤ y → painted l x y value ≡ value
nothing_past_row l n h last x y value fits more =
    let below : (l.area.y +ℤ l.area.h) ≤ℤ pos y = omega (arith, ints, last, more) in
    unpainted l x y value (ap (λ t. is_within l.area.x l.area.w (pos x) && t) (past l.area.y l.area.h (pos y) below) ∙ not_second (is_within l.area.x l.area.w (pos x)))

-- one more place of a row
pub column_more : (make : ℕ → ℕ → Argb → Argb) (old now new : Grid) (r x : ℕ) (p : Argb) → RemakesColumnsBelow make old now r x → x < old.w → r < old.h
    → p ≡ make x r (pixel_at now x r) → new ≡ with_pixel now x r p → IsWhole new → SetsPixel now new x r p → RemakesColumnsBelow make old new r (x + 1)
column_more make old now new r x p so_far column row value is whole sets = record {
  size = record { width = ap (λ g. g.w) is ∙ so_far.size.width; height = ap (λ g. g.h) is ∙ so_far.size.height; whole = whole };
  done = λ k within less.
      below_more (λ k. k < old.w → pixel_at new k r ≡ make k r (pixel_at old k r)) x
      (λ k less fits. sets.elsewhere k r (omega (arith, so_far.size.width)) (inl (omega arith)) ∙ so_far.done k fits less)
      (λ fits. sets.here ∙ value ∙ ap (make x r) (so_far.rest x column (omega arith)))
      k less within;
  rest = λ k within above. sets.elsewhere k r (omega (arith, so_far.size.width)) (inl (omega arith)) ∙ so_far.rest k within (omega arith);
  others = λ k y column' row' other. sets.elsewhere k y (omega (arith, so_far.size.width)) (inr other) ∙ so_far.others k y column' row' other;
}

-- all places of a row
pub row_done : (make : ℕ → ℕ → Argb → Argb) (old new : Grid) (r n : ℕ) → RemakesColumnsBelow make old new r n
    → ((x : ℕ) (value : Argb) → x < old.w → n ≤ x → make x r value ≡ value) → RemakesRow make old new r
row_done make old new r n so_far none = record {
  size = so_far.size;
  row = λ x column. (elim (cases_lt x n) [
    | inl less ↦ so_far.done x column less
    | inr more ↦ so_far.rest x column more ∙ sym (none x (pixel_at old x r) column more)
  ]);
  others = so_far.others;
}

-- one more row
pub row_more : (make : ℕ → ℕ → Argb → Argb) (old now new : Grid) (n : ℕ) → RemakesRowsBelow make old now n → RemakesRow make now new n → RemakesRowsBelow make old new (n + 1)
row_more make old now new n so_far more =
    let fits : (x : ℕ) → x < old.w → x < now.w = λ x h. omega (arith, so_far.size.width) in
    let low : (y : ℕ) → y < old.h → y < now.h = λ y h. omega (arith, so_far.size.height) in
    record {
      size = record { width = more.size.width ∙ so_far.size.width; height = more.size.height ∙ so_far.size.height; whole = more.size.whole };
      done = λ x y column row below.
          below_more (λ k. k < old.h → pixel_at new x k ≡ make x k (pixel_at old x k)) n
          (λ k less row'. more.others x k (fits x column) (low k row') (omega arith) ∙ so_far.done x k column row' less)
          (λ row'. more.row x (fits x column) ∙ ap (make x n) (so_far.rest x n column row' (omega arith)))
          y below row;
      rest = λ x y column row above. more.others x y (fits x column) (low y row) (omega arith) ∙ so_far.rest x y column row (omega arith);
    }

-- all rows
pub rows_done : (make : ℕ → ℕ → Argb → Argb) (old new : Grid) (n : ℕ) → RemakesRowsBelow make old new n
    → ((x y : ℕ) (value : Argb) → y < old.h → n ≤ y → make x y value ≡ value) → Remakes make old new
rows_done make old new n so_far none = record {
  size = so_far.size;
  pixels = λ x y column row. (elim (cases_lt y n) [
    | inl less ↦ so_far.done x y column row less
    | inr more ↦ so_far.rest x y column row more ∙ sym (none x y (pixel_at old x y) row more)
  ]);
}

-- past the last place there is none
pub none_past : (make : ℕ → Argb → Argb) (len n : ℕ) → len ≤ n → (x : ℕ) (value : Argb) → x < len → n ≤ x → make x value ≡ value
none_past make len n end x value fits more = absurd (omega arith)
