-- Patches painted row by row.
use Rattle.std.proofs.Common.{ℕ, ◌≡◌, ◌+◌, ◌-◌, ◌*◌, ◌<◌, ◌≤◌, ◌≢◌, true, false, ◌&&◌, nat_le, nat_lt, List, [], ◌∷◌, length, refl, sym, ap, ap₂, ◌∙◌, subst, ⊎_elim, inl, inr, arith}
use Rattle.std.proofs.lemmas.Bool.{cases_lt, cases_eq, cases_Bool, and_parts, and_from, le-leb, lt-ltb, leb-true, ltb-true}
use Rattle.std.proofs.Math.Nat.{mul-le-mul_left}
use Rattle.std.specs.Simd.Lanes.{zip2}
use Rattle.std.proofs.lemmas.List.Elements.{All-head, All-tail}
use Rattle.ev_argb.specs.Argb.{Argb, IsPremultiplied, clear, over, tint, mul, channel_over}
use Rattle.std.specs.Prelude.{Option, Some, None, IsSome, unwrap_or, ◌⊎◌, All, map}
use Rattle.ev_model.specs.Sample.{white}
use Rattle.ev_model.specs.Paint.{put, put_sample}
use Rattle.ev_model.specs.declared.object.Op.{Op}
use Rattle.ev_model.specs.declared.object.Op.TheVariants.{Blend}
use Rattle.ev_argb.specs.Tile.{Tile, tile_at, PaintsSpan}
use Rattle.ev_cmds.specs.Patches.{has_place, size_of}
use Rattle.ev_cmds.specs.declared.patch.Patch.{Patch}
use Rattle.ev_draw.specs.Making.{Paints, span, above, line_of}

-- what the test of a place says
pub record Has (p : Patch) (x y : ℕ) : Type 0 where
  pub left : p.left ≤ x
  pub right : x < p.right
  pub top : p.top ≤ y
  pub bottom : y < p.bottom

pub has_of : (p : Patch) (x y : ℕ) → has_place p x y ≡ true → Has p x y
has_of p x y h =
    let both : ((nat_le p.left x && nat_lt x p.right) ≡ true) × ((nat_le p.top y && nat_lt y p.bottom) ≡ true) = and_parts _ _ h in
    let across : (nat_le p.left x ≡ true) × (nat_lt x p.right ≡ true) = and_parts _ _ both.0 in
    let down : (nat_le p.top y ≡ true) × (nat_lt y p.bottom ≡ true) = and_parts _ _ both.1 in
    record { left = leb-true p.left x across.0; right = ltb-true x p.right across.1; top = leb-true p.top y down.0; bottom = ltb-true y p.bottom down.1 }

pub has_is : (p : Patch) (x y : ℕ) → Has p x y → has_place p x y ≡ true
has_is p x y h =
    and_from _ _ (and_from _ _ (le-leb p.left x h.left) (lt-ltb x p.right h.right)) (and_from _ _ (le-leb p.top y h.top) (lt-ltb y p.bottom h.bottom))

pub has_not : (p : Patch) (x y : ℕ) → (Has p x y → ⊥) → has_place p x y ≡ false
has_not p x y n = ⊎_elim (λ (t : has_place p x y ≡ true). absurd (n (has_of p x y t))) (λ (f : has_place p x y ≡ false). f) (cases_Bool (has_place p x y))

pub no_has : (p : Patch) (x y : ℕ) → has_place p x y ≡ false → Has p x y → ⊥
no_has p x y f h = let t : has_place p x y ≡ true = has_is p x y h in absurd (cc)

-- a span is a patch of one row
pub spanned : (old new : Tile) (x y n : ℕ) (pixel : ℕ → Argb) (make : ℕ → ℕ → Argb → Argb) → PaintsSpan old new x y n pixel → new.w ≡ old.w → new.h ≡ old.h → new.painted ≤ old.painted + n
    → ((i : ℕ) → i < n → pixel i ≡ make (x + i) y (tile_at old (x + i) y)) → Paints (span x y n) make n old new
spanned old new x y n pixel make s w h count same =
    record {
      width = w;
      height = h;
      inside = λ i j across down has.
          let at : Has (span x y n) i j = has_of (span x y n) i j has in
          let here : j ≡ y = (let t = at.top in let b = at.bottom in omega arith) in
          let k : x + (i - x) ≡ i = (let l = at.left in omega arith) in
          let less : i - x < n = (let l = at.left in let r = at.right in omega arith) in
          let painted : tile_at new (x + (i - x)) y ≡ make (x + (i - x)) y (tile_at old (x + (i - x)) y) = s.inside (i - x) less ∙ same (i - x) less in
          let P : ℕ → ℕ → Type 0 = λ a b. tile_at new a b ≡ make a b (tile_at old a b) in
          subst (λ a. P a j) k (subst (λ b. P (x + (i - x)) b) (sym here) painted);
      outside = λ i j across down has.
          ⊎_elim
          (λ (e : j ≡ y).
          let P : ℕ → Type 0 = λ b. tile_at new i b ≡ tile_at old i b in
          subst P (sym e) (⊎_elim
          (λ (l : i < x). s.beside i across (inl l))
          (λ (l : x ≤ i). ⊎_elim
          (λ (r : i < x + n). absurd (no_has (span x y n) i j has (record { left = l; right = r; top = omega arith; bottom = omega arith })))
          (λ (r : x + n ≤ i). s.beside i across (inr r))
          (cases_lt i (x + n)))
          (cases_lt i x)))
          (λ (e : j ≢ y). s.elsewhere i j across e)
          (cases_eq j y);
      count = count;
    }

-- no rows yet
pub no_rows : (p : Patch) (make : ℕ → ℕ → Argb → Argb) (old : Tile) (n : ℕ) → n ≡ 0 → Paints (above p p.top) make n old old
no_rows p make old n z = record {
  width = refl;
  height = refl;
  inside = λ x y w h has. absurd (let at : Has (above p p.top) x y = has_of (above p p.top) x y has in let t = at.top in let b = at.bottom in omega arith);
  outside = λ x y w h has. refl;
  count = omega arith;
}

-- one more row
pub row_more : (p : Patch) (make : ℕ → ℕ → Argb → Argb) (y m n : ℕ) (old now new : Tile) → p.top ≤ y → Paints (above p y) make m old now → Paints (record p { top = y; bottom = y + 1 }) make n now new → Paints (above p (y + 1)) make (m + n) old new
row_more p make y m n old now new top before row =
    record {
      width = row.width ∙ before.width;
      height = row.height ∙ before.height;
      inside = λ i j w h has.
          let at : Has (above p (y + 1)) i j = has_of (above p (y + 1)) i j has in
          ⊎_elim
          (λ (less : j < y).
          let not_here : has_place (record p { top = y; bottom = y + 1 }) i j ≡ false = has_not (record p { top = y; bottom = y + 1 }) i j (λ in_row. let t = in_row.top in omega arith) in
          let there : has_place (above p y) i j ≡ true = has_is (above p y) i j (record { left = at.left; right = at.right; top = at.top; bottom = less }) in
          row.outside i j (let e = before.width in omega arith) (let e = before.height in omega arith) not_here ∙ before.inside i j w h there)
          (λ (more : y ≤ j).
          let here : has_place (record p { top = y; bottom = y + 1 }) i j ≡ true = has_is (record p { top = y; bottom = y + 1 }) i j (record { left = at.left; right = at.right; top = more; bottom = at.bottom }) in
          let not_there : has_place (above p y) i j ≡ false = has_not (above p y) i j (λ in_rows. let b = in_rows.bottom in omega arith) in
          row.inside i j (let e = before.width in omega arith) (let e = before.height in omega arith) here ∙ ap (make i j) (before.outside i j w h not_there))
          (cases_lt j y);
      outside = λ i j w h has.
          let not_here : has_place (record p { top = y; bottom = y + 1 }) i j ≡ false = has_not (record p { top = y; bottom = y + 1 }) i j (λ in_row.
          no_has (above p (y + 1)) i j has (record { left = in_row.left; right = in_row.right; top = (let t = in_row.top in omega arith); bottom = in_row.bottom })) in
          let not_there : has_place (above p y) i j ≡ false = has_not (above p y) i j (λ in_rows.
          no_has (above p (y + 1)) i j has (record { left = in_rows.left; right = in_rows.right; top = in_rows.top; bottom = (let b = in_rows.bottom in omega arith) })) in
          row.outside i j (let e = before.width in omega arith) (let e = before.height in omega arith) not_here ∙ before.outside i j w h not_there;
      count = (let a = before.count in let b = row.count in omega arith);
    }

-- the same patch, made in the same way, counted by another number
pub repainted : (p q : Patch) (make other : ℕ → ℕ → Argb → Argb) (m n : ℕ) (old new : Tile) → p ≡ q → m ≡ n → ((x y : ℕ) (value : Argb) → Has q x y → make x y value ≡ other x y value) → Paints p make m old new → Paints q other n old new
repainted p q make other m n old new same count makes h =
    record {
      width = h.width;
      height = h.height;
      inside = λ x y w b has. h.inside x y w b (ap (λ (r : Patch). has_place r x y) same ∙ has) ∙ makes x y (tile_at old x y) (has_of q x y has);
      outside = λ x y w b has. h.outside x y w b (ap (λ (r : Patch). has_place r x y) same ∙ has);
      count = (let c = h.count in omega arith);
    }

-- rows that are left fit
pub rows_fit : (w t y b : ℕ) → t ≤ y → y < b → w * (y - t) + w ≤ w * (b - t)
rows_fit w t y b h k = let m : w * (y - t + 1) ≤ w * (b - t) = mul-le-mul_left w (omega arith) in omega arith

pub rows_next : (w t y : ℕ) → t ≤ y → w * (y - t) + w ≡ w * (y + 1 - t)
rows_next w t y h = let e : y + 1 - t ≡ y - t + 1 = omega arith in rw e (omega arith)

pub zip_short : {A B C : Type 0} (f : A → B → C) (xs : List A) (ys : List B) → length (zip2 f xs ys) ≤ length xs
zip_short f [] ys = omega arith
zip_short f (x ∷ xs) [] = omega arith
zip_short f (x ∷ xs) (y ∷ ys) = let rest = zip_short f xs ys in omega arith

-- one more row of a patch, painted as a span
pub row_step : (p : Patch) (make : ℕ → ℕ → Argb → Argb) (x y row n : ℕ) (old now new : Tile) → x ≡ p.left → row ≡ y → n ≡ p.right - p.left → p.left ≤ p.right → p.top ≤ y
    → Paints (above p y) make ((p.right - p.left) * (y - p.top)) old now → Paints (span x row n) make n now new → Paints (above p (y + 1)) make ((p.right - p.left) * (y + 1 - p.top)) old new
row_step p make x y row n old now new left here width across top before painted =
    let right : x + n ≡ p.right = omega arith in
    let same : span x row n ≡ record p { top = y; bottom = y + 1 } = ap₂ (λ (a b : ℕ). record { left = a; right = b; top = row; bottom = row + 1 }) left right ∙ ap (λ (b : ℕ). record p { top = b; bottom = b + 1 }) here in
    let more = row_more p make y ((p.right - p.left) * (y - p.top)) (p.right - p.left) old now new top before (repainted _ _ make make n (p.right - p.left) now new same width (λ i j value has. refl) painted) in
    repainted (above p (y + 1)) (above p (y + 1)) make make _ _ old new refl (rows_next (p.right - p.left) p.top y top) (λ i j value has. refl) more

-- all rows
pub all_rows : (p : Patch) (make : ℕ → ℕ → Argb → Argb) (y : ℕ) (old new : Tile) → y ≡ p.bottom → Paints (above p y) make ((p.right - p.left) * (y - p.top)) old new → Paints p make (size_of p) old new
all_rows p make y old new e h =
    repainted (above p y) p make make _ _ old new (ap (λ (b : ℕ). above p b) e) (ap (λ (b : ℕ). (p.right - p.left) * (b - p.top)) e) (λ i j value has. refl) h

-- two patches that make up a third
pub both_painted : (p q r : Patch) (make : ℕ → ℕ → Argb → Argb) (m n : ℕ) (old now new : Tile) → ((x y : ℕ) → Has r x y → Has p x y ⊎ Has q x y) → ((x y : ℕ) → Has p x y → Has r x y) → ((x y : ℕ) → Has q x y → Has r x y) → ((x y : ℕ) → Has p x y → Has q x y → ⊥)
    → Paints p make m old now → Paints q make n now new → Paints r make (m + n) old new
both_painted p q r make m n old now new splits first second apart before after =
    record {
      width = after.width ∙ before.width;
      height = after.height ∙ before.height;
      inside = λ x y w h has.
          ⊎_elim
          (λ (in_p : Has p x y).
          after.outside x y (let e = before.width in omega arith) (let e = before.height in omega arith) (has_not q x y (apart x y in_p)) ∙ before.inside x y w h (has_is p x y in_p))
          (λ (in_q : Has q x y).
          after.inside x y (let e = before.width in omega arith) (let e = before.height in omega arith) (has_is q x y in_q)
          ∙ ap (make x y) (before.outside x y w h (has_not p x y (λ in_p. apart x y in_p in_q))))
          (splits x y (has_of r x y has));
      outside = λ x y w h has.
          after.outside x y (let e = before.width in omega arith) (let e = before.height in omega arith) (has_not q x y (λ in_q. no_has r x y has (second x y in_q)))
          ∙ before.outside x y w h (has_not p x y (λ in_p. no_has r x y has (first x y in_p)));
      count = (let a = before.count in let b = after.count in omega arith);
    }

-- more columns of a span
pub columns_more : (x y k at l all m n total : ℕ) (make : ℕ → ℕ → Argb → Argb) (old now new : Tile) → at ≡ x + k → all ≡ k + l → total ≡ m + n
    → Paints (span x y k) make m old now → Paints (span at y l) make n now new → Paints (span x y all) make total old new
columns_more x y k at l all m n total make old now new here sum count before after =
    repainted (span x y all) (span x y all) make make (m + n) total old new refl (sym count) (λ i j value has. refl)
    (both_painted (span x y k) (span at y l) (span x y all) make m n old now new
    (λ i j has. ⊎_elim
    (λ (l : i < x + k). inl (record { left = has.left; right = l; top = has.top; bottom = has.bottom }))
    (λ (g : x + k ≤ i). inr (record { left = omega arith; right = (let r = has.right in omega arith); top = has.top; bottom = has.bottom }))
    (cases_lt i (x + k)))
    (λ i j has. record { left = has.left; right = (let r = has.right in omega arith); top = has.top; bottom = has.bottom })
    (λ i j has. record { left = (let l = has.left in omega arith); right = (let r = has.right in omega arith); top = has.top; bottom = has.bottom })
    (λ i j a b. let r = a.right in let l = b.left in omega arith)
    before after)

pub no_columns : (x y : ℕ) (make : ℕ → ℕ → Argb → Argb) (old : Tile) → Paints (span x y 0) make 0 old old
no_columns x y make old = record {
  width = refl;
  height = refl;
  inside = λ i j w h has. absurd (let at : Has (span x y 0) i j = has_of (span x y 0) i j has in let l = at.left in let r = at.right in omega arith);
  outside = λ i j w h has. refl;
  count = omega arith;
}

-- nothing is painted where nothing is to be made
pub left_alone : (p : Patch) (make : ℕ → ℕ → Argb → Argb) (n : ℕ) (old : Tile) → ((x y : ℕ) (value : Argb) → Has p x y → make x y value ≡ value) → Paints p make n old old
left_alone p make n old same = record {
  width = refl;
  height = refl;
  inside = λ x y w h has. sym (same x y (tile_at old x y) (has_of p x y has));
  outside = λ x y w h has. refl;
  count = omega arith;
}

-- blending what stands for nothing changes nothing
abbrev pixel : ℕ → ℕ → ℕ → ℕ → Argb
pixel a r g b = record { a = a; r = r; g = g; b = b }

same_pixel : (p : Argb) (a r g b : ℕ) → a ≡ p.a → r ≡ p.r → g ≡ p.g → b ≡ p.b → pixel a r g b ≡ p
same_pixel p a r g b ea er eg eb = ap₂ (λ (x y : ℕ). pixel x y g b) ea er ∙ ap₂ (λ (x y : ℕ). pixel p.a p.r x y) eg eb

blend_nothing : (color value : Argb) → over (tint clear color) value ≡ value
blend_nothing color value =
    let z : (c : ℕ) → mul 0 c ≡ 0 = λ c. omega arith in
    let whole : (d : ℕ) → channel_over 0 0 d ≡ d = λ d. omega arith in
    let channel : (a s d : ℕ) → a ≡ 0 → s ≡ 0 → channel_over a s d ≡ d = λ a s d e f. ap₂ (λ (x y : ℕ). channel_over x y d) e f ∙ whole d in
    same_pixel value _ _ _ _ (channel _ _ value.a (z color.a) (z color.a)) (channel _ _ value.r (z color.a) (z color.r)) (channel _ _ value.g (z color.a) (z color.g)) (channel _ _ value.b (z color.a) (z color.b))

-- a sample that is blended, or is there
pub put_blended : (op : Op) (color : Argb) (found : Option Argb) (value : Argb) → (op ≡ Blend) ⊎ IsSome found → put op (tint (unwrap_or found clear) color) value ≡ put_sample op color found value
put_blended op color (Some q) value either = refl
put_blended op color None value (inl e) = rw e (blend_nothing color value)
put_blended op color None value (inr s) = absurd (cc)

-- one more row of a patch
pub line_step : (p : Patch) (make : ℕ → ℕ → Argb → Argb) (y row : ℕ) (old now new : Tile) → row ≡ y → p.top ≤ y
    → Paints (above p y) make ((p.right - p.left) * (y - p.top)) old now → Paints (line_of p row) make (p.right - p.left) now new → Paints (above p (y + 1)) make ((p.right - p.left) * (y + 1 - p.top)) old new
line_step p make y row old now new here top before painted =
    let more = row_more p make y ((p.right - p.left) * (y - p.top)) (p.right - p.left) old now new top before (repainted (line_of p row) (line_of p y) make make _ _ now new (ap (line_of p) here) refl (λ i j value has. refl) painted) in
    repainted (above p (y + 1)) (above p (y + 1)) make make _ _ old new refl (rows_next (p.right - p.left) p.top y top) (λ i j value has. refl) more

mul_whole : (n : ℕ) → n < 256 → mul n 255 ≡ n
mul_whole n h = omega arith

-- white tints nothing
pub white_stays : (ps : List Argb) → All IsPremultiplied ps → map (λ (p : Argb). tint p white) ps ≡ ps
white_stays [] all = refl
white_stays (p ∷ ps) all =
    let first : IsPremultiplied p = All-head IsPremultiplied p ps all in
    let a = first.alpha in let r = first.red in let g = first.green in let b = first.blue in
    ap₂ (λ (q : Argb) (qs : List Argb). q ∷ qs)
    (same_pixel p _ _ _ _ (mul_whole p.a a) (mul_whole p.r (omega arith)) (mul_whole p.g (omega arith)) (mul_whole p.b (omega arith)))
    (white_stays ps (All-tail IsPremultiplied p ps all))
