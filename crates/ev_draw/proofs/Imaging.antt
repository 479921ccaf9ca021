-- A row of an image on a patch.
use Rattle.std.proofs.Common.{ℕ, ◌≡◌, ◌+◌, ◌-◌, ◌<◌, ◌≤◌, ℤ, pos, ◌+ℤ◌, ◌≤ℤ◌, refl, sym, ap, ap₂, ◌∙◌, subst, true, arith, inl, inr, ⊎_elim, List, length, map, get_or}
use Rattle.std.specs.Prelude.{unsigned_abs, ◌-ℤ◌, ◌⊎◌, Option, Some, None, IsSome, unwrap_or}
use Rattle.std.specs.List.{range_with_len}
use Rattle.std.proofs.lemmas.List.{length-map, get_or_default}
use Rattle.std.proofs.lemmas.List.FromFn.{get_or-map-range_with_len, length-range_with_len}
use Rattle.std.proofs.Math.ListN.{get_or-map}
use Rattle.std.proofs.lemmas.Int.{ints}
use Rattle.ev_argb.specs.Argb.{Argb, clear, tint}
use Rattle.ev_argb.specs.Tile.{Tile}
use Rattle.ev_model.specs.Paint.{put, put_sample, sample_at}
use Rattle.ev_model.specs.Sample.{sample}
use Rattle.ev_model.specs.declared.content.Content.{Content}
use Rattle.ev_model.specs.declared.content.Content.TheVariants.{Image}
use Rattle.ev_model.specs.declared.content.ImagePart.{ImagePart}
use Rattle.ev_model.specs.declared.object.Op.{Op}
use Rattle.ev_model.specs.declared.object.Op.TheVariants.{Blend}
use Rattle.ev_fill.specs.Rows.{pixel_row, shown_row}
use Rattle.ev_fill.specs.declared.axes.ShownRow.{ShownRow}
use Rattle.ev_cmds.specs.Patches.{has_place}
use Rattle.ev_cmds.specs.Sheets.{Fits, op_of}
use Rattle.ev_cmds.specs.declared.sheet.Command.{Command}
use Rattle.ev_draw.specs.Making.{Paints, span, line_of, shown_by, pixel_of}
use Rattle.ev_draw.specs.KeptRows.{AreMade, AreMadeFor}
use Rattle.ev_draw.proofs.Patching.{has_is, repainted, put_blended}

-- columns of an object, counted from its first one
columns_fit : (rx rw : ℤ) (a l r i w : ℕ) → rx ≤ℤ pos (a + l) → pos (a + r) ≤ℤ (rx +ℤ rw) → l < r → i ≡ unsigned_abs (pos (a + l) -ℤ rx) → w ≡ unsigned_abs rw → i + (r - l) ≤ w
columns_fit rx rw a l r i w from to some p q = omega (arith, ints)

column_more : (rx : ℤ) (a l c i : ℕ) → rx ≤ℤ pos (a + l) → l ≤ c → i ≡ unsigned_abs (pos (a + l) -ℤ rx) → i + (c - l) ≡ unsigned_abs (pos (a + c) -ℤ rx)
column_more rx a l c i from low p = omega (arith, ints)

row_within : (ry rh : ℤ) (a t b y j h : ℕ) → ry ≤ℤ pos (a + t) → pos (a + b) ≤ℤ (ry +ℤ rh) → t ≤ y → y < b → j ≡ unsigned_abs (pos (a + y) -ℤ ry) → h ≡ unsigned_abs rh → j < h
row_within ry rh a t b y j h from to low high p q = omega (arith, ints)

-- where a row of a command's patch lies in its object
pub record IsLine (c : Command) (part : ImagePart) (left top y i j w h : ℕ) : Type 0 where
  pub content : c.object.value.content ≡ Image part
  pub low : c.patch.top ≤ y
  pub high : y < c.patch.bottom
  pub column : i ≡ unsigned_abs (pos (left + c.patch.left) -ℤ c.object.value.rect.x)
  pub row : j ≡ unsigned_abs (pos (top + y) -ℤ c.object.value.rect.y)
  pub width : w ≡ unsigned_abs c.object.value.rect.w
  pub height : h ≡ unsigned_abs c.object.value.rect.h

pub room : (c : Command) (part : ImagePart) (left top pw ph y i j w h : ℕ) → Fits left top pw ph c → IsLine c part left top y i j w h → i + (c.patch.right - c.patch.left) ≤ w
room c part left top pw ph y i j w h f l = columns_fit _ _ left c.patch.left c.patch.right i w f.from_left f.to_right f.patch.wide l.column l.width

pub row_in : (c : Command) (part : ImagePart) (left top pw ph y i j w h : ℕ) → Fits left top pw ph c → IsLine c part left top y i j w h → j < h
row_in c part left top pw ph y i j w h f l = row_within _ _ top c.patch.top c.patch.bottom y j h f.from_top f.to_bottom l.low l.high l.row l.height

sample_is : (c : Command) (part : ImagePart) (left top pw ph y i j w h : ℕ) → Fits left top pw ph c → IsLine c part left top y i j w h → (column line : ℕ) → line ≡ y → c.patch.left ≤ column
    → sample (Image part) w h (i + (column - c.patch.left)) j ≡ sample_at c.object.value (left + column) (top + line)
sample_is c part left top pw ph y i j w h f l column line here low =
    let across = column_more _ left c.patch.left column i f.from_left low l.column in
    let down : j ≡ unsigned_abs (pos (top + line) -ℤ c.object.value.rect.y) = l.row ∙ ap (λ (k : ℕ). unsigned_abs (pos (top + k) -ℤ c.object.value.rect.y)) (sym here) in
    ap₂ (λ (k : Content) (n : ℕ). sample k n h (i + (column - c.patch.left)) j) (sym l.content) l.width
    ∙ ap₂ (λ (n m : ℕ). sample c.object.value.content (unsigned_abs c.object.value.rect.w) n m j) l.height across
    ∙ ap (λ (m : ℕ). sample c.object.value.content (unsigned_abs c.object.value.rect.w) (unsigned_abs c.object.value.rect.h) (unsigned_abs (pos (left + column) -ℤ c.object.value.rect.x)) m) down

pub full_line : (c : Command) (part : ImagePart) (left top pw ph y i j w h : ℕ) → Fits left top pw ph c → IsLine c part left top y i j w h → (k : ℕ) → k < c.patch.right - c.patch.left → IsSome (sample_at c.object.value (left + (c.patch.left + k)) (top + y)) → IsSome (sample (Image part) w h (i + k) j)
full_line c part left top pw ph y i j w h f l k within some =
    let e : c.patch.left + k - c.patch.left ≡ k = omega arith in
    subst (λ (o : Option Argb). IsSome o) (sym (ap (λ (n : ℕ). sample (Image part) w h (i + n) j) (sym e) ∙ sample_is c part left top pw ph y i j w h f l (c.patch.left + k) y refl (omega arith))) some

pub in_line : (c : Command) (left top pw ph y k : ℕ) → Fits left top pw ph c → c.patch.top ≤ y → y < c.patch.bottom → k < c.patch.right - c.patch.left → has_place c.patch (c.patch.left + k) y ≡ true
in_line c left top pw ph y k f low high within = has_is c.patch (c.patch.left + k) y (record { left = omega arith; right = omega arith; top = low; bottom = high })

pub image_line : (c : Command) (part : ImagePart) (left top pw ph y i j w h x n : ℕ) (op : Op) (old new : Tile) → Fits left top pw ph c → IsLine c part left top y i j w h → x ≡ c.patch.left → n ≡ c.patch.right - c.patch.left → op ≡ op_of c
    → Paints (span x y n) (λ column line value. put_sample op c.color (sample (Image part) w h (i + (column - x)) j) value) n old new
    → Paints (line_of c.patch y) (shown_by c left top) (c.patch.right - c.patch.left) old new
image_line c part left top pw ph y i j w h x n op old new f l at width is painted =
    let right : x + n ≡ c.patch.right = (let some = f.patch.wide in omega arith) in
    let same : span x y n ≡ line_of c.patch y = ap₂ (λ (a b : ℕ). record { left = a; right = b; top = y; bottom = y + 1 }) at right in
    repainted (span x y n) (line_of c.patch y) _ (shown_by c left top) n (c.patch.right - c.patch.left) old new same width
    (λ column line value has.
    let low = has.left in
    let here : line ≡ y = (let t = has.top in let b = has.bottom in omega arith) in
    ap (λ (a : ℕ). put_sample op c.color (sample (Image part) w h (i + (column - a)) j) value) at
    ∙ ap₂ (λ (o : Op) (s : Option Argb). put_sample o c.color s value) is (sample_is c part left top pw ph y i j w h f l column line here low))
    painted

-- pixels that were made for this object
pub made_here : (c : Command) (part : ImagePart) (left top y i j w h : ℕ) (made : Option (Option ShownRow)) (pixels : List Argb) → IsLine c part left top y i j w h → AreMadeFor c part left made pixels → AreMade part w i c.color made pixels
made_here c part left top y i j w h made pixels l a = rw (l.width, l.column) a

pub made_there : (c : Command) (part : ImagePart) (left top y i j w h : ℕ) (made : Option (Option ShownRow)) (pixels : List Argb) → IsLine c part left top y i j w h → AreMade part w i c.color made pixels → AreMadeFor c part left made pixels
made_there c part left top y i j w h made pixels l a = rw (l.width, l.column) at a

-- where nothing lies in the gaps, each place has a sample or is blended
whole_line : (c : Command) (part : ImagePart) (left top pw ph y i j w h : ℕ) → Fits left top pw ph c → IsLine c part left top y i j w h → (c.replaces ≡ true) ⊎ (op_of c ≡ Blend) → (k : ℕ) → k < c.patch.right - c.patch.left → (op_of c ≡ Blend) ⊎ IsSome (sample (Image part) w h (i + k) j)
whole_line c part left top pw ph y i j w h f l whole k within =
    ⊎_elim
    (λ (r : c.replaces ≡ true). inr (full_line c part left top pw ph y i j w h f l k within (f.full r (c.patch.left + k) y (in_line c left top pw ph y k f l.low l.high within))))
    (λ (b : op_of c ≡ Blend). inl b)
    whole

-- a row that was made is put where its samples are
pub made_line : (c : Command) (part : ImagePart) (left top pw ph y i j w h x : ℕ) (row : List Argb) (op : Op) (old new : Tile) → Fits left top pw ph c → IsLine c part left top y i j w h → x ≡ c.patch.left → length row ≡ c.patch.right - c.patch.left → op ≡ op_of c
    → (c.replaces ≡ true) ⊎ (op_of c ≡ Blend) → row ≡ map (λ p. tint p c.color) (pixel_row part w h i j (length row))
    → Paints (span x y (length row)) (λ column line value. put op (pixel_of row x column) value) (length row) old new
    → Paints (line_of c.patch y) (shown_by c left top) (c.patch.right - c.patch.left) old new
made_line c part left top pw ph y i j w h x row op old new f l at width is whole are painted =
    let n = length row in
    let found = λ (column : ℕ). sample (Image part) w h column j in
    let shown = λ (column : ℕ). unwrap_or (found column) clear in
    let tinted = λ (p : Argb). tint p c.color in
    image_line c part left top pw ph y i j w h x n op old new f l at width is
    (repainted (span x y n) (span x y n) (λ column line value. put op (pixel_of row x column) value) (λ column line value. put_sample op c.color (found (i + (column - x))) value) n n old new refl refl
    (λ column line value has.
    let low = has.left in let high = has.right in
    let within : column - x < n = omega arith in
    let made = map shown (range_with_len i n) in
    let len : length made ≡ n = length-map (range_with_len i n) shown ∙ length-range_with_len i n in
    let inside : column - x < length (map tinted made) = omega (arith, length-map made tinted, len) in
    ap (λ (q : Argb). put op q value)
    (ap (λ (ps : List Argb). get_or ps (column - x) clear) are
    ∙ get_or_default (map tinted made) (column - x) clear (tinted clear) inside ∙ get_or-map tinted made (column - x) clear
    ∙ ap tinted (get_or-map-range_with_len shown i n (column - x) (i + (column - x)) clear within refl))
    ∙ put_blended op c.color (found (i + (column - x))) value
    (subst (λ (o : Op). (o ≡ Blend) ⊎ IsSome (found (i + (column - x)))) (sym is) (whole_line c part left top pw ph y i j w h f l whole (column - x) (omega arith))))
    painted)

-- before a row is made
pub nothing_made : (part : ImagePart) (w i : ℕ) (color : Argb) (pixels : List Argb) → AreMade part w i color None pixels
nothing_made part w i color pixels = record { are = λ h j within e. absurd (cc) }

some_is : (x y : Option ShownRow) → Some x ≡ Some y → x ≡ y
some_is x y e = cc

-- a row is made and tinted
pub made_row : (part : ImagePart) (w i : ℕ) (color : Argb) (shown : Option ShownRow) (made : Option (Option ShownRow)) (n : ℕ) (pixels row : List Argb) → made ≡ Some shown
    → ((h j : ℕ) → j < h → shown_row part h j ≡ shown → pixels ≡ pixel_row part w h i j n) → row ≡ map (λ p. tint p color) pixels → length row ≡ n → AreMade part w i color made row
made_row part w i color shown made n pixels row is are tinted len =
    record {
      are = λ h j within e.
          let same : shown_row part h j ≡ shown = some_is (shown_row part h j) shown (e ∙ is) in
          tinted ∙ ap (map (λ p. tint p color)) (are h j within same) ∙ ap (λ (k : ℕ). map (λ p. tint p color) (pixel_row part w h i j k)) (sym len);
    }
