-- A row of a text on a patch.
use Rattle.std.proofs.Common.{ℕ, ◌≡◌, ◌+◌, ◌-◌, ◌<◌, ◌≤◌, ℤ, pos, ◌+ℤ◌, ◌≤ℤ◌, refl, sym, ap, ap₂, ◌∙◌, subst, true, false, Bool, arith}
use Rattle.std.specs.Prelude.{is_some, if◌then◌else◌, unsigned_abs, ◌-ℤ◌, Option, Some, None, List, option_and_then}
use Rattle.std.proofs.lemmas.Int.{ints}
use Rattle.ev_argb.specs.Argb.{Argb, tint}
use Rattle.ev_argb.specs.Tile.{Tile}
use Rattle.ev_model.specs.Limits.{IsObject, IsContent}
use Rattle.ev_model.specs.Loaded.{Loaded}
use Rattle.ev_model.specs.Glyphs.{Glyphs, IsText, text_bit}
use Rattle.ev_model.specs.Paint.{put, put_sample, sample_at}
use Rattle.ev_model.specs.Sample.{sample, text_sample, white}
use Rattle.ev_model.specs.declared.content.Content.{Content}
use Rattle.ev_model.specs.declared.content.Content.TheVariants as content
use Rattle.ev_model.specs.declared.content.TextPart.{TextPart}
use Rattle.ev_model.specs.declared.object.Object.{Object}
use Rattle.ev_model.specs.declared.object.Op.{Op}
use Rattle.ev_cmds.specs.Patches.{size_of}
use Rattle.ev_cmds.specs.Sheets.{Fits, op_of}
use Rattle.ev_cmds.specs.declared.sheet.Command.{Command}
use Rattle.ev_draw.specs.Making.{Paints, span, line_of, shown_by, ShowsText, ShowsFrom, CarriesOut}
use Rattle.ev_draw.proofs.Patching.{repainted, left_alone}
use Rattle.ev_draw.proofs.Sheeting.{carried}

-- columns of an object, counted from its first one
columns_fit : (rx rw : ℤ) (a l r i w : ℕ) → rx ≤ℤ pos (a + l) → pos (a + r) ≤ℤ (rx +ℤ rw) → l < r → i ≡ unsigned_abs (pos (a + l) -ℤ rx) → w ≡ unsigned_abs rw → i + (r - l) ≤ w
columns_fit rx rw a l r i w from to some p q = omega (arith, ints)

column_more : (rx : ℤ) (a l c i : ℕ) → rx ≤ℤ pos (a + l) → l ≤ c → i ≡ unsigned_abs (pos (a + l) -ℤ rx) → i + (c - l) ≡ unsigned_abs (pos (a + c) -ℤ rx)
column_more rx a l c i from low p = omega (arith, ints)

row_within : (ry rh : ℤ) (a t b y j h : ℕ) → ry ≤ℤ pos (a + t) → pos (a + b) ≤ℤ (ry +ℤ rh) → t ≤ y → y < b → j ≡ unsigned_abs (pos (a + y) -ℤ ry) → h ≡ unsigned_abs rh → j < h
row_within ry rh a t b y j h from to low high p q = omega (arith, ints)

-- the column of its object at which a command's patch begins
abbrev pub first_column : Command → ℕ → ℕ
first_column c left = unsigned_abs (pos (left + c.patch.left) -ℤ c.object.value.rect.x)

-- where a row of a command's patch lies in its object
pub record IsLine (c : Command) (font : Glyphs) (text : List ℕ) (left top y i j : ℕ) : Type 0 where
  pub content : ShowsFrom c.object.value (first_column c left) font text i
  pub low : c.patch.top ≤ y
  pub high : y < c.patch.bottom
  pub row : j ≡ unsigned_abs (pos (top + y) -ℤ c.object.value.rect.y)

sample_is : (c : Command) (font : Glyphs) (text : List ℕ) (left top pw ph y i j : ℕ) → Fits left top pw ph c → IsLine c font text left top y i j → (column line : ℕ) → line ≡ y → c.patch.left ≤ column
    → text_sample font text (i + (column - c.patch.left)) j ≡ sample_at c.object.value (left + column) (top + line)
sample_is c font text left top pw ph y i j f l column line here low =
    let across = column_more _ left c.patch.left column (first_column c left) f.from_left low refl in
    let down : j ≡ unsigned_abs (pos (top + line) -ℤ c.object.value.rect.y) = l.row ∙ ap (λ (k : ℕ). unsigned_abs (pos (top + k) -ℤ c.object.value.rect.y)) (sym here) in
    sym (l.content.samples (unsigned_abs c.object.value.rect.w) (unsigned_abs c.object.value.rect.h) (column - c.patch.left) j)
    ∙ ap₂ (λ (n m : ℕ). sample c.object.value.content (unsigned_abs c.object.value.rect.w) (unsigned_abs c.object.value.rect.h) n m) across down

pub text_line : (c : Command) (font : Glyphs) (text : List ℕ) (left top pw ph y i j x n : ℕ) (op : Op) (old new : Tile) → Fits left top pw ph c → IsLine c font text left top y i j → x ≡ c.patch.left → n ≡ c.patch.right - c.patch.left → op ≡ op_of c
    → Paints (span x y n) (λ column line value. put_sample op c.color (text_sample font text (i + (column - x)) j) value) n old new
    → Paints (line_of c.patch y) (shown_by c left top) (c.patch.right - c.patch.left) old new
text_line c font text left top pw ph y i j x n op old new f l at width is painted =
    let right : x + n ≡ c.patch.right = (let some = f.patch.wide in omega arith) in
    let same : span x y n ≡ line_of c.patch y = ap₂ (λ (a b : ℕ). record { left = a; right = b; top = y; bottom = y + 1 }) at right in
    repainted (span x y n) (line_of c.patch y) _ (shown_by c left top) n (c.patch.right - c.patch.left) old new same width
    (λ column line value has.
    let low = has.left in
    let here : line ≡ y = (let t = has.top in let b = has.bottom in omega arith) in
    ap (λ (a : ℕ). put_sample op c.color (text_sample font text (i + (column - a)) j) value) at
    ∙ ap₂ (λ (o : Op) (s : Option Argb). put_sample o c.color s value) is (sample_is c font text left top pw ph y i j f l column line here low))
    painted

pub text_shows : (o : Object) (part : TextPart) (loaded : Loaded Glyphs) (font : Glyphs) (text : List ℕ) → o.content ≡ content.Text part → part.loaded ≡ Some loaded → font ≡ loaded.value → text ≡ part.text → ShowsText o font text
text_shows o part loaded font text e f g h = record {
  samples = λ w h' i j.
      ap (λ (k : Content). sample k w h' i j) e
      ∙ ap (λ (l : Option (Loaded Glyphs)). option_and_then (λ (l : Loaded Glyphs). text_sample l.value part.text i j) l) f
      ∙ ap₂ (λ (f : Glyphs) (t : List ℕ). text_sample f t i j) (sym g) (sym h);
}

-- the rest of a text from a column on
pub shows_from : (o : Object) (font : Glyphs) (text rest : List ℕ) (i first x : ℕ) → ShowsText o font text → i ≡ first → ((y j : ℕ) → text_bit font rest (x + j) y ≡ text_bit font text (i + j) y) → ShowsFrom o first font rest x
shows_from o font text rest i first x shows at same = record {
  samples = λ w h k j.
      shows.samples w h (first + k) j ∙ ap (λ (n : ℕ). text_sample font text (n + k) j) (sym at)
      ∙ ap (λ (b : Bool). if b then Some white else None) (sym (same j k));
}

pub no_text : (c : Command) (part : TextPart) (left top : ℕ) (old : Tile) → c.object.value.content ≡ content.Text part → part.loaded ≡ None → CarriesOut c left top old old
no_text c part left top old e f =
    carried c left top old old (shown_by c left top) (λ x y value has. refl)
    (left_alone c.patch (shown_by c left top) (size_of c.patch) old
    (λ x y value has.
    ap (λ (found : Option Argb). put_sample (op_of c) c.color found value)
    (ap (λ (k : Content). sample k (unsigned_abs c.object.value.rect.w) (unsigned_abs c.object.value.rect.h) (unsigned_abs (pos (left + x) -ℤ c.object.value.rect.x)) (unsigned_abs (pos (top + y) -ℤ c.object.value.rect.y))) e
    ∙ ap (λ (l : Option (Loaded Glyphs)). option_and_then (λ (l : Loaded Glyphs). text_sample l.value part.text (unsigned_abs (pos (left + x) -ℤ c.object.value.rect.x)) (unsigned_abs (pos (top + y) -ℤ c.object.value.rect.y))) l) f)))

pub text_good : (o : Object) (part : TextPart) → IsObject o → o.content ≡ content.Text part → IsText part.text
text_good o part limits e = subst IsContent e limits.content

-- a bit of a text shows white
pub put_bit : (op : Op) (color : Argb) (bit : Bool) (value : Argb)
    → (if is_some (if bit then Some white else None) then put op (tint white color) value else value) ≡ put_sample op color (if bit then Some white else None) value
put_bit op color true value = refl
put_bit op color false value = refl
