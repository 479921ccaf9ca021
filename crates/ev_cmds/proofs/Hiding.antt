-- What replaces everything doesn't look at what lies below.
use Rattle.std.proofs.Common.{ℕ, ◌≡◌, ◌+◌, ◌-◌, ◌*◌, ◌<◌, ◌≤◌, Bool, true, false, not, ◌&&◌, pos, List, Option, Some, None, IfSome, All, refl, sym, ap, ap₂, ◌∙◌, subst, inl, inr, arith}
use Rattle.std.specs.Prelude.{if◌then◌else◌, ◌==◌, nat_lt, slice_get, option_and_then}
use Rattle.std.proofs.lemmas.Bool.{and_parts, eqb-true}
use Rattle.std.proofs.lemmas.Option.{slice_get_cases}
use Rattle.std.proofs.Math.Nat.{mul-le-mul_left}
use Rattle.ev_argb.specs.Argb.{Argb, IsPremultiplied, mul, tint, over, channel_over}
use Rattle.ev_argb.proofs.Channels.{mul_below}
use Rattle.ev_geom.specs.Area.{holds}
use Rattle.ev_model.specs.Axis.{phase, is_middle, source_at}
use Rattle.ev_model.specs.Glyphs.{Glyphs, text_bit}
use Rattle.ev_model.specs.Loaded.{Loaded}
use Rattle.ev_model.specs.Raster.{Raster, IsImage}
use Rattle.ev_model.specs.Look.{Look}
use Rattle.ev_model.specs.Paint.{put, put_sample, sample_at, painted}
use Rattle.ev_model.specs.Sample.{white, columns_of, rows_of, raster_at, axes_sample, image_sample, text_sample, sample}
use Rattle.ev_model.specs.declared.content.ImagePart.{ImagePart}
use Rattle.ev_model.specs.declared.content.Content.{Content}
use Rattle.ev_model.specs.declared.content.Content.TheVariants as content
use Rattle.ev_model.specs.declared.object.Op.{Op}
use Rattle.ev_model.specs.declared.object.Op.TheVariants.{Blend, Copy}
use Rattle.ev_cmds.specs.Opaque.{hides, IsSoundImage, IsSoundContent}
use Rattle.ev_cmds.specs.Sheets.{IsSolid}

-- premultiplied pixels stay so
room : (alpha s d : ℕ) → s ≤ alpha → alpha < 256 → d < 256 → channel_over alpha s d < 256
room alpha s d sl al dl =
    let e : (256 - alpha) * d ≤ (256 - alpha) * 255 = mul-le-mul_left (256 - alpha) (omega arith) in
    omega arith

below : (alpha s d e : ℕ) → s ≤ alpha → d ≤ e → channel_over alpha s d ≤ channel_over alpha alpha e
below alpha s d e sl dl =
    let f : (256 - alpha) * d ≤ (256 - alpha) * e = mul-le-mul_left (256 - alpha) dl in
    omega arith

over_good : (s d : Argb) → IsPremultiplied s → IsPremultiplied d → IsPremultiplied (over s d)
over_good s d p q =
    record {
      alpha = room s.a s.a d.a (omega arith) p.alpha q.alpha;
      red = below s.a s.r d.r d.a p.red q.red;
      green = below s.a s.g d.g d.a p.green q.green;
      blue = below s.a s.b d.b d.a p.blue q.blue;
    }

less : (x y z w : ℕ) → x ≤ y → z ≤ w → mul x z ≤ mul y w
less x y z w h k = let m = mul_below x y z w h k in omega arith

tint_good : (p c : Argb) → IsPremultiplied p → IsPremultiplied c → IsPremultiplied (tint p c)
tint_good p c h k =
    let most : mul p.a c.a ≤ mul 255 255 = less p.a 255 c.a 255 (let a = h.alpha in omega arith) (let a = k.alpha in omega arith) in
    record {
      alpha = omega arith;
      red = less p.r p.a c.r c.a h.red k.red;
      green = less p.g p.a c.g c.a h.green k.green;
      blue = less p.b p.a c.b c.a h.blue k.blue;
    }

white_good : IsPremultiplied white
white_good = record { alpha = omega arith; red = omega arith; green = omega arith; blue = omega arith }

put_good : (op : Op) (q value : Argb) → IsPremultiplied q → IsPremultiplied value → IsPremultiplied (put op q value)
put_good Copy q value h k = h
put_good Blend q value h k = over_good q value h k

-- samples are premultiplied
get_good : (pixels : List Argb) (k : ℕ) → All IsPremultiplied pixels → IfSome (slice_get pixels k) IsPremultiplied
get_good pixels k all = go (slice_get pixels k) refl where
  go : (found : Option Argb) → slice_get pixels k ≡ found → IfSome found IsPremultiplied
  go None e = tt
  go (Some q) e = elim (slice_get_cases pixels k).1 [
    | inl inside ↦ let same : q ≡ inside.0 = (let two = e in let one = inside.2 in cc) in subst IsPremultiplied (inside.3 ∙ sym same) (all k inside.0 inside.1)
    | inr past ↦ absurd (let two = e in let one = past.1 in cc)
  ]

raster_good : (image : Raster) (x y : Option ℕ) → IsImage image → IfSome (raster_at image x y) IsPremultiplied
raster_good image (Some x) (Some y) h = get_good image.pixels (y * image.w + x) h.premultiplied
raster_good image (Some x) None h = tt
raster_good image None y h = tt

if_good : (b : Bool) (found : Option Argb) → IfSome found IsPremultiplied → IfSome (if b then found else None) IsPremultiplied
if_good true found h = h
if_good false found h = tt

not_good : (b : Bool) (found : Option Argb) → IfSome found IsPremultiplied → IfSome (if b then None else found) IsPremultiplied
not_good true found h = tt
not_good false found h = h

loaded_good : (part : ImagePart) (loaded : Option (Loaded Raster)) (w h i j : ℕ) → IsSoundImage loaded → IfSome (option_and_then (λ l. image_sample l.value part w h i j) loaded) IsPremultiplied
loaded_good part None w h i j s = tt
loaded_good part (Some loaded) w h i j s =
    let columns = columns_of part loaded.value w in
    let rows = rows_of part loaded.value h in
    let x = source_at columns (phase columns i) in
    let y = source_at rows (phase rows j) in
    if_good (nat_lt 0 columns.len && nat_lt 0 rows.len) (axes_sample loaded.value columns rows part.center i j)
    (not_good (not part.center && is_middle columns (phase columns i) && is_middle rows (phase rows j)) (raster_at loaded.value x y) (raster_good loaded.value x y s))

text_good : (loaded : Option (Loaded Glyphs)) (text : List ℕ) (i j : ℕ) → IfSome (option_and_then (λ l. text_sample l.value text i j) loaded) IsPremultiplied
text_good None text i j = tt
text_good (Some loaded) text i j = if_good (text_bit loaded.value text i j) (Some white) white_good

pub sample_good : (c : Content) (w h i j : ℕ) → IsSoundContent c → IfSome (sample c w h i j) IsPremultiplied
sample_good content.Rect w h i j s = white_good
sample_good content.Smart w h i j s = tt
sample_good (content.Image part) w h i j s = loaded_good part part.loaded w h i j s
sample_good (content.Text part) w h i j s = text_good part.loaded part.text i j

pub put_sample_good : (op : Op) (color : Argb) (found : Option Argb) (value : Argb) → IsPremultiplied color → IfSome found IsPremultiplied → IsPremultiplied value → IsPremultiplied (put_sample op color found value)
put_sample_good op color None value c f v = v
put_sample_good op color (Some q) value c f v = put_good op (tint q color) value (tint_good q color f c) v

-- an opaque pixel hides what it is painted over
full_channel : (s d : ℕ) → d < 256 → channel_over 255 s d ≡ s
full_channel s d h = omega arith

abbrev pixel : ℕ → ℕ → ℕ → ℕ → Argb
pixel a r g b = record { a = a; r = r; g = g; b = b }

same_pixel : {a b c d e f g h : ℕ} → a ≡ e → b ≡ f → c ≡ g → d ≡ h → pixel a b c d ≡ pixel e f g h
same_pixel {a} {b} {c} {d} {e} {f} {g} {h} p q r s = ap₂ (λ (x y : ℕ). pixel x y c d) p q ∙ ap₂ (λ (x y : ℕ). pixel e f x y) r s

over_opaque : (s d : Argb) → s.a ≡ 255 → IsPremultiplied d → over s d ≡ s
over_opaque s d e h =
    let a : channel_over s.a s.a d.a ≡ s.a = ap (λ k. channel_over k s.a d.a) e ∙ full_channel s.a d.a h.alpha in
    let r : channel_over s.a s.r d.r ≡ s.r = ap (λ k. channel_over k s.r d.r) e ∙ full_channel s.r d.r (let x = h.red in let y = h.alpha in omega arith) in
    let g : channel_over s.a s.g d.g ≡ s.g = ap (λ k. channel_over k s.g d.g) e ∙ full_channel s.g d.g (let x = h.green in let y = h.alpha in omega arith) in
    let b : channel_over s.a s.b d.b ≡ s.b = ap (λ k. channel_over k s.b d.b) e ∙ full_channel s.b d.b (let x = h.blue in let y = h.alpha in omega arith) in
    same_pixel a r g b

tint_opaque : (q c : Argb) → q.a ≡ 255 → c.a ≡ 255 → (tint q c).a ≡ 255
tint_opaque q c e f = ap₂ mul e f

-- a sample that is put by copy, or is opaque in an opaque colour, hides what lies below
pub solid_sample : (op : Op) (color q : Argb) (found : Option Argb) → found ≡ Some q → hides op ((q.a == 255) && (color.a == 255)) ≡ true → IsSolid op color found
solid_sample op color q found e h = record { pixel = q; is = e; hides = λ value good. put_hides op color q value h good }
  where
    put_hides : (op : Op) (color q value : Argb) → hides op ((q.a == 255) && (color.a == 255)) ≡ true → IsPremultiplied value → put op (tint q color) value ≡ tint q color
    put_hides Copy color q value h good = refl
    put_hides Blend color q value h good =
        let both : ((q.a == 255) ≡ true) × ((color.a == 255) ≡ true) = and_parts (q.a == 255) (color.a == 255) h in
        over_opaque (tint q color) value (tint_opaque q color (eqb-true q.a 255 both.0) (eqb-true color.a 255 both.1)) good

-- a record takes premultiplied values to such values
pub keeps : (l : Look) (x y : ℕ) (value : Argb) → IsPremultiplied l.color → IsSoundContent l.object.content → IsPremultiplied value → IsPremultiplied (painted l x y value)
keeps l x y value color content good = go (holds l.area (pos x) (pos y)) where
  go : (b : Bool) → IsPremultiplied (if b then put_sample l.object.op l.color (sample_at l.object x y) value else value)
  go true = put_sample_good l.object.op l.color (sample_at l.object x y) value color (sample_good l.object.content _ _ _ _ content) good
  go false = good
