-- Equal looks: what the test says, and that they are painted the same.
use Rattle.std.proofs.Common.{◌≡◌, ℕ, ℤ, pos, Bool, true, false, ◌&&◌, ◌==◌, List, Option, Some, None, option_and_then, bytes_eq, refl, sym, ap, ◌∙◌, true≢false, int_eq, nat_lt}
use Rattle.std.proofs.lemmas.Bool.{eqb-true}
use Rattle.std.proofs.lemmas.Bool.Decides.{Decides-int_eq}
use Rattle.std.proofs.lemmas.Slice.Eq.{bytes_eq-Decides}
use Rattle.std.specs.Option.{option_eq}
use Rattle.std.specs.Prelude.{unsigned_abs, ◌-ℤ◌, if◌then◌else◌}
use Rattle.ev_argb.specs.Argb.{Argb}
use Rattle.ev_geom.specs.Area.{Area as Area_, holds}
use Rattle.ev_model.specs.Loaded.{Loaded}
use Rattle.ev_model.specs.Raster.{Raster}
use Rattle.ev_model.specs.Sample.{sample, filled_columns, filled_rows, axes_sample, text_sample}
use Rattle.ev_model.specs.Look.{Look, of_image, of_text, figure, load_number, IsSameLook}
use Rattle.ev_model.specs.Paint.{painted, put_sample, sample_at}
use Rattle.ev_model.specs.declared.object.Op.{Op}
use Rattle.ev_model.specs.declared.object.Op.TheVariants.{Blend, Copy}
use Rattle.ev_model.specs.declared.content.Fill.{Fill}
use Rattle.ev_model.specs.declared.content.Fill.TheVariants.{Filled, Area}
use Rattle.ev_model.specs.declared.content.Border.{Border}
use Rattle.ev_model.specs.declared.content.Content.{Content}
use Rattle.ev_model.specs.declared.content.Content.TheVariants as content
use Rattle.ev_damage.specs.Same.{same_area, same_colour, same_op, same_fill, same_border, same_bool, same_content, same_look}
use Rattle.ev_damage.specs.Stay.{IsOneLoad, image_of, font_of}
use Rattle.ev_damage.proofs.Members.{both}

int_eq_true : (x y : ℤ) → int_eq x y ≡ true → x ≡ y
int_eq_true x y e = (Decides-int_eq x y).0 e

and_4 : (a b c d : Bool) → (((a && b) && c) && d) ≡ true → (a ≡ true) × (b ≡ true) × (c ≡ true) × (d ≡ true)
and_4 a b c d e = let r = both ((a && b) && c) d e in let s = both (a && b) c r.0 in let t = both a b s.0 in (t.0, t.1, s.1, r.1)

area_is : (a b : Area_) → same_area a b ≡ true → a ≡ b
area_is a b e =
    let r = and_4 (int_eq a.x b.x) (int_eq a.y b.y) (int_eq a.w b.w) (int_eq a.h b.h) e in
    let x = int_eq_true a.x b.x r.0 in let y = int_eq_true a.y b.y r.1 in let w = int_eq_true a.w b.w r.2 in let h = int_eq_true a.h b.h r.3 in
    λ i. record { x = x i; y = y i; w = w i; h = h i }

colour_is : (p q : Argb) → same_colour p q ≡ true → p ≡ q
colour_is p q e =
    let t = and_4 (p.a == q.a) (p.r == q.r) (p.g == q.g) (p.b == q.b) e in
    let a = eqb-true p.a q.a t.0 in let r = eqb-true p.r q.r t.1 in let g = eqb-true p.g q.g t.2 in let b = eqb-true p.b q.b t.3 in
    λ i. record { a = a i; r = r i; g = g i; b = b i }

op_is : (o p : Op) → same_op o p ≡ true → o ≡ p
op_is Blend Blend e = refl
op_is Copy Copy e = refl
op_is Blend Copy e = absurd (true≢false (sym e))
op_is Copy Blend e = absurd (true≢false (sym e))

fill_is : (f g : Fill) → same_fill f g ≡ true → f ≡ g
fill_is Filled Filled e = refl
fill_is (Area x y w h) (Area x' y' w' h') e =
    let t = and_4 (int_eq x x') (int_eq y y') (w == w') (h == h') e in
    let a = int_eq_true x x' t.0 in let b = int_eq_true y y' t.1 in let c = eqb-true w w' t.2 in let d = eqb-true h h' t.3 in
    λ i. Area (a i) (b i) (c i) (d i)
fill_is Filled (Area x y w h) e = absurd (true≢false (sym e))
fill_is (Area x y w h) Filled e = absurd (true≢false (sym e))

border_is : (b c : Border) → same_border b c ≡ true → b ≡ c
border_is b c e =
    let t = and_4 (b.l == c.l) (b.r == c.r) (b.t == c.t) (b.b == c.b) e in
    let l = eqb-true b.l c.l t.0 in let r = eqb-true b.r c.r t.1 in let u = eqb-true b.t c.t t.2 in let d = eqb-true b.b c.b t.3 in
    λ i. record { l = l i; r = r i; t = u i; b = d i }

bool_is : (a b : Bool) → same_bool a b ≡ true → a ≡ b
bool_is true b e = sym e
bool_is false true e = absurd (true≢false (sym e))
bool_is false false e = refl

number_is : (n m : Option ℕ) → option_eq ◌==◌ n m ≡ true → n ≡ m
number_is None None e = refl
number_is None (Some m) e = absurd (true≢false (sym e))
number_is (Some n) None e = absurd (true≢false (sym e))
number_is (Some n) (Some m) e = ap Some (eqb-true n m e)

text_is : (s t : List ℕ) → bytes_eq s t ≡ true → s ≡ t
text_is s t e = (bytes_eq-Decides s t).0 e

figure_is : (c d : Content) → same_content c d ≡ true → figure c ≡ figure d
figure_is content.Rect content.Rect e = refl
figure_is content.Rect content.Smart e = absurd (true≢false (sym e))
figure_is content.Smart content.Rect e = absurd (true≢false (sym e))
figure_is content.Smart content.Smart e = refl
figure_is (content.Image p) (content.Image q) e =
    let t = and_4 (option_eq ◌==◌ (load_number p.loaded) (load_number q.loaded)) (same_fill p.fill q.fill) (same_border p.border q.border) (same_bool p.center q.center) e in
    let n = number_is (load_number p.loaded) (load_number q.loaded) t.0 in let f = fill_is p.fill q.fill t.1 in
    let b = border_is p.border q.border t.2 in let c = bool_is p.center q.center t.3 in
    λ i. of_image (n i) (f i) (b i) (c i)
figure_is (content.Text p) (content.Text q) e =
    let t = both (option_eq ◌==◌ (load_number p.loaded) (load_number q.loaded)) (bytes_eq p.text q.text) e in
    let n = number_is (load_number p.loaded) (load_number q.loaded) t.0 in let s = text_is p.text q.text t.1 in
    λ i. of_text (n i) (s i)
figure_is content.Rect (content.Image q) e = absurd (true≢false (sym e))
figure_is content.Rect (content.Text q) e = absurd (true≢false (sym e))
figure_is content.Smart (content.Image q) e = absurd (true≢false (sym e))
figure_is content.Smart (content.Text q) e = absurd (true≢false (sym e))
figure_is (content.Image p) content.Rect e = absurd (true≢false (sym e))
figure_is (content.Image p) content.Smart e = absurd (true≢false (sym e))
figure_is (content.Image p) (content.Text q) e = absurd (true≢false (sym e))
figure_is (content.Text p) content.Rect e = absurd (true≢false (sym e))
figure_is (content.Text p) content.Smart e = absurd (true≢false (sym e))
figure_is (content.Text p) (content.Image q) e = absurd (true≢false (sym e))

-- what the test says
pub same_look_is : (l m : Look) → same_look l m ≡ true → IsSameLook l m
same_look_is l m e =
    let r = both (same_area l.area m.area && same_area l.object.rect m.object.rect && same_op l.object.op m.object.op && same_colour l.color m.color) (same_content l.object.content m.object.content) e in
    let t = and_4 (same_area l.area m.area) (same_area l.object.rect m.object.rect) (same_op l.object.op m.object.op) (same_colour l.color m.color) r.0 in
    record {
      area = area_is l.area m.area t.0;
      rect = area_is l.object.rect m.object.rect t.1;
      op = op_is l.object.op m.object.op t.2;
      color = colour_is l.color m.color t.3;
      figure = figure_is l.object.content m.object.content r.1;
    }

-- the same load gives the same value
load_is : {T : Type 0} (l m : Option (Loaded T)) → load_number l ≡ load_number m → IsOneLoad l m → l ≡ m
load_is None None e one = refl
load_is None (Some m) e one = cc
load_is (Some l) None e one = cc
load_is (Some l) (Some m) e one =
    let n : l.number ≡ m.number = cc in
    let v = one.value l m refl refl n in
    λ i. Some (record { number = n i; value = v i })

pub image_number : (n m : Option ℕ) (f g : Fill) (b c : Border) (s t : Bool) → of_image n f b s ≡ of_image m g c t → (n ≡ m) × (f ≡ g) × (b ≡ c) × (s ≡ t)
image_number n m f g b c s t e = (cc, cc, cc, cc)

pub text_number : (n m : Option ℕ) (s t : List ℕ) → of_text n s ≡ of_text m t → (n ≡ m) × (s ≡ t)
text_number n m s t e = (cc, cc)

-- what an image part shows, by its fill, its borders and its centre
abbrev shown_by : Raster → Fill → Border → Bool → ℕ → ℕ → ℕ → ℕ → Option Argb
shown_by image fill border center w h i j =
    let columns = filled_columns fill border image.w w in
    let rows = filled_rows fill border image.h h in
    if nat_lt 0 columns.len && nat_lt 0 rows.len then axes_sample image columns rows center i j else None

-- equal contents show the same at each place
pub sample_is : (c d : Content) (w h i j : ℕ) → figure c ≡ figure d → IsOneLoad (image_of c) (image_of d) → IsOneLoad (font_of c) (font_of d) → sample c w h i j ≡ sample d w h i j
sample_is content.Rect content.Rect w h i j e images fonts = refl
sample_is content.Smart content.Smart w h i j e images fonts = refl
sample_is content.Rect content.Smart w h i j e images fonts = cc
sample_is content.Smart content.Rect w h i j e images fonts = cc
sample_is (content.Image p) (content.Image q) w h i j e images fonts =
    let t = image_number (load_number p.loaded) (load_number q.loaded) p.fill q.fill p.border q.border p.center q.center e in
    let l = load_is p.loaded q.loaded t.0 images in
    λ n. option_and_then (λ loaded. shown_by loaded.value (t.1 n) (t.2 n) (t.3 n) w h i j) (l n)
sample_is (content.Text p) (content.Text q) w h i j e images fonts =
    let t = text_number (load_number p.loaded) (load_number q.loaded) p.text q.text e in
    let l = load_is p.loaded q.loaded t.0 fonts in
    λ n. option_and_then (λ loaded. text_sample loaded.value (t.1 n) i j) (l n)
sample_is content.Rect (content.Image q) w h i j e images fonts = cc
sample_is content.Rect (content.Text q) w h i j e images fonts = cc
sample_is content.Smart (content.Image q) w h i j e images fonts = cc
sample_is content.Smart (content.Text q) w h i j e images fonts = cc
sample_is (content.Image p) content.Rect w h i j e images fonts = cc
sample_is (content.Image p) content.Smart w h i j e images fonts = cc
sample_is (content.Image p) (content.Text q) w h i j e images fonts = cc
sample_is (content.Text p) content.Rect w h i j e images fonts = cc
sample_is (content.Text p) content.Smart w h i j e images fonts = cc
sample_is (content.Text p) (content.Image q) w h i j e images fonts = cc

-- equal looks are painted the same
pub painted_is : (l m : Look) (x y : ℕ) (value : Argb) → IsSameLook l m → IsOneLoad (image_of l.object.content) (image_of m.object.content) → IsOneLoad (font_of l.object.content) (font_of m.object.content) → painted l x y value ≡ painted m x y value
painted_is l m x y value same images fonts =
    let at : sample_at l.object x y ≡ sample_at m.object x y = (λ n. sample l.object.content (unsigned_abs (same.rect n).w) (unsigned_abs (same.rect n).h) (unsigned_abs (pos x -ℤ (same.rect n).x)) (unsigned_abs (pos y -ℤ (same.rect n).y)))
    ∙ sample_is l.object.content m.object.content _ _ _ _ same.figure images fonts in
    λ n. if holds (same.area n) (pos x) (pos y) then put_sample (same.op n) (same.color n) (at n) value else value
