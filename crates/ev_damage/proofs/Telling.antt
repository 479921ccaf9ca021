-- The test of two looks passes exactly where they are equal.
use Rattle.std.proofs.Common.{◌≡◌, ◌↔◌, ℕ, ℤ, Bool, true, false, ◌&&◌, ◌==◌, Option, Some, None, ap, ap₂, refl, int_eq}
use Rattle.std.proofs.lemmas.Bool.{eq-eqb}
use Rattle.std.proofs.lemmas.Bool.Decides.{Decides-int_eq}
use Rattle.std.proofs.lemmas.Slice.Eq.{bytes_eq-Decides}
use Rattle.std.specs.Option.{option_eq}
use Rattle.ev_argb.specs.Argb.{Argb}
use Rattle.ev_geom.specs.Area.{Area as Area_}
use Rattle.ev_model.specs.Look.{Look, figure, load_number, IsSameLook}
use Rattle.ev_model.specs.declared.object.Op.{Op}
use Rattle.ev_model.specs.declared.object.Op.TheVariants.{Blend, Copy}
use Rattle.ev_model.specs.declared.content.Fill.{Fill}
use Rattle.ev_model.specs.declared.content.Fill.TheVariants.{Filled, Area}
use Rattle.ev_model.specs.declared.content.Border.{Border}
use Rattle.ev_model.specs.declared.content.Content.{Content}
use Rattle.ev_model.specs.declared.content.Content.TheVariants as content
use Rattle.ev_damage.specs.Same.{same_area, same_colour, same_op, same_fill, same_border, same_bool, same_content, same_look}
use Rattle.ev_damage.proofs.Sameness.{same_look_is, image_number, text_number}

all_4 : (a b c d : Bool) → a ≡ true → b ≡ true → c ≡ true → d ≡ true → (((a && b) && c) && d) ≡ true
all_4 a b c d p q r s = ap₂ ◌&&◌ (ap₂ ◌&&◌ (ap₂ ◌&&◌ p q) r) s

true_int : (x y : ℤ) → x ≡ y → int_eq x y ≡ true
true_int x y e = (Decides-int_eq x y).1 e

true_area : (a b : Area_) → a ≡ b → same_area a b ≡ true
true_area a b e = all_4 (int_eq a.x b.x) (int_eq a.y b.y) (int_eq a.w b.w) (int_eq a.h b.h)
    (true_int a.x b.x (ap (λ r. r.x) e)) (true_int a.y b.y (ap (λ r. r.y) e)) (true_int a.w b.w (ap (λ r. r.w) e)) (true_int a.h b.h (ap (λ r. r.h) e))

true_colour : (p q : Argb) → p ≡ q → same_colour p q ≡ true
true_colour p q e = all_4 (p.a == q.a) (p.r == q.r) (p.g == q.g) (p.b == q.b)
    (eq-eqb p.a q.a (ap (λ c. c.a) e)) (eq-eqb p.r q.r (ap (λ c. c.r) e)) (eq-eqb p.g q.g (ap (λ c. c.g) e)) (eq-eqb p.b q.b (ap (λ c. c.b) e))

true_op : (o p : Op) → o ≡ p → same_op o p ≡ true
true_op Blend Blend e = refl
true_op Copy Copy e = refl
true_op Blend Copy e = cc
true_op Copy Blend e = cc

true_fill : (f g : Fill) → f ≡ g → same_fill f g ≡ true
true_fill Filled Filled e = refl
true_fill (Area x y w h) (Area x' y' w' h') e =
    all_4 (int_eq x x') (int_eq y y') (w == w') (h == h') (true_int x x' cc) (true_int y y' cc) (eq-eqb w w' cc) (eq-eqb h h' cc)
true_fill Filled (Area x y w h) e = cc
true_fill (Area x y w h) Filled e = cc

true_border : (b c : Border) → b ≡ c → same_border b c ≡ true
true_border b c e = all_4 (b.l == c.l) (b.r == c.r) (b.t == c.t) (b.b == c.b)
    (eq-eqb b.l c.l (ap (λ d. d.l) e)) (eq-eqb b.r c.r (ap (λ d. d.r) e)) (eq-eqb b.t c.t (ap (λ d. d.t) e)) (eq-eqb b.b c.b (ap (λ d. d.b) e))

true_bool : (a b : Bool) → a ≡ b → same_bool a b ≡ true
true_bool true true e = refl
true_bool true false e = cc
true_bool false true e = cc
true_bool false false e = refl

true_number : (n m : Option ℕ) → n ≡ m → option_eq ◌==◌ n m ≡ true
true_number None None e = refl
true_number None (Some m) e = cc
true_number (Some n) None e = cc
true_number (Some n) (Some m) e = eq-eqb n m cc

true_content : (c d : Content) → figure c ≡ figure d → same_content c d ≡ true
true_content content.Rect content.Rect e = refl
true_content content.Smart content.Smart e = refl
true_content (content.Image p) (content.Image q) e =
    let t = image_number (load_number p.loaded) (load_number q.loaded) p.fill q.fill p.border q.border p.center q.center e in
    all_4 (option_eq ◌==◌ (load_number p.loaded) (load_number q.loaded)) (same_fill p.fill q.fill) (same_border p.border q.border) (same_bool p.center q.center)
    (true_number (load_number p.loaded) (load_number q.loaded) t.0) (true_fill p.fill q.fill t.1) (true_border p.border q.border t.2) (true_bool p.center q.center t.3)
true_content (content.Text p) (content.Text q) e =
    let t = text_number (load_number p.loaded) (load_number q.loaded) p.text q.text e in
    ap₂ ◌&&◌ (true_number (load_number p.loaded) (load_number q.loaded) t.0) ((bytes_eq-Decides p.text q.text).1 t.1)
true_content content.Rect content.Smart e = cc
true_content content.Smart content.Rect e = cc
true_content content.Rect (content.Image q) e = cc
true_content content.Rect (content.Text q) e = cc
true_content content.Smart (content.Image q) e = cc
true_content content.Smart (content.Text q) e = cc
true_content (content.Image p) content.Rect e = cc
true_content (content.Image p) content.Smart e = cc
true_content (content.Image p) (content.Text q) e = cc
true_content (content.Text p) content.Rect e = cc
true_content (content.Text p) content.Smart e = cc
true_content (content.Text p) (content.Image q) e = cc

true_look : (l m : Look) → IsSameLook l m → same_look l m ≡ true
true_look l m same = ap₂ ◌&&◌
    (all_4 (same_area l.area m.area) (same_area l.object.rect m.object.rect) (same_op l.object.op m.object.op) (same_colour l.color m.color)
    (true_area l.area m.area same.area) (true_area l.object.rect m.object.rect same.rect) (true_op l.object.op m.object.op same.op) (true_colour l.color m.color same.color))
    (true_content l.object.content m.object.content same.figure)

-- the test tells equal looks
pub tells : (l m : Look) → (same_look l m ≡ true) ↔ IsSameLook l m
tells l m = (same_look_is l m, true_look l m)
