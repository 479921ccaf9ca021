-- The bare places of tiles, found edge by edge.
use Rattle.std.proofs.Common.{ℕ, ◌≡◌, ◌+◌, ◌<◌, Bool, true, false, ◌&&◌, ◌||◌, nat_lt, pos, List, [], ◌∷◌, ◌++◌, take, length, get_or, Option, Some, None, is_some, refl, sym, ap, ap₂, ◌∙◌, arith}
use Rattle.std.proofs.lemmas.List.Folds.{list_any_at, list_any_more, list_any-append}
use Rattle.ev_geom.specs.Area.{Area, holds}
use Rattle.ev_geom.specs.Bands.{has_pixel}
use Rattle.ev_areas.specs.Edges.{has_pixel_at, AreEdgesOf}
use Rattle.ev_cmds.specs.SeenEdges.{IsPatchOn, IsPartOn, any_has}
use Rattle.ev_cmds.specs.TileJobs.{HasNone, HasOne}
use Rattle.ev_cmds.specs.Masks.{has_bit, Adds}
use Rattle.ev_areas.specs.declared.edges.Edges.{Edges}
use Rattle.ev_cmds.specs.declared.patch.Patch.{Patch}
use Rattle.ev_cmds.proofs.Fitting.{corner}

or_false : (b : Bool) → (b || false) ≡ b
or_false true = refl
or_false false = refl

any_more : (near : List Edges) (i : ℕ) (d : Edges) (x y : ℕ) → i < length near → any_has (take (i + 1) near) x y ≡ (any_has (take i near) x y || has_pixel_at (get_or near i d) x y)
any_more near i d x y low = list_any_more (λ (e : Edges). has_pixel_at e x y) near i d low

pub one_met : (near : List Edges) (i : ℕ) (d : Edges) (left top : ℕ) (part : Option Patch) → i < length near → IsPartOn (get_or near i d) left top part → is_some part ≡ true → HasOne (any_has near) left top
one_met near i d left top None low seen some = absurd (cc)
one_met near i d left top (Some p) low seen some = record {
  column = p.left;
  row = p.top;
  wide = omega (arith, seen.patch.wide, seen.patch.right);
  tall = omega (arith, seen.patch.tall, seen.patch.bottom);
  held = list_any_at (λ (e : Edges). has_pixel_at e (left + p.left) (top + p.top)) near i d low
      (sym (seen.places p.left p.top (omega (arith, seen.patch.wide, seen.patch.right)) (omega (arith, seen.patch.tall, seen.patch.bottom)))
      ∙ corner p p.left p.top (omega arith) seen.patch.wide (omega arith) seen.patch.tall);
}

pub none_met : (near : List Edges) (i : ℕ) (d : Edges) (left top : ℕ) (part : Option Patch) → i < length near → HasNone (any_has (take i near)) left top → IsPartOn (get_or near i d) left top part → is_some part ≡ false → HasNone (any_has (take (i + 1) near)) left top
none_met near i d left top None low before seen none x y wide tall = any_more near i d (left + x) (top + y) low ∙ ap₂ ◌||◌ (before x y wide tall) (seen x y wide tall)
none_met near i d left top (Some p) low before seen none x y wide tall = absurd (cc)

-- the set has the pixels of the first i edges
abbrev pub HasFirst : List Edges → ℕ → ℕ → ℕ → List ℕ → Type 0
HasFirst near i left top rows = (x y : ℕ) → x < 64 → y < 64 → has_bit rows x y ≡ any_has (take i near) (left + x) (top + y)

pub first_more : (near : List Edges) (i : ℕ) (d : Edges) (left top : ℕ) (rows new : List ℕ) (p : Patch) → i < length near → HasFirst near i left top rows → IsPatchOn (get_or near i d) left top p → Adds p rows new → HasFirst near (i + 1) left top new
first_more near i d left top rows new p low before seen adds x y wide tall =
    adds.places x y wide tall ∙ ap₂ ◌||◌ (before x y wide tall) (seen.places x y wide tall) ∙ sym (any_more near i d (left + x) (top + y) low)

pub first_same : (near : List Edges) (i : ℕ) (d : Edges) (left top : ℕ) (rows : List ℕ) → i < length near → HasFirst near i left top rows → IsPartOn (get_or near i d) left top None → HasFirst near (i + 1) left top rows
first_same near i d left top rows low before seen x y wide tall =
    before x y wide tall ∙ sym (or_false (any_has (take i near) (left + x) (top + y))) ∙ ap (λ (b : Bool). any_has (take i near) (left + x) (top + y) || b) (sym (seen x y wide tall)) ∙ sym (any_more near i d (left + x) (top + y) low)

-- the edges of the first i rectangles
abbrev pub AreFirst : List Area → ℕ → ℕ → ℕ → List Edges → Type 0
AreFirst rects i w h found = (x y : ℕ) → any_has found x y ≡ (has_pixel (take i rects) (pos x) (pos y) && (nat_lt x w && nat_lt y h))

cut_or : (a b c : Bool) → ((a && c) || ((b && c) || false)) ≡ ((a || b) && c)
cut_or true b true = refl
cut_or true true false = refl
cut_or true false false = refl
cut_or false true true = refl
cut_or false true false = refl
cut_or false false c = refl

pub edges_more : (rects : List Area) (i w h : ℕ) (d rect : Area) (found : List Edges) (e : Edges) → i < length rects → AreFirst rects i w h found → rect ≡ get_or rects i d → AreEdgesOf rect w h e → AreFirst rects (i + 1) w h (found ++ e ∷ [])
edges_more rects i w h d rect found e low before is are x y =
    list_any-append (λ (f : Edges). has_pixel_at f x y) found (e ∷ [])
    ∙ ap₂ (λ (a b : Bool). a || (b || false)) (before x y) (are.pixels x y)
    ∙ cut_or (has_pixel (take i rects) (pos x) (pos y)) (holds rect (pos x) (pos y)) (nat_lt x w && nat_lt y h)
    ∙ ap (λ (area : Area). (has_pixel (take i rects) (pos x) (pos y) || holds area (pos x) (pos y)) && (nat_lt x w && nat_lt y h)) is
    ∙ sym (ap (λ (b : Bool). b && (nat_lt x w && nat_lt y h)) (list_any_more (λ (area : Area). holds area (pos x) (pos y)) rects i d low))
