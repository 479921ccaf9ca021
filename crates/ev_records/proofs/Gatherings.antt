-- Areas that are gathered.
use Rattle.std.proofs.Common.{◌≡◌, ℕ, zero, suc, ◌<◌, ◌+◌, ◌⊎◌, ℤ, pos, Bool, true, false, ◌&&◌, ◌||◌, List, [], ◌∷◌, ◌++◌, length, get_or, take, All, refl, sym, ap, ◌∙◌, arith, subst, add-one}
use Rattle.std.proofs.Math.Bool.{or-false}
use Rattle.std.proofs.lemmas.List.{take_more}
use Rattle.std.proofs.lemmas.List.Folds.{list_any-append}
use Rattle.std.proofs.lemmas.List.Elements.{All-append}
use Rattle.ev_geom.specs.Area.{Area, holds, meet}
use Rattle.ev_geom.specs.Bands.{has_pixel, FitsRegion}
use Rattle.ev_damage.proofs.Adding.{adds_nothing}
use Rattle.ev_records.specs.Showing.{Showing, showing}
use Rattle.ev_records.specs.Standing.{Standings}
use Rattle.ev_records.specs.Turned.{is_turned, still, held_in, in_pair, any_below, in_turned, Gathers}

pub gathers_none : (more : ℤ → ℤ → Bool) (old : List Area) → ((x y : ℤ) → more x y ≡ false) → Gathers more old old
gathers_none more old h = record { pixels = λ x y. sym (ap (λ t. has_pixel old x y || t) (h x y) ∙ or-false (has_pixel old x y)); fits = λ f. f }

single : (a : Area) → FitsRegion a → All FitsRegion (a ∷ [])
single a h zero d l = h
single a h (suc i) d l = absurd (omega (arith, l))

pub gathers_one : (more : ℤ → ℤ → Bool) (old new : List Area) (m : Area) → new ≡ old ++ m ∷ [] → ((x y : ℤ) → holds m x y ≡ more x y) → FitsRegion m → Gathers more old new
gathers_one more old new m e h fit = record {
  pixels = λ x y. ap (λ rects. has_pixel rects x y) e ∙ list_any-append (λ area. holds area x y) old (m ∷ []) ∙ ap (λ t. has_pixel old x y || t) (or-false (holds m x y) ∙ h x y);
  fits = λ f. let P : List Area → Type 0 = All FitsRegion in subst P (sym e) (All-append FitsRegion old (m ∷ []) f (single m fit));
}

or_assoc : (a b c : Bool) → ((a || b) || c) ≡ (a || (b || c))
or_assoc true b c = refl
or_assoc false b c = refl

pub gathers_both : (one two all : ℤ → ℤ → Bool) (old mid new : List Area) → Gathers one old mid → Gathers two mid new → ((x y : ℤ) → (one x y || two x y) ≡ all x y) → Gathers all old new
gathers_both one two all old mid new a b h = record {
  pixels = λ x y. b.pixels x y ∙ ap (λ t. t || two x y) (a.pixels x y) ∙ or_assoc (has_pixel old x y) (one x y) (two x y) ∙ ap (λ t. has_pixel old x y || t) (h x y);
  fits = λ f. b.fits (a.fits f);
}

pub gathers_same : (one two : ℤ → ℤ → Bool) (old new : List Area) → Gathers one old new → ((x y : ℤ) → one x y ≡ two x y) → Gathers two old new
gathers_same one two old new g h = record { pixels = λ x y. g.pixels x y ∙ ap (λ t. has_pixel old x y || t) (h x y); fits = g.fits }

-- one more of those below
pub below_more : (p : ℤ → ℤ → ℕ → Bool) (n : ℕ) (old mid new : List Area) → Gathers (λ x y. any_below (p x y) n) old mid → Gathers (λ x y. p x y n) mid new → Gathers (λ x y. any_below (p x y) (n + 1)) old new
below_more p n old mid new a b = gathers_both (λ x y. any_below (p x y) n) (λ x y. p x y n) (λ x y. any_below (p x y) (n + 1)) old mid new a b (λ x y. rw add-one refl)

-- one more of the moved
pub turned_more : (all : List Showing) (st : Standings) (moved : List ℕ) (i : ℕ) (old mid new : List Area) → i < length moved → Gathers (in_turned all st (take i moved)) old mid
    → Gathers (λ x y. any_below (in_pair all st x y (get_or moved i 0)) (length all)) mid new → Gathers (in_turned all st (take (i + 1) moved)) old new
turned_more all st moved i old mid new inside a b =
    let at : ℕ = get_or moved i 0 in
    gathers_both (in_turned all st (take i moved)) (λ x y. any_below (in_pair all st x y at) (length all)) (in_turned all st (take (i + 1) moved)) old mid new a b
    (λ x y. sym (ap (λ places. in_turned all st places x y) (take_more moved i 0 inside)
    ∙ list_any-append (λ a. any_below (in_pair all st x y a) (length all)) (take i moved) (at ∷ [])
    ∙ ap (λ t. in_turned all st (take i moved) x y || t) (or-false (any_below (in_pair all st x y at) (length all)))))

-- two areas that have no pixel in common
pub gathers_apart : (a b m : Area) (old : List Area) → m ≡ meet a b → (m.w ≡ pos 0) ⊎ (m.h ≡ pos 0) → Gathers (λ x y. holds a x y && holds b x y) old old
gathers_apart a b m old e h = record { pixels = (adds_nothing a b m old e h).pixels; fits = λ f. f }

-- a pair that turned, and one that did not
pub pair_at : (all : List Showing) (st : Standings) (at other : ℕ) (old new : List Area) → is_turned st at other ≡ true
    → Gathers (λ x y. held_in (still (showing all other)) x y && held_in (still (showing all at)) x y) old new → Gathers (λ x y. in_pair all st x y at other) old new
pair_at all st at other old new t g =
    gathers_same (λ x y. held_in (still (showing all other)) x y && held_in (still (showing all at)) x y) (λ x y. in_pair all st x y at other) old new g
    (λ x y. sym (ap (λ u. u && (held_in (still (showing all other)) x y && held_in (still (showing all at)) x y)) t))

pub pair_not : (all : List Showing) (st : Standings) (at other : ℕ) (old : List Area) → is_turned st at other ≡ false → Gathers (λ x y. in_pair all st x y at other) old old
pair_not all st at other old e = gathers_none (λ x y. in_pair all st x y at other) old (λ x y. ap (λ t. t && (held_in (still (showing all other)) x y && held_in (still (showing all at)) x y)) e)

-- where none moved nothing is gathered
pub none_moved : (all : List Showing) (st : Standings) (moved : List ℕ) (old : List Area) → length moved ≡ 0 → Gathers (in_turned all st moved) old old
none_moved all st [] old e = gathers_none (in_turned all st []) old (λ x y. refl)
none_moved all st (m ∷ ms) old e = absurd (omega (arith, e))
