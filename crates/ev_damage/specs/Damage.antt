-- The pixels that may look different in another scene.
use Rattle.std.specs.Prelude.{ℕ, ℤ, Bool, false, not, ◌&&◌, ◌||◌, ◌==◌, List, [], ◌∷◌}
use Rattle.std.specs.List.{list_any}
use Rattle.ev_geom.specs.Area.{holds}
use Rattle.ev_model.specs.Look.{Look}
use Rattle.ev_damage.specs.Same.{same_look}

-- whether these looks have an equal one of the same object
abbrev pub is_kept : List Look → Look → Bool
is_kept looks l = list_any (λ m. m.id == l.id && same_look l m) looks

-- whether the pixel lies in the area of a look that the others do not have
abbrev pub in_unkept : List Look → List Look → ℤ → ℤ → Bool
in_unkept others looks x y = list_any (λ l. not (is_kept others l) && holds l.area x y) looks

-- whether the looks of these two objects stand in this order
abbrev pub in_order : ℕ → ℕ → List Look → Bool
in_order id other [] = false
in_order id other (l ∷ looks) = (l.id == id && list_any (λ m. m.id == other) looks) || in_order id other looks

-- whether the others have both looks, in the opposite order
abbrev pub is_crossed : List Look → Look → Look → Bool
is_crossed others l m = is_kept others l && is_kept others m && in_order m.id l.id others

-- whether the pixel lies in the areas of both looks of such a pair
abbrev pub in_crossed : List Look → List Look → ℤ → ℤ → Bool
in_crossed others [] x y = false
in_crossed others (l ∷ looks) x y = list_any (λ m. is_crossed others l m && (holds l.area x y && holds m.area x y)) looks || in_crossed others looks x y

-- whether the pixel lies in the damage between two lists of looks, each from the lowest to the highest: in the area of
-- a look that the other list does not have, or in those of two looks that both lists have, in opposite order
abbrev pub is_damaged : List Look → List Look → ℤ → ℤ → Bool
is_damaged old new x y = in_unkept new old x y || in_unkept old new x y || in_crossed new old x y
