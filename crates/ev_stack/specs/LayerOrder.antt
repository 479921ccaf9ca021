-- The objects of one parent from bottom to top, each with its layer.
use Rattle.std.specs.Prelude.{◌≢◌, ℕ, zero, suc, ℤ, Bool, is_some, List, [], ◌∷◌, Option, Some, None, if◌then◌else◌, ◌==◌, ◌≤ℤ◌, int_lt}

-- the layer of an object
abbrev pub layer_in : List (ℕ × ℤ) → ℕ → Option ℤ
layer_in [] id = None
layer_in (one ∷ rest) id = if one.0 == id then Some one.1 else layer_in rest id

-- whether an object of the list has this id
abbrev pub is_in : List (ℕ × ℤ) → ℕ → Bool
is_in order id = is_some (layer_in order id)

-- no object of the list has this id
abbrev pub IsApart : ℕ → List (ℕ × ℤ) → Type 0
IsApart id [] = Unit {0}
IsApart id (one ∷ rest) = (one.0 ≢ id) × IsApart id rest

-- the ids differ
abbrev pub IsDistinct : List (ℕ × ℤ) → Type 0
IsDistinct [] = Unit {0}
IsDistinct (one ∷ rest) = IsApart one.0 rest × IsDistinct rest

-- no object of the list is in a lower layer
abbrev pub IsFrom : ℤ → List (ℕ × ℤ) → Type 0
IsFrom layer [] = Unit {0}
IsFrom layer (one ∷ rest) = (layer ≤ℤ one.1) × IsFrom layer rest

-- layers never fall
abbrev pub IsLayered : List (ℕ × ℤ) → Type 0
IsLayered [] = Unit {0}
IsLayered (one ∷ rest) = IsFrom one.1 rest × IsLayered rest

-- layers never fall, and no object stands twice
pub record IsOrder (order : List (ℕ × ℤ)) : Type 0 where
  pub layered : IsLayered order
  pub distinct : IsDistinct order

-- the lowest object
abbrev pub bottom_in : List (ℕ × ℤ) → Option ℕ
bottom_in [] = None
bottom_in (one ∷ rest) = Some one.0

-- the object directly above another
abbrev pub above_in : List (ℕ × ℤ) → ℕ → Option ℕ
above_in [] id = None
above_in (one ∷ rest) id = if one.0 == id then bottom_in rest else above_in rest id

-- the object at a place, counted from 0 at the bottom
abbrev pub at_place : List (ℕ × ℤ) → ℕ → Option ℕ
at_place [] place = None
at_place (one ∷ rest) zero = Some one.0
at_place (one ∷ rest) (suc place) = at_place rest place

-- the ids from bottom to top
abbrev pub ids_of : List (ℕ × ℤ) → List ℕ
ids_of [] = []
ids_of (one ∷ rest) = one.0 ∷ ids_of rest

-- the ids of what stands above an object, from bottom to top
abbrev pub ids_above : List (ℕ × ℤ) → ℕ → List ℕ
ids_above [] id = []
ids_above (one ∷ rest) id = if one.0 == id then ids_of rest else ids_above rest id

-- the ids from an object on, or none
abbrev pub ids_from : List (ℕ × ℤ) → Option ℕ → List ℕ
ids_from order None = []
ids_from order (Some id) = id ∷ ids_above order id

-- without this object
abbrev pub without : List (ℕ × ℤ) → ℕ → List (ℕ × ℤ)
without [] id = []
without (one ∷ rest) id = if one.0 == id then rest else one ∷ without rest id

-- an object put at the top of its layer
abbrev pub put_top : List (ℕ × ℤ) → ℕ → ℤ → List (ℕ × ℤ)
put_top [] id layer = (id, layer) ∷ []
put_top (one ∷ rest) id layer = if int_lt layer one.1 then (id, layer) ∷ one ∷ rest else one ∷ put_top rest id layer

-- an object put at the bottom of its layer
abbrev pub put_bottom : List (ℕ × ℤ) → ℕ → ℤ → List (ℕ × ℤ)
put_bottom [] id layer = (id, layer) ∷ []
put_bottom (one ∷ rest) id layer = if int_lt one.1 layer then one ∷ put_bottom rest id layer else (id, layer) ∷ one ∷ rest

-- an object put directly above another
abbrev pub put_above : List (ℕ × ℤ) → ℕ → ℕ → ℤ → List (ℕ × ℤ)
put_above [] other id layer = []
put_above (one ∷ rest) other id layer = if one.0 == other then one ∷ (id, layer) ∷ rest else one ∷ put_above rest other id layer

-- an object put directly below another
abbrev pub put_below : List (ℕ × ℤ) → ℕ → ℕ → ℤ → List (ℕ × ℤ)
put_below [] other id layer = []
put_below (one ∷ rest) other id layer = if one.0 == other then (id, layer) ∷ one ∷ rest else one ∷ put_below rest other id layer

-- an object moved to the top or the bottom of a layer, or next to another
abbrev pub to_top : List (ℕ × ℤ) → ℕ → ℤ → List (ℕ × ℤ)
to_top order id layer = put_top (without order id) id layer

abbrev pub to_bottom : List (ℕ × ℤ) → ℕ → ℤ → List (ℕ × ℤ)
to_bottom order id layer = put_bottom (without order id) id layer

abbrev pub to_above : List (ℕ × ℤ) → ℕ → ℕ → ℤ → List (ℕ × ℤ)
to_above order other id layer = put_above (without order id) other id layer

abbrev pub to_below : List (ℕ × ℤ) → ℕ → ℕ → ℤ → List (ℕ × ℤ)
to_below order other id layer = put_below (without order id) other id layer
