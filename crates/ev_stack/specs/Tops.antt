-- The index of a list in layers: the topmost object of each layer in use.
use Rattle.std.specs.Prelude.{ℕ, zero, suc, ℤ, Bool, false, List, [], ◌∷◌, Option, Some, None, if◌then◌else◌, ◌==◌, int_lt, not}
use Rattle.std.specs.Ordering.{int_eq}

-- whether the lowest object of the list is in this layer
abbrev pub begins_in : List (ℕ × ℤ) → ℤ → Bool
begins_in [] layer = false
begins_in (one ∷ rest) layer = int_eq one.1 layer

-- the topmost object of each layer, from the lowest layer to the highest
abbrev pub tops_of : List (ℕ × ℤ) → List (ℕ × ℤ)
tops_of [] = []
tops_of (one ∷ rest) = if begins_in rest one.1 then tops_of rest else one ∷ tops_of rest

-- the tops after an object came into a layer, directly above the object or the end `place`
abbrev pub with_top : List (ℕ × ℤ) → ℕ → ℤ → ℕ → List (ℕ × ℤ)
with_top [] id layer place = (id, layer) ∷ []
with_top (one ∷ rest) id layer place =
    if int_lt one.1 layer then one ∷ with_top rest id layer place
    else if int_eq one.1 layer then (if one.0 == place then (id, layer) ∷ rest else one ∷ rest)
    else (id, layer) ∷ one ∷ rest

-- a top put before others, if there is one
abbrev pub put_instead : Option ℕ → ℤ → List (ℕ × ℤ) → List (ℕ × ℤ)
put_instead None layer rest = rest
put_instead (Some id) layer rest = (id, layer) ∷ rest

-- the tops after an object left its layer, where `instead` is the one below it there
abbrev pub without_top : List (ℕ × ℤ) → ℕ → ℤ → Option ℕ → List (ℕ × ℤ)
without_top [] id layer instead = []
without_top (one ∷ rest) id layer instead =
    if int_lt one.1 layer then one ∷ without_top rest id layer instead
    else if one.0 == id then put_instead instead layer rest
    else one ∷ rest

-- how many objects at the front pass a test
abbrev pub front_len : (ℕ × ℤ → Bool) → List (ℕ × ℤ) → ℕ
front_len test [] = 0
front_len test (one ∷ rest) = if test one then suc (front_len test rest) else 0

-- how many objects at the front are in lower layers, and in layers up to this
abbrev pub below_len : List (ℕ × ℤ) → ℤ → ℕ
below_len xs layer = front_len (λ one. int_lt one.1 layer) xs

abbrev pub up_to_len : List (ℕ × ℤ) → ℤ → ℕ
up_to_len xs layer = front_len (λ one. not (int_lt layer one.1)) xs

-- the id before a place of the list that begins after `start`
abbrev pub id_before : ℕ → List (ℕ × ℤ) → ℕ → ℕ
id_before start xs zero = start
id_before start [] (suc place) = start
id_before start (one ∷ rest) (suc place) = id_before one.0 rest place

-- an object, if it is there in this layer
abbrev pub only_in : Option ℤ → ℕ → ℤ → Option ℕ
only_in None id layer = None
only_in (Some own) id layer = if int_eq own layer then Some id else None

abbrev pub in_layer : (ℕ → Option ℤ) → ℕ → ℤ → Option ℕ
in_layer layers id layer = only_in (layers id) id layer
