-- A list kept by links: each object names its neighbours. The number 0 stands for both ends.
use Rattle.std.specs.Prelude.{◌≡◌, ℕ, ℤ, pos, Bool, ◌||◌, ◌⊎◌, List, [], ◌∷◌, Option, Some, None, if◌then◌else◌, ◌==◌, ◌≤◌, nat_eq, suc, zero, is_some, length, int_lt}
use Rattle.std.specs.Option.{option_map, unwrap_or}
use Rattle.std.specs.HashMap.{get, hash_map_len}
use Rattle.ev_stack.specs.LayerOrder.{layer_in, IsApart, IsDistinct}
use Rattle.ev_stack.specs.declared.chain.Node.{Node}
use Rattle.ev_stack.specs.declared.chain.Chain.{Chain}

-- the id after an id in the list that begins after `start`, 0 at the end
abbrev pub next_in : ℕ → List (ℕ × ℤ) → ℕ → ℕ
next_in start [] id = 0
next_in start (one ∷ rest) id = if id == start then one.0 else next_in one.0 rest id

-- an id, or none for the end
abbrev pub id_or_none : ℕ → Option ℕ
id_or_none id = if id == 0 then None else Some id

-- the id before an id in the list that begins after `start`
abbrev pub previous_in : ℕ → List (ℕ × ℤ) → ℕ → ℕ
previous_in start [] id = if id == 0 then start else 0
previous_in start (one ∷ rest) id = if id == one.0 then start else previous_in one.0 rest id

-- an object put directly after the id `place` of the list that begins after `start`
abbrev pub put_after : ℕ → List (ℕ × ℤ) → ℕ → ℕ × ℤ → List (ℕ × ℤ)
put_after start [] place new = if start == place then new ∷ [] else []
put_after start (one ∷ rest) place new = if start == place then new ∷ one ∷ rest else one ∷ put_after one.0 rest place new

-- the start, or the id of an object of the list
abbrev pub IsPlace : ℕ → List (ℕ × ℤ) → ℕ → Type 0
IsPlace start [] place = start ≡ place
IsPlace start (one ∷ rest) place = (start ≡ place) ⊎ IsPlace one.0 rest place

abbrev pub above_at : Option Node → ℕ
above_at None = 0
above_at (Some node) = node.above

abbrev pub below_at : Option Node → ℕ
below_at None = 0
below_at (Some node) = node.below

-- the id that stands directly above, 0 at the top; above 0 is the bottom
abbrev pub above_of : Chain → ℕ → ℕ
above_of chain id = if id == 0 then chain.bottom else above_at (get nat_eq chain.nodes id)

-- the id that stands directly below, 0 at the bottom; below 0 is the top
abbrev pub below_of : Chain → ℕ → ℕ
below_of chain id = if id == 0 then chain.top else below_at (get nat_eq chain.nodes id)

abbrev pub layer_of : Chain → ℕ → Option ℤ
layer_of chain id = option_map (λ node. node.layer) (get nat_eq chain.nodes id)

-- an end of the list or an object of it
abbrev pub is_place : Chain → ℕ → Bool
is_place chain id = id == 0 || is_some (get nat_eq chain.nodes id)

-- the objects met on a walk of at most so many steps upward from an id
abbrev pub walk : (ℕ → ℕ) → (ℕ → Option ℤ) → ℕ → ℕ → List (ℕ × ℤ)
walk above layer zero id = []
walk above layer (suc steps) id =
    if above id == 0 then [] else (above id, unwrap_or (layer (above id)) (pos 0)) ∷ walk above layer steps (above id)

-- the objects from bottom to top, found by a walk along the links
unfoldable pub order_of : Chain → List (ℕ × ℤ)
order_of chain = walk (above_of chain) (layer_of chain) (hash_map_len chain.nodes) 0

-- the links and layers are those of the list
pub record IsChain (chain : Chain) (order : List (ℕ × ℤ)) : Type 0 where
  pub above : (id : ℕ) → above_of chain id ≡ next_in 0 order id
  pub below : (id : ℕ) → below_of chain id ≡ previous_in 0 order id
  pub layers : (id : ℕ) (layer : ℤ) → layer_in order id ≡ Some layer → layer_of chain id ≡ Some layer
  pub distinct : IsDistinct order
  pub apart : IsApart 0 order
  pub fits : length order ≤ hash_map_len chain.nodes

-- the links and layers are those of the walk
abbrev pub IsSound : Chain → Type 0
IsSound chain = IsChain chain (order_of chain)

-- where so many steps upward from an object or from none lead
abbrev pub climbed : (ℕ → Option ℕ) → ℕ → Option ℕ → Option ℕ
climbed above zero found = found
climbed above (suc steps) None = None
climbed above (suc steps) (Some id) = climbed above steps (above id)

-- the last id at the front whose layers are at most this, or the start
abbrev pub last_up_to : ℕ → List (ℕ × ℤ) → ℤ → ℕ
last_up_to start [] layer = start
last_up_to start (one ∷ rest) layer = if int_lt layer one.1 then start else last_up_to one.0 rest layer

-- the last id at the front whose layers are below this, or the start
abbrev pub last_below : ℕ → List (ℕ × ℤ) → ℤ → ℕ
last_below start [] layer = start
last_below start (one ∷ rest) layer = if int_lt one.1 layer then last_below one.0 rest layer else start
