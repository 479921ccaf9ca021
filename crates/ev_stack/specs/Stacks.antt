-- Siblings by their links and by the tops of their layers.
use Rattle.std.specs.Prelude.{◌≡◌, ◌≢◌, ℕ, true, is_some, ◌+◌, ◌≤◌, length, vec_capacity}
use Rattle.std.specs.HashMap.{hash_map_len}
use Rattle.ev_stack.specs.declared.stack.Stack.{Stack}
use Rattle.ev_stack.specs.LayerOrder.{layer_in, IsApart, IsLayered}
use Rattle.ev_stack.specs.Links.{layer_of, order_of, IsSound}
use Rattle.ev_stack.specs.Tops.{tops_of}

-- the list is layered, has exactly the objects that have a node, and is indexed by the tops of its
-- layers, with room for a layer of its own for each object
pub record IsStack (stack : Stack) : Type 0 where
  pub sound : IsSound stack.chain
  pub whole : (id : ℕ) → layer_of stack.chain id ≡ layer_in (order_of stack.chain) id
  pub count : hash_map_len stack.chain.nodes ≡ length (order_of stack.chain)
  pub layered : IsLayered (order_of stack.chain)
  pub tops : stack.layers.tops.items ≡ tops_of (order_of stack.chain)
  pub room : length (order_of stack.chain) ≤ vec_capacity stack.layers.tops

-- the same, but that one object has a node and room, and stands nowhere
pub record IsLoose (stack : Stack) (id : ℕ) : Type 0 where
  pub sound : IsSound stack.chain
  pub object : id ≢ 0
  pub apart : IsApart id (order_of stack.chain)
  pub node : is_some (layer_of stack.chain id) ≡ true
  pub whole : (other : ℕ) → other ≢ id → layer_of stack.chain other ≡ layer_in (order_of stack.chain) other
  pub count : hash_map_len stack.chain.nodes ≡ length (order_of stack.chain) + 1
  pub layered : IsLayered (order_of stack.chain)
  pub tops : stack.layers.tops.items ≡ tops_of (order_of stack.chain)
  pub room : length (order_of stack.chain) + 1 ≤ vec_capacity stack.layers.tops
