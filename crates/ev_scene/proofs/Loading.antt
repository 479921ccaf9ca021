-- Objects of a kind, and what a load gives them.
use Rattle.std.proofs.Common.{◌≡◌, ℕ, ℤ, true, List, Option, Some, None, is_some, refl}
use Rattle.std.proofs.lemmas.Option.{none-some}
use Rattle.std.specs.Option.{option_map}
use Rattle.ev_state.specs.Held.{Held}
use Rattle.ev_model.specs.Content.{kind_of}
use Rattle.ev_model.specs.declared.content.Kind.{Kind}
use Rattle.ev_model.specs.declared.object.Object.{Object}
use Rattle.ev_links.specs.Ties.{Ties}
use Rattle.ev_scene.specs.Ids.{of_id, put}
use Rattle.ev_scene.specs.Board.{values_of}
use Rattle.ev_scene.specs.Change.{apply, IsLook}
use Rattle.ev_scene.specs.Whole.{IsWhole}
use Rattle.ev_scene.specs.declared.change.Change.{Change}
use Rattle.ev_scene.proofs.Standing.{looked}
use Rattle.ev_scene.proofs.Verdicts.{has_state}

-- what has a kind is there
has_kind : (slot : Option Object) (kind : Kind) → option_map (λ o. kind_of o.content) slot ≡ Some kind → (o : Object) × (slot ≡ Some o)
has_kind None kind e = absurd (none-some kind e)
has_kind (Some o) kind e = (o, refl)

module _ {w h : ℕ} (states : List (Option (Held Object))) {groups : List (List (ℕ × ℤ))} {ties : Ties} (whole : IsWhole (record { w = w; h = h; objects = values_of states; groups = groups }) ties)
    (id : ℕ) (kind : Kind) (of_kind : option_map (λ o. kind_of o.content) (of_id (values_of states) id) ≡ Some kind) where
  pub stands_there : is_some (of_id states id) ≡ true
  stands_there = let o : (o : Object) × (of_id (values_of states) id ≡ Some o) = has_kind (of_id (values_of states) id) kind of_kind in has_state states id o.0 o.1

  pub loaded : (c : Change) (objects' : List (Option Object)) → IsLook c → objects' ≡ put (values_of states) id (option_map (apply c) (of_id (values_of states) id)) → IsWhole (record { w = w; h = h; objects = objects'; groups = groups }) ties
  loaded c objects' look e =
      let o : (o : Object) × (of_id (values_of states) id ≡ Some o) = has_kind (of_id (values_of states) id) kind of_kind in
      looked whole id o.0 c objects' o.1 look e
