-- An object goes from its parent to another one: it is put there, and then taken out where it stood.
use Rattle.std.proofs.Common.{◌≡◌, ◌≢◌, ℕ, ℤ, ◌<◌, true, false, List, [], ◌∷◌, length, Option, Some, None, is_some, if◌then◌else◌, refl, sym, ap, ◌∙◌, subst, arith, eq-eqb}
use Rattle.std.proofs.lemmas.List.{length-set, set-set, set-get_or, get_or-set_same, get_or-set_other}
use Rattle.std.specs.Prelude.{int_lt}
use Rattle.std.specs.FinMap.{get}
use Rattle.std.specs.Option.{option_map, option_and_then}
use Rattle.std.proofs.lemmas.Option.{same_Some}
use Rattle.std.proofs.Math.Bool.{true≢false}
use Rattle.ev_model.specs.declared.object.Object.{Object}
use Rattle.ev_stack.specs.LayerOrder.{layer_in, is_in, put_top, without, IsApart, IsDistinct}
use Rattle.ev_stack.proofs.Lists.{neq-eqb}
use Rattle.ev_groups.specs.Groups.{place, group, with_group}
use Rattle.ev_links.specs.Ties.{Ties, parent_at, IsSound}
use Rattle.ev_links.specs.LinkCalls.{with_parent}
use Rattle.ev_links.proofs.Sound.{parent_there}
use Rattle.ev_scene.specs.Ids.{of_id, put}
use Rattle.ev_scene.specs.Change.{apply}
use Rattle.ev_scene.specs.ObjectTies.{tie_of, layer_at}
use Rattle.ev_scene.specs.Whole.{IsWhole}
use Rattle.ev_scene.specs.declared.change.Change.TheVariants as change
use Rattle.ev_scene.proofs.Places.{id_low, id_high}
use Rattle.ev_scene.proofs.Apart.{apart_absent}
use Rattle.ev_scene.proofs.Restacking.{layer_in-put_top}
use Rattle.ev_scene.proofs.Standing.{has_group, entered}

-- what was put on top and is taken out again
taken_back : (xs : List (ℕ × ℤ)) (id : ℕ) (layer : ℤ) → IsApart id xs → without (put_top xs id layer) id ≡ xs
taken_back [] id layer apart = rw (eq-eqb id id refl) refl
taken_back (one ∷ rest) id layer apart =
    let later : without (put_top rest id layer) id ≡ rest = taken_back rest id layer apart.1 in
    elim (int_lt layer one.1) as (λ b. without (if b then (id, layer) ∷ one ∷ rest else one ∷ put_top rest id layer) id ≡ one ∷ rest) [
      | true ↦ rw (eq-eqb id id refl) refl
      | false ↦ rw (neq-eqb one.0 id apart.0) (ap (λ xs. one ∷ xs) later)
    ]

module _ {w h : ℕ} {objects : List (Option Object)} {groups : List (List (ℕ × ℤ))} {ties : Ties} (whole : IsWhole (record { w = w; h = h; objects = objects; groups = groups }) ties) where
  -- each object has a place for members, and so has the canvas
  pub members_known : (id : ℕ) (o : Object) → of_id objects id ≡ Some o → id < length groups
  members_known id o there = let low = id_low objects id o there in let high = id_high objects id o there in let e = whole.grouped in omega (arith, low, high, e)

  module _ (sound : IsSound (get ties)) where
    -- who stands in an object doesn't stand among those that stand in none
    pub not_top : (id : ℕ) (o : Object) → of_id objects id ≡ Some o → is_some o.parent ≡ true → (p : Object) → of_id objects id ≡ Some p → place p.parent ≢ 0
    not_top id o there e p also = subst (λ p. place p.parent ≢ 0) (same_Some o p (sym there ∙ also)) (go o.parent (ap (option_and_then (λ tie. tie.parent)) (whole.tied id ∙ ap (option_map tie_of) there)) e) where
      go : (parent : Option ℕ) → parent_at (get ties) id ≡ parent → is_some parent ≡ true → place parent ≢ 0
      go None f e = absurd (true≢false (sym e))
      go (Some q) f e = λ zero_is. true≢false (sym (parent_there (get ties) sound id q f) ∙ ap (λ q. is_some (get ties q)) zero_is ∙ ap is_some (whole.tied 0))

module _ {w h : ℕ} {objects : List (Option Object)} {groups : List (List (ℕ × ℤ))} {ties : Ties} (whole : IsWhole (record { w = w; h = h; objects = objects; groups = groups }) ties)
    (id : ℕ) (o : Object) (to : Option ℕ) (there : of_id objects id ≡ Some o) (known : place to < length groups) (other : place o.parent ≢ place to)
    (groups' : List (List (ℕ × ℤ))) (pushed : groups' ≡ with_group groups to (put_top (group groups to) id o.layer)) where
  apart : IsApart id (group groups to)
  apart = apart_absent (group groups to) id (whole.stands (place to) id ∙ ap (option_and_then (layer_at (place to))) there ∙ ap (λ b. if b then Some o.layer else None) (neq-eqb (place o.parent) (place to) other))

  put_there : group groups' to ≡ put_top (group groups to) id o.layer
  put_there = ap (λ groups. group groups to) pushed ∙ get_or-set_same groups (place to) (put_top (group groups to) id o.layer) [] known

  same_from : group groups' o.parent ≡ group groups o.parent
  same_from = ap (λ groups. group groups o.parent) pushed ∙ get_or-set_other groups (place to) (place o.parent) (put_top (group groups to) id o.layer) [] other

  as_many : length groups' ≡ length groups
  as_many = ap length pushed ∙ length-set groups (place to) (put_top (group groups to) id o.layer)

  -- it stands in the other parent
  pub stands_there : is_in (group groups' to) id ≡ true
  stands_there = ap (λ group. is_in group id) put_there ∙ ap is_some (layer_in-put_top (group groups to) id o.layer id apart ∙ ap (λ b. if b then Some o.layer else layer_in (group groups to) id) (eq-eqb id id refl))

  -- its old group has a place
  pub from_known : place o.parent < length groups'
  from_known = subst (λ n. place o.parent < n) (sym as_many) (has_group whole id o there)

  -- taken out again at once, all is as before
  pub undone : (groups'' : List (List (ℕ × ℤ))) → groups'' ≡ with_group groups' to (without (group groups' to) id) → groups'' ≡ groups
  undone groups'' e =
      e ∙ ap (λ members. with_group groups' to (without members id)) put_there ∙ ap (with_group groups' to) (taken_back (group groups to) id o.layer apart)
      ∙ ap (λ groups'. with_group groups' to (group groups to)) pushed ∙ set-set groups (place to) (put_top (group groups to) id o.layer) (group groups to) ∙ set-get_or groups (place to) []

  -- taken out where it stood, it has gone to the other parent
  pub gone : (objects' : List (Option Object)) (groups'' : List (List (ℕ × ℤ))) → IsDistinct (group groups' o.parent) → objects' ≡ put objects id (option_map (apply (change.Parent to)) (of_id objects id))
      → groups'' ≡ with_group groups' o.parent (without (group groups' o.parent) id) → IsWhole (record { w = w; h = h; objects = objects'; groups = groups'' }) (with_parent ties id to)
  gone objects' groups'' distinct e f =
      entered whole id o to objects' groups'' (with_parent ties id to) there known other (subst IsDistinct same_from distinct) apart e
      (f ∙ ap (λ members. with_group groups' o.parent (without members id)) same_from ∙ ap (λ groups'. with_group groups' o.parent (without (group groups o.parent) id)) pushed) refl
