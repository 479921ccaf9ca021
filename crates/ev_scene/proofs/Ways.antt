-- The way up in a list of objects comes to an end where the way by their ties does.
use Rattle.std.proofs.Common.{◌≡◌, ℕ, zero, suc, ◌<◌, ◌≤◌, true, false, ◌==◌, List, [], ◌∷◌, length, map, cond, Option, Some, None, is_some, inl, inr, refl, sym, subst, ap, ◌∙◌, arith}
use Rattle.std.proofs.lemmas.Bool.Decides.{nat_tests, eqb_tells}
use Rattle.std.proofs.lemmas.List.{length-map}
use Rattle.std.proofs.lemmas.Option.{none-some, same_Some}
use Rattle.std.proofs.Math.Bool.{true≢false}
use Rattle.std.specs.Prelude.{nat_eq, IsTrue, IsSome, IfSome}
use Rattle.std.specs.Option.{option_map, option_and_then, option_or}
use Rattle.std.specs.Map.{lookup}
use Rattle.ev_links.specs.Ties.{Tie, next_at, IsWay, IsSound}
use Rattle.ev_links.proofs.Fits.{way_within}
use Rattle.ev_links.proofs.Sound.{next_there, clipper_there, parent_there}
use Rattle.ev_model.specs.Captured.{IsLinked}
use Rattle.ev_model.specs.Chain.{ends}
use Rattle.ev_model.specs.Up.{with_id, next}
use Rattle.ev_model.specs.declared.object.Object.{Object}
use Rattle.ev_scene.specs.ObjectTies.{tie_of}

-- ---- objects by their ids

found_id : (objects : List Object) (id : ℕ) (u : Object) → with_id objects id ≡ Some u → u.id ≡ id
found_id [] id u e = absurd (none-some u e)
found_id (o ∷ objects) id u e =
    elim (eqb_tells o.id id) [
      | inl same ↦ let first : Some o ≡ Some u = rw same.0 at e in sym (ap (λ o. o.id) (same_Some o u first)) ∙ same.1
      | inr differ ↦ found_id objects id u (rw differ.0 at e)
    ]

abbrev entry : Object → ℕ × Object
entry o = (o.id, o)

lookup_with_id : (objects : List Object) (id : ℕ) → lookup (nat_eq id) (map entry objects) ≡ with_id objects id
lookup_with_id [] id = refl
lookup_with_id (o ∷ objects) id =
    let same : nat_eq id o.id ≡ (o.id == id) = grind (arith, nat_tests) in
    rw same (elim (o.id == id) as (λ b. cond b (Some o) (lookup (nat_eq id) (map entry objects)) ≡ cond b (Some o) (with_id objects id)) [
      | true ↦ refl
      | false ↦ lookup_with_id objects id
    ])

pub is_some_map : {A B : Type 0} (f : A → B) (o : Option A) → is_some (option_map f o) ≡ is_some o
is_some_map f None = refl
is_some_map f (Some x) = refl

-- ---- ways

pub ends_none : {A : Type 0} (n : ℕ) (step : A → Option A) → ends n step None ≡ true
ends_none zero step = refl
ends_none (suc n) step = refl

-- Objects that each lead to one id or none, and the way that their ids lead.
module _ (objects : List Object) (lead : Object → Option ℕ) (over : ℕ → Option ℕ)
    (leads : (o : Object) → with_id objects o.id ≡ Some o → over o.id ≡ lead o)
    (known : (q to : ℕ) → over q ≡ Some to → is_some (with_id objects to) ≡ true) where
  abbrev step : Object → Option Object
  step o = option_and_then (with_id objects) (lead o)

  further : (n later : ℕ) (found : Option Object) → with_id objects later ≡ found → is_some found ≡ true
      → ((u : Object) → with_id objects u.id ≡ Some u → u.id ≡ later → ends n step (step u) ≡ true) → ends (suc n) step found ≡ true
  further n later None e some along = absurd (true≢false (sym some))
  further n later (Some u) e some along = let own : u.id ≡ later = found_id objects later u e in along u (ap (with_id objects) own ∙ e) own

  follows : (n : ℕ) (o : Object) (way : List ℕ) → with_id objects o.id ≡ Some o → IsWay over o.id way → length way ≤ n → ends n step (step o) ≡ true
  follows n o [] there p few = ap (ends n step) (ap (option_and_then (with_id objects)) (sym (leads o there) ∙ p)) ∙ ends_none n step
  follows zero o (later ∷ rest) there p few = absurd (omega arith)
  follows (suc n) o (later ∷ rest) there p few =
      ap (ends (suc n) step) (ap (option_and_then (with_id objects)) (sym (leads o there) ∙ p.0))
      ∙ further n later (with_id objects later) refl (known o.id later p.0) (λ u h own. follows n u rest h (subst (λ n. IsWay over n rest) (sym own) p.1) (omega (arith, few)))

  -- there are more objects than a way has
  pub shorter_than_all : (o : Object) (way : List ℕ) → with_id objects o.id ≡ Some o → IsWay over o.id way → length way < length objects
  shorter_than_all o way there p =
      subst (λ n. length way < n) (length-map objects entry)
      (way_within (map entry objects) over o.id way (ap is_some (lookup_with_id objects o.id ∙ there)) (λ q to e. ap is_some (lookup_with_id objects to) ∙ known q to e) p)

  pub follows_all : (o : Object) (way : List ℕ) → with_id objects o.id ≡ Some o → IsWay over o.id way → ends (length objects) step (step o) ≡ true
  follows_all o way there p = let few = shorter_than_all o way there p in follows (length objects) o way there p (omega (arith, few))

-- ---- objects and their ties

module _ (objects : List Object) (ties : ℕ → Option Tie) (same : (id : ℕ) → ties id ≡ option_map tie_of (with_id objects id)) (sound : IsSound ties) where
  there_too : (id : ℕ) → is_some (ties id) ≡ true → is_some (with_id objects id) ≡ true
  there_too id e = sym (is_some_map tie_of (with_id objects id)) ∙ ap is_some (sym (same id)) ∙ e

  module _ (o : Object) (there : with_id objects o.id ≡ Some o) where
    leads : {A : Type 0} (read : Tie → Option A) → option_and_then read (ties o.id) ≡ read (tie_of o)
    leads read = ap (option_and_then read) (same o.id ∙ ap (option_map tie_of) there)

    -- what an object goes by stands among the objects
    pub linked : IsLinked objects o
    linked = record {
      clipper = all_there o.clipper (λ id e. there_too id (clipper_there ties sound o.id id (leads (λ tie. tie.clipper) ∙ e)));
      parent = all_there o.parent (λ id e. there_too id (parent_there ties sound o.id id (leads (λ tie. tie.parent) ∙ e)));
    } where
      all_there : (by : Option ℕ) → ((id : ℕ) → by ≡ Some id → is_some (with_id objects id) ≡ true) → IfSome by (λ id. IsSome (with_id objects id))
      all_there None each = tt
      all_there (Some id) each = each id refl

  -- each way up comes to an end
  pub ways : (o : Object) → with_id objects o.id ≡ Some o → IsTrue (ends (length objects) (next objects) (next objects o))
  ways o there =
      let way = sound.ends o.id in
      follows_all objects (λ o. option_or o.clipper o.parent) (next_at ties) (λ o there. leads o there (λ tie. option_or tie.clipper tie.parent))
      (λ q to e. there_too to (next_there ties sound q to e)) o way.0 there way.1
