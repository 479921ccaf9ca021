-- What ties refuse is what an edit of clippers and parents refuses, and what such an edit answers.
use Rattle.std.proofs.Common.{◌≡◌, ℕ, Bool, true, false, ◌==◌, List, [], ◌∷◌, map, cond, Option, Some, None, Result, Ok, Err, is_some, if◌then◌else◌, refl, sym, subst, ap, ◌∙◌, arith}
use Rattle.std.proofs.lemmas.Bool.Decides.{nat_tests}
use Rattle.std.specs.Ordering.{eq_by_cmp, nat_cmp}
use Rattle.std.specs.Prelude.{nat_eq}
use Rattle.std.specs.Cmp.{nat_cmp_total}
use Rattle.std.specs.FinMap.{find, get-from_entries, same_map, nat_cmp-IsAntisymmetric}
use Rattle.std.specs.Option.{option_map, option_map_or, option_eq}
use Rattle.std.specs.Result.{IsErrAnd}
use Rattle.ev_state.specs.Held.{Held}
use Rattle.ev_model.specs.Up.{with_id}
use Rattle.ev_model.specs.declared.object.Object.{Object}
use Rattle.ev_model.specs.declared.refusal.Refusal.{Refusal}
use Rattle.ev_model.specs.declared.refusal.Refusal.TheVariants as refusal
use Rattle.ev_links.specs.Ties.{Ties}
use Rattle.ev_links.specs.LinkCalls.{clip_fault, join_fault, leave_fault}
use Rattle.ev_links.specs.declared.refusal.LinkErr.{LinkErr}
use Rattle.ev_scene.specs.Ids.{of_id, put, live}
use Rattle.ev_scene.specs.Board.{Board, named, values_of, ties_on}
use Rattle.ev_scene.specs.Change.{apply}
use Rattle.ev_scene.specs.Edits.{known, clip_verdict, join_verdict, leave_verdict, with_named, changed, rehomed, homed, Refuses, Answers}
use Rattle.ev_scene.specs.TieFaults.{refusal_of}
use Rattle.ev_scene.specs.ObjectTies.{tie_of, ties_of}
use Rattle.ev_scene.specs.Whole.{IsWhole}
use Rattle.ev_scene.specs.declared.change.Change.{Change}
use Rattle.ev_scene.specs.declared.change.Change.TheVariants as change
use Rattle.ev_scene.proofs.Naming.{held_at}
use Rattle.ev_scene.proofs.Trees.{live_found}

-- the ties of objects are found by their ids
found_tie : (us : List Object) (id : ℕ) → find nat_cmp id (map (λ u. (u.id, tie_of u)) us) ≡ option_map tie_of (with_id us id)
found_tie [] id = refl
found_tie (u ∷ us) id =
    let same : eq_by_cmp nat_cmp id u.id ≡ (u.id == id) = grind (arith, nat_tests) in
    rw same (elim (u.id == id) as (λ b. cond b (Some (tie_of u)) (find nat_cmp id (map (λ u. (u.id, tie_of u)) us)) ≡ option_map tie_of (cond b (Some u) (with_id us id))) [
      | true ↦ refl
      | false ↦ found_tie us id
    ])

-- the ties that are kept are those of the objects
pub ties_are : {board : Board} {ties : Ties} → IsWhole board ties → ties_on board ≡ ties
unfolding ties_of
ties_are {board = board} {ties = ties} whole = same_map nat_cmp_total nat_cmp-IsAntisymmetric (ties_on board) ties
    (λ id. get-from_entries nat_cmp_total _ id ∙ found_tie (live board.objects) id ∙ ap (option_map tie_of) (live_found whole id) ∙ sym (whole.tied id))

-- ---- answers

-- a test of a named object
known_at : (b : Board) (name : List ℕ) (o : Object) (test : Object → Option Refusal) → Some o ≡ named b.objects name → known b name test ≡ test o
known_at b name o test e = ap (λ found. option_map_or test found (Some refusal.Unknown)) (sym e)

with_at : (b : Board) (name : List ℕ) (o : Object) (make : Object → Board) → Some o ≡ named b.objects name → with_named b name make ≡ make o
with_at b name o make e = ap (λ found. option_map_or make found b) (sym e)

-- what ties refuse is refused, and what they allow is allowed
pub refuses : (verdict : Option Refusal) (first : Option LinkErr) (fault : LinkErr) (cause : Refusal) → verdict ≡ option_map refusal_of first → Some fault ≡ first → cause ≡ refusal_of fault → Refuses verdict cause
refuses verdict first fault cause e f g = subst (λ verdict. Refuses verdict cause) (sym (e ∙ ap (option_map refusal_of) (sym f))) g

pub allows : (verdict : Option Refusal) (first : Option LinkErr) → verdict ≡ option_map refusal_of first → None ≡ first → verdict ≡ None
allows verdict first e f = e ∙ ap (option_map refusal_of) (sym f)

-- where nothing refuses, memory may be wanting
pub wanting : {T : Type 0} (verdict : Option Refusal) (old after new : Board) (result : Result T Refusal) → verdict ≡ None → IsErrAnd result (λ cause. cause ≡ refusal.NoMemory) → new ≡ old → Answers verdict old after result new
wanting verdict old after new (Ok done) e f g = absurd f
wanting verdict old after new (Err cause) e f g = (subst (λ verdict. Refuses verdict cause) (sym e) f, g)

-- what has an object has a state
pub has_state : (states : List (Option (Held Object))) (id : ℕ) (o : Object) → of_id (values_of states) id ≡ Some o → is_some (of_id states id) ≡ true
has_state states id o there = ap is_some (held_at states id o there).1.0

homed_nowhere : (b : Board) (o : Object) → homed None b o ≡ (if is_some o.parent then rehomed None b o else b)
homed_nowhere b o = go o.parent where
  go : (parent : Option ℕ) → (if option_eq nat_eq parent None then b else rehomed None b o) ≡ (if is_some parent then rehomed None b o else b)
  go None = refl
  go (Some id) = refl

-- an object changed at its id
pub changed_is : (b : Board) (o : Object) (c : Change) (objects' : List (Option Object)) → of_id b.objects o.id ≡ Some o → objects' ≡ put b.objects o.id (option_map (apply c) (of_id b.objects o.id))
    → ◌≡◌ {A = Board} (record { w = b.w; h = b.h; objects = objects'; groups = b.groups }) (changed c b o)
changed_is b o c objects' there e = ap (λ objects. record { w = b.w; h = b.h; objects = objects; groups = b.groups }) (e ∙ ap (λ slot. put b.objects o.id (option_map (apply c) slot)) there)

module _ {scene : Board} {ties : Ties} (whole : IsWhole scene ties) (name other : List ℕ) (o c : Object) (found : Some o ≡ named scene.objects name) (near : Some c ≡ named scene.objects other) where
  pub clip_known : known scene name (λ o. known scene other (clip_verdict scene o)) ≡ option_map refusal_of (clip_fault ties o.id c.id)
  clip_known =
      known_at scene name o (λ o. known scene other (clip_verdict scene o)) found ∙ known_at scene other c (clip_verdict scene o) near
      ∙ ap (λ ties. option_map refusal_of (clip_fault ties o.id c.id)) (ties_are whole)

  pub clip_made : of_id scene.objects o.id ≡ Some o → (objects' : List (Option Object)) → objects' ≡ put scene.objects o.id (option_map (apply (change.Clip (Some c.id))) (of_id scene.objects o.id))
      → record scene { objects = objects' } ≡ with_named scene name (λ o. with_named scene other (λ c. changed (change.Clip (Some c.id)) scene o))
  clip_made there objects' e =
      changed_is scene o (change.Clip (Some c.id)) objects' there e
      ∙ sym (with_at scene name o (λ o. with_named scene other (λ c. changed (change.Clip (Some c.id)) scene o)) found ∙ with_at scene other c (λ c. changed (change.Clip (Some c.id)) scene o) near)

  pub join_known : known scene name (λ o. known scene other (join_verdict scene o)) ≡ option_map refusal_of (join_fault ties o.id c.id)
  join_known =
      known_at scene name o (λ o. known scene other (join_verdict scene o)) found ∙ known_at scene other c (join_verdict scene o) near
      ∙ ap (λ ties. option_map refusal_of (join_fault ties o.id c.id)) (ties_are whole)

  -- a member stays where it is
  pub join_made : (same : Bool) → same ≡ option_eq nat_eq o.parent (Some c.id) → with_named scene name (λ o. with_named scene other (λ s. homed (Some s.id) scene o)) ≡ (if same then scene else rehomed (Some c.id) scene o)
  join_made same e =
      with_at scene name o (λ o. with_named scene other (λ s. homed (Some s.id) scene o)) found ∙ with_at scene other c (λ s. homed (Some s.id) scene o) near
      ∙ ap (λ same. if same then scene else rehomed (Some c.id) scene o) (sym e)

module _ {scene : Board} {ties : Ties} (whole : IsWhole scene ties) (name : List ℕ) (o : Object) (found : Some o ≡ named scene.objects name) where
  pub leave_known : known scene name (leave_verdict scene) ≡ option_map refusal_of (leave_fault ties o.id)
  leave_known = known_at scene name o (leave_verdict scene) found ∙ ap (λ ties. option_map refusal_of (leave_fault ties o.id)) (ties_are whole)

  pub leave_made : (stands_in : Bool) → is_some o.parent ≡ stands_in → with_named scene name (homed None scene) ≡ (if stands_in then rehomed None scene o else scene)
  leave_made stands_in e = with_at scene name o (homed None scene) found ∙ homed_nowhere scene o ∙ ap (λ stands_in. if stands_in then rehomed None scene o else scene) e
