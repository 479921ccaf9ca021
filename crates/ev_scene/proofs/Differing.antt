-- The ids of what is captured differ.
use Rattle.std.proofs.Common.{◌≡◌, ◌≢◌, ℕ, suc, ◌+◌, ◌<◌, Bool, true, false, if◌then◌else◌, List, [], ◌∷◌, length, get_or, map, filter_map, Option, Some, None, inl, inr, refl, sym, subst, ap, ◌∙◌, arith}
use Rattle.std.proofs.lemmas.Bool.Decides.{eqb_tells}
use Rattle.std.proofs.lemmas.Option.{none-some, same_Some}
use Rattle.std.specs.List.{cons_option}
use Rattle.std.specs.Prelude.{AllPairs}
use Rattle.ev_model.specs.Look.{Look, look, looks}
use Rattle.ev_model.specs.Order.{ids}
use Rattle.ev_model.specs.Stage.{Stage}
use Rattle.ev_model.specs.declared.object.Object.{Object}
use Rattle.ev_links.specs.Ties.{Has, IsDistinct}
use Rattle.ev_scene.proofs.Nesting.{all_differ}

-- what holds of one more at its place
pub one_more_holds : (P : ℕ → Type 0) (xs : List ℕ) (i : ℕ) → ((k : ℕ) → k < i → P (get_or xs k 0)) → P (get_or xs i 0) → (k : ℕ) → k < i + 1 → P (get_or xs k 0)
one_more_holds P xs i so_far next k low = elim (eqb_tells k i) [ inl same ↦ subst (λ k. P (get_or xs k 0)) (sym same.1) next | inr differ ↦ (let other = differ.1 in so_far k (omega (arith, low, other))) ]

-- what holds at each place of a list holds of each that it has
pub each_has : (P : ℕ → Type 0) (xs : List ℕ) → ((k : ℕ) → k < length xs → P (get_or xs k 0)) → (x : ℕ) → Has x xs → P x
each_has P [] holds x h = absurd h
each_has P (y ∷ xs) holds x h = elim h [ inl here ↦ subst P here (holds 0 (omega arith)) | inr later ↦ each_has P xs (λ k low. holds (suc k) (omega (arith, low))) x later ]

-- what is seen of objects has some of their ids
module _ (see : Object → Option Look) (own : (o : Object) (l : Look) → see o ≡ Some l → l.id ≡ o.id) where
  abbrev seen_ids : List Object → List ℕ
  seen_ids objects = map (λ l. l.id) (filter_map see objects)

  seen_has : (objects : List Object) (id : ℕ) → Has id (seen_ids objects) → Has id (ids objects)
  seen_has [] id h = absurd h
  seen_has (o ∷ objects) id h = go (see o) refl h (seen_has objects id) where
    go : (f : Option Look) → see o ≡ f → Has id (map (λ l. l.id) (cons_option f (filter_map see objects))) → (Has id (seen_ids objects) → Has id (ids objects)) → Has id (ids (o ∷ objects))
    go None e h later = inr (later h)
    go (Some l) e h later = elim h [ inl here ↦ inl (sym (own o l e) ∙ here) | inr more ↦ inr (later more) ]

  seen_once : (objects : List Object) → IsDistinct (ids objects) → IsDistinct (seen_ids objects)
  seen_once [] d = tt
  seen_once (o ∷ objects) d = go (see o) refl (seen_once objects d.1) where
    go : (f : Option Look) → see o ≡ f → IsDistinct (seen_ids objects) → IsDistinct (map (λ l. l.id) (cons_option f (filter_map see objects)))
    go None e rest = rest
    go (Some l) e rest = ((λ h. d.0 (seen_has objects o.id (subst (λ n. Has n (seen_ids objects)) (own o l e) h))), rest)

-- a look has the id of its object
chosen : (b : Bool) (l m : Look) → (if b then Some l else None) ≡ Some m → m.id ≡ l.id
chosen true l m e = sym (ap (λ l. l.id) (same_Some l m e))
chosen false l m e = absurd (none-some m e)

look_own : (s : Stage) (o : Object) (l : Look) → look s o ≡ Some l → l.id ≡ o.id
look_own s o l e = chosen _ _ l e

pub looks_differ : (s : Stage) → IsDistinct (ids s.objects) → AllPairs (λ a b. a ≢ b) (map (λ l. l.id) (looks s))
looks_differ s once = all_differ (map (λ l. l.id) (looks s)) (seen_once (look s) (look_own s) s.objects once)
