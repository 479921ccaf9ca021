-- A scene of one object.
use Rattle.std.proofs.Common.{◌≡◌, zero, suc, ◌==◌, cond, List, [], ◌∷◌, Option, Some, None, sym, ap, ap₂, ◌∙◌, subst, arith}
use Rattle.std.proofs.lemmas.Bool.Decides.{nat_tests}
use Rattle.std.specs.Prelude.{false}
use Rattle.std.specs.Option.{option_and_then, option_map, option_or}
use Rattle.ev_state.specs.Held.{Held}
use Rattle.ev_model.specs.Chain.{ends}
use Rattle.ev_model.specs.Stage.{values}
use Rattle.ev_model.specs.Up.{with_id, next}
use Rattle.ev_model.specs.declared.object.Object.{Object}
use Rattle.ev_slots.proofs.Places.{of_id_suc}
use Rattle.ev_sights.specs.Sights.{HasObjects, HaveEnds}
use Rattle.ev_sights.specs.Alone.{IsAlone}

-- the object of id 1, over which nothing stands
pub is_alone : (slots : List (Option (Held Object))) (objects : List (Held Object)) (s : Held Object) → slots ≡ Some s ∷ [] → objects ≡ s ∷ [] → s.value.id ≡ 1 → s.value.clipper ≡ None → s.value.parent ≡ None → IsAlone slots objects
is_alone slots objects s e f id clipper parent = subst (λ slots. IsAlone slots objects) (sym e) (subst (λ objects. IsAlone (Some s ∷ []) objects) (sym f) (record { found = found; ends = all_end })) where
  found : HasObjects (Some s ∷ []) (values (s ∷ []))
  found zero = ap (λ n. cond (n == 0) (Some s.value) None) id
  found (suc zero) = ap (λ n. cond (n == 1) (Some s.value) None) id
  found (suc (suc k)) = let other : (1 == suc (suc k)) ≡ false = grind (arith, nat_tests) in ap (λ n. cond (n == suc (suc k)) (Some s.value) None) id ∙ ap (λ b. cond b (Some s.value) None) other ∙ ap (option_map (λ s. s.value)) (sym (of_id_suc (Some s ∷ []) (suc k)))

  all_end : HaveEnds (values (s ∷ []))
  all_end zero d low = ap (λ over. ends 1 (next (values (s ∷ []))) (option_and_then (with_id (values (s ∷ []))) over)) (ap₂ option_or clipper parent)
  all_end (suc k) d low = absurd (omega (arith, low))
