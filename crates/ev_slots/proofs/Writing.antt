-- What a write in place leaves of a slab.
use Rattle.std.proofs.Common.{◌≡◌, ℕ, zero, suc, ◌==◌, if◌then◌else◌, List, [], ◌∷◌, Option, Some, None, is_some, IsSome, length, slice_index_or, slice_set, inl, inr, refl, sym, ap, ◌∙◌}
use Rattle.std.proofs.lemmas.Bool.Decides.{eqb_tells}
use Rattle.std.proofs.lemmas.Option.{none-some}
use Rattle.ev_slots.specs.Slots.{live}
use Rattle.slab.specs.Slab.{Slab, get, slab_len, with_value, Updates}
use Rattle.slab.proofs.DrainLemmas.{length-values}
use Rattle.slab.proofs.SlabLemmas.{Updates-with_value}

live_stays : {T : Type 0} (slots : List (Option T)) (k : ℕ) (x y : T) → slice_index_or slots k None ≡ Some x → length (live (slice_set slots k (Some y))) ≡ length (live slots)
live_stays [] k x y there = refl
live_stays (None ∷ slots) zero x y there = absurd (none-some x there)
live_stays (Some z ∷ slots) zero x y there = refl
live_stays (None ∷ slots) (suc k) x y there = live_stays slots k x y there
live_stays (Some z ∷ slots) (suc k) x y there = ap suc (live_stays slots k x y there)

pub taken_stays : {T : Type 0} (s : Slab T) (place : ℕ) (x y : T) → get s place ≡ Some x → slab_len (with_value s place y) ≡ slab_len s
taken_stays s place x y there =
    length-values (slice_set s.slots place (Some y)) ∙ live_stays s.slots place x y there ∙ sym (length-values s.slots)

pub written : {T : Type 0} (s : Slab T) (place : ℕ) (x y : T) → get s place ≡ Some x → (q : ℕ) → get (with_value s place y) q ≡ (if q == place then Some y else get s q)
written s place x y there q =
    let contains : IsSome (get s place) = ap is_some there in
    let updates : Updates s (with_value s place y) place (Some y) = Updates-with_value s place y contains in
    elim (eqb_tells q place) [ inl here ↦ rw here.0 (ap (get (with_value s place y)) here.1 ∙ updates.changed) | inr differ ↦ rw differ.0 (updates.others q differ.1) ]
