-- The stages that the asker's code keeps are those of its view.
use Rattle.std.proofs.Common.{◌≡◌, ◌≢◌, ℕ, zero, suc, ◌+◌, ◌<◌, List, replicate, map, set, get_or, length, length-set, sym, refl, ap, ◌∙◌, subst, set-set, get_or-set_other, arith}
use Rattle.std.specs.Prelude.{Some}
use mathlib.Core.Logic.{dite}
use native.Mathlib.Decide.{ℕ_discrete}
use Rattle.ev_seats.specs.Jobs.{job_of}
use Rattle.ev_seats.proofs.Jobs.{first_here}
use Rattle.ev_desk.specs.DeskSays.{stage_at, IsIdle, IsOnlyAsked, asked_at, saw_busy, collected, taken_back, found_late}
use Rattle.ev_desk.specs.declared.view.Stage.TheVariants.{Free, Asked, Ended, Closed}
use Rattle.ev_desk.specs.declared.view.View.{View}
use Rattle.ev_desk.proofs.Calls.{in_range, spot_set}
use Rattle.std.proofs.lemmas.List.{get_or-map, length-map}
use lib.Seq.{map-set}
use Rattle.std.proofs.Math.Seq.{map-set_same}
use Rattle.ev_desk.specs.DeskSays.{stage_of}
use Rattle.ev_desk.specs.DeskSteps.{no_spot, spot_at}
use Rattle.ev_desk.specs.DeskTally.{free_spot}
use Rattle.ev_desk.specs.DeskSlots.{opening_view}
use Rattle.ev_desk.specs.DeskMoves.{parted}
use Rattle.ev_desk.specs.declared.view.Stage.{Stage}
use Rattle.ev_desk.specs.declared.view.Spot.{Spot}

module _ (stages : List Stage) (spots : List Spot) (are : stages ≡ map stage_of spots) where
  pub stage_here : (p : ℕ) (d : Stage) → p < length stages → get_or stages p d ≡ (spot_at p spots).stage
  stage_here p d lt = ap (λ (l : List Stage). get_or l p d) are ∙ get_or-map stage_of spots p no_spot d (omega (arith, ap length are, length-map spots stage_of))

  pub stays_so : (p : ℕ) (y : Spot) (spots' : List Spot) → y.stage ≡ (spot_at p spots).stage → spots' ≡ set spots p y → stages ≡ map stage_of spots'
  stays_so p y spots' same is = are ∙ (sym (map-set_same stage_of spots p y no_spot same) ∙ ap (map stage_of) (sym is))

  pub becomes : (p : ℕ) (y : Spot) (spots' : List Spot) → spots' ≡ set spots p y → set stages p y.stage ≡ map stage_of spots'
  becomes p y spots' is = ap (λ (l : List Stage). set l p y.stage) are ∙ (sym (map-set stage_of spots p y) ∙ ap (map stage_of) (sym is))

  pub becomes_twice : (p : ℕ) (x y : Spot) (spots' : List Spot) → spots' ≡ set (set spots p x) p y → set stages p y.stage ≡ map stage_of spots'
  becomes_twice p x y spots' is = becomes p y spots' (is ∙ set-set spots p x y)

pub stage_else : (spots : List Spot) (p q : ℕ) (x : Spot) → q ≢ p → spot_at q (set spots p x) ≡ spot_at q spots
stage_else spots p q x n = get_or-set_other spots p q x no_spot n

-- what a caller knows of the stages after a call
module _ {J : Type 0} where
  -- a job was left at p
  pub asked_here : (v w : View J) (p : ℕ) (job : J) → stage_at p v ≡ Free → w ≡ asked_at p job v → (stage_at p w ≡ Asked) × (job_of p w.jobs ≡ Some job)
  asked_here v w p job free is = let spots = v.counts.asker.spots in let lt : p < length spots = in_range spots p (λ h. let x : Free ≡ Closed = sym free ∙ h in cc) in
      (ap (λ (u : View J). stage_at p u) is ∙ ap (λ (x : Spot). x.stage) (spot_set (set spots p _) p _ (omega (arith, length-set spots p record { stage = Free; word = 0; looks = (spot_at p spots).looks + 1 }))), ap (λ (u : View J). job_of p u.jobs) is ∙ first_here p (p, job) v.jobs refl)

  pub asked_else : (v w : View J) (p q : ℕ) (job : J) → w ≡ asked_at p job v → q ≢ p → stage_at q w ≡ stage_at q v
  asked_else v w p q job is n = ap (λ (u : View J). stage_at q u) is ∙ (ap (λ (x : Spot). x.stage) (stage_else (set v.counts.asker.spots p _) p q _ n) ∙ ap (λ (x : Spot). x.stage) (stage_else v.counts.asker.spots p q _ n))

  -- a look found no end at p
  pub busy_here : (v w : View J) (p word : ℕ) → stage_at p v ≡ Asked → w ≡ saw_busy p word v → stage_at p w ≡ Asked
  busy_here v w p word asked is = ap (λ (u : View J). stage_at p u) is ∙ ap (λ (x : Spot). x.stage) (spot_set v.counts.asker.spots p _ (in_range v.counts.asker.spots p (λ h. let x : Asked ≡ Closed = sym asked ∙ h in cc)))

  pub busy_else : (v w : View J) (p q word : ℕ) → w ≡ saw_busy p word v → q ≢ p → stage_at q w ≡ stage_at q v
  busy_else v w p q word is n = ap (λ (u : View J). stage_at q u) is ∙ ap (λ (x : Spot). x.stage) (stage_else v.counts.asker.spots p q _ n)

  -- the job of p came back
  pub collected_here : (v w : View J) (p word : ℕ) → stage_at p v ≡ Asked → w ≡ collected p word v → stage_at p w ≡ Free
  collected_here v w p word asked is = let spots = v.counts.asker.spots in let lt : p < length spots = in_range spots p (λ h. let x : Asked ≡ Closed = sym asked ∙ h in cc) in
      ap (λ (u : View J). stage_at p u) is ∙ ap (λ (x : Spot). x.stage) (spot_set (set spots p _) p _ (omega (arith, length-set spots p record { stage = Ended; word = word; looks = (spot_at p spots).looks + 1 })))

  pub collected_else : (v w : View J) (p q word : ℕ) → w ≡ collected p word v → q ≢ p → stage_at q w ≡ stage_at q v
  collected_else v w p q word is n = ap (λ (u : View J). stage_at q u) is ∙ (ap (λ (x : Spot). x.stage) (stage_else (set v.counts.asker.spots p _) p q _ n) ∙ ap (λ (x : Spot). x.stage) (stage_else v.counts.asker.spots p q _ n))

  -- the job of p was withdrawn
  pub back_here : (v w : View J) (p : ℕ) → stage_at p v ≡ Asked → w ≡ taken_back p v → stage_at p w ≡ Free
  back_here v w p asked is = let spots = v.counts.asker.spots in let lt : p < length spots = in_range spots p (λ h. let x : Asked ≡ Closed = sym asked ∙ h in cc) in
      ap (λ (u : View J). stage_at p u) is ∙ ap (λ (x : Spot). x.stage) (spot_set (set spots p _) p _ (omega (arith, length-set spots p record { stage = Free; word = (spot_at p spots).word; looks = (spot_at p spots).looks })))

  pub back_else : (v w : View J) (p q : ℕ) → w ≡ taken_back p v → q ≢ p → stage_at q w ≡ stage_at q v
  back_else v w p q is n = ap (λ (u : View J). stage_at q u) is ∙ (ap (λ (x : Spot). x.stage) (stage_else (set v.counts.asker.spots p _) p q _ n) ∙ ap (λ (x : Spot). x.stage) (stage_else v.counts.asker.spots p q _ n))

  -- a withdrawal came late
  pub late_same : (v w : View J) (p q word : ℕ) → stage_at p v ≡ Asked → w ≡ found_late p word v → stage_at q w ≡ stage_at q v
  late_same v w p q word asked is = ap (λ (u : View J). stage_at q u) is ∙ dite (ℕ_discrete q p)
      (λ e. subst (λ (k : ℕ). stage_at k (found_late p word v) ≡ stage_at k v) (sym e) (ap (λ (x : Spot). x.stage) (spot_set v.counts.asker.spots p _ (in_range v.counts.asker.spots p (λ h. let x : Asked ≡ Closed = sym asked ∙ h in cc)))))
      (λ n. ap (λ (x : Spot). x.stage) (stage_else v.counts.asker.spots p q _ n))

  pub busy_same : (v w : View J) (p q word : ℕ) → stage_at p v ≡ Asked → w ≡ saw_busy p word v → stage_at q w ≡ stage_at q v
  busy_same v w p q word asked is = dite (ℕ_discrete q p)
      (λ e. subst (λ (k : ℕ). stage_at k w ≡ stage_at k v) (sym e) (busy_here v w p word asked is ∙ sym asked))
      (λ n. busy_else v w p q word is n)

  -- a desk on which one place is asked
  pub only_asked : (v w : View J) (p : ℕ) (job : J) → IsIdle v → stage_at p v ≡ Free → w ≡ asked_at p job v → IsOnlyAsked p w
  only_asked v w p job idle free is = ((asked_here v w p job free is).0, λ q lt n. asked_else v w p q job is n ∙ idle q lt)

  pub only_still : (v w : View J) (p : ℕ) → IsOnlyAsked p v → ((q : ℕ) → stage_at q w ≡ stage_at q v) → IsOnlyAsked p w
  only_still v w p only same = (same p ∙ only.0, λ q lt n. same q ∙ only.1 q lt n)

  idle_after : (v w : View J) (p : ℕ) → IsOnlyAsked p v → stage_at p w ≡ Free → ((q : ℕ) → q ≢ p → stage_at q w ≡ stage_at q v) → IsIdle w
  idle_after v w p only free same q lt = dite (ℕ_discrete q p) (λ e. subst (λ (k : ℕ). stage_at k w ≡ Free) (sym e) free) (λ n. same q n ∙ only.1 q lt n)

  pub idle_collected : (v w : View J) (p word : ℕ) → IsOnlyAsked p v → w ≡ collected p word v → IsIdle w
  idle_collected v w p word only is = idle_after v w p only (collected_here v w p word only.0 is) (λ q n. collected_else v w p q word is n)

  pub idle_back : (v w : View J) (p : ℕ) → IsOnlyAsked p v → w ≡ taken_back p v → IsIdle w
  idle_back v w p only is = idle_after v w p only (back_here v w p only.0 is) (λ q n. back_else v w p q is n)

fresh_spot : (n p : ℕ) → p < n → spot_at p (replicate n free_spot) ≡ free_spot
fresh_spot zero p lt = absurd (omega arith)
fresh_spot (suc n) zero lt = refl
fresh_spot (suc n) (suc p) lt = fresh_spot n p (omega arith)

-- each place of a new desk is free
pub fresh_idle : {J : Type 0} (v : View J) → v ≡ parted opening_view → IsIdle v
fresh_idle {J} v is p lt = ap (λ (u : View J). stage_at p u) is ∙ ap (λ (x : Spot). x.stage) (fresh_spot 64 p lt)
