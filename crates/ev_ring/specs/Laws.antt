-- Laws of the rule over the words and the views.
use Rattle.std.specs.Prelude.{◌≡◌, ℕ, ◌<◌, ◌≤◌, true, List}
use mathlib.Core.Option.{some}
use lib.ListN.{get_elem?}
use Rattle.ev_seats.specs.Weights.{total, only, IsEachBelow}
use Rattle.ev_ring.specs.Tally.{Tally, held_by}
use Rattle.ev_ring.specs.declared.view.Counts.{Counts}
use Rattle.ev_ring.specs.declared.view.Role.TheVariants.{Owner}

-- how often these seats got the ticket
abbrev pub times_got : ℕ → List Counts → ℕ
times_got ticket views = total (λ v. total (only ticket) v.hand.got) views

abbrev pub EachTicketIsGotOnce : Type 0
EachTicketIsGotOnce = (limit claim done : ℕ) (views : List Counts) → Tally limit claim done views → (ticket : ℕ) → (ticket < claim → times_got ticket views ≡ 1) × (claim ≤ ticket → times_got ticket views ≡ 0)

abbrev pub QuietRingsAreIdle : Type 0
QuietRingsAreIdle = (limit claim done : ℕ) (views : List Counts) → Tally limit claim done views → (k : ℕ) (owner : Counts) → get_elem? views k ≡ some owner → owner.role ≡ Owner
    → owner.owner.is_quiet ≡ true → (done ≡ owner.owner.limit) × (claim ≡ owner.owner.limit) × (held_by views ≡ 0)

abbrev pub EmptyHandsLeaveAll : Type 0
EmptyHandsLeaveAll = (limit claim done : ℕ) (views : List Counts) → Tally limit claim done views → (k : ℕ) (owner : Counts) → get_elem? views k ≡ some owner → owner.role ≡ Owner
    → owner.owner.hands_out ≡ 0 → IsEachBelow claim owner.hand.got
