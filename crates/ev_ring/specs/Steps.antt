-- What each step on a word tells the seat that makes it: of the step, the seat before, the number found (or stored) and the seat after.
use Rattle.std.specs.Prelude.{◌≡◌, ℕ, ◌+◌, ◌-◌, ◌≤◌, true, ◌==◌, [], ◌∷◌, ◌++◌, Some, None}
use Rattle.ev_seats.specs.Weights.{IsEachBelow}
use Rattle.ev_ring.specs.Tally.{blank_hand, blank_owner}
use Rattle.ev_ring.specs.declared.view.Role.TheVariants.{Owner, Hand}
use Rattle.ev_ring.specs.declared.view.HandView.{HandView}
use Rattle.ev_ring.specs.declared.view.OwnerView.{OwnerView}
use Rattle.ev_ring.specs.declared.view.Counts.{Counts}

abbrev pub with_hand : Counts → HandView → Counts
with_hand v h = record { role = v.role; hand = h; owner = v.owner }

abbrev pub with_owner : Counts → OwnerView → Counts
with_owner v o = record { role = v.role; hand = v.hand; owner = o }

-- the limit was read
abbrev pub saw_limit : ℕ → Counts → Counts
saw_limit found v = with_hand v record v.hand { limit_read = found; limit_looks = v.hand.limit_looks + 1 }

-- the claim was read
abbrev pub saw_claim : ℕ → Counts → Counts
saw_claim found v = with_hand v record v.hand { claim_read = found; claim_looks = v.hand.claim_looks + 1 }

-- a ticket was got
abbrev pub got_ticket : ℕ → Counts → Counts
got_ticket ticket v = with_hand v record v.hand { got = v.hand.got ++ ticket ∷ []; held = Some ticket }

-- another claim was found
abbrev pub lost_to : ℕ → Counts → Counts
lost_to found v = with_hand v record v.hand { found = found }

-- the ticket was given back. An owner counts its own
abbrev pub gave_ticket : Counts → Counts
gave_ticket v = record { role = v.role; hand = record v.hand { held = None }; owner = record v.owner { own_given = v.owner.own_given + 1 } }

-- the number of tickets done was read
abbrev pub saw_done : ℕ → Counts → Counts
saw_done found v = with_owner v record v.owner { done_looks = v.owner.done_looks + 1; done_seen = found; is_quiet = found == v.owner.limit }

-- the limit was raised
abbrev pub published_to : ℕ → Counts → Counts
published_to limit v = with_owner v record v.owner { limit = limit; is_quiet = limit == v.owner.limit; base = v.owner.limit; own_given = 0 }

abbrev pub closed_view : Counts → Counts
closed_view v = with_owner v record v.owner { is_closed = true }

abbrev pub with_hand_out : Counts → Counts
with_hand_out v = with_owner v record v.owner { hands_out = v.owner.hands_out + 1 }

abbrev pub new_hand : Counts
new_hand = record { role = Hand; hand = blank_hand; owner = blank_owner }

-- the owner's view after it took in a hand's
abbrev pub taken_in : Counts → Counts → Counts
taken_in v w = record { role = v.role; hand = record v.hand { got = v.hand.got ++ w.hand.got }; owner = record v.owner { hands_out = v.owner.hands_out - 1 } }

-- the claim that was read is no earlier one than the seat knew of
abbrev pub IsLater : Counts → ℕ → Type 0
IsLater v claim = (v.hand.claim_read ≤ claim) × (v.hand.found ≤ claim)

-- the owner has no hand out, and so all tickets are its own
abbrev pub HasAll : Counts → ℕ → Type 0
HasAll v claim = v.role ≡ Owner → v.owner.hands_out ≡ 0 → IsEachBelow claim v.hand.got
