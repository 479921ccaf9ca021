use Rattle.std.proofs.Common.{rules, ◌≡◌, ℕ, ◌∷◌, sym, ap, ◌∙◌, subst, Some, None}
use Rattle.ev_ring.specs.RingSlots.{slot_of, IsFree}
use Rattle.ev_ring.specs.Moves.{shelved, Sees, Sat}
use Rattle.ev_ring.proofs.Calls.{far_slots, gives_job}
use Rattle.ev_seats.proofs.Lists.{first_slot}
use Rattle.ev_ring.proofs.OwnerSteps.{empties}
use Rattle.ev_ring.proofs.posts.Post.put.Goals as goal

-- the first step, by the ticket
Taken : {J D : Type 0} → ℕ → Sat J D → Sat J D → ℕ → Type 0
Taken a m n t = (n ≡ (shelved a m.0.jobs (Some (slot_of t)) m.0, (slot_of t, None) ∷ m.1)) × Sees m.0.counts a

pub load-requires : goal.load-requires
load-requires g c = (search rules, search rules, empties g.J.Work.belongs _ _ _ c.requires.owner.0 _ c.requires.owner.1 c.args.self.now.none_out (subst (λ (t : ℕ). IsFree c.args.self.now.seat.me.0.jobs (slot_of t)) c.requires.named (far_slots _ _ c.requires.near)))

pub exchange-requires : goal.exchange-requires
exchange-requires g c = (search rules, (None, first_slot _ _ _ _ _ (ap (λ m. m.1) c.load.ensures.2.0) (c.slot_index.ensures ∙ ap slot_of c.requires.named)))

pub load-requires-2 : goal.load-requires-2
unfolding Taken
load-requires-2 g c =
    let first = subst (Taken c.load.result c.args.self.now.seat.me c.load.new.seat.me) (sym c.requires.named) c.load.ensures.2 in
    (search rules, search rules, gives_job g.J.Work.belongs _ _ c.args.self.now.seat.me c.load.new.seat.me _ _ c.args.ticket c.load.result c.args.job c.requires.owner.0 c.requires.owner.1 c.requires.later c.requires.near first c.exchange.ensures.3 c.slot_index.ensures)
