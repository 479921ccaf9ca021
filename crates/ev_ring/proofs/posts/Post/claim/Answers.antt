use Rattle.std.proofs.Common.{rules, refl, ap, ◌∙◌, Some}
use Rattle.ev_ring.specs.declared.view.Entry.TheVariants.{Waiting}
use Rattle.ev_seats.proofs.Lists.{first_slot}
use Rattle.ev_ring.proofs.HandSteps.{claims}
use Rattle.ev_ring.proofs.posts.Post.claim.Goals as goal

pub compare_exchange-found-requires : goal.compare_exchange-found-requires
compare_exchange-found-requires g c = (search rules, search rules, claims g.J.Work.belongs _ _ _ _ _ c.look-limit.new.self.live (ap (λ v. v.counts.hand.claim_read) c.look-limit.ensures.view) (search rules) (ap (λ v. v.counts.hand.held) c.look-limit.ensures.view ∙ c.requires) refl)

pub exchange-entry-requires : goal.exchange-entry-requires
exchange-entry-requires g c = let won = c.compare_exchange-found.ensures.2.0 c.if-found-claim.false in
    (search rules, (Some (Waiting c.look-limit.result.1 won.0), first_slot _ _ _ _ _ (ap (λ m. m.1) won.1) c.slot_index.ensures))
