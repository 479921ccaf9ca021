use Rattle.std.proofs.Common.{rules, ◌≡◌, ℕ, ◌<◌, ap, ◌∙◌, subst, Some}
use Rattle.ev_seats.specs.Jobs.{job_of}
use Rattle.ev_ring.specs.RingSlots.{slot_of}
use Rattle.ev_ring.specs.declared.view.Entry.TheVariants.{Finished}
use Rattle.ev_ring.proofs.Calls.{gives_blank}
use Rattle.ev_seats.proofs.Lists.{first_slot}
use Rattle.ev_ring.proofs.OwnerSteps.{collects}
use Rattle.ev_ring.proofs.posts.Post.collect.Goals as goal

pub load-requires : goal.load-requires
load-requires g c = let there = c.requires.there in (
  search rules,
  search rules,
  collects g.J.Work.belongs _ _ _ c.requires.owner.0 _ there.0 c.requires.owner.1 c.args.self.now.none_out
      (subst (λ (t : ℕ). job_of t c.args.self.now.seat.me.0.jobs ≡ Some there.0) c.requires.named there.1) (subst (λ (t : ℕ). t < c.args.self.now.seat.me.0.counts.owner.limit) c.requires.named c.requires.published),
)

pub exchange-entry-requires : goal.exchange-entry-requires
exchange-entry-requires g c = let got = c.load.ensures.2 in
    (search rules, (Some (Finished g.T.Ticketed.ticket got.1), first_slot _ _ _ _ _ (ap (λ m. m.1) got.4) (c.slot_index.ensures ∙ ap slot_of c.requires.named)))

pub load-requires-2 : goal.load-requires-2
load-requires-2 g c = let got = c.load.ensures.2 in
    (search rules, search rules, gives_blank g.J.Work.belongs _ _ c.args.self.now.seat.me c.load.new.seat.me _ _ g.T.Ticketed.ticket c.load.result (Some (Finished g.T.Ticketed.ticket got.1)) _ c.requires.owner.0 got.4 c.exchange-entry.ensures.3 (c.slot_index.ensures ∙ ap slot_of c.requires.named))
