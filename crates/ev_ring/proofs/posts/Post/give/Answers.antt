use Rattle.std.proofs.Common.{rules, None}
use Rattle.ev_ring.proofs.Calls.{holds_slot, gives_result}
use Rattle.ev_ring.proofs.posts.Post.give.Goals as goal

pub exchange-requires : goal.exchange-requires
exchange-requires g c = (search rules, (None, holds_slot _ _ _ _ c.args.self.now.carries c.requires.held c.slot_index.ensures))

pub fetch_add-before-requires : goal.fetch_add-before-requires
fetch_add-before-requires g c = let done = c.requires.done in
    (search rules, search rules, gives_result g.J.Work.belongs _ _ c.args.self.now.seat.me _ _ _ done.0 _ _ c.exchange.ensures.3 c.slot_index.ensures c.args.self.now.live c.requires.held done.1 done.2)
