use Rattle.std.proofs.Common.{rules}
use Rattle.ev_ring.proofs.HandSteps.{rings}
use Rattle.ev_ring.proofs.posts.Post.ring_bell.Goals as goal

pub fetch_add-requires : goal.fetch_add-requires
fetch_add-requires g c = (search rules, search rules, rings g.J.Work.belongs _ _ _)
