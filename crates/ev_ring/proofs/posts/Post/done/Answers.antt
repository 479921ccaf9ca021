use Rattle.std.proofs.Common.{rules}
use Rattle.ev_ring.proofs.OwnerSteps.{sees_done}
use Rattle.ev_ring.proofs.posts.Post.done.Goals as goal

pub load-requires : goal.load-requires
load-requires g c = (search rules, search rules, sees_done g.J.Work.belongs _ _ _ c.requires)
