use Rattle.std.proofs.Common.{rules}
use Rattle.ev_ring.proofs.HandSteps.{sees_limit, sees_claim}
use Rattle.ev_ring.proofs.posts.Post.look.Goals as goal

pub load-limit-requires : goal.load-limit-requires
load-limit-requires g c = (search rules, search rules, sees_limit g.J.Work.belongs _ _ _ c.args.self.now.live)

pub load-claim-requires : goal.load-claim-requires
load-claim-requires g c = (search rules, search rules, sees_claim g.J.Work.belongs _ _ _ (search rules))
