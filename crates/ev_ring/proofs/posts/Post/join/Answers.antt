use Rattle.std.proofs.Common.{rules}
use Rattle.ev_ring.proofs.Seats.{joins}
use Rattle.ev_ring.proofs.HandSteps.{sees_claim}
use Rattle.ev_ring.proofs.posts.Post.join.Goals as goal

pub join_seat-requires : goal.join_seat-requires
join_seat-requires g c = (search rules, search rules, search rules, search rules, joins g.J.Work.belongs _ _ _ _ c.requires.owner c.requires.hand.1 c.requires.hand.2)

pub load-requires : goal.load-requires
load-requires g c = (search rules, search rules, sees_claim g.J.Work.belongs _ _ _ (search rules))
