use Rattle.std.proofs.Common.{rules}
use Rattle.ev_ring.proofs.OwnerSteps.{publishes}
use Rattle.ev_ring.proofs.posts.Post.publish.Goals as goal

pub store-requires : goal.store-requires
store-requires g c = (search rules, search rules, publishes g.J.Work.belongs _ _ _ c.requires.owner.0 c.args.limit _ (search rules) c.requires.owner.1 c.args.self.now.none_out c.requires.room.0 c.requires.room.1 c.requires.jobs)
