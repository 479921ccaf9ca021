use Rattle.std.proofs.Common.{rules}
use Rattle.ev_ring.proofs.Seats.{splits}
use Rattle.ev_ring.proofs.posts.Post.part.Goals as goal

pub split_seat-seat-requires : goal.split_seat-seat-requires
split_seat-seat-requires g c = (search rules, search rules, splits g.J.Work.belongs _ _ c.requires)
