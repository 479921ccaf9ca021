use Rattle.ev_records.proofs.Following.{IsFollowed}
use Rattle.ev_records.proofs.ranks.Ranks.follow.Given as goal

abbrev pub invariant-loop-i : goal.invariant-loop-i
invariant-loop-i l = IsFollowed l.self l.initial.self l.order l.i l.last
