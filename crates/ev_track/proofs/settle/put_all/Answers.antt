use Rattle.ev_track.proofs.Settlings.{inside_still, one_put}
use Rattle.ev_track.proofs.settle.put_all.Goals as goal

pub loop-change-preserved-in-Some : goal.loop-change-preserved-in-Some
loop-change-preserved-in-Some g c =
    let all = c.loop-change.invariant in (
      inside_still c.loop-change.was.items c.loop-change.changes.items c.pop.new.self.items c.in-Some.change c.in-Some.ensures.items all.0,
      λ now are has. let before = all.1 now are has in one_put c.loop-change.was.items c.loop-change.changes.items c.pop.new.self.items c.in-Some.change c.in-Some.ensures.items now all.0 before.0 before.1,
    )

pub loop-change-preserved : goal.loop-change-preserved
loop-change-preserved g c =
    let all = c.loop-change.invariant in (
      inside_still c.loop-change.was.items c.loop-change.changes.items c.pop.new.self.items c.in-Some.change c.in-Some.ensures.items all.0,
      λ now are has. let before = all.1 now are has in one_put c.loop-change.was.items c.loop-change.changes.items c.pop.new.self.items c.in-Some.change c.in-Some.ensures.items now all.0 before.0 before.1,
    )
