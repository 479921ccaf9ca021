use Rattle.ev_buffers.proofs.Plans.{plan_of}
use Rattle.ev_buffers.proofs.Repairing.{repairs_of}
use Rattle.ev_buffers.proofs.Within.{work_within}
use Rattle.ev_buffers.proofs.buffers.Buffers.plan.Goals as goal

pub returns-clause-made : goal.returns-clause-made
returns-clause-made c =
    plan_of _ _ c.deref.result.now c.index.result.now _ _ _ c.self.view_is c.deref.ensures.value c.self.invariant.some c.index.ensures c.requires.within c.in_ok-work.ensures c.in_ok-marks.ensures c.in_ok-tiles.ensures

pub returns-clause-repairs : goal.returns-clause-repairs
returns-clause-repairs c = repairs_of _ _ _ _ _ c.self.view_is c.self.invariant (returns-clause-made c)

pub returns-clause-work : goal.returns-clause-work
returns-clause-work c = work_within _ _ _ _ _ c.self.view_is c.self.invariant (returns-clause-made c)
