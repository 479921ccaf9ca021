use Rattle.std.proofs.Common.{List, subst, sym}
use Rattle.ev_cmds.specs.Masks.{AddsRuns}
use Rattle.ev_cmds.specs.declared.patch.Patch.{Patch}
use Rattle.ev_cmds.proofs.Running.{runs_more}
use Rattle.ev_cmds.proofs.mask.push_runs.Goals as goal

pub loop-run-preserved : goal.loop-run-preserved
loop-run-preserved c =
    let run = c.in-Some.ensures in (
      run.within,
      subst (λ (ps : List Patch). AddsRuns c.args.bits c.args.top c.args.bottom c.in-Some.run'.right c.args.into.now.items ps) (sym c.in_ok-push.ensures.items)
          (runs_more c.args.bits c.args.top c.args.bottom c.loop-run.from c.in-Some.run' c.args.into.now.items c.loop-run.into.items c.requires.some c.requires.tile run c.loop-run.invariant.1),
    )
