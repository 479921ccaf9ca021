use Rattle.std.proofs.Common.{arith, ◌<◌, ap₂, ◌∙◌, length, refl}
use Rattle.std.specs.List.{slice_range}
use Rattle.ev_region.proofs.Flats.{last_run_of, last_run_range}
use Rattle.ev_region.proofs.bands.last_run.Goals as goal

pub returns-else-count-eq0-clause-row : goal.returns-else-count-eq0-clause-row
returns-else-count-eq0-clause-row c =
    let some : 0 < length c.args.steps.now = omega (arith, c.if-count-eq0.false) in
    ap₂ (slice_range c.args.edges.now) c.start_at.ensures c.start_at-else-count-eq0.ensures
    ∙ last_run_of c.args.steps.now c.args.edges.now (length c.args.steps.now) refl some

pub returns-else-count-eq0-clause-order : goal.returns-else-count-eq0-clause-order
returns-else-count-eq0-clause-order c =
    let some : 0 < length c.args.steps.now = omega (arith, c.if-count-eq0.false) in
    rw (c.start_at.ensures, c.start_at-else-count-eq0.ensures)
    (last_run_range (length c.args.edges.now) c.args.steps.now (length c.args.steps.now) c.requires refl some).0

pub returns-else-count-eq0-clause-size : goal.returns-else-count-eq0-clause-size
returns-else-count-eq0-clause-size c =
    let some : 0 < length c.args.steps.now = omega (arith, c.if-count-eq0.false) in
    rw c.start_at-else-count-eq0.ensures
    (last_run_range (length c.args.edges.now) c.args.steps.now (length c.args.steps.now) c.requires refl some).1
