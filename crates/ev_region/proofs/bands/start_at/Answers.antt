use Rattle.std.proofs.Common.{arith, ◌<◌}
use Rattle.ev_region.proofs.Flats.{start_at-is}
use Rattle.ev_region.proofs.bands.start_at.Goals as goal

pub returns-else-k-eq0 : goal.returns-else-k-eq0
returns-else-k-eq0 c =
    let some : 0 < c.args.k = omega (arith, c.if-k-eq0.false) in
    start_at-is 0 c.args.steps.now c.args.k _ some c.requires
