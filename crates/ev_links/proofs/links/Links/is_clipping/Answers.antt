use Rattle.std.proofs.Common.{sym}
use Rattle.ev_links.proofs.Faults.{clipping_known, clipping_unknown}
use Rattle.ev_links.proofs.links.Links.is_clipping.Goals as goal

pub returns-in-Some : goal.returns-in-Some
returns-in-Some c =
    rw (c.is_some.ensures) (clipping_known c.self.inside.table c.args.self.now c.args.id c.in-Some.node c.self.view_is c.self.invariant (sym c.in-Some.ensures))

pub returns-in-None : goal.returns-in-None
returns-in-None c = clipping_unknown c.self.inside.table c.args.self.now c.args.id c.self.view_is c.self.invariant (sym c.in-None.ensures)
