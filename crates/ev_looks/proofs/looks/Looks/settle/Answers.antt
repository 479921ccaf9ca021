use Rattle.std.proofs.Common.{List, sym, subst}
use Rattle.ev_records.specs.Showing.{Showing}
use Rattle.ev_looks.specs.KeptLooks.{Shown, AreLooksOf}
use Rattle.ev_looks.proofs.Keeping.{kept_settled}
use Rattle.ev_looks.proofs.looks.Looks.settle.Goals as goal

pub returns-clause-kept : goal.returns-clause-kept
returns-clause-kept c = λ t are.
    let k : Shown = record { all = c.self.inside.records; w = c.self.inside.w; h = c.self.inside.h; stale = c.self.inside.stale } in
    subst (λ (all : List Showing). AreLooksOf (record { all = all; w = c.self.inside.w; h = c.self.inside.h; stale = c.self.inside.stale }) t) (sym c.settle.ensures)
    (kept_settled k t (subst (λ (k : Shown). AreLooksOf k t) (sym c.self.view_is) are))
