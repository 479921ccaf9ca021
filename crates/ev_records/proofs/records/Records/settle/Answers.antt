use Rattle.std.proofs.Common.{◌∙◌, ap, map, List, sym, subst}
use Rattle.ev_records.specs.Showing.{Showing, settled}
use Rattle.ev_records.specs.Cells.{shown, AreCells}
use Rattle.ev_records.specs.Near.{HaveAreas}
use Rattle.ev_records.specs.declared.cell.Former.{Former}
use Rattle.ev_records.proofs.Settling.{settled_cells, shown_settled}
use Rattle.ev_records.proofs.Nearing.{areas_settled}
use Rattle.ev_records.proofs.records.Records.settle.Goals as goal

pub invariant_of-self : goal.invariant_of-self
invariant_of-self c =
    let P : List Former → Type 0 = λ formers. AreCells formers c.settle_all.new.cells.items in
    let Q : List Showing → Type 0 = λ all. HaveAreas all c.self.inside.areas.items in
    record {
      kept = subst P (sym c.clear.ensures.items) (settled_cells c.self.inside.formers.items c.self.inside.cells.items c.settle_all.new.cells.items c.self.invariant.kept c.settle_all.ensures);
      areas = subst Q (sym (ap (λ formers. shown formers c.settle_all.new.cells.items) c.clear.ensures.items
          ∙ shown_settled c.self.inside.formers.items c.self.inside.cells.items c.settle_all.new.cells.items c.settle_all.ensures.same c.settle_all.ensures.none))
          (areas_settled (shown c.self.inside.formers.items c.self.inside.cells.items) c.self.inside.areas.items c.self.invariant.areas);
    }

pub returns : goal.returns
returns c =
    ap (λ formers. shown formers c.settle_all.new.cells.items) c.clear.ensures.items
    ∙ shown_settled c.self.inside.formers.items c.self.inside.cells.items c.settle_all.new.cells.items c.settle_all.ensures.same c.settle_all.ensures.none
    ∙ ap (map settled) c.self.view_is
