use Rattle.std.proofs.Common.{◌∙◌, ◌++◌, ◌∷◌, [], List, ap, sym, subst}
use Rattle.std.proofs.lemmas.List.{map-append}
use Rattle.ev_areas.specs.Packed.{nowhere}
use Rattle.ev_areas.specs.declared.edges.Edges.{Edges}
use Rattle.ev_records.specs.Showing.{Showing}
use Rattle.ev_records.specs.Cells.{AreCells, shown, showing_of, empty_cell}
use Rattle.ev_records.specs.Near.{HaveAreas}
use Rattle.ev_records.specs.declared.cell.Cell.{Cell}
use Rattle.ev_records.proofs.Changing.{cells_added}
use Rattle.ev_records.proofs.Nearing.{areas_added}
use Rattle.ev_records.proofs.records.Records.add.Goals as goal

pub invariant_of-self-2 : goal.invariant_of-self-2
invariant_of-self-2 c =
    let P : List Cell → Type 0 = AreCells c.self.inside.formers.items in
    let Q : List Cell → Type 0 = λ cells. HaveAreas (shown c.self.inside.formers.items cells) c.push-2.new.self.items in
    let R : List Edges → Type 0 = HaveAreas (shown c.self.inside.formers.items (c.self.inside.cells.items ++ empty_cell ∷ [])) in
    let S : List Showing → Type 0 = λ all. HaveAreas all (c.self.inside.areas.items ++ nowhere ∷ []) in
    record {
      kept = subst P (sym c.in_ok-push.ensures.items) (cells_added c.self.inside.formers.items c.self.inside.cells.items c.self.invariant.kept);
      areas = subst Q (sym c.in_ok-push.ensures.items) (subst R (sym (c.in-Ok.ensures.items ∙ ap (λ areas. areas ++ nowhere ∷ []) c.reserve.ensures.items))
          (subst S (sym (map-append (showing_of c.self.inside.formers.items) c.self.inside.cells.items (empty_cell ∷ []))) (areas_added (shown c.self.inside.formers.items c.self.inside.cells.items) c.self.inside.areas.items c.self.invariant.areas)));
    }
