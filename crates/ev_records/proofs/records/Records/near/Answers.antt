use Rattle.std.proofs.Common.{◌∙◌, ◌++◌, ◌<◌, ap, ap₂, List, length, sym, subst}
use Rattle.ev_areas.specs.Meeting.{meeting}
use Rattle.ev_records.specs.Showing.{Showing}
use Rattle.ev_records.specs.Near.{FindsNear, IsAroundAll}
use Rattle.ev_records.specs.declared.cell.Cell.{Cell}
use Rattle.ev_records.proofs.Nearing.{finds_near}
use Rattle.ev_records.proofs.records.Records.near.Goals as goal

pub returns : goal.returns
returns c =
    let P : List Showing → Type 0 = λ all. FindsNear all c.args.group.now c.push_meeting.new.found.items in
    let Q : List Cell → Type 0 = λ cells. IsAroundAll cells c.args.group.now c.edges_of_all.result in
    subst P c.self.view_is (finds_near c.self.inside.formers.items c.self.inside.cells.items c.self.inside.areas.items c.args.group.now c.push_meeting.new.found.items c.edges_of_all.result
    c.self.invariant.kept.places c.self.invariant.areas
    (λ place m. let R : List Showing → Type 0 = λ all. place < length all in subst R (sym c.self.view_is) (c.requires.within place m))
    (subst Q c.deref.ensures.value c.edges_of_all.ensures)
    (c.in_ok-push_meeting.ensures ∙ ap (λ places. places ++ meeting c.of-bound.result 0 c.deref-2.result.now) c.new-found.ensures.items ∙ ap₂ (λ bound areas. meeting bound 0 areas) c.of-bound.ensures c.deref-2.ensures.value))
