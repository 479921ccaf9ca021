use Rattle.std.proofs.Common.{arith, ◌≡◌, ◌∙◌, ap, ap₂, refl, sym, subst, set, List, ◌<◌, ◌++◌, ◌∷◌, [], length, Some, None, is_some}
use Rattle.ev_records.specs.Showing.{Showing, put}
use Rattle.ev_records.specs.Cells.{look_in, shown}
use Rattle.ev_records.specs.Near.{HaveAreas}
use Rattle.ev_records.proofs.Changing.{there, may_stand, some_mark, none_mark, one_cell, put_again, cells_again, IsFirst, first_shown, first_cells}
use Rattle.ev_records.proofs.Nearing.{areas_put}
use Rattle.ev_records.proofs.records.Records.put.Goals as goal

pub invariant_of-self : goal.invariant_of-self
invariant_of-self c =
    let low = there c.self.inside.formers.items c.self.inside.cells.items c.args.self.now c.args.place c.self.view_is c.requires.there in
    let mark = some_mark c.index_mut.result.now.mark (ap (λ k. is_some k.mark) (one_cell c.self.inside.cells.items c.args.place c.index_mut.result.now c.index.result.now low c.index_mut.ensures.value c.index.ensures) ∙ sym c.is_some.ensures ∙ c.if-is_some.true) in
    let P : List Showing → Type 0 = λ all. HaveAreas all (set c.self.inside.areas.items c.args.place c.packed-area.result) in
    let Q : List Showing → Type 0 = λ all. c.args.place < length all in
    record {
      kept = cells_again c.self.inside.formers.items c.self.inside.cells.items c.args.place c.index_mut.result.now _ c.args.one low c.index_mut.ensures.value refl mark.0 mark.1
          (may_stand _ c.args.self.now c.args.place c.args.one c.self.view_is c.requires.stands) c.self.invariant.kept;
      areas = subst P (sym (put_again c.self.inside.formers.items c.self.inside.cells.items c.args.place c.index_mut.result.now _ c.args.one low c.index_mut.ensures.value refl mark.0 mark.1))
          (areas_put (shown c.self.inside.formers.items c.self.inside.cells.items) c.self.inside.areas.items c.args.place (look_in c.args.one) c.packed-area.result c.self.invariant.areas (subst Q (sym c.self.view_is) c.requires.there) c.packed-area.ensures);
    }

pub returns-then-is_some-clause-ok : goal.returns-then-is_some-clause-ok
returns-then-is_some-clause-ok c =
    let low = there c.self.inside.formers.items c.self.inside.cells.items c.args.self.now c.args.place c.self.view_is c.requires.there in
    let mark = some_mark c.index_mut.result.now.mark (ap (λ k. is_some k.mark) (one_cell c.self.inside.cells.items c.args.place c.index_mut.result.now c.index.result.now low c.index_mut.ensures.value c.index.ensures) ∙ sym c.is_some.ensures ∙ c.if-is_some.true) in
    put_again c.self.inside.formers.items c.self.inside.cells.items c.args.place c.index_mut.result.now _ c.args.one low c.index_mut.ensures.value refl mark.0 mark.1
    ∙ ap (λ all. put all c.args.place (look_in c.args.one)) c.self.view_is

pub invariant_of-self-2 : goal.invariant_of-self-2
invariant_of-self-2 c =
    let low = there c.self.inside.formers.items c.self.inside.cells.items c.args.self.now c.args.place c.self.view_is c.requires.there in
    let none : c.index_mut-cell.result.now.mark ≡ None =
    none_mark _ (ap (λ k. is_some k.mark) (one_cell c.self.inside.cells.items c.args.place c.index_mut-cell.result.now c.index.result.now low c.index_mut-cell.ensures.value c.index.ensures) ∙ sym c.is_some.ensures ∙ c.if-is_some.false) in
    let n : c.len.result ≡ length c.self.inside.formers.items = omega (arith, c.len.ensures, c.reserve.ensures.len, c.self.inside.formers.ok) in
    let first : IsFirst c.self.inside.formers.items c.push.new.self.items c.args.place c.index_mut-cell.result.now _ c.args.one = record {
      kept = c.in-Ok.ensures.items ∙ ap₂ (λ formers was. formers ++ record { place = c.args.place; was = was } ∷ []) c.reserve.ensures.items c.replace-was.ensures.value;
      cell = ap₂ (λ present n. record { present = present; mark = Some n }) c.replace-was.ensures.after n;
    } in
    let P : List Showing → Type 0 = λ all. HaveAreas all (set c.self.inside.areas.items c.args.place c.packed-area.result) in
    let Q : List Showing → Type 0 = λ all. c.args.place < length all in
    record {
      kept = first_cells c.self.inside.formers.items c.push.new.self.items c.self.inside.cells.items c.args.place c.index_mut-cell.result.now _ c.args.one first low c.index_mut-cell.ensures.value none
          (may_stand _ c.args.self.now c.args.place c.args.one c.self.view_is c.requires.stands) c.self.invariant.kept;
      areas = subst P (sym (first_shown c.self.inside.formers.items c.push.new.self.items c.self.inside.cells.items c.args.place c.index_mut-cell.result.now _ c.args.one first low c.index_mut-cell.ensures.value none c.self.invariant.kept.tied))
          (areas_put (shown c.self.inside.formers.items c.self.inside.cells.items) c.self.inside.areas.items c.args.place (look_in c.args.one) c.packed-area.result c.self.invariant.areas (subst Q (sym c.self.view_is) c.requires.there) c.packed-area.ensures);
    }

pub returns-clause-ok : goal.returns-clause-ok
returns-clause-ok c =
    let low = there c.self.inside.formers.items c.self.inside.cells.items c.args.self.now c.args.place c.self.view_is c.requires.there in
    let none : c.index_mut-cell.result.now.mark ≡ None =
    none_mark _ (ap (λ k. is_some k.mark) (one_cell c.self.inside.cells.items c.args.place c.index_mut-cell.result.now c.index.result.now low c.index_mut-cell.ensures.value c.index.ensures) ∙ sym c.is_some.ensures ∙ c.if-is_some.false) in
    let n : c.len.result ≡ length c.self.inside.formers.items = omega (arith, c.len.ensures, c.reserve.ensures.len, c.self.inside.formers.ok) in
    first_shown c.self.inside.formers.items c.push.new.self.items c.self.inside.cells.items c.args.place c.index_mut-cell.result.now _ c.args.one (record {
      kept = c.in-Ok.ensures.items ∙ ap₂ (λ formers was. formers ++ record { place = c.args.place; was = was } ∷ []) c.reserve.ensures.items c.replace-was.ensures.value;
      cell = ap₂ (λ present n. record { present = present; mark = Some n }) c.replace-was.ensures.after n;
    }) low c.index_mut-cell.ensures.value none c.self.invariant.kept.tied
    ∙ ap (λ all. put all c.args.place (look_in c.args.one)) c.self.view_is
