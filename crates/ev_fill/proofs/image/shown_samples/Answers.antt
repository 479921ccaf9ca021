use Rattle.std.proofs.Common.{ℕ, ◌%◌, ◌∙◌, None, ap, sym, length, arith}
use Rattle.std.proofs.lemmas.List.{length-replicate}
use Rattle.std.proofs.lemmas.List.FromFn.{length-map-range_with_len}
use Rattle.ev_model.specs.Axis.{phase}
use Rattle.ev_model.specs.Raster.{row}
use Rattle.ev_fill.specs.Parts.{place_sample}
use Rattle.ev_fill.proofs.Images.{found_columns, row_run, none_run, row_args}
use Rattle.ev_fill.proofs.image.shown_samples.Goals as goal

pub returns-in-Some-clause-samples : goal.returns-in-Some-clause-samples
returns-in-Some-clause-samples g c =
    let columns = c.columns-columns.result in
    let shown = c.in-Some.shown in
    let found = found_columns c.args.image.now c.args.part.now c.args.w columns c.columns-columns.ensures.value c.columns-columns.ensures.axis c.columns-columns.ensures.source c.requires.fill (omega arith) (omega arith) in
    λ h j within at.
    c.fill_row.ensures
    ∙ row_args g.T.Form.form c.row.result.now (row c.args.image.now shown.y) columns shown.hidden c.place_of-phase.result (phase columns c.args.i) (length c.args.into.now) c.row.ensures.value c.place_of-phase.ensures.value
    ∙ row_run g.T.Form.form c.args.image.now c.args.part.now c.args.w h columns c.args.i j (length c.args.into.now) c.args.shown shown found c.requires.fill (omega arith) (sym at) c.in-Some.is

pub returns-in-None-clause-samples : goal.returns-in-None-clause-samples
returns-in-None-clause-samples g c =
    let columns = c.columns-columns.result in
    let found = found_columns c.args.image.now c.args.part.now c.args.w columns c.columns-columns.ensures.value c.columns-columns.ensures.axis c.columns-columns.ensures.source c.requires.fill (omega arith) (omega arith) in
    λ h j within at.
    c.empty.ensures
    ∙ none_run g.T.Form.form c.args.image.now c.args.part.now c.args.w h columns c.args.i j (length c.args.into.now) c.args.shown found c.requires.fill (omega arith) (sym at) c.in-None.is

pub returns-in-Some-clause-len : goal.returns-in-Some-clause-len
returns-in-Some-clause-len g c = ap length c.fill_row.ensures ∙ length-map-range_with_len (λ (u : ℕ). g.T.Form.form (place_sample c.row.result.now c.columns-columns.result c.in-Some.shown.hidden (u % c.columns-columns.result.len))) c.place_of-phase.result (length c.args.into.now)

pub returns-in-None-clause-len : goal.returns-in-None-clause-len
returns-in-None-clause-len g c = ap length c.empty.ensures ∙ length-replicate (length c.args.into.now) (g.T.Form.form None)
