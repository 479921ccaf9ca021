use Rattle.std.proofs.Common.{◌∙◌, arith}
use Rattle.ev_model.specs.Axis.{phase}
use Rattle.ev_model.specs.Raster.{row}
use Rattle.ev_fill.proofs.Images.{found_columns, one_sample, place_args}
use Rattle.ev_fill.proofs.image.image_sample.Goals as goal

pub returns : goal.returns
returns c =
    let columns = c.columns-columns.result in
    let shown = c.in_ok-shown.shown in
    let found = found_columns c.args.image.now c.args.part.now c.args.w columns c.columns-columns.ensures.value c.columns-columns.ensures.axis c.columns-columns.ensures.source c.requires.fill (omega arith) (omega arith) in
    c.place_sample.ensures
    ∙ place_args c.row.result.now (row c.args.image.now shown.y) columns shown.hidden c.phase.result (phase columns c.args.i) c.row.ensures.value c.phase.ensures.value
    ∙ one_sample c.args.image.now c.args.part.now c.args.w c.args.h columns c.args.i c.args.j c.at.result shown found c.requires.fill (omega arith) c.at.ensures.value c.in_ok-shown.was
