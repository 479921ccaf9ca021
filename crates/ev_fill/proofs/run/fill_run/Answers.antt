use Rattle.std.proofs.Common.{◌≡◌, ℕ, ◌-◌, ◌≤◌, ◌<◌, ◌∙◌, ◌||◌, true, false, length, sym, ap}
use Rattle.std.specs.Prelude.{◌==◌}
use Rattle.ev_model.specs.Axis.{low_part, high_part, middle_source, middle_part}
use Rattle.ev_fill.proofs.Places.{low_run, high_run, empty_run, same_run, stretched_run}
use Rattle.ev_fill.proofs.run.fill_run.Goals as goal

pub returns-then-u-low : goal.returns-then-u-low
returns-then-u-low g c =
    let low : c.args.u < low_part c.args.columns.now = rw (← c.low_part-low.ensures) c.if-u-low.true in
    c.copy_run.ensures ∙ low_run g.T.Form.form c.args.row.now c.args.columns.now c.args.hidden c.args.u (length c.args.into.now) (c.requires.part.low low)

pub returns-then-columns-high_part : goal.returns-then-columns-high_part
returns-then-columns-high_part g c =
    let low : low_part c.args.columns.now ≤ c.args.u = rw (← c.low_part-low.ensures) c.if-u-low.false in
    let high : c.args.columns.now.len - high_part c.args.columns.now ≤ c.args.u = rw (← c.high_part.ensures) c.if-columns-high_part.true in
    c.copy_run-then-columns-high_part.ensures
    ∙ high_run g.T.Form.form c.args.row.now c.args.columns.now c.args.hidden c.args.u (length c.args.into.now) c.requires.row low high c.requires.part.high

pub returns-then-has_no_samples : goal.returns-then-has_no_samples
returns-then-has_no_samples g c =
    let low : low_part c.args.columns.now ≤ c.args.u = rw (← c.low_part-low.ensures) c.if-u-low.false in
    let high : c.args.u < c.args.columns.now.len - high_part c.args.columns.now = rw (← c.high_part.ensures) c.if-columns-high_part.false in
    let nothing : (c.args.hidden || middle_source c.args.columns.now == 0) ≡ true = ap (λ (source : ℕ). c.args.hidden || source == 0) (sym c.middle_source-source.ensures) ∙ sym c.has_no_samples.ensures ∙ c.if-has_no_samples.true in
    c.empty.ensures
    ∙ empty_run g.T.Form.form c.args.row.now c.args.columns.now c.args.hidden c.args.u (length c.args.into.now) nothing low (c.requires.part.middle low high)

pub returns-then-source-part : goal.returns-then-source-part
returns-then-source-part g c =
    let low : low_part c.args.columns.now ≤ c.args.u = rw (← c.low_part-low.ensures) c.if-u-low.false in
    let high : c.args.u < c.args.columns.now.len - high_part c.args.columns.now = rw (← c.high_part.ensures) c.if-columns-high_part.false in
    let nothing : (c.args.hidden || middle_source c.args.columns.now == 0) ≡ false = ap (λ (source : ℕ). c.args.hidden || source == 0) (sym c.middle_source-source.ensures) ∙ sym c.has_no_samples.ensures ∙ c.if-has_no_samples.false in
    let same : middle_source c.args.columns.now ≡ middle_part c.args.columns.now = sym c.middle_source-source.ensures ∙ c.if-source-part.true ∙ c.middle_part-part.ensures in
    c.copy_run-then-source-part.ensures
    ∙ same_run g.T.Form.form c.args.row.now c.args.columns.now c.args.hidden c.args.u (length c.args.into.now) _ _ c.low_source.ensures c.low_part-low.ensures nothing same low (c.requires.part.middle low high)

pub returns-else-source-part : goal.returns-else-source-part
returns-else-source-part g c =
    let low : low_part c.args.columns.now ≤ c.args.u = rw (← c.low_part-low.ensures) c.if-u-low.false in
    let high : c.args.u < c.args.columns.now.len - high_part c.args.columns.now = rw (← c.high_part.ensures) c.if-columns-high_part.false in
    let nothing : (c.args.hidden || middle_source c.args.columns.now == 0) ≡ false = ap (λ (source : ℕ). c.args.hidden || source == 0) (sym c.middle_source-source.ensures) ∙ sym c.has_no_samples.ensures ∙ c.if-has_no_samples.false in
    c.stretch_run.ensures
    ∙ stretched_run g.T.Form.form c.args.row.now c.args.columns.now c.args.hidden c.args.u (length c.args.into.now) _ _ _ _ c.low_source-else-source-part.ensures c.low_part-low.ensures c.middle_source-source.ensures c.middle_part-part.ensures nothing low (c.requires.part.middle low high)
