use Rattle.std.proofs.Common.{ℕ, ◌*◌, ◌/◌, ◌∙◌, refl, sym, ap, arith}
use Rattle.std.specs.Prelude.{slice_get}
use Rattle.std.proofs.lemmas.Option.{slice_get_read}
use Rattle.ev_model.proofs.Runs.{run_more}
use Rattle.ev_fill.proofs.Stretched.{place_from}
use Rattle.ev_fill.proofs.run.stretch_run.Goals as goal

pub loop-k-preserved : goal.loop-k-preserved
loop-k-preserved g c =
    let middle = c.args.middle.now in
    let at = c.stretched.result in
    let read = slice_get_read middle _ at c.index-middle-stretched.result refl (omega (arith, c.stretched.ensures.within, c.requires.source)) c.index-middle-stretched.is in
    run_more (λ (u : ℕ). g.T.Form.form (slice_get middle (u * c.args.source / c.args.part))) c.args.into.now c.loop-k.into c.args.from c.loop-k.k c.of.result c.loop-k-test.true c.loop-k.invariant
    (place_from (λ (x : ℕ). g.T.Form.form (slice_get middle x)) c.of.result at c.args.from c.from-in-loop-k.result c.loop-k.k c.args.source c.args.part (c.of.ensures ∙ ap g.T.Form.form (sym read)) c.stretched.ensures.value c.from-in-loop-k.ensures)
