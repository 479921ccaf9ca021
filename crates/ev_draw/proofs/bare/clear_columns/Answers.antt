use Rattle.std.proofs.Common.{ℕ, ◌-◌, ap₂, refl, subst, arith}
use Rattle.std.specs.Prelude.{Option}
use Rattle.ev_argb.specs.Argb.{Argb, clear}
use Rattle.ev_model.specs.Paint.{put}
use Rattle.ev_model.specs.declared.object.Op.TheVariants.{Copy}
use Rattle.ev_cmds.specs.Masks.{IsNextRun}
use Rattle.ev_cmds.specs.declared.mask.Run.{Run}
use Rattle.ev_draw.specs.Making.{span}
use Rattle.ev_draw.proofs.Patching.{repainted}
use Rattle.ev_draw.proofs.Baring.{last_within, run_fits, run_more, no_run, none_next}
use Rattle.ev_draw.proofs.Solids.{span_painted}
use Rattle.ev_draw.proofs.bare.clear_columns.Goals as goal

pub put_color-requires-clause-columns : goal.put_color-requires-clause-columns
put_color-requires-clause-columns c =
    let run = c.in-Some.run' in
    let last = last_within c.args.bits c.loop-run.from run c.args.plane.now.w (subst (λ (found : Option Run). IsNextRun c.args.bits c.loop-run.from found) c.in-Some.is c.next_run.ensures) c.requires.within in
    let wide = c.loop-run.invariant.1.width in
    let x = c.from-x.ensures in
    let len = c.from-len.ensures in
    omega (arith, last, wide, x, len)

pub put_color-requires-clause-count : goal.put_color-requires-clause-count
put_color-requires-clause-count c =
    let run = c.in-Some.run' in
    let fits = run_fits c.args.bits c.loop-run.from run (subst (λ (found : Option Run). IsNextRun c.args.bits c.loop-run.from found) c.in-Some.is c.next_run.ensures) in
    let count = c.loop-run.invariant.1.count in
    let room = c.requires.count in
    let len = c.from-len.ensures in
    omega (arith, fits, count, room, len)

pub loop-run-preserved : goal.loop-run-preserved
loop-run-preserved c =
    let run = c.in-Some.run' in
    let y = c.args.y in
    let is = subst (λ (found : Option Run). IsNextRun c.args.bits c.loop-run.from found) c.in-Some.is c.next_run.ensures in (
      is.within,
      run_more c.args.bits y c.loop-run.from run c.args.plane.now c.loop-run.plane c.put_color.new.plane is c.loop-run.invariant.1
          (repainted (span c.from-x.result y c.from-len.result) (span run.left y (run.right - run.left)) (λ (i j : ℕ) (value : Argb). put Copy clear value) (λ (i j : ℕ) (value : Argb). clear) c.from-len.result (run.right - run.left)
          c.loop-run.plane c.put_color.new.plane (ap₂ (λ (a b : ℕ). span a y b) c.from-x.ensures c.from-len.ensures) c.from-len.ensures (λ i j value has. refl)
          (span_painted c.from-x.result y c.from-len.result (λ (i j : ℕ) (value : Argb). put Copy clear value) c.loop-run.plane c.put_color.new.plane c.put_color.ensures)),
    )

pub returns : goal.returns
returns c =
    no_run c.args.bits c.args.y c.loop-run.from c.args.plane.now c.loop-run.plane c.loop-run.invariant.0 (none_next c.args.bits c.loop-run.from c.next_run.result c.next_run.ensures c.in_default.not-Some) c.loop-run.invariant.1
