use Rattle.std.proofs.Common.{◌-◌, List, map, arith, subst, ap, sym, ◌∙◌}
use Rattle.std.proofs.lemmas.List.{length-map}
use Rattle.std.proofs.Math.ListN.{get_or-map}
use Rattle.ev_model.specs.declared.scene.Record.{Record}
use Rattle.ev_cmds.specs.Frames.{Takes}
use Rattle.ev_geom.specs.Bands.{has_pixel}
use Rattle.ev_cmds.proofs.Cutting.{looks_from, few_from, one_taken, is_cut, is_cut_of}
use Rattle.ev_cmds.proofs.commands.Commands.build.Goals as goal

pub loop-left-preserved : goal.loop-left-preserved
loop-left-preserved c =
    let records : List Record = map (λ r. r.now) c.args.records.now in
    let count = length-map c.args.records.now (λ r. r.now) in (
      omega (arith, c.loop-left.invariant.0),
      one_taken (has_pixel c.args.work.now) records c.loop-left.left c.args.w c.args.h c.index-records-left.result.now c.loop-left.frame c.take.new.self (omega arith) (omega (arith, c.loop-left.invariant.0, count)) c.loop-left.invariant.1
          (subst (λ (r : Record). Takes r c.loop-left.frame c.take.new.self) (ap (λ r. r.now) c.index-records-left.is ∙ sym (get_or-map (λ r. r.now) c.args.records.now (c.loop-left.left - 1) c.index-records-left.result)) c.in_ok-take.ensures),
    )

pub invariant_of-result : goal.invariant_of-result
invariant_of-result c =
    let records : List Record = map (λ r. r.now) c.args.records.now in
    let count = length-map c.args.records.now (λ r. r.now) in
    is_cut (has_pixel c.args.work.now) (looks_from records c.loop-left.left) c.args.w c.args.h c.loop-left.frame c.requires.width c.requires.height (few_from records c.loop-left.left (omega (arith, c.requires.few, count))) c.requires.work c.loop-left.invariant.1

pub returns : goal.returns
returns c =
    is_cut_of (has_pixel c.args.work.now) (map (λ r. r.now) c.args.records.now) c.loop-left.left c.args.w c.args.h c.loop-left.frame (omega arith) c.loop-left.invariant.1
