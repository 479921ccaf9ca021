use Rattle.std.proofs.Common.{arith, length, ◌<◌, sym, ap}
use Rattle.ev_records.proofs.Changing.{kept_inside, is_former}
use Rattle.ev_records.proofs.Settling.{settling_none, settling_more, all_settled}
use Rattle.ev_records.proofs.records.settle_all.Goals as goal

pub loop-i-init : goal.loop-i-init
loop-i-init c = settling_none c.args.formers.now c.args.cells.now.items c.requires.tied

pub index_mut-requires : goal.index_mut-requires
index_mut-requires c =
    let b : c.index-formers-i.result.place < length c.args.cells.now.items = kept_inside c.args.formers.now c.args.cells.now.items c.loop-i.i c.index-formers-i.result c.requires.tied c.loop-i-test.true c.index-formers-i.is in
    let e = ap (λ f. f.place) c.index-formers-i.is in
    omega (arith, b, e, c.loop-i.invariant.long, c.loop-i.cells.ok)

pub loop-i-preserved : goal.loop-i-preserved
loop-i-preserved c =
    let b : c.index-formers-i.result.place < length c.args.cells.now.items = kept_inside c.args.formers.now c.args.cells.now.items c.loop-i.i c.index-formers-i.result c.requires.tied c.loop-i-test.true c.index-formers-i.is in
    rw (sym c.index-formers-i.is) (settling_more c.args.formers.now c.loop-i.cells.items c.args.cells.now.items c.loop-i.i c.index-formers-i.result c.index_mut.result.now c.settle.new.cell c.loop-i.invariant
    (is_former c.args.formers.now c.loop-i.i c.index-formers-i.result c.loop-i-test.true c.index-formers-i.is) (omega (arith, b, c.loop-i.invariant.long)) (rw c.index-formers-i.is c.index_mut.ensures.value) c.settle.ensures)

pub returns : goal.returns
returns c = all_settled c.args.formers.now c.loop-i.cells.items c.args.cells.now.items c.loop-i.i c.loop-i.invariant (omega arith)
