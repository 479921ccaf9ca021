use Rattle.std.proofs.Common.{◌<◌, length, arith}
use Rattle.ev_records.specs.Cells.{look_in}
use Rattle.ev_looks.proofs.Looking.{right_past, may_be_put, put_looks}
use Rattle.ev_looks.proofs.walk.Ground.look_at.Goals as goal

pub returns-then-place-len-clause-ok : goal.returns-then-place-len-clause-ok
returns-then-place-len-clause-ok c =
    let len = c.len.ensures in
    let past = c.if-place-len.true in
    right_past c.args.self.now c.requires.ground c.args.records.now c.requires.enough c.args.place (omega (arith, len, past))

pub put-requires-clause-stands : goal.put-requires-clause-stands
put-requires-clause-stands c = may_be_put c.args.self.now c.requires.ground c.args.records.now c.requires.seated c.args.place c.in_ok-one.one c.in_ok-one.ensures

pub returns-clause-looks : goal.returns-clause-looks
returns-clause-looks c =
    let len = c.len.ensures in
    let past = c.if-place-len.false in
    let low : c.args.place < length c.args.records.now = omega (arith, len, past) in
    put_looks c.args.self.now c.requires.ground c.args.records.now c.requires.seated c.args.place low (look_in c.in_ok-one.one) c.in_ok-one.ensures c.put.result c.put.new.self c.put.ensures.ok c.put.ensures.err
