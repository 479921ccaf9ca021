use Rattle.std.proofs.Common.{length, inl, inr, arith}
use Rattle.std.proofs.lemmas.Bool.Decides.{leb_tells}
use Rattle.ev_looks.proofs.Looking.{right_past, looked_twice, right_more}
use Rattle.ev_looks.proofs.walk.Ground.look_at_all.Goals as goal

pub loop-place-preserved : goal.loop-place-preserved
loop-place-preserved c =
    let g = c.args.self.now in
    let new = c.look_at.new.records in
    record {
      looks = looked_twice g c.args.records.now c.loop-place.records new c.loop-place.invariant.looks c.look_at.ensures.looks;
      done = right_more g c.loop-place.records new c.look_at.ensures.looks c.loop-place.place c.loop-place.invariant.done c.in_ok-look_at.ensures.ok;
    }

pub returns-clause-ok : goal.returns-clause-ok
returns-clause-ok c = λ place.
    let records = c.loop-place.records in
    let same = c.loop-place.invariant.looks.len in
    let enough = c.requires.enough in
    let len = c.len-place-end.ensures in
    let past = c.loop-place-test.false in
    elim (leb_tells (length records) place) [
      | inl high ↦ right_past c.args.self.now c.requires.ground records (omega (arith, enough, same)) place high.1
      | inr low ↦ c.loop-place.invariant.done place (let less = low.1 in omega (arith, less, same, len, past))
    ]
