use Rattle.std.proofs.Common.{List, subst}
use Rattle.ev_records.specs.Showing.{Showing, HavePlaces}
use Rattle.ev_records.specs.Near.{HaveAreas}
use Rattle.ev_records.proofs.Nearing.{apart_unless}
use Rattle.ev_records.proofs.records.Records.may_meet.Goals as goal

pub returns : goal.returns
returns c = λ told x y.
    let P : List Showing → Type 0 = HavePlaces in
    let Q : List Showing → Type 0 = λ all. HaveAreas all c.self.inside.areas.items in
    apart_unless c.args.self.now c.self.inside.areas.items c.args.a c.args.b c.index.result.now c.index-2.result.now c.meets.result
    (subst P c.self.view_is c.self.invariant.kept.places) (subst Q c.self.view_is c.self.invariant.areas) c.requires.a c.requires.b c.index.ensures c.index-2.ensures c.meets.ensures told x y
