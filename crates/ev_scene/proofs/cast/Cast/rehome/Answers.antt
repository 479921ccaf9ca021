use Rattle.std.proofs.Common.{FitsSigned, w32, rules, sym, ap₂}
use Rattle.std.proofs.lemmas.Int.{to_z-of_z}
use Rattle.ev_scene.specs.Board.{values_of}
use Rattle.ev_scene.proofs.Rehoming.{stands_there, from_known, undone, gone}
use Rattle.ev_scene.proofs.cast.Cast.rehome.Goals as goal

pub remove_from-requires-clause-there : goal.remove_from-requires-clause-there
remove_from-requires-clause-there c =
    let short : FitsSigned w32 c.in-Some.object.now.layer = search rules in
    stands_there c.requires.whole c.args.id c.in-Some.object.now c.args.to (sym c.in-Some.ensures) c.requires.known
    (c.requires.other c.in-Some.object.now (sym c.in-Some.ensures)) c.push_into.new.groups (simp to_z-of_z at (c.in_ok-push_into.ensures).ok)

pub returns-in-Err-clause-err : goal.returns-in-Err-clause-err
returns-in-Err-clause-err c =
    let short : FitsSigned w32 c.in-Some.object.now.layer = search rules in
    ap₂ (λ states groups. record { w = c.args.self.now.w; h = c.args.self.now.h; made = c.change.new.self.made; states = states; groups = groups }) (c.in-Err.ensures).err
    (undone c.requires.whole c.args.id c.in-Some.object.now c.args.to (sym c.in-Some.ensures) c.requires.known
    (c.requires.other c.in-Some.object.now (sym c.in-Some.ensures)) c.push_into.new.groups (simp to_z-of_z at (c.in_ok-push_into.ensures).ok) c.remove_from.new.groups c.remove_from.ensures.moved)

pub remove_from-requires-2-clause-known : goal.remove_from-requires-2-clause-known
remove_from-requires-2-clause-known c =
    let short : FitsSigned w32 c.in-Some.object.now.layer = search rules in
    from_known c.requires.whole c.args.id c.in-Some.object.now c.args.to (sym c.in-Some.ensures) c.requires.known
    (c.requires.other c.in-Some.object.now (sym c.in-Some.ensures)) c.push_into.new.groups (simp to_z-of_z at (c.in_ok-push_into.ensures).ok)

pub returns-clause-whole : goal.returns-clause-whole
returns-clause-whole c =
    let short : FitsSigned w32 c.in-Some.object.now.layer = search rules in
    gone c.requires.whole c.args.id c.in-Some.object.now c.args.to (sym c.in-Some.ensures) c.requires.known
    (c.requires.other c.in-Some.object.now (sym c.in-Some.ensures)) c.push_into.new.groups (simp to_z-of_z at (c.in_ok-push_into.ensures).ok) (values_of c.change.new.self.states) c.remove_from-2.new.groups c.remove_from-2.ensures.order.distinct
    (c.in_default-change.ensures).ok c.remove_from-2.ensures.moved
