use Rattle.std.proofs.Common.{ℕ, Option, sym, subst}
use Rattle.ev_sights.specs.Sights.{TintsAs}
use Rattle.ev_model.specs.Stage.{values}
use Rattle.ev_sights.proofs.sights.next_tinted.Goals as goal

pub returns-in-Some : goal.returns-in-Some
returns-in-Some c =
    let P : Option ℕ → Type 0 = λ at. TintsAs (values c.args.ground.now.objects.now) at c.in-Some.sight.now.tinted in
    subst P (sym c.in_ok-at.was) (c.requires.known c.in_ok-at.field-0 c.in-Some.sight.now (sym c.in-Some.ensures.value)).tints
