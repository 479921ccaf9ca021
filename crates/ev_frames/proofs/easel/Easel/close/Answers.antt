use Rattle.std.proofs.Common.{◌≡◌, Some, IfSome, sym, subst}
use Rattle.ev_frames.specs.Running.{Keeps}
use Rattle.ev_frames.specs.Stand.{KeepsTo, FitsFrame}
use Rattle.ev_frames.proofs.Standing.{closes}
use Rattle.ev_frames.proofs.easel.Easel.close.Goals as goal

pub returns-in-Some-clause-kept : goal.returns-in-Some-clause-kept
returns-in-Some-clause-kept c = λ paint hidden keeps.
    let now = subst (KeepsTo paint hidden) (sym c.self.view_is) keeps in
    let was : c.self.inside.frame ≡ Some c.in-Some.frame = (let taken = c.take.ensures.value in let is = c.in-Some.is in cc) in
    let fits = subst (FitsFrame c.self.inside.painted c.self.inside.buffers) was c.self.invariant.frame in
    let draws = subst (λ frame. IfSome frame (Keeps paint hidden)) was now.frame in
    subst (λ frame. KeepsTo paint hidden (record { chain = c.give_back.new.self; frame = frame; given_up = c.self.inside.given_up })) (sym c.take.ensures.after)
    (closes c.self.inside.buffers c.give_back.new.self c.in-Some.frame c.close-loan.result.0 c.self.inside.given_up paint hidden fits.1 fits.2 c.close-loan.ensures.tiles
    (c.close-loan.ensures.kept paint hidden) c.give_back.ensures.done now.buffers draws)
