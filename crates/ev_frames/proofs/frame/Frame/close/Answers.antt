use Rattle.std.proofs.Common.{◌≡◌, ◌+◌, arith, sym, ap, ◌∙◌, subst}
use Rattle.std.proofs.lemmas.Grind.{common_steps}
use Rattle.std.proofs.Common.{Some}
use Rattle.ev_argb.specs.Grid.{HasSizeOf, painted_of, with_plane}
use Rattle.ev_buffers.specs.Kept.{KeepsByPutting}
use Rattle.std.specs.List.{slice_index}
use Rattle.ev_frames.proofs.Closing.{plane_fits, returned, returns}
use Rattle.ev_frames.proofs.frame.Frame.close.Goals as goal

pub put-requires-clause-size : goal.put-requires-clause-size
put-requires-clause-size c =
    subst (HasSizeOf c.loop-tile.loan.picture.w c.loop-tile.loan.picture.h (slice_index c.loop-tile.loan.tiles c.len.result)) (sym c.plane-plane.ensures)
    (plane_fits _ _ _ c.pop.new.self.items c.in-Some.tile c.len.result _ c.loop-tile.invariant c.in-Some.ensures.items (grind (arith, common_steps, c.len.ensures, c.pop.new.self.ok)))

pub loop-tile-preserved : goal.loop-tile-preserved
loop-tile-preserved c =
    returns _ c.loop-tile.loan c.put.new.self c.loop-tile.done.items c.pop.new.self.items c.in-Some.tile c.len.result _ _ c.loop-tile.invariant c.in-Some.ensures.items (grind (arith, common_steps, c.len.ensures, c.pop.new.self.ok))
    (subst (λ plane. c.put.new.self ≡ record c.loop-tile.loan { picture = with_plane c.loop-tile.loan.picture (slice_index c.loop-tile.loan.tiles c.len.result) (Some plane) }) c.plane-plane.ensures c.put.ensures.back)
    (c.put.ensures.painted ∙ ap (λ plane. painted_of c.loop-tile.loan.picture + plane.painted) c.plane-plane.ensures)
    (ap (λ n. c.loop-tile.painted + n) (c.painted-painted.ensures ∙ ap (λ plane. plane.painted) c.plane-plane.ensures))
    (subst (λ plane. KeepsByPutting c.loop-tile.loan c.len.result plane c.put.new.self) c.plane-plane.ensures c.put.ensures.kept)

pub returns-clause-kept : goal.returns-clause-kept
returns-clause-kept c = λ paint hidden keeps. returned c.args.self c.loop-tile.loan c.loop-tile.done.items c.loop-tile.painted paint hidden c.loop-tile.invariant (grind (arith, common_steps, c.in_default.is, c.in_default.ensures)) keeps
