use Rattle.std.proofs.Common.{length, get_or, None, arith}
use Rattle.std.proofs.lemmas.List.FromFn.{fill_by_all}
use Rattle.ev_argb.specs.Argb.{clear}
use Rattle.ev_script.specs.Dumps.{unhidden}
use Rattle.ev_script.proofs.picture.hide.Goals as goal

pub returns : goal.returns
returns c = fill_by_all (λ x. unhidden c.args.hidden.now x c.args.y (get_or c.args.pixels.now x clear)) c.loop-x.places (length c.args.pixels.now) None c.loop-x.invariant.size
    (λ k below. c.loop-x.invariant.done k (omega (arith, below, c.loop-x-test.false, c.loop-x.auto.x-end, c.loop-x.invariant.size, c.requires.length)))
