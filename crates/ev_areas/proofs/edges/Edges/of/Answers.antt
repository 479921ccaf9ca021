use Rattle.std.proofs.Common.{arith, subst}
use Rattle.std.proofs.lemmas.Int.{ints}
use Rattle.ev_areas.specs.Edges.{IsNearest}
use Rattle.ev_areas.proofs.Edging.{edges_of}
use Rattle.ev_areas.proofs.edges.Edges.of.Goals as goal

pub returns : goal.returns
returns c =
    edges_of _ _ _ _
    (subst (λ n. IsNearest n c.args.w c.nearest.result) (omega (arith, ints)) c.nearest.ensures)
    (subst (λ n. IsNearest n c.args.w c.nearest_end.result) (omega (arith, ints)) c.nearest_end.ensures)
    (subst (λ n. IsNearest n c.args.h c.nearest-2.result) (omega (arith, ints)) c.nearest-2.ensures)
    (subst (λ n. IsNearest n c.args.h c.nearest_end-2.result) (omega (arith, ints)) c.nearest_end-2.ensures)
