use Rattle.std.proofs.Common.{List, [], ◌∷◌, get_or, subst, sym}
use Rattle.ev_geom.specs.Bands.{has_pixel}
use Rattle.ev_model.specs.Capture.{capture_on}
use Rattle.ev_model.specs.declared.scene.Record.{Record}
use Rattle.ev_cmds.specs.Cuts.{Cut, IsCutOf}
use Rattle.ev_draw.specs.SmallPlanes.{IsSmallPlane}
use Rattle.ev_draw.proofs.Testing.{still_small}
use Rattle.ev_draw.proofs.tile_tests.drawn.Goals as goal

pub returns : goal.returns
returns c =
    let work = has_pixel c.args.work.now in
    let records : List Record = get_or c.args.records.now 0 c.index-records-0.result ∷ get_or c.args.records.now 1 c.index-records-1.result ∷ [] in
    let capture = capture_on 4 4 records in
    let cut = subst (λ (cut : Cut). IsCutOf work capture cut) (sym c.in_ok-commands-2.ensures.ok) c.in_ok-commands.ensures in
    subst IsSmallPlane (sym c.plane-2.ensures)
    (still_small work capture _ c.for_tile.result.now c.new-3.result c.in_ok-plane.plane c.draw.result c.new-3.ensures cut c.in_ok-plane.ensures.0 (c.draw.ensures.drawn work capture c.for_tile.result.now))
