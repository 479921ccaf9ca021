use Rattle.std.proofs.Common.{sym, ap, ◌∙◌}
use Rattle.ev_geom.specs.Bands.{has_pixel}
use Rattle.ev_geom.specs.Tiles.{tiles_along, holds_tile}
use Rattle.ev_geom.proofs.Tilings.{met, kept_tile, left_tile, inside}
use Rattle.ev_buffers.proofs.jobs.jobs.Goals as goal
use Rattle.ev_buffers.proofs.jobs.jobs.Goals.{then-has+in_ok-push, else-has}

pub loop-tile-preserved : goal.loop-tile-preserved
loop-tile-preserved c =
    let place = inside c.args.w c.args.h c.tiles_along-columns.result c.tiles_along.result c.loop-tile.tile c.tiles_along-columns.ensures c.tiles_along.ensures c.loop-tile-test.true in
    let seen = met (has_pixel c.args.region.now) c.args.w c.args.h c.tiles_along-columns.result c.loop-tile.tile c.in_ok-tiles_met.tiles_met c.in_ok-tiles_met.ensures place.0 place.1 in
    let is = c.has.ensures ∙ seen ∙ ap (λ n. holds_tile (has_pixel c.args.region.now) n c.loop-tile.tile) c.tiles_along-columns.ensures in
    elim c.if-has.branch [
      | then-has+in_ok-push w ↦
          kept_tile (holds_tile (has_pixel c.args.region.now) (tiles_along c.args.w)) c.loop-tile.tile c.loop-tile.tiles.items c.if-has.tiles.items (sym is ∙ w.if-has.true) c.loop-tile.invariant (ap (λ v. v.items) w.tiles-is ∙ w.in_ok-push.ensures.items)
      | else-has w ↦ rw w.tiles-is (left_tile (holds_tile (has_pixel c.args.region.now) (tiles_along c.args.w)) c.loop-tile.tile c.loop-tile.tiles.items (sym is ∙ w.if-has.false) c.loop-tile.invariant)
    ]
