use Rattle.std.proofs.Common.{◌≡◌, ◌<◌, ℕ, ◌*◌, pos, true, List, arith, subst}
use Rattle.ev_geom.specs.Area.{Area}
use Rattle.ev_geom.specs.Bands.{has_pixel}
use Rattle.ev_areas.specs.Edges.{has_pixel_at}
use Rattle.ev_cmds.specs.Frames.{OpensRow}
use Rattle.ev_cmds.specs.TileJobs.{AreNear}
use Rattle.ev_areas.specs.declared.edges.Edges.{Edges}
use Rattle.ev_cmds.proofs.Framing.{rows_more, all_opened}
use Rattle.ev_cmds.proofs.frame.Frame.open.Goals as goal

pub loop-row-preserved : goal.loop-row-preserved
loop-row-preserved c =
    rows_more (has_pixel c.args.work.now) c.in_ok-edges.edges.items c.keep_near.new.near.items c.loop-row.row c.in_ok-frame.frame c.loop-row.frame c.open_row.new.self
    c.in_ok-edges.ensures
    (subst (λ (all : List Edges). AreNear all (c.loop-row.row * 64) c.keep_near.new.near.items) c.deref.ensures.value c.in_ok-keep_near.ensures)
    c.loop-row.invariant
    (subst (λ (near : List Edges). OpensRow near c.loop-row.row c.loop-row.frame c.open_row.new.self) c.deref-in-loop-row.ensures.value c.in_ok-open_row.ensures)

pub returns : goal.returns
returns c =
    all_opened (has_pixel c.args.work.now) c.around.result c.args.w c.args.h c.loop-row.row c.in_ok-frame.frame c.loop-row.frame
    c.in_ok-frame.ensures c.requires.work
    (subst (λ (rects : List Area). (x y : ℕ) → x < c.args.w → y < c.args.h → has_pixel rects (pos x) (pos y) ≡ true → has_pixel_at c.around.result x y ≡ true) c.rects.ensures.list c.around.ensures.pixels)
    (omega (arith, c.tiles_along-row-end.ensures)) c.loop-row.invariant
