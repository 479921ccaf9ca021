use Rattle.std.proofs.Common.{◌≡◌, ◌-◌, ◌*◌, length}
use Rattle.ev_draw.specs.Making.{Paints, above, shown_by}
use Rattle.ev_draw.specs.KeptRows.{AreMadeFor}
use Rattle.ev_draw.proofs.image.put_image_lines.Given as goal

abbrev pub invariant-loop-y : goal.invariant-loop-y
invariant-loop-y l = record {
  painted : Paints (above l.command.patch l.y) (shown_by l.command l.left l.top) ((l.command.patch.right - l.command.patch.left) * (l.y - l.command.patch.top)) l.initial.plane l.plane;
  len : length l.row ≡ l.command.patch.right - l.command.patch.left;
  made : AreMadeFor l.command l.part l.left l.made l.row;
}
