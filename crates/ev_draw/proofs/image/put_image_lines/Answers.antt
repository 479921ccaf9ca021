use Rattle.std.proofs.Common.{◌≡◌, ◌-◌, ◌*◌, ◌∙◌, arith, refl}
use Rattle.ev_draw.specs.Making.{shown_by}
use Rattle.ev_draw.proofs.Patching.{no_rows, line_step, all_rows}
use Rattle.ev_draw.proofs.Imaging.{nothing_made}
use Rattle.ev_draw.proofs.Sheeting.{carried}
use Rattle.ev_draw.proofs.image.put_image_lines.Goals as goal

pub loop-y-init : goal.loop-y-init
loop-y-init c =
    let p = c.args.command.now.patch in
    let z : p.top - p.top ≡ 0 = omega arith in
    record {
      painted = no_rows p (shown_by c.args.command.now c.args.left c.args.top) c.args.plane.now ((p.right - p.left) * (p.top - p.top)) (rw z (omega arith));
      len = c.requires.row;
      made = nothing_made _ _ _ _ _;
    }

pub loop-y-preserved : goal.loop-y-preserved
loop-y-preserved c = record {
  painted = line_step c.args.command.now.patch (shown_by c.args.command.now c.args.left c.args.top) c.loop-y.y _ c.args.plane.now c.loop-y.plane c.put_image_line.new.plane c.from.ensures (omega arith) c.loop-y.invariant.painted c.put_image_line.ensures.painted;
  len = c.put_image_line.ensures.len ∙ c.loop-y.invariant.len;
  made = c.put_image_line.ensures.made;
}

pub returns : goal.returns
returns c =
    carried c.args.command.now c.args.left c.args.top c.args.plane.now c.loop-y.plane (shown_by c.args.command.now c.args.left c.args.top) (λ x y value has. refl)
    (all_rows c.args.command.now.patch (shown_by c.args.command.now c.args.left c.args.top) c.loop-y.y c.args.plane.now c.loop-y.plane (omega arith) c.loop-y.invariant.painted)
