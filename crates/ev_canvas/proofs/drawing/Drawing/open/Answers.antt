use Rattle.std.proofs.Common.{ap}
use Rattle.ev_canvas.specs.declared.drawing.Drawing.{Drawing}
use Rattle.ev_canvas.proofs.Standing.{opened_in}
use Rattle.ev_canvas.proofs.drawing.Drawing.open.Goals as goal

pub returns-clause-is : goal.returns-clause-is
returns-clause-is c = (opened_in c.args.buffers c.args.self.now c.args.begun c.in_ok-tiles.tiles c.in_ok-easel.easel c.set_up.new.easel c.into_newest.result c.retire.new.self.before c.requires.size c.requires.is c.requires.begun
    c.in_ok-easel.ensures.new c.in_ok-easel.ensures.idle c.in_ok-easel.ensures.given_up c.in_ok-tiles.ensures.set c.into_newest.ensures (ap (λ (d : Drawing). d.before) c.retire.ensures)).is

pub returns-clause-stands : goal.returns-clause-stands
returns-clause-stands c = (opened_in c.args.buffers c.args.self.now c.args.begun c.in_ok-tiles.tiles c.in_ok-easel.easel c.set_up.new.easel c.into_newest.result c.retire.new.self.before c.requires.size c.requires.is c.requires.begun
    c.in_ok-easel.ensures.new c.in_ok-easel.ensures.idle c.in_ok-easel.ensures.given_up c.in_ok-tiles.ensures.set c.into_newest.ensures (ap (λ (d : Drawing). d.before) c.retire.ensures)).now
