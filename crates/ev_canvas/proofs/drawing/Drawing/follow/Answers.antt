use Rattle.std.proofs.Common.{◌≡◌, Some}
use Rattle.ev_canvas.proofs.Standing.{followed_in}
use Rattle.ev_canvas.proofs.drawing.Drawing.follow.Goals as goal

pub returns-clause-is : goal.returns-clause-is
returns-clause-is c = λ buffers is.
    let stood : c.args.self.now.newest ≡ Some c.in-Some.newest = (let there = c.in-Some.is in cc) in
    (followed_in buffers c.args.self.now c.in-Some.newest c.args.begun c.in_ok-tiles-in-Some.tiles c.set_up.new.easel c.renew.new.self c.renew.result stood c.requires.idle c.requires.size is c.requires.begun
    c.in_ok-tiles-in-Some.ensures.set c.renew.ensures.stands c.renew.ensures.before).is

pub returns-clause-stands : goal.returns-clause-stands
returns-clause-stands c = λ buffers is.
    let stood : c.args.self.now.newest ≡ Some c.in-Some.newest = (let there = c.in-Some.is in cc) in
    (followed_in buffers c.args.self.now c.in-Some.newest c.args.begun c.in_ok-tiles-in-Some.tiles c.set_up.new.easel c.renew.new.self c.renew.result stood c.requires.idle c.requires.size is c.requires.begun
    c.in_ok-tiles-in-Some.ensures.set c.renew.ensures.stands c.renew.ensures.before).now
