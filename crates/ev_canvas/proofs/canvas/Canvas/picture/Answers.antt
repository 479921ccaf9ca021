use Rattle.std.proofs.Common.{rules, subst}
use Rattle.ev_canvas.specs.Canvas.{Canvas}
use Rattle.ev_canvas.specs.CanvasFrames.{IsPictureOf}
use Rattle.ev_canvas.specs.Drawings.{latest_of}
use Rattle.ev_canvas.proofs.canvas.Canvas.picture.Goals as goal

pub returns-in-Some-2 : goal.returns-in-Some-2
returns-in-Some-2 c = subst (λ (v : Canvas). IsPictureOf v.frames c.picture.result.now) c.self.view_is (record {
  latest = latest_of c.in-Some-2.newest;
  newest = search rules;
  ended = search rules;
  last = search rules;
  drawn = c.picture.ensures;
})
