use Rattle.std.proofs.Common.{rules}
use Rattle.ev_script.proofs.Rendering.{render_acts, unstarted_acts, all_drawn}
use Rattle.ev_script.proofs.act.render.Goals as goal

pub flush-requires : goal.flush-requires
flush-requires g c = record { drawn = all_drawn _ _ _ _ _ _ _ (search rules) c.in-Ok.ensures.starts c.step.ensures.steps }

pub returns-in-Err : goal.returns-in-Err
returns-in-Err g c files faults = rw c.refusal_of.ensures (unstarted_acts _ c.in-Err.cause c.args.canvas.now c.start.new.self c.in-Err.ensures.starts c.in-Err.ensures.same)

pub returns-in-Ok : goal.returns-in-Ok
returns-in-Ok g c files faults = (render_acts files faults _ _ c.args.canvas.now c.start.new.self c.step.new.self c.flush.new.self c.in-Ok.field-0 c.step.result c.flush.result (record {
  start = c.in-Ok.ensures.starts;
  start_alone = c.start.ensures.alone;
  start_painted = c.start.ensures.most;
  most = _;
  step = c.step.ensures.steps;
  step_alone = c.step.ensures.alone;
  flush = c.flush.ensures.flushes;
  flush_alone = c.flush.ensures.alone;
  flush_painted = c.flush.ensures.painted;
  shows = c.flush.ensures.shows;
  later = c.flush.ensures.later;
}))
