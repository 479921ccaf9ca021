use Rattle.std.proofs.Common.{◌≡◌, ◌+◌, ◌-◌, ◌≤◌, ◌++◌, length, take, drop}
use Rattle.ev_scene.specs.Board.{board}
use Rattle.ev_canvas.specs.Loading.{kept, gone}
use Rattle.ev_canvas.proofs.sweep.sweep.Given as goal

-- what was passed over and what is left to be kept are all that is kept, and the events so far and those to come are all
abbrev pub invariant-loop-place : goal.invariant-loop-place
invariant-loop-place l = record {
  loads : take l.place l.preloads.running ++ kept (board l.scene) (drop l.place l.preloads.running) ≡ kept (board l.scene) l.initial.preloads.running;
  events : l.events ++ gone (board l.scene) (drop l.place l.preloads.running) ≡ gone (board l.scene) l.initial.preloads.running;
  begun : l.preloads.begun ≡ l.initial.preloads.begun;
  few : length l.events + length l.preloads.running ≤ 64;
}

abbrev pub decreases-loop-place : goal.decreases-loop-place
decreases-loop-place l = length l.preloads.running - l.place
