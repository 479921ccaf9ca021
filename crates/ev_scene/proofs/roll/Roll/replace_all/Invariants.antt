use Rattle.std.proofs.Common.{◌≡◌, length, All, map}
use Rattle.ev_scene.specs.Ids.{spread, value_of}
use Rattle.ev_scene.specs.Roll.{IsStateOf}
use Rattle.ev_scene.specs.Board.{values_of}
use Rattle.ev_scene.proofs.roll.Roll.replace_all.Given as goal

abbrev pub invariant-loop-state : goal.invariant-loop-state
invariant-loop-state l = record {
  spreads : spread (map value_of l.states.items) (values_of l.self.states) ≡ spread (map value_of l.initial.states.items) (values_of l.initial.self.states);
  fits : All (IsStateOf l.self.states) l.states.items;
  made : l.self.made ≡ l.initial.self.made;
}

abbrev pub decreases-loop-state : goal.decreases-loop-state
decreases-loop-state l = length l.states.items
