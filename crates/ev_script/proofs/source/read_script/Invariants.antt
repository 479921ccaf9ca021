use Rattle.std.proofs.Common.{◌≡◌, ◌≤◌, ◌-◌, length}
use Rattle.ev_port.specs.Told.{ShrinksBy, counted}
use Rattle.ev_script.proofs.source.read_script.Given as goal

abbrev pub invariant-loop-script : goal.invariant-loop-script
invariant-loop-script g l = record {
  read : ShrinksBy (g.S.Source.left l.fn.source) (g.S.Source.left l.source) l.script.items;
  count : counted (g.S.Source.taken l.source) 0 ≡ counted (g.S.Source.taken l.fn.source) (length l.script.items);
  short : length l.script.items ≤ 16777216;
  faults : g.S.Source.faults l.fn.source ≤ g.S.Source.faults l.source;
}

abbrev pub decreases-loop-script : goal.decreases-loop-script
decreases-loop-script g l = 16777217 - length l.script.items
