use Rattle.std.proofs.Common.{◌≡◌, ◌++◌, take, drop}
use Rattle.ev_lang.specs.Lines.{first_line, after_line}
use Rattle.ev_lang.proofs.script.first_line.Given as goal

abbrev pub invariant-loop-i : goal.invariant-loop-i
invariant-loop-i l = record {
  line : first_line l.script ≡ take l.i l.script ++ first_line (drop l.i l.script);
  rest : after_line l.script ≡ after_line (drop l.i l.script);
}
