use Rattle.std.proofs.Common.{◌≡◌, ◌<◌, ◌^◌, drop}
use Rattle.ev_lang.specs.Classes.{digits_from}
use Rattle.ev_lang.proofs.classes.value_of.Given as goal

abbrev pub invariant-loop-c : goal.invariant-loop-c
invariant-loop-c l = record {
  value : digits_from (drop l.c-index l.digits) l.value ≡ digits_from l.digits 0;
  small : l.value < 10 ^ l.c-index;
}
