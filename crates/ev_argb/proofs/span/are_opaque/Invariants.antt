use Rattle.std.proofs.Common.{◌≡◌, take}
use Rattle.std.specs.List.{All}
use Rattle.ev_argb.specs.Argb.{IsPremultiplied, are_opaque}
use Rattle.ev_argb.proofs.span.are_opaque.Given as goal

abbrev pub invariant-loop-i : goal.invariant-loop-i
invariant-loop-i l = record {
  opaque : l.opaque ≡ are_opaque (take l.i l.pixels);
  premultiplied : All IsPremultiplied (take l.i l.pixels);
}
