-- Records of tests.
use Rattle.std.specs.Prelude.{All, List}
use Rattle.ev_model.specs.Capture.{IsLookOn}
use Rattle.ev_model.specs.Look.{look_of}
use Rattle.ev_model.specs.declared.scene.Record.{Record}

-- each is a record on a canvas of 4 by 4
abbrev pub AreSmall : List Record → Type 0
AreSmall records = All (λ r. IsLookOn 4 4 (look_of r)) records
