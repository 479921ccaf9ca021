-- Ties as plain data.
use Rattle.std.specs.Prelude.{ℕ, Option, refl}
use Rattle.std.specs.Coded.{Coded, code_by, coded×, coded_ℕ, coded_option}
use Rattle.std.specs.FinMap as map
use Rattle.ev_model.specs.declared.content.Kind.{Kind}
use Rattle.ev_model.specs.contracts.content.Kind as kind
use Rattle.ev_links.specs.Ties.{Tie, Ties}

-- a tie is stored as its three parts
abbrev pub tie_code : Coded Tie
tie_code =
    code_by (Kind × (Option ℕ × Option ℕ)) (coded× kind.the_row.coded (coded× (coded_option coded_ℕ) (coded_option coded_ℕ)))
    (λ tie. (tie.kind, (tie.clipper, tie.parent))) (λ parts. record { kind = parts.0; clipper = parts.1.0; parent = parts.1.1 }) (λ _. refl)

abbrev pub ties_code : Coded Ties
ties_code = map.code coded_ℕ tie_code
