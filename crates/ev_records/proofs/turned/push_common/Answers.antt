use Rattle.std.proofs.Common.{◌∙◌, ap, sym}
use Rattle.std.proofs.lemmas.Bool.{and_right}
use Rattle.ev_records.specs.Showing.{showing}
use Rattle.ev_records.specs.Turned.{still, held_in}
use Rattle.ev_records.proofs.Gatherings.{gathers_none}
use Rattle.ev_records.proofs.turned.push_common.Goals as goal

pub returns-in_default : goal.returns-in_default
returns-in_default c = gathers_none _ _ (λ x y.
    and_right (held_in (still (showing c.args.records.now c.args.other)) x y) (held_in (still (showing c.args.records.now c.args.place)) x y)
    (ap (λ o. held_in o x y) (sym c.still_area-2.ensures.same ∙ c.in_default.is-1)))
