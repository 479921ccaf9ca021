use Rattle.std.proofs.Common.{None, refl}
use Rattle.std.specs.Option.{option_map}
use Rattle.ev_links.specs.Tables.{tie_in, with_clipper}
use Rattle.ev_links.proofs.Sweeps.{swept_more, swept_all, unclipped_twice}
use Rattle.ev_links.proofs.edits.unbind_all.Goals as goal

pub ids-init : goal.ids-init
ids-init c = (c.requires, λ q. refl)

pub unbind-requires : goal.unbind-requires
unbind-requires c = c.ids.invariant.0

pub ids-preserved : goal.ids-preserved
ids-preserved c = (
  c.unbind.ensures.kept,
  λ q. swept_more (option_map (with_clipper None)) unclipped_twice c.args.ids.now c.ids.id-index c.ids-test.true (tie_in c.ids.table) (tie_in c.unbind.new.table) _ q (c.unbind.ensures.ties q) (c.ids.invariant.1 q),
)

pub returns-clause-kept : goal.returns-clause-kept
returns-clause-kept c = c.ids.invariant.0

pub returns-clause-ties : goal.returns-clause-ties
returns-clause-ties c = λ q. swept_all (option_map (with_clipper None)) c.args.ids.now c.ids.id-index c.ids-test.false (tie_in c.ids.table) _ q (c.ids.invariant.1 q)
