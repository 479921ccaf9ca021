use Rattle.std.proofs.Common.{None, refl}
use Rattle.ev_links.specs.Tables.{tie_in, clips_in}
use Rattle.ev_links.proofs.Sweeps.{swept_more, swept_all}
use Rattle.ev_links.proofs.edits.remove_all.Goals as goal

pub ids-init : goal.ids-init
ids-init c = (λ q. refl, λ q. refl)

pub ids-preserved : goal.ids-preserved
ids-preserved c = (
  λ q. swept_more (λ _. None) (λ _. refl) c.args.ids.now c.ids.id-index c.ids-test.true (tie_in c.ids.table) (tie_in c.remove.new.self) _ q (c.remove.ensures.ties q) (c.ids.invariant.0 q),
  λ q. swept_more (λ _. None) (λ _. refl) c.args.ids.now c.ids.id-index c.ids-test.true (clips_in c.ids.table) (clips_in c.remove.new.self) _ q (c.remove.ensures.clips q) (c.ids.invariant.1 q),
)

pub returns-clause-ties : goal.returns-clause-ties
returns-clause-ties c = λ q. swept_all (λ _. None) c.args.ids.now c.ids.id-index c.ids-test.false (tie_in c.ids.table) _ q (c.ids.invariant.0 q)

pub returns-clause-clips : goal.returns-clause-clips
returns-clause-clips c = λ q. swept_all (λ _. None) c.args.ids.now c.ids.id-index c.ids-test.false (clips_in c.ids.table) _ q (c.ids.invariant.1 q)
