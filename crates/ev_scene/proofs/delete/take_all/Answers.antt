use Rattle.std.proofs.Common.{None, refl, ◌∙◌}
use Rattle.ev_links.proofs.Sweeps.{swept_more, swept_all}
use Rattle.ev_scene.specs.Ids.{of_id}
use Rattle.ev_scene.proofs.Deleting.{taken_at, length-taken}
use Rattle.ev_scene.proofs.delete.take_all.Goals as goal

pub ids-init : goal.ids-init
ids-init c = record { gone = λ q. refl; size = refl; made = refl }

pub ids-preserved : goal.ids-preserved
ids-preserved c = record {
  gone = λ q. swept_more (λ _. None) (λ _. refl) c.args.ids.now c.ids.id-index c.ids-test.true (of_id c.ids.roll.states) (of_id c.take.new.self.states) _ q
      (taken_at c.ids.roll.states c.take.new.self.states _ c.take.ensures.states q) (c.ids.invariant.gone q);
  size = length-taken c.ids.roll.states c.take.new.self.states _ c.take.ensures.states ∙ c.ids.invariant.size;
  made = c.take.ensures.made ∙ c.ids.invariant.made;
}

pub returns-clause-states : goal.returns-clause-states
returns-clause-states c = λ q. swept_all (λ _. None) c.args.ids.now c.ids.id-index c.ids-test.false (of_id c.ids.roll.states) _ q (c.ids.invariant.gone q)

pub returns-clause-size : goal.returns-clause-size
returns-clause-size c = c.ids.invariant.size

pub returns-clause-made : goal.returns-clause-made
returns-clause-made c = c.ids.invariant.made
