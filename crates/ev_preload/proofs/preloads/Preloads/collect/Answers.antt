use Rattle.std.proofs.Common.{subst, ap, sym, ◌∙◌, ◌≤◌, List}
use Rattle.ev_preload.specs.Loads.{IsSound}
use Rattle.ev_preload.specs.declared.preload.Preload.{Preload}
use Rattle.ev_preload.proofs.Running.{collected_placed, sound_removed, collected_none}
use Rattle.ev_preload.proofs.preloads.Preloads.collect.Goals as goal

pub returns-in_err-place-clause-answer : goal.returns-in_err-place-clause-answer
returns-in_err-place-clause-answer c = c.from_residual.ensures ∙ sym (collected_none c.args.self.now.running c.args.number c.in_err-place.ensures.none).0

pub returns-in_err-place-clause-after : goal.returns-in_err-place-clause-after
returns-in_err-place-clause-after c = ap (λ (r : List Preload). record c.args.self.now { running = r }) (sym (collected_none c.args.self.now.running c.args.number c.in_err-place.ensures.none).1)

pub invariant_of-self : goal.invariant_of-self
invariant_of-self c = (subst (λ (r : List Preload). IsSound (record { running = r; begun = c.self.inside.begun })) (sym c.remove.ensures.items) (sound_removed c.args.self.now c.self.inside.running.items c.self.inside.begun c.in_ok-place.place c.args.number c.remove.result c.self.view_is (sym c.held_place.ensures.value ∙ c.in_ok-place.was) c.remove.ensures.value c.self.invariant.0), subst (λ n. 64 ≤ n) (sym c.remove.ensures.capacity) c.self.invariant.1)

pub returns-clause-answer : goal.returns-clause-answer
returns-clause-answer c = c.into_held.ensures ∙ (collected_placed c.args.self.now c.self.inside.running.items c.self.inside.begun c.in_ok-place.place c.args.number c.remove.result c.self.view_is (sym c.held_place.ensures.value ∙ c.in_ok-place.was) c.remove.ensures.value).0

pub returns-clause-after : goal.returns-clause-after
returns-clause-after c = ap (λ (r : List Preload). record { running = r; begun = c.self.inside.begun }) c.remove.ensures.items ∙ (collected_placed c.args.self.now c.self.inside.running.items c.self.inside.begun c.in_ok-place.place c.args.number c.remove.result c.self.view_is (sym c.held_place.ensures.value ∙ c.in_ok-place.was) c.remove.ensures.value).1
