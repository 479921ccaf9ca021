use Rattle.std.proofs.Common.{subst, ap, sym, ◌∙◌, ◌≤◌, List, Option, Ok, Err}
use Rattle.std.specs.Option.{option_map_or}
use Rattle.ev_model.specs.declared.refusal.Refusal.TheVariants.{NotLoading}
use Rattle.ev_preload.specs.Job.{Job}
use Rattle.ev_preload.specs.Loads.{IsSound}
use Rattle.ev_preload.specs.declared.preload.Preload.{Preload}
use Rattle.ev_preload.proofs.Running.{placed_for, cancelled_placed, sound_cancelled, found_none}
use Rattle.ev_preload.proofs.preloads.Preloads.cancel.Goals as goal

pub returns-in_default-clause-answer : goal.returns-in_default-clause-answer
returns-in_default-clause-answer c = sym (ap (λ (o : Option Preload). option_map_or (λ (p : Preload). Ok p.job) o (Err NotLoading)) (found_none c.args.self.now.running c.args.id c.in_default.ensures.none).0)

pub returns-in_default-clause-after : goal.returns-in_default-clause-after
returns-in_default-clause-after c = ap (λ (r : List Preload). record c.args.self.now { running = r }) (sym (found_none c.args.self.now.running c.args.id c.in_default.ensures.none).1)

pub invariant_of-self : goal.invariant_of-self
invariant_of-self c = (subst (λ (r : List Preload). IsSound (record { running = r; begun = c.self.inside.begun })) (sym c.remove.ensures.items) (sound_cancelled c.args.self.now c.self.inside.running.items c.self.inside.begun c.in-Some.place c.args.id c.remove.result c.self.view_is (sym c.place_for.ensures.value ∙ c.in-Some.is) c.remove.ensures.value c.self.invariant.0), subst (λ n. 64 ≤ n) (sym c.remove.ensures.capacity) c.self.invariant.1)

pub returns-clause-answer : goal.returns-clause-answer
returns-clause-answer c = ap Ok c.into_job.ensures ∙ (cancelled_placed c.args.self.now c.self.inside.running.items c.self.inside.begun c.in-Some.place c.args.id c.remove.result c.self.view_is (sym c.place_for.ensures.value ∙ c.in-Some.is) c.remove.ensures.value c.self.invariant.0).0

pub returns-clause-after : goal.returns-clause-after
returns-clause-after c = ap (λ (r : List Preload). record { running = r; begun = c.self.inside.begun }) c.remove.ensures.items ∙ (cancelled_placed c.args.self.now c.self.inside.running.items c.self.inside.begun c.in-Some.place c.args.id c.remove.result c.self.view_is (sym c.place_for.ensures.value ∙ c.in-Some.is) c.remove.ensures.value c.self.invariant.0).1

pub returns-clause-own : goal.returns-clause-own
returns-clause-own c = ap (λ (j : Job). j.id) c.into_job.ensures ∙ placed_for c.args.self.now c.self.inside.running.items c.self.inside.begun c.in-Some.place c.args.id c.remove.result c.self.view_is (sym c.place_for.ensures.value ∙ c.in-Some.is) c.remove.ensures.value
