use Rattle.std.proofs.Common.{subst, ap, sym, ◌∙◌, rules, ◌+◌, ◌≤◌, List}
use Rattle.ev_preload.specs.Loads.{Loads, is_for, IsSound}
use Rattle.std.specs.List.{list_any}
use Rattle.ev_preload.specs.Job.{Job}
use Rattle.ev_preload.specs.declared.preload.Preload.{Preload}
use Rattle.ev_preload.proofs.Running.{sound_begin}
use Rattle.ev_preload.proofs.preloads.Preloads.begin.Goals as goal

pub invariant_of-self : goal.invariant_of-self
invariant_of-self c = (subst (λ (r : List Preload). IsSound (record { running = r; begun = c.self.inside.begun + 1 })) (sym c.push_reserved.ensures.items) (sound_begin c.self.inside.running.items c.self.inside.begun c.new-job.result c.self.invariant.0 (search rules) (ap (λ (l : Loads). list_any (is_for c.new-job.result.id) l.running) c.self.view_is ∙ ap (λ (j : Job). list_any (is_for j.id) c.args.self.now.running) c.new-job.ensures ∙ sym c.is_loading.ensures ∙ c.if-is_loading.false) (ap (λ (j : Job). j.number) c.new-job.ensures)), subst (λ n. 64 ≤ n) (sym c.push_reserved.ensures.capacity) c.self.invariant.1)
