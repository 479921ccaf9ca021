use Rattle.std.proofs.Common.{ap, sym, ◌∙◌, List}
use Rattle.ev_preload.specs.declared.preload.Preload.{Preload}
use Rattle.ev_preload.proofs.Running.{hold_placed, sound_placed, hold_none}
use Rattle.ev_preload.proofs.preloads.Preloads.hold.Goals as goal

pub invariant_of-self : goal.invariant_of-self
invariant_of-self c = (sound_placed c.args.self.now c.self.inside.running.items c.self.inside.begun c.in-Some.place c.args.number c.args.end c.index_mut.result.now c.keep.new.self c.self.view_is (sym c.open_place.ensures.value ∙ c.in-Some.is) c.index_mut.ensures.value c.keep.ensures c.requires c.self.invariant.0, c.self.invariant.1)

pub returns-in-Some : goal.returns-in-Some
returns-in-Some c = record { after = hold_placed c.args.self.now c.self.inside.running.items c.self.inside.begun c.in-Some.place c.args.number c.args.end c.index_mut.result.now c.keep.new.self c.self.view_is (sym c.open_place.ensures.value ∙ c.in-Some.is) c.index_mut.ensures.value c.keep.ensures }

pub returns-in_default : goal.returns-in_default
returns-in_default c = record { after = ap (λ (r : List Preload). record c.args.self.now { running = r }) (sym (hold_none c.args.self.now.running c.args.number c.args.end c.in_default.ensures.none)) }
