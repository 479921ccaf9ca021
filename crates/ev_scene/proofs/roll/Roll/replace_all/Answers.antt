use Rattle.std.proofs.Common.{◌∙◌}
use Rattle.ev_scene.specs.Roll.{IsStateOf}
use Rattle.ev_scene.proofs.Spreading.{spread_on, still_states, last_state}
use Rattle.ev_scene.proofs.roll.Roll.replace_all.Goals as goal

pub loop-state-preserved : goal.loop-state-preserved
loop-state-preserved c =
    let last : IsStateOf c.loop-state.self.states c.in-Some.state = last_state c.loop-state.states.items c.pop.new.self.items c.in-Some.state c.loop-state.self.states (c.in-Some.ensures).items c.loop-state.invariant.fits in
    record {
      spreads = spread_on c.loop-state.states.items c.pop.new.self.items c.in-Some.state c.loop-state.self.states c.replace.new.self.states _ (c.in-Some.ensures).items c.replace.ensures.states c.loop-state.invariant.spreads;
      fits = still_states c.loop-state.states.items c.pop.new.self.items c.in-Some.state c.loop-state.self.states c.replace.new.self.states (c.in-Some.ensures).items c.replace.ensures.states last c.loop-state.invariant.fits;
      made = c.replace.ensures.made ∙ c.loop-state.invariant.made;
    }
