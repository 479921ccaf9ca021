use Rattle.std.proofs.Common.{◌≡◌, ◌∷◌, [], length, All, arith, sym, ap, subst, length-append}
use Rattle.std.proofs.lemmas.Grind.{common_steps}
use Rattle.std.proofs.lemmas.List.Elements.{All-push}
use Rattle.std.specs.Arc.{arc_value}
use Rattle.ev_frames.proofs.room.Room.new.Goals as goal

pub loop-preserved : goal.loop-preserved
loop-preserved c =
    let items = c.in_ok-push.ensures.items in
    let same : arc_value c.in_ok-try_clone.field-0 ≡ arc_value c.in_ok-commands.commands = grind (arith, common_steps, c.in_ok-try_clone.ensures) in
    record {
      count = omega (arith, ap length items, length-append c.loop.shares.items (c.in_ok-try_clone.field-0 ∷ []), c.loop.invariant.count);
      shares = subst (All (λ s. arc_value s ≡ arc_value c.in_ok-commands.commands)) (sym items)
          (All-push (λ s. arc_value s ≡ arc_value c.in_ok-commands.commands) c.loop.shares.items c.in_ok-try_clone.field-0 c.loop.invariant.shares same);
    }
