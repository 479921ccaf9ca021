use Rattle.std.proofs.Common.{refl, rules}
use Rattle.ev_cmds.proofs.Culling.{empty_list, nothing_taken, still_shown}
use Rattle.ev_cmds.proofs.Fitting.{none_added, still_fit}
use Rattle.ev_cmds.proofs.sheet.Sheet.take.Goals as goal

pub returns-then-is_empty : goal.returns-then-is_empty
returns-then-is_empty c = record {
  fits = none_added c.args.one.now c.args.area c.args.self.now.commands.items;
  shows = nothing_taken c.args.one.now c.args.area c.args.self.now.bare c.args.self.now.commands.items _ _ c.in_ok-push_parts.ensures c.clear.ensures.items (empty_list _ (search rules));
}

pub returns-then-replaces : goal.returns-then-replaces
returns-then-replaces c = record {
  fits = still_fit c.args.one.now c.replaces-replaces.result c.args.area c.args.self.now.bare _ _ c.args.self.now.commands.items _
      c.replaces-replaces.ensures c.in_ok-push_parts.ensures c.clear.ensures.items (search rules);
  shows = still_shown c.args.one.now c.replaces-replaces.result c.args.area c.args.self.now.bare c.cut.new.self _ c.args.self.now.commands.items _ _
      c.replaces-replaces.ensures c.in_ok-push_parts.ensures c.clear.ensures.items
      (λ e. c.cut.ensures) (λ e. absurd (search rules)) (search rules);
}

pub returns-else-replaces : goal.returns-else-replaces
returns-else-replaces c = record {
  fits = still_fit c.args.one.now c.replaces-replaces.result c.args.area c.args.self.now.bare _ _ c.args.self.now.commands.items _
      c.replaces-replaces.ensures c.in_ok-push_parts.ensures c.clear.ensures.items (search rules);
  shows = still_shown c.args.one.now c.replaces-replaces.result c.args.area c.args.self.now.bare c.args.self.now.bare _ c.args.self.now.commands.items _ _
      c.replaces-replaces.ensures c.in_ok-push_parts.ensures c.clear.ensures.items
      (λ e. absurd (search rules)) (λ e. refl) (search rules);
}
