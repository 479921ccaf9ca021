use Rattle.std.proofs.Common.{◌≡◌, to_z, map, filter_map, FitsSigned, w64, refl, ap, ap₂, ◌∙◌, sym, rules, subst, All}
use Rattle.std.proofs.lemmas.Int.{to_z-of_z}
use Rattle.std.specs.List.{list_all}
use Rattle.ev_scene.specs.Ids.{of_id, value_of}
use Rattle.ev_scene.specs.Board.{values_of}
use Rattle.ev_scene.specs.Cast.{board_of}
use Rattle.ev_scene.specs.Roll.{IsStateOf}
use Rattle.ev_scene.specs.Edits.{may_shift, shifted_by, shifted_all}
use Rattle.ev_scene.proofs.Shifting.{all_states, shifted_whole, not_shifted}
use Rattle.ev_scene.proofs.Spreading.{listed_stand}
use Rattle.ev_scene.proofs.Refusing.{out_of_range, in_range, told_may, told_states, group_moved, spread_is}
use Rattle.ev_scene.proofs.cast.Cast.shift_group.Goals as goal

pub returns-then-not-may_shift_all-clause-edits : goal.returns-then-not-may_shift_all-clause-edits
returns-then-not-may_shift_all-clause-edits c =
    let dx : FitsSigned w64 c.args.dx = search rules in
    let dy : FitsSigned w64 c.args.dy = search rules in
    let all : c.deref.result.now ≡ _ = c.deref.ensures.value ∙ c.in-Ok.ensures in (
      out_of_range _ (ap (λ ids. list_all (may_shift c.args.dx c.args.dy) (filter_map (of_id (values_of c.args.self.now.roll.states)) ids)) (sym all)
          ∙ told_may c.args.dx c.args.dy dx dy (filter_map (of_id (values_of c.args.self.now.roll.states)) c.deref.result.now) c.may_shift_all.result c.may_shift_all.ensures ∙ c.if-not-may_shift_all.true),
      refl,
    )

pub returns-then-dy-eq0-clause-edits : goal.returns-then-dy-eq0-clause-edits
returns-then-dy-eq0-clause-edits c =
    let dx : FitsSigned w64 c.args.dx = search rules in
    let dy : FitsSigned w64 c.args.dy = search rules in
    let all : c.deref.result.now ≡ _ = c.deref.ensures.value ∙ c.in-Ok.ensures in (
      in_range _ (ap (λ ids. list_all (may_shift c.args.dx c.args.dy) (filter_map (of_id (values_of c.args.self.now.roll.states)) ids)) (sym all)
          ∙ told_may c.args.dx c.args.dy dx dy (filter_map (of_id (values_of c.args.self.now.roll.states)) c.deref.result.now) c.may_shift_all.result c.may_shift_all.ensures ∙ c.if-not-may_shift_all.false),
      sym (ap₂ (λ dx dy. shifted_all dx dy (board_of c.args.self.now) c.args.id) (sym (to_z-of_z w64 c.args.dx dx) ∙ ap (to_z w64) c.if-dx-eq0.true) (sym (to_z-of_z w64 c.args.dy dy) ∙ ap (to_z w64) c.if-dy-eq0.true)
          ∙ not_shifted (board_of c.args.self.now) c.args.id),
    )

pub replace_all-requires : goal.replace_all-requires
replace_all-requires c =
    let dx : FitsSigned w64 c.args.dx = search rules in
    let dy : FitsSigned w64 c.args.dy = search rules in
    subst (λ states. All (IsStateOf states) c.in_ok-states.states.items) (sym (c.in_ok-states.ensures).same)
    (all_states c.args.self.now.roll.states (shifted_by c.args.dx c.args.dy) (λ o. refl) (λ o. refl) c.in_ok-states.states.items (filter_map (of_id (values_of c.args.self.now.roll.states)) c.deref-2.result.now)
    (told_states c.args.dx c.args.dy dx dy (filter_map (of_id (values_of c.args.self.now.roll.states)) c.deref-2.result.now) (map value_of c.in_ok-states.states.items) (c.in_ok-states.ensures).states)
    (listed_stand (values_of c.args.self.now.roll.states) c.requires.whole.own c.deref-2.result.now))

pub returns-clause-whole : goal.returns-clause-whole
returns-clause-whole c =
    let dx : FitsSigned w64 c.args.dx = search rules in
    let dy : FitsSigned w64 c.args.dy = search rules in
    shifted_whole c.requires.whole c.args.dx c.args.dy c.deref-2.result.now (values_of c.replace_all.new.self.states)
    (spread_is c.args.self.now.roll.states c.shifted.new.roll.states (map value_of c.in_ok-states.states.items) _ (values_of c.replace_all.new.self.states) (c.in_ok-states.ensures).same
    (told_states c.args.dx c.args.dy dx dy (filter_map (of_id (values_of c.args.self.now.roll.states)) c.deref-2.result.now) (map value_of c.in_ok-states.states.items) (c.in_ok-states.ensures).states)
    c.replace_all.ensures.states)

pub returns-clause-edits : goal.returns-clause-edits
returns-clause-edits c =
    let dx : FitsSigned w64 c.args.dx = search rules in
    let dy : FitsSigned w64 c.args.dy = search rules in
    let all : c.deref.result.now ≡ _ = c.deref.ensures.value ∙ c.in-Ok.ensures in (
      in_range _ (ap (λ ids. list_all (may_shift c.args.dx c.args.dy) (filter_map (of_id (values_of c.args.self.now.roll.states)) ids)) (sym all)
          ∙ told_may c.args.dx c.args.dy dx dy (filter_map (of_id (values_of c.args.self.now.roll.states)) c.deref.result.now) c.may_shift_all.result c.may_shift_all.ensures ∙ c.if-not-may_shift_all.false),
      group_moved c.requires.whole c.args.dx c.args.dy c.args.id c.deref-2.result.now (c.deref-2.ensures.value ∙ c.in-Ok.ensures) (values_of c.replace_all.new.self.states)
          (spread_is c.args.self.now.roll.states c.shifted.new.roll.states (map value_of c.in_ok-states.states.items) _ (values_of c.replace_all.new.self.states) (c.in_ok-states.ensures).same
          (told_states c.args.dx c.args.dy dx dy (filter_map (of_id (values_of c.args.self.now.roll.states)) c.deref-2.result.now) (map value_of c.in_ok-states.states.items) (c.in_ok-states.ensures).states)
          c.replace_all.ensures.states),
    )
