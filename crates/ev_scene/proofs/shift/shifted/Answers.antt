use Rattle.std.proofs.Common.{map, filter_map, FitsSigned, w64, ap₂, ◌∙◌, rules}
use Rattle.std.proofs.lemmas.Int.{to_z-of_z}
use Rattle.ev_scene.specs.Ids.{of_id, value_of}
use Rattle.ev_scene.specs.Board.{values_of}
use Rattle.ev_scene.specs.Edits.{shifted_by}
use Rattle.ev_scene.proofs.Making.{makes_both}
use Rattle.ev_scene.proofs.Shifting.{still_may, one_more_shifted, all_made}
use Rattle.ev_scene.proofs.shift.shifted.Goals as goal

pub push_shifted-requires-clause-places : goal.push_shifted-requires-clause-places
push_shifted-requires-clause-places c = (still_may _ _ c.args.roll.now.states c.loop-id.roll.states c.args.ids.now c.loop-id.id-index c.loop-id-test.true c.loop-id.invariant.same c.loop-id.invariant.places).0

pub loop-id-preserved : goal.loop-id-preserved
loop-id-preserved c = record {
  made_so_far = one_more_shifted _ _ c.args.roll.now.states c.loop-id.roll.states c.args.ids.now c.loop-id.id-index c.loop-id-test.true c.loop-id.invariant.same
      c.loop-id.states.items c.push_shifted.new.states.items _ (c.in_ok-push_shifted.ensures).states c.loop-id.invariant.made_so_far;
  places = (still_may _ _ c.args.roll.now.states c.loop-id.roll.states c.args.ids.now c.loop-id.id-index c.loop-id-test.true c.loop-id.invariant.same c.loop-id.invariant.places).1;
  same = (c.in_ok-push_shifted.ensures).same ∙ c.loop-id.invariant.same;
  made = makes_both c.loop-id.invariant.made (c.in_ok-push_shifted.ensures).made;
}

pub returns-clause-states : goal.returns-clause-states
returns-clause-states c =
    let dx : FitsSigned w64 c.args.dx = search rules in
    let dy : FitsSigned w64 c.args.dy = search rules in
    all_made (of_id (values_of c.args.roll.now.states)) _ c.args.ids.now c.loop-id.id-index (map value_of c.loop-id.states.items) _ c.loop-id-test.false c.loop-id.invariant.made_so_far
    ∙ ap₂ (λ dx dy. map (shifted_by dx dy) (filter_map (of_id (values_of c.args.roll.now.states)) c.args.ids.now)) (to_z-of_z w64 c.args.dx dx) (to_z-of_z w64 c.args.dy dy)
