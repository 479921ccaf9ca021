use Rattle.std.proofs.Common.{◌++◌, None, length, map, filter, filter_map, ap, refl, subst, ◌∙◌}
use Rattle.ev_model.specs.Up.{is_clipped_by}
use Rattle.ev_stack.specs.LayerOrder.{ids_of, ids_from}
use Rattle.ev_scene.specs.Ids.{of_id, value_of}
use Rattle.ev_scene.specs.Board.{values_of, MakesAtMost}
use Rattle.ev_scene.specs.Change.{apply}
use Rattle.ev_scene.specs.declared.change.Change.TheVariants as change
use Rattle.ev_scene.proofs.Making.{makes_none}
use Rattle.ev_scene.proofs.Releasing.{next_states, next_made, next_fewer, all_states}
use Rattle.ev_scene.proofs.delete.released_beside.Goals as goal

pub up-init : goal.up-init
up-init c = record {
  all = ap (λ xs. map value_of xs ++ map (apply (change.Clip None)) (filter (is_clipped_by c.args.id) (filter_map (of_id (values_of c.args.roll.now.states)) (ids_from c.group-siblings.result.now c.bottom-at.result)))) c.new-states.ensures.items
      ∙ ap (λ ids. map (apply (change.Clip None)) (filter (is_clipped_by c.args.id) (filter_map (of_id (values_of c.args.roll.now.states)) ids))) c.bottom-at.ensures.all;
  same = refl;
  made = λ end. subst (λ ids. MakesAtMost (length (filter (is_clipped_by c.args.id) (filter_map (of_id (values_of c.args.roll.now.states)) ids))) c.args.roll.now.made end) c.bottom-at.ensures.all;
}

pub returns-in_err-release-clause-same : goal.returns-in_err-release-clause-same
returns-in_err-release-clause-same c = c.release.ensures.same ∙ c.up.invariant.same

pub returns-in_err-release-clause-made : goal.returns-in_err-release-clause-made
returns-in_err-release-clause-made c =
    subst (λ group. MakesAtMost (length (filter (is_clipped_by c.args.id) (filter_map (of_id (values_of c.args.roll.now.states)) (ids_of group)))) c.args.roll.now.made c.release.new.roll.made) c.group-siblings.ensures
    (next_made (values_of c.args.roll.now.states) c.group-siblings.result.now c.args.id c.up.at _ c.in-Some.sibling (values_of c.up.roll.states) (ap values_of c.up.invariant.same) c.in-Some.is refl
    c.release.new.roll.made c.release.ensures.made c.up.invariant.made c.release.new.roll.made makes_none)

pub up-smaller : goal.up-smaller
up-smaller c =
    next_fewer (values_of c.args.roll.now.states) c.group-siblings.result.now c.args.id c.up.at (ids_from c.group-siblings.result.now c.next_above-at.result) c.in-Some.sibling (values_of c.up.roll.states) (ap values_of c.up.invariant.same) c.in-Some.is c.next_above-at.ensures.rest

pub up-preserved : goal.up-preserved
up-preserved c = record {
  all = next_states (values_of c.args.roll.now.states) c.group-siblings.result.now c.args.id c.up.at _ c.in-Some.sibling (values_of c.up.roll.states) (ap values_of c.up.invariant.same) c.in-Some.is c.next_above-at.ensures.rest
      _ _ _ (c.in_ok-release.ensures).states c.up.invariant.all;
  same = c.release.ensures.same ∙ c.up.invariant.same;
  made = next_made (values_of c.args.roll.now.states) c.group-siblings.result.now c.args.id c.up.at _ c.in-Some.sibling (values_of c.up.roll.states) (ap values_of c.up.invariant.same) c.in-Some.is c.next_above-at.ensures.rest
      c.release.new.roll.made c.release.ensures.made c.up.invariant.made;
}

pub returns-clause-states : goal.returns-clause-states
returns-clause-states c =
    all_states (values_of c.args.roll.now.states) c.group-siblings.result.now c.args.id c.up.at c.in_default.is _ _ c.up.invariant.all
    ∙ ap (λ group. map (apply (change.Clip None)) (filter (is_clipped_by c.args.id) (filter_map (of_id (values_of c.args.roll.now.states)) (ids_of group)))) c.group-siblings.ensures

pub returns-clause-same : goal.returns-clause-same
returns-clause-same c = c.up.invariant.same

pub returns-clause-made : goal.returns-clause-made
returns-clause-made c =
    subst (λ group. MakesAtMost (length (filter (is_clipped_by c.args.id) (filter_map (of_id (values_of c.args.roll.now.states)) (ids_of group)))) c.args.roll.now.made c.up.roll.made) c.group-siblings.ensures
    (c.up.invariant.made c.up.roll.made makes_none)
