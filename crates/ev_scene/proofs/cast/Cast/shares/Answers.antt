use Rattle.std.proofs.Common.{◌≡◌, ℕ, List, ◌++◌, Some, None, subst, ap, ◌∙◌, arith}
use Rattle.ev_model.specs.Order.{in_order}
use Rattle.ev_model.specs.Stage.{values}
use Rattle.ev_stack.specs.LayerOrder.{IsOrder}
use Rattle.ev_links.specs.Ties.{Has}
use Rattle.ev_groups.specs.Groups.{group, siblings}
use Rattle.ev_scene.specs.Board.{values_of, ids_in}
use Rattle.ev_scene.specs.Cast.{board_of}
use Rattle.ev_scene.proofs.Capturing.{one_more_id, all_ids}
use Rattle.ev_scene.proofs.Differing.{one_more_holds, each_has}
use Rattle.ev_scene.proofs.cast.Cast.shares.Goals as goal

pub loop-id-preserved : goal.loop-id-preserved
loop-id-preserved c = (
  one_more_id (values_of c.args.self.now.roll.states) c.deref-id-items.result.now c.loop-id.id-index 0 (values c.loop-id.objects) (values c.push_share.new.objects) _
      c.loop-id-test.true (c.in_ok-push_share.ensures) c.loop-id.invariant.0,
  one_more_holds (λ id. IsOrder (group c.args.self.now.groups (Some id))) c.deref-id-items.result.now c.loop-id.id-index c.loop-id.invariant.1 c.tell_order-in-loop-id.ensures,
)

pub returns : goal.returns
returns c =
    let all : c.deref-id-items.result.now ≡ ids_in (board_of c.args.self.now) None =
    c.deref-id-items.ensures.value ∙ (c.in_ok-collect.ensures) ∙ ap (λ ids. ids ++ in_order c.len.result (siblings c.args.self.now.groups) None) c.new-ids.ensures.items ∙ ap (λ n. in_order n (siblings c.args.self.now.groups) None) c.len.ensures in
    let P : List ℕ → Type 0 = λ ids. (id : ℕ) → Has id ids → IsOrder (group c.args.self.now.groups (Some id)) in
    record {
      objects = all_ids (values_of c.args.self.now.roll.states) c.deref-id-items.result.now (ids_in (board_of c.args.self.now) None) c.loop-id.id-index (values c.loop-id.objects) all c.loop-id-test.false c.loop-id.invariant.0;
      orders = record {
        top = c.tell_order.ensures;
        each = subst P all (each_has (λ id. IsOrder (group c.args.self.now.groups (Some id))) c.deref-id-items.result.now (λ k low. let end = c.loop-id-test.false in c.loop-id.invariant.1 k (omega (arith, low, end))));
      };
    }
