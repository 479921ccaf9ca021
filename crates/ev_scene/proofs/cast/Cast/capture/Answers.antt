use Rattle.std.proofs.Common.{◌≢◌, ℕ, List, [], All, get_or, map, None, option_map, sym, subst, ap, ◌∙◌}
use Rattle.std.specs.Prelude.{AllPairs}
use Rattle.ev_model.specs.Limits.{IsObject}
use Rattle.ev_model.specs.Order.{ids}
use Rattle.ev_model.specs.Stage.{Stage, values}
use Rattle.ev_model.specs.declared.object.Object.{Object}
use Rattle.ev_stack.specs.LayerOrder.{IsOrder}
use Rattle.ev_links.specs.Ties.{IsDistinct}
use Rattle.ev_sights.specs.Sights.{HasObjects, HaveEnds}
use Rattle.ev_scene.specs.Ids.{of_id, value_of}
use Rattle.ev_scene.specs.Board.{values_of, ids_in}
use Rattle.ev_scene.specs.Cast.{board_of}
use Rattle.ev_scene.specs.Sound.{IsSound}
use Rattle.ev_scene.proofs.Places.{of_id_map}
use Rattle.ev_scene.proofs.Capturing.{are_objects, holds_in_order}
use Rattle.ev_scene.proofs.Differing.{looks_differ}
use Rattle.ev_scene.proofs.Trees.{order_found, ways, all_orders, order_once, sound_stage}
use Rattle.ev_scene.proofs.cast.Cast.capture.Goals as goal

pub records-requires-clause-found : goal.records-requires-clause-found
records-requires-clause-found c =
    let P : List Object → Type 0 = λ objects. HasObjects c.slots.result.now.slots objects in
    subst P (sym (c.in_ok-objects.ensures).objects) (λ id. order_found c.requires c.len-ties.ensures.sound id ∙ of_id_map value_of c.args.self.now.roll.states id ∙ ap (λ states. option_map value_of (of_id states id)) (sym c.slots.ensures))

pub records-requires-clause-ways : goal.records-requires-clause-ways
records-requires-clause-ways c =
    subst HaveEnds (sym (c.in_ok-objects.ensures).objects) (ways c.requires c.len-ties.ensures.sound)

pub invariant_of-result : goal.invariant_of-result
invariant_of-result c =
    let P : List Object → Type 0 = λ objects. All IsObject objects in
    let Q : List Object → Type 0 = λ objects. IsDistinct (ids objects) in
    let R : List Object → Type 0 = λ objects. IsSound (record { w = c.args.self.now.w; h = c.args.self.now.h; objects = objects }) in
    let limits : All IsObject (values c.in_ok-objects.objects) =
    subst P (sym (c.in_ok-objects.ensures).objects) (holds_in_order IsObject (values_of c.args.self.now.roll.states) (ids_in (board_of c.args.self.now) None) c.requires.limits) in
    let orders = (c.in_ok-objects.ensures).orders in
    let seen : Stage = record { w = c.args.self.now.w; h = c.args.self.now.h; objects = values c.in_ok-objects.objects } in
    let all : (at : ℕ) → IsOrder (get_or c.args.self.now.groups at []) =
    all_orders c.requires c.len-ties.ensures.sound orders.top orders.each in
    let once : IsDistinct (ids (values c.in_ok-objects.objects)) =
    subst Q (sym (c.in_ok-objects.ensures).objects) (order_once c.requires c.len-ties.ensures.sound
    (λ at. (all at).distinct)) in
    record {
      canvas = c.requires.canvas;
      objects = are_objects c.in_ok-objects.objects limits;
      sound =
          subst R (sym (c.in_ok-objects.ensures).objects)
          (sound_stage c.requires c.len-ties.ensures.sound all);
      looks = (c.in_ok-records.ensures).looks;
      apart = subst (λ looks. AllPairs (λ a b. a ≢ b) (map (λ l. l.id) looks)) (sym (c.in_ok-records.ensures).looks) (looks_differ seen once);
      on_canvas = (c.in_ok-records.ensures).on_canvas limits;
    }
