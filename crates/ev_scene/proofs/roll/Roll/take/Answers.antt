use Rattle.std.proofs.Common.{◌≡◌, None, Some, Option, OnSome, ap, sym, ◌∙◌, subst}
use Rattle.std.specs.Option.{option_map}
use Rattle.std.proofs.lemmas.Option.{none-some}
use Rattle.ev_state.specs.Held.{Held}
use Rattle.ev_model.specs.declared.object.Object.{Object}
use Rattle.ev_scene.specs.Ids.{of_id, put, value_of}
use Rattle.ev_scene.specs.Board.{values_of}
use Rattle.ev_scene.specs.Roll.{id_in, IsRoll}
use Rattle.ev_scene.proofs.Places.{of_id_map}
use Rattle.ev_scene.proofs.Finding.{leads_back, removed_from, taken, not_taken}
use Rattle.ev_scene.proofs.roll.Roll.take.Goals as goal
use Rattle.ev_scene.proofs.roll.Roll.take.Goals.{in-Some-1, in-None-1}

-- what was there was taken
took : {P : Type 0} (r : Option (Held Object)) (o : Object) → option_map value_of r ≡ Some o → OnSome r P → P
took None o there h = absurd (none-some o there)
took (Some s) o there h = h

pub unreachable-requires : goal.unreachable-requires
unreachable-requires c =
    let leads : Some c.args.id ≡ id_in c.self.inside.ids.entries c.in-Some.object.now.name = leads_back c.self.inside.slots.slots c.self.inside.ids.entries c.args.self.now.states c.self.invariant (ap (λ v. v.states) c.self.view_is) c.args.id c.in-Some.object.now (sym (c.in-Some.ensures)) in
    none-some c.args.id ((c.in_default-swap_remove.ensures).value ∙ sym leads)

pub invariant_of-self : goal.invariant_of-self
invariant_of-self c =
    let is = ap (λ v. v.states) c.self.view_is in
    let leads : Some c.args.id ≡ id_in c.self.inside.ids.entries c.in-Some.object.now.name = leads_back c.self.inside.slots.slots c.self.inside.ids.entries c.args.self.now.states c.self.invariant is c.args.id c.in-Some.object.now (sym (c.in-Some.ensures)) in
    let gone : c.take.new.self.slots ≡ put c.self.inside.slots.slots c.args.id None =
    took c.take.result c.in-Some.object.now (ap (option_map value_of) c.take.ensures.value ∙ sym (of_id_map value_of c.self.inside.slots.slots c.args.id) ∙ ap (λ s. of_id (values_of s) c.args.id) is ∙ sym (c.in-Some.ensures)) c.take.ensures.some in
    subst (λ s. IsRoll s c.swap_remove.new.self.entries) (sym gone)
    (removed_from c.self.inside.slots.slots c.self.inside.ids.entries c.args.self.now.states c.self.invariant is
    c.swap_remove.new.self.entries c.in-Some.object.now.name c.args.id leads (c.in-Some-swap_remove.ensures).updates.0 (c.in-Some-swap_remove.ensures).len)

pub returns-in-Some-swap_remove-clause-states : goal.returns-in-Some-swap_remove-clause-states
returns-in-Some-swap_remove-clause-states c =
    let is = ap (λ v. v.states) c.self.view_is in
    let gone : c.take.new.self.slots ≡ put c.self.inside.slots.slots c.args.id None =
    took c.take.result c.in-Some.object.now (ap (option_map value_of) c.take.ensures.value ∙ sym (of_id_map value_of c.self.inside.slots.slots c.args.id) ∙ ap (λ s. of_id (values_of s) c.args.id) is ∙ sym (c.in-Some.ensures)) c.take.ensures.some in
    let after = gone ∙ ap (λ states. put states c.args.id None) is in
    elim c.match-take.branch [
      | in-Some-1 w ↦ taken c.self.inside.slots.slots c.self.inside.ids.entries c.args.self.now.states c.self.invariant is c.match-take.self.states c.args.id c.in-Some.object.now (sym (c.in-Some.ensures)) (ap (λ v. v.states) w.self-is ∙ after)
      | in-None-1 w ↦ taken c.self.inside.slots.slots c.self.inside.ids.entries c.args.self.now.states c.self.invariant is c.match-take.self.states c.args.id c.in-Some.object.now (sym (c.in-Some.ensures)) (ap (λ v. v.states) w.self-is ∙ after)
    ]

pub returns-in_default-clause-states : goal.returns-in_default-clause-states
returns-in_default-clause-states c = not_taken c.self.inside.slots.slots c.self.inside.ids.entries c.args.self.now.states c.self.invariant (ap (λ v. v.states) c.self.view_is) c.args.id (c.in_default.ensures)
