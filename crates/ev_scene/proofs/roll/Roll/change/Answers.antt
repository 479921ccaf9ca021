use Rattle.std.proofs.Common.{◌≡◌, Result, Ok, Err, OnErr, true, is_some, ap, sym, subst, ◌∙◌}
use Rattle.std.proofs.Math.Bool.{true≢false}
use Rattle.ev_scene.specs.Ids.{of_id}
use Rattle.ev_scene.specs.Change.{apply}
use Rattle.ev_scene.specs.Roll.{IsRoll}
use Rattle.ev_scene.proofs.Places.{put_same}
use Rattle.ev_scene.proofs.Finding.{changed_at, changed_values, changed_alone}
use Rattle.ev_scene.proofs.roll.Roll.change.Goals as goal

on_err : {T E P : Type 0} (result : Result T E) → P → OnErr result P
on_err (Ok done) holds = tt
on_err (Err cause) holds = holds

pub invariant_of-self-in-Some : goal.invariant_of-self-in-Some
invariant_of-self-in-Some c =
    changed_at c.self.inside.slots.slots c.self.inside.ids.entries c.args.self.now.states c.self.invariant (ap (λ v. v.states) c.self.view_is)
    c.args.id c.in-Some.state.now c.args.change c.apply.new.object _ (sym (c.in-Some.ensures).value) (c.apply.ensures ∙ ap (apply c.args.change) (c.in_ok-object.ensures).value)

pub invariant_of-self : goal.invariant_of-self
invariant_of-self c =
    subst (λ s. IsRoll s c.self.inside.ids.entries) (sym (put_same c.self.inside.slots.slots c.args.id c.in-Some.state.now (sym (c.in-Some.ensures).value))) c.self.invariant

pub returns-in_err-object-clause-err : goal.returns-in_err-object-clause-err
returns-in_err-object-clause-err c =
    on_err c.from_residual.result (put_same c.self.inside.slots.slots c.args.id c.in-Some.state.now (sym (c.in-Some.ensures).value) ∙ ap (λ v. v.states) c.self.view_is)

pub returns-in_ok-object-clause-ok : goal.returns-in_ok-object-clause-ok
returns-in_ok-object-clause-ok c =
    changed_values c.self.inside.slots.slots c.self.inside.ids.entries c.args.self.now.states c.self.invariant (ap (λ v. v.states) c.self.view_is)
    c.args.id c.in-Some.state.now c.args.change c.apply.new.object _ (sym (c.in-Some.ensures).value) (c.apply.ensures ∙ ap (apply c.args.change) (c.in_ok-object.ensures).value)

pub returns-in_ok-object-clause-alone : goal.returns-in_ok-object-clause-alone
returns-in_ok-object-clause-alone c = changed_alone c.self.inside.slots.slots c.self.inside.ids.entries c.args.self.now.states c.self.invariant (ap (λ v. v.states) c.self.view_is) c.args.id c.in-Some.state.now _ (sym (c.in-Some.ensures).value)

pub returns-in_default-clause-alone : goal.returns-in_default-clause-alone
returns-in_default-clause-alone c =
    let held : is_some (of_id c.self.inside.slots.slots c.args.id) ≡ true = ap (λ v. is_some (of_id v.states c.args.id)) c.self.view_is ∙ c.requires.there in
    absurd (true≢false (sym held ∙ sym (ap is_some (c.in_default.ensures).value)))

pub returns-in_default-clause-ok : goal.returns-in_default-clause-ok
returns-in_default-clause-ok c =
    let held : is_some (of_id c.self.inside.slots.slots c.args.id) ≡ true = ap (λ v. is_some (of_id v.states c.args.id)) c.self.view_is ∙ c.requires.there in
    absurd (true≢false (sym held ∙ sym (ap is_some (c.in_default.ensures).value)))
