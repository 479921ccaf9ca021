use Rattle.std.proofs.Common.{ℕ, Some, ap, sym, subst}
use Rattle.ev_scene.specs.Ids.{put}
use Rattle.ev_scene.specs.Roll.{IsRoll}
use Rattle.ev_scene.proofs.Finding.{replaced_at}
use Rattle.ev_scene.proofs.roll.Roll.replace.Goals as goal

pub invariant_of-self : goal.invariant_of-self
invariant_of-self c =
    let P : ℕ → Type 0 = λ id. IsRoll (put c.self.inside.slots.slots id (Some c.args.state)) c.self.inside.ids.entries in
    subst P (sym (ap (λ o. o.id) c.get.ensures)) (replaced_at c.self.inside.slots.slots c.self.inside.ids.entries c.args.self.now.states c.self.invariant (ap (λ v. v.states) c.self.view_is) c.args.state c.requires)
