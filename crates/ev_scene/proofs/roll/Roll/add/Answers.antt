use Rattle.std.proofs.Common.{ap}
use Rattle.ev_scene.proofs.Finding.{added_to}
use Rattle.ev_scene.proofs.roll.Roll.add.Goals as goal

pub invariant_of-self : goal.invariant_of-self
invariant_of-self c = added_to c.self.inside.slots.slots c.self.inside.ids.entries c.args.self.now.states c.self.invariant (ap (λ v. v.states) c.self.view_is)
    c.push.new.self.slots c.insert.new.self.entries c.args.state c.get-2.result.now.name c.get.result.now.id c.in-Ok.field-0
    c.requires.id c.requires.name (ap (λ o. o.name) c.get-2.ensures) (ap (λ o. o.id) c.get.ensures) c.push.ensures.slots
    (c.in-Ok.ensures).updates.0 (c.in-Ok.ensures).old (c.in-Ok.ensures).len
