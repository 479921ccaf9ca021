use Rattle.std.proofs.Common.{ap, ◌∙◌}
use Rattle.ev_scene.proofs.Finding.{led_to, led_nowhere, stands_there}
use Rattle.ev_scene.proofs.roll.Roll.named.Goals as goal

pub returns-in-Some-clause-value : goal.returns-in-Some-clause-value
returns-in-Some-clause-value c = c.object.ensures ∙ led_to c.self.inside.slots.slots c.self.inside.ids.entries c.args.self.now.states c.self.invariant (ap (λ v. v.states) c.self.view_is) c.args.name.now c.in-Some.id.now (c.in-Some.ensures).value

pub returns-in-Some-clause-there : goal.returns-in-Some-clause-there
returns-in-Some-clause-there c = stands_there c.self.inside.slots.slots c.self.inside.ids.entries c.args.self.now.states c.self.invariant (ap (λ v. v.states) c.self.view_is) c.object.result c.in-Some.id.now c.object.ensures

pub returns-in-None-clause-value : goal.returns-in-None-clause-value
returns-in-None-clause-value c = led_nowhere c.self.inside.slots.slots c.self.inside.ids.entries c.args.self.now.states c.self.invariant (ap (λ v. v.states) c.self.view_is) c.args.name.now (c.in-None.ensures).value
