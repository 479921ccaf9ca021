use Rattle.std.proofs.Common.{length, nat_eq, sym, ap, ◌∙◌}
use Rattle.std.specs.HashMap.{get}
use Rattle.slab.specs.Slab.{get as entry}
use Rattle.ev_slots.specs.KeptPlaces.{thing_of}
use Rattle.ev_slots.proofs.Keeping.{length_up_to}
use Rattle.ev_slots.proofs.slots.Slots.given.Goals as goal

pub returns-clause-value : goal.returns-clause-value
returns-clause-value g c = sym (length_up_to (thing_of (get nat_eq c.self.inside.places) (entry c.self.inside.entries)) c.self.inside.given) ∙ ap (λ s. length s.slots) c.self.view_is
