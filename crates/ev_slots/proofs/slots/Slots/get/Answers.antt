use Rattle.std.proofs.Common.{nat_eq, Some, None, sym, ap}
use Rattle.std.specs.HashMap.{get}
use Rattle.slab.specs.Slab.{get as entry, slab_len}
use Rattle.ev_slots.proofs.Keeping.{reads_none, reads_place}
use Rattle.ev_slots.proofs.slots.Slots.get.Goals as goal

pub returns-in_err-place : goal.returns-in_err-place
returns-in_err-place g c =
    rw (c.from_residual.ensures) (sym (reads_none c.self.inside.given (get nat_eq c.self.inside.places) (entry c.self.inside.entries) (slab_len c.self.inside.entries) c.self.invariant c.args.self.now.slots c.args.id (ap (λ s. s.slots) c.self.view_is) (sym c.in_err-place.ensures)))

pub returns-in_err-entry : goal.returns-in_err-entry
returns-in_err-entry g c =
    rw (c.from_residual-in_err-entry.ensures)
    (sym (reads_place c.self.inside.given (get nat_eq c.self.inside.places) (entry c.self.inside.entries) (slab_len c.self.inside.entries) c.self.invariant c.args.self.now.slots c.args.id c.in_ok-place.place None (ap (λ s. s.slots) c.self.view_is) (sym c.in_ok-place.ensures) (sym c.in_err-entry.ensures)))

pub returns : goal.returns
returns g c =
    sym (reads_place c.self.inside.given (get nat_eq c.self.inside.places) (entry c.self.inside.entries) (slab_len c.self.inside.entries) c.self.invariant c.args.self.now.slots c.args.id c.in_ok-place.place (Some c.in_ok-entry.entry.now) (ap (λ s. s.slots) c.self.view_is) (sym c.in_ok-place.ensures) (sym c.in_ok-entry.ensures))
