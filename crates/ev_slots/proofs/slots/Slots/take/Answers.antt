use Rattle.std.proofs.Common.{nat_eq, Some, None, sym, ap, ◌∙◌}
use Rattle.std.specs.HashMap.{get}
use Rattle.slab.specs.Slab.{get as entry, slab_len}
use Rattle.ev_slots.specs.Slots.{put}
use Rattle.ev_slots.proofs.Keeping.{reads_none, reads_place, has_entry, thing_taken, list_taken, its_id}
use Rattle.ev_slots.proofs.Seating.{stands_up}
use Rattle.ev_slots.proofs.slots.Slots.take.Goals as goal

pub remove-entry-requires : goal.remove-entry-requires
remove-entry-requires g c = has_entry c.self.inside.given (get nat_eq c.self.inside.places) (entry c.self.inside.entries) (slab_len c.self.inside.entries) c.self.invariant c.args.id c.in_ok-place.place (sym (c.in_ok-place.ensures).value)

pub returns-in_err-place-clause-value : goal.returns-in_err-place-clause-value
returns-in_err-place-clause-value g c =
    c.from_residual.ensures ∙ sym (reads_none c.self.inside.given (get nat_eq c.self.inside.places) (entry c.self.inside.entries) (slab_len c.self.inside.entries) c.self.invariant c.args.self.now.slots c.args.id (ap (λ s. s.slots) c.self.view_is) (sym (c.in_err-place.ensures).value))

pub invariant_of-self-2 : goal.invariant_of-self-2
invariant_of-self-2 g c =
    thing_taken c.self.inside.given (get nat_eq c.self.inside.places) (entry c.self.inside.entries) (slab_len c.self.inside.entries) c.self.invariant c.args.id c.in_ok-place.place c.remove-entry.result (get nat_eq c.remove.new.self) (entry c.remove-entry.new.self) (sym (c.in_ok-place.ensures).value) c.remove-entry.ensures.value
    (c.in_ok-place.ensures).updates.0 c.remove-entry.ensures.updates.changed c.remove-entry.ensures.updates.others (slab_len c.remove-entry.new.self) c.remove-entry.ensures.len

pub returns-clause-value : goal.returns-clause-value
returns-clause-value g c =
    sym (reads_place c.self.inside.given (get nat_eq c.self.inside.places) (entry c.self.inside.entries) (slab_len c.self.inside.entries) c.self.invariant c.args.self.now.slots c.args.id c.in_ok-place.place (Some c.remove-entry.result) (ap (λ s. s.slots) c.self.view_is) (sym (c.in_ok-place.ensures).value) c.remove-entry.ensures.value)

pub returns-clause-some : goal.returns-clause-some
returns-clause-some g c =
    list_taken c.self.inside.given (get nat_eq c.self.inside.places) (entry c.self.inside.entries) (slab_len c.self.inside.entries) c.self.invariant c.args.id c.in_ok-place.place c.remove-entry.result (get nat_eq c.remove.new.self) (entry c.remove-entry.new.self) (sym (c.in_ok-place.ensures).value) c.remove-entry.ensures.value
    (c.in_ok-place.ensures).updates.0 c.remove-entry.ensures.updates.changed c.remove-entry.ensures.updates.others
    ∙ ap (λ s. put s.slots c.args.id None) c.self.view_is

pub returns-clause-left : goal.returns-clause-left
returns-clause-left g c =
    let own = its_id c.self.inside.given (get nat_eq c.self.inside.places) (entry c.self.inside.entries) (slab_len c.self.inside.entries) c.self.invariant c.args.id c.in_ok-place.place c.remove-entry.result (get nat_eq c.remove.new.self) (entry c.remove-entry.new.self) (sym (c.in_ok-place.ensures).value) c.remove-entry.ensures.value in
    rw (← c.self.view_is) (stands_up c.self.inside.entries.slots c.remove-entry.new.self.slots c.args.id c.in_ok-place.place c.remove-entry.result c.remove-entry.ensures.value own c.remove-entry.ensures.updates.changed c.remove-entry.ensures.updates.others)
