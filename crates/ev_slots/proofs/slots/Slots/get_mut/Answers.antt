use Rattle.std.proofs.Common.{◌≡◌, ◌⊎◌, ℕ, ◌-◌, ◌^◌, min, nat_eq, Some, None, inl, refl, sym, ap}
use Rattle.std.specs.HashMap.{get, spare}
use Rattle.slab.specs.Slab.{get as entry, slab_len, with_value}
use Rattle.ev_slots.specs.declared.slots.Entry.{Entry}
use Rattle.ev_slots.proofs.Keeping.{reads_none, reads_place, thing_written, list_written}
use Rattle.ev_slots.proofs.Seating.{seats_stay}
use Rattle.ev_slots.proofs.Writing.{written, taken_stays}
use Rattle.ev_slots.proofs.slots.Slots.get_mut.Goals as goal

abbrev the_entry : (T : Type 0) → ℕ → T → Entry T
the_entry T id thing = record { id = id; thing = thing }

-- what is lent under one name ends in one way
lent : {N A B C : Type 0} (n : N) {f f' : A → B} → f ≡ f' → ◌≡◌ {A = (N × (A → B)) ⊎ C} (inl (n, f)) (inl (n, f'))
lent n e = ap (λ f. inl (n, f)) e

pub returns-in_err-place : goal.returns-in_err-place
returns-in_err-place g c =
    rw (c.from_residual.ensures, ← c.self.view_is) (refl, record { writes_back = tt; value = sym (reads_none c.self.inside.given (get nat_eq c.self.inside.places) (entry c.self.inside.entries) (slab_len c.self.inside.entries) c.self.invariant _ c.args.id refl (sym c.in_err-place.ensures)) })

pub returns-in_err-entry : goal.returns-in_err-entry
returns-in_err-entry g c =
    rw (c.from_residual-in_err-entry.ensures, ← c.self.view_is)
    (refl, record { writes_back = tt; value = sym (reads_place c.self.inside.given (get nat_eq c.self.inside.places) (entry c.self.inside.entries) (slab_len c.self.inside.entries) c.self.invariant _ c.args.id c.in_ok-place.place None refl (sym c.in_ok-place.ensures) (sym (c.in_err-entry.ensures).value)) })

pub invariant_of-self-lent : goal.invariant_of-self-lent
invariant_of-self-lent g c =
    let there = sym (c.in_ok-entry.ensures).value in
    λ w. let with : Entry g.row.T.Denot = record { id = c.in_ok-entry.entry.now.id; thing = w } in
    thing_written c.self.inside.given (get nat_eq c.self.inside.places) (entry c.self.inside.entries) (slab_len c.self.inside.entries) c.self.invariant c.args.id c.in_ok-place.place c.in_ok-entry.entry.now (get nat_eq c.self.inside.places) (entry (with_value c.self.inside.entries c.in_ok-place.place with))
    (sym c.in_ok-place.ensures) there w (written c.self.inside.entries c.in_ok-place.place c.in_ok-entry.entry.now with there)
    (slab_len (with_value c.self.inside.entries c.in_ok-place.place with)) (taken_stays c.self.inside.entries c.in_ok-place.place c.in_ok-entry.entry.now with there)

pub returns : goal.returns
returns g c =
    let there = sym (c.in_ok-entry.ensures).value in
    let with = λ (w : g.row.T.Denot). the_entry g.row.T.Denot c.in_ok-entry.entry.now.id w in
    let list = λ (w : g.row.T.Denot). list_written c.self.inside.given (get nat_eq c.self.inside.places) (entry c.self.inside.entries) (slab_len c.self.inside.entries) c.self.invariant c.args.id c.in_ok-place.place c.in_ok-entry.entry.now (get nat_eq c.self.inside.places)
    (entry (with_value c.self.inside.entries c.in_ok-place.place (with w))) (sym c.in_ok-place.ensures) there w (written c.self.inside.entries c.in_ok-place.place c.in_ok-entry.entry.now (with w) there) in
    let stays = λ (w : g.row.T.Denot). taken_stays c.self.inside.entries c.in_ok-place.place c.in_ok-entry.entry.now (with w) there in
    let seats = λ (w : g.row.T.Denot). seats_stay c.self.inside.entries.slots c.in_ok-place.place c.in_ok-entry.entry.now (with w) there refl in
    rw (← c.self.view_is) (
      lent _ (λ i w. record { slots = list w i; seats = seats w i; places = c.self.inside.entries.capacity; room = min (2 ^ 62 - c.self.inside.given) (min (spare c.self.inside.places) (c.self.inside.entries.capacity - stays w i)) }),
      record { writes_back = tt; value = sym (reads_place c.self.inside.given (get nat_eq c.self.inside.places) (entry c.self.inside.entries) (slab_len c.self.inside.entries) c.self.invariant _ c.args.id c.in_ok-place.place (Some c.in_ok-entry.entry.now) refl (sym c.in_ok-place.ensures) there) },
    )
