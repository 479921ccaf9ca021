use Rattle.std.proofs.Common.{map, ◌∙◌}
use Rattle.ev_model.specs.Look.{look_of}
use Rattle.ev_damage.proofs.Crossing.{places_differ, places_fit, all_damage}
use Rattle.ev_damage.proofs.damage.between_found.Goals as goal

pub add_turned-requires-clause-places : goal.add_turned-requires-clause-places
add_turned-requires-clause-places c =
    let kept = c.in_ok-kept.ensures (map look_of c.args.new.now) (c.deref-3.ensures.value ∙ c.in_ok-old_places.ensures) in
    rw (c.deref-4.ensures.value, kept) (places_differ (map look_of c.args.new.now) (map look_of c.args.old.now) c.requires.old_ids)

pub add_turned-requires-clause-areas : goal.add_turned-requires-clause-areas
add_turned-requires-clause-areas c =
    let kept = c.in_ok-kept.ensures (map look_of c.args.new.now) (c.deref-3.ensures.value ∙ c.in_ok-old_places.ensures) in
    rw (c.deref-4.ensures.value, kept) (places_fit (map look_of c.args.new.now) c.args.old.now c.requires.old_areas)

pub returns : goal.returns
returns c =
    let kept = c.in_ok-kept.ensures (map look_of c.args.new.now) (c.deref-3.ensures.value ∙ c.in_ok-old_places.ensures) in
    all_damage (map look_of c.args.old.now) (map look_of c.args.new.now) _ _ _ _ c.requires.new_ids
    (c.in_ok-region.ensures (map look_of c.args.new.now) (c.deref.ensures.value ∙ c.in_ok-old_places.ensures))
    (c.in_ok-other.ensures (map look_of c.args.old.now) (c.deref-2.ensures.value ∙ c.in_ok-new_places.ensures))
    c.in_ok-unite.ensures.ok (rw (c.deref-4.ensures.value, kept) at c.in_ok-add_turned.ensures)
