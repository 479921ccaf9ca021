-- What looks are found by.
use Rattle.std.specs.Prelude.{◌≡◌, ℕ, ◌≤◌, Some, option_map}
use Rattle.std.specs.FinMap.{get}
use Rattle.ev_state.specs.Held.{Held}
use Rattle.ev_model.specs.Content.{kind_of}
use Rattle.ev_model.specs.Stage.{Stage}
use Rattle.ev_model.specs.declared.object.Object.{Object}
use Rattle.ev_slots.specs.Slots.{of_id}
use Rattle.ev_slots.specs.Seats.{HavePlaces}
use Rattle.ev_links.specs.Ties.{Tie, Ties, IsSound}
use Rattle.ev_track.specs.Tracks.{Tracks, slots_in}
use Rattle.ev_looks.specs.PlacedStates.{stage_in, states_now}
use Rattle.ev_looks.specs.declared.walk.Ground.{Ground}

-- what ties an object to others
abbrev pub tie_of : Object → Tie
tie_of o = record { kind = kind_of o.content; clipper = o.clipper; parent = o.parent }

-- each object stands under its id, and the ties are those of the objects
pub record AreTied (t : Tracks Object) (ties : Ties) : Type 0 where
  pub own : (id : ℕ) (s : Held Object) → of_id t.slots id ≡ Some s → s.value.id ≡ id
  pub tied : (id : ℕ) → get ties id ≡ option_map (λ (s : Held Object). tie_of s.value) (of_id t.slots id)

-- the scene of all objects
abbrev pub stage_on : Ground → Stage
stage_on g = stage_in g.w g.h (states_now g.objects.now)

-- its canvas is not too large, each object sits in a place of its own, and the ties are those of the objects
pub record IsGround (g : Ground) : Type 0 where
  pub width : g.w ≤ 4096
  pub height : g.h ≤ 4096
  pub laws : HavePlaces (slots_in g.objects.now)
  pub tied : AreTied g.objects.now g.links.now
  pub sound : IsSound (get g.links.now)
