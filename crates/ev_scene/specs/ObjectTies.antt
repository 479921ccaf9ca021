-- What ties an object to others, and where it stands.
use Rattle.std.specs.Prelude.{ℕ, ℤ, ◌==◌, if◌then◌else◌, List, map, Option, Some, None}
use Rattle.std.specs.FinMap.{from_entries}
use Rattle.ev_model.specs.Content.{kind_of}
use Rattle.ev_model.specs.declared.object.Object.{Object}
use Rattle.ev_groups.specs.Groups.{place}
use Rattle.ev_links.specs.Ties.{Tie, Ties}

abbrev pub tie_of : Object → Tie
tie_of o = record { kind = kind_of o.content; clipper = o.clipper; parent = o.parent }

-- the ties of objects, by their ids
unfoldable pub ties_of : List Object → Ties
ties_of objects = from_entries (map (λ o. (o.id, tie_of o)) objects)

-- the layer of an object that stands in the group at this place
abbrev pub layer_at : ℕ → Object → Option ℤ
layer_at at o = if place o.parent == at then Some o.layer else None
