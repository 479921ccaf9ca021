-- When a call is refused, and what it changes.
use Rattle.std.specs.Prelude.{◌≡◌, ℕ, Bool, true, false, not, ◌&&◌, ◌||◌, Option, Some, None, is_some, if◌then◌else◌, ◌==◌, nat_eq}
use Rattle.std.specs.Option.{option_map, option_eq}
use Rattle.std.specs.List.{list_any}
use Rattle.std.specs.FinMap.{get, insert, keys}
use Rattle.ev_model.specs.declared.content.Kind as kinds
use Rattle.ev_model.specs.declared.content.Kind.TheVariants.{Rect, Image, Text, Smart}
use Rattle.ev_links.specs.declared.refusal.LinkErr.{LinkErr}
use Rattle.ev_links.specs.declared.refusal.LinkErr.TheVariants.{Unknown, Itself, Kind, Sibling, Cycle, Clipping}
use Rattle.ev_links.specs.Ties.{Tie, Ties, clipper_at, parent_at, kind_at, has, up_of, is_inside, released}

-- there is such an object
abbrev pub is_known : Ties → ℕ → Bool
is_known ties id = is_some (get ties id)

-- why a call on one object alone is refused
abbrev pub known_fault : Ties → ℕ → Option LinkErr
known_fault ties id = if is_known ties id then None else Some Unknown

-- whether there is a kind, and it is that of rectangles
abbrev pub is_rect : Option kinds.Kind → Bool
is_rect (Some Rect) = true
is_rect (Some Image) = false
is_rect (Some Text) = false
is_rect (Some Smart) = false
is_rect None = false

-- whether there is a kind, and it is that of smart objects
abbrev pub is_smart : Option kinds.Kind → Bool
is_smart (Some Rect) = false
is_smart (Some Image) = false
is_smart (Some Text) = false
is_smart (Some Smart) = true
is_smart None = false

-- both have the same parent, or both none
abbrev pub are_siblings : Ties → ℕ → ℕ → Bool
are_siblings ties id other = option_eq nat_eq (parent_at (get ties) id) (parent_at (get ties) other)

-- some object has this one as its clipper
abbrev pub clips : Ties → ℕ → Bool
clips ties id = list_any (λ other. option_eq nat_eq (clipper_at (get ties) other) (Some id)) (keys ties)

-- it clips an object or has a clipper
abbrev pub is_clipping : Ties → ℕ → Bool
is_clipping ties id = clips ties id || is_some (clipper_at (get ties) id)

-- the first fault of a clip, by what is the case
abbrev pub first_clip_fault : Bool → Bool → Bool → Bool → Bool → Option LinkErr
first_clip_fault are_known is_itself is_rect are_siblings is_cycle =
    if not are_known then Some Unknown
    else if is_itself then Some Itself
    else if not is_rect then Some Kind
    else if not are_siblings then Some Sibling
    else if is_cycle then Some Cycle
    else None

-- why one object can't clip another: one of them isn't there, they are the same, the clipper is no rectangle, their
-- parents differ, or the object is on the clipper's way up
abbrev pub clip_fault : Ties → ℕ → ℕ → Option LinkErr
clip_fault ties id clipper =
    first_clip_fault (is_known ties id && is_known ties clipper) (id == clipper) (is_rect (kind_at (get ties) clipper)) (are_siblings ties id clipper) (has (up_of ties clipper) id)

-- the first fault of a join, by what is the case
abbrev pub first_join_fault : Bool → Bool → Bool → Bool → Bool → Option LinkErr
first_join_fault are_known is_itself is_smart is_cycle is_clipping =
    if not are_known then Some Unknown
    else if is_itself then Some Itself
    else if not is_smart then Some Kind
    else if is_cycle then Some Cycle
    else if is_clipping then Some Clipping
    else None

-- why an object can't join a smart object: one of them isn't there, they are the same, the one to join isn't smart, that
-- stands inside the object, or the object clips or is clipped
abbrev pub join_fault : Ties → ℕ → ℕ → Option LinkErr
join_fault ties id smart =
    first_join_fault (is_known ties id && is_known ties smart) (id == smart) (is_smart (kind_at (get ties) smart)) (is_inside ties smart id) (is_clipping ties id)

-- the first fault of leaving a parent, by what is the case
abbrev pub first_leave_fault : Bool → Bool → Option LinkErr
first_leave_fault is_known is_clipping = if not is_known then Some Unknown else if is_clipping then Some Clipping else None

-- why an object can't leave its parent: it isn't there, or it clips or is clipped
abbrev pub leave_fault : Ties → ℕ → Option LinkErr
leave_fault ties id = first_leave_fault (is_known ties id) (is_clipping ties id)

-- the ties with one object's tie changed
abbrev pub put_tie : Ties → ℕ → Option Tie → Ties
put_tie ties id None = ties
put_tie ties id (Some tie) = insert ties id tie

-- the ties with another clipper, or none, for one object
abbrev pub with_clipper : Ties → ℕ → Option ℕ → Ties
with_clipper ties id clipper = put_tie ties id (option_map (λ (tie : Tie). record tie { clipper = clipper }) (get ties id))

-- the ties with another parent, or none, for one object
abbrev pub with_parent : Ties → ℕ → Option ℕ → Ties
with_parent ties id parent = put_tie ties id (option_map (λ (tie : Tie). record tie { parent = parent }) (get ties id))

-- one object is gone, and what it clipped has no clipper
abbrev pub Drops : Ties → ℕ → Ties → Type 0
Drops old id new = (other : ℕ) → get new other ≡ (if other == id then None else option_map (released id) (get old other))
