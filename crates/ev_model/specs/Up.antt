-- What stands over an object: its clipper or its parent, and so on from there.
use Rattle.std.specs.Prelude.{ℕ, Bool, true, false, not, ◌&&◌, ◌==◌, fold, find, if◌then◌else◌, List, ◌∷◌, length, Option, option_and_then}
use Rattle.std.specs.List.{list_all, list_any}
use Rattle.std.specs.Option.{option_or, option_map_or}
use Rattle.ev_argb.specs.Argb.{Argb, tint}
use Rattle.ev_geom.specs.Area.{Area, meet}
use Rattle.ev_model.specs.Chain.{chain}
use Rattle.ev_model.specs.Stage.{Stage, canvas}
use Rattle.ev_model.specs.declared.content.Content.{Content}
use Rattle.ev_model.specs.declared.content.Content.TheVariants as content
use Rattle.ev_model.specs.declared.object.Object.{Object}

-- the object of an id
abbrev pub with_id : List Object → ℕ → Option Object
with_id objects id = find (λ o. o.id == id) objects

-- the object over o: its clipper, or else its parent
abbrev pub next : List Object → Object → Option Object
next objects o = option_and_then (with_id objects) (option_or o.clipper o.parent)

-- all objects over o, the nearest first. There are at most as many as there are objects, where the way up comes to an end
abbrev pub over_it : List Object → Object → List Object
over_it objects o = chain (length objects) (next objects) (next objects o)

-- o and all objects over it
abbrev pub up : List Object → Object → List Object
up objects o = o ∷ over_it objects o

abbrev pub is_smart_content : Content → Bool
is_smart_content content.Smart = true
is_smart_content _ = false

abbrev pub is_smart : Object → Bool
is_smart o = is_smart_content o.content

-- an area, cut by an object that is not smart
abbrev pub cut : Area → Object → Area
cut area u = if is_smart u then area else meet area u.rect

-- the pixels that o may change: those of the canvas that lie in all objects of its way up, but for smart ones
abbrev pub clip : Stage → Object → Area
clip s o = fold cut (canvas s) (up s.objects o)

-- the colour that tints o: its own, tinted by each object over it in turn
abbrev pub colour : Stage → Object → Argb
colour s o = fold (λ color u. tint color u.color) o.color (over_it s.objects o)

-- o is shown where it and all objects over it are visible
abbrev pub is_shown : Stage → Object → Bool
is_shown s o = list_all (λ u. u.shown) (up s.objects o)

-- whether o has the clipper of this id
abbrev pub is_clipped_by : ℕ → Object → Bool
is_clipped_by id o = option_map_or (λ clipper. clipper == id) o.clipper false

-- whether o clips another
abbrev pub clips : Stage → Object → Bool
clips s o = list_any (is_clipped_by o.id) s.objects

-- o is drawn where it is not smart, clips nobody and is shown
abbrev pub is_drawn : Stage → Object → Bool
is_drawn s o = not (is_smart o) && not (clips s o) && is_shown s o
