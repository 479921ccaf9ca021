-- What holds of all objects of a scene holds of those that are seen.
use Rattle.std.proofs.Common.{Bool, true, false, ◌&&◌, if◌then◌else◌, List, [], ◌∷◌, All, filter_map, Some, None}
use Rattle.std.proofs.lemmas.List.Elements.{All-from_recursion, recursion_from_All}
use Rattle.std.specs.List.{cons_option, AllByRecursion}
use Rattle.ev_model.specs.Look.{look, looks, has_pixels}
use Rattle.ev_model.specs.Stage.{Stage}
use Rattle.ev_model.specs.Up.{clip, colour, is_drawn}
use Rattle.ev_model.specs.declared.object.Object.{Object}

looks_hold_by : (P : Object → Type 0) (s : Stage) (objects : List Object) → AllByRecursion P objects → AllByRecursion (λ l. P l.object) (filter_map (look s) objects)
looks_hold_by P s [] all = tt
looks_hold_by P s (o ∷ objects) all = go (is_drawn s o && has_pixels (clip s o)) (looks_hold_by P s objects all.1) where
  go : (seen : Bool) → AllByRecursion (λ l. P l.object) (filter_map (look s) objects)
      → AllByRecursion (λ l. P l.object) (cons_option (if seen then Some (record { id = o.id; area = clip s o; color = colour s o; object = o }) else None) (filter_map (look s) objects))
  go true rest = (all.0, rest)
  go false rest = rest

-- what holds of all objects holds of those that are seen
pub looks_hold : (P : Object → Type 0) (s : Stage) → All P s.objects → All (λ l. P l.object) (looks s)
looks_hold P s all = All-from_recursion (λ l. P l.object) (looks s) (looks_hold_by P s s.objects (recursion_from_All P s.objects all))
