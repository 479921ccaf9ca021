-- Two lists of looks with the same ids in the same order.
use Rattle.std.specs.Prelude.{if◌then◌else◌, List, [], ◌∷◌, ◌++◌}
use Rattle.ev_geom.specs.Area.{Area}
use Rattle.ev_model.specs.Look.{Look}
use Rattle.ev_damage.specs.Same.{same_look}

-- the areas of two looks, unless these are equal
abbrev pub changed : Look → Look → List Area
changed l m = if same_look l m then [] else l.area ∷ (m.area ∷ [])

-- the areas of each two looks at one place, unless these are equal
abbrev pub changes : List Look → List Look → List Area
changes [] ms = []
changes (l ∷ ls) [] = []
changes (l ∷ ls) (m ∷ ms) = changed l m ++ changes ls ms
