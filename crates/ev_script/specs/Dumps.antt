-- What is shown of a picture a part of which is hidden.
use Rattle.std.specs.Prelude.{ℕ, pos, List, map, Option, Some, None, get_or, length, if◌then◌else◌}
use Rattle.std.specs.List.{range_with_len, flat_map}
use Rattle.ev_argb.specs.Argb.{Argb, clear}
use Rattle.ev_argb.specs.Grid.{Grid, pixel_at}
use Rattle.ev_geom.specs.Area.{Area}
use Rattle.ev_geom.specs.Bands.{has_pixel}

-- a pixel of place x, y, unless that is hidden
abbrev pub unhidden : List Area → ℕ → ℕ → Argb → Option Argb
unhidden hidden x y p = if has_pixel hidden (pos x) (pos y) then None else Some p

-- the same of each pixel of a row
abbrev pub unhidden_row : List Area → ℕ → List Argb → List (Option Argb)
unhidden_row hidden y pixels = map (λ x. unhidden hidden x y (get_or pixels x clear)) (range_with_len 0 (length pixels))

-- row y of a picture
abbrev pub place_row : List Area → Grid → ℕ → List (Option Argb)
place_row hidden grid y = map (λ x. unhidden hidden x y (pixel_at grid x y)) (range_with_len 0 grid.w)

-- all its rows
abbrev pub places : List Area → Grid → List (Option Argb)
places hidden grid = flat_map (place_row hidden grid) (range_with_len 0 grid.h)
