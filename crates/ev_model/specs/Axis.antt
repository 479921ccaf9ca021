-- Where a place of an object lies in the image that fills it, along one axis.
use Rattle.std.specs.Prelude.{ℕ, pos, ◌-ℤ◌, ◌+◌, ◌-◌, ◌*◌, ◌/◌, ◌≤◌, Bool, ◌&&◌, ◌==◌, min, nat_lt, nat_le, unsigned_abs, Option, Some, None, if◌then◌else◌}
use Rattle.std.specs.Int.{int_rem_euclid}
use Rattle.ev_geom.specs.Area.{IsPlace}
use Rattle.ev_model.specs.declared.axis.Axis.{Axis}

-- the limits of an axis: neither its fill nor its image is empty
pub record IsAxis (axis : Axis) : Type 0 where
  pub start : IsPlace axis.start
  pub len_low : 1 ≤ axis.len
  pub len_high : axis.len ≤ 1000000
  pub source_low : 1 ≤ axis.source
  pub source_high : axis.source ≤ 4096

-- the place in the fill, which repeats in both directions
abbrev pub phase : Axis → ℕ → ℕ
phase axis i = unsigned_abs (int_rem_euclid (pos i -ℤ axis.start) (pos axis.len))

-- the borders, as far as the image has room for them, the low one first
abbrev pub low_source : Axis → ℕ
low_source axis = min axis.low axis.source

abbrev pub high_source : Axis → ℕ
high_source axis = min axis.high (axis.source - low_source axis)

-- the borders, as far as the fill has room for them
abbrev pub low_part : Axis → ℕ
low_part axis = min (low_source axis) axis.len

abbrev pub high_part : Axis → ℕ
high_part axis = min (high_source axis) (axis.len - low_part axis)

-- what the image has between its borders
abbrev pub middle_source : Axis → ℕ
middle_source axis = axis.source - low_source axis - high_source axis

-- what the fill has between the borders
abbrev pub middle_part : Axis → ℕ
middle_part axis = axis.len - low_part axis - high_part axis

-- whether a place of the fill lies between the borders
abbrev pub is_middle : Axis → ℕ → Bool
is_middle axis u = nat_le (low_part axis) u && nat_lt u (axis.len - high_part axis)

-- the place in the image of a place of the fill: a border keeps its size, and the middle is stretched or shrunk;
-- there is none where the image has nothing between its borders
abbrev pub source_at : Axis → ℕ → Option ℕ
source_at axis u =
    if nat_lt u (low_part axis) then Some u
    else if nat_le (axis.len - high_part axis) u then Some (axis.source - (axis.len - u))
    else if middle_source axis == 0 then None
    else Some (low_source axis + (u - low_part axis) * middle_source axis / middle_part axis)
