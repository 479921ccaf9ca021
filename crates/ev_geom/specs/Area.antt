-- Rectangles as sets of pixels.
use Rattle.std.specs.Prelude.{◌≡◌, ℕ, ◌*◌, ℤ, pos, ◌+ℤ◌, ◌-ℤ◌, ◌≤ℤ◌, neg_ℤ, Bool, true, ◌&&◌, nat_abs, int_lt, int_le, Option, Some, None, if◌then◌else◌}
use Rattle.std.specs.Int.{int_min, int_max}

-- a place and a size
pub record Area : Type 0 where
  pub x : ℤ
  pub y : ℤ
  pub w : ℤ
  pub h : ℤ

-- places lie from -1,000,000 to 1,000,000
abbrev pub is_place : ℤ → Bool
is_place n = int_le (neg_ℤ (pos 1000000)) n && int_le n (pos 1000000)

-- widths and heights lie from 0 to 1,000,000
abbrev pub is_side : ℤ → Bool
is_side n = int_le (pos 0) n && int_le n (pos 1000000)

-- whether a rectangle keeps the limits
abbrev pub in_limits : Area → Bool
in_limits area = is_place area.x && is_place area.y && is_side area.w && is_side area.h

-- the rectangle, where it keeps the limits
abbrev pub limited : Area → Option Area
limited area = if in_limits area then Some area else None

-- what is_place says
pub record IsPlace (n : ℤ) : Type 0 where
  pub low : neg_ℤ (pos 1000000) ≤ℤ n
  pub high : n ≤ℤ pos 1000000

-- what is_side says
pub record IsSide (n : ℤ) : Type 0 where
  pub low : pos 0 ≤ℤ n
  pub high : n ≤ℤ pos 1000000

-- what in_limits says
pub record InLimits (area : Area) : Type 0 where
  pub x : IsPlace area.x
  pub y : IsPlace area.y
  pub w : IsSide area.w
  pub h : IsSide area.h

-- A stretch is the columns or the rows of a rectangle, by the first of them and their number.

-- whether a place lies in a stretch
abbrev pub is_within : ℤ → ℤ → ℤ → Bool
is_within from len at = int_le from at && int_lt at (from +ℤ len)

-- the length of what two stretches have in common
abbrev pub common : ℤ → ℤ → ℤ → ℤ → ℤ
common a a_len b b_len = int_max (pos 0) (int_min (a +ℤ a_len) (b +ℤ b_len) -ℤ int_max a b)

-- it begins at a place, and its length is a side
pub record IsStretch (from len : ℤ) : Type 0 where
  pub place : IsPlace from
  pub side : IsSide len

-- whether the rectangle holds the pixel at px, py
abbrev pub holds : Area → ℤ → ℤ → Bool
holds area px py = is_within area.x area.w px && is_within area.y area.h py

-- how many pixels the rectangle holds
abbrev pub size_of : Area → ℕ
size_of area = nat_abs area.w * nat_abs area.h

-- the rectangle without pixels
abbrev pub nowhere : Area
nowhere = record { x = pos 0; y = pos 0; w = pos 0; h = pos 0 }

-- the rectangle of the pixels that both hold
abbrev pub meet : Area → Area → Area
meet a b =
    let w = common a.x a.w b.x b.w in
    let h = common a.y a.h b.y b.h in
    if int_lt (pos 0) w && int_lt (pos 0) h then record { x = int_max a.x b.x; y = int_max a.y b.y; w = w; h = h } else nowhere

-- the rectangle at another place
abbrev pub moved_by : Area → ℤ → ℤ → Area
moved_by area dx dy = record area { x = area.x +ℤ dx; y = area.y +ℤ dy }

-- n is the sum, or it is no place where the sum is none
pub record IsShifted (from by n : ℤ) : Type 0 where
  pub place : is_place n ≡ is_place (from +ℤ by)
  pub sum : is_place n ≡ true → n ≡ from +ℤ by
