-- Tiles: the squares of 64 by 64 pixels from 0, 0, counted from left to right and then downwards.
use Rattle.std.specs.Prelude.{ℕ, ◌+◌, ◌*◌, ◌/◌, ◌%◌, Bool, List, filter, ℤ, pos}
use Rattle.std.specs.List.{list_any, range_with_len}

-- how many tiles stand side by side along this length
abbrev pub tiles_along : ℕ → ℕ
tiles_along length = (length + 63) / 64

-- whether tile t holds a pixel of the set, where `across` tiles stand side by side
unfoldable pub holds_tile : (ℤ → ℤ → Bool) → ℕ → ℕ → Bool
holds_tile set across t =
    list_any (λ k. set (pos (t % across * 64 + k % 64)) (pos (t / across * 64 + k / 64))) (range_with_len 0 4096)

-- the tiles of a canvas of w by h that hold a pixel of the set
abbrev pub jobs_of : (ℤ → ℤ → Bool) → ℕ → ℕ → List ℕ
jobs_of set w h = filter (holds_tile set (tiles_along w)) (range_with_len 0 (tiles_along h * tiles_along w))
