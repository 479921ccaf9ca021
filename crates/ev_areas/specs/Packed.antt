-- Areas that take a word each.
use Rattle.std.specs.Prelude.{◌≡◌, ℕ, ◌+◌, ◌-◌, ◌*◌, ◌/◌, ◌%◌, ◌<◌, ◌≤◌, ◌⊎◌, Bool, true, ◌&&◌, nat_lt, if◌then◌else◌}
use Rattle.ev_areas.specs.Edges.{has_pixel_at}
use Rattle.ev_areas.specs.declared.edges.Edges.{Edges}

-- the greatest edge that finds room
abbrev pub most : ℕ
most = 8191

-- edges between which nothing lies
abbrev pub nowhere : Edges
nowhere = record { left = most; right = 0; top = most; bottom = 0 }

-- these edges, where a pixel lies between them
abbrev pub packed : Edges → Edges
packed e = if nat_lt e.left e.right && nat_lt e.top e.bottom then e else nowhere

-- whether both areas have a column and a row in common
abbrev pub meets : Edges → Edges → Bool
meets a b = nat_lt a.left b.right && nat_lt b.left a.right && (nat_lt a.top b.bottom && nat_lt b.top a.bottom)

-- a pixel lies between edges that find room
pub record IsArea (e : Edges) : Type 0 where
  pub wide : e.left < e.right
  pub tall : e.top < e.bottom
  pub right : e.right ≤ most
  pub bottom : e.bottom ≤ most

-- an area with pixels, or that without
abbrev pub IsPacked : Edges → Type 0
IsPacked e = IsArea e ⊎ (e ≡ nowhere)

-- areas have a pixel in common
pub record HaveCommon (a b : Edges) : Type 0 where
  pub column : ℕ
  pub row : ℕ
  pub first : has_pixel_at a column row ≡ true
  pub second : has_pixel_at b column row ≡ true

-- The lanes of a word, of 16 bits each, from the lowest: the first column, the first row, and how far the ends stand below the greatest edge.

abbrev pub unpacked : ℕ → Edges
unpacked word = record {
  left = word % 65536;
  top = word / 65536 % 65536;
  right = most - word / 4294967296 % 65536;
  bottom = most - word / 281474976710656;
}

abbrev pub word_of : Edges → ℕ
word_of e = e.left + e.top * 65536 + (most - e.right) * 4294967296 + (most - e.bottom) * 281474976710656

-- each lane keeps its limit, and the word stands for an area
pub record IsWord (word : ℕ) : Type 0 where
  pub left : word % 65536 ≤ most
  pub top : word / 65536 % 65536 ≤ most
  pub right : word / 4294967296 % 65536 ≤ most
  pub bottom : word / 281474976710656 ≤ most
  pub area : IsPacked (unpacked word)
