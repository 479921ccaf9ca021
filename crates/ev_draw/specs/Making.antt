-- Planes on which patches are painted.
use Rattle.std.specs.Prelude.{◌≡◌, ℕ, ◌+◌, ◌-◌, ◌<◌, ◌≤◌, Bool, true, false, if◌then◌else◌, List, get_or, slice_index, ℤ, pos}
use Rattle.ev_model.specs.Look.{Look}
use Rattle.ev_argb.specs.Argb.{Argb, clear}
use Rattle.ev_argb.specs.Tile.{Tile, tile_at}
use Rattle.ev_model.specs.Paint.{put as put_pixel, put_sample, sample_at}
use Rattle.ev_model.specs.Glyphs.{Glyphs}
use Rattle.ev_model.specs.Sample.{sample, text_sample}
use Rattle.ev_model.specs.declared.object.Object.{Object}
use Rattle.ev_model.specs.declared.object.Op.{Op}
use Rattle.ev_cmds.specs.Masks.{is_set, has_bit, count_of}
use Rattle.ev_cmds.specs.Patches.{has_place, one, total, size_of}
use Rattle.ev_region.specs.Count.{sum_below}
use Rattle.ev_cmds.specs.Sheets.{put, put_all, op_of, patches_of, painted_looks, cost}
use Rattle.ev_cmds.specs.declared.patch.Patch.{Patch}
use Rattle.ev_cmds.specs.declared.sheet.Command.{Command}

-- The pixels of a patch are made out of those that were there, and all others are as they were. At most n pixels more count as painted.
pub record Paints (p : Patch) (make : ℕ → ℕ → Argb → Argb) (n : ℕ) (old new : Tile) : Type 0 where
  pub width : new.w ≡ old.w
  pub height : new.h ≡ old.h
  pub inside : (x y : ℕ) → x < old.w → y < old.h → has_place p x y ≡ true → tile_at new x y ≡ make x y (tile_at old x y)
  pub outside : (x y : ℕ) → x < old.w → y < old.h → has_place p x y ≡ false → tile_at new x y ≡ tile_at old x y
  pub count : new.painted ≤ old.painted + n

-- a patch lies in a plane of w by h
pub record LiesIn (p : Patch) (w h : ℕ) : Type 0 where
  pub across : p.left ≤ p.right
  pub right : p.right ≤ w
  pub down : p.top ≤ p.bottom
  pub bottom : p.bottom ≤ h

-- w columns from column x on, and h rows from row y on
abbrev pub rectangle : ℕ → ℕ → ℕ → ℕ → Patch
rectangle x y w h = record { left = x; right = x + w; top = y; bottom = y + h }

-- columns of one row
abbrev pub span : ℕ → ℕ → ℕ → Patch
span x y n = rectangle x y n 1

-- the rows of a patch above row y
abbrev pub above : Patch → ℕ → Patch
above p y = record p { bottom = y }

-- the pixel in column i of a row that begins in column x
abbrev pub pixel_of : List Argb → ℕ → ℕ → Argb
pixel_of row x i = get_or row (i - x) clear

-- the pixels are the places of a command
pub record CarriesOut (c : Command) (left top : ℕ) (old new : Tile) : Type 0 where
  pub width : new.w ≡ old.w
  pub height : new.h ≡ old.h
  pub pixels : (x y : ℕ) → x < old.w → y < old.h → tile_at new x y ≡ put c left top x y (tile_at old x y)
  pub count : new.painted ≤ old.painted + size_of c.patch

-- the same of several, of which the first is the topmost
pub record CarriesOutAll (commands : List Command) (left top : ℕ) (old new : Tile) : Type 0 where
  pub width : new.w ≡ old.w
  pub height : new.h ≡ old.h
  pub pixels : (x y : ℕ) → x < old.w → y < old.h → tile_at new x y ≡ put_all commands left top x y (tile_at old x y)
  pub count : new.painted ≤ old.painted + total (patches_of commands)

-- how many of the first n columns of a row are in a set
abbrev pub row_count : ℕ → ℕ → ℕ
row_count word n = sum_below n (λ x. one (is_set word x))

-- how many places of its first n rows a set has
abbrev pub rows_count : List ℕ → ℕ → ℕ
rows_count bare n = sum_below n (λ y. row_count (slice_index bare y) 64)

-- what clearing a set of columns makes of a value
abbrev pub cleared_in : ℕ → ℕ → ℕ → Argb → Argb
cleared_in word x y value = if is_set word x then clear else value

-- what clearing a set of places makes of a value
abbrev pub cleared_at : List ℕ → ℕ → ℕ → Argb → Argb
cleared_at bare x y value = if has_bit bare x y then clear else value

-- all places of a tile
abbrev pub whole : Patch
whole = record { left = 0; right = 64; top = 0; bottom = 64 }

-- the set columns of a word lie in a row that is w wide
abbrev pub LiesInRow : ℕ → ℕ → Type 0
LiesInRow w word = (x : ℕ) → x < 64 → is_set word x ≡ true → x < w

-- the pixels of the set are clear, all others as they were
pub record Clears (bare : List ℕ) (old new : Tile) : Type 0 where
  pub width : new.w ≡ old.w
  pub height : new.h ≡ old.h
  pub pixels : (x y : ℕ) → x < old.w → y < old.h → x < 64 → y < 64 → tile_at new x y ≡ cleared_at bare x y (tile_at old x y)
  pub count : new.painted ≤ old.painted + count_of bare

-- what a row of bits makes of a value: a colour is put where a bit is set
abbrev pub put_where : List Bool → Op → Argb → ℕ → ℕ → ℕ → Argb → Argb
put_where bits op color x i j value = if get_or bits (i - x) false then put_pixel op color value else value

-- row y of a patch
abbrev pub line_of : Patch → ℕ → Patch
line_of p y = record p { top = y; bottom = y + 1 }

-- what a command makes of a value at a place of its patch
abbrev pub shown_by : Command → ℕ → ℕ → ℕ → ℕ → Argb → Argb
shown_by c left top x y value = put_sample (op_of c) c.color (sample_at c.object.value (left + x) (top + y)) value

-- an object shows this text in this font
pub record ShowsText (o : Object) (font : Glyphs) (text : List ℕ) : Type 0 where
  pub samples : (w h i j : ℕ) → sample o.content w h i j ≡ text_sample font text i j

-- the samples of an object from its column i on are those of a text in this font from column x on
pub record ShowsFrom (o : Object) (i : ℕ) (font : Glyphs) (text : List ℕ) (x : ℕ) : Type 0 where
  pub samples : (w h k j : ℕ) → sample o.content w h (i + k) j ≡ text_sample font text (x + k) j

-- In the work region a plane at this place has what all looks paint on a clear canvas, elsewhere it has what it had, and no more
-- pixels count as painted than the tile may cost. Its size stays.
pub record IsDrawn (work : ℤ → ℤ → Bool) (looks : List Look) (left top : ℕ) (old new : Tile) : Type 0 where
  pub width : new.w ≡ old.w
  pub height : new.h ≡ old.h
  pub inside : (x y : ℕ) → x < old.w → y < old.h → work (pos (left + x)) (pos (top + y)) ≡ true → tile_at new x y ≡ painted_looks looks (left + x) (top + y) clear
  pub outside : (x y : ℕ) → x < old.w → y < old.h → work (pos (left + x)) (pos (top + y)) ≡ false → tile_at new x y ≡ tile_at old x y
  pub count : new.painted ≤ old.painted + cost work looks left top

-- a plane keeps its size, and at most n pixels more count as painted
pub record PaintsAtMost (n : ℕ) (old new : Tile) : Type 0 where
  pub width : new.w ≡ old.w
  pub height : new.h ≡ old.h
  pub count : new.painted ≤ old.painted + n
