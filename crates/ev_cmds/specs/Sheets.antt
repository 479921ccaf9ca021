-- What is painted on a tile: by its commands, and by all records.
use Rattle.std.specs.Prelude.{◌≡◌, ℕ, ◌+◌, ◌<◌, ◌≤◌, ℤ, pos, Bool, true, false, not, ◌&&◌, if◌then◌else◌, List, [], ◌∷◌, map, fold, All, Option, Some, IsSome, ◌≤ℤ◌, ◌+ℤ◌}
use Rattle.std.specs.List.{AllByRecursion}
use Rattle.ev_argb.specs.Argb.{Argb, tint, IsPremultiplied}
use Rattle.ev_geom.specs.Area.{Area, holds}
use Rattle.ev_region.specs.Count.{sum_below}
use Rattle.ev_model.specs.Capture.{IsInside}
use Rattle.ev_model.specs.Limits.{IsObject}
use Rattle.ev_model.specs.Look.{Look, look_of}
use Rattle.ev_model.specs.Paint.{put as put_pixel, put_sample, sample_at, painted}
use Rattle.ev_model.specs.declared.object.Op.{Op}
use Rattle.ev_model.specs.declared.object.Op.TheVariants.{Copy}
use Rattle.ev_cmds.specs.Opaque.{is_hidden, opaque_area, replaces}
use Rattle.ev_cmds.specs.Masks.{has_bit}
use Rattle.ev_cmds.specs.Patches.{has_place, one, times, IsPatch}
use Rattle.ev_cmds.specs.declared.patch.Patch.{Patch}
use Rattle.ev_cmds.specs.declared.sheet.Command.{Command}
use Rattle.ev_cmds.specs.declared.sheet.Sheet.{Sheet}
use Rattle.ev_model.specs.declared.scene.Record.{Record}

-- the command of a record on a patch
abbrev pub command_of : Record → Bool → Patch → Command
command_of r replaces p = record { patch = p; color = r.color; replaces = replaces; object = r.object }

-- what replaces everything is copied
abbrev pub op_of : Command → Op
op_of c = if c.replaces then Copy else c.object.value.op

-- A place of a tile is its column x and row y there; `left` and `top` are the place of the tile itself.

-- a value at a place, once a command was carried out
abbrev pub put : Command → ℕ → ℕ → ℕ → ℕ → Argb → Argb
put c left top x y value =
    if has_place c.patch x y then put_sample (op_of c) c.color (sample_at c.object.value (left + x) (top + y)) value else value

-- a value at a place, once commands were carried out, of which the first is the topmost
unfoldable pub put_all : List Command → ℕ → ℕ → ℕ → ℕ → Argb → Argb
put_all [] left top x y value = value
put_all (c ∷ below) left top x y value = put c left top x y (put_all below left top x y value)

-- a value at a place of the canvas, once looks were painted there, the lowest first
abbrev pub painted_looks : List Look → ℕ → ℕ → Argb → Argb
painted_looks looks x y value = fold (λ value l. painted l x y value) value looks

-- how many looks cover a place and don't lie below one that replaces everything there
unfoldable pub layers : List Look → ℕ → ℕ → ℕ
layers [] x y = 0
layers (l ∷ above) x y = one (holds l.area (pos x) (pos y) && not (is_hidden above x y)) + layers above x y

-- what a place may cost: it is cleared, and each of these looks is painted once
abbrev pub cost_at : (ℤ → ℤ → Bool) → List Look → ℕ → ℕ → ℕ
cost_at work looks x y = if work (pos x) (pos y) then 1 + layers looks x y else 0

-- what the places of a tile may cost
abbrev pub cost : (ℤ → ℤ → Bool) → List Look → ℕ → ℕ → ℕ
cost work looks left top = sum_below 64 (λ y. sum_below 64 (λ x. cost_at work looks (left + x) (top + y)))

-- the patches of commands
abbrev pub patches_of : List Command → List Patch
patches_of commands = map (λ c. c.patch) commands

-- a value is put in place of every premultiplied one
pub record IsSolid (op : Op) (color : Argb) (found : Option Argb) : Type 0 where
  pub pixel : Argb
  pub is : found ≡ Some pixel
  pub hides : (value : Argb) → IsPremultiplied value → put_pixel op (tint pixel color) value ≡ tint pixel color

-- a look takes premultiplied values to such values, and where it replaces everything it has a sample that hides each of them
pub record IsPaintable (l : Look) : Type 0 where
  pub keeps : (x y : ℕ) (value : Argb) → IsPremultiplied value → IsPremultiplied (painted l x y value)
  pub solid : (x y : ℕ) → holds (opaque_area l) (pos x) (pos y) ≡ true → IsSolid l.object.op l.color (sample_at l.object x y)

-- The commands of a tile paint, in a set of pixels, all that these looks paint, and nothing elsewhere. Its bare places are those of the set where nothing hides what lies below.
pub record Shows (work : ℤ → ℤ → Bool) (looks : List Look) (left top : ℕ) (bare : List ℕ) (commands : List Command) : Type 0 where
  pub bare_places : (x y : ℕ) → x < 64 → y < 64 →
      has_bit bare x y ≡ (work (pos (left + x)) (pos (top + y)) && not (is_hidden looks (left + x) (top + y)))
  pub inside : (x y : ℕ) (value : Argb) → x < 64 → y < 64 → work (pos (left + x)) (pos (top + y)) ≡ true → IsPremultiplied value →
      put_all commands left top x y value ≡ painted_looks looks (left + x) (top + y) value
  pub hidden : (x y : ℕ) (a b : Argb) → x < 64 → y < 64 → work (pos (left + x)) (pos (top + y)) ≡ true → is_hidden looks (left + x) (top + y) ≡ true →
      put_all commands left top x y a ≡ put_all commands left top x y b
  pub outside : (x y : ℕ) (value : Argb) → x < 64 → y < 64 → work (pos (left + x)) (pos (top + y)) ≡ false →
      put_all commands left top x y value ≡ value
  pub command_places : (x y : ℕ) → x < 64 → y < 64 →
      times (patches_of commands) x y ≡ (if work (pos (left + x)) (pos (top + y)) then layers looks (left + x) (top + y) else 0)

-- a command's patch lies in a plane of w by h at this place, and in the rectangle of its object; what replaces everything has a sample at each place
pub record Fits (left top w h : ℕ) (c : Command) : Type 0 where
  pub patch : IsPatch c.patch
  pub right : c.patch.right ≤ w
  pub bottom : c.patch.bottom ≤ h
  pub column : left + c.patch.right ≤ 4160
  pub row : top + c.patch.bottom ≤ 4160
  pub from_left : c.object.value.rect.x ≤ℤ pos (left + c.patch.left)
  pub to_right : pos (left + c.patch.right) ≤ℤ (c.object.value.rect.x +ℤ c.object.value.rect.w)
  pub from_top : c.object.value.rect.y ≤ℤ pos (top + c.patch.top)
  pub to_bottom : pos (top + c.patch.bottom) ≤ℤ (c.object.value.rect.y +ℤ c.object.value.rect.h)
  pub limits : IsObject c.object.value
  pub full : c.replaces ≡ true → (x y : ℕ) → has_place c.patch x y ≡ true → IsSome (sample_at c.object.value (left + x) (top + y))

-- the bare places of a sheet lie on a plane of w by h
pub record LiesOn (w h : ℕ) (bare : List ℕ) : Type 0 where
  pub right : (x y : ℕ) → x < 64 → y < 64 → has_bit bare x y ≡ true → x < w
  pub bottom : (x y : ℕ) → x < 64 → y < 64 → has_bit bare x y ≡ true → y < h

-- a sheet of a plane of w by h at this place
pub record IsSheetOn (left top w h : ℕ) (sheet : Sheet) : Type 0 where
  pub bare : LiesOn w h sheet.bare
  pub commands : All (Fits left top w h) sheet.commands.items

-- a patch is what the tile at this place sees of an area, in the work region
pub record Sees (work : ℤ → ℤ → Bool) (area : Area) (left top : ℕ) (patch : Patch) : Type 0 where
  pub places : (x y : ℕ) → x < 64 → y < 64 → work (pos (left + x)) (pos (top + y)) ≡ true → has_place patch x y ≡ holds area (pos (left + x)) (pos (top + y))

-- a patch has only places of an area, on a plane of w by h of the tile at this place
pub record LiesInArea (left top w h : ℕ) (area : Area) (patch : Patch) : Type 0 where
  pub column : left ≤ 4096
  pub row : top ≤ 4096
  pub right : patch.right ≤ w
  pub bottom : patch.bottom ≤ h
  pub held : (x y : ℕ) → has_place patch x y ≡ true → holds area (pos (left + x)) (pos (top + y)) ≡ true

-- Wherever the old commands fitted, the new ones do, with those of a record of whose area the tile sees a patch.
pub record StillFit (r : Record) (area : Patch) (commands new_commands : List Command) : Type 0 where
  pub more : (left top w h : ℕ) → IsPaintable (look_of r) → IsInside r.object.value.rect r.area → IsObject r.object.value → LiesInArea left top w h r.area area
      → All (Fits left top w h) commands → All (Fits left top w h) new_commands

-- Whatever looks the old bare places and commands showed, the new ones show these and a record below them, of which the tile sees a patch.
pub record StillShows (r : Record) (area : Patch) (bare : List ℕ) (commands : List Command) (new_bare : List ℕ) (new_commands : List Command) : Type 0 where
  pub more : (work : ℤ → ℤ → Bool) (above : List Look) (left top : ℕ) → IsPaintable (look_of r) → AllByRecursion IsPaintable above → Sees work r.area left top area
      → Shows work above left top bare commands → Shows work (look_of r ∷ above) left top new_bare new_commands
