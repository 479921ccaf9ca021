-- Which places come near others, by their packed areas.
use Rattle.std.specs.Prelude.{◌≡◌, ℕ, ◌<◌, ◌≤◌, ℤ, pos, true, false, ◌&&◌, List, length, get_or, Option, Some}
use Rattle.ev_geom.specs.Area.{holds}
use Rattle.ev_model.specs.Look.{Look}
use Rattle.ev_areas.specs.Edges.{has_pixel_at}
use Rattle.ev_areas.specs.Packed.{nowhere}
use Rattle.ev_areas.specs.declared.edges.Edges.{Edges}
use Rattle.ev_damage.specs.Marked.{is_marked}
use Rattle.ev_records.specs.Showing.{Showing, showing}
use Rattle.ev_records.specs.Turned.{still, held_in}
use Rattle.ev_records.specs.Cells.{look_in, present_at, AreCells, shown}
use Rattle.ev_records.specs.declared.cell.Cell.{Cell}
use Rattle.ev_records.specs.declared.cell.Former.{Former}

-- these edges hold what the look, if there is one, has of the greatest canvas
pub record AreAround (o : Option Look) (e : Edges) : Type 0 where
  pub pixels : (l : Look) (x y : ℕ) → o ≡ Some l → x < 4096 → y < 4096 → holds l.area (pos x) (pos y) ≡ true → has_pixel_at e x y ≡ true

-- each place has edges around what it shows now
pub record HaveAreas (all : List Showing) (areas : List Edges) : Type 0 where
  pub long : length areas ≡ length all
  pub around : (place : ℕ) → AreAround (showing all place).now (get_or areas place nowhere)

-- what is kept of all places
pub record AreRecords (formers : List Former) (cells : List Cell) (edges : List Edges) : Type 0 where
  pub kept : AreCells formers cells
  pub areas : HaveAreas (shown formers cells) edges

-- all places are found that show the same as at the start before and have a pixel in common with one of a group that does so
pub record FindsNear (all : List Showing) (group found : List ℕ) : Type 0 where
  pub all_near : (a b : ℕ) (x y : ℤ) → is_marked group a ≡ true → held_in (still (showing all a)) x y ≡ true → held_in (still (showing all b)) x y ≡ true → is_marked found b ≡ true
  pub within : (b : ℕ) → is_marked found b ≡ true → b < length all

-- two places have no pixel in common that both showed and show the same
abbrev pub AreApart : List Showing → ℕ → ℕ → Type 0
AreApart all a b = (x y : ℤ) → (held_in (still (showing all b)) x y && held_in (still (showing all a)) x y) ≡ false

-- edges on the greatest canvas hold what these places have now of it
pub record IsAroundAll (cells : List Cell) (group : List ℕ) (e : Edges) : Type 0 where
  pub right : e.right ≤ 4096
  pub bottom : e.bottom ≤ 4096
  pub around : (place : ℕ) → is_marked group place ≡ true → AreAround (look_in (present_at cells place)) e
