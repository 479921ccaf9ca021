-- What is kept of places, and how it stands for what they show.
use Rattle.std.specs.Prelude.{◌≡◌, ℕ, ◌<◌, List, map, length, get_or, Option, Some, None, ⊤, option_map}
use Rattle.ev_model.specs.Look.{Look, look_of}
use Rattle.ev_model.specs.declared.scene.Record.{Record}
use Rattle.ev_records.specs.Showing.{Showing, HavePlaces, IsNewElsewhere}
use Rattle.ev_records.specs.declared.cell.Cell.{Cell}
use Rattle.ev_records.specs.declared.cell.Former.{Former}

abbrev pub look_in : Option Record → Option Look
look_in one = option_map look_of one

-- a record may stand in this place
abbrev pub MayStand : List Showing → ℕ → Option Record → Type 0
MayStand all place None = ⊤
MayStand all place (Some r) = IsNewElsewhere all place (look_of r)

abbrev pub no_former : Former
no_former = record { place = 0; was = None }

abbrev pub former_at : List Former → ℕ → Former
former_at formers k = get_or formers k no_former

-- the record of the start before: what is kept of it, or else that of now
abbrev pub or_kept : List Former → Option ℕ → Option Record → Option Record
or_kept formers None present = present
or_kept formers (Some k) present = (former_at formers k).was

abbrev pub before_of : List Former → Cell → Option Record
before_of formers c = or_kept formers c.mark c.present

abbrev pub showing_of : List Former → Cell → Showing
showing_of formers c = record { was = look_in (before_of formers c); now = look_in c.present }

-- what all places show
abbrev pub shown : List Former → List Cell → List Showing
shown formers cells = map (showing_of formers) cells

abbrev pub places_of : List Former → List ℕ
places_of formers = map (λ f. f.place) formers

-- a mark and what is kept of its place lead to each other
pub record AreTied (formers : List Former) (cells : List Cell) : Type 0 where
  pub kept : (place k : ℕ) (d : Cell) → place < length cells → (get_or cells place d).mark ≡ Some k → (k < length formers) × ((former_at formers k).place ≡ place)
  pub marked : (k : ℕ) (d : Cell) → k < length formers → ((former_at formers k).place < length cells) × ((get_or cells (former_at formers k).place d).mark ≡ Some k)

-- what is kept of all places
pub record AreCells (formers : List Former) (cells : List Cell) : Type 0 where
  pub places : HavePlaces (shown formers cells)
  pub tied : AreTied formers cells

abbrev pub empty_cell : Cell
empty_cell = record { present = None; mark = None }

-- what a place has now
abbrev pub present_at : List Cell → ℕ → Option Record
present_at cells place = (get_or cells place empty_cell).present

abbrev pub settled_cell : Cell → Cell
settled_cell c = record { present = c.present; mark = None }

-- what places have now stays, and nothing else is kept
pub record AreSettled (old new : List Cell) : Type 0 where
  pub same : map (λ c. c.present) new ≡ map (λ c. c.present) old
  pub none : (place : ℕ) (d : Cell) → place < length new → (get_or new place d).mark ≡ None
