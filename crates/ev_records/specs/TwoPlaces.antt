-- Two places for tests.
use Rattle.std.specs.Prelude.{◌≡◌, ℕ, ◌%◌, List, length, ⊤, Option, Some, None}
use Rattle.ev_model.specs.Look.{Look}
use Rattle.ev_model.specs.declared.scene.Record.{Record}
use Rattle.ev_records.specs.Showing.{Showing, showing, Shows, IsOnCanvas}
use Rattle.ev_records.specs.Standing.{Standings}

-- a record of this object, on the canvas
pub record IsSmall (own : ℕ) (one : Record) : Type 0 where
  pub id : one.id ≡ own
  pub area : IsOnCanvas one.area

-- so is it, if there is one
abbrev pub MayBeSmall : ℕ → Option Record → Type 0
MayBeSmall own None = ⊤
MayBeSmall own (Some one) = IsSmall own one

-- two places with numbers, each of objects whose ids end with its digit
pub record IsBoard (all : List Showing) (st : Standings) : Type 0 where
  pub places : length all ≡ 2
  pub ranks : length st.stands ≡ 2
  pub ids : (place : ℕ) (l : Look) → Shows (showing all place) l → l.id % 10 ≡ place
