-- What a table keeps between calls.
use Rattle.std.specs.Prelude.{◌≡◌, ℕ, Some}
use Rattle.ev_links.specs.declared.table.Table.{Table}
use Rattle.ev_links.specs.Ties.{clipper_at, Counts, IsSound}
use Rattle.ev_links.specs.Tables.{tie_in, clips_in}

-- each object counts those that it clips
abbrev pub IsCounted : Table → Type 0
IsCounted table = (id n : ℕ) → clips_in table id ≡ Some n → Counts (clipper_at (tie_in table)) id n

-- what holds of a table in every state
pub record IsKept (table : Table) : Type 0 where
  pub sound : IsSound (tie_in table)
  pub counted : IsCounted table
