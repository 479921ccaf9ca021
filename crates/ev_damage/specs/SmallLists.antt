-- Small lists of records for tests.
use Rattle.std.specs.Prelude.{◌≡◌, ℕ, All, List, map}
use Rattle.ev_geom.specs.Bands.{FitsRegion}
use Rattle.ev_model.specs.Look.{look_of}
use Rattle.ev_model.specs.declared.scene.Record.{Record}
use Rattle.ev_damage.specs.Marked.{AreMarked}
use Rattle.ev_damage.specs.Places.{HaveOwnIds}

-- the record of an object of this id, whose area a region has room for
pub record IsSmall (own : ℕ) (one : Record) : Type 0 where
  pub id : one.id ≡ own
  pub area : FitsRegion one.area

-- records of which the damage can be asked
pub record AreComparable (records : List Record) : Type 0 where
  pub ids : HaveOwnIds (map look_of records)
  pub areas : All (λ r. FitsRegion r.area) records

-- lists of records of which the damage can be asked, and which differ in objects of these ids alone
pub record DifferIn (ids : List ℕ) (old new : List Record) : Type 0 where
  pub old_comparable : AreComparable old
  pub new_comparable : AreComparable new
  pub old_marked : AreMarked ids (map look_of new) (map look_of old)
  pub new_marked : AreMarked ids (map look_of old) (map look_of new)
