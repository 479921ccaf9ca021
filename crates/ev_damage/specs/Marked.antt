-- Objects that are marked, since their records may differ.
use Rattle.std.specs.Prelude.{◌≡◌, ℕ, Bool, true, false, ◌||◌, ◌==◌, All, List}
use Rattle.std.specs.List.{list_any}
use Rattle.ev_model.specs.Look.{Look}
use Rattle.ev_damage.specs.Damage.{is_kept}

-- whether the id is one of these
abbrev pub is_marked : List ℕ → ℕ → Bool
is_marked ids id = list_any (λ k. k == id) ids

-- each look that the others do not have is of a marked object
pub record AreMarked (ids : List ℕ) (others looks : List Look) : Type 0 where
  pub kept : All (λ l. is_marked ids l.id ≡ false → is_kept others l ≡ true) looks

-- whether the look of this object may differ: of any object, or of a marked one
abbrev pub may_differ : Bool → List ℕ → ℕ → Bool
may_differ any ids id = any || is_marked ids id

-- each look that may not differ is one of the others
pub record AreKept (any : Bool) (ids : List ℕ) (others looks : List Look) : Type 0 where
  pub kept : All (λ l. may_differ any ids l.id ≡ false → is_kept others l ≡ true) looks
