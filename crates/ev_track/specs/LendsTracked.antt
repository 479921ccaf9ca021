-- A state that is lent to be written to.
use Rattle.std.specs.Prelude.{ℕ, Option, Some}
use Rattle.std.specs.Borrow.{LendsIf, MutBor, Fml, RattleType}
use Rattle.ev_state.specs.Held.{Held}
use Rattle.ev_state.specs.contracts.shared.Shared.{the_row as shared_row}
use Rattle.ev_slots.specs.Slots.{put}
use Rattle.ev_track.specs.Tracks.{Tracks}
use Rattle.ev_track.specs.contracts.tracked.Tracked.{the_row}

-- the things with another state for an id
abbrev pub with_state : {T : Type 0} → Tracks T → ℕ → Held T → Tracks T
with_state t id state = record t { slots = put t.slots id (Some state) }

-- the things end with the last state written through the answer for this id; where there is none they are as before
abbrev pub LendsTracked : (T : RattleType) → MutBor (Tracks T.Denot) → ℕ → Option (MutBor (Held T.Denot)) → Fml
LendsTracked T t id result = LendsIf (the_row T) (shared_row T) t result (with_state t.now id) t.now
