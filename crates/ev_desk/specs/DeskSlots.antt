-- The rule of the desk over its words, its slots and the views of all seats. Place p has word 8 p and slot p. The last word is the bell.
use Rattle.std.specs.Prelude.{◌≡◌, ◌≢◌, ℕ, ◌/◌, Bool, true, false, List, [], ◌∷◌, ◌++◌, map, length, Option, Some, None}
use mathlib.Core.Option as maybe
use lib.ListN.{get_elem?}
use Rattle.atomic_table.specs.Table.{State}
use Rattle.ev_seats.specs.Jobs.{job_of}
use Rattle.ev_seats.specs.Homes.{Homes, IsOut, IsBlank, IsHome}
use Rattle.ev_desk.specs.DeskTally.{IsEnd, Tally, opening_counts, new_loader, spent_counts}
use Rattle.ev_desk.specs.declared.view.Role.TheVariants.{Asker}
use Rattle.ev_desk.specs.declared.view.Stage.{Stage}
use Rattle.ev_desk.specs.declared.view.Stage.TheVariants.{Asked, Ended}
use Rattle.ev_desk.specs.declared.view.Spot.{Spot}
use Rattle.ev_desk.specs.declared.view.Counts.{Counts}
use Rattle.ev_desk.specs.declared.view.View.{View}
use Rattle.ev_desk.specs.declared.view.Entry.{Entry}
use Rattle.ev_desk.specs.declared.view.Entry.TheVariants.{Waiting, Finished}

-- the words of places lie in the table so. Seven that nothing uses come after each, so that no two share 64 bytes
abbrev pub spread : List ℕ → List ℕ
spread [] = []
spread (word ∷ words) = word ∷ 0 ∷ 0 ∷ 0 ∷ 0 ∷ 0 ∷ 0 ∷ 0 ∷ spread words

-- the place that a word of the table is of
unfoldable pub place_of : ℕ → ℕ
place_of i = i / 8

-- what a slot holds, if anything
abbrev pub Slot : Type 0 → Type 0 → Type 0
Slot J E = Option (Entry J E)

abbrev pub counts_of : {J : Type 0} → View J → Counts
counts_of v = v.counts

-- the word of an end: 5 exactly where it is a fault
abbrev pub end_word : Bool → ℕ
end_word true = 5
end_word false = 3

-- the slot of one place, by how the asker has the place and by its word
pub record Lies {J E : Type 0} (belongs : J → E → Type 0) (faulty : E → Bool) (homes : Homes (Entry J E)) (jobs : List (ℕ × J)) (out : Option ℕ) (p : ℕ) (stage : Stage) (word : ℕ) : Type 0 where
  -- a job that waits is at home
  pub waiting : word ≡ 1 → (j : J) × (job_of p jobs ≡ Some j) × IsHome homes p (Waiting j)
  -- one that was taken is out
  pub busy : word ≡ 2 → (j : J) × (job_of p jobs ≡ Some j) × IsOut homes p
  -- one that was ended is at home with an end that belongs to it
  pub finished : stage ≡ Asked → IsEnd word → (j : J) × (e : E) × (job_of p jobs ≡ Some j) × IsHome homes p (Finished j e) × belongs j e × (word ≡ end_word (faulty e))
  -- any other slot is empty, or out with the asker
  pub idle : stage ≢ Asked → out ≢ Some p → IsBlank homes p
  pub lent : out ≡ Some p → (stage ≢ Asked) × IsOut homes p
  pub known : stage ≡ Ended → (j : J) × (job_of p jobs ≡ Some j)

-- the slots, by what the asker has of the places
pub record Shelf {J E : Type 0} (belongs : J → E → Type 0) (faulty : E → Bool) (places : List ℕ) (homes : Homes (Entry J E)) (views : List (View J)) (spots : List Spot) (jobs : List (ℕ × J)) (out : Option ℕ) : Type 0 where
  pub lies : (p word : ℕ) (x : Spot) → get_elem? places p ≡ maybe.some word → get_elem? spots p ≡ maybe.some x → Lies belongs faulty homes jobs out p x.stage word
  -- a seat that holds a place knows its job
  pub knows : (k p : ℕ) (u : View J) → get_elem? views k ≡ maybe.some u → u.counts.loader.held ≡ Some p → u.job ≡ job_of p jobs

pub record Desk {J E : Type 0} (belongs : J → E → Type 0) (faulty : E → Bool) (s : State (Slot J E) (View J)) : Type 0 where
  pub places : List ℕ
  -- the bell, of which nothing is known. The loader rests on it
  pub bell : ℕ
  pub words_are : s.words ≡ spread places ++ bell ∷ []
  pub tally : Tally places (map counts_of s.views)
  pub many : length s.homes ≡ 64
  pub chair : ℕ
  pub asker : View J
  pub sits : get_elem? s.views chair ≡ maybe.some asker
  pub leads : asker.counts.role ≡ Asker
  pub shelf : Shelf belongs faulty places s.homes s.views asker.counts.asker.spots asker.jobs asker.out

abbrev pub opening_view : {J : Type 0} → View J
opening_view = record { counts = opening_counts; jobs = []; asked = []; back = []; out = None; job = None }

abbrev pub loader_view : {J : Type 0} → View J
loader_view = record { counts = new_loader; jobs = []; asked = []; back = []; out = None; job = None }

abbrev pub spent_view : {J : Type 0} → View J
spent_view = record { counts = spent_counts; jobs = []; asked = []; back = []; out = None; job = None }

-- the slots that a seat has out between its calls: that of the place that it holds, which it emptied
abbrev pub carried_by : {J E : Type 0} → Option ℕ → List (ℕ × Slot J E)
carried_by None = []
carried_by (Some place) = (place, None) ∷ []
