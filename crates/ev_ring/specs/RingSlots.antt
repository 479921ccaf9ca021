-- The rule of the ring over its words, its slots and the views of all seats. The slot of a ticket is the ticket modulo 4,096.
use Rattle.std.specs.Prelude.{◌≡◌, ◌≢◌, ℕ, ◌+◌, ◌%◌, ◌<◌, ◌≤◌, List, [], ◌∷◌, map, length, Option, Some, None, true}
use mathlib.Core.Option as maybe
use lib.ListN.{get_elem?}
use Rattle.atomic_table.specs.Table.{State}
use Rattle.ev_seats.specs.Weights.{total, is_of}
use Rattle.ev_seats.specs.Homes.{Homes, IsOut, IsBlank, IsHome}
use Rattle.ev_ring.specs.Tally.{Tally, opening_view as opening_counts, spent_view as spent_counts}
use Rattle.ev_seats.specs.Jobs.{job_of}
use Rattle.ev_ring.specs.declared.view.Role.TheVariants.{Owner}
use Rattle.ev_ring.specs.declared.view.View.{View}
use Rattle.ev_ring.specs.declared.view.Entry.{Entry}
use Rattle.ev_ring.specs.declared.view.Entry.TheVariants.{Waiting, Finished}

-- what a slot holds, if anything
abbrev pub Slot : Type 0 → Type 0 → Type 0
Slot J D = Option (Entry J D)

abbrev pub counts_of : {J : Type 0} → View J → Rattle.ev_ring.specs.declared.view.Counts.Counts
counts_of v = v.counts

-- the words of the table. Seven that nothing uses lie between any two of them, so that no two share 64 bytes
abbrev pub spread : ℕ → ℕ → ℕ → ℕ → List ℕ
spread limit claim done bell =
    limit ∷ 0 ∷ 0 ∷ 0 ∷ 0 ∷ 0 ∷ 0 ∷ 0
    ∷ claim ∷ 0 ∷ 0 ∷ 0 ∷ 0 ∷ 0 ∷ 0 ∷ 0
    ∷ done ∷ 0 ∷ 0 ∷ 0 ∷ 0 ∷ 0 ∷ 0 ∷ 0
    ∷ bell ∷ []

abbrev pub slot_of : ℕ → ℕ
slot_of ticket = ticket % 4096

-- how many of these seats hold the ticket
abbrev pub holders : {J : Type 0} → ℕ → List (View J) → ℕ
holders ticket views = total (λ v. is_of ticket v.counts.hand.held) views

-- no job's ticket has this slot
abbrev pub IsFree : {J : Type 0} → List (ℕ × J) → ℕ → Type 0
IsFree {J} jobs i = (ticket : ℕ) (job : J) → job_of ticket jobs ≡ Some job → slot_of ticket ≢ i

-- the slots, by the jobs that the owner knows and the slot that it has out
pub record Shelf {J D : Type 0} (belongs : J → D → Type 0) (limit claim : ℕ) (homes : Homes (Entry J D)) (views : List (View J)) (jobs : List (ℕ × J)) (out : Option ℕ) : Type 0 where
  -- the tickets lie among 4,096 neighbouring numbers, so no two share a slot
  pub near : (t u : ℕ) (j k : J) → job_of t jobs ≡ Some j → job_of u jobs ≡ Some k → t < u + 4096
  -- each ticket that can be claimed has a job, which waits in its slot
  pub published : (t : ℕ) → claim ≤ t → t < limit → (j : J) × (job_of t jobs ≡ Some j)
  pub waiting : (t : ℕ) (j : J) → job_of t jobs ≡ Some j → claim ≤ t → IsHome homes (slot_of t) (Waiting t j)
  -- the slot of a ticket that is held is out with its holder, who knows the job
  pub held : (k : ℕ) (v : View J) (t : ℕ) → get_elem? views k ≡ maybe.some v → v.counts.hand.held ≡ Some t → (j : J) × (job_of t jobs ≡ Some j) × (v.job ≡ Some j) × IsOut homes (slot_of t)
  -- the slot of a ticket that was given back has what belongs to the job
  pub finished : (t : ℕ) (j : J) → job_of t jobs ≡ Some j → t < claim → holders t views ≡ 0 → (d : D) × IsHome homes (slot_of t) (Finished t d) × belongs j d
  -- any other slot is empty, or out with the owner
  pub idle : (i : ℕ) → i < 4096 → IsFree jobs i → out ≢ Some i → IsBlank homes i
  pub lent : (i : ℕ) → out ≡ Some i → IsFree jobs i × IsOut homes i

pub record Ring {J D : Type 0} (belongs : J → D → Type 0) (s : State (Slot J D) (View J)) : Type 0 where
  pub limit : ℕ
  pub claim : ℕ
  pub done : ℕ
  -- the bell, of which nothing is known. Hands rest on it
  pub bell : ℕ
  pub words_are : s.words ≡ spread limit claim done bell
  pub tally : Tally limit claim done (map counts_of s.views)
  pub many : length s.homes ≡ 4096
  pub chair : ℕ
  pub owner : View J
  pub sits : get_elem? s.views chair ≡ maybe.some owner
  pub leads : owner.counts.role ≡ Owner
  -- only a quiet owner has a slot out
  pub still : (i : ℕ) → owner.out ≡ Some i → owner.counts.owner.is_quiet ≡ true
  pub shelf : Shelf belongs owner.counts.owner.limit claim s.homes s.views owner.jobs owner.out

abbrev pub opening_view : {J : Type 0} → View J
opening_view = record { counts = opening_counts; job = None; jobs = []; out = None }

abbrev pub spent_view : {J : Type 0} → View J
spent_view = record { counts = spent_counts; job = None; jobs = []; out = None }

-- the slots that a seat has out between its calls: that of the ticket that it holds, which it emptied
abbrev pub carried_by : {J D : Type 0} → Option ℕ → List (ℕ × Slot J D)
carried_by None = []
carried_by (Some ticket) = (slot_of ticket, None) ∷ []
