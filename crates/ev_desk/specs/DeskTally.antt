-- The rule of the desk over the words of its places and the numbers of all seats.
-- A word is 0 where the place is free, 1 asked, 2 taken by the loader, 3 ended, 4 closed, and 5 ended with a fault.
use Rattle.std.specs.Prelude.{◌≡◌, ◌⊎◌, ℕ, ◌+◌, ◌<◌, ◌≤◌, ◌==◌, cond, List, [], length, replicate, None}
use mathlib.Core.Option.{some}
use lib.ListN.{get_elem?}
use Rattle.ev_seats.specs.Weights.{total, is_of}
use Rattle.ev_desk.specs.declared.view.Role.{Role}
use Rattle.ev_desk.specs.declared.view.Role.TheVariants.{Asker, Loader, Spent}
use Rattle.ev_desk.specs.declared.view.Stage.{Stage}
use Rattle.ev_desk.specs.declared.view.Stage.TheVariants.{Free, Asked, Ended, Closed}
use Rattle.ev_desk.specs.declared.view.Spot.{Spot}
use Rattle.ev_desk.specs.declared.view.Try.{Try}
use Rattle.ev_desk.specs.declared.view.AskerView.{AskerView}
use Rattle.ev_desk.specs.declared.view.LoaderView.{LoaderView}
use Rattle.ev_desk.specs.declared.view.Counts.{Counts}

abbrev pub is_asker : Role → ℕ
is_asker Asker = 1
is_asker Loader = 0
is_asker Spent = 0

abbrev pub is_loader : Role → ℕ
is_loader Asker = 0
is_loader Loader = 1
is_loader Spent = 0

abbrev pub is_fault : ℕ → ℕ
is_fault word = cond (word == 5) 1 0

abbrev pub is_taken : ℕ → ℕ
is_taken word = cond (word == 2) 1 0

-- how many of these seats hold the place
abbrev pub holders : ℕ → List Counts → ℕ
holders place views = total (λ v. is_of place v.loader.held) views

-- how many ends with a fault these seats gave
abbrev pub faults_in : List Counts → ℕ
faults_in views = total (λ v. v.loader.faults) views

abbrev pub loaders_in : List Counts → ℕ
loaders_in views = total (λ v. is_loader v.role) views

-- an end lies there
abbrev pub IsEnd : ℕ → Type 0
IsEnd word = (word ≡ 3) ⊎ (word ≡ 5)

-- the words that a place of this stage may have, where its last look found `seen`
abbrev pub Fits : Stage → ℕ → ℕ → Type 0
Fits Free seen word = word ≡ 0
Fits Asked seen word = (word ≡ 1) ⊎ (word ≡ 2) ⊎ IsEnd word
Fits Ended seen word = (word ≡ seen) × IsEnd word
Fits Closed seen word = word ≡ 4

-- the asker's part
pub record Asks (places : List ℕ) (faults loaders own : ℕ) (a : AskerView) : Type 0 where
  pub many : length a.spots ≡ 64
  pub fits : (p word : ℕ) (x : Spot) → get_elem? places p ≡ some word → get_elem? a.spots p ≡ some x → Fits x.stage x.word word
  -- each fault that was given was taken or lies on a place
  pub counted : total is_fault places + a.taken ≡ faults
  pub loaders_are : loaders ≡ a.loaders
  pub few : a.loaders ≤ 1
  -- until the loader is joined, the faults given are the loader's
  pub unjoined : 0 < a.loaders → own ≡ 0

pub record Tally (places : List ℕ) (views : List Counts) : Type 0 where
  pub long : length places ≡ 64
  pub one_asker : total (λ v. is_asker v.role) views ≡ 1
  pub asks : (k : ℕ) (v : Counts) → get_elem? views k ≡ some v → v.role ≡ Asker → Asks places (faults_in views) (loaders_in views) v.loader.faults v.asker
  -- a word is 2 exactly where one seat holds the place
  pub held : (p word : ℕ) → get_elem? places p ≡ some word → is_taken word ≡ holders p views
  -- a seat that was joined holds nothing any more
  pub spent : (k : ℕ) (v : Counts) → get_elem? views k ≡ some v → v.role ≡ Spent → (v.loader.held ≡ None) × (v.loader.faults ≡ 0)

abbrev pub free_spot : Spot
free_spot = record { stage = Free; word = 0; looks = 0 }

abbrev pub no_try : Try
no_try = record { count = 0; found = 0 }

abbrev pub blank_loader : LoaderView
blank_loader = record { tries = replicate 64 no_try; held = None; faults = 0 }

-- the asker of a desk that was just made
abbrev pub opening_counts : Counts
opening_counts = record { role = Asker; asker = record { spots = replicate 64 free_spot; taken = 0; loaders = 0 }; loader = blank_loader }

abbrev pub new_loader : Counts
new_loader = record { role = Loader; asker = record { spots = []; taken = 0; loaders = 0 }; loader = blank_loader }

-- what a join leaves of the loader
abbrev pub spent_counts : Counts
spent_counts = record { role = Spent; asker = record { spots = []; taken = 0; loaders = 0 }; loader = blank_loader }
