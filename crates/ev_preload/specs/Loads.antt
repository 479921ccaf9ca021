-- The running preloads, and what begins, holds and ends them.
use Rattle.std.specs.Prelude.{◌≡◌, ℕ, ◌+◌, ◌<◌, ◌≤◌, Bool, false, ◌==◌, ◌&&◌, not, nat_le, List, [], ◌∷◌, ◌++◌, length, filter, find, slice_get, Option, Some, None, IfSome, is_some, is_none, Result, Ok, Err, if◌then◌else◌}
use Rattle.std.specs.List.{list_any, AllByRecursion}
use Rattle.std.specs.Option.{option_map, option_map_or}
use Rattle.ev_model.specs.declared.content.Kind.{Kind}
use Rattle.ev_model.specs.declared.content.Kind.TheVariants as kinds
use Rattle.ev_model.specs.declared.refusal.Refusal.{Refusal}
use Rattle.ev_model.specs.declared.refusal.Refusal.TheVariants.{NoFile, Loading, NotLoading, Full}
use Rattle.ev_preload.specs.Job.{Job}
use Rattle.ev_preload.specs.declared.end.LoadEnd.{LoadEnd}
use Rattle.ev_preload.specs.declared.end.LoadEnd.TheVariants.{Done, Font}
use Rattle.ev_preload.specs.declared.preload.Preload.{Preload}

-- the running preloads in the order of beginnings, and how many began so far
pub record Loads : Type 0 where
  pub running : List Preload
  pub begun : ℕ

-- whether a preload is for the object of this id
abbrev pub is_for : ℕ → Preload → Bool
is_for id preload = preload.job.id == id

-- whether a preload has this number, and no end is held for it
abbrev pub is_open : ℕ → Preload → Bool
is_open number preload = (preload.job.number == number) && is_none preload.end

-- whether a preload has this number, and an end is held for it
abbrev pub is_held : ℕ → Preload → Bool
is_held number preload = (preload.job.number == number) && is_some preload.end

-- a beginning: the job of the next number, or the first refusal
abbrev pub begun_job : Loads → ℕ → List ℕ → Kind → Option (List ℕ) → Result Job Refusal
begun_job loads id name kind None = Err NoFile
begun_job loads id name kind (Some key) =
    if list_any (is_for id) loads.running then Err Loading
    else if nat_le 64 (length loads.running) then Err Full
    else Ok (record { number = loads.begun + 1; id = id; name = name; kind = kind; key = key })

-- after a beginning its job runs, and no end is held for it; a refusal changes nothing
abbrev pub after_begin : Loads → Result Job Refusal → Loads
after_begin loads (Ok job) = record { running = loads.running ++ record { job = job; end = None } ∷ []; begun = loads.begun + 1 }
after_begin loads (Err cause) = loads

-- an image is for an image object, and a font for a text object
abbrev pub FitsKind : Kind → LoadEnd → Type 0
FitsKind kind (Done image) = kind ≡ kinds.Image
FitsKind kind (Font font) = kind ≡ kinds.Text
FitsKind kind end = Unit {0}

-- the end that is held for a preload fits it
abbrev pub HeldFits : Preload → Type 0
HeldFits preload = IfSome preload.end (λ end. FitsKind preload.job.kind end)

-- an end fits the preload of this number, where that runs
abbrev pub Suits : List Preload → ℕ → LoadEnd → Type 0
Suits running number end = AllByRecursion (λ preload. preload.job.number ≡ number → FitsKind preload.job.kind end) running

-- an end comes for a number: the preload that has this number and no end gets it
abbrev pub hold : List Preload → ℕ → LoadEnd → List Preload
hold [] number end = []
hold (preload ∷ running) number end = if is_open number preload then record preload { end = Some end } ∷ running else preload ∷ hold running number end

-- the same for all that is seen of the preloads
abbrev pub after_hold : Loads → ℕ → LoadEnd → Loads
after_hold loads number end = record loads { running = hold loads.running number end }

-- the job of a preload, and the end that is held for it
abbrev pub held_of : Preload → Option (Job × LoadEnd)
held_of preload = option_map (λ end. (preload.job, end)) preload.end

-- what is collected: the job and the end of the preload for which an end of this number is held
abbrev pub collected : List Preload → ℕ → Option (Job × LoadEnd)
collected [] number = None
collected (preload ∷ running) number = if is_held number preload then held_of preload else collected running number

-- the preloads that still run after an end of this number was collected
abbrev pub without : List Preload → ℕ → List Preload
without [] number = []
without (preload ∷ running) number = if is_held number preload then running else preload ∷ without running number

-- the same for all that is seen of the preloads
abbrev pub after_collect : Loads → ℕ → Loads
after_collect loads number = record loads { running = without loads.running number }

-- a cancelling: the job of the preload for the object of this id, or that none runs
abbrev pub cancelled : Loads → ℕ → Result Job Refusal
cancelled loads id = option_map_or (λ preload. Ok preload.job) (find (is_for id) loads.running) (Err NotLoading)

-- after a cancelling no preload for the object runs, whether an end was held or not
abbrev pub after_cancel : Loads → ℕ → Loads
after_cancel loads id = record loads { running = filter (λ preload. not (is_for id preload)) loads.running }

-- whether an end is held for a preload
abbrev pub is_served : Preload → Bool
is_served preload = is_some preload.end

-- what is to be served next: the job of the earliest preload without an end
abbrev pub to_serve : List Preload → Option Job
to_serve running = option_map (λ preload. preload.job) (find (λ preload. not (is_served preload)) running)

-- what is to be collected next: the number of the earliest preload whose end is held
abbrev pub first_held : List Preload → Option ℕ
first_held running = option_map (λ preload. preload.job.number) (find is_served running)

-- the job of the preload at a place, the places counted from 0
abbrev pub job_at : List Preload → ℕ → Option Job
job_at running place = option_map (λ preload. preload.job) (slice_get running place)

-- no two preloads are for one object
abbrev pub AreApart : List Preload → Type 0
AreApart [] = Unit {0}
AreApart (preload ∷ running) = (list_any (is_for preload.job.id) running ≡ false) × AreApart running

-- numbers rise along the list, all of them above a first and none above a last
abbrev pub Rises : ℕ → List Preload → ℕ → Type 0
Rises before [] last = before ≤ last
Rises before (preload ∷ running) last = (before < preload.job.number) × Rises preload.job.number running last

-- the preloads stand in the order of their numbers, at most 64 and at most one for an object, and each held end fits
pub record IsSound (loads : Loads) : Type 0 where
  pub count : length loads.running ≤ 64
  pub apart : AreApart loads.running
  pub order : Rises 0 loads.running loads.begun
  pub ends : AllByRecursion HeldFits loads.running
