-- The two lists of a frame's jobs, by their numbers.
use Rattle.std.proofs.Common.{ℕ, suc, ◌≡◌, ◌+◌, ◌<◌, List, [], ◌∷◌, ◌++◌, length, get_or, slice_index, All, sym, ap, ◌∙◌, subst, arith, length-append}
use Rattle.std.specs.List.{AllByRecursion}
use Rattle.std.proofs.Math.Seq.{get_or-append_seam}
use Rattle.std.proofs.lemmas.List.{get_or_append_left, get_or-map, length-map}
use Rattle.ev_argb.specs.Tile.{Tile}
use Rattle.ev_cmds.specs.Cuts.{Cut}
use Rattle.ev_cmds.specs.TileJobs.{tiles_of}
use Rattle.ev_cmds.specs.declared.tile.TileCommands.{TileCommands}
use Rattle.ev_draw.specs.DrawnTiles.{Job}
use Rattle.ev_frames.specs.Running.{AreLeft, EachFrom, IsJobOf}

-- the first of the jobs that are left stands last
pub record Next (cut : Cut) (tiles : List ℕ) (gone : ℕ) (job : Job) (rest : List Job) : Type 0 where
  pub is : IsJobOf cut tiles gone job
  pub left : AreLeft cut tiles (suc gone) rest

pub next : (cut : Cut) (tiles : List ℕ) (gone : ℕ) (job : Job) (rest : List Job) → AreLeft cut tiles gone (rest ++ job ∷ []) → Next cut tiles gone job rest
next cut tiles gone job [] l = record { is = subst (λ (k : ℕ). IsJobOf cut tiles k job) (let z : gone + 0 ≡ gone = omega arith in z) l.0; left = tt }
next cut tiles gone job (first ∷ rest) l =
    let later = next cut tiles gone job rest l.1 in
    let number : gone + length (rest ++ job ∷ []) ≡ suc gone + length rest = omega (arith, length-append rest (job ∷ [])) in
    record { is = later.is; left = (subst (λ (k : ℕ). IsJobOf cut tiles k first) number l.0, later.left) }

-- a job comes to those that are left, before all others
pub left_more : (cut : Cut) (tiles : List ℕ) (gone : ℕ) (jobs : List Job) (job : Job) → AreLeft cut tiles (suc gone) jobs → IsJobOf cut tiles gone job → AreLeft cut tiles gone (jobs ++ job ∷ [])
left_more cut tiles gone [] job l is = (subst (λ (k : ℕ). IsJobOf cut tiles k job) (let z : gone ≡ gone + 0 = omega arith in z) is, tt)
left_more cut tiles gone (first ∷ jobs) job l is =
    let number : suc gone + length jobs ≡ gone + length (jobs ++ job ∷ []) = omega (arith, length-append jobs (job ∷ [])) in
    (subst (λ (k : ℕ). IsJobOf cut tiles k first) number l.0, left_more cut tiles gone jobs job l.1 is)

-- a plane comes to those that were drawn
pub each_more : (holds : ℕ → Tile → Type 0) (first k : ℕ) (planes : List Tile) (plane : Tile) → k ≡ first + length planes → EachFrom holds first planes → holds k plane → EachFrom holds first (planes ++ plane ∷ [])
each_more holds first k [] plane e each here = (subst (λ (m : ℕ). holds m plane) (let z : k ≡ first = omega (arith, e) in z) here, tt)
each_more holds first k (other ∷ planes) plane e each here = (each.0, each_more holds (suc first) k planes plane (omega (arith, e)) each.1 here)

-- the last of those that were drawn, and the others
pub each_last : (holds : ℕ → Tile → Type 0) (first k : ℕ) (planes : List Tile) (plane : Tile) → k ≡ first + length planes → EachFrom holds first (planes ++ plane ∷ []) → holds k plane
each_last holds first k [] plane e each = subst (λ (m : ℕ). holds m plane) (let z : first ≡ k = omega (arith, e) in z) each.0
each_last holds first k (other ∷ planes) plane e each = each_last holds (suc first) k planes plane (omega (arith, e)) each.1

pub each_front : (holds : ℕ → Tile → Type 0) (first : ℕ) (planes : List Tile) (plane : Tile) → EachFrom holds first (planes ++ plane ∷ []) → EachFrom holds first planes
each_front holds first [] plane each = tt
each_front holds first (other ∷ planes) plane each = (each.0, each_front holds (suc first) planes plane each.1)

-- a claim on all but the last, and on the last
pub split_last : {A : Type 0} (P : A → Type 0) (xs : List A) (x : A) → AllByRecursion P (xs ++ x ∷ []) → AllByRecursion P xs × P x
split_last P [] x all = (tt, all.0)
split_last P (y ∷ xs) x all = let later = split_last P xs x all.1 in ((all.0, later.0), later.1)

pub add_last : {A : Type 0} (P : A → Type 0) (xs : List A) (x : A) → AllByRecursion P xs → P x → AllByRecursion P (xs ++ x ∷ [])
add_last P [] x all p = (p, tt)
add_last P (y ∷ xs) x all p = (all.0, add_last P xs x all.1 p)

-- the tile of the k-th job
pub tile_is : (cut : Cut) (tiles : List ℕ) (k : ℕ) (d : TileCommands) → tiles_of cut.jobs ≡ tiles → k < length cut.jobs → (get_or cut.jobs k d).tile ≡ slice_index tiles k
tile_is cut tiles k d e h = sym (get_or-map (λ (job : TileCommands). job.tile) cut.jobs k d 0 h) ∙ ap (λ (ts : List ℕ). slice_index ts k) e

pub as_many : (cut : Cut) (tiles : List ℕ) → tiles_of cut.jobs ≡ tiles → length cut.jobs ≡ length tiles
as_many cut tiles e = sym (length-map cut.jobs (λ (job : TileCommands). job.tile)) ∙ ap length e

-- there is one to read where a list isn't empty
pub some_of : (jobs : List TileCommands) (k : ℕ) → k < length jobs → TileCommands
some_of [] k h = absurd (omega arith)
some_of (job ∷ jobs) k h = job

-- a claim by places on the last, and on all before it
pub last_of : {A : Type 0} (P : A → Type 0) (xs : List A) (x : A) → All P (xs ++ x ∷ []) → P x
last_of P xs x all = subst P (get_or-append_seam xs x [] x) (all (length xs) x (omega (arith, length-append xs (x ∷ []))))

pub front_of : {A : Type 0} (P : A → Type 0) (xs : List A) (x : A) → All P (xs ++ x ∷ []) → All P xs
front_of P xs x all = λ k d h. subst P (get_or_append_left xs (x ∷ []) d k h) (all k d (omega (arith, length-append xs (x ∷ []), h)))
