-- Jobs by number, as a list of pairs. The number of a job is its ticket, or its place.
use Rattle.std.specs.Prelude.{ℕ, ◌+◌, ◌==◌, cond, List, [], ◌∷◌, Option, Some, None}

-- the job of this number
abbrev pub job_of : {J : Type 0} → ℕ → List (ℕ × J) → Option J
job_of n [] = None
job_of n (x ∷ xs) = cond (x.0 == n) (Some x.1) (job_of n xs)

-- the jobs of the other numbers
abbrev pub without : {J : Type 0} → ℕ → List (ℕ × J) → List (ℕ × J)
without n [] = []
without n (x ∷ xs) = cond (x.0 == n) (without n xs) (x ∷ without n xs)

-- the jobs, with the numbers from this one on
abbrev pub numbered : {J : Type 0} → ℕ → List J → List (ℕ × J)
numbered n [] = []
numbered n (job ∷ jobs) = (n, job) ∷ numbered (n + 1) jobs

-- the jobs, with this one, if it is one
abbrev pub with_job : {J : Type 0} → ℕ → Option J → List (ℕ × J) → List (ℕ × J)
with_job n None jobs = jobs
with_job n (Some job) jobs = (n, job) ∷ jobs

-- it counts the jobs of a number
abbrev pub is_at : {J : Type 0} → ℕ → ℕ × J → ℕ
is_at n x = cond (x.0 == n) 1 0
