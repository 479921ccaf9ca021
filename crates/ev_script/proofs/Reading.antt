-- Bytes that are read, piece by piece.
use Rattle.std.proofs.Common.{◌≡◌, ℕ, ◌+◌, ◌-◌, ◌<◌, ◌≤◌, Bool, true, false, nat_lt, arith}
use Rattle.std.proofs.lemmas.Bool.Decides.{nat_tests}
use Rattle.ev_port.specs.Told.{counted}
use Rattle.ev_script.specs.Status.{Takes}

-- the bytes before and one piece more
takes_more : (before between now m n : ℕ) (long : Bool) → counted between 0 ≡ counted before m → now ≡ counted between n → long ≡ nat_lt 16777216 (m + n) → Takes before now long
takes_more before between now m n long so_far more is_long = record { bytes = m + n; count = omega (arith, so_far, more); long = is_long }

-- a piece that fits
pub takes_within : (before between now m n : ℕ) → counted between 0 ≡ counted before m → now ≡ counted between n → m ≤ 16777216 → n ≤ 16777216 - m → Takes before now false
takes_within before between now m n so_far more short fits = takes_more before between now m n false so_far more (grind (arith, nat_tests))

-- a piece that is too long
pub takes_beyond : (before between now m n : ℕ) → counted between 0 ≡ counted before m → now ≡ counted between n → m ≤ 16777216 → 16777216 - m < n → Takes before now true
takes_beyond before between now m n so_far more short long = takes_more before between now m n true so_far more (grind (arith, nat_tests))
