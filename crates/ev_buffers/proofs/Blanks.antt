-- New buffers.
use Rattle.std.proofs.Common.{ℕ, zero, suc, ◌≡◌, ◌*◌, ◌≤◌, false, replicate, sum_by, Some, refl, ap, ◌∙◌, arith}
use Rattle.std.proofs.lemmas.List.Folds.{sum_by-replicate}
use Rattle.ev_argb.specs.Grid.{Grid, blank_grid}
use Rattle.ev_argb.proofs.Sums.{blank_painted}
use Rattle.ev_argb.proofs.Blanks.{blank_picture, blank_whole}
use Rattle.ev_buffers.specs.BufferChain.{FitsChain, IsLine, is_out, last_picture, painted_at_home}

pub blank_fits : (w h : ℕ) → 1 ≤ w → w ≤ 4096 → 1 ≤ h → h ≤ 4096 → FitsChain w h (blank_grid w h)
blank_fits w h wl wh hl hh =
    record { width = refl; height = refl; count = (blank_picture w h wl wh hl hh).count; whole = blank_whole w h }

pub blank_line : (w h n : ℕ) → FitsChain w h (blank_grid w h) → IsLine w h (replicate n (Some (blank_grid w h)))
blank_line w h zero f = tt
blank_line w h (suc n) f = (f, blank_line w h n f)

-- none of some new pictures is lent
pub blank_home : (picture : Grid) (n : ℕ) → 1 ≤ n → is_out (last_picture (replicate n (Some picture))) ≡ false
blank_home picture zero some = absurd (omega arith)
blank_home picture (suc zero) some = refl
blank_home picture (suc (suc n)) some = blank_home picture (suc n) (omega arith)

pub blanks_painted : (w h n : ℕ) → sum_by painted_at_home (replicate n (Some (blank_grid w h))) ≡ n * (w * h)
blanks_painted w h n = sum_by-replicate painted_at_home n (Some (blank_grid w h)) ∙ ap (λ count. n * count) (blank_painted w h)
