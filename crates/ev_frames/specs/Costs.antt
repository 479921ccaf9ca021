-- What a frame may cost, pixel by pixel.
use Rattle.std.specs.Prelude.{ℕ, ◌≤◌, Bool, ℤ}
use Rattle.ev_region.specs.Count.{sum_below, LiesWithin}
use Rattle.ev_model.specs.Capture.{Capture}
use Rattle.ev_cmds.specs.Sheets.{cost_at}
use Rattle.ev_frames.specs.Running.{frame_cost}

-- how many pixels may be painted in a work region: each of its pixels is cleared, and painted once for each look that covers it and isn't below one that replaces everything there
abbrev pub pixels_cost : (ℤ → ℤ → Bool) → Capture → ℕ
pixels_cost work capture = sum_below capture.h (λ y. sum_below capture.w (λ x. cost_at work capture.looks x y))

-- A frame costs no more than the pixels of its work region, where this lies on the canvas.
abbrev pub FramesCostTheirPixels : Type 0
FramesCostTheirPixels = (work : ℤ → ℤ → Bool) (capture : Capture) → LiesWithin capture.w capture.h work → frame_cost work capture ≤ pixels_cost work capture
