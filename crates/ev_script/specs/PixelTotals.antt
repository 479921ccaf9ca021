-- Totals that are counted pixel by pixel.
use Rattle.std.specs.Prelude.{ℕ, ◌+◌, ◌*◌, ◌≤◌, ◌^◌, Option, Some, None}
use Rattle.ev_argb.specs.Argb.{Argb}
use Rattle.ev_model.specs.Answer.{Answer, Sum}
use Rattle.ev_canvas.specs.Totals.{channels}

-- totals of so many pixels
pub record Counts : Type 0 where
  pub count : ℕ
  pub a : ℕ
  pub r : ℕ
  pub g : ℕ
  pub b : ℕ
  pub weighted : ℕ

-- no totals leave 64 bits: a picture has at most 2 ^ 24 pixels
pub record IsSmall (t : Counts) : Type 0 where
  pub few : t.count ≤ 2 ^ 24
  pub a : t.a ≤ 255 * t.count
  pub r : t.r ≤ 255 * t.count
  pub g : t.g ≤ 255 * t.count
  pub b : t.b ≤ 255 * t.count
  pub weighted : t.weighted ≤ 2 ^ 35 * t.count

-- the reply that tells totals
abbrev pub told : Counts → Answer
told t = Sum t.a t.r t.g t.b t.weighted

-- no pixels
abbrev pub none : Counts
none = record { count = 0; a = 0; r = 0; g = 0; b = 0; weighted = 0 }

-- one pixel more
abbrev pub with_pixel : Counts → Argb → Counts
with_pixel t p = record {
  count = t.count + 1;
  a = t.a + p.a;
  r = t.r + p.r;
  g = t.g + p.g;
  b = t.b + p.b;
  weighted = t.weighted + (t.count + 1) * channels p;
}

-- with one place more, which may be hidden
abbrev pub with_place : Counts → Option Argb → Counts
with_place t None = record t { count = t.count + 1 }
with_place t (Some p) = with_pixel t p
