-- Pixels with premultiplied channels, and their arithmetic over whole numbers.
use Rattle.std.specs.Prelude.{ℕ, ◌+◌, ◌-◌, ◌*◌, ◌/◌, ◌%◌, ◌<◌, ◌≤◌, ◌==◌, min, Bool, List}
use Rattle.std.specs.List.{list_all}

-- four channels from 0 to 255
pub record Argb : Type 0 where
  pub a : ℕ
  pub r : ℕ
  pub g : ℕ
  pub b : ℕ

-- no colour channel is above alpha, and alpha is a byte
pub record IsPremultiplied (p : Argb) : Type 0 where
  pub alpha : p.a < 256
  pub red : p.r ≤ p.a
  pub green : p.g ≤ p.a
  pub blue : p.b ≤ p.a

-- the channels of a word, alpha highest
abbrev pub unpacked : ℕ → Argb
unpacked bits = record { a = bits / 0x1000000; r = bits / 0x10000 % 0x100; g = bits / 0x100 % 0x100; b = bits % 0x100 }

-- the word of four channels
abbrev pub packed : Argb → ℕ
packed p = p.a * 0x1000000 + p.r * 0x10000 + p.g * 0x100 + p.b

-- the product of two channels, where 255 stands for the whole
abbrev pub mul : ℕ → ℕ → ℕ
mul x y = (x * y + 255) / 256

-- each channel of a pixel by the same channel of a colour
abbrev pub tint : Argb → Argb → Argb
tint p c = record { a = mul p.a c.a; r = mul p.r c.r; g = mul p.g c.g; b = mul p.b c.b }

-- one channel of s over the same channel of d, where s has this alpha
abbrev pub channel_over : ℕ → ℕ → ℕ → ℕ
channel_over alpha s d = s + (256 - alpha) * d / 256

-- a pixel painted over another
abbrev pub over : Argb → Argb → Argb
over s d = record { a = channel_over s.a s.a d.a; r = channel_over s.a s.r d.r; g = channel_over s.a s.g d.g; b = channel_over s.a s.b d.b }

-- channels above alpha are taken as alpha
abbrev pub clamped : ℕ → ℕ → ℕ → ℕ → Argb
clamped a r g b = record { a = a; r = min r a; g = min g a; b = min b a }

-- nothing at all
abbrev pub clear : Argb
clear = record { a = 0; r = 0; g = 0; b = 0 }

-- the first and the third byte of a word, counted from its low end
abbrev pub even_bytes : ℕ → ℕ
even_bytes word = word / 0x10000 % 0x100 * 0x10000 + word % 0x100

-- the same two bytes, each times keep / 256
abbrev pub scaled : ℕ → ℕ → ℕ
scaled keep word = keep * (word / 0x10000 % 0x100) / 0x100 * 0x10000 + keep * (word % 0x100) / 0x100

-- whether each alpha is 255
abbrev pub are_opaque : List Argb → Bool
are_opaque pixels = list_all (λ p. p.a == 255) pixels
