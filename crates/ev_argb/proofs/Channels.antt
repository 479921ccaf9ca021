-- Two channels in one product, and a pixel over another by whole words.
use Rattle.std.proofs.Common.{ℕ, ◌≡◌, ◌+◌, ◌-◌, ◌*◌, ◌/◌, ◌%◌, ◌<◌, ◌≤◌, arith, sym, subst}
use Rattle.std.proofs.Math.Nat.{mul-le-mul_left}
use Rattle.ev_argb.specs.Argb.{Argb, IsPremultiplied, mul, over, channel_over, unpacked, scaled, even_bytes}

parts : (high low : ℕ) → high < 65536 → low < 65536 → even_bytes ((high * 65536 + low) / 256) ≡ high / 256 * 65536 + low / 256
parts high low h l = omega arith

product : (keep x : ℕ) → keep ≤ 256 → x < 256 → keep * x < 65536
product keep x k h = let e : keep * x ≤ keep * 255 = mul-le-mul_left keep (omega arith) in omega arith

-- two channels in one product
pub scaled_pair : (keep high low : ℕ) → keep ≤ 256 → high < 256 → low < 256 → even_bytes ((high * 65536 + low) * keep / 256) ≡ keep * high / 256 * 65536 + keep * low / 256
scaled_pair keep high low k h l =
    let e : (high * 65536 + low) * keep ≡ keep * high * 65536 + keep * low = omega arith in
    rw e (parts (keep * high) (keep * low) (product keep high k h) (product keep low k l))

room : (alpha s d : ℕ) → s ≤ alpha → alpha < 256 → d < 256 → channel_over alpha s d < 256
room alpha s d sl al dl =
    let e : (256 - alpha) * d ≤ (256 - alpha) * 255 = mul-le-mul_left (256 - alpha) (omega arith) in
    omega arith

below : (alpha s d e : ℕ) → s ≤ alpha → d ≤ e → channel_over alpha s d ≤ channel_over alpha alpha e
below alpha s d e sl dl =
    let f : (256 - alpha) * d ≤ (256 - alpha) * e = mul-le-mul_left (256 - alpha) dl in
    omega arith

added : (n a r g b : ℕ) → n / 16777216 + a < 256 → n / 65536 % 256 + r < 256 → n / 256 % 256 + g < 256 → n % 256 + b < 256 → unpacked (n + (r * 65536 + b + (a * 65536 + g) * 256)) ≡ record { a = n / 16777216 + a; r = n / 65536 % 256 + r; g = n / 256 % 256 + g; b = n % 256 + b }
added n a r g b ha hr hg hb =
    let ea : (n + (r * 65536 + b + (a * 65536 + g) * 256)) / 16777216 ≡ n / 16777216 + a = omega arith in
    let er : (n + (r * 65536 + b + (a * 65536 + g) * 256)) / 65536 % 256 ≡ n / 65536 % 256 + r = omega arith in
    let eg : (n + (r * 65536 + b + (a * 65536 + g) * 256)) / 256 % 256 ≡ n / 256 % 256 + g = omega arith in
    let eb : (n + (r * 65536 + b + (a * 65536 + g) * 256)) % 256 ≡ n % 256 + b = omega arith in
    cc

abbrev pub blended : ℕ → ℕ → ℕ
blended n d = n + (scaled (256 - n / 16777216) d + scaled (256 - n / 16777216) (d / 256) * 256)

pub blended_is : (n d : ℕ) → IsPremultiplied (unpacked n) → IsPremultiplied (unpacked d) → unpacked (blended n d) ≡ over (unpacked n) (unpacked d)
blended_is n d p q =
    let e : d / 256 / 65536 % 256 ≡ d / 16777216 = omega (arith, q.alpha) in
    rw e
    (added n _ _ _ _
    (room (n / 16777216) (n / 16777216) (d / 16777216) (omega arith) p.alpha q.alpha)
    (room (n / 16777216) (n / 65536 % 256) (d / 65536 % 256) p.red p.alpha (omega arith))
    (room (n / 16777216) (n / 256 % 256) (d / 256 % 256) p.green p.alpha (omega arith))
    (room (n / 16777216) (n % 256) (d % 256) p.blue p.alpha (omega arith)))

over_premultiplied : (s d : Argb) → IsPremultiplied s → IsPremultiplied d → IsPremultiplied (over s d)
over_premultiplied s d p q =
    record {
      alpha = room s.a s.a d.a (omega arith) p.alpha q.alpha;
      red = below s.a s.r d.r d.a p.red q.red;
      green = below s.a s.g d.g d.a p.green q.green;
      blue = below s.a s.b d.b d.a p.blue q.blue;
    }

pub blended_premultiplied : (n d : ℕ) → IsPremultiplied (unpacked n) → IsPremultiplied (unpacked d) → IsPremultiplied (unpacked (blended n d))
blended_premultiplied n d p q = subst IsPremultiplied (sym (blended_is n d p q)) (over_premultiplied (unpacked n) (unpacked d) p q)

pub blended_fits : (n d : ℕ) → IsPremultiplied (unpacked n) → IsPremultiplied (unpacked d) → blended n d < 4294967296
blended_fits n d p q = let h : blended n d / 16777216 < 256 = (blended_premultiplied n d p q).alpha in omega arith

-- products rise with both factors
pub mul_below : (x y z w : ℕ) → x ≤ y → z ≤ w → mul x z ≤ mul y w
mul_below x y z w h k =
    let e : x * z ≤ x * w = mul-le-mul_left x k in
    let f : w * x ≤ w * y = mul-le-mul_left w h in
    omega arith

pub joined_premultiplied : (a r g b : ℕ) → a < 256 → r ≤ a → g ≤ a → b ≤ a → IsPremultiplied (unpacked (a * 16777216 + r * 65536 + g * 256 + b))
joined_premultiplied a r g b ha hr hg hb = record { alpha = omega arith; red = omega arith; green = omega arith; blue = omega arith }
