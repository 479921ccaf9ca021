-- A division by the length of a part, as a multiplication by its inverse.
use Rattle.std.proofs.Common.{◌≡◌, ℕ, ◌+◌, ◌-◌, ◌*◌, ◌/◌, ◌%◌, ◌<◌, ◌≤◌, inl, inr, sym, ap, ◌∙◌, arith}
use Rattle.std.proofs.Math.Nat.{mul-lt-mul_of_pos_right, mul-le-mul_right}
use Rattle.std.proofs.lemmas.Bool.{cases_lt}
use Rattle.std.proofs.lemmas.Nat.{div-mul-add, div_below, div-add-mod', mod_below}

pub mul-lt_right : (x part source : ℕ) → x < part → 0 < source → x * source < part * source
mul-lt_right x part source h some = mul-lt-mul_of_pos_right h some

-- the inverse, scaled and rounded up
abbrev inverse : ℕ → ℕ
inverse part = 0x10000000000000 / part + 1

-- by how much part * inverse is above the scale
abbrev excess : ℕ → ℕ
excess part = part - 0x10000000000000 % part

inverse_is : (part : ℕ) → 0 < part → part * inverse part ≡ 0x10000000000000 + excess part
inverse_is part some = omega (arith, div-add-mod' 0x10000000000000 part, mod_below 0x10000000000000 part some)

-- the inverse is larger than all that it adds to a quotient below 4096
inverse_large : (part : ℕ) → 0 < part → part ≤ 1000000 → 4096 * part < inverse part
inverse_large part some most = elim (cases_lt (4096 * part) (inverse part)) [
  | inl large ↦ large
  | inr small ↦ absurd (
      let once : inverse part * part ≤ 4096 * part * part = mul-le-mul_right part small in
      let twice : part * part ≤ 1000000 * part = mul-le-mul_right part most in
      omega (arith, once, twice, inverse_is part some))
]

product_is : (q r part inv e s : ℕ) → part * inv ≡ s + e → (q * part + r) * inv ≡ q * s + (q * e + r * inv)
product_is q r part inv e s is = omega (arith, ap (λ (x : ℕ). q * x) is)

rest_below : (q r part inv e s : ℕ) → part * inv ≡ s + e → r < part → (q + 1) * e < inv → q * e + r * inv < s
rest_below q r part inv e s is less small =
    let next : r + 1 ≤ part = omega arith in
    omega (arith, mul-le-mul_right inv next)

-- a product below source * part, by the inverse: its quotient with its rest
record Scaled (product part source : ℕ) : Type 0 where
  rest : ℕ
  is : product * inverse part ≡ product / part * 0x10000000000000 + rest
  below : rest < 0x10000000000000
  quotient : product / part < source

scaled : (u part source : ℕ) → u < part → part ≤ 1000000 → 0 < source → source ≤ 4096 → Scaled (u * source) part source
scaled u part source within most some narrow =
    let product : ℕ = u * source in
    let q : ℕ = product / part in
    let r : ℕ = product % part in
    let positive : 0 < part = omega arith in
    let whole : q * part + r ≡ product = div-add-mod' product part in
    let less : u * source < source * part = omega (arith, mul-lt_right u part source within some) in
    let quotient : q < source = div_below product part source positive less in
    let next : q + 1 ≤ 4096 = omega arith in
    let error : (q + 1) * excess part ≤ 4096 * excess part = mul-le-mul_right (excess part) next in
    let small : (q + 1) * excess part < inverse part = omega (arith, error, inverse_large part positive most) in
    record {
      rest = q * excess part + r * inverse part;
      is = ap (λ (n : ℕ). n * inverse part) (sym whole) ∙ product_is q r part (inverse part) (excess part) 0x10000000000000 (inverse_is part positive);
      below = rest_below q r part (inverse part) (excess part) 0x10000000000000 (inverse_is part positive) (mod_below product part positive) small;
      quotient = quotient;
    }

pub scaled_fits : (u part source inv : ℕ) → u < part → part ≤ 1000000 → 0 < source → source ≤ 4096 → inv ≡ 0x10000000000000 / part + 1 → u * source * inv < 0x10000000000000000
scaled_fits u part source inv within most some narrow is =
    let s = scaled u part source within most some narrow in
    rw is (omega (arith, s.is, s.below, s.quotient))

pub scaled_is : (u part source inv : ℕ) → u < part → part ≤ 1000000 → 0 < source → source ≤ 4096 → inv ≡ 0x10000000000000 / part + 1 → u * source * inv / 0x10000000000000 ≡ u * source / part
scaled_is u part source inv within most some narrow is =
    let s = scaled u part source within most some narrow in
    rw is (ap (λ (n : ℕ). n / 0x10000000000000) s.is ∙ div-mul-add (u * source / part) 0x10000000000000 s.rest s.below)

pub stretched_below : (u part source : ℕ) → u < part → 0 < source → u * source / part < source
stretched_below u part source within some =
    let less : u * source < source * part = omega (arith, mul-lt_right u part source within some) in
    div_below (u * source) part source (omega arith) less

-- a place that is counted from the first of its run
pub place_from : {X : Type 0} (f : ℕ → X) (x : X) (at from from' k source part : ℕ) → x ≡ f at → at ≡ (from' + k) * source / part → from' ≡ from → x ≡ f ((from + k) * source / part)
place_from f x at from from' k source part is place first = is ∙ ap f place ∙ ap (λ (from : ℕ). f ((from + k) * source / part)) first
