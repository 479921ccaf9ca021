-- A fill that repeats: places after one another, and where the fill begins anew.
use Rattle.std.proofs.Common.{◌≡◌, ℕ, ◌+◌, ◌*◌, ◌%◌, ◌<◌, ◌≤◌, map, pos, ◌+ℤ◌, ◌-ℤ◌, sym, ap, ◌∙◌, arith}
use Rattle.std.specs.List.{range_with_len}
use Rattle.std.proofs.Math.Nat.{add-mod, mod-mod, mod-eq_of_lt}
use Rattle.std.proofs.lemmas.Int.{ints}
use Rattle.ev_model.specs.Axis.{IsAxis, phase}
use Rattle.ev_model.specs.declared.axis.Axis.{Axis}
use Rattle.ev_model.proofs.Axes.{is_turned, phase_is}
use Rattle.ev_model.proofs.Runs.{run_same}

add-mod_first : (a b len : ℕ) → (a + b) % len ≡ (a % len + b) % len
add-mod_first a b len = add-mod a b len ∙ ap (λ (x : ℕ). (x + b % len) % len) (sym (mod-mod a len)) ∙ sym (add-mod (a % len) b len)

-- n places on
pub wrapped : (phase done n u len : ℕ) → 0 < len → (phase + done) % len ≡ u → (phase + (done + n)) % len ≡ (u + n) % len
wrapped phase done n u len some ahead =
    let e : phase + (done + n) ≡ phase + done + n = omega arith in
    ap (λ (x : ℕ). x % len) e ∙ add-mod_first (phase + done) n len ∙ ap (λ (x : ℕ). (x + n) % len) ahead

-- a run that ends with the fill at the latest
pub run_ahead : {X : Type 0} (f : ℕ → X) (phase done u n len : ℕ) → 0 < len → (phase + done) % len ≡ u → u + n ≤ len → map f (range_with_len u n) ≡ map (λ v. f (v % len)) (range_with_len (phase + done) n)
run_ahead f phase done u n len some ahead within =
    run_same f (λ (v : ℕ). f (v % len)) u (phase + done) n (λ k h. ap f (place k h))
  where
    place : (k : ℕ) → k < n → u + k ≡ (phase + done + k) % len
    place k h = sym (add-mod_first (phase + done) k len ∙ ap (λ (x : ℕ). (x + k) % len) ahead ∙ mod-eq_of_lt (omega arith))

-- places after one another in the object are so in the fill
pub phase_more : (axis : Axis) (i k : ℕ) → IsAxis axis → phase axis (i + k) ≡ (phase axis i + k) % axis.len
phase_more axis i k limits =
    let r = is_turned axis i limits in
    let later : (pos (i + k) -ℤ axis.start) +ℤ pos (1000000 * axis.len) ≡ pos (r.turned + k) = omega (arith, ints, r.is) in
    phase_is axis (i + k) (r.turned + k) limits later ∙ add-mod_first r.turned k axis.len ∙ ap (λ (x : ℕ). (x + k) % axis.len) (sym (phase_is axis i r.turned limits r.is))
