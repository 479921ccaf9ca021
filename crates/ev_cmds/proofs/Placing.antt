-- Places in patches.
use Rattle.std.proofs.Common.{ℕ, ◌≡◌, ◌+◌, ◌*◌, ◌<◌, ◌≤◌, Bool, true, false, ◌&&◌, nat_le, nat_lt, List, [], ◌∷◌, ◌++◌, refl, ap, ap₂, ◌∙◌, arith}
use Rattle.std.proofs.lemmas.Bool.{lt-ltb, le-ltb, le-leb, lt-leb}
use Rattle.ev_cmds.specs.Patches.{lies, has_place, one, times}
use Rattle.ev_cmds.specs.declared.patch.Patch.{Patch}

pub lies_in : (from to at : ℕ) → from ≤ at → at < to → lies from to at ≡ true
lies_in from to at low high = ap₂ ◌&&◌ (le-leb from at low) (lt-ltb at to high)

pub lies_before : (from to at : ℕ) → at < from → lies from to at ≡ false
lies_before from to at h = ap (λ b. b && nat_lt at to) (lt-leb from at h)

and_false : (b : Bool) → (b && false) ≡ false
and_false true = refl
and_false false = refl

pub lies_after : (from to at : ℕ) → to ≤ at → lies from to at ≡ false
lies_after from to at h = ap (λ b. nat_le from at && b) (le-ltb at to h) ∙ and_false _

pub one_and : (a b : Bool) → one (a && b) ≡ one a * one b
one_and true true = refl
one_and true false = refl
one_and false true = refl
one_and false false = refl

pub times-append : (xs ys : List Patch) (x y : ℕ) → times (xs ++ ys) x y ≡ times xs x y + times ys x y
times-append [] ys x y = omega arith
times-append (p ∷ xs) ys x y = omega (arith, times-append xs ys x y)

-- a place in a patch
abbrev pub at_place : Patch → ℕ → ℕ → ℕ
at_place p x y = one (has_place p x y)

pub at_is : (p : Patch) (x y : ℕ) → at_place p x y ≡ one (lies p.left p.right x) * one (lies p.top p.bottom y)
at_is p x y = one_and _ _
