-- Where the words of the places lie in the table.
use Rattle.std.proofs.Common.{◌≡◌, ℕ, zero, suc, ◌*◌, ◌<◌, List, [], ◌∷◌, ◌++◌, set, get_or, length, replicate, sym, refl, ap, ◌∙◌, arith}
use Rattle.ev_desk.specs.DeskSlots.{spread, place_of}

pub place_back : (p i : ℕ) → i ≡ p * 8 → place_of i ≡ p
unfolding place_of
place_back p i e = omega (arith, e)

-- the word of each place, counted up
abbrev at : ℕ → ℕ
at zero = 0
at (suc p) = suc (suc (suc (suc (suc (suc (suc (suc (at p))))))))

at_is : (p : ℕ) → at p ≡ p * 8
at_is zero = omega arith
at_is (suc p) = omega (arith, at_is p)

at_front : (l m : List ℕ) (p : ℕ) → p < length l → get_or (spread l ++ m) (at p) 0 ≡ get_or l p 0
at_front [] m p lt = absurd (omega arith)
at_front (x ∷ xs) m zero lt = refl
at_front (x ∷ xs) m (suc p) lt = at_front xs m p (omega arith)

set_front : (l m : List ℕ) (p a : ℕ) → p < length l → set (spread l ++ m) (at p) a ≡ spread (set l p a) ++ m
set_front [] m p a lt = absurd (omega arith)
set_front (x ∷ xs) m zero a lt = refl
set_front (x ∷ xs) m (suc p) a lt = ap (λ (l : List ℕ). x ∷ 0 ∷ 0 ∷ 0 ∷ 0 ∷ 0 ∷ 0 ∷ 0 ∷ l) (set_front xs m p a (omega arith))

pub at_spread : (l m : List ℕ) (p i : ℕ) → i ≡ p * 8 → p < length l → get_or (spread l ++ m) i 0 ≡ get_or l p 0
at_spread l m p i e lt = ap (λ (k : ℕ). get_or (spread l ++ m) k 0) (e ∙ sym (at_is p)) ∙ at_front l m p lt

pub set_spread : (l m : List ℕ) (p i a : ℕ) → i ≡ p * 8 → p < length l → set (spread l ++ m) i a ≡ spread (set l p a) ++ m
set_spread l m p i a e lt = ap (λ (k : ℕ). set (spread l ++ m) k a) (e ∙ sym (at_is p)) ∙ set_front l m p a lt

set_end : (l : List ℕ) (b a : ℕ) → set (spread l ++ b ∷ []) (at (length l)) a ≡ spread l ++ a ∷ []
set_end [] b a = refl
set_end (x ∷ xs) b a = ap (λ (l : List ℕ). x ∷ 0 ∷ 0 ∷ 0 ∷ 0 ∷ 0 ∷ 0 ∷ 0 ∷ l) (set_end xs b a)

-- the bell comes after them
pub set_bell : (l : List ℕ) (b i a : ℕ) → i ≡ length l * 8 → set (spread l ++ b ∷ []) i a ≡ spread l ++ a ∷ []
set_bell l b i a e = ap (λ (k : ℕ). set (spread l ++ b ∷ []) k a) (e ∙ sym (at_is (length l))) ∙ set_end l b a

-- all words of a new desk are 0
pub all_zero : replicate 513 0 ≡ spread (replicate 64 0) ++ 0 ∷ []
all_zero = refl
