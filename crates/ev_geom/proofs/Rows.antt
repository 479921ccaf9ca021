-- Rows of pixels by their edges: what stands left of the first edge, and that the edges are determined.
use Rattle.std.proofs.Common.{◌≡◌, ℕ, ◌+◌, ◌<◌, ◌≤◌, Bool, true, false, not, List, [], ◌∷◌, refl, sym, ◌∙◌, arith, subst, ⊎_elim}
use Rattle.std.proofs.lemmas.Bool.{le-leb, lt-leb, cases_order, cases_lt}
use Rattle.ev_geom.specs.Bands.{is_inside, IsRow}

-- a row whose edges begin further right
pub IsRow-sooner : (limit from x : ℕ) (inside : Bool) (edges : List ℕ) → IsRow limit x inside edges → from ≤ x → IsRow limit from inside edges
IsRow-sooner limit from x inside [] row low = row
IsRow-sooner limit from x inside (edge ∷ edges) row low = (omega (arith, row.0), row.1, row.2)

-- left of the first edge a row is as it begins
pub is_inside-before : (limit from : ℕ) (inside : Bool) (edges : List ℕ) (x : ℕ) → IsRow limit from inside edges → x < from → is_inside inside edges x ≡ inside
is_inside-before limit from inside [] x row low = refl
is_inside-before limit from inside (edge ∷ edges) x row low = rw (lt-leb edge x (omega (arith, row.0))) refl

-- at its first edge a row turns
pub is_inside-first : (limit from : ℕ) (inside : Bool) (edge : ℕ) (edges : List ℕ) → IsRow limit from inside (edge ∷ edges) → is_inside inside (edge ∷ edges) edge ≡ not inside
is_inside-first limit from inside edge edges row =
    rw (le-leb edge edge (omega arith)) (is_inside-before limit (edge + 1) (not inside) edges edge row.2 (omega arith))

pub not_own : (b : Bool) → b ≡ not b → ⊥
not_own true e = cc
not_own false e = cc

-- a row that begins later has not turned at the other's first edge
edge_not_later : (limit from : ℕ) (inside : Bool) (e : ℕ) (es : List ℕ) (g : ℕ) (gs : List ℕ) → IsRow limit from inside (e ∷ es) → ((x : ℕ) → is_inside inside (e ∷ es) x ≡ is_inside inside (g ∷ gs) x) → e < g → ⊥
edge_not_later limit from inside e es g gs p same low =
    let later : is_inside inside (g ∷ gs) e ≡ inside = rw (lt-leb g e low) refl in
    not_own inside (sym later ∙ sym (same e) ∙ is_inside-first limit from inside e es p)

-- the first edges of rows with the same pixels
edges_meet : (limit from : ℕ) (inside : Bool) (e : ℕ) (es : List ℕ) (g : ℕ) (gs : List ℕ) → IsRow limit from inside (e ∷ es) → IsRow limit from inside (g ∷ gs) → ((x : ℕ) → is_inside inside (e ∷ es) x ≡ is_inside inside (g ∷ gs) x) → e ≡ g
edges_meet limit from inside e es g gs p q same =
    ⊎_elim (λ here. here) (λ other. ⊎_elim
    (λ low. absurd (edge_not_later limit from inside e es g gs p same low))
    (λ low. absurd (edge_not_later limit from inside g gs e es q (λ x. sym (same x)) low))
    other) (cases_order e g)

-- rows with the same pixels and one first edge have the same pixels after it
pixels_after : (limit from : ℕ) (inside : Bool) (e : ℕ) (es gs : List ℕ) → IsRow limit from inside (e ∷ es) → IsRow limit from inside (e ∷ gs) → ((x : ℕ) → is_inside inside (e ∷ es) x ≡ is_inside inside (e ∷ gs) x) → (x : ℕ) → is_inside (not inside) es x ≡ is_inside (not inside) gs x
pixels_after limit from inside e es gs p q same x =
    ⊎_elim
    (λ low. is_inside-before limit (e + 1) (not inside) es x p.2 (omega arith) ∙ sym (is_inside-before limit (e + 1) (not inside) gs x q.2 (omega arith)))
    (λ high. rw (le-leb e x high) at (same x))
    (cases_lt x e)

-- rows with the same pixels have the same edges
pub row_unique : (limit from : ℕ) (inside : Bool) (a b : List ℕ) → IsRow limit from inside a → IsRow limit from inside b → ((x : ℕ) → is_inside inside a x ≡ is_inside inside b x) → a ≡ b
row_unique limit from inside [] [] p q same = refl
row_unique limit from inside [] (e ∷ es) p q same =
    absurd (not_own inside (same e ∙ is_inside-first limit from inside e es q))
row_unique limit from inside (e ∷ es) [] p q same =
    absurd (not_own inside (sym (same e) ∙ is_inside-first limit from inside e es p))
row_unique limit from inside (e ∷ es) (g ∷ gs) p q same =
    let meet : e ≡ g = edges_meet limit from inside e es g gs p q same in
    let q' : IsRow limit from inside (e ∷ gs) = subst (λ (k : ℕ). IsRow limit from inside (k ∷ gs)) (sym meet) q in
    let same' : (x : ℕ) → is_inside inside (e ∷ es) x ≡ is_inside inside (e ∷ gs) x =
    λ x. subst (λ (k : ℕ). is_inside inside (e ∷ es) x ≡ is_inside inside (k ∷ gs) x) (sym meet) (same x) in
    let rest : es ≡ gs = row_unique limit (e + 1) (not inside) es gs p.2 q'.2 (pixels_after limit from inside e es gs p q' same') in
    cc
