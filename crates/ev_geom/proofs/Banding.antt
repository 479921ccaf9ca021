-- Banded lists: what stands over the first band, and that the bands are determined by the pixels.
use Rattle.std.proofs.Common.{◌≡◌, ℕ, ◌+◌, ◌<◌, ◌≤◌, false, List, [], ◌∷◌, refl, sym, ap, ◌∙◌, arith, subst, ⊎_elim}
use Rattle.std.proofs.lemmas.Bool.{le-leb, lt-leb, cases_order, cases_lt}
use Rattle.ev_geom.specs.Bands.{is_inside, IsRow, Band, row_at, IsBands}
use Rattle.ev_geom.proofs.Rows.{row_unique}

-- bands that begin further down
pub IsBands-sooner : (limit from y : ℕ) (row : List ℕ) (bands : List Band) → IsBands limit y row bands → from ≤ y → IsBands limit from row bands
IsBands-sooner limit from y row [] good low = good
IsBands-sooner limit from y row (band ∷ bands) good low = (omega (arith, good.0), good.1, good.2, good.3, good.4)

-- the rows over the first band
pub row_at-before : (limit from : ℕ) (above : List ℕ) (bands : List Band) (y : ℕ) → IsBands limit from above bands → y < from → row_at above bands y ≡ above
row_at-before limit from above [] y good low = refl
row_at-before limit from above (band ∷ bands) y good low = rw (lt-leb band.top y (omega (arith, good.0))) refl

-- the first band's top row
pub row_at-first : (limit from : ℕ) (above : List ℕ) (band : Band) (bands : List Band) → IsBands limit from above (band ∷ bands) → row_at above (band ∷ bands) band.top ≡ band.edges
row_at-first limit from above band bands good =
    rw (le-leb band.top band.top (omega arith)) (row_at-before limit (band.top + 1) band.edges bands band.top good.4 (omega arith))

-- two rows are alike where they have the same pixels
abbrev pub SameRow : List ℕ → List ℕ → Type 0
SameRow a b = (x : ℕ) → is_inside false a x ≡ is_inside false b x

-- every row of these bands is a row, if the one above is
pub row_at-row : (limit from : ℕ) (above : List ℕ) (bands : List Band) (y : ℕ) → IsRow limit 0 false above → IsBands limit from above bands → IsRow limit 0 false (row_at above bands y)
row_at-row limit from above [] y row good = row
row_at-row limit from above (band ∷ bands) y row good =
    let next : IsRow limit 0 false (row_at band.edges bands y) = row_at-row limit (band.top + 1) band.edges bands y good.3 good.4 in
    ⊎_elim
    (λ low. rw (lt-leb band.top y low) row)
    (λ high. rw (le-leb band.top y high) next)
    (cases_lt y band.top)

-- bands with the same pixels have the same edges in each row
pub rows_same : (limit from : ℕ) (above : List ℕ) (a b : List Band) → IsRow limit 0 false above → IsBands limit from above a → IsBands limit from above b → ((y : ℕ) → SameRow (row_at above a y) (row_at above b y)) → (y : ℕ) → row_at above a y ≡ row_at above b y
rows_same limit from above a b row p q same y =
    row_unique limit 0 false (row_at above a y) (row_at above b y) (row_at-row limit from above a y row p) (row_at-row limit from above b y row q) (same y)

tops_meet_not : (limit from : ℕ) (above : List ℕ) (c : Band) (cs : List Band) (d : Band) (ds : List Band) → IsBands limit from above (c ∷ cs) → ((y : ℕ) → row_at above (c ∷ cs) y ≡ row_at above (d ∷ ds) y) → c.top < d.top → ⊥
tops_meet_not limit from above c cs d ds p same low =
    let later : row_at above (d ∷ ds) c.top ≡ above = rw (lt-leb d.top c.top low) refl in
    p.2 (sym (row_at-first limit from above c cs p) ∙ same c.top ∙ later)

tops_meet : (limit from : ℕ) (above : List ℕ) (c : Band) (cs : List Band) (d : Band) (ds : List Band) → IsBands limit from above (c ∷ cs) → IsBands limit from above (d ∷ ds) → ((y : ℕ) → row_at above (c ∷ cs) y ≡ row_at above (d ∷ ds) y) → c.top ≡ d.top
tops_meet limit from above c cs d ds p q same =
    ⊎_elim (λ here. here) (λ other. ⊎_elim
    (λ low. absurd (tops_meet_not limit from above c cs d ds p same low))
    (λ low. absurd (tops_meet_not limit from above d ds c cs q (λ y. sym (same y)) low))
    other) (cases_order c.top d.top)

-- what follows one first band has the same rows
rows_after : (limit from : ℕ) (above : List ℕ) (c : Band) (cs ds : List Band) → IsBands limit from above (c ∷ cs) → IsBands limit from above (c ∷ ds) → ((y : ℕ) → row_at above (c ∷ cs) y ≡ row_at above (c ∷ ds) y) → (y : ℕ) → row_at c.edges cs y ≡ row_at c.edges ds y
rows_after limit from above c cs ds p q same y =
    ⊎_elim
    (λ low. row_at-before limit (c.top + 1) c.edges cs y p.4 (omega arith) ∙ sym (row_at-before limit (c.top + 1) c.edges ds y q.4 (omega arith)))
    (λ high. rw (le-leb c.top y high) at (same y))
    (cases_lt y c.top)

band_same : (c d : Band) → c.top ≡ d.top → c.edges ≡ d.edges → c ≡ d
band_same c d tops edges = λ i. record { top = tops i; edges = edges i }

-- bands with the same rows are the same
bands_unique : (limit from : ℕ) (above : List ℕ) (a b : List Band) → IsBands limit from above a → IsBands limit from above b → ((y : ℕ) → row_at above a y ≡ row_at above b y) → a ≡ b
bands_unique limit from above [] [] p q same = refl
bands_unique limit from above [] (d ∷ ds) p q same =
    absurd (q.2 (sym (row_at-first limit from above d ds q) ∙ sym (same d.top)))
bands_unique limit from above (c ∷ cs) [] p q same =
    absurd (p.2 (sym (row_at-first limit from above c cs p) ∙ same c.top))
bands_unique limit from above (c ∷ cs) (d ∷ ds) p q same =
    let tops : c.top ≡ d.top = tops_meet limit from above c cs d ds p q same in
    let edges : c.edges ≡ d.edges =
    sym (row_at-first limit from above c cs p) ∙ same c.top ∙ ap (row_at above (d ∷ ds)) tops ∙ row_at-first limit from above d ds q in
    let meet : c ≡ d = band_same c d tops edges in
    let q' : IsBands limit from above (c ∷ ds) = subst (λ (k : Band). IsBands limit from above (k ∷ ds)) (sym meet) q in
    let same' : (y : ℕ) → row_at above (c ∷ cs) y ≡ row_at above (c ∷ ds) y =
    λ y. subst (λ (k : Band). row_at above (c ∷ cs) y ≡ row_at above (k ∷ ds) y) (sym meet) (same y) in
    let rest : cs ≡ ds = bands_unique limit (c.top + 1) c.edges cs ds p.4 q'.4 (rows_after limit from above c cs ds p q' same') in
    cc

-- bands with the same pixels are the same
pub same_bands : (limit : ℕ) (a b : List Band) → IsBands limit 0 [] a → IsBands limit 0 [] b → ((x y : ℕ) → is_inside false (row_at [] a y) x ≡ is_inside false (row_at [] b y) x) → a ≡ b
same_bands limit a b p q same =
    bands_unique limit 0 [] a b p q (rows_same limit 0 [] a b refl p q (λ y x. same x y))
