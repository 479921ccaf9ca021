-- Bands in two lists: which edges belong to which, and what adding one band changes.
use Rattle.std.proofs.Common.{◌≡◌, ℕ, zero, suc, ◌+◌, ◌-◌, ◌≤◌, ◌<◌, List, [], ◌∷◌, ◌++◌, ◌^◌, map, All, length-append, take, drop, get_or, length, leb, Bool, true, false, refl, sym, ap, ap₂, ◌∙◌, arith, slice_range, inl, inr}
use Rattle.std.proofs.lemmas.List.{take-take, drop-take, length-take, length-drop, take_all, take_rest, drop-drop}
use Rattle.std.proofs.Math.Seq.{drop-append_seam, drop-append-add, take-append_seam}
use Rattle.std.specs.List.Sorted.{IsPartitionPoint, IsNonDecreasingBy}
use Rattle.ev_geom.specs.Bands.{Band, IsBands, row_at}
use Rattle.ev_region.specs.declared.bands.Step.{Step}
use Rattle.ev_region.specs.RowMerge.{AddsRowMerge, IsKept}
use Rattle.ev_region.specs.BandMerge.{last_edges, PushesRow}
use Rattle.ev_region.specs.Flat.{bands_of, start_at, IsFlat, moved, CanMove}

-- the edges of a band stand between two of the ends
pub range_of : (size start : ℕ) (steps : List Step) (k : ℕ) → IsFlat size start steps → k < length steps → (start_at start steps k ≤ start_at start steps (suc k)) × (start_at start steps (suc k) ≤ size)
range_of size start [] k flat low = absurd (omega arith)
range_of size start (step ∷ steps) zero flat low = (flat.0, flat.1)
range_of size start (step ∷ steps) (suc k) flat low = range_of size step.end steps k flat.2 (omega arith)

pub start_at-next : (start : ℕ) (steps : List Step) (k : ℕ) (d : Step) → k < length steps → start_at start steps (suc k) ≡ (get_or steps k d).end
start_at-next start [] k d low = absurd (omega arith)
start_at-next start (step ∷ steps) zero d low = refl
start_at-next start (step ∷ steps) (suc k) d low = start_at-next step.end steps k d (omega arith)

pub start_at-is : (start : ℕ) (steps : List Step) (k : ℕ) (d : Step) → 0 < k → k ≤ length steps → (get_or steps (k - 1) d).end ≡ start_at start steps k
start_at-is start steps zero d some low = absurd (omega arith)
start_at-is start steps (suc k) d some low =
    let e : suc k - 1 ≡ k = omega arith in rw e (sym (start_at-next start steps k d (omega arith)))

-- the edges of the last band
pub last_row_of : (start : ℕ) (steps : List Step) (edges : List ℕ) (k : ℕ) → length steps ≡ suc k → last_edges (bands_of start steps edges) ≡ slice_range edges (start_at start steps k) (start_at start steps (suc k))
last_row_of start [] edges k count = absurd (omega arith)
last_row_of start (step ∷ []) edges zero count = refl
last_row_of start (step ∷ []) edges (suc k) count = absurd (omega arith)
last_row_of start (step ∷ (next ∷ steps)) edges zero count = absurd (omega arith)
last_row_of start (step ∷ (next ∷ steps)) edges (suc k) count = last_row_of step.end (next ∷ steps) edges k (omega arith)

pub bands_of-take : (start : ℕ) (steps : List Step) (edges : List ℕ) (k : ℕ) → bands_of start (take k steps) edges ≡ take k (bands_of start steps edges)
bands_of-take start steps edges zero = refl
bands_of-take start [] edges (suc k) = refl
bands_of-take start (step ∷ steps) edges (suc k) =
    ap (λ bands. record { top = step.top; edges = slice_range edges start step.end } ∷ bands) (bands_of-take step.end steps edges k)

pub length-bands_of : (start : ℕ) (steps : List Step) (edges : List ℕ) → length (bands_of start steps edges) ≡ length steps
length-bands_of start [] edges = refl
length-bands_of start (step ∷ steps) edges = let e = length-bands_of step.end steps edges in omega arith

pub IsFlat-take : (size start : ℕ) (steps : List Step) (k : ℕ) → IsFlat size start steps → IsFlat size start (take k steps)
IsFlat-take size start [] zero flat = flat
IsFlat-take size start [] (suc k) flat = flat
IsFlat-take size start (step ∷ steps) zero flat = omega (arith, flat.0, flat.1)
IsFlat-take size start (step ∷ steps) (suc k) flat = (flat.0, flat.1, IsFlat-take size step.end steps k flat.2)

-- a part of the edges stays where what stands before its end stays
slice_kept : (xs ys : List ℕ) (from to end : ℕ) → from ≤ to → to ≤ end → take end xs ≡ take end ys → slice_range xs from to ≡ slice_range ys from to
slice_kept xs ys from to end low high same =
    let e : from + (to - from) ≡ to = omega arith in
    sym (drop-take from (to - from) xs) ∙ ap (λ n. drop from (take n xs)) e
    ∙ ap (drop from) (sym (take-take to end xs high) ∙ ap (take to) same ∙ take-take to end ys high)
    ∙ ap (λ n. drop from (take n ys)) (sym e) ∙ drop-take from (to - from) ys

pub bands_kept : (end start : ℕ) (steps : List Step) (xs ys : List ℕ) → IsFlat end start steps → take end xs ≡ take end ys → bands_of start steps xs ≡ bands_of start steps ys
bands_kept end start [] xs ys flat same = refl
bands_kept end start (step ∷ steps) xs ys flat same =
    ap₂ (λ edges bands. record { top = step.top; edges = edges } ∷ bands)
    (slice_kept xs ys start step.end end flat.0 flat.1 same)
    (bands_kept end step.end steps xs ys flat.2 same)

-- no edge behind the last end belongs to a band
pub IsFlat-tight : (size start : ℕ) (steps : List Step) (n : ℕ) → n ≡ length steps → IsFlat size start steps → IsFlat (start_at start steps n) start steps × (start_at start steps n ≤ size)
IsFlat-tight size start [] zero count flat = (omega arith, flat)
IsFlat-tight size start [] (suc n) count flat = absurd (omega arith)
IsFlat-tight size start (step ∷ steps) zero count flat = absurd (omega arith)
IsFlat-tight size start (step ∷ steps) (suc n) count flat =
    let rest = IsFlat-tight size step.end steps n (omega arith) flat.2 in
    ((flat.0, end_low step.end steps n (omega arith) rest.0, rest.0), rest.1)
  where
    end_low : (from : ℕ) (steps : List Step) (n : ℕ) → n ≡ length steps → IsFlat (start_at from steps n) from steps → from ≤ start_at from steps n
    end_low from [] zero count flat = flat
    end_low from [] (suc n) count flat = flat
    end_low from (step ∷ steps) n count flat = omega (arith, flat.0, flat.1)

pub IsFlat-wider : (size size' start : ℕ) (steps : List Step) → size ≤ size' → IsFlat size start steps → IsFlat size' start steps
IsFlat-wider size size' start [] more flat = omega arith
IsFlat-wider size size' start (step ∷ steps) more flat = (flat.0, omega (arith, flat.1), IsFlat-wider size size' step.end steps more flat.2)

pub IsFlat-push : (size start : ℕ) (steps : List Step) (step : Step) (n : ℕ) → n ≡ length steps → IsFlat size start steps → start_at start steps n ≤ step.end → step.end ≤ size → IsFlat size start (steps ++ step ∷ [])
IsFlat-push size start [] step zero count flat low high = (low, high, high)
IsFlat-push size start [] step (suc n) count flat low high = absurd (omega arith)
IsFlat-push size start (first ∷ steps) step zero count flat low high = absurd (omega arith)
IsFlat-push size start (first ∷ steps) step (suc n) count flat low high = (flat.0, flat.1, IsFlat-push size first.end steps step n (omega arith) flat.2 low high)

pub bands_of-push : (start : ℕ) (steps : List Step) (step : Step) (edges : List ℕ) (n : ℕ) → n ≡ length steps → bands_of start (steps ++ step ∷ []) edges ≡ bands_of start steps edges ++ record { top = step.top; edges = slice_range edges (start_at start steps n) step.end } ∷ []
bands_of-push start [] step edges zero count = refl
bands_of-push start [] step edges (suc n) count = absurd (omega arith)
bands_of-push start (first ∷ steps) step edges zero count = absurd (omega arith)
bands_of-push start (first ∷ steps) step edges (suc n) count =
    ap (λ bands. record { top = first.top; edges = slice_range edges start first.end } ∷ bands) (bands_of-push first.end steps step edges n (omega arith))

-- the tops of steps stand in order
tops_from : (limit from : ℕ) (above : List ℕ) (start : ℕ) (steps : List Step) (edges : List ℕ) (j : ℕ) (d : Step) → IsBands limit from above (bands_of start steps edges) → j < length steps → from ≤ (get_or steps j d).top
tops_from limit from above start [] edges j d good low = absurd (omega arith)
tops_from limit from above start (step ∷ steps) edges zero d good low = good.0
tops_from limit from above start (step ∷ steps) edges (suc j) d good low =
    let next = tops_from limit (step.top + 1) (slice_range edges start step.end) step.end steps edges j d good.4 (omega arith) in omega (arith, good.0)

pub tops_in_order : (limit from : ℕ) (above : List ℕ) (start : ℕ) (steps : List Step) (edges : List ℕ) → IsBands limit from above (bands_of start steps edges) → IsNonDecreasingBy (λ (s : Step). s.top) steps
tops_in_order limit from above start [] edges good i j d order low = absurd (omega arith)
tops_in_order limit from above start (step ∷ steps) edges good zero zero d order low = omega arith
tops_in_order limit from above start (step ∷ steps) edges good zero (suc j) d order low =
    let next = tops_from limit (step.top + 1) (slice_range edges start step.end) step.end steps edges j d good.4 (omega arith) in omega arith
tops_in_order limit from above start (step ∷ steps) edges good (suc i) zero d order low = absurd (omega arith)
tops_in_order limit from above start (step ∷ steps) edges good (suc i) (suc j) d order low =
    tops_in_order limit (step.top + 1) (slice_range edges start step.end) step.end steps edges good.4 i j d (omega arith) (omega arith)

split_head : (p : Step → Bool) (x : Step) (xs : List Step) (k : ℕ) → IsPartitionPoint (λ y. p y ≡ true) (λ y. p y ≡ false) (x ∷ xs) (suc k) → (p x ≡ true) × IsPartitionPoint (λ y. p y ≡ true) (λ y. p y ≡ false) xs k
split_head p x xs k split = (split.0 0 x (omega arith) (omega arith), ((λ i d low high. split.0 (suc i) d (omega arith) (omega arith)), (λ i d low high. split.1 (suc i) d (omega arith) (omega arith))))

-- the edges of the last band, or of the rows above
last_or : List ℕ → List Band → List ℕ
last_or above [] = above
last_or above (band ∷ bands) = last_or band.edges bands

last_edges-or : (bands : List Band) → last_edges bands ≡ last_or [] bands
unfolding last_or
last_edges-or [] = refl
last_edges-or (band ∷ []) = refl
last_edges-or (band ∷ (next ∷ bands)) = last_edges-or (next ∷ bands)

row_at-last : (above : List ℕ) (start : ℕ) (steps : List Step) (edges : List ℕ) (y k : ℕ) → k ≤ length steps → IsPartitionPoint (λ (s : Step). leb s.top y ≡ true) (λ (s : Step). leb s.top y ≡ false) steps k → row_at above (bands_of start steps edges) y ≡ last_or above (bands_of start (take k steps) edges)
unfolding last_or
row_at-last above start [] edges y zero low split = refl
row_at-last above start [] edges y (suc k) low split = absurd (omega arith)
row_at-last above start (step ∷ steps) edges y zero low split =
    let past : leb step.top y ≡ false = split.1 0 step (omega arith) (omega arith) in
    rw past refl
row_at-last above start (step ∷ steps) edges y (suc k) low split =
    let head = split_head (λ (s : Step). leb s.top y) step steps k split in
    rw head.0 (row_at-last (slice_range edges start step.end) step.end steps edges y k (omega arith) head.1)

pub row_at-count : (steps : List Step) (edges : List ℕ) (y k : ℕ) → k ≤ length steps → IsPartitionPoint (λ (s : Step). leb s.top y ≡ true) (λ (s : Step). leb s.top y ≡ false) steps k → last_edges (bands_of 0 (take k steps) edges) ≡ row_at [] (bands_of 0 steps edges) y
row_at-count steps edges y k low split = last_edges-or (bands_of 0 (take k steps) edges) ∙ sym (row_at-last [] 0 steps edges y k low split)

-- where the edges of the last band stand
pub last_run_of : (steps : List Step) (edges : List ℕ) (k : ℕ) → k ≡ length steps → 0 < k → slice_range edges (start_at 0 steps (k - 1)) (start_at 0 steps k) ≡ last_edges (bands_of 0 steps edges)
last_run_of steps edges zero count some = absurd (omega arith)
last_run_of steps edges (suc k) count some =
    let e : suc k - 1 ≡ k = omega arith in rw e (sym (last_row_of 0 steps edges k (sym count)))

pub last_run_range : (size : ℕ) (steps : List Step) (k : ℕ) → IsFlat size 0 steps → k ≡ length steps → 0 < k → (start_at 0 steps (k - 1) ≤ start_at 0 steps k) × (start_at 0 steps k ≤ size)
last_run_range size steps zero flat count some = absurd (omega arith)
last_run_range size steps (suc k) flat count some =
    let e : suc k - 1 ≡ k = omega arith in rw e (range_of size 0 steps k flat (omega arith))

-- edges that were cut after the last band, and to which a row was added
pub cut_length : (size end : ℕ) (steps : List Step) (edges cut : List ℕ) → IsFlat (length edges) 0 steps → end ≡ start_at 0 steps (length steps) → cut ≡ take end edges → length cut ≡ end
cut_length size end steps edges cut flat end_is cut_is =
    let tight = IsFlat-tight (length edges) 0 steps (length steps) refl flat in
    omega (arith, ap length cut_is, length-take end edges, tight.1, end_is)

pub flat_after : (end : ℕ) (steps : List Step) (edges cut after : List ℕ) → IsFlat (length edges) 0 steps → end ≡ start_at 0 steps (length steps) → cut ≡ take end edges → IsKept cut after → IsFlat (length after) 0 steps
flat_after end steps edges cut after flat end_is cut_is kept =
    let tight = IsFlat-tight (length edges) 0 steps (length steps) refl flat in
    let len = cut_length 0 end steps edges cut flat end_is cut_is in
    IsFlat-wider (start_at 0 steps (length steps)) (length after) 0 steps (omega (arith, kept.longer)) tight.0

pub same_after : (end : ℕ) (steps : List Step) (edges cut after : List ℕ) → IsFlat (length edges) 0 steps → end ≡ start_at 0 steps (length steps) → cut ≡ take end edges → IsKept cut after → bands_of 0 steps after ≡ bands_of 0 steps edges
same_after end steps edges cut after flat end_is cut_is kept =
    let tight = IsFlat-tight (length edges) 0 steps (length steps) refl flat in
    let len = cut_length 0 end steps edges cut flat end_is cut_is in
    let front : take (start_at 0 steps (length steps)) after ≡ take (start_at 0 steps (length steps)) edges =
    ap (λ n. take n after) (sym end_is ∙ sym len) ∙ kept.front ∙ cut_is ∙ ap (λ n. take n edges) end_is in
    bands_kept (start_at 0 steps (length steps)) 0 steps after edges tight.0 front

row_behind : (keeps : Bool → Bool → Bool) (a b : List ℕ) (end : ℕ) (cut after : List ℕ) → length cut ≡ end → (adds : AddsRowMerge keeps a b cut after) → drop end after ≡ adds.row
row_behind keeps a b end cut after len adds = ap (λ n. drop n after) (sym len) ∙ ap (drop (length cut)) adds.added ∙ drop-append_seam cut adds.row

IsKept-append : (cut more after : List ℕ) → after ≡ cut ++ more → IsKept cut after
IsKept-append cut more after after_is = record {
  front = ap (take (length cut)) after_is ∙ take-append_seam cut more;
  longer = omega (arith, ap length after_is, length-append cut more);
}

-- the row has the edges of the last band
pub pushed_none : (keeps : Bool → Bool → Bool) (y : ℕ) (a b : List ℕ) (end start : ℕ) (steps : List Step) (edges cut after : List ℕ) (old new : List Band) → IsFlat (length edges) 0 steps → end ≡ start_at 0 steps (length steps) → cut ≡ take end edges → IsKept cut after → AddsRowMerge keeps a b cut after
    → start ≤ end → slice_range edges start end ≡ last_edges (bands_of 0 steps edges) → slice_range after end (length after) ≡ slice_range after start end → bands_of 0 steps edges ≡ old → new ≡ bands_of 0 steps after → PushesRow keeps y a b old new
pushed_none keeps y a b end start steps edges cut after old new flat end_is cut_is kept adds low last same old_is new_is =
    let len = cut_length 0 end steps edges cut flat end_is cut_is in
    let front : take end after ≡ take end edges = ap (λ n. take n after) (sym len) ∙ kept.front ∙ cut_is in
    record {
      row = adds.row;
      merge = adds.merge;
      pushed = inl (
        sym (row_behind keeps a b end cut after len adds) ∙ sym (take_rest after end) ∙ same ∙ slice_kept after edges start end end low (omega arith) front ∙ last ∙ ap last_edges old_is,
        new_is ∙ same_after end steps edges cut after flat end_is cut_is kept ∙ old_is,
      );
    }

-- the row is a new band
pub pushed_one : (keeps : Bool → Bool → Bool) (y : ℕ) (a b : List ℕ) (end start : ℕ) (steps : List Step) (edges cut after : List ℕ) (step : Step) (old new : List Band) → IsFlat (length edges) 0 steps → end ≡ start_at 0 steps (length steps) → cut ≡ take end edges → IsKept cut after → AddsRowMerge keeps a b cut after
    → start ≤ end → slice_range edges start end ≡ last_edges (bands_of 0 steps edges) → (slice_range after end (length after) ≡ slice_range after start end → ⊥) → bands_of 0 steps edges ≡ old → step.top ≡ y → step.end ≡ length after → new ≡ bands_of 0 (steps ++ step ∷ []) after → PushesRow keeps y a b old new
pushed_one keeps y a b end start steps edges cut after step old new flat end_is cut_is kept adds low last differ old_is top_is all new_is =
    let len = cut_length 0 end steps edges cut flat end_is cut_is in
    let front : take end after ≡ take end edges = ap (λ n. take n after) (sym len) ∙ kept.front ∙ cut_is in
    let behind = row_behind keeps a b end cut after len adds in
    let whole : slice_range after (start_at 0 steps (length steps)) step.end ≡ adds.row =
    ap₂ (λ n m. slice_range after n m) (sym end_is) all ∙ take_all (length after - end) (drop end after) (omega (arith, length-drop end after)) ∙ behind in
    record {
      row = adds.row;
      merge = adds.merge;
      pushed = inr (
        (λ same. differ (take_rest after end ∙ behind ∙ same ∙ sym (slice_kept after edges start end end low (omega arith) front ∙ last ∙ ap last_edges old_is))),
        new_is ∙ bands_of-push 0 steps step after (length steps) refl
            ∙ ap₂ (λ bands band. bands ++ band ∷ []) (same_after end steps edges cut after flat end_is cut_is kept ∙ old_is)
            (ap₂ (λ top edges. record { top = top; edges = edges }) top_is whole),
      );
    }

pub flat_pushed : (end : ℕ) (steps : List Step) (edges cut after : List ℕ) (step : Step) → IsFlat (length edges) 0 steps → end ≡ start_at 0 steps (length steps) → cut ≡ take end edges → IsKept cut after → step.end ≡ length after → IsFlat (length after) 0 (steps ++ step ∷ [])
flat_pushed end steps edges cut after step flat end_is cut_is kept all =
    let len = cut_length 0 end steps edges cut flat end_is cut_is in
    IsFlat-push (length after) 0 steps step (length steps) refl (flat_after end steps edges cut after flat end_is cut_is kept) (omega (arith, kept.longer)) (omega arith)

-- edges and steps of other bands that were put behind
bands_of-append : (start : ℕ) (steps others : List Step) (edges : List ℕ) (n : ℕ) → n ≡ length steps → bands_of start (steps ++ others) edges ≡ bands_of start steps edges ++ bands_of (start_at start steps n) others edges
bands_of-append start [] others edges zero count = refl
bands_of-append start [] others edges (suc n) count = absurd (omega arith)
bands_of-append start (step ∷ steps) others edges zero count = absurd (omega arith)
bands_of-append start (step ∷ steps) others edges (suc n) count =
    ap (λ bands. record { top = step.top; edges = slice_range edges start step.end } ∷ bands) (bands_of-append step.end steps others edges n (omega arith))

IsFlat-append : (size start : ℕ) (steps others : List Step) (n : ℕ) → n ≡ length steps → IsFlat size start steps → IsFlat size (start_at start steps n) others → IsFlat size start (steps ++ others)
IsFlat-append size start [] others zero count flat more = more
IsFlat-append size start [] others (suc n) count flat more = absurd (omega arith)
IsFlat-append size start (step ∷ steps) others zero count flat more = absurd (omega arith)
IsFlat-append size start (step ∷ steps) others (suc n) count flat more = (flat.0, flat.1, IsFlat-append size step.end steps others n (omega arith) flat.2 more)

slice_moved : (from to start end : ℕ) (cut edges : List ℕ) → length cut ≡ to → from ≤ start → start ≤ end → slice_range (cut ++ drop from edges) (start - from + to) (end - from + to) ≡ slice_range edges start end
slice_moved from to start end cut edges len low high =
    let size : (end - from + to) - (start - from + to) ≡ end - start = omega arith in
    let place : start - from + to ≡ length cut + (start - from) = omega arith in
    let whole : from + (start - from) ≡ start = omega arith in
    ap₂ (λ n m. take n (drop m (cut ++ drop from edges))) size place
    ∙ ap (take (end - start)) (drop-append-add cut (drop from edges) (start - from) ∙ drop-drop (start - from) from edges ∙ ap (λ n. drop n edges) whole)

bands_of-moved : (from to start : ℕ) (steps : List Step) (cut edges : List ℕ) → length cut ≡ to → from ≤ start → IsFlat (length edges) start steps → bands_of (start - from + to) (map (moved from to) steps) (cut ++ drop from edges) ≡ bands_of start steps edges
bands_of-moved from to start [] cut edges len low flat = refl
bands_of-moved from to start (step ∷ steps) cut edges len low flat =
    ap₂ (λ row bands. record { top = step.top; edges = row } ∷ bands)
    (slice_moved from to start step.end cut edges len low flat.0)
    (bands_of-moved from to step.end steps cut edges len (omega (arith, flat.0)) flat.2)

IsFlat-moved : (size from to start : ℕ) (steps : List Step) → from ≤ start → IsFlat size start steps → IsFlat (to + (size - from)) (start - from + to) (map (moved from to) steps)
IsFlat-moved size from to start [] low flat = omega arith
IsFlat-moved size from to start (step ∷ steps) low flat = (omega (arith, flat.0), omega (arith, flat.1), IsFlat-moved size from to step.end steps (omega (arith, flat.0)) flat.2)

-- an end stands behind the first edge and within the edges
end_range : (size start : ℕ) (steps : List Step) (k : ℕ) (d : Step) → IsFlat size start steps → k < length steps → (start ≤ (get_or steps k d).end) × ((get_or steps k d).end ≤ size)
end_range size start [] k d flat low = absurd (omega arith)
end_range size start (step ∷ []) zero d flat low = (flat.0, flat.1)
end_range size start (step ∷ (next ∷ steps)) zero d flat low = (flat.0, flat.1)
end_range size start (step ∷ steps) (suc k) d flat low =
    let rest = end_range size step.end steps k d flat.2 (omega arith) in (omega (arith, flat.0, rest.0), rest.1)

pub IsFlat-start : (size start : ℕ) (steps : List Step) → IsFlat size start steps → start ≤ size
IsFlat-start size start [] flat = flat
IsFlat-start size start (step ∷ steps) flat = omega (arith, flat.0, flat.1)

pub all_move : (size from to : ℕ) (steps : List Step) → to + (size - from) < 2 ^ 64 → IsFlat size from steps → All (CanMove from to) steps
all_move size from to steps fits flat = λ k d low.
    let range = end_range size from steps k d flat low in record { after = range.0; fits = omega (arith, range.0, range.1, fits) }

-- where the first of them are moved, the others are as they were
pub untouched : (f : Step → Step) (steps : List Step) (i : ℕ) (d : Step) → i < length steps → get_or (map f (take i steps) ++ drop i steps) i d ≡ get_or steps i d
untouched f [] i d low = absurd (omega arith)
untouched f (step ∷ steps) zero d low = refl
untouched f (step ∷ steps) (suc i) d low = untouched f steps i d (omega arith)

pub cut_flat : (end : ℕ) (steps : List Step) (edges cut after : List ℕ) → IsFlat (length edges) 0 steps → end ≡ start_at 0 steps (length steps) → cut ≡ take end edges → length cut ≤ length after → IsFlat (length after) 0 steps
cut_flat end steps edges cut after flat end_is cut_is more =
    let tight = IsFlat-tight (length edges) 0 steps (length steps) refl flat in
    let len = cut_length 0 end steps edges cut flat end_is cut_is in
    IsFlat-wider (start_at 0 steps (length steps)) (length after) 0 steps (omega (arith, more)) tight.0

-- bands that were put behind others
pub joined_size : (end : ℕ) (steps : List Step) (edges cut : List ℕ) (start : ℕ) (other_edges after : List ℕ) → IsFlat (length edges) 0 steps → end ≡ start_at 0 steps (length steps) → cut ≡ take end edges → after ≡ cut ++ drop start other_edges → length after ≡ end + (length other_edges - start)
joined_size end steps edges cut start other_edges after flat end_is cut_is after_is =
    let len = cut_length 0 end steps edges cut flat end_is cut_is in
    omega (arith, ap length after_is, length-append cut (drop start other_edges), length-drop start other_edges)

pub joined_flat : (end : ℕ) (steps : List Step) (edges cut : List ℕ) (start : ℕ) (others : List Step) (other_edges after : List ℕ) → IsFlat (length edges) 0 steps → end ≡ start_at 0 steps (length steps) → cut ≡ take end edges → IsFlat (length other_edges) start others → after ≡ cut ++ drop start other_edges → IsFlat (length after) 0 (steps ++ map (moved start end) others)
joined_flat end steps edges cut start others other_edges after flat end_is cut_is other_flat after_is =
    let len = cut_length 0 end steps edges cut flat end_is cut_is in
    let size : length after ≡ end + (length other_edges - start) = omega (arith, ap length after_is, length-append cut (drop start other_edges), length-drop start other_edges) in
    let place : start - start + end ≡ start_at 0 steps (length steps) = omega arith in
    let kept = IsKept-append cut (drop start other_edges) after after_is in
    IsFlat-append (length after) 0 steps (map (moved start end) others) (length steps) refl (flat_after end steps edges cut after flat end_is cut_is kept)
    (rw (size, ← place) (IsFlat-moved (length other_edges) start end start others (omega arith) other_flat))

pub joined_bands : (end : ℕ) (steps : List Step) (edges cut : List ℕ) (start : ℕ) (others : List Step) (other_edges after : List ℕ) → IsFlat (length edges) 0 steps → end ≡ start_at 0 steps (length steps) → cut ≡ take end edges → IsFlat (length other_edges) start others → after ≡ cut ++ drop start other_edges → bands_of 0 (steps ++ map (moved start end) others) after ≡ bands_of 0 steps edges ++ bands_of start others other_edges
joined_bands end steps edges cut start others other_edges after flat end_is cut_is other_flat after_is =
    let len = cut_length 0 end steps edges cut flat end_is cut_is in
    let place : start_at 0 steps (length steps) ≡ start - start + end = omega arith in
    let kept = IsKept-append cut (drop start other_edges) after after_is in
    bands_of-append 0 steps (map (moved start end) others) after (length steps) refl
    ∙ ap₂ (λ a b. a ++ b) (same_after end steps edges cut after flat end_is cut_is kept)
    (ap₂ (λ n es. bands_of n (map (moved start end) others) es) place after_is ∙ bands_of-moved start end start others cut other_edges len (omega arith) other_flat)
