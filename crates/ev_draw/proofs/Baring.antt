-- Sets of places, cleared run by run.
use Rattle.std.proofs.Common.{ℕ, zero, suc, ◌≡◌, ◌+◌, ◌-◌, ◌*◌, ◌<◌, ◌≤◌, Bool, true, false, List, refl, sym, ap, ◌∙◌, subst, ⊎_elim, add-one, arith}
use Rattle.std.specs.Prelude.{if◌then◌else◌, slice_index, Option, Some, None}
use Rattle.std.proofs.lemmas.Bool.{cases_lt}
use Rattle.ev_region.specs.Count.{sum_below}
use Rattle.ev_argb.specs.Argb.{clear}
use Rattle.ev_argb.specs.Tile.{Tile}
use Rattle.ev_cmds.specs.Masks.{is_set, IsRun, IsNextRun}
use Rattle.ev_cmds.specs.Patches.{one}
use Rattle.ev_cmds.specs.declared.mask.Run.{Run}
use Rattle.ev_cmds.specs.declared.patch.Patch.{Patch}
use Rattle.ev_draw.specs.Making.{Paints, Clears, span, above, whole, LiesInRow, row_count, rows_count, cleared_in, cleared_at}
use Rattle.ev_draw.proofs.Patching.{has_is, repainted, left_alone, columns_more, row_more}

more_below : (f : ℕ → ℕ) (a b : ℕ) → a ≤ b → sum_below a f ≤ sum_below b f
unfolding sum_below
more_below f a zero h = let e : a ≡ 0 = omega arith in rw e (omega arith)
more_below f a (suc b) h =
    ⊎_elim
    (λ (l : b < a). let e : a ≡ suc b = omega arith in rw e (omega arith))
    (λ (g : a ≤ b). let rest = more_below f a b g in omega arith)
    (cases_lt b a)

same_below : (word from to : ℕ) (bit : Bool) → from ≤ to → ((x : ℕ) → from ≤ x → x < to → is_set word x ≡ bit) → row_count word to ≡ row_count word from + one bit * (to - from)
unfolding sum_below
same_below word from zero bit h same = let e : from ≡ 0 = omega arith in rw e (omega arith)
same_below word from (suc to) bit h same =
    ⊎_elim
    (λ (l : to < from). let e : from ≡ suc to = omega arith in let z : suc to - suc to ≡ 0 = omega arith in rw (e, z) (omega arith))
    (λ (g : from ≤ to).
    let rest = same_below word from to bit g (λ x a b. same x a (omega arith)) in
    let last : one (is_set word to) ≡ one bit = ap one (same to g (omega arith)) in
    let n : suc to - from ≡ to - from + 1 = omega arith in
    let m : one bit * (to - from + 1) ≡ one bit * (to - from) + one bit = omega arith in
    rw n (omega arith))
    (cases_lt to from)

-- a run, with the columns before it
run_count : (word from : ℕ) (run : Run) → IsRun word from run → row_count word run.right ≡ row_count word from + (run.right - run.left)
run_count word from run r =
    let before = same_below word from run.left false r.after r.before in
    let inside = same_below word run.left run.right true (omega (arith, r.some)) r.inside in
    omega (arith, before, inside)

pub run_fits : (word from : ℕ) (run : Run) → IsRun word from run → row_count word from + (run.right - run.left) ≤ row_count word 64
run_fits word from run r =
    let all = more_below (λ x. one (is_set word x)) run.right 64 r.within in
    let count = run_count word from run r in
    omega (arith, all, count)

-- a run lies in a row where its set columns do
pub last_within : (word from : ℕ) (run : Run) (w : ℕ) → IsRun word from run → LiesInRow w word → run.left + (run.right - run.left) ≤ w
last_within word from run w r lies =
    let some = r.some in let within = r.within in
    let last : run.right - 1 < w = lies (run.right - 1) (omega arith) (r.inside (run.right - 1) (omega arith) (omega arith)) in
    omega arith

-- the columns up to the end of a run
pub run_more : (word y from : ℕ) (run : Run) (old now new : Tile) → IsRun word from run → Paints (span 0 y from) (cleared_in word) (row_count word from) old now
    → Paints (span run.left y (run.right - run.left)) (λ x y value. clear) (run.right - run.left) now new → Paints (span 0 y run.right) (cleared_in word) (row_count word run.right) old new
run_more word y from run old now new r before painted =
    let gap : Paints (span from y (run.left - from)) (cleared_in word) 0 now now =
    left_alone (span from y (run.left - from)) (cleared_in word) 0 now (λ i j value has.
    let l = has.left in let g = has.right in let a = r.after in
    ap (λ (b : Bool). if b then clear else value) (r.before i l (omega arith))) in
    let run_cleared : Paints (span run.left y (run.right - run.left)) (cleared_in word) (run.right - run.left) now new =
    repainted (span run.left y (run.right - run.left)) (span run.left y (run.right - run.left)) (λ x y value. clear) (cleared_in word) _ _ now new refl refl
    (λ i j value has. let l = has.left in let g = has.right in let a = r.some in
    sym (ap (λ (b : Bool). if b then clear else value) (r.inside i l (omega arith)))) painted in
    let a = r.after in let s = r.some in
    columns_more 0 y run.left run.left (run.right - run.left) run.right (row_count word from) (run.right - run.left) (row_count word run.right) (cleared_in word) old now new (omega arith) (omega arith) (run_count word from run r)
    (columns_more 0 y from from (run.left - from) run.left (row_count word from) 0 (row_count word from) (cleared_in word) old now now (omega arith) (omega arith) (omega arith) before gap)
    run_cleared

-- what no run is left says
pub none_next : (word from : ℕ) (found : Option Run) → IsNextRun word from found → ((run : Run) → found ≡ Some run → ⊥) → (x : ℕ) → from ≤ x → x < 64 → is_set word x ≡ false
none_next word from None next none = next
none_next word from (Some run) next none = absurd (none run refl)

-- no run is left
pub no_run : (word y from : ℕ) (old new : Tile) → from ≤ 64 → ((x : ℕ) → from ≤ x → x < 64 → is_set word x ≡ false) → Paints (span 0 y from) (cleared_in word) (row_count word from) old new → Paints (span 0 y 64) (cleared_in word) (row_count word 64) old new
no_run word y from old new h none before =
    let gap : Paints (span from y (64 - from)) (cleared_in word) 0 new new =
    left_alone (span from y (64 - from)) (cleared_in word) 0 new (λ i j value has.
    let l = has.left in let g = has.right in
    ap (λ (b : Bool). if b then clear else value) (none i l (omega arith))) in
    let count = same_below word from 64 false h none in
    columns_more 0 y from from (64 - from) 64 (row_count word from) 0 (row_count word 64) (cleared_in word) old new new (omega arith) (omega arith) (omega (arith, count)) before gap

rows_suc : (bare : List ℕ) (y : ℕ) → rows_count bare (suc y) ≡ rows_count bare y + row_count (slice_index bare y) 64
unfolding sum_below
rows_suc bare y = refl

rows_next : (bare : List ℕ) (y : ℕ) → rows_count bare (y + 1) ≡ rows_count bare y + row_count (slice_index bare y) 64
rows_next bare y = subst (λ (n : ℕ). rows_count bare n ≡ rows_count bare y + row_count (slice_index bare y) 64) (sym (add-one y)) (rows_suc bare y)

pub rows_fit : (bare : List ℕ) (y : ℕ) → y < 64 → rows_count bare y + row_count (slice_index bare y) 64 ≤ rows_count bare 64
rows_fit bare y h =
    let all = more_below (λ y. row_count (slice_index bare y) 64) (y + 1) 64 (omega arith) in
    let next = rows_next bare y in
    omega (arith, all, next)

-- one more row of a set
pub row_cleared : (bare : List ℕ) (y word row : ℕ) (old now new : Tile) → word ≡ slice_index bare y → row ≡ y → Paints (above whole y) (cleared_at bare) (rows_count bare y) old now
    → Paints (span 0 row 64) (cleared_in word) (row_count word 64) now new → Paints (above whole (y + 1)) (cleared_at bare) (rows_count bare (y + 1)) old new
row_cleared bare y word row old now new is here before cleared =
    let line : Patch = record { left = 0; right = 64; top = y; bottom = y + 1 } in
    let more = row_more whole (cleared_at bare) y (rows_count bare y) (row_count word 64) old now new (omega arith) before
    (repainted (span 0 row 64) line (cleared_in word) (cleared_at bare) (row_count word 64) (row_count word 64) now new (ap (λ (k : ℕ). span 0 k 64) here) refl
    (λ i j value has.
    let at : j ≡ y = (let t = has.top in let b = has.bottom in omega arith) in
    ap (λ (w : ℕ). cleared_in w i j value) is ∙ sym (ap (λ (k : ℕ). cleared_at bare i k value) at))
    cleared) in
    repainted (above whole (y + 1)) (above whole (y + 1)) (cleared_at bare) (cleared_at bare) (rows_count bare y + row_count word 64) (rows_count bare (y + 1)) old new refl
    (ap (λ (w : ℕ). rows_count bare y + row_count w 64) is ∙ sym (rows_next bare y)) (λ i j value has. refl) more

pub all_cleared : (bare : List ℕ) (y : ℕ) (old new : Tile) → y ≡ 64 → Paints (above whole y) (cleared_at bare) (rows_count bare y) old new → Clears bare old new
all_cleared bare y old new e h =
    let all : Paints whole (cleared_at bare) (rows_count bare 64) old new = repainted (above whole y) whole (cleared_at bare) (cleared_at bare) _ _ old new (ap (λ (k : ℕ). above whole k) e) (ap (rows_count bare) e) (λ i j value has. refl) h in
    record {
      width = all.width;
      height = all.height;
      pixels = λ x y w h right bottom. all.inside x y w h (has_is whole x y (record { left = omega arith; right = right; top = omega arith; bottom = bottom }));
      count = all.count;
    }
