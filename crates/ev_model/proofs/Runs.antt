-- Lists that are written from the left, with a function of the place.
use Rattle.std.proofs.Common.{◌≡◌, ℕ, zero, suc, ◌+◌, ◌<◌, ◌≤◌, List, [], ◌∷◌, ◌++◌, map, length, get_or, take, drop, set, replicate, refl, sym, ap, ◌∙◌, arith, append_assoc}
use Rattle.std.specs.List.{range_with_len}
use Rattle.std.proofs.lemmas.List.{drop_more, set_at, take_all, replicate_more, length-replicate, length-map, map_more, length-append, length-take, length-drop}
use Rattle.std.proofs.lemmas.List.FromFn.{length-map-range_with_len, map-range_with_len_more}
use Rattle.std.proofs.lemmas.Slice.{take-put_mid}
use borrow.Rule.Slice.PartMut.{put_mid}

-- one more place is written
pub run_more : {X : Type 0} (f : ℕ → X) (xs ys : List X) (from k : ℕ) (x : X) → k < length xs → ys ≡ map f (range_with_len from k) ++ drop k xs → x ≡ f (from + k)
    → set ys k x ≡ map f (range_with_len from (k + 1)) ++ drop (k + 1) xs
run_more f xs ys from k x within so_far is =
    rw (so_far, drop_more xs k x within, set_at (map f (range_with_len from k)) _ (drop (k + 1) xs) x k (length-map-range_with_len f from k), is, map-range_with_len_more f from k (from + k) refl, append_assoc) refl

-- the same where all places get one value
pub constant_more : {X : Type 0} (x y : X) (xs ys : List X) (k : ℕ) → k < length xs → ys ≡ replicate k x ++ drop k xs → y ≡ x → set ys k y ≡ replicate (k + 1) x ++ drop (k + 1) xs
constant_more x y xs ys k within so_far is =
    rw (so_far, drop_more xs k x within, set_at (replicate k x) _ (drop (k + 1) xs) y k (length-replicate k x), is, sym (replicate_more k x), append_assoc) refl

-- the same where each place gets what belongs to the same place of another list
pub copy_more : {X Y : Type 0} (f : X → Y) (from : List X) (xs ys : List Y) (k : ℕ) (x : X) → k < length from → k < length xs → ys ≡ map f (take k from) ++ drop k xs → x ≡ get_or from k x
    → set ys k (f x) ≡ map f (take (k + 1) from) ++ drop (k + 1) xs
copy_more f from xs ys k x inside within so_far is =
    let len : length (map f (take k from)) ≡ k = omega (arith, length-map (take k from) f, length-take k from) in
    let more : map f (take (k + 1) from) ≡ map f (take k from) ++ f x ∷ [] = map_more f from k x inside ∙ ap (λ (y : _). map f (take k from) ++ f y ∷ []) (sym is) in
    rw (so_far, drop_more xs k (f x) within, set_at (map f (take k from)) _ (drop (k + 1) xs) (f x) k len, more, append_assoc) refl

-- two runs, one behind the other
pub run_join : {X : Type 0} (f : ℕ → X) (from n m : ℕ) → map f (range_with_len from (n + m)) ≡ map f (range_with_len from n) ++ map f (range_with_len (from + n) m)
run_join f from zero m =
    let e : 0 + m ≡ m = omega arith in
    let g : from + 0 ≡ from = omega arith in
    rw (e, g) refl
run_join f from (suc n) m =
    let e : suc n + m ≡ suc (n + m) = omega arith in
    let g : from + suc n ≡ from + 1 + n = omega arith in
    rw (e, g) (ap (λ (xs : List _). f from ∷ xs) (run_join f (from + 1) n m))

-- a run is written behind those before it, in place of as many
pub run_put : {X : Type 0} (f : ℕ → X) (xs ys : List X) (from at n : ℕ) → at + n ≤ length xs → take at xs ≡ map f (range_with_len from at) → ys ≡ map f (range_with_len (from + at) n)
    → take (at + n) (put_mid at n xs ys) ≡ map f (range_with_len from (at + n))
run_put f xs ys from at n within so_far is =
    let len : length ys ≡ n = ap length is ∙ length-map-range_with_len f (from + at) n in
    take-put_mid at n xs ys (at + n) (omega arith) (omega arith) ∙ (rw (so_far, is) (sym (run_join f from at n)))

-- runs of equal functions are equal
pub run_same : {X : Type 0} (f g : ℕ → X) (from to n : ℕ) → ((k : ℕ) → k < n → f (from + k) ≡ g (to + k)) → map f (range_with_len from n) ≡ map g (range_with_len to n)
run_same f g from to zero same = refl
run_same f g from to (suc n) same =
    let first : f from ≡ g to = first_same (same 0 (omega arith)) in
    let rest = run_same f g (from + 1) (to + 1) n (λ k h. step k h) in
    cc
  where
    first_same : f (from + 0) ≡ g (to + 0) → f from ≡ g to
    first_same e = let a : from + 0 ≡ from = omega arith in let b : to + 0 ≡ to = omega arith in rw (a, b) at e

    step : (k : ℕ) → k < n → f (from + 1 + k) ≡ g (to + 1 + k)
    step k h = let a : from + suc k ≡ from + 1 + k = omega arith in let b : to + suc k ≡ to + 1 + k = omega arith in rw (a, b) at (same (suc k) (omega arith))

-- a run of one value
pub run_constant : {X : Type 0} (f : ℕ → X) (from n : ℕ) (x : X) → ((k : ℕ) → k < n → f (from + k) ≡ x) → map f (range_with_len from n) ≡ replicate n x
run_constant f from zero x same = refl
run_constant f from (suc n) x same =
    let first : f from ≡ x = first_same (same 0 (omega arith)) in
    let rest = run_constant f (from + 1) n x (λ k h. step k h) in
    cc
  where
    first_same : f (from + 0) ≡ x → f from ≡ x
    first_same e = let a : from + 0 ≡ from = omega arith in rw a at e

    step : (k : ℕ) → k < n → f (from + 1 + k) ≡ x
    step k h = let a : from + suc k ≡ from + 1 + k = omega arith in rw a at (same (suc k) (omega arith))

-- a run leaves the length as it is
pub length-put_run : {X : Type 0} (f : ℕ → X) (xs ys : List X) (from at n : ℕ) → at + n ≤ length xs → ys ≡ map f (range_with_len from n) → length (put_mid at n xs ys) ≡ length xs
length-put_run f xs ys from at n within is =
    let len : length ys ≡ n = ap length is ∙ length-map-range_with_len f from n in
    omega (arith, length-append (take at xs) (ys ++ drop n (drop at xs)), length-append ys (drop n (drop at xs)), length-take at xs, length-drop n (drop at xs), length-drop at xs)

-- the last run is written
pub run_end : {X : Type 0} (f : ℕ → X) (xs ys : List X) (from at n : ℕ) → at + n ≡ length xs → take at xs ≡ map f (range_with_len from at) → ys ≡ map f (range_with_len (from + at) n)
    → put_mid at n xs ys ≡ map f (range_with_len from (length xs))
run_end f xs ys from at n all so_far is =
    let len = length-put_run f xs ys (from + at) at n (omega arith) is in
    let whole : take (at + n) (put_mid at n xs ys) ≡ put_mid at n xs ys = take_all (at + n) (put_mid at n xs ys) (omega arith) in
    sym whole ∙ run_put f xs ys from at n (omega arith) so_far is ∙ ap (λ (k : ℕ). map f (range_with_len from k)) all
