-- Lists that are written piece by piece.
use Rattle.std.proofs.Common.{◌≡◌, ℕ, suc, ◌+◌, ◌<◌, List, [], ◌∷◌, ◌++◌, Option, Result, Ok, Err, OnErr, length, get_or, take, drop, map, ap, ◌∙◌, sym, subst, drop-cons, arith}
use Rattle.std.specs.List.{flat_map, range_with_len}
use Rattle.std.proofs.lemmas.List.{take-append-drop, append-nil}
use Rattle.std.proofs.lemmas.List.FromFn.{map-range_with_len_more, take-map-range_with_len, get_or-map-range_with_len, length-map-range_with_len}
use Rattle.ev_model.specs.Answer.{Answer}
use Rattle.ev_model.specs.Text.{reply_text, text}
use Rattle.std.proofs.lemmas.Grind.{flat_map-append}
use Rattle.ev_port.specs.Told.{GrowsBy, GrowsPart, grows_on, grows_by_none, part_of_front, whole_then_part}
use Rattle.ev_script.specs.Outside.{Writes}

-- replies that are written are those that they are equal to
pub retold : {T E : Type 0} {log log' : Option (List ℕ)} {result : Result T E} (replies told : List Answer) → replies ≡ told → Writes log log' (text replies) result → Writes log log' (text told) result
retold {log = log} {log' = log'} {result = result} replies told same writes = subst (λ rs. Writes log log' (text rs) result) same writes

-- no replies are written by nothing
pub untold : {T E : Type 0} {log : Option (List ℕ)} {done : T} (told : List Answer) → [] ≡ told → Writes {T = T} {E = E} log log (text told) (Ok done)
untold {T = T} {E = E} {log = log} {done = done} told none = subst (λ rs. Writes {T = T} {E = E} log log (text rs) (Ok done)) none (record { whole = grows_by_none log; part = tt })

-- what holds at each error holds at this one
pub on_err_always : {T E P : Type 0} (result : Result T E) → P → OnErr result P
on_err_always (Ok value) holds = tt
on_err_always (Err error) holds = holds

-- the first i pieces were written whole, and of the next one a front
pub cut_at : {A : Type 0} (f : A → List ℕ) (xs : List A) (i : ℕ) (x : A) (a b c : Option (List ℕ)) → i < length xs → GrowsBy a b (flat_map f (take i xs)) → GrowsPart b c (f (get_or xs i x)) → GrowsPart a c (flat_map f xs)
cut_at f xs i x a b c below whole part =
    let here = get_or xs i x in
    let split : take i xs ++ here ∷ drop (suc i) xs ≡ xs = ap (λ rest. take i xs ++ rest) (sym (drop-cons xs i x below)) ∙ take-append-drop i xs in
    let joined : flat_map f (take i xs) ++ (f here ++ flat_map f (drop (suc i) xs)) ≡ flat_map f xs = sym (flat_map-append f (take i xs) (here ∷ drop (suc i) xs)) ∙ ap (flat_map f) split in
    subst (λ all. GrowsPart a c all) joined (whole_then_part whole (part_of_front (flat_map f (drop (suc i) xs)) part))

-- replies by number: one more of them
pub replies_more : (reply : ℕ → Answer) (n : ℕ) (a b c : Option (List ℕ)) → GrowsBy a b (text (map reply (range_with_len 0 n))) → GrowsBy b c (reply_text (reply n)) → GrowsBy a c (text (map reply (range_with_len 0 (n + 1))))
replies_more reply n a b c whole next =
    let more : text (map reply (range_with_len 0 (n + 1))) ≡ text (map reply (range_with_len 0 n)) ++ reply_text (reply n) =
    ap text (map-range_with_len_more reply 0 n n (omega arith))
    ∙ flat_map-append reply_text (map reply (range_with_len 0 n)) (reply n ∷ [])
    ∙ ap (λ t. text (map reply (range_with_len 0 n)) ++ t) (append-nil (reply_text (reply n))) in
    subst (λ all. GrowsBy a c all) (sym more) (grows_on whole next)

-- and a front of the next
pub replies_cut : (reply : ℕ → Answer) (n count : ℕ) (a b c : Option (List ℕ)) → n < count → GrowsBy a b (text (map reply (range_with_len 0 n))) → GrowsPart b c (reply_text (reply n)) → GrowsPart a c (text (map reply (range_with_len 0 count)))
replies_cut reply n count a b c below whole part =
    let replies = map reply (range_with_len 0 count) in
    let front : map reply (range_with_len 0 n) ≡ take n replies = sym (take-map-range_with_len reply 0 count n (omega arith)) in
    let here : reply n ≡ get_or replies n (reply n) = sym (get_or-map-range_with_len reply 0 count n n (reply n) below (omega arith)) in
    let inside : n < length replies = omega (arith, below, length-map-range_with_len reply 0 count) in
    cut_at reply_text replies n (reply n) a b c inside (subst (λ rs. GrowsBy a b (text rs)) front whole) (subst (λ r. GrowsPart b c (reply_text r)) here part)
