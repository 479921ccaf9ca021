-- Lists that are written piece by piece.
use Rattle.std.proofs.Common.{◌≡◌, ℕ, suc, ◌<◌, List, ◌∷◌, ◌++◌, Option, Result, Ok, Err, OnErr, length, get_or, take, drop, ap, ◌∙◌, sym, subst, drop-cons, flat_map}
use Rattle.std.proofs.lemmas.List.{take-append-drop}
use Rattle.std.proofs.lemmas.Grind.{flat_map-append}
use Rattle.ev_port.specs.Told.{GrowsBy, GrowsPart, part_of_front, whole_then_part}

-- what holds at each error holds at this one
pub on_err_always : {T E P : Type 0} (result : Result T E) → P → OnErr result P
on_err_always (Ok value) holds = tt
on_err_always (Err error) holds = holds

-- the first i pieces were written whole, and of the next one a front
pub cut_at : {A : Type 0} (f : A → List ℕ) (xs : List A) (i : ℕ) (x : A) (piece : List ℕ) (a b c : Option (List ℕ)) → i < length xs → x ≡ get_or xs i x → piece ≡ f x → GrowsBy a b (flat_map f (take i xs)) → GrowsPart b c piece → GrowsPart a c (flat_map f xs)
cut_at f xs i x piece a b c below here is whole part =
    let rest = drop (suc i) xs in
    let split : take i xs ++ x ∷ rest ≡ xs = ap (λ y. take i xs ++ y ∷ rest) here ∙ ap (λ tail. take i xs ++ tail) (sym (drop-cons xs i x below)) ∙ take-append-drop i xs in
    let joined : flat_map f (take i xs) ++ (f x ++ flat_map f rest) ≡ flat_map f xs = sym (flat_map-append f (take i xs) (x ∷ rest)) ∙ ap (flat_map f) split in
    subst (λ all. GrowsPart a c all) joined (whole_then_part whole (part_of_front (flat_map f rest) (subst (λ text. GrowsPart b c text) is part)))
