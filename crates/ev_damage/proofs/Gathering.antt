-- Loops over records.
use Rattle.std.proofs.Common.{◌≡◌, ◌≢◌, ℕ, zero, suc, ◌+◌, ◌<◌, ℤ, Bool, true, false, not, ◌&&◌, ◌||◌, ◌==◌, is_some, List, [], ◌∷◌, ◌++◌, map, filter_map, length, get_or, take, drop, take-append-drop, All, subst, ap₂, Option, Some, None, refl, sym, ap, ◌∙◌, arith, cond, nat_eq}
use Rattle.std.proofs.lemmas.Bool.{eqb-true, ne_eqb}
use Rattle.std.proofs.lemmas.Grind.{common_steps}
use Rattle.std.specs.HashMap.{HashMap, get}
use Rattle.std.proofs.lemmas.List.{take_more, map-append, take-map, drop-map}
use Rattle.std.proofs.lemmas.List.Folds.{list_any-append, list_any_none}
use Rattle.std.proofs.lemmas.List.Elements.{All-drop, All-get_or}
use Rattle.std.specs.List.{list_any, cons_option, position_from}
use Rattle.ev_geom.specs.Area.{Area, holds}
use Rattle.ev_geom.specs.Bands.{has_pixel, FitsRegion, IsBanded, IsBandsOf}
use Rattle.ev_model.specs.Look.{Look, look_of}
use Rattle.ev_model.specs.declared.scene.Record.{Record}
use Rattle.ev_damage.specs.Same.{same_look}
use Rattle.ev_damage.specs.Damage.{is_kept, in_unkept}
use Rattle.ev_damage.specs.Marked.{is_marked, may_differ, AreMarked, AreKept}
use Rattle.ev_damage.specs.Places.{place_of, place_of_id, placed_at, placed, Adds, IsIndex, HaveOwnIds}
use Rattle.ev_damage.specs.declared.turned.Placed.{Placed}
use Rattle.ev_damage.proofs.Adding.{adds_none, adds_both}
use Rattle.ev_damage.proofs.Placing.{some_is, apart, record_at}
use Rattle.ev_damage.proofs.Members.{neither}

-- the looks of one more record
looks_more : (rs : List Record) (i : ℕ) (r : Record) → i < length rs → r ≡ get_or rs i r → map look_of (take (i + 1) rs) ≡ map look_of (take i rs) ++ look_of r ∷ []
looks_more rs i r inside is = ap (map look_of) (take_more rs i r inside ∙ ap (λ s. take i rs ++ s ∷ []) (sym is)) ∙ map-append look_of (take i rs) (r ∷ [])

or_false : (b : Bool) → (b || false) ≡ b
or_false true = refl
or_false false = refl

-- the unkept ones with one more
unkept_more : (others : List Look) (rs : List Record) (i : ℕ) (r : Record) (x y : ℤ) → i < length rs → r ≡ get_or rs i r
    → (in_unkept others (map look_of (take i rs)) x y || (not (is_kept others (look_of r)) && holds r.area x y)) ≡ in_unkept others (map look_of (take (i + 1) rs)) x y
unkept_more others rs i r x y inside is =
    let p : Look → Bool = λ l. not (is_kept others l) && holds l.area x y in
    sym (ap (λ ls. list_any p ls) (looks_more rs i r inside is) ∙ list_any-append p (map look_of (take i rs)) (look_of r ∷ []) ∙ ap (λ t. list_any p (map look_of (take i rs)) || t) (or_false (p (look_of r))))

-- the place that stands at the place of a record
pub place_here : (others : List Look) (rs : List Record) (places : List (Option ℕ)) (i : ℕ) (r : Record) (d : Option ℕ) → places ≡ map (place_of others) (map look_of rs) → i < length rs → r ≡ get_or rs i r → get_or places i d ≡ place_of others (look_of r)
place_here others rs places i r d all inside is =
    ap (λ ps. get_or ps i d) all ∙ mapped rs i inside ∙ ap (λ s. place_of others (look_of s)) (sym is)
  where
    mapped : (rs : List Record) (i : ℕ) → i < length rs → get_or (map (place_of others) (map look_of rs)) i d ≡ place_of others (look_of (get_or rs i r))
    mapped [] i low = absurd (omega arith)
    mapped (s ∷ rs) zero low = refl
    mapped (s ∷ rs) (suc i) low = mapped rs i (omega (arith, low))

pub unkept_step : (others : List Look) (rs : List Record) (places : List (Option ℕ)) (i : ℕ) (r : Record) (d : Option ℕ) (old now new : List Area) → Adds (in_unkept others (map look_of (take i rs))) old now → places ≡ map (place_of others) (map look_of rs) → i < length rs → r ≡ get_or rs i r
    → Adds (λ x y. not (is_some (get_or places i d)) && holds r.area x y) now new → Adds (in_unkept others (map look_of (take (i + 1) rs))) old new
unkept_step others rs places i r d old now new so_far all inside is step =
    let kept : is_some (get_or places i d) ≡ is_kept others (look_of r) = ap is_some (place_here others rs places i r d all inside is) ∙ some_is (λ m. m.id == r.id && same_look (look_of r) m) 0 others in
    adds_both (in_unkept others (map look_of (take i rs))) (λ x y. not (is_some (get_or places i d)) && holds r.area x y) (in_unkept others (map look_of (take (i + 1) rs))) old now new so_far step
    (λ x y. ap (λ t. in_unkept others (map look_of (take i rs)) x y || (not t && holds r.area x y)) kept ∙ unkept_more others rs i r x y inside is)

-- where a record has a place, nothing is added
pub adds_nothing_at : (area : Area) (old : List Area) (at : ℕ) → Adds (λ x y. not (is_some (Some at)) && holds area x y) old old
adds_nothing_at area old at = adds_none (λ x y. false) old (λ x y. refl)

filter_map-append : {X Y : Type 0} (f : X → Option Y) (xs ys : List X) → filter_map f (xs ++ ys) ≡ filter_map f xs ++ filter_map f ys
filter_map-append f [] ys = refl
filter_map-append f (x ∷ xs) ys = ap (cons_option (f x)) (filter_map-append f xs ys) ∙ go (f x) (filter_map f xs) (filter_map f ys) where
  go : {Y : Type 0} (o : Option Y) (a b : List Y) → cons_option o (a ++ b) ≡ cons_option o a ++ b
  go None a b = refl
  go (Some y) a b = refl

pub placed_more : (others : List Look) (rs : List Record) (i : ℕ) (r : Record) (now new : List Placed) → now ≡ filter_map (placed others) (map look_of (take i rs)) → i < length rs → r ≡ get_or rs i r
    → new ≡ now ++ cons_option (placed others (look_of r)) [] → new ≡ filter_map (placed others) (map look_of (take (i + 1) rs))
placed_more others rs i r now new so_far inside is e =
    e ∙ ap (λ ps. ps ++ cons_option (placed others (look_of r)) []) so_far
    ∙ sym (ap (filter_map (placed others)) (looks_more rs i r inside is) ∙ filter_map-append (placed others) (map look_of (take i rs)) (look_of r ∷ []))

pub placed_step : (others : List Look) (rs : List Record) (places : List (Option ℕ)) (i : ℕ) (r : Record) (d : Option ℕ) (now new : List Placed) → now ≡ filter_map (placed others) (map look_of (take i rs)) → places ≡ map (place_of others) (map look_of rs) → i < length rs → r ≡ get_or rs i r
    → new ≡ now ++ cons_option (placed_at r.area (get_or places i d)) [] → new ≡ filter_map (placed others) (map look_of (take (i + 1) rs))
placed_step others rs places i r d now new so_far all inside is step =
    placed_more others rs i r now new so_far inside is (step ∙ ap (λ q. now ++ cons_option (placed_at r.area q) []) (place_here others rs places i r d all inside is))

-- the first place, with one more element
last_fails : {X : Type 0} (p : X → Bool) (n : ℕ) (xs : List X) (x : X) → p x ≡ false → position_from p n (xs ++ x ∷ []) ≡ position_from p n xs
last_fails p n [] x e = rw e refl
last_fails p n (y ∷ xs) x e = ap (λ o. cond (p y) (Some n) o) (last_fails p (n + 1) xs x e)

last_passes : {X : Type 0} (p : X → Bool) (n : ℕ) (xs : List X) (x : X) → list_any p xs ≡ false → p x ≡ true → position_from p n (xs ++ x ∷ []) ≡ Some (n + length xs)
last_passes p n [] x h e = rw e (ap Some (omega arith))
last_passes p n (y ∷ xs) x h e = let r = neither (p y) (list_any p xs) h in rw r.0 (last_passes p (n + 1) xs x r.1 e ∙ ap Some (omega arith))

front_at : (ls : List Look) (i k : ℕ) (d : Look) → k < i → get_or (take i ls) k d ≡ get_or ls k d
front_at ls i k d low = grind (arith, common_steps)

any_default : (ls : List Look) (k : ℕ) (d u : Look) → k < length ls → get_or ls k d ≡ get_or ls k u
any_default ls k d u inside = grind (arith, common_steps)

-- the index with one more record
pub index_more : {S : Type 0} (rs : List Record) (i : ℕ) (r : Record) (old new : HashMap ℕ ℕ S) → HaveOwnIds (map look_of rs) → IsIndex old (map look_of (take i rs)) → i < length rs → r ≡ get_or rs i r
    → ((q : ℕ) → get nat_eq new q ≡ cond (nat_eq r.id q) (Some i) (get nat_eq old q)) → IsIndex new (map look_of (take (i + 1) rs))
index_more rs i r old new own so_far inside is put = record { places = λ q. put q ∙ go q (nat_eq r.id q) refl } where
  size : length (map look_of (take i rs)) ≡ i
  size = grind (arith, common_steps)

  none : (q : ℕ) → r.id ≡ q → list_any (λ l. l.id == q) (map look_of (take i rs)) ≡ false
  none q e = list_any_none (λ l. l.id == q) (map look_of (take i rs)) (λ k d l.
      (let low : k < i = omega (arith, l, size) in
      let here : get_or (map look_of (take i rs)) k d ≡ get_or (map look_of rs) k d = ap (λ ls. get_or ls k d) (sym (take-map look_of i rs)) ∙ front_at (map look_of rs) i k d low in
      let long : i < length (map look_of rs) = grind (arith, common_steps, inside) in
      let last : get_or (map look_of rs) i d ≡ look_of r = any_default (map look_of rs) i d (look_of r) long ∙ record_at rs i r ∙ ap look_of (sym is) in
      let other : (get_or (map look_of rs) k d).id ≢ (get_or (map look_of rs) i d).id = apart (map look_of rs) k i d own low long in
      ne_eqb (get_or (map look_of (take i rs)) k d).id q (λ s. other (ap (λ l. l.id) (sym here) ∙ s ∙ sym e ∙ ap (λ l. l.id) (sym last)))))

  go : (q : ℕ) (b : Bool) → nat_eq r.id q ≡ b → cond b (Some i) (get nat_eq old q) ≡ place_of_id (map look_of (take (i + 1) rs)) q
  go q true e = sym (ap (λ ls. place_of_id ls q) (looks_more rs i r inside is) ∙ last_passes (λ l. l.id == q) 0 (map look_of (take i rs)) (look_of r) (none q (eqb-true r.id q e)) e ∙ ap Some (omega (arith, size)))
  go q false e = so_far.places q ∙ sym (ap (λ ls. place_of_id ls q) (looks_more rs i r inside is) ∙ last_fails (λ l. l.id == q) 0 (map look_of (take i rs)) (look_of r) e)

-- what was added to nothing
pub alone : (more : ℤ → ℤ → Bool) (old new : List Area) → old ≡ [] → Adds more old new → IsBandsOf more new
alone more old new e adds =
    let none : IsBanded [] = record { bands = []; canonical = refl; listed = refl } in
    record {
      pixels = λ x y. adds.pixels x y ∙ ap (λ r. has_pixel r x y || more x y) e;
      banded = adds.banded (rw e none);
    }

-- the areas of two halves
pub halves : (others : List Look) (rs front back : List Record) (n : ℕ) (a b new : List Area) → front ≡ take n rs → back ≡ drop n rs
    → IsBandsOf (in_unkept others (map look_of front)) a → IsBandsOf (in_unkept others (map look_of back)) b → IsBandsOf (λ x y. has_pixel a x y || has_pixel b x y) new → IsBandsOf (in_unkept others (map look_of rs)) new
halves others rs front back n a b new f g one two both = record { pixels = λ x y. both.pixels x y ∙ ap₂ ◌||◌ (one.pixels x y) (two.pixels x y) ∙ joined x y; banded = both.banded } where
  whole : map look_of front ++ map look_of back ≡ map look_of rs
  whole = sym (map-append look_of front back) ∙ ap (map look_of) (ap₂ ◌++◌ f g ∙ take-append-drop n rs)

  joined : (x y : ℤ) → (in_unkept others (map look_of front) x y || in_unkept others (map look_of back) x y) ≡ in_unkept others (map look_of rs) x y
  joined x y = sym (list_any-append (λ l. not (is_kept others l) && holds l.area x y) (map look_of front) (map look_of back)) ∙ ap (λ ls. in_unkept others ls x y) whole

-- the upper half still fits
pub fit_above : (rs back : List Record) (n : ℕ) → back ≡ drop n rs → All (λ r. FitsRegion r.area) rs → All (λ r. FitsRegion r.area) back
fit_above rs back n e fit = let P : List Record → Type 0 = All (λ r. FitsRegion r.area) in subst P (sym e) (All-drop (λ r. FitsRegion r.area) n rs fit)

-- the places of one more record
pub places_more : (others : List Look) (rs : List Record) (i : ℕ) (r : Record) (p : Option ℕ) (now new : List (Option ℕ)) → now ≡ map (place_of others) (map look_of (take i rs)) → i < length rs → r ≡ get_or rs i r
    → p ≡ place_of others (look_of r) → new ≡ now ++ p ∷ [] → new ≡ map (place_of others) (map look_of (take (i + 1) rs))
places_more others rs i r p now new so_far inside is found e =
    e ∙ ap₂ (λ ps q. ps ++ q ∷ []) so_far found
    ∙ sym (ap (map (place_of others)) (looks_more rs i r inside is) ∙ map-append (place_of others) (map look_of (take i rs)) (look_of r ∷ []))

-- the places of a part of the records
pub places_front : (others : List Look) (rs front : List Record) (places part : List (Option ℕ)) (n : ℕ) → front ≡ take n rs → part ≡ take n places → places ≡ map (place_of others) (map look_of rs) → part ≡ map (place_of others) (map look_of front)
places_front others rs front places part n f e all =
    e ∙ ap (take n) all ∙ take-map (place_of others) n (map look_of rs) ∙ ap (map (place_of others)) (take-map look_of n rs ∙ ap (map look_of) (sym f))

pub places_back : (others : List Look) (rs back : List Record) (places part : List (Option ℕ)) (n : ℕ) → back ≡ drop n rs → part ≡ drop n places → places ≡ map (place_of others) (map look_of rs) → part ≡ map (place_of others) (map look_of back)
places_back others rs back places part n f e all =
    e ∙ ap (drop n) all ∙ drop-map (place_of others) n (map look_of rs) ∙ ap (map (place_of others)) (drop-map look_of n rs ∙ ap (map look_of) (sym f))

-- a record that may not differ
pub kept_here : (any : Bool) (ids : List ℕ) (others : List Look) (rs : List Record) (i : ℕ) (r : Record) → AreKept any ids others (map look_of rs) → i < length rs → r ≡ get_or rs i r → may_differ any ids r.id ≡ false → is_kept others (look_of r) ≡ true
kept_here any ids others rs i r marked inside is =
    let P : Look → Type 0 = λ l. may_differ any ids l.id ≡ false → is_kept others l ≡ true in
    let long : i < length (map look_of rs) = grind (arith, common_steps, inside) in
    let same : get_or (map look_of rs) i (look_of r) ≡ look_of r = record_at rs i r ∙ ap look_of (sym is) in
    subst P same (All-get_or P (map look_of rs) i (look_of r) long marked.kept)

-- where any may differ, or all that differ are marked
pub any_kept : (ids : List ℕ) (others looks : List Look) → AreKept true ids others looks
any_kept ids others looks = record { kept = λ k d low e. cc }

pub marked_kept : (any : Bool) (ids : List ℕ) (others looks : List Look) → AreMarked ids others looks → AreKept any ids others looks
marked_kept any ids others looks marked = record { kept = λ k d low e. marked.kept k d low (neither any (is_marked ids (get_or looks k d).id) e).1 }
