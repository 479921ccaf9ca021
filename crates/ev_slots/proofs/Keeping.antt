-- Things that are kept in places, as a list by their ids.
use Rattle.std.proofs.Common.{IsSome, ◌≡◌, ◌≢◌, ◌⊎◌, ℕ, zero, suc, ◌+◌, ◌-◌, min, ◌^◌, true, false, cond, ◌<◌, ◌≤◌, ◌==◌, if◌then◌else◌, List, [], ◌∷◌, ◌++◌, length, Option, Some, None, nat_eq, inl, inr, refl, sym, ap, ◌∙◌, subst, length-append, arith}
use Rattle.std.specs.Option.{option_and_then, option_map}
use Rattle.std.proofs.Math.Nat.{min-le_left}
use Rattle.std.proofs.lemmas.Bool.{cases_lt}
use Rattle.std.proofs.lemmas.Bool.Decides.{nat_tests, eqb_tells}
use Rattle.std.proofs.lemmas.List.{length-set}
use Rattle.std.proofs.lemmas.Option.{none-some, same_Some}
use Rattle.ev_slots.specs.Slots.{of_id, put, live}
use Rattle.ev_slots.specs.KeptPlaces.{id_in, thing_in, thing_of, up_to, IsKept, Enters}
use Rattle.ev_slots.specs.declared.slots.Entry.{Entry}
use Rattle.ev_slots.proofs.Places.{of_id_end, of_id_given, same_slots, live_none, live_filled, live_put, live_taken, not_given, put_last}

itself : (n : ℕ) → (n == n) ≡ true
itself n = grind (arith, nat_tests)

turned : (a b : ℕ) → nat_eq a b ≡ (b == a)
turned a b = grind (arith, nat_tests)

module _ {T : Type 0} where
  -- nothing stands but for the ids from 1 to n
  abbrev pub AreGiven : (ℕ → Option T) → ℕ → Type 0
  AreGiven things n = (id : ℕ) (x : T) → things id ≡ Some x → (1 ≤ id) × (id ≤ n)

  pub length_up_to : (things : ℕ → Option T) (n : ℕ) → length (up_to things n) ≡ n
  length_up_to things zero = refl
  length_up_to things (suc n) = let more = length-append (up_to things n) (things (suc n) ∷ []) in let rest = length_up_to things n in omega (arith, more, rest)

  within : (things : ℕ → Option T) (n id : ℕ) → 1 ≤ id → id ≤ n → of_id (up_to things n) id ≡ things id
  within things zero id low high = absurd (omega (arith, low, high))
  within things (suc n) id low high =
      of_id_end (up_to things n) id (things (suc n)) ∙ ap (λ l. if id == l + 1 then things (suc n) else of_id (up_to things n) id) (length_up_to things n)
      ∙ elim (eqb_tells id (n + 1)) [
        | inl here ↦ let e : suc n ≡ id = (let is = here.1 in omega (arith, is)) in rw here.0 (ap things e)
        | inr differ ↦ let apart = differ.1 in rw differ.0 (within things n id low (omega (arith, high, apart)))
      ]

  -- what stands for each id
  pub reads : (things : ℕ → Option T) (n : ℕ) → AreGiven things n → (id : ℕ) → of_id (up_to things n) id ≡ things id
  reads things n given id = go (things id) refl where
    go : (x : Option T) → things id ≡ x → of_id (up_to things n) id ≡ things id
    go (Some x) is = let at = given id x is in within things n id at.0 at.1
    go None is = none (cases_lt n id) ∙ sym is where
      none : (n < id) ⊎ (id ≤ n) → of_id (up_to things n) id ≡ None
      none (inl past) = not_given (up_to things n) id (subst (λ l. l < id) (sym (length_up_to things n)) past)
      none (inr high) = elim (cases_lt 0 id) [ inl low ↦ within things n id (omega (arith, low)) high ∙ is | inr zero_id ↦ let e : 0 ≡ id = omega (arith, zero_id) in subst (λ id. of_id (up_to things n) id ≡ None) e refl ]

  -- one more id is given
  pub one_more : (things : ℕ → Option T) (n : ℕ) → AreGiven things n → up_to things (n + 1) ≡ up_to things n ++ None ∷ []
  one_more things n given = let e : n + 1 ≡ suc n = omega arith in ap (up_to things) e ∙ ap (λ x. up_to things n ++ x ∷ []) (none (things (suc n)) refl) where
    none : (x : Option T) → things (suc n) ≡ x → things (suc n) ≡ None
    none None is = is
    none (Some x) is = let high = (given (suc n) x is).1 in absurd (omega (arith, high))

  pub same_things : (things things' : ℕ → Option T) (n : ℕ) → ((id : ℕ) → things' id ≡ things id) → up_to things' n ≡ up_to things n
  same_things things things' n same = ap (λ (f : ℕ → Option T). up_to f n) (λ i id. same id i)

  -- something else for one id
  pub one_else : (things things' : ℕ → Option T) (n id : ℕ) (y : Option T) → AreGiven things n → AreGiven things' n → 1 ≤ id → id ≤ n
      → ((other : ℕ) → things' other ≡ (if other == id then y else things other)) → up_to things' n ≡ put (up_to things n) id y
  one_else things things' n id y given given' low high else_ =
      same_slots (up_to things' n) (put (up_to things n) id y)
      (length_up_to things' n ∙ sym (length_up_to things n) ∙ sym (length-set (up_to things n) _ y))
      (λ q. reads things' n given' q ∙ else_ q ∙ sym (of_id_given (up_to things n) id q y low (subst (λ l. id ≤ l) (sym (length_up_to things n)) high) ∙ ap (λ x. if q == id then y else x) (reads things n given q)))

module _ {T : Type 0} (given : ℕ) (p : ℕ → Option ℕ) (e : ℕ → Option (Entry T)) (taken : ℕ) (kept : IsKept given p e taken) where
  pub are_given : AreGiven (thing_of p e) given
  are_given id x h = go (p id) refl h where
    go : (q : Option ℕ) → p id ≡ q → thing_in (option_and_then e q) ≡ Some x → (1 ≤ id) × (id ≤ given)
    go None is h = absurd (none-some x h)
    go (Some place) is h = (kept.low id place is, kept.high id place is)

  -- what stands for an id
  pub stands : (id : ℕ) → of_id (up_to (thing_of p e) given) id ≡ thing_of p e id
  stands = reads (thing_of p e) given are_given

  -- one more id is given
  pub more_given : given + 1 ≤ 2 ^ 62 → IsKept (given + 1) p e taken
  more_given few = record {
    few = few;
    low = kept.low;
    high = λ id place is. let h = kept.high id place is in omega (arith, h);
    leads = kept.leads;
    back = kept.back;
    count = kept.count ∙ sym (ap (λ s. length (live s)) (one_more (thing_of p e) given are_given) ∙ live_none (up_to (thing_of p e) given));
  }

  -- what is read for an id, as the list is seen
  pub reads_none : (seen : List (Option T)) (id : ℕ) → up_to (thing_of p e) given ≡ seen → p id ≡ None → of_id seen id ≡ None
  reads_none seen id is none = ap (λ s. of_id s id) (sym is) ∙ stands id ∙ ap (λ q. thing_in (option_and_then e q)) none

  pub reads_place : (seen : List (Option T)) (id place : ℕ) (x : Option (Entry T)) → up_to (thing_of p e) given ≡ seen → p id ≡ Some place → e place ≡ x → of_id seen id ≡ thing_in x
  reads_place seen id place x is leads there = ap (λ s. of_id s id) (sym is) ∙ stands id ∙ ap (λ q. thing_in (option_and_then e q)) leads ∙ ap thing_in there

  -- where an id leads there is a thing
  pub has_entry : (id place : ℕ) → p id ≡ Some place → IsSome (e place)
  has_entry id place leads = go (e place) (kept.leads id place leads) where
    go : (x : Option (Entry T)) → id_in x ≡ Some id → IsSome x
    go None h = absurd (none-some id h)
    go (Some x) h = refl

  -- an id without a thing leads nowhere
  pub leads_nowhere : (id : ℕ) → of_id (up_to (thing_of p e) given) id ≡ None → p id ≡ None
  leads_nowhere id none = go (p id) refl where
    there : (place : ℕ) (x : Option (Entry T)) → e place ≡ x → id_in x ≡ Some id → thing_in x ≡ None → ⊥
    there place None is led gone = none-some id led
    there place (Some x) is led gone = none-some x.thing (sym gone)

    go : (q : Option ℕ) → p id ≡ q → p id ≡ None
    go None is = is
    go (Some place) is =
        absurd (there place (e place) refl (kept.leads id place is) (sym (ap (λ q. thing_in (option_and_then e q)) is) ∙ sym (stands id) ∙ none))

  -- the place of an id, and the id of that place, are changed together
  module _ (id place : ℕ) (y : Option T) (p' : ℕ → Option ℕ) (e' : ℕ → Option (Entry T)) (low : 1 ≤ id) (high : id ≤ given)
      (own : (q : ℕ) → p q ≡ Some place → q ≡ id) (only : (q : ℕ) → p id ≡ Some q → q ≡ place)
      (ps : (q : ℕ) → p' q ≡ (if q == id then option_map (λ _. place) y else p q))
      (es : (q : ℕ) → e' q ≡ (if q == place then option_map (λ t. record { id = id; thing = t }) y else e q)) where
    p_there : p' id ≡ option_map (λ _. place) y
    p_there = ps id ∙ ap (λ b. if b then option_map (λ _. place) y else p id) (itself id)

    e_there : e' place ≡ option_map (λ t. record { id = id; thing = t }) y
    e_there = es place ∙ ap (λ b. if b then option_map (λ t. record { id = id; thing = t }) y else e place) (itself place)

    p_else : (q : ℕ) → (q == id) ≡ false → p' q ≡ p q
    p_else q apart = ps q ∙ ap (λ b. if b then option_map (λ _. place) y else p q) apart

    e_else : (q : ℕ) → q ≢ place → e' q ≡ e q
    e_else q apart = es q ∙ elim (eqb_tells q place) [ inl here ↦ absurd (apart here.1) | inr differ ↦ rw differ.0 refl ]

    thing_there : (z : Option T) → y ≡ z → thing_in (option_and_then e' (option_map (λ _. place) z)) ≡ z
    thing_there None is = refl
    thing_there (Some t) is = ap thing_in e_there ∙ ap (λ y. thing_in (option_map (λ t. record { id = id; thing = t }) y)) is

    thing_else : (q : ℕ) (r : Option ℕ) → q ≢ id → p q ≡ r → thing_in (option_and_then e' r) ≡ thing_in (option_and_then e r)
    thing_else q None apart is = refl
    thing_else q (Some r) apart is = ap thing_in (e_else r (λ same. apart (own q (is ∙ ap Some same))))

    pub things_changed : (q : ℕ) → thing_of p' e' q ≡ (if q == id then y else thing_of p e q)
    things_changed q =
        elim (eqb_tells q id) [
          | inl here ↦ rw here.0 (subst (λ q. thing_of p' e' q ≡ y) (sym here.1) (ap (λ r. thing_in (option_and_then e' r)) p_there ∙ thing_there y refl))
          | inr differ ↦ rw differ.0 (ap (λ r. thing_in (option_and_then e' r)) (p_else q differ.0) ∙ thing_else q (p q) differ.1 refl)
        ]

    given_still : AreGiven (thing_of p' e') given
    given_still q x h =
        elim (eqb_tells q id) [
          | inl here ↦ (subst (λ q. 1 ≤ q) (sym here.1) low, subst (λ q. q ≤ given) (sym here.1) high)
          | inr differ ↦ are_given q x (sym (things_changed q ∙ ap (λ b. if b then y else thing_of p e q) differ.0) ∙ h)
        ]

    -- the list has something else for this id
    pub list_changed : up_to (thing_of p' e') given ≡ put (up_to (thing_of p e) given) id y
    list_changed = one_else (thing_of p e) (thing_of p' e') given id y are_given given_still low high things_changed

    leads_there : (z : Option T) (r : ℕ) → y ≡ z → option_map (λ _. place) z ≡ Some r → id_in (e' r) ≡ Some id
    leads_there None r is h = absurd (none-some r h)
    leads_there (Some t) r is h =
        subst (λ r. id_in (e' r) ≡ Some id) (same_Some place r h) (ap id_in (e_there ∙ ap (option_map (λ t. record { id = id; thing = t })) is))

    back_there : (z : Option T) (x : Entry T) → y ≡ z → option_map (λ t. record { id = id; thing = t }) z ≡ Some x → p' x.id ≡ Some place
    back_there None x is h = absurd (none-some x h)
    back_there (Some t) x is h =
        subst (λ (x : Entry T). p' x.id ≡ Some place) (same_Some (record { id = id; thing = t }) x h) (p_there ∙ ap (option_map (λ _. place)) is)

    pub changed : (taken' : ℕ) → taken' ≡ length (live (put (up_to (thing_of p e) given) id y)) → IsKept given p' e' taken'
    changed taken' count = record {
      few = kept.few;
      low = λ q r is. elim (eqb_tells q id) [ inl here ↦ subst (λ q. 1 ≤ q) (sym here.1) low | inr differ ↦ kept.low q r (sym (p_else q differ.0) ∙ is) ];
      high = λ q r is. elim (eqb_tells q id) [ inl here ↦ subst (λ q. q ≤ given) (sym here.1) high | inr differ ↦ kept.high q r (sym (p_else q differ.0) ∙ is) ];
      leads = λ q r is.
          elim (eqb_tells q id) [
            | inl here ↦ subst (λ q. id_in (e' r) ≡ Some q) (sym here.1) (leads_there y r refl (sym p_there ∙ ap p' (sym here.1) ∙ is))
            | inr differ ↦
                let led : p q ≡ Some r = sym (p_else q differ.0) ∙ is in
                ap id_in (e_else r (λ same. differ.1 (own q (led ∙ ap Some same)))) ∙ kept.leads q r led
          ];
      back = λ r x is.
          elim (eqb_tells r place) [
            | inl here ↦ back_there y x refl (sym e_there ∙ ap e' (sym here.1) ∙ is) ∙ ap Some (sym here.1)
            | inr differ ↦ back_else r x differ.1 (sym (e_else r differ.1) ∙ is)
          ];
      count = count ∙ sym (ap (λ s. length (live s)) list_changed);
    } where
      back_else : (r : ℕ) (x : Entry T) → r ≢ place → e r ≡ Some x → p' x.id ≡ Some r
      back_else r x apart there =
          let led : p x.id ≡ Some r = kept.back r x there in
          elim (eqb_tells x.id id) [
            | inl here ↦ absurd (apart (only r (ap p (sym here.1) ∙ led)))
            | inr differ ↦ p_else x.id differ.0 ∙ led
          ]

  -- a thing is entered for an id that was given and has none
  module _ (id : ℕ) (thing : T) (p' : ℕ → Option ℕ) (e' : ℕ → Option (Entry T)) (taken' : ℕ) (enters : Enters p e taken id thing p' e' taken')
      (low : 1 ≤ id) (high : id ≤ given) (none : of_id (up_to (thing_of p e) given) id ≡ None) where
    free_place : (q : ℕ) → p q ≡ Some enters.place → q ≡ id
    free_place q is = absurd (none-some q (sym (ap id_in enters.free) ∙ kept.leads q enters.place is))

    leads_no_more : (q : ℕ) → p id ≡ Some q → q ≡ enters.place
    leads_no_more q is = absurd (none-some q (sym (leads_nowhere id none) ∙ is))

    pub list_filled : up_to (thing_of p' e') given ≡ put (up_to (thing_of p e) given) id (Some thing)
    list_filled = list_changed id enters.place (Some thing) p' e' low high free_place leads_no_more enters.leads enters.has

    pub filled : IsKept given p' e' taken'
    filled =
        let more = live_filled (up_to (thing_of p e) given) id thing low (subst (λ l. id ≤ l) (sym (length_up_to (thing_of p e) given)) high) none in
        let n = enters.more in let count = kept.count in
        changed id enters.place (Some thing) p' e' low high free_place leads_no_more enters.leads enters.has taken' (omega (arith, more, n, count))

  -- the thing of an id is taken away
  module _ (id place : ℕ) (x : Entry T) (p' : ℕ → Option ℕ) (e' : ℕ → Option (Entry T)) (leads : p id ≡ Some place) (there : e place ≡ Some x) where
    own_place : (q : ℕ) → p q ≡ Some place → q ≡ id
    own_place q is = same_Some q id (sym (kept.leads q place is) ∙ kept.leads id place leads)

    one_place : (q : ℕ) → p id ≡ Some q → q ≡ place
    one_place q is = same_Some q place (sym is ∙ leads)

    pub its_thing : of_id (up_to (thing_of p e) given) id ≡ Some x.thing
    its_thing = stands id ∙ ap (λ q. thing_in (option_and_then e q)) leads ∙ ap thing_in there

    pub its_id : x.id ≡ id
    its_id = same_Some x.id id (sym (ap id_in there) ∙ kept.leads id place leads)

    places_left : ((q : ℕ) → p' q ≡ cond (nat_eq id q) None (p q)) → (q : ℕ) → p' q ≡ (if q == id then None else p q)
    places_left ps q = ps q ∙ ap (λ b. if b then None else p q) (turned id q)

    entries_left : e' place ≡ None → ((q : ℕ) → q ≢ place → e' q ≡ e q) → (q : ℕ) → e' q ≡ (if q == place then None else e q)
    entries_left gone others q = elim (eqb_tells q place) [ inl here ↦ rw here.0 (ap e' here.1 ∙ gone) | inr differ ↦ rw differ.0 (others q differ.1) ]

    module _ (ps : (q : ℕ) → p' q ≡ cond (nat_eq id q) None (p q)) (gone : e' place ≡ None) (others : (q : ℕ) → q ≢ place → e' q ≡ e q) where
      pub list_taken : up_to (thing_of p' e') given ≡ put (up_to (thing_of p e) given) id None
      list_taken = list_changed id place None p' e' (kept.low id place leads) (kept.high id place leads) own_place one_place (places_left ps) (entries_left gone others)

      pub thing_taken : (taken' : ℕ) → taken' + 1 ≡ taken → IsKept given p' e' taken'
      thing_taken taken' n =
          let fewer = live_taken (up_to (thing_of p e) given) id x.thing its_thing in let count = kept.count in
          changed id place None p' e' (kept.low id place leads) (kept.high id place leads) own_place one_place (places_left ps) (entries_left gone others) taken' (omega (arith, fewer, n, count))

    -- another thing in its place
    module _ (thing : T) (written : (q : ℕ) → e' q ≡ (if q == place then Some (record { id = x.id; thing = thing }) else e q)) where
      es : (q : ℕ) → e' q ≡ (if q == place then Some (record { id = id; thing = thing }) else e q)
      es = subst (λ n. (q : ℕ) → e' q ≡ (if q == place then Some (record { id = n; thing = thing }) else e q)) its_id written

      places_stay : (q : ℕ) → p q ≡ (if q == id then Some place else p q)
      places_stay q = elim (eqb_tells q id) [ inl here ↦ rw here.0 (ap p here.1 ∙ leads) | inr differ ↦ rw differ.0 refl ]

      pub list_written : up_to (thing_of p e') given ≡ put (up_to (thing_of p e) given) id (Some thing)
      list_written = list_changed id place (Some thing) p e' (kept.low id place leads) (kept.high id place leads) own_place one_place places_stay es

      pub thing_written : (taken' : ℕ) → taken' ≡ taken → IsKept given p e' taken'
      thing_written taken' same =
          changed id place (Some thing) p e' (kept.low id place leads) (kept.high id place leads) own_place one_place places_stay es taken'
          (same ∙ kept.count ∙ sym (live_put (up_to (thing_of p e) given) id x.thing thing its_thing))

  -- what was given as the list is seen
  pub given_as : (seen : List (Option T)) → up_to (thing_of p e) given ≡ seen → length seen ≡ given
  given_as seen is = ap length (sym is) ∙ length_up_to (thing_of p e) given

  pub seen_high : (seen : List (Option T)) (id : ℕ) → up_to (thing_of p e) given ≡ seen → id ≤ length seen → id ≤ given
  seen_high seen id is high = subst (λ n. id ≤ n) (given_as seen is) high

  pub new_none : given + 1 ≤ 2 ^ 62 → of_id (up_to (thing_of p e) (given + 1)) (given + 1) ≡ None
  new_none few = reads (thing_of p e) (given + 1) (λ id x h. let at = are_given id x h in let high = at.1 in (at.0, omega (arith, high))) (given + 1) ∙ go (p (given + 1)) refl where
    go : (q : Option ℕ) → p (given + 1) ≡ q → thing_of p e (given + 1) ≡ None
    go None is = ap (λ q. thing_in (option_and_then e q)) is
    go (Some place) is = let high = kept.high (given + 1) place is in absurd (omega (arith, high))

pub room_left : (given more : ℕ) → 0 < min (2 ^ 62 - given) more → given + 1 ≤ 2 ^ 62
room_left given more room = let least = min-le_left (2 ^ 62 - given) more in omega (arith, room, least)

-- a thing is entered for the next id
module _ {T : Type 0} (given : ℕ) (p : ℕ → Option ℕ) (e : ℕ → Option (Entry T)) (taken : ℕ) (kept : IsKept given p e taken) (few : given + 1 ≤ 2 ^ 62)
    (thing : T) (p' : ℕ → Option ℕ) (e' : ℕ → Option (Entry T)) (taken' : ℕ) (enters : Enters p e taken (given + 1) thing p' e' taken') where
  pub pushed : IsKept (given + 1) p' e' taken'
  pushed =
      filled (given + 1) p e taken (more_given given p e taken kept few) (given + 1) thing p' e' taken' enters (omega arith) (omega arith) (new_none given p e taken kept few)

  pub list_pushed : up_to (thing_of p' e') (given + 1) ≡ up_to (thing_of p e) given ++ Some thing ∷ []
  list_pushed =
      list_filled (given + 1) p e taken (more_given given p e taken kept few) (given + 1) thing p' e' taken' enters (omega arith) (omega arith) (new_none given p e taken kept few)
      ∙ ap (λ s. put s (given + 1) (Some thing)) (one_more (thing_of p e) given (are_given given p e taken kept))
      ∙ ap (λ n. put (up_to (thing_of p e) given ++ None ∷ []) (n + 1) (Some thing)) (sym (length_up_to (thing_of p e) given))
      ∙ put_last (up_to (thing_of p e) given) None (Some thing)
