-- What a call knows when nothing refuses it.
use Rattle.std.proofs.Common.{◌≡◌, ◌≢◌, ℕ, ◌<◌, ◌≤◌, zero, suc, Bool, true, false, not, ◌&&◌, List, [], ◌∷◌, Option, Some, None, ◌⊎◌, inl, inr, length, refl, sym, subst, ◌∙◌, ap, ap₂, arith, eq-eqb, is_some, if◌then◌else◌, ◌==◌, ◌||◌}
use Rattle.std.proofs.lemmas.Bool.Decides.{nat_tests, eqb_tells}
use Rattle.std.specs.Prelude.{nat_eq, nat_lt, slice_get}
use Rattle.std.specs.Option.{option_and_then, option_eq, option_map}
use Rattle.std.specs.Ordering.{nat_cmp, eq_by_cmp}
use Rattle.std.specs.List.{list_any}
use Rattle.std.specs.FinMap as fin
use Rattle.std.specs.HashMap.{hash_map_len, IsUnique}
use Rattle.ev_model.specs.declared.content.Kind as kinds
use Rattle.ev_model.specs.declared.content.Kind.TheVariants.{Rect, Image, Text, Smart}
use Rattle.ev_links.specs.declared.refusal.LinkErr.TheVariants.{Unknown, Itself, Kind, Sibling, Cycle, Clipping}
use Rattle.ev_links.specs.declared.table.Table.{Table}
use Rattle.ev_links.specs.declared.table.Node.{Node}
use Rattle.ev_links.specs.Ties.{Tie, Ties, next_at, clipper_at, parent_at, kind_at, IsWay, IsFrom, Has, IsDistinct, has, walk, step_up, up_of, places_of, is_inside, Counts}
use Rattle.ev_links.specs.Tables.{tie_of, node_in, tie_in, clips_in, ties_of}
use Rattle.ev_links.specs.KeptTable.{IsKept}
use Rattle.ev_links.specs.LinkCalls.{is_rect, is_smart, first_clip_fault, first_join_fault, first_leave_fault, clips, is_clipping, clip_fault, join_fault, leave_fault}
use Rattle.ev_links.proofs.Ways.{one_way, has-Has, walk-IsWay, no_repeats, step_up-IsWay}
use Rattle.ev_links.proofs.Sound.{parents_end, met_by_parents, part_there, next_there, parent_there}
use Rattle.ev_links.proofs.Views.{read, same_test, len_read, way_fits}
use Rattle.ev_links.proofs.Counts.{Counts-none, option_neq}

passed : {A : Type 0} (refused : Bool) (x : A) (later : Option A) → (if refused then Some x else later) ≡ None → (refused ≡ false) × (later ≡ None)
passed true x later e = cc
passed false x later e = (refl, e)

not_false : (b : Bool) → not b ≡ false → b ≡ true
not_false true e = refl
not_false false e = cc

both_true : (a b : Bool) → (a && b) ≡ true → (a ≡ true) × (b ≡ true)
both_true true true e = (refl, refl)
both_true true false e = cc
both_true false b e = cc

either_false : (a b : Bool) → (a || b) ≡ false → (a ≡ false) × (b ≡ false)
either_false true b e = cc
either_false false true e = cc
either_false false false e = (refl, refl)

rect : (kind : Option kinds.Kind) → is_rect kind ≡ true → kind ≡ Some Rect
rect (Some Rect) e = refl
rect (Some Image) e = cc
rect (Some Text) e = cc
rect (Some Smart) e = cc
rect None e = cc

smart_kind : (kind : Option kinds.Kind) → is_smart kind ≡ true → kind ≡ Some Smart
smart_kind (Some Rect) e = cc
smart_kind (Some Image) e = cc
smart_kind (Some Text) e = cc
smart_kind (Some Smart) e = refl
smart_kind None e = cc

same_option : (a b : Option ℕ) → option_eq nat_eq a b ≡ true → a ≡ b
same_option None None e = refl
same_option None (Some y) e = cc
same_option (Some x) None e = cc
same_option (Some x) (Some y) e = elim (eqb_tells x y) [ inl same ↦ ap Some same.1 | inr differ ↦ let apart = differ.0 in cc ]

no_option : (a : Option ℕ) → is_some a ≡ false → a ≡ None
no_option None e = refl
no_option (Some x) e = cc

-- what is known where nothing refuses a clip
pub record ClipReady (ties : ℕ → Option Tie) (steps id clipper : ℕ) : Type 0 where
  pub there : is_some (ties id) ≡ true
  pub clipper_there : is_some (ties clipper) ≡ true
  pub kind : kind_at ties clipper ≡ Some Rect
  pub sibling : parent_at ties clipper ≡ parent_at ties id
  pub clear : has (walk (next_at ties) steps (Some clipper)) id ≡ false

pub clip_ready : (ties : ℕ → Option Tie) (steps id clipper : ℕ)
    → first_clip_fault (is_some (ties id) && is_some (ties clipper)) (id == clipper) (is_rect (kind_at ties clipper)) (option_eq nat_eq (parent_at ties id) (parent_at ties clipper)) (has (walk (next_at ties) steps (Some clipper)) id) ≡ None
    → ClipReady ties steps id clipper
clip_ready ties steps id clipper e =
    let known = passed (not (is_some (ties id) && is_some (ties clipper))) Unknown _ e in
    let itself = passed (id == clipper) Itself _ known.1 in
    let kind = passed (not (is_rect (kind_at ties clipper))) Kind _ itself.1 in
    let sibling = passed (not (option_eq nat_eq (parent_at ties id) (parent_at ties clipper))) Sibling _ kind.1 in
    let cycle = passed (has (walk (next_at ties) steps (Some clipper)) id) Cycle _ sibling.1 in
    let two = both_true (is_some (ties id)) (is_some (ties clipper)) (not_false _ known.0) in
    record {
      there = two.0;
      clipper_there = two.1;
      kind = rect _ (not_false _ kind.0);
      sibling = sym (same_option _ _ (not_false _ sibling.0));
      clear = cycle.0;
    }

-- what is known where nothing refuses to join
pub record JoinReady (ties : ℕ → Option Tie) (steps id smart : ℕ) (clipping : Bool) : Type 0 where
  pub there : is_some (ties id) ≡ true
  pub smart_there : is_some (ties smart) ≡ true
  pub kind : kind_at ties smart ≡ Some Smart
  pub clear : has (walk (parent_at ties) steps (Some smart)) id ≡ false
  pub free : clipping ≡ false

pub join_ready : (ties : ℕ → Option Tie) (steps id smart : ℕ) (clipping : Bool)
    → first_join_fault (is_some (ties id) && is_some (ties smart)) (id == smart) (is_smart (kind_at ties smart)) (has (walk (parent_at ties) steps (Some smart)) id) clipping ≡ None
    → JoinReady ties steps id smart clipping
join_ready ties steps id smart clipping e =
    let known = passed (not (is_some (ties id) && is_some (ties smart))) Unknown _ e in
    let itself = passed (id == smart) Itself _ known.1 in
    let kind = passed (not (is_smart (kind_at ties smart))) Kind _ itself.1 in
    let cycle = passed (has (walk (parent_at ties) steps (Some smart)) id) Cycle _ kind.1 in
    let free = passed clipping Clipping _ cycle.1 in
    let two = both_true (is_some (ties id)) (is_some (ties smart)) (not_false _ known.0) in
    record {
      there = two.0;
      smart_there = two.1;
      kind = smart_kind _ (not_false _ kind.0);
      clear = cycle.0;
      free = free.0;
    }

pub leave_ready : (known clipping : Bool) → first_leave_fault known clipping ≡ None → (known ≡ true) × (clipping ≡ false)
leave_ready known clipping e =
    let there = passed (not known) Unknown _ e in
    let free = passed clipping Clipping _ there.1 in
    (not_false known there.0, free.0)

-- a whole list that lacks an object is a way that doesn't meet it
pub away_from : (next : ℕ → Option ℕ) (from id : ℕ) (list : List ℕ) → IsFrom next from list → has list id ≡ false → (way : List ℕ) → IsWay next from way → ¬ Has id (from ∷ way)
away_from next from id [] whole clear way p h = absurd whole
away_from next from id (first ∷ rest) whole clear way p h =
    let same : way ≡ rest = one_way next from way rest p whole.1 in
    let here : Has id (first ∷ rest) = subst (λ w. Has id (first ∷ w)) same (subst (λ n. Has id (n ∷ way)) (sym whole.0) h) in
    let found = has-Has (first ∷ rest) id here in
    cc

-- ---- whether an object clips

any_here : (xs : List ℕ) (p : ℕ → Bool) (q : ℕ) → list_any (eq_by_cmp nat_cmp q) xs ≡ true → p q ≡ true → list_any p xs ≡ true
any_here [] p q among holds = cc
any_here (x ∷ xs) p q among holds =
    elim (eqb_tells q x) [
      | inl same ↦ rw (ap p (sym same.1) ∙ holds) refl
      | inr differ ↦ later (p x) (any_here xs p q (rw (same_test q x, differ.0) at among) holds)
    ]
  where
    later : (b : Bool) → list_any p xs ≡ true → (b || list_any p xs) ≡ true
    later true e = refl
    later false e = e

any_none : (xs : List ℕ) (p : ℕ → Bool) → ((q : ℕ) → p q ≡ false) → list_any p xs ≡ false
any_none [] p none = refl
any_none (x ∷ xs) p none = rw (none x) (any_none xs p none)

option_eq_refl : (a : Option ℕ) (id : ℕ) → a ≡ Some id → option_eq nat_eq a (Some id) ≡ true
option_eq_refl a id e = rw e (eq-eqb id id refl)

pub clips_none : (ties : Ties) (id : ℕ) → ((q : ℕ) → clipper_at (fin.get ties) q ≢ Some id) → clips ties id ≡ false
clips_none ties id none = any_none (fin.keys ties) (λ other. option_eq nat_eq (clipper_at (fin.get ties) other) (Some id)) (λ q. option_neq (clipper_at (fin.get ties) q) id (none q))

pub clips_one : (ties : Ties) (id q : ℕ) → clipper_at (fin.get ties) q ≡ Some id → clips ties id ≡ true
clips_one ties id q e =
    any_here (fin.keys ties) (λ other. option_eq nat_eq (clipper_at (fin.get ties) other) (Some id)) q
    (sym (fin.contains_key-keys ties q) ∙ part_there (λ tie. tie.clipper) (fin.get ties q) id e) (option_eq_refl (clipper_at (fin.get ties) q) id e)

-- the count says whether an object clips
pub clips-Counts : (ties : Ties) (id n : ℕ) → Counts (clipper_at (fin.get ties)) id n → (clips ties id ≡ true) × (0 < n) ⊎ (clips ties id ≡ false) × (n ≡ 0)
clips-Counts ties id n counts = go counts.ids counts.clipped counts.all counts.count
  where
    go : (ids : List ℕ) → ((other : ℕ) → Has other ids → clipper_at (fin.get ties) other ≡ Some id) → ((other : ℕ) → clipper_at (fin.get ties) other ≡ Some id → Has other ids) → length ids ≡ n → (clips ties id ≡ true) × (0 < n) ⊎ (clips ties id ≡ false) × (n ≡ 0)
    go [] clipped all count = inr (clips_none ties id (λ q e. all q e), sym count)
    go (one ∷ rest) clipped all count = inl (clips_one ties id one (clipped one (inl refl)), omega (arith, count))

pub counts_read : (table : Table) (ties : Ties) (id n : ℕ) → ties_of table ≡ ties → IsKept table → clips_in table id ≡ Some n → Counts (clipper_at (fin.get ties)) id n
counts_read table ties id n is kept e = subst (λ f. Counts (clipper_at f) id n) (sym (read table ties is)) (kept.counted id n e)

pub counts_unknown : (table : Table) (ties : Ties) (id : ℕ) → ties_of table ≡ ties → IsKept table → tie_in table id ≡ None → Counts (clipper_at (fin.get ties)) id 0
counts_unknown table ties id is kept none = subst (λ f. Counts (clipper_at f) id 0) (sym (read table ties is)) (record {
  ids = [];
  distinct = tt;
  clipped = λ other h. absurd h;
  all = λ other e. absurd (let kind_is = kept.sound.clippers other id e in let gone = ap (option_and_then (λ (tie : Tie). Some tie.kind)) none in cc);
  count = refl;
})

clips_test : (ties : Ties) (id n : ℕ) → Counts (clipper_at (fin.get ties)) id n → nat_lt 0 n ≡ clips ties id
clips_test ties id n counts = elim (clips-Counts ties id n counts) [ inl some ↦ let e = some.0 in let more = some.1 in rw e (positive n more) | inr none ↦ let e = none.0 in let zero_is = none.1 in rw (e, zero_is) refl ]
  where
    positive : (n : ℕ) → 0 < n → nat_lt 0 n ≡ true
    positive n more = grind (arith, nat_tests)

pub clipping_known : (table : Table) (ties : Ties) (id : ℕ) (node : Node) → ties_of table ≡ ties → IsKept table → node_in table id ≡ Some node → (nat_lt 0 node.clips || is_some node.clipper) ≡ is_clipping ties id
clipping_known table ties id node is kept e =
    let counts = counts_read table ties id node.clips is kept (ap (option_map (λ (n : Node). n.clips)) e) in
    let clipper : clipper_at (fin.get ties) id ≡ node.clipper = ap (λ f. clipper_at f id) (read table ties is) ∙ ap (λ n. option_and_then (λ (tie : Tie). tie.clipper) (option_map tie_of n)) e in
    rw (clips_test ties id node.clips counts, clipper) refl

pub clipping_unknown : (table : Table) (ties : Ties) (id : ℕ) → ties_of table ≡ ties → IsKept table → node_in table id ≡ None → false ≡ is_clipping ties id
clipping_unknown table ties id is kept e =
    let counts = counts_unknown table ties id is kept (ap (option_map tie_of) e) in
    let clipper : clipper_at (fin.get ties) id ≡ None = ap (λ f. clipper_at f id) (read table ties is) ∙ ap (λ n. option_and_then (λ (tie : Tie). tie.clipper) (option_map tie_of n)) e in
    rw (← clips_test ties id 0 counts, clipper) refl

-- an object that is there and isn't clipping is free and counts none
pub not_clipping : (table : Table) (ties : Ties) (id : ℕ) → ties_of table ≡ ties → IsKept table → is_some (tie_in table id) ≡ true → is_clipping ties id ≡ false → (clipper_at (tie_in table) id ≡ None) × (clips_in table id ≡ Some 0)
not_clipping table ties id is kept there free =
    let two = either_false (clips ties id) (is_some (clipper_at (fin.get ties) id)) free in
    (ap (λ f. clipper_at f id) (sym (read table ties is)) ∙ no_option (clipper_at (fin.get ties) id) two.1, count (node_in table id) refl there two.0)
  where
    count : (node : Option Node) → node_in table id ≡ node → is_some (option_map tie_of node) ≡ true → clips ties id ≡ false → option_map (λ (n : Node). n.clips) node ≡ Some 0
    count None e there none = cc
    count (Some node) e there none =
        let counts = counts_read table ties id node.clips is kept (ap (option_map (λ (n : Node). n.clips)) e) in
        elim (clips-Counts ties id node.clips counts) [ inl some ↦ let yes_it = some.0 in cc | inr zero_is ↦ ap Some zero_is.1 ]

-- an object that clips nobody is met on the way up from another only where that is inside it
pub away_inside : (table : Table) (id smart : ℕ) (list : List ℕ) → IsKept table → clips_in table id ≡ Some 0 → IsFrom (parent_at (tie_in table)) smart list → has list id ≡ false
    → (way : List ℕ) → IsWay (next_at (tie_in table)) smart way → ¬ Has id (smart ∷ way)
away_inside table id smart list kept none whole clear way p h =
    let above = parents_end (tie_in table) kept.sound smart in
    let apart = away_from (parent_at (tie_in table)) smart id list whole clear above.0 above.1 in
    let nobody = Counts-none (clipper_at (tie_in table)) id (kept.counted id 0 none) in
    apart (elim h [
      | inl here ↦ inl here
      | inr later ↦ inr (met_by_parents (tie_in table) kept.sound id nobody smart smart way above.0 refl p above.1 later)
    ])

-- ---- the lists are whole

pub up_whole : (table : Table) (ties : Ties) (id : ℕ) → ties_of table ≡ ties → IsKept table → IsUnique nat_eq table.nodes → is_some (tie_in table id) ≡ true → IsFrom (next_at (fin.get ties)) id (up_of ties id)
up_whole table ties id is kept unique there =
    let way = kept.sound.ends id in
    let few = way_fits table (next_at (tie_in table)) id way.0 there (λ q to e. next_there (tie_in table) kept.sound q to e) way.1 in
    let list_is : walk (next_at (tie_in table)) (fin.len ties) (Some id) ≡ id ∷ way.0 = rw (len_read table ties is unique) (walk-IsWay (next_at (tie_in table)) id way.0 (hash_map_len table.nodes) way.1 few) in
    let whole : IsFrom (next_at (tie_in table)) id (walk (next_at (tie_in table)) (fin.len ties) (Some id)) = subst (λ l. IsFrom (next_at (tie_in table)) id l) (sym list_is) (refl, way.1) in
    subst (λ f. IsFrom (next_at f) id (walk (next_at f) (fin.len ties) (Some id))) (sym (read table ties is)) whole

pub places_whole : (table : Table) (ties : Ties) (id : ℕ) → ties_of table ≡ ties → IsKept table → IsUnique nat_eq table.nodes → is_some (tie_in table id) ≡ true → IsFrom (parent_at (fin.get ties)) id (places_of ties id)
places_whole table ties id is kept unique there =
    let way = parents_end (tie_in table) kept.sound id in
    let few = way_fits table (parent_at (tie_in table)) id way.0 there (λ q to e. parent_there (tie_in table) kept.sound q to e) way.1 in
    let list_is : walk (parent_at (tie_in table)) (suc (fin.len ties)) (Some id) ≡ id ∷ way.0 = rw (len_read table ties is unique) (walk-IsWay (parent_at (tie_in table)) id way.0 (suc (hash_map_len table.nodes)) way.1 (omega (arith, few))) in
    let whole : IsFrom (parent_at (tie_in table)) id (walk (parent_at (tie_in table)) (suc (fin.len ties)) (Some id)) = subst (λ l. IsFrom (parent_at (tie_in table)) id l) (sym list_is) (refl, way.1) in
    subst (λ f. IsFrom (parent_at f) id (walk (parent_at f) (suc (fin.len ties)) (Some id))) (sym (read table ties is)) whole

-- what the table tells of places is so of its ties
pub inside_read : (table : Table) (ties : Ties) (id of : ℕ) → ties_of table ≡ ties → IsUnique nat_eq table.nodes → has (id ∷ walk (parent_at (tie_in table)) (hash_map_len table.nodes) (parent_at (tie_in table) id)) of ≡ is_inside ties id of
inside_read table ties id of is unique = ap₂ (λ (f : ℕ → Option Tie) n. has (id ∷ walk (parent_at f) n (parent_at f id)) of) (sym (read table ties is)) (sym (len_read table ties is unique))

-- what a clip that nothing refuses may count on, of the table
pub clip_ready_in : (table : Table) (ties : Ties) (id clipper : ℕ) → ties_of table ≡ ties → clip_fault ties id clipper ≡ None → ClipReady (tie_in table) (fin.len ties) id clipper
clip_ready_in table ties id clipper is e = subst (λ f. ClipReady f (fin.len ties) id clipper) (read table ties is) (clip_ready (fin.get ties) (fin.len ties) id clipper e)

pub clip_away : (table : Table) (ties : Ties) (id clipper : ℕ) → ties_of table ≡ ties → clip_fault ties id clipper ≡ None → IsFrom (next_at (fin.get ties)) clipper (up_of ties clipper) → (way : List ℕ) → IsWay (next_at (tie_in table)) clipper way → ¬ Has id (clipper ∷ way)
clip_away table ties id clipper is e whole =
    let ready = clip_ready_in table ties id clipper is e in
    let list = subst (λ f. IsFrom (next_at f) clipper (walk (next_at f) (fin.len ties) (Some clipper))) (read table ties is) whole in
    away_from (next_at (tie_in table)) clipper id (walk (next_at (tie_in table)) (fin.len ties) (Some clipper)) list ready.clear

pub join_ready_in : (table : Table) (ties : Ties) (id smart : ℕ) → ties_of table ≡ ties → join_fault ties id smart ≡ None → JoinReady (tie_in table) (suc (fin.len ties)) id smart (is_clipping ties id)
join_ready_in table ties id smart is e = subst (λ f. JoinReady f (suc (fin.len ties)) id smart (is_clipping ties id)) (read table ties is) (join_ready (fin.get ties) (suc (fin.len ties)) id smart (is_clipping ties id) e)

pub join_fit : (table : Table) (ties : Ties) (id smart : ℕ) → ties_of table ≡ ties → IsKept table → join_fault ties id smart ≡ None → IsFrom (parent_at (fin.get ties)) smart (places_of ties smart)
    → (to : ℕ) → Some smart ≡ Some to → (kind_at (tie_in table) to ≡ Some Smart) × ((way : List ℕ) → IsWay (next_at (tie_in table)) to way → ¬ Has id (to ∷ way))
join_fit table ties id smart is kept e whole to same =
    let ready = join_ready_in table ties id smart is e in
    let none = not_clipping table ties id is kept ready.there ready.free in
    let list = subst (λ f. IsFrom (parent_at f) smart (walk (parent_at f) (suc (fin.len ties)) (Some smart))) (read table ties is) whole in
    let fit : (kind_at (tie_in table) smart ≡ Some Smart) × ((way : List ℕ) → IsWay (next_at (tie_in table)) smart way → ¬ Has id (smart ∷ way)) =
    (ready.kind, away_inside table id smart (walk (parent_at (tie_in table)) (suc (fin.len ties)) (Some smart)) kept none.1 list ready.clear)
    in
    let it : smart ≡ to = cc in
    subst (λ n. (kind_at (tie_in table) n ≡ Some Smart) × ((way : List ℕ) → IsWay (next_at (tie_in table)) n way → ¬ Has id (n ∷ way))) it fit

pub leave_ready_in : (table : Table) (ties : Ties) (id : ℕ) → ties_of table ≡ ties → leave_fault ties id ≡ None → (is_some (tie_in table id) ≡ true) × (is_clipping ties id ≡ false)
leave_ready_in table ties id is e =
    let ready = leave_ready (is_some (fin.get ties id)) (is_clipping ties id) e in
    (ap (λ f. is_some (f id)) (sym (read table ties is)) ∙ ready.0, ready.1)

-- a whole list has no repeats
pub distinct_from : (next : ℕ → Option ℕ) (id : ℕ) (list : List ℕ) → IsFrom next id list → IsDistinct list
distinct_from next id [] whole = absurd whole
distinct_from next id (first ∷ rest) whole = subst (λ n. IsDistinct (n ∷ rest)) (sym whole.0) (no_repeats next id rest whole.1)

pub known_read : (table : Table) (ties : Ties) (id : ℕ) → ties_of table ≡ ties → is_some (fin.get ties id) ≡ true → is_some (tie_in table id) ≡ true
known_read table ties id is e = ap (λ f. is_some (f id)) (sym (read table ties is)) ∙ e

-- the place of a list that is whole
pub up_place : (ties : Ties) (id place : ℕ) (list : List ℕ) → IsFrom (next_at (fin.get ties)) id list → step_up (next_at (fin.get ties)) place (Some id) ≡ slice_get list place
up_place ties id place [] whole = absurd whole
up_place ties id place (first ∷ rest) whole =
    step_up-IsWay (next_at (fin.get ties)) id rest place whole.1 ∙ ap (λ n. slice_get (n ∷ rest) place) (sym whole.0)

walk_short : (next : ℕ → Option ℕ) (steps : ℕ) (from : Option ℕ) (place : ℕ) → steps ≤ place → slice_get (walk next steps from) place ≡ None
walk_short next zero from place p = nowhere place
  where
    nowhere : (place : ℕ) → slice_get {X = ℕ} [] place ≡ None
    nowhere zero = refl
    nowhere (suc place) = refl
walk_short next (suc steps) None place p = nowhere place
  where
    nowhere : (place : ℕ) → slice_get {X = ℕ} [] place ≡ None
    nowhere zero = refl
    nowhere (suc place) = refl
walk_short next (suc steps) (Some id) zero p = absurd (omega arith)
walk_short next (suc steps) (Some id) (suc place) p = walk_short next steps (next id) place (omega (arith, p))

pub up_past : (ties : Ties) (id place : ℕ) → fin.len ties ≤ place → slice_get (up_of ties id) place ≡ None
up_past ties id place p = walk_short (next_at (fin.get ties)) (fin.len ties) (Some id) place p

pub either_none : {A : Type 0} (b : Bool) (o : Option A) → o ≡ None → None ≡ (if b then o else None)
either_none true o e = sym e
either_none false o e = refl
