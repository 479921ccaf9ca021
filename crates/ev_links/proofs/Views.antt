-- The ties that a table keeps, and how long a way can be.
use Rattle.std.proofs.Common.{◌≡◌, ℕ, ◌<◌, ◌≤◌, ◌+◌, suc, true, false, List, [], ◌∷◌, Option, Some, None, inl, inr, length, map, cond, refl, sym, subst, ◌∙◌, ap, arith, is_some, if◌then◌else◌, ◌==◌}
use Rattle.std.proofs.lemmas.Bool.Decides.{nat_tests, eqb_tells}
use Rattle.std.specs.Prelude.{nat_eq}
use Rattle.std.specs.Ordering.{nat_cmp, eq_by_cmp}
use Rattle.std.specs.Cmp.{nat_cmp_total}
use Rattle.std.specs.Option.{option_map}
use Rattle.std.specs.List as list
use Rattle.std.specs.Map.{lookup}
use Rattle.std.specs.HashMap as hash
use Rattle.std.specs.FinMap as fin
use Rattle.ev_links.specs.declared.table.Node.{Node}
use Rattle.ev_links.specs.declared.table.Table.{Table}
use Rattle.ev_links.specs.Ties.{Tie, Ties, IsWay, Has, IsDistinct, walk}
use Rattle.ev_links.specs.Tables.{tie_of, node_in, tie_in, ties_of, ChangesTie, SameTies}
use Rattle.ev_links.specs.LinkCalls.{put_tie}
use Rattle.std.proofs.lemmas.Map.Keys.{IsDistinct-head, IsDistinct-tail}
use Rattle.std.specs.Prelude.{IsSome}
use Rattle.ev_links.proofs.Ways.{walk-IsWay}
use Rattle.ev_links.proofs.Fits.{few, way_within}

pub same_test : (a b : ℕ) → eq_by_cmp nat_cmp a b ≡ (a == b)
same_test a b = grind (arith, nat_tests)

entries_of : List (ℕ × Node) → List (ℕ × Tie)
entries_of entries = map (λ entry. (entry.0, tie_of entry.1)) entries

find_entries : (entries : List (ℕ × Node)) (id : ℕ) → fin.find nat_cmp id (map {B = ℕ × Tie} (λ entry. (entry.0, tie_of entry.1)) entries) ≡ option_map tie_of (lookup (nat_eq id) entries)
find_entries [] id = refl
find_entries (one ∷ rest) id =
    rw (same_test id one.0) (
    elim (id == one.0) as (λ b. cond b (Some (tie_of one.1)) (fin.find nat_cmp id (map {B = ℕ × Tie} (λ entry. (entry.0, tie_of entry.1)) rest)) ≡ option_map tie_of (cond b (Some one.1) (lookup (nat_eq id) rest))) [
      | true ↦ refl
      | false ↦ find_entries rest id
    ])

-- the tie of an object
pub get-ties_of : (table : Table) (id : ℕ) → fin.get (ties_of table) id ≡ tie_in table id
unfolding ties_of
get-ties_of table id = fin.get-from_entries nat_cmp_total _ id ∙ find_entries table.nodes.entries id

-- the ties as a function of the ids
pub read : (table : Table) (ties : Ties) → ties_of table ≡ ties → fin.get ties ≡ tie_in table
read table ties is = ap fin.get (sym is) ∙ (λ i id. get-ties_of table id i)

-- one tie changed
pub write : (old new : Table) (ties : Ties) (id : ℕ) (change : Tie → Tie) → ties_of old ≡ ties → ChangesTie change id old new → ties_of new ≡ put_tie ties id (option_map change (fin.get ties id))
write old new ties id change is changed = go (fin.get ties id) refl
  where
    now : (q : ℕ) → tie_in new q ≡ (if q == id then option_map change (fin.get ties q) else fin.get ties q)
    now = subst (λ (f : ℕ → Option Tie). (q : ℕ) → tie_in new q ≡ (if q == id then option_map change (f q) else f q)) (sym (read old ties is)) changed

    same : (q : ℕ) → fin.get ties id ≡ None → (if q == id then option_map change (fin.get ties q) else fin.get ties q) ≡ fin.get ties q
    same q e = elim (eqb_tells q id) [ inl here ↦ rw here.0 (subst (λ (t : Option Tie). option_map change t ≡ t) (sym (ap (fin.get ties) here.1 ∙ e)) refl) | inr differ ↦ rw differ.0 refl ]

    put : (q : ℕ) (tie : Tie) → fin.get ties id ≡ Some tie → (if q == id then option_map change (fin.get ties q) else fin.get ties q) ≡ fin.get (fin.insert ties id (change tie)) q
    put q tie e =
        rw (fin.get-insert nat_cmp_total ties id (change tie) q, same_test q id) (
        elim (eqb_tells q id) [ inl here ↦ rw here.0 (ap (option_map change) (ap (fin.get ties) here.1 ∙ e)) | inr differ ↦ rw differ.0 refl ])

    go : (tie : Option Tie) → fin.get ties id ≡ tie → ties_of new ≡ put_tie ties id (option_map change tie)
    go None e = fin.same_map nat_cmp_total fin.nat_cmp-IsAntisymmetric _ _ (λ q. get-ties_of new q ∙ now q ∙ same q e)
    go (Some tie) e = fin.same_map nat_cmp_total fin.nat_cmp-IsAntisymmetric _ _ (λ q. get-ties_of new q ∙ now q ∙ put q tie e)

-- ---- how long a way can be

known_node : (node : Option Node) → is_some (option_map tie_of node) ≡ true → IsSome node
known_node None e = cc
known_node (Some node) e = refl

-- a list without repeats of objects that are there is no longer than the table
pub fewer : (table : Table) (xs : List ℕ) → IsDistinct xs → ((q : ℕ) → Has q xs → is_some (tie_in table q) ≡ true) → length xs ≤ hash.hash_map_len table.nodes
fewer table xs d there = few table.nodes.entries xs d (λ q h. known_node (lookup (nat_eq q) table.nodes.entries) (there q h))

-- a way of objects that are there is shorter than the table
pub way_fits : (table : Table) (next : ℕ → Option ℕ) (id : ℕ) (way : List ℕ) → is_some (tie_in table id) ≡ true → ((q to : ℕ) → next q ≡ Some to → is_some (tie_in table to) ≡ true) → IsWay next id way → length way < hash.hash_map_len table.nodes
way_fits table next id way there known p =
    way_within table.nodes.entries next id way (known_node (lookup (nat_eq id) table.nodes.entries) there) (λ q to e. known_node (lookup (nat_eq to) table.nodes.entries) (known q to e)) p

-- as many ties as nodes
len_entries : (entries : List (ℕ × Node)) → list.IsDistinct nat_eq (map (λ e. e.0) entries) → fin.len (fin.from_entries {R = nat_cmp} (map {B = ℕ × Tie} (λ entry. (entry.0, tie_of entry.1)) entries)) ≡ length entries
len_entries [] d = fin.len-empty nat_cmp Tie
len_entries (one ∷ rest) d =
    let gone : fin.contains_key (fin.from_entries {R = nat_cmp} (map {B = ℕ × Tie} (λ entry. (entry.0, tie_of entry.1)) rest)) one.0 ≡ false = absent one.0 rest (IsDistinct-head nat_eq one.0 (map (λ e. e.0) rest) d) in
    fin.len-insert nat_cmp_total _ one.0 (tie_of one.1) ∙ rw gone (plus_one (len_entries rest (IsDistinct-tail nat_eq one.0 (map (λ e. e.0) rest) d)))
  where
    plus_one : {m n : ℕ} → m ≡ n → m + 1 ≡ suc n
    plus_one {m} {n} e = omega (arith, e)

    absent : (key : ℕ) (rest : List (ℕ × Node)) → list.AllByRecursion (λ y. nat_eq key y ≡ false) (map (λ e. e.0) rest) → fin.contains_key (fin.from_entries {R = nat_cmp} (map {B = ℕ × Tie} (λ entry. (entry.0, tie_of entry.1)) rest)) key ≡ false
    absent key rest away = ap is_some (fin.get-from_entries nat_cmp_total _ key ∙ find_entries rest key ∙ ap (option_map tie_of) (none rest away))
      where
        none : (rest : List (ℕ × Node)) → list.AllByRecursion (λ y. nat_eq key y ≡ false) (map (λ e. e.0) rest) → lookup (nat_eq key) rest ≡ None
        none [] away = refl
        none (two ∷ more) away = rw away.0 (none more away.1)

pub len-ties_of : (table : Table) → hash.IsUnique nat_eq table.nodes → fin.len (ties_of table) ≡ hash.hash_map_len table.nodes
unfolding ties_of
len-ties_of table unique = len_entries table.nodes.entries unique

-- ---- whole lists

-- the walk up is the whole list
pub whole_up : (table : Table) (ties : Ties) (id : ℕ) → ties_of table ≡ ties → hash.IsUnique nat_eq table.nodes → (next : ℕ → Option ℕ) → (way : List ℕ) → IsWay next id way → length way < hash.hash_map_len table.nodes → walk next (fin.len ties) (Some id) ≡ id ∷ way
whole_up table ties id is unique next way p few =
    rw (ap fin.len (sym is) ∙ len-ties_of table unique) (walk-IsWay next id way (hash.hash_map_len table.nodes) p few)

pub len_read : (table : Table) (ties : Ties) → ties_of table ≡ ties → hash.IsUnique nat_eq table.nodes → fin.len ties ≡ hash.hash_map_len table.nodes
len_read table ties is unique = ap fin.len (sym is) ∙ len-ties_of table unique

-- no objects
pub empty_view : (table : Table) → ((q : ℕ) → node_in table q ≡ None) → ties_of table ≡ fin.empty
empty_view table none = fin.same_map nat_cmp_total fin.nat_cmp-IsAntisymmetric _ _ (λ q. get-ties_of table q ∙ ap (option_map tie_of) (none q) ∙ sym (fin.get-empty nat_cmp q))

-- the same ties
pub same_view : (old new : Table) (ties : Ties) → ties_of old ≡ ties → SameTies old new → ties_of new ≡ ties
same_view old new ties is same = fin.same_map nat_cmp_total fin.nat_cmp-IsAntisymmetric _ _ (λ q. get-ties_of new q ∙ same q ∙ sym (get-ties_of old q)) ∙ is

-- one tie more
pub added_view : (old new : Table) (ties : Ties) (id : ℕ) (tie : Tie) → ties_of old ≡ ties → ((q : ℕ) → tie_in new q ≡ (if q == id then Some tie else tie_in old q)) → ties_of new ≡ fin.insert ties id tie
added_view old new ties id tie is now = fin.same_map nat_cmp_total fin.nat_cmp-IsAntisymmetric _ _ (λ q.
    get-ties_of new q ∙ now q ∙ rw (fin.get-insert nat_cmp_total ties id tie q, same_test q id) (ap (λ (f : ℕ → Option Tie). if q == id then Some tie else f q) (sym (read old ties is))))
