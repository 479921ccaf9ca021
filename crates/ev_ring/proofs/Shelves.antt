-- The rule over the slots is kept by each kind of step.
use Rattle.std.proofs.Common.{◌≡◌, ℕ, ◌+◌, ◌<◌, ◌≤◌, ◌≢◌, List, [], ◌∷◌, ◌++◌, length, set, sym, refl, ap, ◌∙◌, subst, ⊎_elim, arith}
use mathlib.Core.Logic.{dite}
use mathlib.Core.Option.{none, some, some-injective, some-ne-none}
use native.Mathlib.Decide.{ℕ_discrete}
use lib.ListN.{get_elem?}
use Rattle.std.specs.Prelude.{Option, Some, None}
use Rattle.atomic_table.proofs.Lists.{at_set, at_snoc, set_here, set_else}
use Rattle.ev_seats.specs.Jobs.{job_of, without}
use Rattle.ev_ring.specs.RingSlots.{Slot, slot_of, holders, IsFree, Shelf}
use Rattle.ev_seats.specs.Weights.{is_of}
use Rattle.ev_seats.specs.Homes.{Homes, IsOut, IsBlank, IsHome}
use Rattle.ev_ring.specs.declared.view.View.{View}
use Rattle.ev_ring.specs.declared.view.Entry.{Entry}
use Rattle.ev_ring.specs.declared.view.Entry.TheVariants.{Waiting, Finished}
use Rattle.ev_seats.proofs.Sums.{total-append, total-set, is_of-same, is_of-other}
use Rattle.ev_seats.proofs.Jobs.{one_job, first_here, first_else, stays, left}

pub slot_small : (t : ℕ) → slot_of t < 4096
slot_small t = omega arith

module _ {J D : Type 0} (belongs : J → D → Type 0) (limit c : ℕ) (homes : Homes (Entry J D)) (views : List (View J)) (jobs : List (ℕ × J)) (out : Option ℕ) (sh : Shelf belongs limit c homes views jobs out) where
  -- two jobs' tickets that share a slot are one
  pub one_ticket : (t u : ℕ) (j k : J) → job_of t jobs ≡ Some j → job_of u jobs ≡ Some k → slot_of t ≡ slot_of u → t ≡ u
  one_ticket t u j k a b e = let x = sh.near t u j k a b in let y = sh.near u t k j b a in omega arith

  -- a slot that is out is no slot that is at home
  out_home : (i i' : ℕ) (entry : Entry J D) → IsOut homes i → IsHome homes i' entry → i' ≢ i
  out_home i i' entry a b e = let x : get_elem? homes i ≡ some (some (Some entry)) = ap (λ (k : ℕ). get_elem? homes k) (sym e) ∙ b in some-ne-none (Some entry) (some-injective _ _ (sym x ∙ a))

  module _ (id : ℕ) (v w : View J) (at : get_elem? views id ≡ some v) where
    -- the seat holds and knows what it did before
    pub shelf_stays : (limit' : ℕ) → w.counts.hand.held ≡ v.counts.hand.held → ((t : ℕ) → w.counts.hand.held ≡ Some t → w.job ≡ v.job) → ((t : ℕ) → c ≤ t → t < limit' → (j : J) × (job_of t jobs ≡ Some j)) → Shelf belongs limit' c homes (set views id w) jobs out
    shelf_stays limit' same job published =
        let count : (t : ℕ) → holders t (set views id w) ≡ holders t views = λ t. omega (arith, total-set (λ (u : View J). is_of t u.counts.hand.held) views id v w at, ap (is_of t) same) in
        record {
          near = sh.near;
          published = published;
          waiting = sh.waiting;
          held = λ k u t e h. ⊎_elim
              (λ p. let mine = ap (λ (x : View J). x.counts.hand.held) p.1 ∙ h in let old = sh.held id v t at (sym same ∙ mine) in (old.0, old.1, ap (λ (x : View J). x.job) (sym p.1) ∙ (job t mine ∙ old.2), old.3))
              (λ p. sh.held k u t p.1 h) (at_set views id k w u e);
          finished = λ t j e below none_out. sh.finished t j e below (sym (count t) ∙ none_out);
          idle = sh.idle;
          lent = sh.lent;
        }

    -- the next ticket is claimed, and its slot comes with it
    pub shelf_claimed : (j : J) → length homes ≡ 4096 → job_of c jobs ≡ Some j → v.counts.hand.held ≡ None → w.counts.hand.held ≡ Some c → w.job ≡ Some j
        → Shelf belongs limit (c + 1) (set homes (slot_of c) none) (set views id w) jobs out
    shelf_claimed j many has free holds knows =
        let i : ℕ = slot_of c in let here = sh.waiting c j has (omega arith) in
        let count : (t : ℕ) → holders t (set views id w) ≡ holders t views + is_of t (Some c) = λ t. omega (arith, total-set (λ (u : View J). is_of t u.counts.hand.held) views id v w at, ap (is_of t) free, ap (is_of t) holds) in
        let else' : (k : ℕ) → k ≢ i → get_elem? (set homes i none) k ≡ get_elem? homes k = λ k n. set_else homes i k none n in
        record {
          near = sh.near;
          published = λ t a b. sh.published t (omega arith) b;
          waiting = λ t k e a. let ne : slot_of t ≢ i = λ same. let x = one_ticket t c k j e has same in omega arith in else' (slot_of t) ne ∙ sh.waiting t k e (omega arith);
          held = λ k u t e h. ⊎_elim
              (λ p. let is : c ≡ t = let x : Some c ≡ Some t = sym holds ∙ (ap (λ (y : View J). y.counts.hand.held) p.1 ∙ h) in cc in
              subst (λ (n : ℕ). (j' : J) × (job_of n jobs ≡ Some j') × (u.job ≡ Some j') × IsOut (set homes i none) (slot_of n)) is
              (j, has, ap (λ (y : View J). y.job) (sym p.1) ∙ knows, set_here homes i none (omega (arith, slot_small c))))
              (λ p. let old = sh.held k u t p.1 h in let ne : slot_of t ≢ i = λ same. out_home (slot_of t) i (Waiting c j) old.3 here (sym same) in (old.0, old.1, old.2, else' (slot_of t) ne ∙ old.3)) (at_set views id k w u e);
          finished = λ t k e below none_out. dite (ℕ_discrete t c)
              (λ is. absurd (omega (arith, count t, ap (λ (n : ℕ). is_of n (Some c)) is, is_of-same c)))
              (λ ne. let old = sh.finished t k e (omega arith) (omega (arith, count t)) in (old.0, else' (slot_of t) (λ same. ne (one_ticket t c k j e has same)) ∙ old.1, old.2));
          idle = λ k small no_job not_out. else' k (λ same. no_job c j has (sym same)) ∙ sh.idle k small no_job not_out;
          lent = λ k is. let old = sh.lent k is in (old.0, else' k (λ same. old.0 c j has (sym same)) ∙ old.1);
        }

    -- a ticket is given back, and its slot with what belongs to its job
    pub shelf_given : (t : ℕ) (j : J) (d : D) → length homes ≡ 4096 → v.counts.hand.held ≡ Some t → w.counts.hand.held ≡ None → v.job ≡ Some j → belongs j d
        → ((k : ℕ) (u : View J) → k ≢ id → get_elem? views k ≡ some u → u.counts.hand.held ≡ Some t → ⊥) → Shelf belongs limit c (set homes (slot_of t) (some (Some (Finished t d)))) (set views id w) jobs out
    shelf_given t j d many holds free knows fits lone =
        let i : ℕ = slot_of t in let y : Slot J D = Some (Finished t d) in let mine = sh.held id v t at holds in
        let has : job_of t jobs ≡ Some j = mine.1 ∙ (sym mine.2 ∙ knows) in
        let count : (u : ℕ) → holders u (set views id w) + is_of u (Some t) ≡ holders u views = λ u. omega (arith, total-set (λ (x : View J). is_of u x.counts.hand.held) views id v w at, ap (is_of u) free, ap (is_of u) holds) in
        let else' : (k : ℕ) → k ≢ i → get_elem? (set homes i (some y)) k ≡ get_elem? homes k = λ k n. set_else homes i k (some y) n in
        record {
          near = sh.near;
          published = sh.published;
          waiting = λ u k e a. let old = sh.waiting u k e a in else' (slot_of u) (out_home i (slot_of u) (Waiting u k) mine.3 old) ∙ old;
          held = λ k u t' e h. ⊎_elim
              (λ p. let x : None ≡ Some t' = sym free ∙ (ap (λ (z : View J). z.counts.hand.held) p.1 ∙ h) in cc)
              (λ p. let old = sh.held k u t' p.1 h in
              let ne : slot_of t' ≢ i = λ same. let is = one_ticket t' t old.0 j old.1 has same in lone k u p.0 p.1 (subst (λ (n : ℕ). u.counts.hand.held ≡ Some n) is h) in
              (old.0, old.1, old.2, else' (slot_of t') ne ∙ old.3)) (at_set views id k w u e);
          finished = λ u k e below none_out. dite (ℕ_discrete u t)
              (λ is. let e' : job_of t jobs ≡ Some k = ap (λ (n : ℕ). job_of n jobs) (sym is) ∙ e in
              subst (λ (n : ℕ). (d' : D) × IsHome (set homes i (some y)) (slot_of n) (Finished n d') × belongs k d') (sym is)
              (d, set_here homes i (some y) (omega (arith, slot_small t)), subst (λ (x : J). belongs x d) (one_job t jobs j k has e') fits))
              (λ ne. let old = sh.finished u k e below (omega (arith, count u, is_of-other u t (λ h. ne (sym h)))) in (old.0, else' (slot_of u) (λ same. ne (one_ticket u t k j e has same)) ∙ old.1, old.2));
          idle = λ k small no_job not_out. else' k (λ same. no_job t j has (sym same)) ∙ sh.idle k small no_job not_out;
          lent = λ k is. let old = sh.lent k is in (old.0, else' k (λ same. old.0 t j has (sym same)) ∙ old.1);
        }

  -- a new seat holds nothing
  pub shelf_wider : (w : View J) → w.counts.hand.held ≡ None → Shelf belongs limit c homes (views ++ w ∷ []) jobs out
  shelf_wider w free =
      let count : (t : ℕ) → holders t (views ++ w ∷ []) ≡ holders t views = λ t. omega (arith, total-append (λ (u : View J). is_of t u.counts.hand.held) views (w ∷ []), ap (is_of t) free) in
      record {
        near = sh.near;
        published = sh.published;
        waiting = sh.waiting;
        held = λ k u t e h. ⊎_elim (λ p. sh.held k u t p h) (λ (p : w ≡ u). let x : None ≡ Some t = sym free ∙ (ap (λ (y : View J). y.counts.hand.held) p ∙ h) in cc) (at_snoc views w u k e);
        finished = λ t j e below none_out. sh.finished t j e below (sym (count t) ∙ none_out);
        idle = sh.idle;
        lent = sh.lent;
      }

  -- the owner takes the empty slot of a ticket that has no job yet
  pub shelf_emptied : (t : ℕ) → length homes ≡ 4096 → IsFree jobs (slot_of t) → out ≡ None → Shelf belongs limit c (set homes (slot_of t) none) views jobs (Some (slot_of t))
  shelf_emptied t many free none_out =
      let i : ℕ = slot_of t in let else' : (k : ℕ) → k ≢ i → get_elem? (set homes i none) k ≡ get_elem? homes k = λ k n. set_else homes i k none n in
      record {
        near = sh.near;
        published = sh.published;
        waiting = λ u k e a. else' (slot_of u) (free u k e) ∙ sh.waiting u k e a;
        held = λ k u t' e h. let old = sh.held k u t' e h in (old.0, old.1, old.2, else' (slot_of t') (free t' old.0 old.1) ∙ old.3);
        finished = λ u k e below none_held. let old = sh.finished u k e below none_held in (old.0, else' (slot_of u) (free u k e) ∙ old.1, old.2);
        idle = λ k small no_job not_out. else' k (λ same. not_out (ap Some (sym same))) ∙ sh.idle k small no_job (λ h. cc);
        lent = λ k is. let same : i ≡ k = cc in subst (λ (n : ℕ). IsFree jobs n × IsOut (set homes i none) n) same (free, set_here homes i none (omega (arith, slot_small t)));
      }

  -- it gives the slot back with the ticket's job
  pub shelf_filled : (t : ℕ) (j : J) → length homes ≡ 4096 → out ≡ Some (slot_of t) → c ≤ t → ((u : ℕ) (k : J) → job_of u jobs ≡ Some k → (t < u + 4096) × (u < t + 4096))
      → Shelf belongs limit c (set homes (slot_of t) (some (Some (Waiting t j)))) views ((t, j) ∷ jobs) None
  shelf_filled t j many is_out later close =
      let i : ℕ = slot_of t in let y : Slot J D = Some (Waiting t j) in let l = sh.lent i is_out in let jobs' : List (ℕ × J) = (t, j) ∷ jobs in
      let else' : (k : ℕ) → k ≢ i → get_elem? (set homes i (some y)) k ≡ get_elem? homes k = λ k n. set_else homes i k (some y) n in
      let mine : job_of t jobs' ≡ Some j = first_here t (t, j) jobs refl in
      let other : (u : ℕ) → t ≢ u → job_of u jobs' ≡ job_of u jobs = λ u n. first_else u (t, j) jobs n in
      let apart : (u : ℕ) (k : J) → job_of u jobs ≡ Some k → t ≢ u = λ u k e same. l.0 u k e (ap slot_of (sym same)) in
      record {
        near = λ a b p q x z. dite (ℕ_discrete t a)
            (λ ta. dite (ℕ_discrete t b) (λ tb. omega arith) (λ nb. let r = (close b q (sym (other b nb) ∙ z)).0 in omega arith))
            (λ na. dite (ℕ_discrete t b) (λ tb. let r = (close a p (sym (other a na) ∙ x)).1 in omega arith) (λ nb. sh.near a b p q (sym (other a na) ∙ x) (sym (other b nb) ∙ z)));
        published = λ u a b. dite (ℕ_discrete t u) (λ is. (j, subst (λ (n : ℕ). job_of n jobs' ≡ Some j) is mine)) (λ ne. let old = sh.published u a b in (old.0, other u ne ∙ old.1));
        waiting = λ u k e a. dite (ℕ_discrete t u)
            (λ is. let e' : job_of t jobs' ≡ Some k = ap (λ (n : ℕ). job_of n jobs') is ∙ e in
            subst (λ (n : ℕ). IsHome (set homes i (some y)) (slot_of n) (Waiting n k)) is (subst (λ (m : J). IsHome (set homes i (some y)) i (Waiting t m)) (one_job t jobs' j k mine e') (set_here homes i (some y) (omega (arith, slot_small t)))))
            (λ ne. let e' = sym (other u ne) ∙ e in else' (slot_of u) (l.0 u k e') ∙ sh.waiting u k e' a);
        held = λ k u t' e h. let old = sh.held k u t' e h in (old.0, other t' (apart t' old.0 old.1) ∙ old.1, old.2, else' (slot_of t') (l.0 t' old.0 old.1) ∙ old.3);
        finished = λ u k e below none_held. let ne : t ≢ u = λ is. omega arith in let e' = sym (other u ne) ∙ e in let old = sh.finished u k e' below none_held in (old.0, else' (slot_of u) (l.0 u k e') ∙ old.1, old.2);
        idle = λ k small no_job not_out. let ne : k ≢ i = λ same. no_job t j mine (sym same) in
            else' k ne ∙ sh.idle k small (λ u m e. no_job u m (other u (apart u m e) ∙ e)) (λ h. let same : i ≡ k = cc in ne (sym same));
        lent = λ k is. cc;
      }

  -- a quiet owner takes the slot of a ticket that was given back
  pub shelf_collected : (t : ℕ) (j : J) → length homes ≡ 4096 → out ≡ None → limit ≤ c → job_of t jobs ≡ Some j → ((k : ℕ) (u : View J) (t' : ℕ) → get_elem? views k ≡ some u → u.counts.hand.held ≡ Some t' → ⊥)
      → Shelf belongs limit c (set homes (slot_of t) none) views (without t jobs) (Some (slot_of t))
  shelf_collected t j many none_out calm has unheld =
      let i : ℕ = slot_of t in let else' : (k : ℕ) → k ≢ i → get_elem? (set homes i none) k ≡ get_elem? homes k = λ k n. set_else homes i k none n in
      let before : (u : ℕ) (k : J) → job_of u (without t jobs) ≡ Some k → (job_of u jobs ≡ Some k) × (slot_of u ≢ i) = λ u k e. let p = left t u jobs k e in let n = p.0 in (p.1, λ same. n (one_ticket u t k j p.1 has same)) in
      record {
        near = λ a b p q x z. sh.near a b p q (before a p x).0 (before b q z).0;
        published = λ u a b. absurd (omega arith);
        waiting = λ u k e a. let b = before u k e in else' (slot_of u) b.1 ∙ sh.waiting u k b.0 a;
        held = λ k u t' e h. absurd (unheld k u t' e h);
        finished = λ u k e below none_held. let b = before u k e in let old = sh.finished u k b.0 below none_held in (old.0, else' (slot_of u) b.1 ∙ old.1, old.2);
        idle = λ k small no_job not_out. let ne : k ≢ i = λ same. not_out (ap Some (sym same)) in
            else' k ne ∙ sh.idle k small (λ u m e. dite (ℕ_discrete u t) (λ is. λ same. ne (sym same ∙ ap slot_of is)) (λ n. no_job u m (stays t u jobs n ∙ e))) (λ h. cc);
        lent = λ k is. let same : i ≡ k = cc in subst (λ (n : ℕ). IsFree (without t jobs) n × IsOut (set homes i none) n) same ((λ u m e. (before u m e).1), set_here homes i none (omega (arith, slot_small t)));
      }

  -- it gives the slot back empty
  pub shelf_cleared : (i : ℕ) → length homes ≡ 4096 → i < 4096 → out ≡ Some i → Shelf belongs limit c (set homes i (some None)) views jobs None
  shelf_cleared i many small_i is_out =
      let l = sh.lent i is_out in let else' : (k : ℕ) → k ≢ i → get_elem? (set homes i (some None)) k ≡ get_elem? homes k = λ k n. set_else homes i k (some None) n in
      record {
        near = sh.near;
        published = sh.published;
        waiting = λ u k e a. else' (slot_of u) (l.0 u k e) ∙ sh.waiting u k e a;
        held = λ k u t' e h. let old = sh.held k u t' e h in (old.0, old.1, old.2, else' (slot_of t') (l.0 t' old.0 old.1) ∙ old.3);
        finished = λ u k e below none_held. let old = sh.finished u k e below none_held in (old.0, else' (slot_of u) (l.0 u k e) ∙ old.1, old.2);
        idle = λ k small no_job not_out. dite (ℕ_discrete k i)
            (λ is. subst (λ (n : ℕ). IsBlank (set homes i (some None)) n) (sym is) (set_here homes i (some None) (omega arith)))
            (λ ne. else' k ne ∙ sh.idle k small no_job (λ h. let same : i ≡ k = cc in ne (sym same)));
        lent = λ k is. cc;
      }
