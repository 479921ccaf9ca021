-- The rule over the words' values and the views is kept by each kind of step.
use Rattle.std.proofs.Common.{◌≡◌, ℕ, ◌+◌, ◌<◌, ◌≤◌, ◌≢◌, Bool, true, false, List, [], ◌∷◌, ◌++◌, set, sym, refl, ap, ◌∙◌, subst, ⊎_elim, arith}
use mathlib.Core.Option.{some}
use lib.ListN.{get_elem?}
use Rattle.std.specs.Prelude.{Some, None}
use Rattle.std.proofs.lemmas.Bool.{eqb-true}
use Rattle.atomic_table.proofs.Lists.{at_set, at_snoc}
use Rattle.ev_seats.proofs.Lists.{lone}
use Rattle.ev_seats.specs.Weights.{total, below, only, is_one}
use Rattle.ev_ring.specs.Tally.{bare, limit_word, is_owner, is_hand, held_by, hands_in, Reads, Leads, Tally, blank_hand, opening_view, spent_view}
use Rattle.ev_ring.specs.Steps.{with_hand, with_owner, saw_limit, saw_claim, got_ticket, lost_to, gave_ticket, saw_done, published_to, closed_view, with_hand_out, new_hand, taken_in, HasAll}
use Rattle.ev_ring.specs.declared.view.Role.{Role}
use Rattle.ev_ring.specs.declared.view.Role.TheVariants.{Owner, Hand, Spent}
use Rattle.ev_ring.specs.declared.view.HandView.{HandView}
use Rattle.ev_ring.specs.declared.view.OwnerView.{OwnerView}
use Rattle.ev_ring.specs.declared.view.Counts.{Counts}
use Rattle.ev_seats.proofs.Sums.{total-append, total-set, term_le, terms_le, total-lone, below_more, below-once, only-same}

abbrev pub Views : Type 0
Views = List Counts

-- there is no second owner
lone_owner : (views : Views) (j k : ℕ) (v u : Counts) → total (λ (x : Counts). is_owner x.role) views ≡ 1 → get_elem? views j ≡ some v → get_elem? views k ≡ some u → v.role ≡ Owner → u.role ≡ Owner → k ≢ j → ⊥
lone_owner views j k v u one at at' mine yours other = let two = terms_le (λ (x : Counts). is_owner x.role) views j k v u other at at' in omega (arith, ap is_owner mine, ap is_owner yours)

-- the rule is kept where the words and the view of one seat change so
pub moved : (l c d l' c' d' : ℕ) (views : Views) (t : Tally l c d views) (id : ℕ) (v w : Counts) → get_elem? views id ≡ some v → w.role ≡ v.role
    → bare l ≤ bare l' → c ≤ c' → c' ≤ bare l' → ((f : ℕ → ℕ) → total f w.hand.got + below f c ≡ total f v.hand.got + below f c') → d' + is_one w.hand.held + c ≡ d + is_one v.hand.held + c'
    → ((ticket : ℕ) → w.hand.held ≡ Some ticket → 0 < total (only ticket) w.hand.got) → Reads l' c' w.hand → (v.role ≡ Spent → ⊥) → (v.role ≡ Owner → Leads l d (hands_in views) v.owner → Leads l' d' (hands_in views) w.owner)
    → ((k : ℕ) (u : Counts) → k ≢ id → get_elem? views k ≡ some u → u.role ≡ Owner → Leads l d (hands_in views) u.owner → Leads l' d' (hands_in views) u.owner)
    → Tally l' c' d' (set views id w)
moved l c d l' c' d' views t id v w at same up on within once done stands reads live mine others =
    let hands : hands_in (set views id w) ≡ hands_in views = omega (arith, total-set (λ (u : Counts). is_hand u.role) views id v w at, ap is_hand same) in
    record {
      within = within;
      once = λ f. omega (arith, total-set (λ (u : Counts). total f u.hand.got) views id v w at, t.once f, once f);
      settled = omega (arith, total-set (λ (u : Counts). is_one u.hand.held) views id v w at, t.settled);
      stands = λ k u ticket e h. ⊎_elim (λ p. subst (λ (x : Counts). 0 < total (only ticket) x.hand.got) p.1 (stands ticket (ap (λ (x : Counts). x.hand.held) p.1 ∙ h))) (λ p. t.stands k u ticket p.1 h) (at_set views id k w u e);
      one_owner = omega (arith, total-set (λ (u : Counts). is_owner u.role) views id v w at, ap is_owner same, t.one_owner);
      reads = λ k u e. ⊎_elim (λ p. subst (λ (x : Counts). Reads l' c' x.hand) p.1 reads) (λ p. let r = t.reads k u p.1 in let a = r.limit_behind in let b = r.claim_behind in let g = r.found_behind in record { limit_behind = omega arith; claim_behind = omega arith; found_behind = omega arith }) (at_set views id k w u e);
      leads = λ k u e is. subst (λ (n : ℕ). Leads l' d' n u.owner) (sym hands)
          (⊎_elim (λ p. subst (λ (x : Counts). Leads l' d' (hands_in views) x.owner) p.1 (let o : v.role ≡ Owner = sym same ∙ (ap (λ (x : Counts). x.role) p.1 ∙ is) in mine o (t.leads id v at o)))
          (λ p. others k u p.0 p.1 is (t.leads k u p.1 is)) (at_set views id k w u e));
      spent = λ k u e is. ⊎_elim (λ p. absurd (live (sym same ∙ (ap (λ (x : Counts). x.role) p.1 ∙ is)))) (λ p. t.spent k u p.1 is) (at_set views id k w u e);
    }

-- the limit's word without its top bit is the limit
pub bare_word : (b : Bool) (n : ℕ) → n ≤ 4611686018427387904 → bare (limit_word b n) ≡ n
bare_word false n h = omega arith
bare_word true n h = omega arith

module _ (l c d : ℕ) (views : Views) (t : Tally l c d views) (id : ℕ) (v : Counts) (at : get_elem? views id ≡ some v) where
  abbrev Live : Type 0
  Live = v.role ≡ Spent → ⊥

  abbrev Leading : Type 0
  Leading = v.role ≡ Owner

  led : Leading → Leads l d (hands_in views) v.owner
  led o = t.leads id v at o

  pub live_owner : Leading → Live
  live_owner o e = cc

  pub alone : Leading → (k : ℕ) (u : Counts) → k ≢ id → get_elem? views k ≡ some u → u.role ≡ Owner → ⊥
  alone o k u other at' o' = lone_owner views id k v u t.one_owner at at' o o' other

  -- a look at a word, or a lost try
  looked : (h : HandView) → Live → (h.got ≡ v.hand.got) → (h.held ≡ v.hand.held) → Reads l c h → Tally l c d (set views id (with_hand v h))
  looked h live got held reads =
      moved l c d l c d views t id v (with_hand v h) at refl (omega arith) (omega arith) t.within (λ f. omega (arith, ap (total f) got)) (omega (arith, ap is_one held)) (λ ticket h. omega (arith, ap (total (only ticket)) got, t.stands id v ticket at (sym held ∙ h))) reads live (λ _ x. x) (λ k u other e is x. x)

  pub limit_kept : Live → Tally l c d (set views id (saw_limit l v))
  limit_kept live = let r = t.reads id v at in looked _ live refl refl record { limit_behind = omega arith; claim_behind = r.claim_behind; found_behind = r.found_behind }

  pub claim_kept : Live → Tally l c d (set views id (saw_claim c v))
  claim_kept live = let r = t.reads id v at in looked _ live refl refl record { limit_behind = r.limit_behind; claim_behind = omega arith; found_behind = r.found_behind }

  pub lost_kept : Live → Tally l c d (set views id (lost_to c v))
  lost_kept live = let r = t.reads id v at in looked _ live refl refl record { limit_behind = r.limit_behind; claim_behind = r.claim_behind; found_behind = omega arith }

  -- a ticket below the limit that was read is got
  pub got_kept : Live → c < bare v.hand.limit_read → v.hand.held ≡ None → Tally l (c + 1) d (set views id (got_ticket c v))
  got_kept live below_limit free = let r = t.reads id v at in let a = r.limit_behind in let b = r.claim_behind in let g = r.found_behind in
      moved l c d l (c + 1) d views t id v (got_ticket c v) at refl (omega arith) (omega arith) (omega arith) (λ f. omega (arith, total-append f v.hand.got (c ∷ []), below_more f c)) (omega (arith, ap is_one free))
      (λ ticket h. let same : c ≡ ticket = cc in omega (arith, total-append (only ticket) v.hand.got (c ∷ []), ap (only ticket) same, only-same ticket))
      record { limit_behind = a; claim_behind = omega arith; found_behind = omega arith } live (λ _ x. x) (λ k u other e is x. x)

  -- where a ticket is held, the number of tickets done is below the claim
  pub behind : (ticket : ℕ) → v.hand.held ≡ Some ticket → d < c
  behind ticket has = omega (arith, t.settled, term_le (λ (u : Counts). is_one u.hand.held) views id v at, ap is_one has)

  -- so no owner is quiet
  unquiet : (ticket : ℕ) (hands : ℕ) (o : OwnerView) → v.hand.held ≡ Some ticket → Leads l d hands o → o.is_quiet ≡ true → ⊥
  unquiet ticket hands o has leads is = let w = t.within in omega (arith, behind ticket has, leads.quiet is, ap bare leads.limit_is, bare_word o.is_closed o.limit leads.room)

  pub gave_kept : Live → (ticket : ℕ) → v.hand.held ≡ Some ticket → Tally l c (d + 1) (set views id (gave_ticket v))
  gave_kept live ticket has = let r = t.reads id v at in
      moved l c d l c (d + 1) views t id v (gave_ticket v) at refl (omega arith) (omega arith) t.within (λ f. refl) (omega (arith, ap is_one has)) (λ ticket' h. cc)
      record { limit_behind = r.limit_behind; claim_behind = r.claim_behind; found_behind = r.found_behind } live
      (λ _ x. let a = x.seen in let b = x.own in record { limit_is = x.limit_is; room = x.room; quiet = λ is. absurd (unquiet ticket _ _ has x is); seen = omega arith; own = omega arith; hands_are = x.hands_are })
      (λ k u other e is x. let a = x.seen in let b = x.own in record { limit_is = x.limit_is; room = x.room; quiet = λ q. absurd (unquiet ticket _ _ has x q); seen = omega arith; own = omega arith; hands_are = x.hands_are })

  -- a step of the owner's
  steered : (l' : ℕ) (o : OwnerView) → Leading → bare l ≤ bare l' → Leads l' d (hands_in views) o → Tally l' c d (set views id (with_owner v o))
  steered l' o lead up leads = let r = t.reads id v at in let a = r.limit_behind in let w = t.within in
      moved l c d l' c d views t id v (with_owner v o) at refl up (omega arith) (omega arith) (λ f. refl) refl (λ ticket h. t.stands id v ticket at h)
      record { limit_behind = omega arith; claim_behind = r.claim_behind; found_behind = r.found_behind } (live_owner lead) (λ _ _. leads) (λ k u other e is _. absurd (alone lead k u other e is))

  pub done_kept : Leading → Tally l c d (set views id (saw_done d v))
  done_kept lead = let x = led lead in
      steered l _ lead (omega arith) record { limit_is = x.limit_is; room = x.room; quiet = λ e. eqb-true d v.owner.limit e; seen = omega arith; own = x.own; hands_are = x.hands_are }

  -- the number of tickets done is at most the limit
  pub done_below : Leading → d ≤ v.owner.limit
  done_below lead = let x = led lead in let w = t.within in let s = t.settled in omega (arith, ap bare x.limit_is, bare_word v.owner.is_closed v.owner.limit x.room)

  pub published_kept : (n : ℕ) → Leading → v.owner.is_quiet ≡ true → v.owner.limit ≤ n → n ≤ 4611686018427387904 → Tally (limit_word v.owner.is_closed n) c d (set views id (published_to n v))
  published_kept n lead quiet up room = let x = led lead in let s = x.seen in let q = x.quiet quiet in let b = v.owner.is_closed in
      steered (limit_word b n) _ lead (omega (arith, ap bare x.limit_is, bare_word b v.owner.limit x.room, bare_word b n room))
      record { limit_is = refl; room = room; quiet = λ e. omega (arith, eqb-true n v.owner.limit e); seen = s; own = omega arith; hands_are = x.hands_are }

  pub closed_kept : Leading → Tally (limit_word true v.owner.limit) c d (set views id (closed_view v))
  closed_kept lead = let x = led lead in
      steered (limit_word true v.owner.limit) _ lead (omega (arith, ap bare x.limit_is, bare_word v.owner.is_closed v.owner.limit x.room, bare_word true v.owner.limit x.room))
      record { limit_is = refl; room = x.room; quiet = x.quiet; seen = x.seen; own = x.own; hands_are = x.hands_are }

  -- where the owner is quiet, no seat holds a ticket, and the three words agree
  pub quiet_agrees : Leading → v.owner.is_quiet ≡ true → (d ≡ v.owner.limit) × (c ≡ v.owner.limit) × (held_by views ≡ 0)
  quiet_agrees lead is = let x = led lead in let q = x.quiet is in let w = t.within in let s = t.settled in let b = ap bare x.limit_is in let e = bare_word v.owner.is_closed v.owner.limit x.room in
      (q, omega arith, omega arith)

  -- where the owner has no hand out, each ticket below the claim is its own
  pub all_home : HasAll v c
  all_home lead none-out f = let x = led lead in let h = x.hands_are in
      let lone : (k : ℕ) (u : Counts) → k ≢ id → get_elem? views k ≡ some u → total f u.hand.got ≡ 0 = λ k u other e. idle f u k e (alone lead k u other e) (omega (arith, term_le (λ (y : Counts). is_hand y.role) views k u e)) u.role refl in
      omega (arith, t.once f, total-lone (λ (u : Counts). total f u.hand.got) views id v at lone)
    where
      idle : (f : ℕ → ℕ) (u : Counts) (k : ℕ) → get_elem? views k ≡ some u → (u.role ≡ Owner → ⊥) → is_hand u.role ≡ 0 → (r : Role) → u.role ≡ r → total f u.hand.got ≡ 0
      idle f u k e other idles Owner is = absurd (other is)
      idle f u k e other idles Hand is = absurd (omega (arith, ap is_hand is))
      idle f u k e other idles Spent is = ap (total f) (t.spent k u e is).0

  -- no two seats hold one ticket
  pub apart : (ticket k : ℕ) (u : Counts) → v.hand.held ≡ Some ticket → k ≢ id → get_elem? views k ≡ some u → u.hand.held ≡ Some ticket → ⊥
  apart ticket k u mine other e yours =
      let two = terms_le (λ (y : Counts). total (only ticket) y.hand.got) views id k v u other at e in
      omega (arith, t.stands id v ticket at mine, t.stands k u ticket e yours, t.once (only ticket), below-once ticket c)

  blank_reads : Reads l c blank_hand
  blank_reads = record { limit_behind = omega arith; claim_behind = omega arith; found_behind = omega arith }

  -- the owner splits off a hand
  pub split_kept : Leading → Tally l c d (set views id (with_hand_out v) ++ new_hand ∷ [])
  split_kept lead = let w : Counts = with_hand_out v in let views' : Views = set views id w in let x = led lead in
      let hands : hands_in (views' ++ new_hand ∷ []) ≡ hands_in views + 1 = omega (arith, total-append (λ (u : Counts). is_hand u.role) views' (new_hand ∷ []), total-set (λ (u : Counts). is_hand u.role) views id v w at) in
      record {
        within = t.within;
        once = λ f. omega (arith, total-append (λ (u : Counts). total f u.hand.got) views' (new_hand ∷ []), total-set (λ (u : Counts). total f u.hand.got) views id v w at, t.once f);
        settled = omega (arith, total-append (λ (u : Counts). is_one u.hand.held) views' (new_hand ∷ []), total-set (λ (u : Counts). is_one u.hand.held) views id v w at, t.settled);
        stands = λ k u ticket e h. ⊎_elim (λ p. ⊎_elim (λ q. let i : v.hand.held ≡ Some ticket = ap (λ (y : Counts). y.hand.held) q.1 ∙ h in subst (λ (y : Counts). 0 < total (only ticket) y.hand.got) q.1 (t.stands id v ticket at i)) (λ q. t.stands k u ticket q.1 h) (at_set views id k w u p))
            (λ (p : new_hand ≡ u). let i : None ≡ Some ticket = ap (λ (y : Counts). y.hand.held) p ∙ h in cc) (at_snoc views' new_hand u k e);
        one_owner = omega (arith, total-append (λ (u : Counts). is_owner u.role) views' (new_hand ∷ []), total-set (λ (u : Counts). is_owner u.role) views id v w at, t.one_owner);
        reads = λ k u e. ⊎_elim (λ p. ⊎_elim (λ q. subst (λ (y : Counts). Reads l c y.hand) q.1 (t.reads id v at)) (λ q. t.reads k u q.1) (at_set views id k w u p)) (λ (p : new_hand ≡ u). subst (λ (y : Counts). Reads l c y.hand) p blank_reads) (at_snoc views' new_hand u k e);
        leads = λ k u e is. subst (λ (n : ℕ). Leads l d n u.owner) (sym hands) (⊎_elim
            (λ p. ⊎_elim (λ q. subst (λ (y : Counts). Leads l d (hands_in views + 1) y.owner) q.1
            (let h = x.hands_are in record { limit_is = x.limit_is; room = x.room; quiet = x.quiet; seen = x.seen; own = x.own; hands_are = omega arith }))
            (λ q. absurd (alone lead k u q.0 q.1 is)) (at_set views id k w u p))
            (λ (p : new_hand ≡ u). let r : Hand ≡ Owner = ap (λ (y : Counts). y.role) p ∙ is in cc) (at_snoc views' new_hand u k e));
        spent = λ k u e is. ⊎_elim (λ p. ⊎_elim (λ q. let r : v.role ≡ Spent = ap (λ (y : Counts). y.role) q.1 ∙ is in absurd (live_owner lead r)) (λ q. t.spent k u q.1 is) (at_set views id k w u p))
            (λ (p : new_hand ≡ u). let r : Hand ≡ Spent = ap (λ (y : Counts). y.role) p ∙ is in cc) (at_snoc views' new_hand u k e);
      }

  -- the owner takes in a hand that holds nothing
  pub join_kept : Leading → (other : ℕ) (w : Counts) → get_elem? (set views id (taken_in v w)) other ≡ some w → w.role ≡ Hand → w.hand.held ≡ None → Tally l c d (set (set views id (taken_in v w)) other spent_view)
  join_kept lead other w there role free = let both : Counts = taken_in v w in let views' : Views = set views id both in let x = led lead in
      let hands : hands_in (set views' other spent_view) + 1 ≡ hands_in views = omega (arith, total-set (λ (u : Counts). is_hand u.role) views' other w spent_view there, total-set (λ (u : Counts). is_hand u.role) views id v both at, ap is_hand role) in
      record {
        within = t.within;
        once = λ f. omega (arith, total-set (λ (u : Counts). total f u.hand.got) views' other w spent_view there, total-set (λ (u : Counts). total f u.hand.got) views id v both at, total-append f v.hand.got w.hand.got, t.once f);
        settled = omega (arith, total-set (λ (u : Counts). is_one u.hand.held) views' other w spent_view there, total-set (λ (u : Counts). is_one u.hand.held) views id v both at, ap is_one free, t.settled);
        stands = λ k u ticket e h. ⊎_elim (λ p. let i : None ≡ Some ticket = ap (λ (y : Counts). y.hand.held) p.1 ∙ h in cc)
            (λ p. ⊎_elim (λ q. let i : v.hand.held ≡ Some ticket = ap (λ (y : Counts). y.hand.held) q.1 ∙ h in subst (λ (y : Counts). 0 < total (only ticket) y.hand.got) q.1 (omega (arith, total-append (only ticket) v.hand.got w.hand.got, t.stands id v ticket at i)))
            (λ q. t.stands k u ticket q.1 h) (at_set views id k both u p.1)) (at_set views' other k spent_view u e);
        one_owner = omega (arith, total-set (λ (u : Counts). is_owner u.role) views' other w spent_view there, total-set (λ (u : Counts). is_owner u.role) views id v both at, ap is_owner role, t.one_owner);
        reads = λ k u e. ⊎_elim (λ p. subst (λ (y : Counts). Reads l c y.hand) p.1 blank_reads)
            (λ p. ⊎_elim (λ q. subst (λ (y : Counts). Reads l c y.hand) q.1 (let r = t.reads id v at in record { limit_behind = r.limit_behind; claim_behind = r.claim_behind; found_behind = r.found_behind })) (λ q. t.reads k u q.1) (at_set views id k both u p.1)) (at_set views' other k spent_view u e);
        leads = λ k u e is. ⊎_elim (λ p. let r : Spent ≡ Owner = ap (λ (y : Counts). y.role) p.1 ∙ is in cc)
            (λ p. ⊎_elim (λ q. subst (λ (y : Counts). Leads l d (hands_in (set views' other spent_view)) y.owner) q.1
            (let h = x.hands_are in record { limit_is = x.limit_is; room = x.room; quiet = x.quiet; seen = x.seen; own = x.own; hands_are = omega arith }))
            (λ q. absurd (alone lead k u q.0 q.1 is)) (at_set views id k both u p.1)) (at_set views' other k spent_view u e);
        spent = λ k u e is. ⊎_elim (λ p. subst (λ (y : Counts). (y.hand.got ≡ []) × (y.hand.held ≡ None)) p.1 (refl, refl))
            (λ p. ⊎_elim (λ q. let r : v.role ≡ Spent = ap (λ (y : Counts). y.role) q.1 ∙ is in absurd (live_owner lead r)) (λ q. t.spent k u q.1 is) (at_set views id k both u p.1)) (at_set views' other k spent_view u e);
      }

-- the rule holds of a ring that was just made
pub opens : Tally 0 0 0 (opening_view ∷ [])
opens = record {
  within = omega arith;
  once = λ f. refl;
  settled = refl;
  stands = λ k u ticket e h. let i : None ≡ Some ticket = ap (λ (y : Counts). y.hand.held) (lone opening_view u k e) ∙ h in cc;
  one_owner = refl;
  reads = λ k u e. subst (λ (y : Counts). Reads 0 0 y.hand) (lone opening_view u k e) record { limit_behind = omega arith; claim_behind = omega arith; found_behind = omega arith };
  leads = λ k u e is. subst (λ (y : Counts). Leads 0 0 0 y.owner) (lone opening_view u k e) record { limit_is = refl; room = omega arith; quiet = λ _. refl; seen = omega arith; own = omega arith; hands_are = refl };
  spent = λ k u e is. let r : Owner ≡ Spent = ap (λ (y : Counts). y.role) (lone opening_view u k e) ∙ is in cc;
}
