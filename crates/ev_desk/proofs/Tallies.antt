-- The rule over the words of the places and the numbers of all seats is kept by each kind of step.
use Rattle.std.proofs.Common.{◌≡◌, ◌⊎◌, ℕ, ◌+◌, ◌<◌, ◌≤◌, cond, ◌≢◌, List, [], ◌∷◌, ◌++◌, set, replicate, length-set, sym, refl, ap, ◌∙◌, subst, inl, inr, ⊎_elim, arith, ne_eqb}
use Rattle.std.proofs.lemmas.List.{length-replicate}
use mathlib.Core.Logic.{dite}
use native.Mathlib.Decide.{ℕ_discrete}
use mathlib.Core.Option.{some}
use lib.ListN.{get_elem?}
use Rattle.std.specs.Prelude.{Some, None}
use Rattle.atomic_table.proofs.Lists.{at_set, at_snoc}
use Rattle.ev_seats.specs.Weights.{total, is_of}
use Rattle.ev_seats.proofs.Lists.{inside, at_replicate, lone}
use Rattle.ev_seats.proofs.Sums.{total-append, total-set, term_le, terms_le, total-lone, total-replicate, is_of-same, is_of-other}
use Rattle.ev_desk.specs.DeskTally.{is_asker, is_loader, is_fault, is_taken, holders, faults_in, loaders_in, IsEnd, Fits, Asks, Tally, free_spot, opening_counts, new_loader, spent_counts}
use Rattle.ev_desk.specs.DeskSteps.{no_spot, spot_of, with_spot, staged, looked_at, took_end, came_late, with_loader, tried, ended_with, with_loader_out, taken_in}
use Rattle.ev_desk.specs.declared.view.Role.{Role}
use Rattle.ev_desk.specs.declared.view.Role.TheVariants.{Asker, Loader, Spent}
use Rattle.ev_desk.specs.declared.view.Stage.{Stage}
use Rattle.ev_desk.specs.declared.view.Stage.TheVariants.{Free, Asked, Ended, Closed}
use Rattle.ev_desk.specs.declared.view.Spot.{Spot}
use Rattle.ev_desk.specs.declared.view.LoaderView.{LoaderView}
use Rattle.ev_desk.specs.declared.view.Counts.{Counts}

abbrev pub Views : Type 0
Views = List Counts

-- there is no second asker
lone_asker : (views : Views) (j k : ℕ) (v u : Counts) → total (λ (x : Counts). is_asker x.role) views ≡ 1 → get_elem? views j ≡ some v → get_elem? views k ≡ some u → v.role ≡ Asker → u.role ≡ Asker → k ≢ j → ⊥
lone_asker views j k v u one at at' mine yours other = let two = terms_le (λ (x : Counts). is_asker x.role) views j k v u other at at' in omega (arith, ap is_asker mine, ap is_asker yours)

-- a word that fits a place which is asked
asked_fits : (s : Stage) (seen word new : ℕ) → Fits s seen word → (word ≡ 1) ⊎ (word ≡ 2) → (new ≡ 2) ⊎ IsEnd new → Fits s seen new
asked_fits Free seen word new f was is = ⊎_elim (λ e. absurd (omega arith)) (λ e. absurd (omega arith)) was
asked_fits Asked seen word new f was is = inr is
asked_fits Ended seen word new f was is = ⊎_elim (λ e. ⊎_elim (λ h. absurd (omega arith)) (λ h. absurd (omega arith)) f.1) (λ e. ⊎_elim (λ h. absurd (omega arith)) (λ h. absurd (omega arith)) f.1) was
asked_fits Closed seen word new f was is = ⊎_elim (λ e. absurd (omega arith)) (λ e. absurd (omega arith)) was

pub asked_stage : (s : Stage) (seen word : ℕ) → Fits s seen word → (word ≡ 1) ⊎ (word ≡ 2) → s ≡ Asked
asked_stage Free seen word f was = ⊎_elim (λ e. absurd (omega arith)) (λ e. absurd (omega arith)) was
asked_stage Asked seen word f was = refl
asked_stage Ended seen word f was = ⊎_elim (λ e. ⊎_elim (λ h. absurd (omega arith)) (λ h. absurd (omega arith)) f.1) (λ e. ⊎_elim (λ h. absurd (omega arith)) (λ h. absurd (omega arith)) f.1) was
asked_stage Closed seen word f was = ⊎_elim (λ e. absurd (omega arith)) (λ e. absurd (omega arith)) was

module _ (places : List ℕ) (views : Views) (t : Tally places views) (id : ℕ) (v : Counts) (at : get_elem? views id ≡ some v) where
  pub alone : v.role ≡ Asker → (k : ℕ) (u : Counts) → k ≢ id → get_elem? views k ≡ some u → u.role ≡ Asker → ⊥
  alone o k u other at' o' = lone_asker views id k v u t.one_asker at at' o o' other

  -- one word and the view of one seat change
  changed : (p word new : ℕ) (w : Counts) → get_elem? places p ≡ some word → w.role ≡ v.role → (v.role ≡ Spent → ⊥) → is_taken new + is_of p v.loader.held ≡ is_taken word + is_of p w.loader.held
      → ((q : ℕ) → q ≢ p → is_of q w.loader.held ≡ is_of q v.loader.held)
      → ((f : ℕ) → f + v.loader.faults ≡ faults_in views + w.loader.faults → v.role ≡ Asker → Asks places (faults_in views) (loaders_in views) v.loader.faults v.asker → Asks (set places p new) f (loaders_in views) w.loader.faults w.asker)
      → ((f : ℕ) → f + v.loader.faults ≡ faults_in views + w.loader.faults → (k : ℕ) (u : Counts) → k ≢ id → get_elem? views k ≡ some u → u.role ≡ Asker → Asks places (faults_in views) (loaders_in views) u.loader.faults u.asker → Asks (set places p new) f (loaders_in views) u.loader.faults u.asker)
      → Tally (set places p new) (set views id w)
  changed p word new w here same live taken others mine theirs =
      let loaders : loaders_in (set views id w) ≡ loaders_in views = omega (arith, total-set (λ (u : Counts). is_loader u.role) views id v w at, ap is_loader same) in
      let faults = total-set (λ (u : Counts). u.loader.faults) views id v w at in
      record {
        long = length-set places p new ∙ t.long;
        one_asker = omega (arith, total-set (λ (u : Counts). is_asker u.role) views id v w at, ap is_asker same, t.one_asker);
        asks = λ k u e is. subst (λ (n : ℕ). Asks (set places p new) (faults_in (set views id w)) n u.loader.faults u.asker) (sym loaders)
            (⊎_elim (λ z. subst (λ (x : Counts). Asks (set places p new) (faults_in (set views id w)) (loaders_in views) x.loader.faults x.asker) z.1
            (let o : v.role ≡ Asker = sym same ∙ (ap (λ (x : Counts). x.role) z.1 ∙ is) in mine _ faults o (t.asks id v at o)))
            (λ z. theirs _ faults k u z.0 z.1 is (t.asks k u z.1 is)) (at_set views id k w u e));
        held = λ r y at_r. ⊎_elim
            (λ z. subst (λ (j : ℕ). is_taken y ≡ holders j (set views id w)) (sym z.0) (ap is_taken (sym z.1) ∙ omega (arith, taken, t.held p word here, total-set (λ (u : Counts). is_of p u.loader.held) views id v w at)))
            (λ z. omega (arith, others r z.0, t.held r y z.1, total-set (λ (u : Counts). is_of r u.loader.held) views id v w at)) (at_set places p r new y at_r);
        spent = λ k u e is. ⊎_elim (λ z. absurd (live (sym same ∙ (ap (λ (x : Counts). x.role) z.1 ∙ is)))) (λ z. t.spent k u z.1 is) (at_set views id k w u e);
      }

  -- a step of the loader's
  loaded : (p word new : ℕ) (l : LoaderView) → get_elem? places p ≡ some word → v.role ≡ Loader → ((s : Stage) (seen : ℕ) → Fits s seen word → Fits s seen new) → is_fault new + v.loader.faults ≡ is_fault word + l.faults
      → is_taken new + is_of p v.loader.held ≡ is_taken word + is_of p l.held → ((q : ℕ) → q ≢ p → is_of q l.held ≡ is_of q v.loader.held) → Tally (set places p new) (set views id (with_loader v l))
  loaded p word new l here loader fit count taken others =
      changed p word new (with_loader v l) here refl (λ e. cc) taken others (λ f eq is a. cc)
      (λ f eq k u ne e is a. record {
        many = a.many;
        fits = λ r y x at_r at_x. ⊎_elim (λ z. subst (Fits x.stage x.word) z.1 (fit x.stage x.word (a.fits p word x here (ap (λ (j : ℕ). get_elem? u.asker.spots j) (sym z.0) ∙ at_x)))) (λ z. a.fits r y x z.1 at_x) (at_set places p r new y at_r);
        counted = omega (arith, a.counted, total-set is_fault places p word new here, count, eq);
        loaders_are = a.loaders_are;
        few = a.few;
        unjoined = a.unjoined;
      })

  pub lost_kept : (p word : ℕ) → get_elem? places p ≡ some word → v.role ≡ Loader → Tally (set places p word) (set views id (tried p word v.loader.held v))
  lost_kept p word here loader = loaded p word word _ here loader (λ s seen f. f) refl refl (λ q n. refl)

  pub got_kept : (p word : ℕ) → get_elem? places p ≡ some word → word ≡ 1 → v.role ≡ Loader → v.loader.held ≡ None → Tally (set places p 2) (set views id (tried p word (Some p) v))
  got_kept p word here is loader free = loaded p word 2 _ here loader (λ s seen f. asked_fits s seen word 2 f (inl is) (inl refl)) (omega (arith, ap is_fault is)) (omega (arith, ap is_taken is, ap (is_of p) free, is_of-same p)) (λ q ne. is_of-other q p (λ e. ne (sym e)) ∙ sym (ap (is_of q) free))

  -- the word of a place that is held is 2
  pub held_word : (p word : ℕ) → get_elem? places p ≡ some word → v.loader.held ≡ Some p → word ≡ 2
  held_word p word here has = dite (ℕ_discrete word 2) (λ e. e)
      (λ ne. let z : is_taken word ≡ 0 = ap (λ b. cond b 1 0) (ne_eqb word 2 ne) in absurd (omega (arith, z, t.held p word here, term_le (λ (u : Counts). is_of p u.loader.held) views id v at, ap (is_of p) has, is_of-same p)))

  pub gave_kept : (p new : ℕ) → get_elem? places p ≡ some 2 → v.role ≡ Loader → v.loader.held ≡ Some p → IsEnd new → Tally (set places p new) (set views id (ended_with new v))
  gave_kept p new here loader has to =
      let untaken : is_taken new ≡ 0 = ⊎_elim (λ e. ap is_taken e) (λ e. ap is_taken e) to in
      loaded p 2 new _ here loader (λ s seen f. asked_fits s seen 2 new f (inr refl) (inr to)) (omega arith) (omega (arith, untaken, ap (is_of p) has, is_of-same p)) (λ q ne. sym (ap (is_of q) has ∙ is_of-other q p (λ e. ne (sym e))))

  -- no seat holds a place whose word is not 2
  pub unheld : (p word k : ℕ) (u : Counts) → get_elem? places p ≡ some word → word ≢ 2 → get_elem? views k ≡ some u → u.loader.held ≡ Some p → ⊥
  unheld p word k u here ne e has = let z : is_taken word ≡ 0 = ap (λ b. cond b 1 0) (ne_eqb word 2 ne) in omega (arith, z, t.held p word here, term_le (λ (y : Counts). is_of p y.loader.held) views k u e, ap (is_of p) has, is_of-same p)

  module _ (lead : v.role ≡ Asker) where
    pub asking : Asks places (faults_in views) (loaders_in views) v.loader.faults v.asker
    asking = t.asks id v at lead

    pub spot_there : (p : ℕ) → p < 64 → get_elem? v.asker.spots p ≡ some (spot_of p v)
    spot_there p lt = inside v.asker.spots p no_spot (omega (arith, asking.many))

    -- a step of the asker's on one place
    placing : (p word new : ℕ) (y : Spot) (taken : ℕ) → get_elem? places p ≡ some word → Fits y.stage y.word new → is_fault new + taken ≡ is_fault word + v.asker.taken → is_taken new ≡ is_taken word
        → Tally (set places p new) (set views id (with_spot p y taken v))
    placing p word new y taken here fit count same =
        changed p word new (with_spot p y taken v) here refl (λ e. cc) (omega arith) (λ q n. refl)
        (λ f eq is a. record {
          many = length-set v.asker.spots p y ∙ a.many;
          fits = λ r z x at_r at_x. ⊎_elim
              (λ i. ⊎_elim (λ j. subst (λ (s : Spot). Fits s.stage s.word z) j.1 (subst (Fits y.stage y.word) i.1 fit)) (λ j. absurd (j.0 i.0)) (at_set v.asker.spots p r y x at_x))
              (λ i. ⊎_elim (λ j. absurd (i.0 j.0)) (λ j. a.fits r z x i.1 j.1) (at_set v.asker.spots p r y x at_x)) (at_set places p r new z at_r);
          counted = omega (arith, a.counted, total-set is_fault places p word new here, count, eq);
          loaders_are = a.loaders_are;
          few = a.few;
          unjoined = a.unjoined;
        })
        (λ f eq k u ne e is a. absurd (alone lead k u ne e is))

    fit_here : (p word : ℕ) → get_elem? places p ≡ some word → p < 64 → Fits (spot_of p v).stage (spot_of p v).word word
    fit_here p word here lt = asking.fits p word (spot_of p v) here (spot_there p lt)

    -- what the word of a place is, by its stage
    pub free_word : (p word : ℕ) → get_elem? places p ≡ some word → p < 64 → (spot_of p v).stage ≡ Free → word ≡ 0
    free_word p word here lt is = subst (λ (s : Stage). Fits s (spot_of p v).word word) is (fit_here p word here lt)

    pub asked_word : (p word : ℕ) → get_elem? places p ≡ some word → p < 64 → (spot_of p v).stage ≡ Asked → (word ≡ 1) ⊎ (word ≡ 2) ⊎ IsEnd word
    asked_word p word here lt is = subst (λ (s : Stage). Fits s (spot_of p v).word word) is (fit_here p word here lt)

    pub ended_word : (p word : ℕ) → get_elem? places p ≡ some word → p < 64 → (spot_of p v).stage ≡ Ended → (word ≡ (spot_of p v).word) × IsEnd word
    ended_word p word here lt is = subst (λ (s : Stage). Fits s (spot_of p v).word word) is (fit_here p word here lt)

    -- the asker leaves a job at a free place, or closes it
    pub asked_kept : (p : ℕ) → get_elem? places p ≡ some 0 → Tally (set places p 1) (set views id (staged p Asked v))
    asked_kept p here = placing p 0 1 _ _ here (inl refl) refl refl

    pub shut_kept : (p : ℕ) → get_elem? places p ≡ some 0 → Tally (set places p 4) (set views id (staged p Closed v))
    shut_kept p here = placing p 0 4 _ _ here refl refl refl

    pub look_kept : (p word : ℕ) (stage : Stage) → get_elem? places p ≡ some word → Fits stage word word → Tally (set places p word) (set views id (looked_at p word stage v))
    look_kept p word stage here fit = placing p word word _ _ here fit refl refl

    pub took_kept : (p word : ℕ) → get_elem? places p ≡ some word → p < 64 → (spot_of p v).stage ≡ Ended → Tally (set places p 0) (set views id (took_end p v))
    took_kept p word here lt is = let e = ended_word p word here lt is in
        placing p word 0 _ _ here refl (omega (arith, ap is_fault e.0)) (⊎_elim (λ h. sym (ap is_taken h)) (λ h. sym (ap is_taken h)) e.1)

    pub withdrawn_kept : (p : ℕ) → get_elem? places p ≡ some 1 → Tally (set places p 0) (set views id (staged p Free v))
    withdrawn_kept p here = placing p 1 0 _ _ here refl refl refl

    pub late_kept : (p word : ℕ) → get_elem? places p ≡ some word → p < 64 → (spot_of p v).stage ≡ Asked → Tally (set places p word) (set views id (came_late p word v))
    late_kept p word here lt is = placing p word word _ _ here (subst (λ (s : Stage). Fits s word word) (sym is) (asked_word p word here lt is)) refl refl

    -- where the loader is joined, no more faults were taken than given
    pub settled : v.asker.loaders ≡ 0 → v.asker.taken ≤ v.loader.faults
    settled none_out = let a = asking in
        let idle : (k : ℕ) (u : Counts) → k ≢ id → get_elem? views k ≡ some u → u.loader.faults ≡ 0 = λ k u other e. still u k e (alone lead k u other e) (omega (arith, term_le (λ (y : Counts). is_loader y.role) views k u e, a.loaders_are)) u.role refl in
        omega (arith, a.counted, total-lone (λ (u : Counts). u.loader.faults) views id v at idle)
      where
        still : (u : Counts) (k : ℕ) → get_elem? views k ≡ some u → (u.role ≡ Asker → ⊥) → is_loader u.role ≡ 0 → (r : Role) → u.role ≡ r → u.loader.faults ≡ 0
        still u k e other idles Asker is = absurd (other is)
        still u k e other idles Loader is = absurd (omega (arith, ap is_loader is))
        still u k e other idles Spent is = (t.spent k u e is).1

    -- the asker splits off the loader
    pub split_kept : v.asker.loaders ≡ 0 → v.loader.faults ≡ 0 → Tally places (set views id (with_loader_out v) ++ new_loader ∷ [])
    split_kept none_out clean = let w : Counts = with_loader_out v in let views' : Views = set views id w in let a = asking in
        let faults : faults_in (views' ++ new_loader ∷ []) ≡ faults_in views = omega (arith, total-append (λ (u : Counts). u.loader.faults) views' (new_loader ∷ []), total-set (λ (u : Counts). u.loader.faults) views id v w at) in
        let loaders : loaders_in (views' ++ new_loader ∷ []) ≡ 1 = omega (arith, total-append (λ (u : Counts). is_loader u.role) views' (new_loader ∷ []), total-set (λ (u : Counts). is_loader u.role) views id v w at, a.loaders_are) in
        record {
          long = t.long;
          one_asker = omega (arith, total-append (λ (u : Counts). is_asker u.role) views' (new_loader ∷ []), total-set (λ (u : Counts). is_asker u.role) views id v w at, t.one_asker);
          asks = λ k u e is. subst (λ (f : ℕ). Asks places f (loaders_in (views' ++ new_loader ∷ [])) u.loader.faults u.asker) (sym faults) (subst (λ (n : ℕ). Asks places (faults_in views) n u.loader.faults u.asker) (sym loaders)
              (⊎_elim (λ z. ⊎_elim (λ q. subst (λ (y : Counts). Asks places (faults_in views) 1 y.loader.faults y.asker) q.1 record { many = a.many; fits = a.fits; counted = a.counted; loaders_are = refl; few = omega arith; unjoined = λ _. clean })
              (λ q. absurd (alone lead k u q.0 q.1 is)) (at_set views id k w u z))
              (λ (z : new_loader ≡ u). let r : Loader ≡ Asker = ap (λ (y : Counts). y.role) z ∙ is in cc) (at_snoc views' new_loader u k e)));
          held = λ p word here. omega (arith, total-append (λ (u : Counts). is_of p u.loader.held) views' (new_loader ∷ []), total-set (λ (u : Counts). is_of p u.loader.held) views id v w at, t.held p word here);
          spent = λ k u e is. ⊎_elim (λ z. ⊎_elim (λ q. let r : v.role ≡ Spent = ap (λ (y : Counts). y.role) q.1 ∙ is in cc) (λ q. t.spent k u q.1 is) (at_set views id k w u z))
              (λ (z : new_loader ≡ u). let r : Loader ≡ Spent = ap (λ (y : Counts). y.role) z ∙ is in cc) (at_snoc views' new_loader u k e);
        }

    -- the asker takes in the loader, which holds nothing
    pub join_kept : (other : ℕ) (w : Counts) → get_elem? (set views id (taken_in v w)) other ≡ some w → other ≢ id → w.role ≡ Loader → w.loader.held ≡ None → Tally places (set (set views id (taken_in v w)) other spent_counts)
    join_kept other w there ne role free = let b : Counts = taken_in v w in let views' : Views = set views id b in let a = asking in
        let was : get_elem? views other ≡ some w = ⊎_elim (λ z. absurd (ne z.0)) (λ z. z.1) (at_set views id other b w there) in
        let one = term_le (λ (u : Counts). is_loader u.role) views other w was in let is_one : is_loader w.role ≡ 1 = ap is_loader role in
        let are = a.loaders_are in let few = a.few in
        let clean : v.loader.faults ≡ 0 = a.unjoined (omega arith) in
        let loaders : loaders_in (set views' other spent_counts) ≡ 0 = omega (arith, total-set (λ (u : Counts). is_loader u.role) views' other w spent_counts there, total-set (λ (u : Counts). is_loader u.role) views id v b at) in
        let faults : faults_in (set views' other spent_counts) ≡ faults_in views = omega (arith, total-set (λ (u : Counts). u.loader.faults) views' other w spent_counts there, total-set (λ (u : Counts). u.loader.faults) views id v b at) in
        record {
          long = t.long;
          one_asker = omega (arith, total-set (λ (u : Counts). is_asker u.role) views' other w spent_counts there, total-set (λ (u : Counts). is_asker u.role) views id v b at, ap is_asker role, t.one_asker);
          asks = λ k u e is. subst (λ (f : ℕ). Asks places f (loaders_in (set views' other spent_counts)) u.loader.faults u.asker) (sym faults) (subst (λ (n : ℕ). Asks places (faults_in views) n u.loader.faults u.asker) (sym loaders)
              (⊎_elim (λ z. let r : Spent ≡ Asker = ap (λ (y : Counts). y.role) z.1 ∙ is in cc)
              (λ z. ⊎_elim (λ q. subst (λ (y : Counts). Asks places (faults_in views) 0 y.loader.faults y.asker) q.1 record { many = a.many; fits = a.fits; counted = a.counted; loaders_are = refl; few = omega arith; unjoined = λ l. absurd (omega arith) })
              (λ q. absurd (alone lead k u q.0 q.1 is)) (at_set views id k b u z.1)) (at_set views' other k spent_counts u e)));
          held = λ p word here. omega (arith, total-set (λ (u : Counts). is_of p u.loader.held) views' other w spent_counts there, total-set (λ (u : Counts). is_of p u.loader.held) views id v b at, ap (is_of p) free, t.held p word here);
          spent = λ k u e is. ⊎_elim (λ z. subst (λ (y : Counts). (y.loader.held ≡ None) × (y.loader.faults ≡ 0)) z.1 (refl, refl))
              (λ z. ⊎_elim (λ q. let r : v.role ≡ Spent = ap (λ (y : Counts). y.role) q.1 ∙ is in cc) (λ q. t.spent k u q.1 is) (at_set views id k b u z.1)) (at_set views' other k spent_counts u e);
        }

-- the rule holds of a desk that was just made
pub opens : Tally (replicate 64 0) (opening_counts ∷ [])
opens = record {
  long = length-replicate {A = ℕ} 64 0;
  one_asker = refl;
  asks = λ k u e is. subst (λ (y : Counts). Asks (replicate 64 0) 0 0 y.loader.faults y.asker) (lone opening_counts u k e) record {
    many = length-replicate 64 free_spot;
    fits = λ p word x a b. subst (λ (y : Spot). Fits y.stage y.word word) (at_replicate 64 p free_spot x b) (sym (at_replicate 64 p 0 word a));
    counted = total-replicate is_fault 64 0 refl;
    loaders_are = refl;
    few = omega arith;
    unjoined = λ l. refl;
  };
  held = λ p word e. sym (ap is_taken (at_replicate 64 p 0 word e));
  spent = λ k u e is. let r : Asker ≡ Spent = ap (λ (y : Counts). y.role) (lone opening_counts u k e) ∙ is in cc;
}
