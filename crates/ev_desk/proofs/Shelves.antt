-- The rule over the slots is kept by each kind of step.
use Rattle.std.proofs.Common.{◌≡◌, ℕ, ◌<◌, Bool, ◌≢◌, List, [], ◌∷◌, ◌++◌, length, set, sym, refl, ap, ◌∙◌, subst, ⊎_elim, arith}
use mathlib.Core.Logic.{dite}
use mathlib.Core.Option.{none, some, some-injective}
use native.Mathlib.Decide.{ℕ_discrete}
use lib.ListN.{get_elem?}
use Rattle.std.specs.Prelude.{Option, Some, None}
use Rattle.atomic_table.proofs.Lists.{at_set, at_snoc, set_here, set_else}
use Rattle.ev_seats.specs.Jobs.{job_of}
use Rattle.ev_seats.proofs.Jobs.{first_here, first_else}
use Rattle.ev_desk.specs.DeskTally.{IsEnd}
use Rattle.ev_desk.specs.DeskSlots.{Slot, end_word, Lies, Shelf}
use Rattle.ev_seats.specs.Homes.{Homes, IsOut, IsBlank}
use Rattle.ev_desk.specs.declared.view.Stage.{Stage}
use Rattle.ev_desk.specs.declared.view.Stage.TheVariants.{Free, Asked, Ended, Closed}
use Rattle.ev_desk.specs.declared.view.Spot.{Spot}
use Rattle.ev_desk.specs.declared.view.View.{View}
use Rattle.ev_desk.specs.declared.view.Entry.{Entry}
use Rattle.ev_desk.specs.declared.view.Entry.TheVariants.{Waiting, Finished}

no_end : (word : ℕ) → word < 3 → IsEnd word → ⊥
no_end word lt is = ⊎_elim (λ e. omega arith) (λ e. omega arith) is

module _ {J E : Type 0} (belongs : J → E → Type 0) (faulty : E → Bool) where
  -- a slot that is empty or out with the asker
  abbrev Rests : Homes (Entry J E) → Option ℕ → ℕ → Type 0
  Rests homes out p = (out ≢ Some p → IsBlank homes p) × (out ≡ Some p → IsOut homes p)

  rests : (homes : Homes (Entry J E)) (jobs : List (ℕ × J)) (out : Option ℕ) (p : ℕ) (stage : Stage) (word : ℕ) → stage ≢ Asked → stage ≢ Ended → word ≢ 1 → word ≢ 2 → Rests homes out p → Lies belongs faulty homes jobs out p stage word
  rests homes jobs out p stage word a b c d r = record {
    waiting = λ e. absurd (c e);
    busy = λ e. absurd (d e);
    finished = λ e is. absurd (a e);
    idle = λ _. r.0;
    lent = λ e. (a, r.1 e);
    known = λ e. absurd (b e);
  }

  module _ (places : List ℕ) (homes : Homes (Entry J E)) (views : List (View J)) (spots : List Spot) (jobs : List (ℕ × J)) (out : Option ℕ) (sh : Shelf belongs faulty places homes views spots jobs out) where
    -- another seat changes its view
    pub shelf_seen : (id : ℕ) (v w : View J) → get_elem? views id ≡ some v → w.counts.loader.held ≡ v.counts.loader.held → w.job ≡ v.job → Shelf belongs faulty places homes (set views id w) spots jobs out
    shelf_seen id v w at same job = record {
      lies = sh.lies;
      knows = λ k p u e h. ⊎_elim (λ z. let mine : v.counts.loader.held ≡ Some p = sym same ∙ (ap (λ (x : View J). x.counts.loader.held) z.1 ∙ h) in ap (λ (x : View J). x.job) (sym z.1) ∙ (job ∙ sh.knows id p v at mine)) (λ z. sh.knows k p u z.1 h) (at_set views id k w u e);
    }

    pub shelf_wider : (w : View J) → w.counts.loader.held ≡ None → Shelf belongs faulty places homes (views ++ w ∷ []) spots jobs out
    shelf_wider w free = record {
      lies = sh.lies;
      knows = λ k p u e h. ⊎_elim (λ z. sh.knows k p u z h) (λ (z : w ≡ u). let x : None ≡ Some p = sym free ∙ (ap (λ (y : View J). y.counts.loader.held) z ∙ h) in cc) (at_snoc views w u k e);
    }

    pub shelf_gone : (id : ℕ) (w : View J) → w.counts.loader.held ≡ None → Shelf belongs faulty places homes (set views id w) spots jobs out
    shelf_gone id w free = record {
      lies = sh.lies;
      knows = λ k p u e h. ⊎_elim (λ z. let x : None ≡ Some p = sym free ∙ (ap (λ (y : View J). y.counts.loader.held) z.1 ∙ h) in cc) (λ z. sh.knows k p u z.1 h) (at_set views id k w u e);
    }

    -- one place changes, with its word, its slot and its job
    pub place_changed : (p new : ℕ) (homes' : Homes (Entry J E)) (views' : List (View J)) (spots' : List Spot) (jobs' : List (ℕ × J)) (out' : Option ℕ)
        → ((q : ℕ) → q ≢ p → get_elem? homes' q ≡ get_elem? homes q) → ((q : ℕ) → q ≢ p → get_elem? spots' q ≡ get_elem? spots q) → ((q : ℕ) → q ≢ p → job_of q jobs' ≡ job_of q jobs)
        → ((q : ℕ) → q ≢ p → out' ≡ Some q → out ≡ Some q) → ((q : ℕ) → q ≢ p → out ≡ Some q → out' ≡ Some q)
        → ((x : Spot) → get_elem? spots' p ≡ some x → Lies belongs faulty homes' jobs' out' p x.stage new)
        → ((k q : ℕ) (u : View J) → get_elem? views' k ≡ some u → u.counts.loader.held ≡ Some q → u.job ≡ job_of q jobs') → Shelf belongs faulty (set places p new) homes' views' spots' jobs' out'
    place_changed p new homes' views' spots' jobs' out' hs ss js to from here knows = record {
      lies = λ q word x a b. ⊎_elim
          (λ z. subst (λ (j : ℕ). Lies belongs faulty homes' jobs' out' j x.stage word) (sym z.0) (subst (Lies belongs faulty homes' jobs' out' p x.stage) z.1 (here x (ap (λ (j : ℕ). get_elem? spots' j) (sym z.0) ∙ b))))
          (λ z. let old = sh.lies q word x z.1 (sym (ss q z.0) ∙ b) in record {
            waiting = λ e. let o = old.waiting e in (o.0, js q z.0 ∙ o.1, hs q z.0 ∙ o.2);
            busy = λ e. let o = old.busy e in (o.0, js q z.0 ∙ o.1, hs q z.0 ∙ o.2);
            finished = λ e is. let o = old.finished e is in (o.0, o.1, js q z.0 ∙ o.2, hs q z.0 ∙ o.3, o.4, o.5);
            idle = λ e none_out. hs q z.0 ∙ old.idle e (λ h. none_out (from q z.0 h));
            lent = λ e. let o = old.lent (to q z.0 e) in (o.0, hs q z.0 ∙ o.1);
            known = λ e. let o = old.known e in (o.0, js q z.0 ∙ o.1);
          }) (at_set places p q new word a);
      knows = knows;
    }

    module _ (id p : ℕ) (v w : View J) (at : get_elem? views id ≡ some v) (small : p < length homes) where
      homes_else : (y : mathlib.Core.Option.Option (Slot J E)) (q : ℕ) → q ≢ p → get_elem? (set homes p y) q ≡ get_elem? homes q
      homes_else y q n = set_else homes p q y n

      -- the loader takes a place with the job that waits there
      pub shelf_got : (j : J) → get_elem? places p ≡ some 1 → ((x : Spot) → get_elem? spots p ≡ some x → x.stage ≡ Asked) → job_of p jobs ≡ Some j → w.counts.loader.held ≡ Some p → w.job ≡ Some j
          → Shelf belongs faulty (set places p 2) (set homes p none) (set views id w) spots jobs out
      shelf_got j here asked has holds knows = place_changed p 2 (set homes p none) (set views id w) spots jobs out (homes_else none) (λ q n. refl) (λ q n. refl) (λ q n e. e) (λ q n e. e)
          (λ x e. let is = asked x e in record {
            waiting = λ h. absurd (omega arith);
            busy = λ _. (j, has, set_here homes p none small);
            finished = λ _ h. absurd (no_end 2 (omega arith) h);
            idle = λ n _. absurd (n is);
            lent = λ h. absurd (((sh.lies p 1 x here e).lent h).0 is);
            known = λ h. cc;
          })
          (λ k q u e h. ⊎_elim
          (λ z. let is : p ≡ q = let y : Some p ≡ Some q = sym holds ∙ (ap (λ (y : View J). y.counts.loader.held) z.1 ∙ h) in cc in ap (λ (y : View J). y.job) (sym z.1) ∙ (knows ∙ (sym has ∙ ap (λ (n : ℕ). job_of n jobs) is)))
          (λ z. sh.knows k q u z.1 h) (at_set views id k w u e))

      -- it gives the place back with an end
      pub shelf_gave : (j : J) (d : E) (new : ℕ) → get_elem? places p ≡ some 2 → ((x : Spot) → get_elem? spots p ≡ some x → x.stage ≡ Asked) → v.counts.loader.held ≡ Some p → v.job ≡ Some j → belongs j d → new ≡ end_word (faulty d) → IsEnd new
          → w.counts.loader.held ≡ None → Shelf belongs faulty (set places p new) (set homes p (some (Some (Finished j d)))) (set views id w) spots jobs out
      shelf_gave j d new here asked holds job fits is end free =
          let has : job_of p jobs ≡ Some j = sym (sh.knows id p v at holds) ∙ job in let y : Slot J E = Some (Finished j d) in
          place_changed p new (set homes p (some y)) (set views id w) spots jobs out (homes_else (some y)) (λ q n. refl) (λ q n. refl) (λ q n e. e) (λ q n e. e)
          (λ x e. let stage = asked x e in record {
            waiting = λ h. absurd (no_end new (omega arith) end);
            busy = λ h. absurd (no_end new (omega arith) end);
            finished = λ _ _. (j, d, has, set_here homes p (some y) small, fits, is);
            idle = λ n _. absurd (n stage);
            lent = λ h. absurd (((sh.lies p 2 x here e).lent h).0 stage);
            known = λ h. cc;
          })
          (λ k q u e h. ⊎_elim (λ z. let x : None ≡ Some q = sym free ∙ (ap (λ (y : View J). y.counts.loader.held) z.1 ∙ h) in cc) (λ z. sh.knows k q u z.1 h) (at_set views id k w u e))

      module _ (same : w.counts.loader.held ≡ v.counts.loader.held) (job : w.job ≡ v.job) (word : ℕ) (here : get_elem? places p ≡ some word) (y : Spot) where
        -- the seats know the jobs as before, where no seat holds the place
        knows_else : (jobs' : List (ℕ × J)) → ((q : ℕ) → q ≢ p → job_of q jobs' ≡ job_of q jobs) → ((k : ℕ) (u : View J) → get_elem? views k ≡ some u → u.counts.loader.held ≡ Some p → ⊥)
            → (k q : ℕ) (u : View J) → get_elem? (set views id w) k ≡ some u → u.counts.loader.held ≡ Some q → u.job ≡ job_of q jobs'
        knows_else jobs' js unheld k q u e h = let old = shelf_seen id v w at same job in
            dite (ℕ_discrete q p)
            (λ is. let h' : u.counts.loader.held ≡ Some p = h ∙ ap Some is in ⊎_elim (λ z. absurd (unheld id v at (sym same ∙ (ap (λ (x : View J). x.counts.loader.held) z.1 ∙ h')))) (λ z. absurd (unheld k u z.1 h')) (at_set views id k w u e))
            (λ ne. old.knows k q u e h ∙ sym (js q ne))

        spot_is : (x : Spot) → get_elem? (set spots p y) p ≡ some x → y ≡ x
        spot_is x e = ⊎_elim (λ z. z.1) (λ z. absurd (z.0 refl)) (at_set spots p p y x e)

        -- the asker has a place as it had, or closes it
        pub shelf_looked : (old : Spot) → get_elem? spots p ≡ some old → y.stage ≡ old.stage → Shelf belongs faulty (set places p word) homes (set views id w) (set spots p y) jobs out
        shelf_looked old was stage = place_changed p word homes (set views id w) (set spots p y) jobs out (λ q n. refl) (λ q n. set_else spots p q y n) (λ q n. refl) (λ q n e. e) (λ q n e. e)
            (λ x e. subst (λ (s : Stage). Lies belongs faulty homes jobs out p s word) (sym stage ∙ ap (λ (z : Spot). z.stage) (spot_is x e)) (sh.lies p word old here was))
            (shelf_seen id v w at same job).knows

        pub shelf_shut : (old : Spot) → get_elem? spots p ≡ some old → old.stage ≢ Asked → y.stage ≡ Closed → Shelf belongs faulty (set places p 4) homes (set views id w) (set spots p y) jobs out
        shelf_shut old was other stage = let l = sh.lies p word old here was in place_changed p 4 homes (set views id w) (set spots p y) jobs out (λ q n. refl) (λ q n. set_else spots p q y n) (λ q n. refl) (λ q n e. e) (λ q n e. e)
            (λ x e. subst (λ (s : Stage). Lies belongs faulty homes jobs out p s 4) (sym stage ∙ ap (λ (z : Spot). z.stage) (spot_is x e)) (rests homes jobs out p Closed 4 (λ h. cc) (λ h. cc) (λ h. omega arith) (λ h. omega arith) (l.idle other, λ h. (l.lent h).1)))
            (shelf_seen id v w at same job).knows

        -- the asker takes a slot out
        pub shelf_out : (new : ℕ) (jobs' : List (ℕ × J)) → out ≡ None → new ≢ 1 → new ≢ 2 → y.stage ≢ Asked → ((q : ℕ) → q ≢ p → job_of q jobs' ≡ job_of q jobs) → (y.stage ≡ Ended → (j : J) × (job_of p jobs' ≡ Some j))
            → ((k : ℕ) (u : View J) → get_elem? views k ≡ some u → u.counts.loader.held ≡ Some p → ⊥) → Shelf belongs faulty (set places p new) (set homes p none) (set views id w) (set spots p y) jobs' (Some p)
        shelf_out new jobs' none_out a b other js known unheld = place_changed p new (set homes p none) (set views id w) (set spots p y) jobs' (Some p) (homes_else none) (λ q n. set_else spots p q y n) js (λ q n e. let x : p ≡ q = cc in absurd (n (sym x))) (λ q n e. cc)
            (λ x e. subst (λ (s : Stage). Lies belongs faulty (set homes p none) jobs' (Some p) p s new) (ap (λ (z : Spot). z.stage) (spot_is x e)) record {
              waiting = λ h. absurd (a h);
              busy = λ h. absurd (b h);
              finished = λ h _. absurd (other h);
              idle = λ _ n. absurd (n refl);
              lent = λ _. (other, set_here homes p none small);
              known = known;
            })
            (knows_else jobs' js unheld)

        -- it gives the empty slot of a free place back
        pub shelf_back : (new : ℕ) (jobs' : List (ℕ × J)) → out ≡ Some p → new ≢ 1 → new ≢ 2 → y.stage ≡ Free → ((q : ℕ) → q ≢ p → job_of q jobs' ≡ job_of q jobs)
            → ((k : ℕ) (u : View J) → get_elem? views k ≡ some u → u.counts.loader.held ≡ Some p → ⊥) → Shelf belongs faulty (set places p new) (set homes p (some None)) (set views id w) (set spots p y) jobs' None
        shelf_back new jobs' is_out a b free js unheld = place_changed p new (set homes p (some None)) (set views id w) (set spots p y) jobs' None (homes_else (some None)) (λ q n. set_else spots p q y n) js (λ q n e. cc) (λ q n e. let x : p ≡ q = cc in absurd (n (sym x)))
            (λ x e. subst (λ (s : Stage). Lies belongs faulty (set homes p (some None)) jobs' None p s new) (sym free ∙ ap (λ (z : Spot). z.stage) (spot_is x e)) (rests _ jobs' None p Free new (λ h. cc) (λ h. cc) a b ((λ _. set_here homes p (some None) small), λ h. cc)))
            (knows_else jobs' js unheld)

        -- it gives the slot back with a job
        pub shelf_left : (j : J) → out ≡ Some p → y.stage ≡ Asked → ((k : ℕ) (u : View J) → get_elem? views k ≡ some u → u.counts.loader.held ≡ Some p → ⊥)
            → Shelf belongs faulty (set places p 1) (set homes p (some (Some (Waiting j)))) (set views id w) (set spots p y) ((p, j) ∷ jobs) None
        shelf_left j is_out asked unheld = let z : Slot J E = Some (Waiting j) in let js : (q : ℕ) → q ≢ p → job_of q ((p, j) ∷ jobs) ≡ job_of q jobs = λ q n. first_else q (p, j) jobs (λ h. n (sym h)) in
            place_changed p 1 (set homes p (some z)) (set views id w) (set spots p y) ((p, j) ∷ jobs) None (homes_else (some z)) (λ q n. set_else spots p q y n) js (λ q n e. cc) (λ q n e. let x : p ≡ q = cc in absurd (n (sym x)))
            (λ x e. let stage : x.stage ≡ Asked = ap (λ (s : Spot). s.stage) (sym (spot_is x e)) ∙ asked in record {
              waiting = λ _. (j, first_here p (p, j) jobs refl, set_here homes p (some z) small);
              busy = λ h. absurd (omega arith);
              finished = λ _ h. absurd (no_end 1 (omega arith) h);
              idle = λ n _. absurd (n stage);
              lent = λ h. cc;
              known = λ h. cc;
            })
            (knows_else ((p, j) ∷ jobs) js unheld)
