-- Cells that change, and what they stand for.
use Rattle.std.proofs.Common.{◌≡◌, ◌≢◌, ℕ, zero, suc, ◌<◌, ◌≤◌, ◌+◌, ◌⊎◌, ⊎_elim, inl, inr, Bool, true, false, ◌==◌, if◌then◌else◌, All, IfSome, is_some, List, [], ◌∷◌, ◌++◌, get_or, set, length, drop, Option, Some, None, refl, sym, ap, ap₂, ◌∙◌, arith, true≢false, subst, get_or-set_other, get_or-set_same}
use Rattle.std.proofs.lemmas.Bool.{eqb-true, eq-eqb}
use Rattle.std.proofs.lemmas.Grind.{common_steps}
use Rattle.std.proofs.lemmas.Int.{ints}
use Rattle.std.proofs.lemmas.List.{map-set, map-append, get_or-map, drop_more, append_assoc}
use Rattle.std.proofs.lemmas.List.Elements.{All-nil, All-append}
use Rattle.ev_geom.specs.Area.{Area}
use Rattle.ev_geom.specs.Bands.{FitsRegion}
use Rattle.ev_model.specs.Look.{Look, look_of}
use Rattle.ev_model.specs.declared.scene.Record.{Record}
use Rattle.ev_damage.specs.Marked.{is_marked}
use Rattle.ev_damage.proofs.Members.{or_left, or_right}
use Rattle.ev_records.specs.Showing.{Showing, nothing, showing, put, Shows, HavePlaces, IsNewElsewhere, IsOnCanvas}
use Rattle.ev_records.specs.Changes.{is_same, changed, changed_in, changes}
use Rattle.ev_records.specs.Turned.{still, still_area}
use Rattle.ev_records.specs.Cells.{look_in, MayStand, no_former, former_at, or_kept, before_of, showing_of, shown, places_of, AreTied, AreCells, empty_cell, present_at}
use Rattle.ev_records.specs.declared.cell.Cell.{Cell}
use Rattle.ev_records.specs.declared.cell.Former.{Former}
use Rattle.ev_records.proofs.Lining.{Keeps, same_self}

pub same_or : (a b : ℕ) → (a ≡ b) ⊎ (a ≢ b)
same_or a b = go (a == b) refl where
  go : (t : Bool) → (a == b) ≡ t → (a ≡ b) ⊎ (a ≢ b)
  go true e = inl (eqb-true a b e)
  go false e = inr (λ s. true≢false (sym (eq-eqb a b s) ∙ e))

pub less_or : (a b : ℕ) → (a < b) ⊎ (b ≤ a)
less_or a b = search (arith)

-- what stands in a place
pub shows : (formers : List Former) (cells : List Cell) (place : ℕ) (d : Cell) → place < length cells → showing (shown formers cells) place ≡ showing_of formers (get_or cells place d)
shows formers cells place d l = get_or-map (showing_of formers) cells place d nothing l

-- an element, whatever is read in place of a missing one
pub same_at : (cells : List Cell) (place : ℕ) (d e : Cell) → place < length cells → get_or cells place d ≡ get_or cells place e
same_at cells place d e l = grind (arith, common_steps)

past : (all : List Showing) (place : ℕ) → length all ≤ place → showing all place ≡ nothing
past all place l = grind (arith, common_steps)

-- where something else is put, what is shown elsewhere stays
put_at : (all : List Showing) (at place : ℕ) (l : Option Look) → at < length all → (place ≡ at) ⊎ (place ≢ at)
    → ((place ≡ at) × (showing (put all at l) place ≡ record { was = (showing all at).was; now = l })) ⊎ (showing (put all at l) place ≡ showing all place)
put_at all at place l less (inl e) = inl (e, ap (λ k. showing (put all at l) k) e ∙ get_or-set_same all at (record { was = (showing all at).was; now = l }) nothing less)
put_at all at place l less (inr ne) = inr (get_or-set_other all at place (record { was = (showing all at).was; now = l }) nothing ne)

-- a look that stands somewhere after a put stood there before, or was put
pub after_put : (all : List Showing) (at place : ℕ) (o : Option Look) (l : Look) → at < length all → Shows (showing (put all at o) place) l → Shows (showing all place) l ⊎ ((place ≡ at) × (o ≡ Some l))
after_put all at place o l less s = ⊎_elim
    (λ r. ⊎_elim
    (λ e. inl (inl (ap (λ k. (showing all k).was) r.0 ∙ sym (ap (λ s. s.was) r.1) ∙ e)))
    (λ e. inr (r.0, sym (ap (λ s. s.now) r.1) ∙ e))
    s)
    (λ r. let P : Showing → Type 0 = λ t. Shows t l in inl (subst P r s))
    (put_at all at place o less (same_or place at))

-- what was put has no other place
new_at : (all : List Showing) (at : ℕ) (one : Option Record) (l : Look) → MayStand all at one → look_in one ≡ Some l → IsNewElsewhere all at l
new_at all at None l h e = cc
new_at all at (Some r) l h e = let s : look_of r ≡ l = cc in let P : Look → Type 0 = IsNewElsewhere all at in subst P s h

pub places_put : (all : List Showing) (at : ℕ) (one : Option Record) → HavePlaces all → MayStand all at one → at < length all → HavePlaces (put all at (look_in one))
places_put all at one have may less = record {
  one = λ i j l m s t e. ⊎_elim
      (λ a. ⊎_elim
      (λ b. have.one i j l m a b e)
      (λ b. (new_at all at one m may b.1).apart i l a e ∙ sym b.0)
      (after_put all at j (look_in one) m less t))
      (λ a. ⊎_elim
      (λ b. a.0 ∙ sym ((new_at all at one l may a.1).apart j m b (sym e)))
      (λ b. a.0 ∙ sym b.0)
      (after_put all at j (look_in one) m less t))
      (after_put all at i (look_in one) l less s);
  inside = λ i l s. ⊎_elim
      (λ a. have.inside i l a)
      (λ a. (new_at all at one l may a.1).inside)
      (after_put all at i (look_in one) l less s);
}

-- the cells stand for the same with more formers behind
same_mark : (formers : List Former) (f : Former) (c : Cell) → ((k : ℕ) → c.mark ≡ Some k → k < length formers) → showing_of (formers ++ f ∷ []) c ≡ showing_of formers c
same_mark formers f c h = go c.mark refl where
  go : (o : Option ℕ) → c.mark ≡ o → showing_of (formers ++ f ∷ []) c ≡ showing_of formers c
  go None e = ap (λ o. record { was = look_in (or_kept (formers ++ f ∷ []) o c.present); now = look_in c.present }) e ∙ sym (ap (λ o. record { was = look_in (or_kept formers o c.present); now = look_in c.present }) e)
  go (Some k) e =
      let l : k < length formers = h k e in
      let s : former_at (formers ++ f ∷ []) k ≡ former_at formers k = grind (arith, common_steps) in
      ap (λ o. record { was = look_in (or_kept (formers ++ f ∷ []) o c.present); now = look_in c.present }) e
      ∙ ap (λ r. record { was = look_in r.was; now = look_in c.present }) s
      ∙ sym (ap (λ o. record { was = look_in (or_kept formers o c.present); now = look_in c.present }) e)

same_shown : (formers : List Former) (f : Former) (cells : List Cell) → ((place k : ℕ) (d : Cell) → place < length cells → (get_or cells place d).mark ≡ Some k → k < length formers) → shown (formers ++ f ∷ []) cells ≡ shown formers cells
same_shown formers f [] h = refl
same_shown formers f (c ∷ cs) h = ap₂ ◌∷◌ (same_mark formers f c (λ k e. h 0 k c (omega arith) e)) (same_shown formers f cs (λ place k d l e. h (suc place) k d (omega (arith, l)) e))

-- a place that has a mark gets another record
pub put_again : (formers : List Former) (cells : List Cell) (at : ℕ) (old c : Cell) (one : Option Record) → at < length cells → old ≡ get_or cells at old → c ≡ record old { present = one }
    → (k : ℕ) → old.mark ≡ Some k → shown formers (set cells at c) ≡ put (shown formers cells) at (look_in one)
put_again formers cells at old c one l is new k e =
    let s : showing (shown formers cells) at ≡ showing_of formers old = shows formers cells at old l ∙ ap (showing_of formers) (sym is) in
    let t : showing_of formers c ≡ record { was = (showing_of formers old).was; now = look_in one } =
    ap (showing_of formers) new ∙ ap (λ o. record { was = look_in (or_kept formers o one); now = look_in one }) e ∙ sym (ap (λ o. record { was = look_in (or_kept formers o old.present); now = look_in one }) e) in
    map-set (showing_of formers) cells at c ∙ ap (set (shown formers cells) at) (t ∙ ap (λ w. record { was = w; now = look_in one }) (ap (λ s. s.was) (sym s)))

tied_again : (formers : List Former) (cells : List Cell) (at : ℕ) (old c : Cell) → at < length cells → old ≡ get_or cells at old → c.mark ≡ old.mark → AreTied formers cells → AreTied formers (set cells at c)
tied_again formers cells at old c l is e tied =
    let n : length (set cells at c) ≡ length cells = grind (arith, common_steps) in
    record {
      kept = λ place k d less m. ⊎_elim
          (λ s. tied.kept place k d (omega (arith, n, less)) (ap (λ k. (get_or cells k d).mark) s ∙ ap (λ c. c.mark) (same_at cells at d old l ∙ sym is) ∙ sym e ∙ sym (ap (λ c. c.mark) (get_or-set_same cells at c d l)) ∙ sym (ap (λ k. (get_or (set cells at c) k d).mark) s) ∙ m))
          (λ ne. tied.kept place k d (omega (arith, n, less)) (sym (ap (λ c. c.mark) (get_or-set_other cells at place c d ne)) ∙ m))
          (same_or place at);
      marked = λ k d less.
          let r = tied.marked k d less in (
            let b = r.0 in omega (arith, n, b),
            ⊎_elim
                (λ s. ap (λ k. (get_or (set cells at c) k d).mark) s ∙ ap (λ c. c.mark) (get_or-set_same cells at c d l) ∙ e ∙ ap (λ c. c.mark) (is ∙ same_at cells at old d l) ∙ sym (ap (λ k. (get_or cells k d).mark) s) ∙ r.1)
                (λ ne. ap (λ c. c.mark) (get_or-set_other cells at (former_at formers k).place c d ne) ∙ r.1)
                (same_or (former_at formers k).place at),
          );
    }

pub cells_again : (formers : List Former) (cells : List Cell) (at : ℕ) (old c : Cell) (one : Option Record) → at < length cells → old ≡ get_or cells at old → c ≡ record old { present = one }
    → (k : ℕ) → old.mark ≡ Some k → MayStand (shown formers cells) at one → AreCells formers cells → AreCells formers (set cells at c)
cells_again formers cells at old c one l is new k e may are =
    let s = put_again formers cells at old c one l is new k e in
    let long : at < length (shown formers cells) = grind (arith, common_steps) in
    let P : List Showing → Type 0 = HavePlaces in
    record {
      places = subst P (sym s) (places_put (shown formers cells) at one are.places may long);
      tied = tied_again formers cells at old c l is (ap (λ c. c.mark) new) are.tied;
    }

-- a place that has no mark gets one, and what it had is kept behind the others
pub put_first : (formers : List Former) (cells : List Cell) (at : ℕ) (old : Cell) (one : Option Record) → at < length cells → old ≡ get_or cells at old → old.mark ≡ None → AreTied formers cells
    → shown (formers ++ record { place = at; was = old.present } ∷ []) (set cells at (record { present = one; mark = Some (length formers) })) ≡ put (shown formers cells) at (look_in one)
put_first formers cells at old one l is e tied =
    let f : Former = record { place = at; was = old.present } in
    let c : Cell = record { present = one; mark = Some (length formers) } in
    let more : List Former = formers ++ f ∷ [] in
    let s : showing (shown formers cells) at ≡ showing_of formers old = shows formers cells at old l ∙ ap (showing_of formers) (sym is) in
    let was : (showing (shown formers cells) at).was ≡ look_in old.present = ap (λ s. s.was) s ∙ ap (λ o. look_in (or_kept formers o old.present)) e in
    let last : former_at more (length formers) ≡ f = grind (arith, common_steps) in
    let t : showing_of more c ≡ record { was = look_in old.present; now = look_in one } = ap (λ g. record { was = look_in g.was; now = look_in one }) last in
    map-set (showing_of more) cells at c
    ∙ ap (λ all. set all at (showing_of more c)) (same_shown formers f cells (λ place k d less m. (tied.kept place k d less m).0))
    ∙ ap (set (shown formers cells) at) (t ∙ ap (λ w. record { was = w; now = look_in one }) (sym was))

tied_first : (formers : List Former) (cells : List Cell) (at : ℕ) (old : Cell) (one was : Option Record) → at < length cells → old ≡ get_or cells at old → old.mark ≡ None → AreTied formers cells
    → AreTied (formers ++ record { place = at; was = was } ∷ []) (set cells at (record { present = one; mark = Some (length formers) }))
tied_first formers cells at old one was l is e tied =
    let f : Former = record { place = at; was = was } in
    let c : Cell = record { present = one; mark = Some (length formers) } in
    let more : List Former = formers ++ f ∷ [] in
    let n : length (set cells at c) ≡ length cells = grind (arith, common_steps) in
    let m : length more ≡ length formers + 1 = grind (arith, common_steps) in
    let last : former_at more (length formers) ≡ f = grind (arith, common_steps) in
    record {
      kept = λ place k d less q. ⊎_elim
          (λ s.
          let k_is : k ≡ length formers = let r : Some (length formers) ≡ Some k = sym (ap (λ c. c.mark) (get_or-set_same cells at c d l)) ∙ sym (ap (λ j. (get_or (set cells at c) j d).mark) s) ∙ q in cc in
          (omega (arith, m, k_is), ap (λ j. (former_at more j).place) k_is ∙ ap (λ g. g.place) last ∙ sym s))
          (λ ne.
          let r = tied.kept place k d (omega (arith, n, less)) (sym (ap (λ c. c.mark) (get_or-set_other cells at place c d ne)) ∙ q) in
          let b = r.0 in
          let front : former_at more k ≡ former_at formers k = grind (arith, common_steps, b) in
          (omega (arith, m, b), ap (λ g. g.place) front ∙ r.1))
          (same_or place at);
      marked = λ k d less. ⊎_elim
          (λ b.
          let front : former_at more k ≡ former_at formers k = grind (arith, common_steps, b) in
          let r = tied.marked k d b in
          let at_is : (former_at more k).place ≡ (former_at formers k).place = ap (λ g. g.place) front in
          let inside = r.0 in (
            omega (arith, n, at_is, inside),
            ⊎_elim
                (λ s. absurd (none_some e (ap (λ c. c.mark) (is ∙ same_at cells at old d l) ∙ sym (ap (λ j. (get_or cells j d).mark) s) ∙ r.1)))
                (λ ne. ap (λ j. (get_or (set cells at c) j d).mark) at_is ∙ ap (λ c. c.mark) (get_or-set_other cells at (former_at formers k).place c d ne) ∙ r.1)
                (same_or (former_at formers k).place at),
          ))
          (λ ge.
          let k_is : k ≡ length formers = omega (arith, m, less, ge) in
          let at_is : (former_at more k).place ≡ at = ap (λ j. (former_at more j).place) k_is ∙ ap (λ g. g.place) last in
          (omega (arith, n, at_is, l), ap (λ j. (get_or (set cells at c) j d).mark) at_is ∙ ap (λ c. c.mark) (get_or-set_same cells at c d l) ∙ ap Some (sym k_is)))
          (less_or k (length formers));
    }
  where
    none_some : {o : Option ℕ} {k : ℕ} → o ≡ None → o ≡ Some k → ⊥
    none_some {o} {k} a b = cc

pub cells_first : (formers : List Former) (cells : List Cell) (at : ℕ) (old : Cell) (one : Option Record) → at < length cells → old ≡ get_or cells at old → old.mark ≡ None → MayStand (shown formers cells) at one → AreCells formers cells
    → AreCells (formers ++ record { place = at; was = old.present } ∷ []) (set cells at (record { present = one; mark = Some (length formers) }))
cells_first formers cells at old one l is e may are =
    let s = put_first formers cells at old one l is e are.tied in
    let long : at < length (shown formers cells) = grind (arith, common_steps) in
    let P : List Showing → Type 0 = HavePlaces in
    record {
      places = subst P (sym s) (places_put (shown formers cells) at one are.places may long);
      tied = tied_first formers cells at old one old.present l is e are.tied;
    }

-- the places of which something is kept
pub kept_place : (formers : List Former) (k : ℕ) → k < length formers → get_or (places_of formers) k 0 ≡ (former_at formers k).place
kept_place formers k l = get_or-map (λ f. f.place) formers k no_former 0 l

pub marked_at : (ks : List ℕ) (i d : ℕ) → i < length ks → is_marked ks (get_or ks i d) ≡ true
marked_at [] i d l = absurd (omega (arith, l))
marked_at (k ∷ ks) zero d l = or_left (k == k) (is_marked ks k) (eq-eqb k k refl)
marked_at (k ∷ ks) (suc i) d l = or_right (k == get_or ks i d) (is_marked ks (get_or ks i d)) (marked_at ks i d (omega (arith, l)))

pub no_mark : (formers : List Former) (c : Cell) → c.mark ≡ None → showing_of formers c ≡ record { was = look_in c.present; now = look_in c.present }
no_mark formers c e = ap (λ o. record { was = look_in (or_kept formers o c.present); now = look_in c.present }) e

-- a place of which nothing is kept shows what it did
pub keeps : (formers : List Former) (cells : List Cell) → AreTied formers cells → Keeps (places_of formers) (shown formers cells)
keeps formers cells tied = record { same = λ place off. there place off (less_or place (length cells)) } where
  marked : (place k : ℕ) → k < length formers → (former_at formers k).place ≡ place → is_marked (places_of formers) place ≡ true
  marked place k l e =
      let n : length (places_of formers) ≡ length formers = grind (arith, common_steps) in
      let P : ℕ → Type 0 = λ j. is_marked (places_of formers) j ≡ true in
      subst P (kept_place formers k l ∙ e) (marked_at (places_of formers) k 0 (omega (arith, n, l)))

  here : (place : ℕ) → is_marked (places_of formers) place ≡ false → place < length cells → (o : Option ℕ) → (get_or cells place empty_cell).mark ≡ o → (showing_of formers (get_or cells place empty_cell)).was ≡ (showing_of formers (get_or cells place empty_cell)).now
  here place off l None e = let s = no_mark formers (get_or cells place empty_cell) e in ap (λ s. s.was) s
  here place off l (Some k) e = let r = tied.kept place k empty_cell l e in absurd (true≢false (sym (marked place k r.0 r.1) ∙ off))

  there : (place : ℕ) → is_marked (places_of formers) place ≡ false → (place < length cells) ⊎ (length cells ≤ place) → (showing (shown formers cells) place).was ≡ (showing (shown formers cells) place).now
  there place off (inl l) =
      let s = shows formers cells place empty_cell l in
      ap (λ s. s.was) s ∙ here place off l (get_or cells place empty_cell).mark refl ∙ sym (ap (λ s. s.now) s)
  there place off (inr ge) =
      let n : length (shown formers cells) ≡ length cells = grind (arith, common_steps) in
      let s = past (shown formers cells) place (omega (arith, n, ge)) in
      ap (λ s. s.was) s ∙ sym (ap (λ s. s.now) s)

pub kept_inside : (formers : List Former) (cells : List Cell) (k : ℕ) (f : Former) → AreTied formers cells → k < length formers → f ≡ get_or formers k f → f.place < length cells
kept_inside formers cells k f tied l e =
    let s : f ≡ former_at formers k = e ∙ grind (arith, common_steps) in
    let P : ℕ → Type 0 = λ p. p < length cells in
    subst P (ap (λ f. f.place) (sym s)) (tied.marked k empty_cell l).0

-- what is kept of a place is what it showed at the start before
pub shows_kept : (formers : List Former) (cells : List Cell) (k : ℕ) (f : Former) → AreTied formers cells → k < length formers → f ≡ get_or formers k f
    → showing (shown formers cells) f.place ≡ record { was = look_in f.was; now = look_in (present_at cells f.place) }
shows_kept formers cells k f tied l e =
    let s : f ≡ former_at formers k = e ∙ get_or_any formers k f no_former l in
    let r = tied.marked k empty_cell l in
    let P : ℕ → Type 0 = λ p. p < length cells in
    let inside : f.place < length cells = subst P (ap (λ f. f.place) (sym s)) r.0 in
    let mark : (get_or cells f.place empty_cell).mark ≡ Some k = ap (λ p. (get_or cells p empty_cell).mark) (ap (λ f. f.place) s) ∙ r.1 in
    shows formers cells f.place empty_cell inside
    ∙ ap (λ o. record { was = look_in (or_kept formers o (present_at cells f.place)); now = look_in (present_at cells f.place) }) mark
    ∙ ap (λ g. record { was = look_in g.was; now = look_in (present_at cells f.place) }) (sym s)
  where
    get_or_any : (formers : List Former) (k : ℕ) (d e : Former) → k < length formers → get_or formers k d ≡ get_or formers k e
    get_or_any formers k d e l = grind (arith, common_steps)

-- the changes of one more place
pub changes_more : (formers : List Former) (cells : List Cell) (i : ℕ) (f : Former) (now new all : List Area) → AreTied formers cells → now ++ changes (shown formers cells) (places_of (drop i formers)) ≡ all → i < length formers → f ≡ get_or formers i f
    → new ≡ now ++ changed (look_in f.was) (look_in (present_at cells f.place)) → new ++ changes (shown formers cells) (places_of (drop (i + 1) formers)) ≡ all
changes_more formers cells i f now new all tied so_far inside is e =
    let rest : List Area = changes (shown formers cells) (places_of (drop (i + 1) formers)) in
    let split : drop i formers ≡ f ∷ drop (i + 1) formers = drop_more formers i f inside ∙ ap (λ g. g ∷ drop (i + 1) formers) (sym is) in
    let here : changed (look_in f.was) (look_in (present_at cells f.place)) ≡ changed_in (showing (shown formers cells) f.place) = sym (ap changed_in (shows_kept formers cells i f tied inside is)) in
    ap (λ areas. areas ++ rest) (e ∙ ap (λ areas. now ++ areas) here) ∙ append_assoc now (changed_in (showing (shown formers cells) f.place)) rest
    ∙ ap (λ fs. now ++ changes (shown formers cells) (places_of fs)) (sym split) ∙ so_far

-- a region has room for an area of a canvas
canvas_fits : (a : Area) → IsOnCanvas a → FitsRegion a
canvas_fits a h wide high = record { left = h.left; top = h.top; right = omega (arith, ints, h.right); bottom = omega (arith, ints, h.bottom) }

single_fits : (a : Area) → FitsRegion a → All FitsRegion (a ∷ [])
single_fits a h zero d l = h
single_fits a h (suc i) d l = absurd (omega (arith, l))

two_fit : (a b : Area) (s : Bool) → FitsRegion a → FitsRegion b → All FitsRegion (if s then [] else a ∷ (b ∷ []))
two_fit a b true h k = All-nil FitsRegion
two_fit a b false h k = All-append FitsRegion (a ∷ []) (b ∷ []) (single_fits a h) (single_fits b k)

one_fit : (o p : Option Look) → ((l : Look) → o ≡ Some l → FitsRegion l.area) → ((l : Look) → p ≡ Some l → FitsRegion l.area) → All FitsRegion (changed o p)
one_fit None None h k = All-nil FitsRegion
one_fit None (Some m) h k = single_fits m.area (k m refl)
one_fit (Some l) None h k = single_fits l.area (h l refl)
one_fit (Some l) (Some m) h k = two_fit l.area m.area (is_same l m) (h l refl) (k m refl)

pub changes_fit : (all : List Showing) (places : List ℕ) → HavePlaces all → All FitsRegion (changes all places)
changes_fit all [] have = All-nil FitsRegion
changes_fit all (k ∷ ks) have = All-append FitsRegion (changed_in (showing all k)) (changes all ks) (one_fit (showing all k).was (showing all k).now (λ l e. canvas_fits l.area (have.inside k l (inl e))) (λ l e. canvas_fits l.area (have.inside k l (inr e)))) (changes_fit all ks have)

-- the area of a place that shows the same
pub still_unmarked : (formers : List Former) (c : Cell) (r : Record) → c.present ≡ Some r → c.mark ≡ None → Some r.area ≡ still (showing_of formers c)
still_unmarked formers c r e m =
    sym (ap still (no_mark formers c m) ∙ ap (λ p. still_area (look_in p) (look_in p)) e ∙ ap (λ t. if t then Some r.area else None) (same_self (look_of r)))

pub still_marked : (formers : List Former) (c : Cell) (r : Record) (f : Former) (k : ℕ) → c.present ≡ Some r → c.mark ≡ Some k → k < length formers → f ≡ get_or formers k f → still_area (look_in f.was) (Some (look_of r)) ≡ still (showing_of formers c)
still_marked formers c r f k e m l is =
    let s : f ≡ former_at formers k = is ∙ grind (arith, common_steps) in
    ap (λ f. still_area (look_in f.was) (Some (look_of r))) s
    ∙ sym (ap (λ o. still_area (look_in (or_kept formers o c.present)) (look_in c.present)) m ∙ ap (λ p. still_area (look_in (former_at formers k).was) (look_in p)) e)

no_still : (o : Option Look) → still_area o None ≡ None
no_still None = refl
no_still (Some l) = refl

pub still_nothing : (formers : List Former) (c : Cell) → c.present ≡ None → None ≡ still (showing_of formers c)
still_nothing formers c e = sym (ap (λ p. still_area (look_in (before_of formers c)) (look_in p)) e ∙ no_still (look_in (before_of formers c)))

pub still_fits : (all : List Showing) (place : ℕ) → HavePlaces all → IfSome (still (showing all place)) FitsRegion
still_fits all place have = go (showing all place).was (showing all place).now (λ l e. canvas_fits l.area (have.inside place l (inl e))) where
  test : (a : Area) (t : Bool) → FitsRegion a → IfSome (if t then Some a else None) FitsRegion
  test a true h = h
  test a false h = tt

  go : (o p : Option Look) → ((l : Look) → o ≡ Some l → FitsRegion l.area) → IfSome (still_area o p) FitsRegion
  go None p h = tt
  go (Some l) None h = tt
  go (Some l) (Some m) h = test l.area (is_same l m) (h l refl)

-- one more cell, which shows nothing
pub nothing_at : (all : List Showing) (i : ℕ) (l : Look) → Shows (showing (all ++ nothing ∷ []) i) l → Shows (showing all i) l
nothing_at [] zero l s = s
nothing_at [] (suc i) l s = s
nothing_at (t ∷ all) zero l s = s
nothing_at (t ∷ all) (suc i) l s = nothing_at all i l s

pub cells_added : (formers : List Former) (cells : List Cell) → AreCells formers cells → AreCells formers (cells ++ empty_cell ∷ [])
cells_added formers cells are =
    let s : shown formers (cells ++ empty_cell ∷ []) ≡ shown formers cells ++ nothing ∷ [] = map-append (showing_of formers) cells (empty_cell ∷ []) in
    let P : List Showing → Type 0 = HavePlaces in
    let n : length (cells ++ empty_cell ∷ []) ≡ length cells + 1 = grind (arith, common_steps) in
    record {
      places = subst P (sym s) (record {
        one = λ i j l m a b e. are.places.one i j l m (nothing_at (shown formers cells) i l a) (nothing_at (shown formers cells) j m b) e;
        inside = λ i l a. are.places.inside i l (nothing_at (shown formers cells) i l a);
      });
      tied = record {
        kept = λ place k d l e. ⊎_elim
            (λ b. are.tied.kept place k d b (sym (ap (λ c. c.mark) (front place d b)) ∙ e))
            (λ ge.
            let q : place ≡ length cells = omega (arith, n, l, ge) in
            let last : get_or (cells ++ empty_cell ∷ []) (length cells) d ≡ empty_cell = grind (arith, common_steps) in
            absurd (none_some (ap (λ c. c.mark) last) (ap (λ p. (get_or (cells ++ empty_cell ∷ []) p d).mark) (sym q) ∙ e)))
            (less_or place (length cells));
        marked = λ k d l.
            let r = are.tied.marked k d l in
            let b = r.0 in
            (omega (arith, n, b), ap (λ c. c.mark) (front (former_at formers k).place d b) ∙ r.1);
      };
    }
  where
    front : (place : ℕ) (d : Cell) → place < length cells → get_or (cells ++ empty_cell ∷ []) place d ≡ get_or cells place d
    front place d l = grind (arith, common_steps)

    none_some : {o : Option ℕ} {k : ℕ} → o ≡ None → o ≡ Some k → ⊥
    none_some {o} {k} a b = cc

-- there are as many cells as there is shown
pub there : (formers : List Former) (cells : List Cell) (all : List Showing) (place : ℕ) → shown formers cells ≡ all → place < length all → place < length cells
there formers cells all place e l = let n : length (shown formers cells) ≡ length all = ap length e in let m : length (shown formers cells) ≡ length cells = grind (arith, common_steps) in omega (arith, l, n, m)

pub some_mark : (o : Option ℕ) → is_some o ≡ true → (k : ℕ) × (o ≡ Some k)
some_mark None e = absurd (true≢false (sym e))
some_mark (Some k) e = (k, refl)

pub none_mark : (o : Option ℕ) → is_some o ≡ false → o ≡ None
none_mark None e = refl
none_mark (Some k) e = absurd (true≢false e)

-- one cell was read twice
pub one_cell : (cells : List Cell) (place : ℕ) (a b : Cell) → place < length cells → a ≡ get_or cells place a → b ≡ get_or cells place b → a ≡ b
one_cell cells place a b l e f = e ∙ same_at cells place a b l ∙ sym f

-- a place got its first other record
pub record IsFirst (formers more : List Former) (at : ℕ) (old new : Cell) (one : Option Record) : Type 0 where
  pub kept : more ≡ formers ++ record { place = at; was = old.present } ∷ []
  pub cell : new ≡ record { present = one; mark = Some (length formers) }

pub first_shown : (formers more : List Former) (cells : List Cell) (at : ℕ) (old new : Cell) (one : Option Record) → IsFirst formers more at old new one → at < length cells → old ≡ get_or cells at old → old.mark ≡ None → AreTied formers cells
    → shown more (set cells at new) ≡ put (shown formers cells) at (look_in one)
first_shown formers more cells at old new one first l is e tied =
    ap₂ (λ fs c. shown fs (set cells at c)) first.kept first.cell ∙ put_first formers cells at old one l is e tied

pub first_cells : (formers more : List Former) (cells : List Cell) (at : ℕ) (old new : Cell) (one : Option Record) → IsFirst formers more at old new one → at < length cells → old ≡ get_or cells at old → old.mark ≡ None → MayStand (shown formers cells) at one → AreCells formers cells
    → AreCells more (set cells at new)
first_cells formers more cells at old new one first l is e may are =
    let P : List Former → Type 0 = λ fs. AreCells fs (set cells at new) in
    let Q : Cell → Type 0 = λ c. AreCells (formers ++ record { place = at; was = old.present } ∷ []) (set cells at c) in
    subst P (sym first.kept) (subst Q (sym first.cell) (cells_first formers cells at old one l is e may are))

pub may_stand : (all all' : List Showing) (place : ℕ) (one : Option Record) → all ≡ all' → MayStand all' place one → MayStand all place one
may_stand all all' place one e h = let P : List Showing → Type 0 = λ all. MayStand all place one in subst P (sym e) h

-- the same lists under other names
pub same_changes : (formers formers' : List Former) (cells cells' : List Cell) → formers ≡ formers' → cells ≡ cells' → changes (shown formers cells) (places_of formers) ≡ changes (shown formers' cells') (places_of formers')
same_changes formers formers' cells cells' e f = ap₂ (λ fs cs. changes (shown fs cs) (places_of fs)) e f

pub is_former : (formers : List Former) (k : ℕ) (f : Former) → k < length formers → f ≡ get_or formers k f → f.place ≡ (former_at formers k).place
is_former formers k f l e = let s : f ≡ former_at formers k = e ∙ grind (arith, common_steps) in ap (λ f. f.place) s
