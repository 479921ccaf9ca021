-- What packed areas tell of places that have a pixel in common.
use Rattle.std.proofs.Common.{◌≡◌, ℕ, zero, suc, ◌<◌, ◌≤◌, ◌+◌, ◌⊎◌, ⊎_elim, inl, inr, ℤ, pos, negsuc, ◌+ℤ◌, ◌≤ℤ◌, ◌<ℤ◌, int_le, int_lt, Bool, true, false, ◌&&◌, ◌||◌, ◌==◌, nat_le, nat_lt, if◌then◌else◌, List, [], ◌∷◌, ◌++◌, map, get_or, set, length, take, drop, take-append-drop, Option, None, refl, sym, ap, ap₂, ◌∙◌, arith, true≢false, subst, get_or-set_other, get_or-set_same}
use Rattle.std.proofs.lemmas.Bool.{eqb-true, eq-eqb, and_right, and_parts, lt-ltb, le-leb, leb-true, ltb-true}
use Rattle.std.proofs.lemmas.Int.{ints}
use Rattle.std.proofs.lemmas.Grind.{common_steps}
use Rattle.std.proofs.Math.Bool.{or-false}
use Rattle.std.proofs.lemmas.List.{take_more}
use Rattle.std.proofs.lemmas.List.Folds.{list_any-append}
use Rattle.std.specs.List.{list_any}
use Rattle.ev_geom.specs.Area.{Area, is_within, holds}
use Rattle.ev_areas.specs.Edges.{has_pixel_at, join}
use Rattle.ev_areas.specs.Packed.{packed, nowhere, meets}
use Rattle.ev_areas.specs.Meeting.{meeting, place_if}
use Rattle.ev_areas.specs.declared.edges.Edges.{Edges}
use Rattle.ev_areas.proofs.Packing.{common_meet}
use Rattle.ev_model.specs.Look.{Look}
use Rattle.ev_damage.specs.Same.{same_look}
use Rattle.ev_damage.specs.Marked.{is_marked}
use Rattle.ev_damage.proofs.Members.{both, either, or_left, or_right, any_In, In_any}
use Rattle.ev_damage.proofs.Sameness.{same_look_is}
use Rattle.ev_records.specs.Showing.{Showing, nothing, showing, put, settled, IsOnCanvas, HavePlaces}
use Rattle.ev_records.specs.Standing.{Standings}
use Rattle.ev_records.specs.Turned.{is_turned, still, held_in, in_pair, any_below, in_turned, Gathers}
use Rattle.ev_records.specs.Cells.{look_in, present_at, shown, empty_cell}
use Rattle.ev_records.specs.Near.{AreAround, HaveAreas, FindsNear, AreApart, IsAroundAll}
use Rattle.ev_records.specs.declared.cell.Cell.{Cell}
use Rattle.ev_records.specs.declared.cell.Former.{Former}
use Rattle.ev_records.proofs.Changing.{same_or, less_or, shows}
use Rattle.ev_records.proofs.Settling.{settled_at}
use Rattle.ev_records.proofs.Gatherings.{gathers_none, gathers_both, gathers_same}
use Rattle.ev_records.proofs.Lining.{iff_same}
use Rattle.ev_records.proofs.Turnings.{still_told, below_at, at_below, marked_In, In_marked}

-- a place of a stretch on the greatest canvas
on_stretch : (from len at : ℤ) → pos 0 ≤ℤ from → (from +ℤ len) ≤ℤ pos 4096 → is_within from len at ≡ true → (n : ℕ) × (at ≡ pos n) × (n < 4096)
on_stretch from len (pos n) low high e =
    let parts = and_parts (int_le from (pos n)) (int_lt (pos n) (from +ℤ len)) e in
    let b : pos n <ℤ (from +ℤ len) = lt_true (pos n) (from +ℤ len) parts.1 in
    (n, refl, omega (arith, ints, b, high))
  where
    lt_true : (a b : ℤ) → int_lt a b ≡ true → a <ℤ b
    lt_true a b e = grind (arith, ints)
on_stretch from len (negsuc n) low high e =
    let parts = and_parts (int_le from (negsuc n)) (int_lt (negsuc n) (from +ℤ len)) e in
    let b : from ≤ℤ negsuc n = le_true from (negsuc n) parts.0 in
    absurd (omega (arith, ints, b, low))
  where
    le_true : (a b : ℤ) → int_le a b ≡ true → a ≤ℤ b
    le_true a b e = grind (arith, ints)

-- the edges of a place that shows the same as at the start before hold each pixel of its area
pub record IsPixelOf (e : Edges) (x y : ℤ) : Type 0 where
  pub column : ℕ
  pub row : ℕ
  pub x_is : x ≡ pos column
  pub y_is : y ≡ pos row
  pub held : has_pixel_at e column row ≡ true

pub still_pixel : (all : List Showing) (place : ℕ) (e : Edges) (x y : ℤ) → HavePlaces all → AreAround (showing all place).now e → held_in (still (showing all place)) x y ≡ true → IsPixelOf e x y
still_pixel all place e x y have around h =
    let s = still_told (showing all place).was (showing all place).now x y h in
    let l : Look = s.0 in
    let m : Look = s.1 in
    let same : l.area ≡ m.area = (same_look_is l m ((both (m.id == l.id) (same_look l m) s.4).1)).area in
    let on : IsOnCanvas m.area = have.inside place m (inr s.3) in
    let held : holds m.area x y ≡ true = ap (λ a. holds a x y) (sym same) ∙ s.5 in
    let sides = and_parts (is_within m.area.x m.area.w x) (is_within m.area.y m.area.h y) held in
    let c = on_stretch m.area.x m.area.w x on.left (omega (arith, ints, on.right)) sides.0 in
    let r = on_stretch m.area.y m.area.h y on.top (omega (arith, ints, on.bottom)) sides.1 in
    record { column = c.0; row = r.0; x_is = c.1; y_is = r.1; held = around.pixels m c.0 r.0 s.3 c.2 r.2 (ap₂ (holds m.area) (sym c.1) (sym r.1) ∙ held) }

pos_same : (n m : ℕ) → pos n ≡ pos m → n ≡ m
pos_same n m e = omega (arith, ints, e)

-- areas with a pixel in common meet
pixels_meet : (a b : Edges) (x y : ℤ) → IsPixelOf a x y → IsPixelOf b x y → meets a b ≡ true
pixels_meet a b x y p q =
    let c : p.column ≡ q.column = pos_same p.column q.column (sym p.x_is ∙ q.x_is) in
    let r : p.row ≡ q.row = pos_same p.row q.row (sym p.y_is ∙ q.y_is) in
    common_meet a b p.column p.row p.held (ap₂ (has_pixel_at b) c r ∙ q.held)

pub apart_unless : (all : List Showing) (areas : List Edges) (a b : ℕ) (e f : Edges) (t : Bool) → HavePlaces all → HaveAreas all areas → a < length all → b < length all → e ≡ get_or areas a e → f ≡ get_or areas b f → t ≡ meets e f → t ≡ false → AreApart all a b
apart_unless all areas a b e f t have are l m is is' told none x y = go (held_in (still (showing all b)) x y && held_in (still (showing all a)) x y) refl where
  around : (p : ℕ) (g : Edges) → p < length all → g ≡ get_or areas p g → AreAround (showing all p).now g
  around p g low s =
      let q : get_or areas p nowhere ≡ g = any areas p nowhere g (omega (arith, low, are.long)) ∙ sym s in
      let P : Edges → Type 0 = AreAround (showing all p).now in
      subst P q (are.around p)
    where
      any : (areas : List Edges) (p : ℕ) (d e : Edges) → p < length areas → get_or areas p d ≡ get_or areas p e
      any areas p d e l = grind (arith, common_steps)

  go : (s : Bool) → (held_in (still (showing all b)) x y && held_in (still (showing all a)) x y) ≡ s → (held_in (still (showing all b)) x y && held_in (still (showing all a)) x y) ≡ false
  go false q = q
  go true q =
      let h = both (held_in (still (showing all b)) x y) (held_in (still (showing all a)) x y) q in
      absurd (true≢false (sym (pixels_meet e f x y (still_pixel all a e x y have (around a e l is) h.1) (still_pixel all b f x y have (around b f m is') h.0)) ∙ sym told ∙ none))

-- which places are found
found_at : (bound : Edges) (k : ℕ) (areas : List Edges) (b : ℕ) → b < length areas → meets (get_or areas b nowhere) bound ≡ true → is_marked (meeting bound k areas) (k + b) ≡ true
found_at bound k [] b l e = absurd (omega (arith, l))
found_at bound k (a ∷ areas) zero l e =
    let s : k + 0 ≡ k = omega arith in
    list_any-append (λ j. j == k + 0) (place_if (meets a bound) k) (meeting bound (k + 1) areas)
    ∙ ap (λ t. is_marked (place_if t k) (k + 0) || is_marked (meeting bound (k + 1) areas) (k + 0)) e
    ∙ or_left ((k == k + 0) || false) (is_marked (meeting bound (k + 1) areas) (k + 0)) (or_left (k == k + 0) false (eq-eqb k (k + 0) (sym s)))
found_at bound k (a ∷ areas) (suc b) l e =
    let s : (k + 1) + b ≡ k + suc b = omega arith in
    list_any-append (λ j. j == k + suc b) (place_if (meets a bound) k) (meeting bound (k + 1) areas)
    ∙ or_right (is_marked (place_if (meets a bound) k) (k + suc b)) (is_marked (meeting bound (k + 1) areas) (k + suc b))
    (let P : ℕ → Type 0 = λ j. is_marked (meeting bound (k + 1) areas) j ≡ true in subst P s (found_at bound (k + 1) areas b (omega (arith, l)) e))

single : (j b : ℕ) → is_marked (j ∷ []) b ≡ true → j ≡ b
single j b h = ⊎_elim (λ e. eqb-true j b e) (λ e. absurd (true≢false (sym e))) (either (j == b) false h)

one_found : (k b n : ℕ) (t : Bool) → is_marked (place_if t k) b ≡ true → b < k + suc n
one_found k b n true h = let s : k ≡ b = single k b h in omega (arith, s)
one_found k b n false h = absurd (true≢false (sym h))

found_within : (bound : Edges) (k : ℕ) (areas : List Edges) (b : ℕ) → is_marked (meeting bound k areas) b ≡ true → b < k + length areas
found_within bound k [] b e = absurd (true≢false (sym e))
found_within bound k (a ∷ areas) b e = ⊎_elim
    (λ h. one_found k b (length areas) (meets a bound) h)
    (λ h. let r : b < (k + 1) + length areas = found_within bound (k + 1) areas b h in omega (arith, r))
    (either (is_marked (place_if (meets a bound) k) b) (is_marked (meeting bound (k + 1) areas) b) (sym (list_any-append (λ j. j == b) (place_if (meets a bound) k) (meeting bound (k + 1) areas)) ∙ e))

-- packing keeps edges between which a pixel lies
packed_same : (e : Edges) (x y : ℕ) → has_pixel_at e x y ≡ true → packed e ≡ e
packed_same e x y h =
    let p = and_parts (nat_le e.left x && nat_lt x e.right) (nat_le e.top y && nat_lt y e.bottom) h in
    let c = and_parts (nat_le e.left x) (nat_lt x e.right) p.0 in
    let r = and_parts (nat_le e.top y) (nat_lt y e.bottom) p.1 in
    let a = leb-true e.left x c.0 in
    let b = ltb-true x e.right c.1 in
    let f = leb-true e.top y r.0 in
    let g = ltb-true y e.bottom r.1 in
    ap (λ t. if t then e else nowhere) (ap₂ ◌&&◌ (lt-ltb e.left e.right (omega (arith, a, b))) (lt-ltb e.top e.bottom (omega (arith, f, g))))

pub around_packed : (o : Option Look) (e : Edges) → AreAround o e → AreAround o (packed e)
around_packed o e h = record { pixels = λ l x y s a b held. let q = h.pixels l x y s a b held in ap (λ e. has_pixel_at e x y) (packed_same e x y q) ∙ q }

pub finds_near : (formers : List Former) (cells : List Cell) (areas : List Edges) (group found : List ℕ) (bound : Edges) → HavePlaces (shown formers cells) → HaveAreas (shown formers cells) areas
    → ((place : ℕ) → is_marked group place ≡ true → place < length (shown formers cells)) → IsAroundAll cells group bound → found ≡ meeting (packed bound) 0 areas → FindsNear (shown formers cells) group found
finds_near formers cells areas group found bound have are inside around e = record {
  all_near = λ a b x y m h k.
      let n : length (shown formers cells) ≡ length cells = grind (arith, common_steps) in
      let low = inside a m in
      let now : (showing (shown formers cells) a).now ≡ look_in (present_at cells a) = ap (λ s. s.now) (shows formers cells a empty_cell (omega (arith, low, n))) in
      let P : Option Look → Type 0 = λ o. AreAround o (packed bound) in
      let p = still_pixel (shown formers cells) a (packed bound) x y have (subst P (sym now) (around_packed (look_in (present_at cells a)) bound (around.around a m))) h in
      let q = still_pixel (shown formers cells) b (get_or areas b nowhere) x y have (are.around b) k in
      let within : b < length areas = there b (less_or b (length areas)) q.column q.row q.held in
      let s : 0 + b ≡ b = omega arith in
      let Q : ℕ → Type 0 = λ k. is_marked (meeting (packed bound) 0 areas) k ≡ true in
      ap (λ places. is_marked places b) e ∙ subst Q s (found_at (packed bound) 0 areas b within (pixels_meet (get_or areas b nowhere) (packed bound) x y q p));
  within = λ b m. let w : b < 0 + length areas = found_within (packed bound) 0 areas b (ap (λ places. is_marked places b) (sym e) ∙ m) in omega (arith, w, are.long);
} where
  there : (b : ℕ) → (b < length areas) ⊎ (length areas ≤ b) → (x y : ℕ) → has_pixel_at (get_or areas b nowhere) x y ≡ true → b < length areas
  there b (inl l) x y h = l
  there b (inr ge) x y h =
      let s : get_or areas b nowhere ≡ nowhere = grind (arith, common_steps) in
      let c = and_parts (nat_le 8191 x) (nat_lt x 0) ((and_parts (nat_le 8191 x && nat_lt x 0) (nat_le 8191 y && nat_lt y 0) (ap (λ e. has_pixel_at e x y) (sym s) ∙ h)).0) in
      let z = ltb-true x 0 c.1 in
      absurd (omega (arith, z))

-- edges around one more place
pub none_around : (cells : List Cell) (e : Edges) → e.right ≤ 4096 → e.bottom ≤ 4096 → IsAroundAll cells [] e
none_around cells e r b = record { right = r; bottom = b; around = λ place m. absurd (true≢false (sym m)) }

within : (from to low high at : ℕ) → low ≤ from → to ≤ high → (nat_le from at && nat_lt at to) ≡ true → (nat_le low at && nat_lt at high) ≡ true
within from to low high at a b here =
    let both = and_parts (nat_le from at) (nat_lt at to) here in
    let l = leb-true from at both.0 in
    let r = ltb-true at to both.1 in
    ap₂ ◌&&◌ (le-leb low at (omega (arith, a, l))) (lt-ltb at high (omega (arith, b, r)))

inside_of : (e f : Edges) (x y : ℕ) → f.left ≤ e.left → e.right ≤ f.right → f.top ≤ e.top → e.bottom ≤ f.bottom → has_pixel_at e x y ≡ true → has_pixel_at f x y ≡ true
inside_of e f x y l r t b here =
    let both = and_parts (nat_le e.left x && nat_lt x e.right) (nat_le e.top y && nat_lt y e.bottom) here in
    ap₂ ◌&&◌ (within e.left e.right f.left f.right x l r both.0) (within e.top e.bottom f.top f.bottom y t b both.1)

around_first : (o : Option Look) (e f : Edges) → AreAround o e → AreAround o (join e f)
around_first o e f h = record { pixels = λ l x y s a b held. inside_of e (join e f) x y (omega arith) (omega arith) (omega arith) (omega arith) (h.pixels l x y s a b held) }

around_second : (o : Option Look) (e f : Edges) → AreAround o f → AreAround o (join e f)
around_second o e f h = record { pixels = λ l x y s a b held. inside_of f (join e f) x y (omega arith) (omega arith) (omega arith) (omega arith) (h.pixels l x y s a b held) }

pub around_more : (cells : List Cell) (group : List ℕ) (i : ℕ) (bound e : Edges) → IsAroundAll cells (take i group) bound → i < length group → AreAround (look_in (present_at cells (get_or group i 0))) e → e.right ≤ 4096 → e.bottom ≤ 4096
    → IsAroundAll cells (take (i + 1) group) (join bound e)
around_more cells group i bound e so_far inside around r b =
    let p = so_far.right in
    let q = so_far.bottom in
    record {
      right = omega (arith, p, r);
      bottom = omega (arith, q, b);
      around = λ place m. ⊎_elim
          (λ h. around_first (look_in (present_at cells place)) bound e (so_far.around place h))
          (λ h.
          let s : get_or group i 0 ≡ place = single (get_or group i 0) place h in
          let P : ℕ → Type 0 = λ k. AreAround (look_in (present_at cells k)) (join bound e) in
          subst P s (around_second (look_in (present_at cells (get_or group i 0))) bound e around))
          (either (is_marked (take i group) place) (is_marked (get_or group i 0 ∷ []) place)
          (sym (list_any-append (λ j. j == place) (take i group) (get_or group i 0 ∷ [])) ∙ ap (λ places. is_marked places place) (sym (take_more group i 0 inside)) ∙ m));
    }

-- one more of those found
pub pairs_more : (p : ℤ → ℤ → ℕ → Bool) (found : List ℕ) (i : ℕ) (old mid new : List Area) → i < length found → Gathers (λ x y. list_any (p x y) (take i found)) old mid → Gathers (λ x y. p x y (get_or found i 0)) mid new
    → Gathers (λ x y. list_any (p x y) (take (i + 1) found)) old new
pairs_more p found i old mid new inside a b =
    let k : ℕ = get_or found i 0 in
    gathers_both (λ x y. list_any (p x y) (take i found)) (λ x y. p x y k) (λ x y. list_any (p x y) (take (i + 1) found)) old mid new a b
    (λ x y. sym (ap (list_any (p x y)) (take_more found i 0 inside) ∙ list_any-append (p x y) (take i found) (k ∷ []) ∙ ap (λ t. list_any (p x y) (take i found) || t) (or-false (p x y k))))

-- what is kept beside the cells
around_none : (e : Edges) → AreAround None e
around_none e = record { pixels = λ l x y s. cc }

pub areas_put : (all : List Showing) (areas : List Edges) (at : ℕ) (o : Option Look) (e : Edges) → HaveAreas all areas → at < length all → AreAround o e → HaveAreas (put all at o) (set areas at e)
areas_put all areas at o e are l around =
    let s : Showing = record { was = (showing all at).was; now = o } in
    let n : length (set areas at e) ≡ length areas = grind (arith, common_steps) in
    let m : length (put all at o) ≡ length all = grind (arith, common_steps) in
    record {
      long = n ∙ are.long ∙ sym m;
      around = λ place. ⊎_elim
          (λ q.
          let P : Option Look → Type 0 = λ o. AreAround o (get_or (set areas at e) place nowhere) in
          let Q : Edges → Type 0 = AreAround o in
          subst P (sym (ap (λ k. (showing (put all at o) k).now) q ∙ ap (λ s. s.now) (get_or-set_same all at s nothing l)))
          (subst Q (sym (ap (λ k. get_or (set areas at e) k nowhere) q ∙ get_or-set_same areas at e nowhere (omega (arith, l, are.long)))) around))
          (λ ne.
          let P : Option Look → Type 0 = λ o. AreAround o (get_or (set areas at e) place nowhere) in
          let Q : Edges → Type 0 = AreAround (showing all place).now in
          subst P (sym (ap (λ s. s.now) (get_or-set_other all at place s nothing ne))) (subst Q (sym (get_or-set_other areas at place e nowhere ne)) (are.around place)))
          (same_or place at);
    }

pub areas_added : (all : List Showing) (areas : List Edges) → HaveAreas all areas → HaveAreas (all ++ nothing ∷ []) (areas ++ nowhere ∷ [])
areas_added all areas are =
    let n : length (areas ++ nowhere ∷ []) ≡ length areas + 1 = grind (arith, common_steps) in
    let m : length (all ++ nothing ∷ []) ≡ length all + 1 = grind (arith, common_steps) in
    record {
      long = omega (arith, n, m, are.long);
      around = λ place. ⊎_elim
          (λ l.
          let a : showing (all ++ nothing ∷ []) place ≡ showing all place = grind (arith, common_steps, l) in
          let b : get_or (areas ++ nowhere ∷ []) place nowhere ≡ get_or areas place nowhere = front areas place (omega (arith, l, are.long)) in
          let P : Option Look → Type 0 = λ o. AreAround o (get_or (areas ++ nowhere ∷ []) place nowhere) in
          let Q : Edges → Type 0 = AreAround (showing all place).now in
          subst P (sym (ap (λ s. s.now) a)) (subst Q (sym b) (are.around place)))
          (λ ge.
          let a : showing (all ++ nothing ∷ []) place ≡ nothing = behind all place ge in
          let P : Option Look → Type 0 = λ o. AreAround o (get_or (areas ++ nowhere ∷ []) place nowhere) in
          subst P (sym (ap (λ s. s.now) a)) (around_none (get_or (areas ++ nowhere ∷ []) place nowhere)))
          (less_or place (length all));
    }
  where
    front : (areas : List Edges) (p : ℕ) → p < length areas → get_or (areas ++ nowhere ∷ []) p nowhere ≡ get_or areas p nowhere
    front areas p l = grind (arith, common_steps)

    behind : (all : List Showing) (p : ℕ) → length all ≤ p → showing (all ++ nothing ∷ []) p ≡ nothing
    behind [] zero l = refl
    behind [] (suc p) l = refl
    behind (s ∷ all) zero l = absurd (omega (arith, l))
    behind (s ∷ all) (suc p) l = behind all p (omega (arith, l))

pub areas_settled : (all : List Showing) (areas : List Edges) → HaveAreas all areas → HaveAreas (map settled all) areas
areas_settled all areas are =
    let m : length (map settled all) ≡ length all = grind (arith, common_steps) in
    record {
      long = are.long ∙ sym m;
      around = λ place. let P : Option Look → Type 0 = λ o. AreAround o (get_or areas place nowhere) in subst P (sym (ap (λ s. s.now) (settled_at all place))) (are.around place);
    }

-- a pair that has no pixel in common
pub pair_apart : (all : List Showing) (st : Standings) (a b : ℕ) (old : List Area) → AreApart all a b → Gathers (λ x y. in_pair all st x y a b) old old
pair_apart all st a b old apart = gathers_none (λ x y. in_pair all st x y a b) old (λ x y. and_right (is_turned st a b) (held_in (still (showing all b)) x y && held_in (still (showing all a)) x y) (apart x y))

-- those near a place are all that count
pub near_counts : (all : List Showing) (st : Standings) (group found : List ℕ) (a : ℕ) (old new : List Area) → FindsNear all group found → is_marked group a ≡ true
    → Gathers (λ x y. list_any (in_pair all st x y a) found) old new → Gathers (λ x y. any_below (in_pair all st x y a) (length all)) old new
near_counts all st group found a old new finds m g =
    gathers_same (λ x y. list_any (in_pair all st x y a) found) (λ x y. any_below (in_pair all st x y a) (length all)) old new g (λ x y. iff_same (list_any (in_pair all st x y a) found) (any_below (in_pair all st x y a) (length all))
    (λ e. let r = any_In (in_pair all st x y a) found e in below_at (in_pair all st x y a) (length all) r.0 (finds.within r.0 (In_marked found r.0 r.1)) r.2)
    (λ e.
    let r = at_below (in_pair all st x y a) (length all) e in
    let s = both (is_turned st a r.0) (held_in (still (showing all r.0)) x y && held_in (still (showing all a)) x y) r.1 in
    let h = both (held_in (still (showing all r.0)) x y) (held_in (still (showing all a)) x y) s.1 in
    In_any (in_pair all st x y a) r.0 found (marked_In found r.0 (finds.all_near a r.0 x y m h.1 h.0)) r.1))

-- two halves of the moved
pub turned_halves : (all : List Showing) (st : Standings) (moved front back : List ℕ) (n : ℕ) (old mid new : List Area) → front ≡ take n moved → back ≡ drop n moved
    → Gathers (in_turned all st front) old mid → Gathers (in_turned all st back) mid new → Gathers (in_turned all st moved) old new
turned_halves all st moved front back n old mid new f b one two =
    gathers_both (in_turned all st front) (in_turned all st back) (in_turned all st moved) old mid new one two
    (λ x y. sym (list_any-append (λ a. any_below (in_pair all st x y a) (length all)) front back) ∙ ap (λ places. in_turned all st places x y) (ap₂ ◌++◌ f b ∙ take-append-drop n moved))

pub marked_halves : (moved front back : List ℕ) (n place : ℕ) → front ≡ take n moved → back ≡ drop n moved → (is_marked front place || is_marked back place) ≡ is_marked moved place
marked_halves moved front back n place f b = sym (list_any-append (λ j. j == place) front back) ∙ ap (λ places. is_marked places place) (ap₂ ◌++◌ f b ∙ take-append-drop n moved)
