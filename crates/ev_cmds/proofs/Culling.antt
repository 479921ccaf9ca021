-- What lies below a record that replaces everything may be left out.
use Rattle.std.proofs.Common.{ℕ, ◌≡◌, ◌+◌, ◌<◌, Bool, true, false, not, ◌&&◌, ◌||◌, ℤ, pos, List, [], ◌∷◌, ◌++◌, map, length, Option, refl, sym, ap, ap₂, ◌∙◌, subst, ⊎_elim, arith, append-nil, zero-add}
use Rattle.std.specs.Prelude.{if◌then◌else◌}
use Rattle.std.specs.List.{AllByRecursion}
use Rattle.std.proofs.lemmas.Int.{ints}
use Rattle.std.proofs.lemmas.List.{map-append}
use Rattle.std.proofs.lemmas.Bool.{or_cases, and_parts, cases_Bool}
use Rattle.ev_argb.specs.Argb.{Argb, IsPremultiplied}
use Rattle.ev_geom.specs.Area.{holds, is_within, nowhere}
use Rattle.ev_model.specs.Look.{Look, look_of}
use Rattle.ev_model.specs.Paint.{put_sample, sample_at, painted}
use Rattle.ev_model.specs.declared.scene.Record.{Record}
use Rattle.ev_model.specs.declared.object.Op.{Op}
use Rattle.ev_model.specs.declared.object.Op.TheVariants.{Copy}
use Rattle.ev_cmds.specs.Opaque.{replaces, opaque_area, is_hidden}
use Rattle.ev_cmds.specs.Masks.{has_bit, Cuts, AddsParts}
use Rattle.ev_cmds.specs.Patches.{has_place, one, times}
use Rattle.ev_cmds.specs.Sheets.{command_of, put, put_all, painted_looks, layers, patches_of, op_of, IsSolid, IsPaintable, Shows, Sees, StillShows}
use Rattle.ev_cmds.specs.declared.patch.Patch.{Patch}
use Rattle.ev_cmds.specs.declared.sheet.Command.{Command}
use Rattle.ev_cmds.proofs.Placing.{times-append}

put-append : (cs ds : List Command) (left top x y : ℕ) (value : Argb) → put_all (cs ++ ds) left top x y value ≡ put_all cs left top x y (put_all ds left top x y value)
unfolding put_all
put-append [] ds left top x y value = refl
put-append (c ∷ cs) ds left top x y value = ap (put c left top x y) (put-append cs ds left top x y value)

not_one : (b : Bool) (n : ℕ) → one b + n ≡ 0 → (b ≡ false) × (n ≡ 0)
not_one true n h = absurd (omega arith)
not_one false n h = (refl, omega arith)

put_out : (c : Command) (left top x y : ℕ) (value : Argb) → has_place c.patch x y ≡ false → put c left top x y value ≡ value
put_out c left top x y value h = ap (λ (b : Bool). if b then put_sample (op_of c) c.color (sample_at c.object.value (left + x) (top + y)) value else value) h

put_in : (c : Command) (left top x y : ℕ) (value : Argb) → has_place c.patch x y ≡ true → put c left top x y value ≡ put_sample (op_of c) c.color (sample_at c.object.value (left + x) (top + y)) value
put_in c left top x y value h = ap (λ (b : Bool). if b then put_sample (op_of c) c.color (sample_at c.object.value (left + x) (top + y)) value else value) h

put_none : (r : Record) (t : Bool) (ps : List Patch) (left top x y : ℕ) (value : Argb) → times ps x y ≡ 0 → put_all (map (command_of r t) ps) left top x y value ≡ value
unfolding put_all
put_none r t [] left top x y value h = refl
put_none r t (p ∷ ps) left top x y value h =
    let both : (has_place p x y ≡ false) × (times ps x y ≡ 0) = not_one (has_place p x y) (times ps x y) h in
    put_out (command_of r t p) left top x y (put_all (map (command_of r t) ps) left top x y value) both.0 ∙ put_none r t ps left top x y value both.1

put_once : (r : Record) (t : Bool) (ps : List Patch) (left top x y : ℕ) (value : Argb) → times ps x y ≡ 1 → put_all (map (command_of r t) ps) left top x y value ≡ put_sample (if t then Copy else r.object.value.op) r.color (sample_at r.object.value (left + x) (top + y)) value
unfolding put_all
put_once r t [] left top x y value h = absurd (omega arith)
put_once r t (p ∷ ps) left top x y value h =
    ⊎_elim
    (λ (e : has_place p x y ≡ true). let rest : times ps x y ≡ 0 = first_only (has_place p x y) (times ps x y) e h in
    put_in (command_of r t p) left top x y (put_all (map (command_of r t) ps) left top x y value) e
    ∙ ap (put_sample (if t then Copy else r.object.value.op) r.color (sample_at r.object.value (left + x) (top + y))) (put_none r t ps left top x y value rest))
    (λ (f : has_place p x y ≡ false). let rest : times ps x y ≡ 1 = later_only (has_place p x y) (times ps x y) f h in
    put_out (command_of r t p) left top x y (put_all (map (command_of r t) ps) left top x y value) f ∙ put_once r t ps left top x y value rest)
    (cases_Bool (has_place p x y))
  where
    first_only : (b : Bool) (n : ℕ) → b ≡ true → one b + n ≡ 1 → n ≡ 0
    first_only true n t h = omega arith
    first_only false n t h = absurd (cc)

    later_only : (b : Bool) (n : ℕ) → b ≡ false → one b + n ≡ 1 → n ≡ 1
    later_only true n t h = absurd (cc)
    later_only false n t h = omega arith

pub no_holds : (x y : ℤ) → holds nowhere x y ≡ false
no_holds x y = out x (is_within (pos 0) (pos 0) y) where
  out : (at : ℤ) (b : Bool) → (is_within (pos 0) (pos 0) at && b) ≡ false
  out at b = grind (arith, ints)

found_same : (op : Op) (color : Argb) (found : Option Argb) (a b : Argb) → IsSolid op color found → IsPremultiplied a → IsPremultiplied b → put_sample op color found a ≡ put_sample op color found b
found_same op color found a b s p q = rw s.is (s.hides a p ∙ sym (s.hides b q))

covered : (l : Look) (x y : ℕ) → (h : Bool) → replaces l ≡ h → holds (opaque_area l) (pos x) (pos y) ≡ true → holds l.area (pos x) (pos y) ≡ true
covered l x y true e h = ap (λ (b : Bool). holds (if b then l.area else nowhere) (pos x) (pos y)) (sym e) ∙ h
covered l x y false e h = absurd (let f = ap (λ (b : Bool). holds (if b then l.area else nowhere) (pos x) (pos y)) (sym e) ∙ h in let g = no_holds (pos x) (pos y) in cc)

solid_same : (l : Look) (x y : ℕ) (a b : Argb) → IsPaintable l → IsPremultiplied a → IsPremultiplied b → holds (opaque_area l) (pos x) (pos y) ≡ true → painted l x y a ≡ painted l x y b
solid_same l x y a b paintable p q h =
    rw (covered l x y (replaces l) refl h) (found_same l.object.op l.color (sample_at l.object x y) a b (paintable.solid x y h) p q)

-- the law: below what replaces everything, it doesn't matter what was there
pub hidden_same : (looks : List Look) (x y : ℕ) (a b : Argb) → AllByRecursion IsPaintable looks → is_hidden looks x y ≡ true → IsPremultiplied a → IsPremultiplied b → painted_looks looks x y a ≡ painted_looks looks x y b
hidden_same [] x y a b all h p q = absurd (cc)
hidden_same (l ∷ looks) x y a b all h p q =
    ⊎_elim
    (λ (here : holds (opaque_area l) (pos x) (pos y) ≡ true). ap (painted_looks looks x y) (solid_same l x y a b all.0 p q here))
    (λ (above : is_hidden looks x y ≡ true). hidden_same looks x y (painted l x y a) (painted l x y b) all.1 above (all.0.keeps x y a p) (all.0.keeps x y b q))
    (or_cases _ _ h)

pub covers : (l : Look) (hides : Bool) (x y : ℕ) → hides ≡ replaces l → holds (opaque_area l) (pos x) (pos y) ≡ (hides && holds l.area (pos x) (pos y))
covers l true x y e = ap (λ (b : Bool). holds (if b then l.area else nowhere) (pos x) (pos y)) (sym e)
covers l false x y e = ap (λ (b : Bool). holds (if b then l.area else nowhere) (pos x) (pos y)) (sym e) ∙ no_holds (pos x) (pos y)

or_none : (b : Bool) → (b || false) ≡ b
or_none true = refl
or_none false = refl

and_none : (b : Bool) → (b && false) ≡ false
and_none true = refl
and_none false = refl

and_all : (b : Bool) → (b && true) ≡ b
and_all true = refl
and_all false = refl

hidden_or : (b : Bool) → false ≡ not (b || true)
hidden_or true = refl
hidden_or false = refl

cut_step : (w a h b n p t : Bool) → b ≡ (w && not h) → (w ≡ true → p ≡ a) → n ≡ (b && not (t && p)) → n ≡ (w && not ((t && a) || h))
cut_step true a true b n p t e f g = g ∙ ap (λ (c : Bool). c && not (t && p)) e ∙ hidden_or (t && a)
cut_step true a false b n p t e f g = g ∙ ap₂ (λ (c d : Bool). c && not (t && d)) e (f refl) ∙ ap not (sym (or_none (t && a)))
cut_step false a h b n p t e f g = g ∙ ap (λ (c : Bool). c && not (t && p)) e

part_step : (w a h b p : Bool) → b ≡ (w && not h) → (w ≡ true → p ≡ a) → one (b && p) ≡ one (w && (a && not h))
part_step true a true b p e f = ap (λ (c : Bool). one (c && p)) e ∙ sym (ap one (and_none a))
part_step true a false b p e f = ap (λ (c : Bool). one (c && p)) e ∙ ap one (f refl) ∙ sym (ap one (and_all a))
part_step false a h b p e f = ap (λ (c : Bool). one (c && p)) e

patches_back : (r : Record) (t : Bool) (ps : List Patch) → patches_of (map (command_of r t) ps) ≡ ps
patches_back r t [] = refl
patches_back r t (p ∷ ps) = ap (λ (qs : List Patch). p ∷ qs) (patches_back r t ps)

copy_same : (op : Op) (color : Argb) (found : Option Argb) (value : Argb) → IsSolid op color found → IsPremultiplied value → put_sample Copy color found value ≡ put_sample op color found value
copy_same op color found value s p = rw s.is (sym (s.hides value p))

copy_any : (op : Op) (color : Argb) (found : Option Argb) (a b : Argb) → IsSolid op color found → put_sample Copy color found a ≡ put_sample Copy color found b
copy_any op color found a b s = rw s.is refl

put_copied : (r : Record) (t : Bool) (x y : ℕ) (value : Argb) → IsPaintable (look_of r) → IsPremultiplied value → t ≡ replaces (look_of r) → holds r.area (pos x) (pos y) ≡ true
    → put_sample (if t then Copy else r.object.value.op) r.color (sample_at r.object.value x y) value ≡ put_sample r.object.value.op r.color (sample_at r.object.value x y) value
put_copied r true x y value paintable good t a = copy_same r.object.value.op r.color (sample_at r.object.value x y) value (paintable.solid x y (covers (look_of r) true x y t ∙ a)) good
put_copied r false x y value paintable good t a = refl

put_any : (r : Record) (t : Bool) (x y : ℕ) (a b : Argb) → IsPaintable (look_of r) → t ≡ true → holds (opaque_area (look_of r)) (pos x) (pos y) ≡ true
    → put_sample (if t then Copy else r.object.value.op) r.color (sample_at r.object.value x y) a ≡ put_sample (if t then Copy else r.object.value.op) r.color (sample_at r.object.value x y) b
put_any r true x y a b paintable t h = copy_any r.object.value.op r.color (sample_at r.object.value x y) a b (paintable.solid x y h)
put_any r false x y a b paintable t h = absurd (cc)

hidden_part : (w a h : Bool) → h ≡ true → one (w && (a && not h)) ≡ 0
hidden_part true true h e = ap (λ (b : Bool). one (not b)) e
hidden_part true false h e = refl
hidden_part false a h e = refl

missed_part : (w a h : Bool) → a ≡ false → one (w && (a && not h)) ≡ 0
missed_part true a h e = ap (λ (b : Bool). one (b && not h)) e
missed_part false a h e = refl

shown_part : (w a h : Bool) → w ≡ true → a ≡ true → h ≡ false → one (w && (a && not h)) ≡ 1
shown_part w a h e f g = ap₂ (λ (b c : Bool). one (b && (c && not h))) e f ∙ ap (λ (b : Bool). one (not b)) g

-- the places of an area, or none
pub record CutsWhere (hides : Bool) (area : Patch) (bare new_bare : List ℕ) : Type 0 where
  pub places : (x y : ℕ) → x < 64 → y < 64 → has_bit new_bare x y ≡ (has_bit bare x y && not (hides && has_place area x y))

-- patches that hold the bare places of an area, each of them once
pub record ArePartsOf (bare : List ℕ) (area : Patch) (parts : List Patch) : Type 0 where
  pub places : (x y : ℕ) → x < 64 → y < 64 → times parts x y ≡ one (has_bit bare x y && has_place area x y)

pub took : (work : ℤ → ℤ → Bool) (r : Record) (above : List Look) (left top : ℕ) (bare new_bare : List ℕ) (parts : List Patch) (commands : List Command) (area : Patch) (hides : Bool)
    → IsPaintable (look_of r) → AllByRecursion IsPaintable above → hides ≡ replaces (look_of r) → Sees work r.area left top area → ArePartsOf bare area parts → CutsWhere hides area bare new_bare
    → Shows work above left top bare commands → Shows work (look_of r ∷ above) left top new_bare (commands ++ map (command_of r hides) parts)
unfolding layers
took work r above left top bare new_bare parts commands area hides paintable all is sees found cut shows =
    record {
      bare_places = λ x y right bottom.
          cut_step (work (pos (left + x)) (pos (top + y))) (holds r.area (pos (left + x)) (pos (top + y))) (is_hidden above (left + x) (top + y)) (has_bit bare x y) (has_bit new_bare x y) (has_place area x y) hides
          (shows.bare_places x y right bottom) (sees.places x y right bottom) (cut.places x y right bottom)
          ∙ ap (λ (b : Bool). work (pos (left + x)) (pos (top + y)) && not (b || is_hidden above (left + x) (top + y))) (sym (covers (look_of r) hides (left + x) (top + y) is));
      inside = λ x y value right bottom w good.
          put-append commands (map (command_of r hides) parts) left top x y value
          ∙ inside_at x y value right bottom w good (is_hidden above (left + x) (top + y)) refl;
      hidden = λ x y a b right bottom w h. hidden_at x y a b right bottom w (is_hidden above (left + x) (top + y)) refl h;
      outside = λ x y value right bottom w.
          put-append commands (map (command_of r hides) parts) left top x y value
          ∙ ap (put_all commands left top x y) (put_none r hides parts left top x y value (none_outside x y right bottom w))
          ∙ shows.outside x y value right bottom w;
      command_places = λ x y right bottom.
          ap (λ (ps : List Patch). times ps x y) (map-append (λ (c : Command). c.patch) commands (map (command_of r hides) parts) ∙ ap (λ (ps : List Patch). patches_of commands ++ ps) (patches_back r hides parts))
          ∙ times-append (patches_of commands) parts x y
          ∙ ap₂ (λ (m n : ℕ). m + n) (shows.command_places x y right bottom) (part_at x y right bottom)
          ∙ joined (work (pos (left + x)) (pos (top + y))) (holds r.area (pos (left + x)) (pos (top + y)) && not (is_hidden above (left + x) (top + y))) (layers above (left + x) (top + y));
    }
  where
    part_at : (x y : ℕ) → x < 64 → y < 64 → times parts x y ≡ one (work (pos (left + x)) (pos (top + y)) && (holds r.area (pos (left + x)) (pos (top + y)) && not (is_hidden above (left + x) (top + y))))
    part_at x y right bottom = found.places x y right bottom ∙ part_step _ _ _ (has_bit bare x y) (has_place area x y) (shows.bare_places x y right bottom) (sees.places x y right bottom)

    none_outside : (x y : ℕ) → x < 64 → y < 64 → work (pos (left + x)) (pos (top + y)) ≡ false → times parts x y ≡ 0
    none_outside x y right bottom w = part_at x y right bottom ∙ ap (λ (b : Bool). one (b && (holds r.area (pos (left + x)) (pos (top + y)) && not (is_hidden above (left + x) (top + y))))) w

    joined : (w t : Bool) (n : ℕ) → (if w then n else 0) + one (w && t) ≡ (if w then one t + n else 0)
    joined true t n = omega arith
    joined false t n = refl

    hidden_at : (x y : ℕ) (a b : Argb) → x < 64 → y < 64 → work (pos (left + x)) (pos (top + y)) ≡ true → (h : Bool) → is_hidden above (left + x) (top + y) ≡ h → is_hidden (look_of r ∷ above) (left + x) (top + y) ≡ true
        → put_all (commands ++ map (command_of r hides) parts) left top x y a ≡ put_all (commands ++ map (command_of r hides) parts) left top x y b
    hidden_at x y a b right bottom w true e here =
        let none : times parts x y ≡ 0 = part_at x y right bottom ∙ hidden_part _ _ _ e in
        put-append commands (map (command_of r hides) parts) left top x y a
        ∙ ap (put_all commands left top x y) (put_none r hides parts left top x y a none)
        ∙ shows.hidden x y a b right bottom w e
        ∙ sym (put-append commands (map (command_of r hides) parts) left top x y b ∙ ap (put_all commands left top x y) (put_none r hides parts left top x y b none))
    hidden_at x y a b right bottom w false e here =
        let solid : holds (opaque_area (look_of r)) (pos (left + x)) (pos (top + y)) ≡ true =
        ⊎_elim (λ (h : holds (opaque_area (look_of r)) (pos (left + x)) (pos (top + y)) ≡ true). h) (λ (h : is_hidden above (left + x) (top + y) ≡ true). absurd (cc)) (or_cases _ _ here) in
        let both : (hides ≡ true) × (holds r.area (pos (left + x)) (pos (top + y)) ≡ true) = and_parts hides (holds r.area (pos (left + x)) (pos (top + y))) (sym (covers (look_of r) hides (left + x) (top + y) is) ∙ solid) in
        let once : times parts x y ≡ 1 = part_at x y right bottom ∙ shown_part _ _ _ w both.1 e in
        put-append commands (map (command_of r hides) parts) left top x y a
        ∙ ap (put_all commands left top x y) (put_once r hides parts left top x y a once ∙ put_any r hides (left + x) (top + y) a b paintable both.0 solid)
        ∙ sym (put-append commands (map (command_of r hides) parts) left top x y b ∙ ap (put_all commands left top x y) (put_once r hides parts left top x y b once))

    inside_at : (x y : ℕ) (value : Argb) → x < 64 → y < 64 → work (pos (left + x)) (pos (top + y)) ≡ true → IsPremultiplied value → (h : Bool) → is_hidden above (left + x) (top + y) ≡ h
        → put_all commands left top x y (put_all (map (command_of r hides) parts) left top x y value) ≡ painted_looks above (left + x) (top + y) (painted (look_of r) (left + x) (top + y) value)
    inside_at x y value right bottom w good true e =
        let none : times parts x y ≡ 0 = part_at x y right bottom ∙ hidden_part _ _ _ e in
        ap (put_all commands left top x y) (put_none r hides parts left top x y value none)
        ∙ shows.inside x y value right bottom w good
        ∙ hidden_same above (left + x) (top + y) value (painted (look_of r) (left + x) (top + y) value) all e good (paintable.keeps (left + x) (top + y) value good)
    inside_at x y value right bottom w good false e =
        ap (put_all commands left top x y) (placed (holds r.area (pos (left + x)) (pos (top + y))) refl)
        ∙ shows.inside x y (painted (look_of r) (left + x) (top + y) value) right bottom w (paintable.keeps (left + x) (top + y) value good)
      where
        placed : (a : Bool) → holds r.area (pos (left + x)) (pos (top + y)) ≡ a → put_all (map (command_of r hides) parts) left top x y value ≡ painted (look_of r) (left + x) (top + y) value
        placed true a =
            let once : times parts x y ≡ 1 = part_at x y right bottom ∙ shown_part _ _ _ w a e in
            put_once r hides parts left top x y value once ∙ put_copied r hides (left + x) (top + y) value paintable good is a ∙ sym (ap (λ (b : Bool). if b then put_sample r.object.value.op r.color (sample_at r.object.value (left + x) (top + y)) value else value) a)
        placed false a =
            let none : times parts x y ≡ 0 = part_at x y right bottom ∙ missed_part _ _ _ a in
            put_none r hides parts left top x y value none ∙ sym (ap (λ (b : Bool). if b then put_sample r.object.value.op r.color (sample_at r.object.value (left + x) (top + y)) value else value) a)

parts_are : (bare : List ℕ) (area : Patch) (parts : List Patch) → AddsParts bare area [] parts → ArePartsOf bare area parts
parts_are bare area parts added = record { places = λ x y right bottom. added.places x y right bottom ∙ zero-add (one (has_bit bare x y && has_place area x y)) }

cut_is : (hides : Bool) (area : Patch) (bare new_bare : List ℕ) → (hides ≡ true → Cuts area bare new_bare) → (hides ≡ false → new_bare ≡ bare) → CutsWhere hides area bare new_bare
cut_is true area bare new_bare cut same = record { places = (cut refl).places }
cut_is false area bare new_bare cut same = record { places = λ x y right bottom. ap (λ (rows : List ℕ). has_bit rows x y) (same refl) ∙ sym (and_all (has_bit bare x y)) }

pub still_shown : (r : Record) (hides : Bool) (area : Patch) (bare new_bare : List ℕ) (parts : List Patch) (commands new_commands : List Command) (old : List Patch) → hides ≡ replaces (look_of r) → AddsParts bare area old parts → old ≡ []
    → (hides ≡ true → Cuts area bare new_bare) → (hides ≡ false → new_bare ≡ bare) → new_commands ≡ commands ++ map (command_of r hides) parts
    → StillShows r area bare commands new_bare new_commands
still_shown r hides area bare new_bare parts commands new_commands old is added none cut same e = record {
  more = λ work above left top paintable all sees shows.
      subst (λ (cs : List Command). Shows work (look_of r ∷ above) left top new_bare cs) (sym e)
      (took work r above left top bare new_bare parts commands area hides paintable all is sees (parts_are bare area parts (subst (λ (ps : List Patch). AddsParts bare area ps parts) none added)) (cut_is hides area bare new_bare cut same) shows);
}

pub empty_list : (ps : List Patch) → length ps ≡ 0 → ps ≡ []
empty_list [] e = refl
empty_list (p ∷ ps) e = absurd (omega arith)

-- where no place of the area is bare, nothing is added
pub nothing_taken : (r : Record) (area : Patch) (bare : List ℕ) (commands : List Command) (old new : List Patch) → AddsParts bare area old new → old ≡ [] → new ≡ [] → StillShows r area bare commands bare commands
nothing_taken r area bare commands old new added none still = record {
  more = λ work above left top paintable all sees shows.
      subst (λ (cs : List Command). Shows work (look_of r ∷ above) left top bare cs) (append-nil commands)
      (took work r above left top bare bare [] commands area (replaces (look_of r)) paintable all refl sees (parts_are bare area [] empty) (none_cut (replaces (look_of r))) shows);
}
  where
    empty : AddsParts bare area [] []
    empty = subst (λ (ps : List Patch). AddsParts bare area [] ps) still (subst (λ (ps : List Patch). AddsParts bare area ps new) none added)

    kept : (b p : Bool) → 0 ≡ one (b && p) → b ≡ (b && not p)
    kept true true e = absurd (omega arith)
    kept true false e = refl
    kept false p e = refl

    none_cut : (hides : Bool) → CutsWhere hides area bare bare
    none_cut true = record { places = λ x y right bottom. kept (has_bit bare x y) (has_place area x y) ((parts_are bare area [] empty).places x y right bottom) }
    none_cut false = record { places = λ x y right bottom. sym (and_all (has_bit bare x y)) }
