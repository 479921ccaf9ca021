-- What an object leaves to those below it, and below which objects nothing stands.
use Rattle.std.proofs.Common.{◌≡◌, ◌⊎◌, ℕ, ◌+◌, ◌<◌, Bool, true, false, ◌&&◌, ◌==◌, int_eq, Option, Some, None, option_map, inl, inr, refl, sym, ap, ◌∙◌, subst, arith}
use Rattle.std.specs.List.{list_any}
use Rattle.std.specs.FinMap.{get}
use Rattle.std.specs.Option.{option_and_then, option_or}
use Rattle.std.proofs.Math.Bool.{true≢false}
use Rattle.std.proofs.lemmas.Bool.{and_parts, eqb-true}
use Rattle.std.proofs.lemmas.Bool.Decides.{Decides-int_eq, eqb_tells, leb_tells}
use Rattle.std.proofs.lemmas.Option.{same_Some}
use Rattle.ev_argb.specs.Argb.{Argb}
use Rattle.ev_geom.specs.Area.{Area}
use Rattle.ev_state.specs.Held.{Held}
use Rattle.ev_model.specs.Content.{kind_of}
use Rattle.ev_model.specs.Up.{is_smart, is_smart_content, is_clipped_by}
use Rattle.ev_model.specs.declared.content.Content.{Content}
use Rattle.ev_model.specs.declared.content.Content.TheVariants as content
use Rattle.ev_model.specs.declared.content.Kind.TheVariants.{Smart}
use Rattle.ev_model.specs.declared.object.Object.{Object}
use Rattle.ev_slots.specs.Seats.{HavePlaces}
use Rattle.ev_links.specs.Ties.{Tie, Ties, parent_at, kind_at, IsSound}
use Rattle.ev_track.specs.Tracks.{Tracks, slots_in}
use Rattle.ev_looks.specs.Grounds.{tie_of, AreTied}
use Rattle.ev_looks.specs.PlacedStates.{state_at, objects_in, states_now}
use Rattle.ev_looks.specs.Refreshes.{IsStill, AreStill, HasNoneBelow}
use Rattle.ev_looks.proofs.Ending.{ties_of_now}
use Rattle.ev_looks.proofs.Placing.{found_in, sat, passes, is_clipper}

smart_kind : (c : Content) → kind_of c ≡ Smart → is_smart_content c ≡ true
smart_kind content.Rect is = cc
smart_kind content.Smart is = refl
smart_kind (content.Image part) is = cc
smart_kind (content.Text part) is = cc

-- nothing stands directly below an object that isn't smart and clips nobody
pub none_below : (t : Tracks Object) (ties : Ties) → HavePlaces (slots_in t) → AreTied t ties → IsSound (get ties) → (place : ℕ) (s : Held Object) → state_at (states_now t) place ≡ Some s
    → is_smart s.value ≡ false → list_any (is_clipped_by s.value.id) (objects_in (states_now t)) ≡ false → HasNoneBelow (objects_in (states_now t)) s.value.id
none_below t ties laws tied sound place s at plain none u there over_is = go u.clipper refl over_is where
  clipped : (c : ℕ) → u.clipper ≡ Some c → Some c ≡ Some s.value.id → ⊥
  clipped c is same =
      let f = found_in (states_now t) u.id u there in
      true≢false (sym (passes (is_clipped_by s.value.id) (states_now t) f.place f.state f.at (is_clipper s.value.id f.state.value (ap (λ (o : Object). o.clipper) f.is ∙ is ∙ same))) ∙ none)

  inside : u.parent ≡ Some s.value.id → ⊥
  inside is =
      let parent : parent_at (get ties) u.id ≡ Some s.value.id = ap (option_and_then (λ (tie : Tie). tie.parent)) (ties_of_now t ties laws tied sound u.id ∙ ap (option_map tie_of) there) ∙ is in
      let own : kind_at (get ties) s.value.id ≡ Some (kind_of s.value.content) =
      ap (option_and_then (λ (tie : Tie). Some tie.kind)) (tied.tied s.value.id ∙ ap (option_map (λ (s : Held Object). tie_of s.value)) (sat t ties laws tied place s at).there) in
      true≢false (sym (smart_kind s.value.content (same_Some _ _ (sym own ∙ sound.parents u.id s.value.id parent))) ∙ plain)

  go : (c : Option ℕ) → u.clipper ≡ c → option_or c u.parent ≡ Some s.value.id → ⊥
  go (Some c) is same = clipped c is same
  go None is parent = inside parent

and_4 : (a b c d : Bool) → (a && b && c && d) ≡ true → (a ≡ true) × (b ≡ true) × (c ≡ true) × (d ≡ true)
and_4 a b c d e = let r = and_parts (a && b && c) d e in let s = and_parts (a && b) c r.0 in let t = and_parts a b s.0 in (t.0, t.1, s.1, r.1)

-- what the test for equal rectangles says
pub rect_is : (a b : Area) → (int_eq a.x b.x && (int_eq a.y b.y && (int_eq a.w b.w && int_eq a.h b.h))) ≡ true → a ≡ b
rect_is a b e =
    let r = and_parts (int_eq a.x b.x) (int_eq a.y b.y && (int_eq a.w b.w && int_eq a.h b.h)) e in
    let s = and_parts (int_eq a.y b.y) (int_eq a.w b.w && int_eq a.h b.h) r.1 in
    let t = and_parts (int_eq a.w b.w) (int_eq a.h b.h) s.1 in
    let x = (Decides-int_eq a.x b.x).0 r.0 in let y = (Decides-int_eq a.y b.y).0 s.0 in let w = (Decides-int_eq a.w b.w).0 t.0 in let h = (Decides-int_eq a.h b.h).0 t.1 in
    λ i. record { x = x i; y = y i; w = w i; h = h i }

-- what the test for equal colours says
pub color_is : (p q : Argb) → (p.a == q.a && p.r == q.r && p.g == q.g && p.b == q.b) ≡ true → p ≡ q
color_is p q e =
    let t = and_4 (p.a == q.a) (p.r == q.r) (p.g == q.g) (p.b == q.b) e in
    let a = eqb-true p.a q.a t.0 in let r = eqb-true p.r q.r t.1 in let g = eqb-true p.g q.g t.2 in let b = eqb-true p.b q.b t.3 in
    λ i. record { a = a i; r = r i; g = g i; b = b i }

-- one place more, before which nothing changed
pub passed : (P : ℕ → Type 0) (t : Tracks Object) (from place : ℕ) → AreStill t from place → ((p : ℕ) → p < from → IsStill t p ⊎ P p) → P place → (p : ℕ) → p < place + 1 → IsStill t p ⊎ P p
passed P t from place still done here p low = elim (eqb_tells p place) [
  | inl same ↦ inr (subst P (sym same.1) here)
  | inr differ ↦ elim (leb_tells from p) [
    | inl high ↦ inl (still p high.1 (let apart = differ.1 in omega (arith, low, apart)))
    | inr before ↦ done p before.1
  ]
]

-- the last places, before which nothing changed
pub passed_all : (P : ℕ → Type 0) (t : Tracks Object) (from len : ℕ) → AreStill t from len → ((p : ℕ) → p < from → IsStill t p ⊎ P p) → (p : ℕ) → p < len → IsStill t p ⊎ P p
passed_all P t from len still done p low = elim (leb_tells from p) [ inl high ↦ inl (still p high.1 low) | inr before ↦ done p before.1 ]
