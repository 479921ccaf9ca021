-- Lists of two records.
use Rattle.std.proofs.Common.{◌≡◌, ◌≢◌, ℕ, zero, suc, false, true, ◌&&◌, ◌||◌, ◌==◌, [], ◌∷◌, All, AllPairs, refl, sym, ap, ap₂, ◌∙◌, arith, inl, subst, true≢false}
use Rattle.std.proofs.lemmas.Bool.{eq-eqb}
use Rattle.ev_geom.specs.Area.{Area}
use Rattle.ev_geom.specs.Bands.{FitsRegion}
use Rattle.ev_model.specs.Look.{Look, look_of, figure}
use Rattle.ev_model.specs.declared.scene.Record.{Record}
use Rattle.ev_damage.specs.Same.{same_look}
use Rattle.ev_damage.specs.Marked.{AreMarked}
use Rattle.ev_damage.specs.SmallLists.{IsSmall, AreComparable, DifferIn}
use Rattle.ev_damage.proofs.Members.{In_any}
use Rattle.ev_damage.proofs.Telling.{tells}

two_differ : (a b : ℕ) → a ≢ b → AllPairs (λ i j. i ≢ j) (a ∷ (b ∷ []))
two_differ a b h zero zero d lt within = absurd (omega (arith, lt))
two_differ a b h zero (suc zero) d lt within = h
two_differ a b h zero (suc (suc k)) d lt within = absurd (omega (arith, within))
two_differ a b h (suc i) j d lt within = absurd (omega (arith, lt, within))

two_fit : (a b : Record) → FitsRegion a.area → FitsRegion b.area → All (λ r. FitsRegion r.area) (a ∷ (b ∷ []))
two_fit a b one two zero d within = one
two_fit a b one two (suc zero) d within = two
two_fit a b one two (suc (suc k)) d within = absurd (omega (arith, within))

-- two records of different ids
pub comparable : (i j : ℕ) (a b : Record) → i ≢ j → IsSmall i a → IsSmall j b → AreComparable (a ∷ (b ∷ []))
comparable i j a b apart one two = record {
  ids = record { differ = two_differ a.id b.id (λ e. apart (sym one.id ∙ e ∙ two.id)) };
  areas = two_fit a b one.area two.area;
}

-- of two looks the first stays
one_marked : (k : ℕ) (l m l' m' : Look) → l ≡ l' → m.id ≡ k → AreMarked (k ∷ []) (l' ∷ (m' ∷ [])) (l ∷ (m ∷ []))
one_marked k l m l' m' e is = record { kept = kept } where
  kept : All (λ n. ((k == n.id) || false) ≡ false → (((l'.id == n.id) && same_look n l') || (((m'.id == n.id) && same_look n m') || false)) ≡ true) (l ∷ (m ∷ []))
  kept zero d within off = In_any (λ n. n.id == l.id && same_look l n) l' (l' ∷ (m' ∷ [])) (inl refl)
      (ap₂ ◌&&◌ (eq-eqb l'.id l.id (ap (λ n. n.id) (sym e)))
      ((tells l l').1 (record { area = ap (λ n. n.area) e; rect = ap (λ n. n.object.rect) e; op = ap (λ n. n.object.op) e; color = ap (λ n. n.color) e; figure = ap (λ n. figure n.object.content) e })))
  kept (suc zero) d within off = absurd (true≢false (sym (ap (λ t. t || false) (eq-eqb k m.id (sym is))) ∙ off))
  kept (suc (suc i)) d within off = absurd (omega (arith, within))

-- two lists of two records, of which the first is the same in both
pub differ_in : (i k : ℕ) (a b c d : Record) → i ≢ k → IsSmall i a → IsSmall k b → look_of c ≡ look_of a → IsSmall k d → DifferIn (k ∷ []) (a ∷ (b ∷ [])) (c ∷ (d ∷ []))
differ_in i k a b c d apart one two same three = record {
  old_comparable = comparable i k a b apart one two;
  new_comparable = comparable i k c d apart (record { id = ap (λ l. l.id) same ∙ one.id; area = let P : Area → Type 0 = FitsRegion in subst P (ap (λ l. l.area) (sym same)) one.area }) three;
  old_marked = one_marked k (look_of a) (look_of b) (look_of c) (look_of d) (sym same) two.id;
  new_marked = one_marked k (look_of c) (look_of d) (look_of a) (look_of b) same three.id;
}
