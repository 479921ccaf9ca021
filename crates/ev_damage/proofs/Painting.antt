-- What is painted at a pixel is what the looks that cover it paint.
use Rattle.std.proofs.Common.{◌≡◌, ℕ, pos, Bool, true, false, cond, List, [], ◌∷◌, map, fold, refl, sym, ap, ◌∙◌, inl, inr, All}
use Rattle.std.specs.List.{AllZip}
use Rattle.ev_argb.specs.Argb.{Argb, clear}
use Rattle.ev_geom.specs.Area.{holds}
use Rattle.ev_model.specs.Capture.{Capture}
use Rattle.ev_model.specs.Look.{Look, IsSameLook}
use Rattle.ev_model.specs.Paint.{painted}
use Rattle.ev_damage.specs.Damage.{is_damaged}
use Rattle.ev_damage.specs.Places.{HaveOwnIds}
use Rattle.ev_damage.specs.Stay.{covering, IsStillLook, IsStill, HaveOneLoad, AreOneLoad}
use Rattle.ev_damage.proofs.Members.{In, filter_In, distinct_of, All_In}
use Rattle.ev_damage.proofs.Sameness.{painted_is}
use Rattle.ev_damage.proofs.Staying.{id_of, still_looks}

-- a look that does not cover a pixel leaves it
by_covering_step : (l : Look) (x y : ℕ) (value : Argb) (ls : List Look) (b : Bool) → holds l.area (pos x) (pos y) ≡ b → fold (λ v l. painted l x y v) (painted l x y value) ls ≡ fold (λ v l. painted l x y v) value (cond b (l ∷ ls) ls)
by_covering_step l x y value ls true e = refl
by_covering_step l x y value ls false e = let kept : painted l x y value ≡ value = rw e refl in ap (λ value. fold (λ v l. painted l x y v) value ls) kept

by_covering : (ls : List Look) (x y : ℕ) (value : Argb) → fold (λ v l. painted l x y v) value ls ≡ fold (λ v l. painted l x y v) value (covering ls x y)
by_covering [] x y value = refl
by_covering (l ∷ ls) x y value = by_covering ls x y (painted l x y value) ∙ by_covering_step l x y value (covering ls x y) (holds l.area (pos x) (pos y)) refl

-- equal looks in the same order paint the same
same_painted : (ls ms : List Look) (x y : ℕ) (value : Argb) → AllZip (λ l m. (id_of l ≡ id_of m) × IsSameLook l m) ls ms → ((l m : Look) → In l ls → In m ms → AreOneLoad l.object m.object) → fold (λ v l. painted l x y v) value ls ≡ fold (λ v l. painted l x y v) value ms
same_painted [] [] x y value z one = refl
same_painted [] (m ∷ ms) x y value z one = absurd z
same_painted (l ∷ ls) [] x y value z one = absurd z
same_painted (l ∷ ls) (m ∷ ms) x y value z one =
    let load = one l m (inl refl) (inl refl) in
    let here : painted l x y value ≡ painted m x y value = painted_is l m x y value z.0.1 load.image load.font in
    ap (λ value. fold (λ v l. painted l x y v) value ls) here ∙ same_painted ls ms x y (painted m x y value) z.1 (λ k j i h. one k j (inr i) (inr h))

as_still : (ls ms : List Look) → AllZip (λ l m. (id_of l ≡ id_of m) × IsSameLook l m) ls ms → AllZip IsStillLook ls ms
as_still [] [] z = tt
as_still [] (m ∷ ms) z = absurd z
as_still (l ∷ ls) [] z = absurd z
as_still (l ∷ ls) (m ∷ ms) z = (record { id = z.0.0; same = z.0.1 }, as_still ls ms z.1)

-- a pixel that is not damaged stays
pub still : (a b : Capture) (x y : ℕ) → HaveOwnIds a.looks → HaveOwnIds b.looks → HaveOneLoad a.looks b.looks → is_damaged a.looks b.looks (pos x) (pos y) ≡ false → IsStill a b x y
still a b x y p q one e =
    let covers : Look → Bool = λ l. holds l.area (pos x) (pos y) in
    let same = still_looks a.looks b.looks x y (distinct_of (map id_of a.looks) p.differ) (distinct_of (map id_of b.looks) q.differ) e in
    let P : Look → Type 0 = λ l. All (λ m. AreOneLoad l.object m.object) b.looks in
    let loads : (l m : Look) → In l (covering a.looks x y) → In m (covering b.looks x y) → AreOneLoad l.object m.object = λ l m i h.
    (let Q : Look → Type 0 = λ m. AreOneLoad l.object m.object in
    All_In Q m b.looks (All_In P l a.looks one ((filter_In covers l a.looks i).0)) ((filter_In covers m b.looks h).0)) in
    record {
      looks = as_still (covering a.looks x y) (covering b.looks x y) same;
      pixel = by_covering a.looks x y clear ∙ same_painted (covering a.looks x y) (covering b.looks x y) x y clear same loads ∙ sym (by_covering b.looks x y clear);
    }
