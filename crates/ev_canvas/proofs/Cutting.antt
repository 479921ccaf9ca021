-- The commands of a frame, by the records of its scene.
use Rattle.std.proofs.Common.{◌≡◌, ℕ, All, List, [], ◌∷◌, map, sym, ap, ◌∙◌, subst, refl}
use Rattle.std.specs.List.{AllByRecursion}
use Rattle.std.proofs.lemmas.List.Elements.{All-from_recursion, recursion_from_All}
use Rattle.ev_model.specs.Capture.{Capture, capture_of, capture_on, IsLookOn}
use Rattle.ev_model.specs.Look.{Look, look_of, looks}
use Rattle.ev_model.specs.Stage.{stage}
use Rattle.ev_model.specs.declared.scene.Record.{Record}
use Rattle.ev_scene.specs.Shot.{Shot, IsShot}
use Rattle.ev_damage.specs.Places.{HaveOwnIds}

-- the ids of what is seen of a captured scene differ
pub own_looks : (shot : Shot) → IsShot shot → HaveOwnIds (looks (stage shot.scene))
own_looks shot is = subst (λ ls. HaveOwnIds ls) is.looks (record { differ = is.apart })

-- records on the canvas of a captured scene are its looks
pub of_capture : (shot : Shot) (records : List Record) (w h : ℕ) → IsShot shot → records ≡ shot.records → w ≡ shot.scene.w → h ≡ shot.scene.h → capture_on w h records ≡ capture_of (stage shot.scene)
of_capture shot records w h is same wide high =
    ap (λ (n : ℕ). capture_on n h records) wide ∙ ap (λ (n : ℕ). capture_on shot.scene.w n records) high
    ∙ ap (λ (ls : List Look). record { w = shot.scene.w; h = shot.scene.h; looks = ls }) (ap (map look_of) same ∙ is.looks)

-- and lie on it
pub on_capture : (shot : Shot) (records : List Record) (w h : ℕ) → IsShot shot → records ≡ shot.records → w ≡ shot.scene.w → h ≡ shot.scene.h → All (λ r. IsLookOn w h (look_of r)) records
on_capture shot records w h is same wide high =
    subst (λ rs. All (λ r. IsLookOn w h (look_of r)) rs) (sym same)
    (subst (λ (n : ℕ). All (λ r. IsLookOn n h (look_of r)) shot.records) (sym wide)
    (subst (λ (n : ℕ). All (λ r. IsLookOn shot.scene.w n (look_of r)) shot.records) (sym high) is.on_canvas))

of_made : {A B : Type 0} (f : A → B) (P : B → Type 0) (xs : List A) → AllByRecursion P (map f xs) → AllByRecursion (λ x. P (f x)) xs
of_made f P [] all = tt
of_made f P (x ∷ xs) all = (all.0, of_made f P xs all.1)

-- what holds of all records holds of what they were made of
pub all_made : {A : Type 0} (f : A → Record) (P : Record → Type 0) (xs : List A) (records : List Record) → map f xs ≡ records → All P records → All (λ x. P (f x)) xs
all_made f P xs records made all = All-from_recursion (λ x. P (f x)) xs (of_made f P xs (recursion_from_All P (map f xs) (subst (λ rs. All P rs) (sym made) all)))
