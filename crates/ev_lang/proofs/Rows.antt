-- Rows of pixels in the log.
use Rattle.std.proofs.Common.{◌≡◌, ℕ, zero, suc, ◌+◌, ◌<◌, ◌≤◌, Option, List, [], ◌∷◌, ◌++◌, length, get_or, take, drop, sym, ap, subst, refl, ◌∙◌, append_assoc, arith, add-one, flat_map}
use Rattle.std.proofs.lemmas.List.{take_more, take_all, append-nil, take-append-drop}
use Rattle.std.proofs.lemmas.Grind.{flat_map-append}
use Rattle.std.proofs.lemmas.Bool.Decides.{nat_tests}
use Rattle.ev_argb.specs.Argb.{Argb}
use Rattle.ev_port.specs.Told.{GrowsBy, GrowsPart, grows_on, grows_by_none, part_of_front, whole_then_part}
use Rattle.ev_model.specs.Text.{place_text, places_text}
use Rattle.ev_lang.specs.ReplyParts.{column_text, IsLaid}

-- all columns but the first have a space
later : (x : ℕ) (p : Option Argb) → 0 < x → column_text x p ≡ 32 ∷ place_text p
later x p above = grind (arith, nat_tests)

-- one more pixel of a row
pub pixels_more : (ps : List (Option Argb)) (i : ℕ) (d : Option Argb) → i < length ps → places_text (take (i + 1) ps) ≡ places_text (take i ps) ++ column_text i (get_or ps i d)
pixels_more [] i d below = absurd (omega arith)
pixels_more (p ∷ ps) zero d below = append-nil (place_text p)
pixels_more (p ∷ ps) (suc i) d below =
    let within : i < length ps = omega arith in
    let spaced : Option Argb → List ℕ = λ q. 32 ∷ place_text q in
    let last = get_or ps i d in
    let front = flat_map spaced (take i ps) in
    let here : suc i ≡ i + 1 = omega arith in
    let step : flat_map spaced (take (suc i) ps) ≡ front ++ column_text (suc i) last =
    ap (λ k. flat_map spaced (take k ps)) here
    ∙ ap (flat_map spaced) (take_more ps i d within)
    ∙ flat_map-append spaced (take i ps) (last ∷ [])
    ∙ ap (λ t. front ++ t) (append-nil (spaced last) ∙ sym (later (suc i) last (omega arith))) in
    rw add-one (ap (λ t. place_text p ++ t) step ∙ sym (append_assoc (place_text p) front (column_text (suc i) last)))

-- the first pixels of a row begin its text
pub pixels_front : (ps : List (Option Argb)) (i : ℕ) (end : List ℕ) → (rest : List ℕ) × (places_text ps ++ end ≡ places_text (take i ps) ++ rest)
pixels_front ps zero end = (places_text ps ++ end, refl)
pixels_front [] (suc i) end = (end, refl)
pixels_front (p ∷ ps) (suc i) end =
    let spaced : Option Argb → List ℕ = λ q. 32 ∷ place_text q in
    let front = flat_map spaced (take i ps) in
    let back = flat_map spaced (drop i ps) in
    let parts : flat_map spaced ps ≡ front ++ back = ap (flat_map spaced) (sym (take-append-drop i ps)) ∙ flat_map-append spaced (take i ps) (drop i ps) in
    (back ++ end, ap (λ t. (place_text p ++ t) ++ end) parts ∙ ap (λ t. t ++ end) (sym (append_assoc (place_text p) front back)) ∙ append_assoc (place_text p ++ front) back end)

-- nothing is written, and nothing is laid out
pub none_laid : (told : Option (List ℕ)) → IsLaid told told [] []
none_laid told = record { sent = []; grows = grows_by_none told; split = refl }

-- all that was laid out was written
pub all_sent : {a b : Option (List ℕ)} {draft : List ℕ} → GrowsBy a b draft → IsLaid a b [] draft
all_sent {draft = draft} grows = record { sent = draft; grows = grows; split = sym (append-nil draft) }

-- part of what was laid out is written, and more is laid out
pub laid_on : {a b c : Option (List ℕ)} {draft next text : List ℕ} (more : List ℕ) → IsLaid a b draft text → IsLaid b c next draft → IsLaid a c (next ++ more) (text ++ more)
laid_on {next = next} more first second = record {
  sent = first.sent ++ second.sent;
  grows = grows_on first.grows second.grows;
  split = ap (λ t. t ++ more) (first.split ∙ ap (λ t. first.sent ++ t) second.split ∙ sym (append_assoc first.sent second.sent next))
      ∙ append_assoc (first.sent ++ second.sent) next more;
}

-- one more pixel of a row is laid out
pub row_on : {a b c : Option (List ℕ)} {draft next : List ℕ} (ps : List (Option Argb)) (i : ℕ) (p : Option Argb) (new : List ℕ) → i < length ps → p ≡ get_or ps i p → new ≡ next ++ column_text i p → IsLaid a b draft (places_text (take i ps)) → IsLaid b c next draft → IsLaid a c new (places_text (take (i + 1) ps))
row_on {a = a} {c = c} {next = next} ps i p new below is more first second =
    let laid = laid_on (column_text i p) first second in
    let text : places_text (take i ps) ++ column_text i p ≡ places_text (take (i + 1) ps) = ap (λ q. places_text (take i ps) ++ column_text i q) is ∙ sym (pixels_more ps i p below) in
    subst (λ draft. IsLaid a c draft (places_text (take (i + 1) ps))) (sym more) (subst (λ all. IsLaid a c (next ++ column_text i p) all) text laid)

-- a whole row is laid out, and of it and its end a front is written
pub row_end : {a b c : Option (List ℕ)} {draft : List ℕ} (ps : List (Option Argb)) (i : ℕ) (end piece : List ℕ) → length ps ≤ i → piece ≡ draft ++ end → IsLaid a b draft (places_text (take i ps)) → GrowsPart b c piece → GrowsPart a c (places_text ps ++ end)
row_end {a = a} {b = b} {c = c} {draft = draft} ps i end piece all is laid part =
    let whole : places_text ps ≡ laid.sent ++ draft = ap places_text (sym (take_all i ps all)) ∙ laid.split in
    let joined : laid.sent ++ piece ≡ places_text ps ++ end = ap (λ t. laid.sent ++ t) is ∙ sym (append_assoc laid.sent draft end) ∙ ap (λ t. t ++ end) (sym whole) in
    subst (λ all. GrowsPart a c all) joined (whole_then_part laid.grows part)

-- a row whose first pixels are laid out is cut off there
pub row_cut : {a b c : Option (List ℕ)} {draft : List ℕ} (ps : List (Option Argb)) (i : ℕ) (end : List ℕ) → IsLaid a b draft (places_text (take i ps)) → GrowsPart b c draft → GrowsPart a c (places_text ps ++ end)
row_cut {a = a} {c = c} {draft = draft} ps i end laid part =
    let front : GrowsPart a c (places_text (take i ps)) = subst (λ all. GrowsPart a c all) (sym laid.split) (whole_then_part laid.grows part) in
    let behind = pixels_front ps i end in
    subst (λ all. GrowsPart a c all) (sym behind.1) (part_of_front behind.0 front)
