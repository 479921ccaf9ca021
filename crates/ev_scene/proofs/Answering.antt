-- What an edit of one object's look answers, and what stands after it.
use Rattle.std.proofs.Common.{◌≡◌, Bool, true, false, not, List, ℕ, Option, Some, None, Result, is_some, OnOk, IfErr, IfSome, Ok, Err, if◌then◌else◌, sym, ap, ◌∙◌}
use Rattle.std.specs.Option.{option_map_or}
use Rattle.std.proofs.lemmas.Option.{none-some, same_Some}
use Rattle.ev_model.specs.declared.object.Object.{Object}
use Rattle.ev_model.specs.declared.refusal.Refusal.{Refusal}
use Rattle.ev_model.specs.declared.refusal.Refusal.TheVariants as refusal
use Rattle.ev_scene.specs.Board.{Board, named}
use Rattle.ev_scene.specs.Edits.{is_target, look_verdict, known, with_named, changed, Refuses, Answers}
use Rattle.ev_scene.specs.declared.change.Change.{Change}
use Rattle.ev_scene.specs.declared.change.Target.{Target}

module _ (b : Board) (name : List ℕ) (target : Target) where
  abbrev Done : Option Change → Board → Type 0
  Done change b' = (known b name (look_verdict target (is_some change)) ≡ None) × IfSome change (λ c. b' ≡ with_named b name (changed c b))

  abbrev Left : Option Change → Board → Refusal → Type 0
  Left change b' cause = Refuses (known b name (look_verdict target (is_some change))) cause × (b' ≡ b)

  -- a change, which stands for numbers in range
  pub change_answers : {T : Type 0} (in_range : Bool) (c : Change) (change : Option Change) (result : Result T Refusal) (b' : Board) → change ≡ (if in_range then Some c else None)
      → OnOk result (Done change b') → IfErr result (Left change b') → Answers (known b name (look_verdict target in_range)) b (with_named b name (changed c b)) result b'
  change_answers true c None result b' e ok err = absurd (none-some c e)
  change_answers true c (Some d) (Ok done) b' e ok err = (ok.0, ok.1 ∙ ap (λ c. with_named b name (changed c b)) (same_Some _ _ e))
  change_answers true c (Some d) (Err cause) b' e ok err = err
  change_answers false c (Some d) result b' e ok err = absurd (none-some d (sym e))
  change_answers false c None (Ok done) b' e ok err = absurd (out (named b.objects name) ok.0) where
    never : (has : Bool) → (if not has then Some refusal.Kind else Some refusal.Range) ≡ None → ⊥
    never true h = none-some refusal.Range (sym h)
    never false h = none-some refusal.Kind (sym h)

    out : (found : Option Object) → option_map_or (look_verdict target false) found (Some refusal.Unknown) ≡ None → ⊥
    out None h = none-some refusal.Unknown (sym h)
    out (Some o) h = never (is_target target o) h
  change_answers false c None (Err cause) b' e ok err = err
