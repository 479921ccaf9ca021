-- One step of a walk in the order of painting.
use Rattle.std.proofs.Common.{◌≡◌, ℕ, ℤ, suc, ◌+◌, ◌<◌, List, [], ◌∷◌, ◌++◌, length, flat_map, Option, Some, sym, ◌∙◌, ap, arith}
use Rattle.std.proofs.lemmas.List.{append_assoc, append-nil}
use Rattle.ev_model.specs.Order.{in_order}
use Rattle.ev_stack.specs.LayerOrder.{ids_above, ids_from}
use Rattle.ev_groups.specs.Groups.{group, siblings}
use Rattle.ev_groups.specs.Walk.{visited, part, ahead}
use Rattle.ev_groups.specs.declared.walk.Frame.{Frame}

-- the last frame comes first
pub ahead-push : (groups : List (List (ℕ × ℤ))) (frames : List Frame) (frame : Frame) → ahead groups (frames ++ frame ∷ []) ≡ part groups frame ++ ahead groups frames
ahead-push groups [] frame = sym (append-nil (part groups frame))
ahead-push groups (one ∷ rest) frame = ap (λ ids. ids ++ part groups one) (ahead-push groups rest frame) ∙ append_assoc (part groups frame) (ahead groups rest) (part groups one)

-- a frame of all siblings in a parent
pub entered : (groups : List (List (ℕ × ℤ))) (frames : List Frame) (parent : Option ℕ) (id levels n : ℕ) → n + 1 ≡ levels → ids_from (group groups parent) (Some id) ≡ siblings groups parent
    → ahead groups (frames ++ record { parent = parent; id = id; levels = n } ∷ []) ≡ in_order levels (siblings groups) parent ++ ahead groups frames
entered groups frames parent id levels n one_more all =
    let more : suc n ≡ levels = omega arith in
    ahead-push groups frames (record { parent = parent; id = id; levels = n })
    ∙ ap (λ ids. flat_map (visited n (siblings groups)) ids ++ ahead groups frames) all
    ∙ ap (λ l. in_order l (siblings groups) parent ++ ahead groups frames) more

-- a frame of what stands above an object
pub advanced : (groups : List (List (ℕ × ℤ))) (frames : List Frame) (frame : Frame) (id : ℕ) → ids_from (group groups frame.parent) (Some id) ≡ ids_above (group groups frame.parent) frame.id
    → ahead groups (frames ++ record frame { id = id } ∷ []) ≡ flat_map (visited frame.levels (siblings groups)) (ids_above (group groups frame.parent) frame.id) ++ ahead groups frames
advanced groups frames frame id rest =
    ahead-push groups frames (record frame { id = id })
    ∙ ap (λ ids. flat_map (visited frame.levels (siblings groups)) ids ++ ahead groups frames) rest

-- the last frame gives its object, which its members and what stands above it follow
pub stepped : (groups : List (List (ℕ × ℤ))) (before frames : List Frame) (frame : Frame) (above members : List ℕ) → before ≡ frames ++ frame ∷ []
    → above ≡ flat_map (visited frame.levels (siblings groups)) (ids_above (group groups frame.parent) frame.id) ++ ahead groups frames
    → members ≡ in_order frame.levels (siblings groups) (Some frame.id) ++ above
    → ahead groups before ≡ frame.id ∷ members
stepped groups before frames frame above members popped moved inside =
    ap (ahead groups) popped
    ∙ ahead-push groups frames frame
    ∙ ap (λ ids. frame.id ∷ ids) (
    append_assoc (in_order frame.levels (siblings groups) (Some frame.id)) (flat_map (visited frame.levels (siblings groups)) (ids_above (group groups frame.parent) frame.id)) (ahead groups frames)
    ∙ ap (λ ids. in_order frame.levels (siblings groups) (Some frame.id) ++ ids) (sym moved)
    ∙ sym inside
    )

-- what was ahead is fewer by the object that was given
pub given : (before members out whole : List ℕ) (id : ℕ) → before ≡ id ∷ members → out ++ before ≡ whole → (out ++ id ∷ []) ++ members ≡ whole
given before members out whole id is all = append_assoc out (id ∷ []) members ∙ ap (λ ids. out ++ ids) (sym is) ∙ all

pub fewer : (before members : List ℕ) (id : ℕ) → before ≡ id ∷ members → length members < length before
fewer before members id is = let same = ap length is in omega (arith, same)
