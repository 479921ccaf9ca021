-- Replies, and the orders of small scenes.
use Rattle.std.specs.Prelude.{◌≡◌, ℕ, pos, refl, codes, List, [], ◌∷◌, ◌++◌, ◌==◌, if◌then◌else◌, Option, Some, None}
use Rattle.std.specs.Fmt.{digits}
use Rattle.ev_argb.specs.Argb.{unpacked}
use Rattle.ev_model.specs.Order.{in_order}
use Rattle.ev_model.specs.Answer.{Shown, PreloadFailed, Idle, DumpRow, Bad, Refused}
use Rattle.ev_model.specs.Text.{text}
use Rattle.ev_model.specs.declared.refusal.BadLine.TheVariants as bad
use Rattle.ev_model.specs.declared.refusal.Refusal.TheVariants as refusal
use Rattle.ev_model.specs.declared.refusal.ImageFault.TheVariants as image
use Rattle.ev_model.specs.declared.refusal.LoadFault.TheVariants as load

shown_and_dumped : text (Shown 1 2 1 (record { x = pos 0; y = pos 0; w = pos 2; h = pos 1 } ∷ []) ∷ DumpRow (Some (unpacked 0xffff0000) ∷ None ∷ []) ∷ []) ≡
    codes "shown 1 2 1 1" ++ 10 ∷ [] ++ codes "update 0 0 2 1" ++ 10 ∷ [] ++ codes "ffff0000 --------" ++ 10 ∷ []
unfolding digits
shown_and_dumped = refl

faults : text (Bad bad.Number 4 ∷ Refused refusal.NoFrame 18 ∷ Idle ∷ PreloadFailed (105 ∷ []) (load.Image image.Short 15) ∷ PreloadFailed (105 ∷ []) load.Missing ∷ []) ≡
    codes "bad number 4" ++ 10 ∷ [] ++ codes "refused none 18" ++ 10 ∷ [] ++ codes "idle" ++ 10 ∷ [] ++ codes "preload-failed i image short 15" ++ 10 ∷ [] ++ codes "preload-failed i missing" ++ 10 ∷ []
unfolding digits
faults = refl

-- 1 and 4 stand by themselves; 2 and 3 stand in 1, and 5 in 3
abbrev siblings : Option ℕ → List ℕ
siblings None = 1 ∷ 4 ∷ []
siblings (Some id) = if id == 1 then 2 ∷ 3 ∷ [] else (if id == 3 then 5 ∷ [] else [])

preorder : in_order 5 siblings None ≡ 1 ∷ 2 ∷ 3 ∷ 5 ∷ 4 ∷ []
preorder = refl
