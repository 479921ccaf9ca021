-- Frames that were shown, in the log.
use Rattle.std.proofs.Common.{◌≡◌, ℕ, Option, List, ◌++◌, length, refl, subst, append_assoc, flat_map}
use Rattle.ev_geom.specs.Area.{Area}
use Rattle.ev_port.specs.Told.{GrowsBy, GrowsPart, grows_on, part_of_front, whole_then_part}
use Rattle.ev_model.specs.Answer.{Shown}
use Rattle.ev_model.specs.Text.{update_text, reply_text}
use Rattle.ev_lang.specs.ReplyParts.{heading_text}

-- its first line, and then its updates
shown_text : (n w h : ℕ) (updates : List Area) → heading_text n w h (length updates) ++ flat_map update_text updates ≡ reply_text (Shown n w h updates)
unfolding heading_text
shown_text n w h updates = simp append_assoc refl

-- the first line was cut off
pub heading_cut : {a b : Option (List ℕ)} {draft : List ℕ} (n w h : ℕ) (updates : List Area) → draft ≡ heading_text n w h (length updates) → GrowsPart a b draft → GrowsPart a b (reply_text (Shown n w h updates))
heading_cut {a = a} {b = b} n w h updates is part =
    subst (λ all. GrowsPart a b all) (shown_text n w h updates) (part_of_front (flat_map update_text updates) (subst (λ line. GrowsPart a b line) is part))

-- the first line was written, and the updates were cut off
pub updates_cut : {a b c : Option (List ℕ)} {draft : List ℕ} (n w h : ℕ) (updates : List Area) → draft ≡ heading_text n w h (length updates) → GrowsBy a b draft → GrowsPart b c (flat_map update_text updates) → GrowsPart a c (reply_text (Shown n w h updates))
updates_cut {a = a} {b = b} {c = c} n w h updates is whole part =
    subst (λ all. GrowsPart a c all) (shown_text n w h updates) (whole_then_part (subst (λ line. GrowsBy a b line) is whole) part)

-- all was written
pub shown_whole : {a b c : Option (List ℕ)} {draft : List ℕ} (n w h : ℕ) (updates : List Area) → draft ≡ heading_text n w h (length updates) → GrowsBy a b draft → GrowsBy b c (flat_map update_text updates) → GrowsBy a c (reply_text (Shown n w h updates))
shown_whole {a = a} {b = b} {c = c} n w h updates is first second =
    subst (λ all. GrowsBy a c all) (shown_text n w h updates) (grows_on (subst (λ line. GrowsBy a b line) is first) second)
