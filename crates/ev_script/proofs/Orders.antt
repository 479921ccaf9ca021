-- The frames of any starts have rising numbers.
use Rattle.std.proofs.Common.{◌≡◌, ℕ, ◌+◌, ◌<◌, ◌≤◌, ◌∙◌, List, [], ◌∷◌, ◌++◌, Bool, true, false, Option, map, reverse, ap, subst, sym, arith}
use Rattle.std.proofs.lemmas.List.{map-append, reverse-append}
use Rattle.ev_port.specs.Told.{GrowsBy, grows_by_none}
use Rattle.ev_port.specs.Frame.{Frame}
use Rattle.ev_canvas.specs.History.{Showing, Shows, ShowsFirst, AreStarts, newest_of}
use Rattle.ev_canvas.specs.Starts.{Latest, is_shown, last_number}
use Rattle.ev_script.specs.Session.{frames_of}
use Rattle.ev_script.specs.ScreenFrames.{RisesWithin, ShowsInOrder}

higher : (low high top : ℕ) (fs : List Frame) → high ≤ top → RisesWithin low high fs → RisesWithin low top fs
higher low high top [] le rises = omega (arith, le, rises)
higher low high top (frame ∷ fs) le rises = (rises.0, higher frame.number high top fs le rises.1)

one_more : (low high n : ℕ) (fs : List Frame) (last : Frame) → last.number ≡ n → high < n → RisesWithin low high fs → RisesWithin low n (fs ++ last ∷ [])
one_more low high n [] last is above rises = (omega (arith, above, rises, is), omega (arith, is))
one_more low high n (frame ∷ fs) last is above rises = (rises.0, one_more frame.number high n fs last is above rises.1)

-- the frames of starts have rising numbers, of which none is above that of the newest start
shown_rises : (cell : ℕ) (starts : List Latest) (showings : List Showing) → AreStarts cell starts → Shows starts showings → RisesWithin 0 (last_number (newest_of starts)) (frames_of showings)
shown_rises cell [] showings chain shows = subst (λ list. RisesWithin 0 0 (frames_of list)) (sym shows) (omega arith)
shown_rises cell (latest ∷ older) showings chain shows = by (is_shown latest.end) shows (λ earlier. shown_rises cell older earlier chain.4)
  where
    number : latest.entry.number ≡ last_number (newest_of older) + 1
    number = chain.2.number

    by : (b : Bool) → ShowsFirst b latest.entry (Shows older) showings → ((earlier : List Showing) → Shows older earlier → RisesWithin 0 (last_number (newest_of older)) (frames_of earlier)) → RisesWithin 0 latest.entry.number (frames_of showings)
    by true (last, earlier, before, showing, is) rises =
        let more = one_more 0 (last_number (newest_of older)) latest.entry.number (frames_of earlier) last.frame showing.number (omega (arith, number)) (rises earlier before) in
        let joined : frames_of (last ∷ earlier) ≡ frames_of earlier ++ last.frame ∷ [] = ap (map (λ s. s.frame)) (reverse-append (last ∷ []) earlier) ∙ map-append (λ s. s.frame) (reverse earlier) (last ∷ []) in
        subst (λ list. RisesWithin 0 latest.entry.number (frames_of list)) (sym is) (subst (λ fs. RisesWithin 0 latest.entry.number fs) (sym joined) more)
    by false before rises = higher 0 (last_number (newest_of older)) latest.entry.number (frames_of showings) (omega (arith, number)) (rises showings before)

-- a screen that has grown by what was shown of some starts shows in order
pub shown_in_order : (cell : ℕ) (old new : Option (List Frame)) (starts : List Latest) (showings : List Showing) → AreStarts cell starts → Shows starts showings → GrowsBy old new (frames_of showings) → ShowsInOrder old new
shown_in_order cell old new starts showings chain shows grows = record {
  frames = frames_of showings;
  grows = grows;
  highest = last_number (newest_of starts);
  rise = shown_rises cell starts showings chain shows;
}

-- and so does one that shows nothing
pub none_in_order : (told : Option (List Frame)) → ShowsInOrder told told
none_in_order told = record { frames = []; grows = grows_by_none told; highest = 0; rise = omega arith }
