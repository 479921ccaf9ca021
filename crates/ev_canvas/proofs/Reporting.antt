-- Each pixel in which a frame differs from the one shown before lies in its updates.
use Rattle.std.proofs.Common.{◌≡◌, ℕ, ◌<◌, pos, Bool, true, false, not, ◌&&◌, ◌||◌, List, [], ◌∷◌, Option, IfSome, refl, sym, ap, subst, ◌∙◌, arith}
use Rattle.std.proofs.Math.Bool.{true≢false, and-true}
use Rattle.std.proofs.lemmas.Bool.Decides.{nat_tests}
use Rattle.std.proofs.lemmas.Int.{ints}
use Rattle.ev_geom.specs.Area.{Area, holds}
use Rattle.ev_geom.specs.Bands.{has_pixel}
use Rattle.ev_geom.specs.Snap.{SharesCell}
use Rattle.ev_model.specs.Capture.{Capture}
use Rattle.ev_model.specs.Stage.{canvas_on}
use Rattle.ev_model.specs.Paint.{paint}
use Rattle.ev_damage.specs.Damage.{is_damaged}
use Rattle.ev_damage.specs.Places.{HaveOwnIds}
use Rattle.ev_damage.specs.Stay.{HaveOneLoad}
use Rattle.ev_damage.proofs.Painting.{still}
use Rattle.std.proofs.lemmas.Bool.{false_from_ne_true, true_from_ne_false}
use Rattle.ev_preload.proofs.Running.{or_first, or_last}
use Rattle.ev_canvas.specs.Starts.{Entry, Latest, Starts, OwesIf, OwesOn, left, is_running, is_shown, has_size_of, touched}
use Rattle.ev_canvas.specs.History.{newest_of, AreStarts, AreComparable, Showing, frame_pixel, IsShowing, ShowsFirst, Shows, Reports, AreReported}
use Rattle.ev_canvas.specs.declared.newest.End.{End}
use Rattle.ev_canvas.specs.declared.newest.End.TheVariants as end
use Rattle.ev_canvas.proofs.Setting.{on_canvas}

-- what a frame left, or may still leave: all that it owed and what was hidden, unless it was shown
abbrev unsettled : Latest → ℕ → ℕ → Bool
unsettled latest x y = (not (is_shown latest.end) && has_pixel latest.entry.owed (pos x) (pos y)) || has_pixel latest.entry.hidden (pos x) (pos y)

-- of an ended frame that is what it left
settled : (latest : Latest) (x y : ℕ) → is_running latest.end ≡ false → left latest (pos x) (pos y) ≡ unsettled latest x y
settled latest x y ended = by latest.end ended refl
  where
    by : (e : End) → is_running e ≡ false → latest.end ≡ e → left latest (pos x) (pos y) ≡ unsettled latest x y
    by end.Running ended is = absurd (true≢false ended)
    by end.Shown ended is = rw is refl
    by end.Lost ended is = rw is refl

-- where the canvas has the size of the scene before, and a pixel isn't owed, the scene is painted there as before, and the frame before did not leave it
pub record IsSettled (before : Latest) (now : Capture) (x y : ℕ) : Type 0 where
  pub width : before.entry.capture.w ≡ now.w
  pub height : before.entry.capture.h ≡ now.h
  pub unleft : left before (pos x) (pos y) ≡ false
  pub same : paint before.entry.capture x y ≡ paint now x y

-- a pixel that lies in none of the cells that were touched wasn't touched
untouched : (cell : ℕ) (before now : Capture) (given cells : List Area) (x y : ℕ) → x < now.w → y < now.h → ((x y : ℕ) → x < now.w → y < now.h → SharesCell cell (touched before now given) x y → has_pixel cells (pos x) (pos y) ≡ true) → has_pixel cells (pos x) (pos y) ≡ false → touched before now given (pos x) (pos y) ≡ false
untouched cell before now given cells x y column row whole outside =
    false_from_ne_true (touched before now given (pos x) (pos y)) (λ held. true≢false (sym (whole x y column row (record { column = x; row = y; held = held; across = refl; down = refl })) ∙ outside))

unowed_on : (cell : ℕ) (before : Latest) (now : Capture) (given owed : List Area) (x y : ℕ) → x < now.w → y < now.h → HaveOwnIds before.entry.capture.looks → HaveOwnIds now.looks → HaveOneLoad before.entry.capture.looks now.looks → before.entry.capture.w ≡ now.w → before.entry.capture.h ≡ now.h → OwesOn cell before now given owed → has_pixel owed (pos x) (pos y) ≡ false → IsSettled before now x y
unowed_on cell before now given owed x y column row own_before own_now loads width height owes unowed =
    let none = sym (owes.pixels.pixels (pos x) (pos y)) ∙ unowed in
    let uncelled = or_first (has_pixel owes.cells (pos x) (pos y)) (left before (pos x) (pos y)) none in
    let untouched_here = untouched cell before.entry.capture now given owes.cells x y column row owes.snapped.whole uncelled in
    let changed = is_damaged before.entry.capture.looks now.looks (pos x) (pos y) in
    let touched_there = changed || has_pixel given (pos x) (pos y) in
    let undamaged = or_first changed (has_pixel given (pos x) (pos y)) (sym (and-true touched_there) ∙ ap (λ b. touched_there && b) (sym (on_canvas now x y column row)) ∙ untouched_here) in
    record {
      width = width;
      height = height;
      unleft = or_last (has_pixel owes.cells (pos x) (pos y)) (left before (pos x) (pos y)) none;
      same = (still before.entry.capture now x y own_before own_now loads undamaged).pixel;
    }

-- all of a canvas is owed where its size is another
pub unowed_if : (b : Bool) (cell : ℕ) (before : Latest) (now : Capture) (given owed : List Area) (x y : ℕ) → has_size_of before.entry.capture now ≡ b → x < now.w → y < now.h → HaveOwnIds before.entry.capture.looks → HaveOwnIds now.looks → HaveOneLoad before.entry.capture.looks now.looks → OwesIf b cell before now given owed → has_pixel owed (pos x) (pos y) ≡ false → IsSettled before now x y
unowed_if true cell before now given owed x y same column row own_before own_now loads owes unowed =
    unowed_on cell before now given owed x y column row own_before own_now loads (grind (arith, nat_tests, same)) (grind (arith, nat_tests, same)) owes unowed
unowed_if false cell before now given owed x y same column row own_before own_now loads owes unowed =
    absurd (true≢false (sym (on_canvas now x y column row) ∙ sym (owes.pixels (pos x) (pos y)) ∙ unowed))

-- where the frame shown last has the size of the newest start, it shows each settled pixel as that start's scene is painted
abbrev IsCurrent : Showing → Latest → Type 0
IsCurrent showing latest = showing.frame.w ≡ latest.entry.capture.w → showing.frame.h ≡ latest.entry.capture.h
    → (x y : ℕ) → x < latest.entry.capture.w → y < latest.entry.capture.h → unsettled latest x y ≡ false → frame_pixel showing.frame x y ≡ paint latest.entry.capture x y

abbrev AreCurrent : List Latest → List Showing → Type 0
AreCurrent starts [] = Unit {0}
AreCurrent starts (showing ∷ earlier) = IfSome (newest_of starts) (λ latest. IsCurrent showing latest)

-- what the frame shown last shows where nothing is owed
shows_still : (cell : ℕ) (latest : Latest) (older : List Latest) (given areas : List Area) (showing : Showing) (earlier : List Showing) → Starts cell (newest_of older) latest.entry.capture given areas latest.entry → IfSome (newest_of older) (λ before. is_running before.end ≡ false) → HaveOwnIds latest.entry.capture.looks → IfSome (newest_of older) (λ before. HaveOneLoad before.entry.capture.looks latest.entry.capture.looks) → AreComparable older → AreCurrent older (showing ∷ earlier) → showing.frame.w ≡ latest.entry.capture.w → showing.frame.h ≡ latest.entry.capture.h → (x y : ℕ) → x < latest.entry.capture.w → y < latest.entry.capture.h → has_pixel latest.entry.owed (pos x) (pos y) ≡ false → frame_pixel showing.frame x y ≡ paint latest.entry.capture x y
shows_still cell latest [] given areas showing earlier starts ended own loads comparable current width height x y column row unowed =
    absurd (true≢false (sym (on_canvas latest.entry.capture x y column row) ∙ sym (starts.owed.pixels (pos x) (pos y)) ∙ unowed))
shows_still cell latest (before ∷ older) given areas showing earlier starts ended own loads comparable current width height x y column row unowed =
    let settled_here = unowed_if (has_size_of before.entry.capture latest.entry.capture) cell before latest.entry.capture given latest.entry.owed x y refl column row comparable.0 own loads starts.owed unowed in
    current (width ∙ sym settled_here.width) (height ∙ sym settled_here.height) x y (omega (arith, column, settled_here.width)) (omega (arith, row, settled_here.height)) (sym (settled before x y ended) ∙ settled_here.unleft) ∙ settled_here.same

-- the frame shown last is current
current : (cell : ℕ) (starts : List Latest) (showings : List Showing) → AreStarts cell starts → AreComparable starts → Shows starts showings → AreCurrent starts showings
current cell [] [] chain comparable shows = tt
current cell [] (showing ∷ showings) chain comparable shows = tt
current cell (latest ∷ older) showings (given, areas, starts, ended, chain) (own, loads, comparable) shows = by (is_shown latest.end) refl showings shows (λ earlier. current cell older earlier chain comparable)
  where
    by : (b : Bool) → is_shown latest.end ≡ b → (showings : List Showing) → ShowsFirst b latest.entry (Shows older) showings → ((earlier : List Showing) → Shows older earlier → AreCurrent older earlier) → AreCurrent (latest ∷ older) showings
    by true shown showings (last, earlier, before, showing, is) earlier_is =
        let here : IsCurrent last latest = λ width height x y column row none. showing.pixels x y column row (or_last (not (is_shown latest.end) && has_pixel latest.entry.owed (pos x) (pos y)) (has_pixel latest.entry.hidden (pos x) (pos y)) none) in
        subst (λ list. AreCurrent (latest ∷ older) list) (sym is) here
    by false unshown [] before earlier_is = tt
    by false unshown (showing ∷ earlier) before earlier_is = λ width height x y column row none.
        shows_still cell latest older given areas showing earlier starts ended own loads comparable (earlier_is (showing ∷ earlier) before) width height x y column row
        (subst (λ (b : Bool). (not b && has_pixel latest.entry.owed (pos x) (pos y)) ≡ false) unshown (or_first (not (is_shown latest.end) && has_pixel latest.entry.owed (pos x) (pos y)) (has_pixel latest.entry.hidden (pos x) (pos y)) none))

-- a pixel that is owed and isn't hidden is updated
updated : (cell : ℕ) (before : Option Latest) (now : Capture) (given areas : List Area) (entry : Entry) (x y : ℕ) → Starts cell before now given areas entry → has_pixel entry.owed (pos x) (pos y) ≡ true → has_pixel entry.hidden (pos x) (pos y) ≡ false → has_pixel entry.updates (pos x) (pos y) ≡ true
updated cell before now given areas entry x y starts owed unhidden = starts.updates.pixels (pos x) (pos y) ∙ rw (owed, unhidden) refl

-- what was shown of a chain of starts is reported
pub reported : (cell : ℕ) (starts : List Latest) (showings : List Showing) → AreStarts cell starts → AreComparable starts → Shows starts showings → AreReported showings
reported cell [] showings chain comparable shows = subst AreReported (sym shows) tt
reported cell (latest ∷ older) showings (given, areas, starts, ended, chain) (own, loads, comparable) shows = by (is_shown latest.end) shows (λ earlier. reported cell older earlier chain comparable) (λ earlier. current cell older earlier chain comparable)
  where
    reports : (f last : Showing) (earlier : List Showing) → IsShowing latest.entry last → AreCurrent older (f ∷ earlier) → Reports f last
    reports f last earlier showing is_current width height x y column row unhidden differ =
        let column_here : x < latest.entry.capture.w = omega (arith, column, showing.width) in
        let row_here : y < latest.entry.capture.h = omega (arith, row, showing.height) in
        let unhidden_here : has_pixel latest.entry.hidden (pos x) (pos y) ≡ false = ap (λ areas. has_pixel areas (pos x) (pos y)) (sym showing.hidden) ∙ unhidden in
        let owed : has_pixel latest.entry.owed (pos x) (pos y) ≡ true = true_from_ne_false (has_pixel latest.entry.owed (pos x) (pos y)) (λ unowed.
        differ (shows_still cell latest older given areas f earlier starts ended own loads comparable is_current (width ∙ showing.width) (height ∙ showing.height) x y column_here row_here unowed ∙ sym (showing.pixels x y column_here row_here unhidden_here))) in
        ap (λ areas. has_pixel areas (pos x) (pos y)) showing.updates ∙ updated cell (newest_of older) latest.entry.capture given areas latest.entry x y starts owed unhidden_here

    one_more : (last : Showing) (earlier : List Showing) → IsShowing latest.entry last → AreCurrent older earlier → AreReported earlier → AreReported (last ∷ earlier)
    one_more last [] showing is_current reported_so = tt
    one_more last (f ∷ earlier) showing is_current reported_so = (reports f last earlier showing is_current, reported_so)

    by : (b : Bool) → ShowsFirst b latest.entry (Shows older) showings → ((earlier : List Showing) → Shows older earlier → AreReported earlier) → ((earlier : List Showing) → Shows older earlier → AreCurrent older earlier) → AreReported showings
    by true (last, earlier, before, showing, is) earlier_reported earlier_current = subst AreReported (sym is) (one_more last earlier showing (earlier_current earlier before) (earlier_reported earlier before))
    by false before earlier_reported earlier_current = earlier_reported showings before
