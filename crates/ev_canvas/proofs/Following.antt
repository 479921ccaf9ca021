-- A start against the one before: outside what it updates and hides nothing changes.
use Rattle.std.proofs.Common.{◌≡◌, ℕ, ◌<◌, ◌≤◌, pos, ℤ, Bool, true, false, not, ◌&&◌, ◌||◌, List, Option, Some, None, IfSome, refl, sym, ap, subst, ◌∙◌, arith, option_map}
use Rattle.std.proofs.Math.Bool.{true≢false}
use Rattle.std.proofs.lemmas.Bool.{false_from_ne_true}
use Rattle.std.proofs.lemmas.Bool.Decides.{nat_tests}
use Rattle.std.proofs.lemmas.Int.{ints}
use Rattle.ev_geom.specs.Area.{Area, holds}
use Rattle.ev_geom.specs.Bands.{has_pixel, IsBandsOf}
use Rattle.ev_region.specs.Count.{LiesWithin}
use Rattle.ev_model.specs.Capture.{Capture}
use Rattle.ev_model.specs.Paint.{paint}
use Rattle.ev_model.specs.Stage.{canvas_on}
use Rattle.ev_damage.specs.Places.{HaveOwnIds}
use Rattle.ev_damage.specs.Stay.{HaveOneLoad}
use Rattle.ev_buffers.specs.Kept.{Follows}
use Rattle.ev_preload.proofs.Running.{or_last}
use Rattle.ev_canvas.specs.Starts.{Entry, Latest, Starts, Owes, OwesIf, OwesOn, OwesAll, left, has_size_of, is_lost}
use Rattle.ev_canvas.specs.Drawings.{IsNewest, IsBegun, FollowsOn, FollowsIf, captured, capture_in, entry_by, latest_of}
use Rattle.ev_canvas.specs.declared.begun.Begun.{Begun}
use Rattle.ev_canvas.specs.declared.newest.Newest.{Newest}
use Rattle.ev_canvas.proofs.Reporting.{unowed_if}
use Rattle.ev_canvas.proofs.Setting.{unowed}

-- ---- what lies on a canvas

off_right : (w h x y : ℕ) → w ≤ x → holds (canvas_on w h) (pos x) (pos y) ≡ false
off_right w h x y far = grind (arith, ints, far)

off_below : (w h x y : ℕ) → h ≤ y → holds (canvas_on w h) (pos x) (pos y) ≡ false
off_below w h x y far = grind (arith, ints, far)

and_fails : (a b : Bool) → b ≡ false → (a && b) ≡ false
and_fails true b e = e
and_fails false b e = refl

cut_within : (w h : ℕ) (f : ℤ → ℤ → Bool) (region : List Area) → IsBandsOf (λ x y. f x y && holds (canvas_on w h) x y) region → LiesWithin w h (has_pixel region)
cut_within w h f region is = record {
  right = λ x y far. is.pixels (pos x) (pos y) ∙ and_fails (f (pos x) (pos y)) (holds (canvas_on w h) (pos x) (pos y)) (off_right w h x y far);
  below = λ x y far. is.pixels (pos x) (pos y) ∙ and_fails (f (pos x) (pos y)) (holds (canvas_on w h) (pos x) (pos y)) (off_below w h x y far);
}

all_within : (now : Capture) (owed : List Area) → OwesAll now owed → LiesWithin now.w now.h (has_pixel owed)
all_within now owed is = record {
  right = λ x y far. is.pixels (pos x) (pos y) ∙ off_right now.w now.h x y far;
  below = λ x y far. is.pixels (pos x) (pos y) ∙ off_below now.w now.h x y far;
}

both_fail : (a b : Bool) → a ≡ false → b ≡ false → (a || b) ≡ false
both_fail a b e f = rw (e, f) refl

left_outside : (latest : Latest) (x y : ℕ) → has_pixel latest.entry.owed (pos x) (pos y) ≡ false → has_pixel latest.entry.hidden (pos x) (pos y) ≡ false → left latest (pos x) (pos y) ≡ false
left_outside latest x y owed hidden = both_fail (is_lost latest.end && has_pixel latest.entry.owed (pos x) (pos y)) (has_pixel latest.entry.hidden (pos x) (pos y))
    (and_fails (is_lost latest.end) (has_pixel latest.entry.owed (pos x) (pos y)) owed) hidden

on_within : (cell : ℕ) (before : Latest) (now : Capture) (given owed : List Area) → LiesWithin now.w now.h (has_pixel before.entry.owed) → LiesWithin now.w now.h (has_pixel before.entry.hidden) → OwesOn cell before now given owed → LiesWithin now.w now.h (has_pixel owed)
on_within cell before now given owed was_owed was_hidden is = record {
  right = λ x y far. is.pixels.pixels (pos x) (pos y) ∙ both_fail (has_pixel is.cells (pos x) (pos y)) (left before (pos x) (pos y))
      (false_from_ne_true (has_pixel is.cells (pos x) (pos y)) (λ held. (let column = (is.snapped.within x y held).0 in absurd (omega (arith, column, far)))))
      (left_outside before x y (was_owed.right x y far) (was_hidden.right x y far));
  below = λ x y far. is.pixels.pixels (pos x) (pos y) ∙ both_fail (has_pixel is.cells (pos x) (pos y)) (left before (pos x) (pos y))
      (false_from_ne_true (has_pixel is.cells (pos x) (pos y)) (λ held. (let row = (is.snapped.within x y held).1 in absurd (omega (arith, row, far)))))
      (left_outside before x y (was_owed.below x y far) (was_hidden.below x y far));
}

-- ---- what a start follows on

follows : (cell : ℕ) (before : Latest) (now : Capture) (given owed hidden updates : List Area) → HaveOwnIds before.entry.capture.looks → HaveOwnIds now.looks
    → HaveOneLoad before.entry.capture.looks now.looks → Owes cell (Some before) now given owed → IsBandsOf (λ x y. has_pixel owed x y && not (has_pixel hidden x y)) updates
    → Follows now.w now.h (paint before.entry.capture) (has_pixel before.entry.hidden) updates (paint now) (has_pixel hidden)
follows cell before now given owed hidden updates own_before own_now loads owes are = record {
  pixels = λ x y column row out shown.
      let settled = unowed_if (has_size_of before.entry.capture now) cell before now given owed x y refl column row own_before own_now loads owes (unowed owed hidden updates x y are out shown) in
      (or_last (is_lost before.end && has_pixel before.entry.owed (pos x) (pos y)) (has_pixel before.entry.hidden (pos x) (pos y)) settled.unleft, settled.same);
}

-- a start of this capture, whose ids differ, after one with which it can be compared
abbrev pub IsComparable : Option Newest → Begun → Type 0
IsComparable newest b = IfSome newest (λ n. HaveOneLoad (captured n).looks (capture_in b).looks)

begun_if : (t : Bool) (buffers cell : ℕ) (n : Newest) (given : List Area) (b : Begun) → has_size_of (captured n) (capture_in b) ≡ t → IsNewest buffers n → HaveOwnIds (capture_in b).looks → HaveOneLoad (captured n).looks (capture_in b).looks
    → OwesIf t cell (latest_of n) (capture_in b) given b.owed → IsBandsOf (λ x y. has_pixel b.owed x y && not (has_pixel b.hidden x y)) b.updates
    → FollowsIf t n b × LiesWithin b.shot.scene.w b.shot.scene.h (has_pixel b.owed)
begun_if true buffers cell n given b size is own loads owes are =
    let whole : Owes cell (Some (latest_of n)) (capture_in b) given b.owed = subst (λ (t : Bool). OwesIf t cell (latest_of n) (capture_in b) given b.owed) (sym size) owes in
    let wide : n.shot.scene.w ≡ b.shot.scene.w = grind (arith, nat_tests, size) in
    let high : n.shot.scene.h ≡ b.shot.scene.h = grind (arith, nat_tests, size) in
    let on : (region : List Area) → LiesWithin n.shot.scene.w n.shot.scene.h (has_pixel region) → LiesWithin b.shot.scene.w b.shot.scene.h (has_pixel region) =
    λ region lies. subst (λ (w : ℕ). LiesWithin w b.shot.scene.h (has_pixel region)) wide (subst (λ (h : ℕ). LiesWithin n.shot.scene.w h (has_pixel region)) high lies) in (
      follows cell (latest_of n) (capture_in b) given b.owed b.hidden b.updates is.apart own loads whole are,
      on_within cell (latest_of n) (capture_in b) given b.owed (on n.owed is.owed) (on n.hidden is.hidden) owes,
    )
begun_if false buffers cell n given b size is own loads owes are = (owes, all_within (capture_in b) b.owed owes)

begun_on : (buffers cell : ℕ) (newest : Option Newest) (given : List Area) (b : Begun) → IfSome newest (IsNewest buffers) → HaveOwnIds (capture_in b).looks → IsComparable newest b → Owes cell (option_map latest_of newest) (capture_in b) given b.owed
    → IsBandsOf (λ x y. has_pixel b.owed x y && not (has_pixel b.hidden x y)) b.updates → FollowsOn newest b × LiesWithin b.shot.scene.w b.shot.scene.h (has_pixel b.owed)
begun_on buffers cell None given b is own loads owes are = (owes, all_within (capture_in b) b.owed owes)
begun_on buffers cell (Some n) given b is own loads owes are = begun_if (has_size_of (captured n) (capture_in b)) buffers cell n given b refl is own loads owes are

-- a start's frame can be drawn
pub begun : (buffers cell : ℕ) (newest : Option Newest) (given areas : List Area) (b : Begun) (tiles : ℕ) → IfSome newest (IsNewest buffers) → b.shot.scene.w ≤ 4096 → b.shot.scene.h ≤ 4096 → HaveOwnIds (capture_in b).looks → IsComparable newest b
    → Starts cell (option_map latest_of newest) (capture_in b) given areas (entry_by b tiles) → IsBegun newest b
begun buffers cell newest given areas b tiles is wide high own loads starts =
    let both = begun_on buffers cell newest given b is own loads starts.owed starts.updates in
    record {
      wide = wide;
      high = high;
      apart = own;
      owed = both.1;
      hidden = cut_within b.shot.scene.w b.shot.scene.h (has_pixel areas) b.hidden starts.hidden;
      updates = starts.updates;
      follows = both.0;
    }

-- what it updates lies on its canvas
pub updates_within : (newest : Option Newest) (b : Begun) → IsBegun newest b → LiesWithin b.shot.scene.w b.shot.scene.h (has_pixel b.updates)
updates_within newest b is = record {
  right = λ x y far. is.updates.pixels (pos x) (pos y) ∙ (rw (is.owed.right x y far) refl);
  below = λ x y far. is.updates.pixels (pos x) (pos y) ∙ (rw (is.owed.below x y far) refl);
}
