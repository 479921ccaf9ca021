-- The places of a picture, part of which may be hidden.
use Rattle.std.proofs.Common.{◌≡◌, ℕ, zero, suc, ◌+◌, ◌<◌, List, [], ◌∷◌, ◌++◌, map, get_or, Bool, true, false, pos, Option, Some, None, cond, refl, sym, ap, ap₂, ◌∙◌, arith}
use Rattle.std.specs.List.{range_with_len, flat_map}
use Rattle.std.proofs.lemmas.Option.{none-some, same_Some}
use Rattle.std.proofs.lemmas.List.FromFn.{get_or-map-range_with_len, length-map-range_with_len}
use Rattle.ev_argb.specs.Argb.{Argb, clear}
use Rattle.ev_argb.specs.Grid.{Grid, pixel_at, row_of}
use Rattle.ev_geom.specs.Area.{Area}
use Rattle.ev_model.specs.Answer.{Answer, DumpRow, Refused}
use Rattle.ev_model.specs.declared.refusal.Refusal.TheVariants.{Busy}
use Rattle.ev_geom.specs.Bands.{has_pixel}
use Rattle.ev_canvas.specs.Starts.{Entry, Latest, is_running}
use Rattle.ev_canvas.specs.Pictures.{IsPicture}
use Rattle.ev_canvas.specs.Totals.{totals}
use Rattle.ev_canvas.specs.Turns as machine
use Rattle.ev_canvas.specs.Turns.{printed, picture_cause, told_flush}
use Rattle.ev_canvas.specs.CanvasFrames.{Frames, IsPictureOf, picture_refusal, runs}
use Rattle.ev_canvas.specs.declared.flush.Flushed.{Flushed}
use Rattle.ev_canvas.specs.declared.look.NoPicture.{NoPicture}
use Rattle.ev_canvas.specs.declared.look.NoPicture.TheVariants as no_picture
use Rattle.ev_script.specs.Dumps.{unhidden, unhidden_row, place_row, places}
use Rattle.ev_script.proofs.Turns.{AreQuiet}

-- two functions that agree below a bound make the same list of a range below it
pub same_map : {A : Type 0} (f g : ℕ → A) (from count bound : ℕ) → from + count ≡ bound → ((k : ℕ) → k < bound → f k ≡ g k) → map f (range_with_len from count) ≡ map g (range_with_len from count)
same_map f g from zero bound e same = refl
same_map f g from (suc count) bound e same =
    ap₂ ◌∷◌ (same from (omega arith)) (same_map f g (from + 1) count bound (omega arith) same)

-- the same of lists that are joined
same_flat_map : {A : Type 0} (f g : ℕ → List A) (from count bound : ℕ) → from + count ≡ bound → ((k : ℕ) → k < bound → f k ≡ g k) → flat_map f (range_with_len from count) ≡ flat_map g (range_with_len from count)
same_flat_map f g from zero bound e same = refl
same_flat_map f g from (suc count) bound e same =
    ap₂ ◌++◌ (same from (omega arith)) (same_flat_map f g (from + 1) count bound (omega arith) same)

-- the places of a row of pixels are those of the picture's row
pub row_places : (hidden : List Area) (grid : Grid) (y : ℕ) → unhidden_row hidden y (row_of grid y) ≡ place_row hidden grid y
row_places hidden grid y =
    ap (λ w. map (λ x. unhidden hidden x y (get_or (row_of grid y) x clear)) (range_with_len 0 w)) (length-map-range_with_len (λ x. pixel_at grid x y) 0 grid.w)
    ∙ same_map (λ x. unhidden hidden x y (get_or (row_of grid y) x clear)) (λ x. unhidden hidden x y (pixel_at grid x y)) 0 grid.w grid.w (omega arith)
    (λ x inside. ap (unhidden hidden x y) (get_or-map-range_with_len (λ x. pixel_at grid x y) 0 grid.w x x clear inside (omega arith)))

-- a pixel that isn't hidden is that of the start
same_place : (entry : Entry) (grid : Grid) (x y : ℕ) → IsPicture entry grid → x < entry.capture.w → y < entry.capture.h → unhidden entry.hidden x y (pixel_at grid x y) ≡ machine.place entry x y
same_place entry grid x y drawn column row = go (has_pixel entry.hidden (pos x) (pos y)) refl where
  go : (t : Bool) → has_pixel entry.hidden (pos x) (pos y) ≡ t → unhidden entry.hidden x y (pixel_at grid x y) ≡ machine.place entry x y
  go true hidden = rw hidden refl
  go false shown = rw shown (ap Some (drawn.pixels x y column row shown))

-- the rows of a picture are those of the start that it shows
same_row : (entry : Entry) (grid : Grid) (y : ℕ) → IsPicture entry grid → y < entry.capture.h → place_row entry.hidden grid y ≡ machine.place_row entry y
same_row entry grid y drawn below =
    ap (λ w. map (λ x. unhidden entry.hidden x y (pixel_at grid x y)) (range_with_len 0 w)) drawn.width
    ∙ same_map (λ x. unhidden entry.hidden x y (pixel_at grid x y)) (λ x. machine.place entry x y) 0 entry.capture.w entry.capture.w (omega arith)
    (λ x inside. same_place entry grid x y drawn inside below)

-- the rows that a dump prints
abbrev pub picture_rows : List Area → Grid → List Answer
picture_rows hidden grid = map (λ y. DumpRow (place_row hidden grid y)) (range_with_len 0 grid.h)

pub same_rows : (entry : Entry) (grid : Grid) → IsPicture entry grid → picture_rows entry.hidden grid ≡ machine.rows entry
same_rows entry grid drawn =
    ap (λ h. map (λ y. DumpRow (place_row entry.hidden grid y)) (range_with_len 0 h)) drawn.height
    ∙ same_map (λ y. DumpRow (place_row entry.hidden grid y)) (λ y. DumpRow (machine.place_row entry y)) 0 entry.capture.h entry.capture.h (omega arith) (λ y below. ap DumpRow (same_row entry grid y drawn below))

pub same_sums : (entry : Entry) (grid : Grid) → IsPicture entry grid → totals (places entry.hidden grid) ∷ [] ≡ machine.sums entry
same_sums entry grid drawn = ap (λ ps. totals ps ∷ []) (
    ap (λ h. flat_map (place_row entry.hidden grid) (range_with_len 0 h)) drawn.height
    ∙ same_flat_map (place_row entry.hidden grid) (machine.place_row entry) 0 entry.capture.h entry.capture.h (omega arith) (λ y below. same_row entry grid y drawn below))

-- no row tells of a failure
pub rows_quietly : (row : ℕ → List (Option Argb)) (ys : List ℕ) → AreQuiet (map (λ y. DumpRow (row y)) ys)
rows_quietly row [] = record { losses = refl; failures = refl }
rows_quietly row (y ∷ ys) = let rest = rows_quietly row ys in record { losses = rest.losses; failures = rest.failures }

-- where this is the picture drawn last, what is printed is of the start that it shows
pub printed_as : (print : Entry → List Answer) (n : ℕ) (f : Frames) (grid : Grid) (is : IsPictureOf f grid) → print is.latest.entry ≡ printed print n f.newest
printed_as print n f grid is = sym (ap (printed print n) is.newest ∙ ap (λ b. cond b (Refused Busy n ∷ []) (print is.latest.entry)) is.ended)

-- where there is none, that is refused
pub unprinted : (print : Entry → List Answer) (n : ℕ) (newest : Option Latest) (cause : NoPicture) → picture_refusal newest ≡ Some cause → Refused (picture_cause cause) n ∷ [] ≡ printed print n newest
unprinted print n None cause is = ap (λ c. Refused (picture_cause c) n ∷ []) (sym (same_Some no_picture.NoFrame cause is))
unprinted print n (Some latest) cause is = by (is_running latest.end) is
  where
    by : (b : Bool) → cond b (Some no_picture.Busy) None ≡ Some cause → Refused (picture_cause cause) n ∷ [] ≡ cond b (Refused Busy n ∷ []) (print latest.entry)
    by true is = ap (λ c. Refused (picture_cause c) n ∷ []) (sym (same_Some no_picture.Busy cause is))
    by false is = absurd (none-some cause is)

-- of a frame that ended where there is no picture nothing is told
pub no_flush : (flushed : Flushed) (newest : Option Latest) (cause : NoPicture) → runs newest ≡ false → picture_refusal newest ≡ Some cause → [] ≡ told_flush flushed newest
no_flush flushed None cause idle is = refl
no_flush flushed (Some latest) cause idle is = absurd (none-some cause (sym (ap (λ b. cond b (Some no_picture.Busy) None) idle) ∙ is))
