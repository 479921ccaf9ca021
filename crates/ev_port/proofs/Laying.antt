-- Frames that lie flat, and one more behind them.
use Rattle.std.proofs.Common.{ℕ, ◌≡◌, ◌+◌, ◌*◌, List, [], ◌∷◌, ◌++◌, length, take, drop, refl, sym, ap, ◌∙◌, arith, length-append}
use Rattle.std.proofs.lemmas.List.{append-nil}
use Rattle.std.proofs.lemmas.Grind.{flat_map-append}
use Rattle.std.proofs.Math.Seq.{take-append_seam, drop-append_seam}
use Rattle.std.specs.List.{flat_map}
use Rattle.ev_argb.specs.Argb.{Argb}
use Rattle.ev_geom.specs.Area.{Area}
use Rattle.ev_port.specs.Frame.{Frame}
use Rattle.ev_port.specs.FlatFrames.{all_updates, all_pixels, mark_of, marks_from, frames_of, AreFilled, LieFlat}
use Rattle.ev_port.specs.declared.mem_screen.ShownFrame.{ShownFrame}
use Rattle.ev_port.proofs.Rows.{front, back}

-- frames are those of their marks, updates and pixels
read : (a b : ℕ) (frames : List Frame) → AreFilled frames → frames_of (marks_from a b frames) (all_updates frames) (all_pixels frames) ≡ frames
read a b [] filled = refl
read a b (frame ∷ frames) filled =
    let u : take (length frame.updates) (frame.updates ++ all_updates frames) ≡ frame.updates = take-append_seam frame.updates (all_updates frames) in
    let v : drop (length frame.updates) (frame.updates ++ all_updates frames) ≡ all_updates frames = drop-append_seam frame.updates (all_updates frames) in
    let p : take (frame.w * frame.h) (frame.pixels ++ all_pixels frames) ≡ frame.pixels = front (frame.w * frame.h) frame.pixels (all_pixels frames) filled.0 in
    let q : drop (frame.w * frame.h) (frame.pixels ++ all_pixels frames) ≡ all_pixels frames = back (frame.w * frame.h) frame.pixels (all_pixels frames) filled.0 in
    let rest = read (a + length frame.updates) (b + frame.w * frame.h) frames filled.1 in
    rw (u, v, p, q, rest) refl

-- the frames of lists in which frames lie
pub read_back : (frames : List Frame) (marks : List ShownFrame) (updates : List Area) (pixels : List Argb) → LieFlat frames marks updates pixels → frames_of marks updates pixels ≡ frames
read_back frames marks updates pixels flat = rw (flat.marks_are, flat.updates_are, flat.pixels_are) (read 0 0 frames flat.filled)

marks_more : (a b : ℕ) (frames : List Frame) (frame : Frame) → AreFilled frames → marks_from a b (frames ++ frame ∷ []) ≡ marks_from a b frames ++ mark_of (a + length (all_updates frames)) (b + length (all_pixels frames)) frame ∷ []
marks_more a b [] frame filled =
    let e : a + 0 ≡ a = omega arith in
    let f : b + 0 ≡ b = omega arith in
    rw (e, f) refl
marks_more a b (first ∷ frames) frame filled =
    let e : a + length first.updates + length (all_updates frames) ≡ a + length (all_updates (first ∷ frames)) = omega (arith, length-append first.updates (all_updates frames)) in
    let f : b + first.w * first.h + length (all_pixels frames) ≡ b + length (all_pixels (first ∷ frames)) = omega (arith, length-append first.pixels (all_pixels frames), filled.0) in
    ap (λ rest. mark_of a b first ∷ rest) (marks_more (a + length first.updates) (b + first.w * first.h) frames frame filled.1
    ∙ ap (λ k. marks_from (a + length first.updates) (b + first.w * first.h) frames ++ mark_of k (b + first.w * first.h + length (all_pixels frames)) frame ∷ []) e
    ∙ ap (λ k. marks_from (a + length first.updates) (b + first.w * first.h) frames ++ mark_of (a + length (all_updates (first ∷ frames))) k frame ∷ []) f)

marks_more_first : (frames : List Frame) (frame : Frame) → AreFilled frames → marks_from 0 0 (frames ++ frame ∷ []) ≡ marks_from 0 0 frames ++ mark_of (length (all_updates frames)) (length (all_pixels frames)) frame ∷ []
marks_more_first frames frame filled =
    let e : 0 + length (all_updates frames) ≡ length (all_updates frames) = omega arith in
    let f : 0 + length (all_pixels frames) ≡ length (all_pixels frames) = omega arith in
    marks_more 0 0 frames frame filled
    ∙ ap (λ k. marks_from 0 0 frames ++ mark_of k (0 + length (all_pixels frames)) frame ∷ []) e
    ∙ ap (λ k. marks_from 0 0 frames ++ mark_of (length (all_updates frames)) k frame ∷ []) f

filled_more : (frames : List Frame) (frame : Frame) → AreFilled frames → length frame.pixels ≡ frame.w * frame.h → AreFilled (frames ++ frame ∷ [])
filled_more [] frame filled e = (e, tt)
filled_more (first ∷ frames) frame filled e = (filled.0, filled_more frames frame filled.1 e)

parts_more : {A : Type 0} (part : Frame → List A) (frames : List Frame) (frame : Frame) → flat_map part frames ++ part frame ≡ flat_map part (frames ++ frame ∷ [])
parts_more part frames frame = ap (λ last. flat_map part frames ++ last) (sym (append-nil (part frame))) ∙ sym (flat_map-append part frames (frame ∷ []))

lie_more : (frames : List Frame) (marks : List ShownFrame) (updates : List Area) (pixels : List Argb) (frame : Frame)
    → LieFlat frames marks updates pixels → length frame.pixels ≡ frame.w * frame.h
    → LieFlat (frames ++ frame ∷ []) (marks ++ mark_of (length updates) (length pixels) frame ∷ []) (updates ++ frame.updates) (pixels ++ frame.pixels)
lie_more frames marks updates pixels frame flat e = record {
  marks_are = rw (flat.marks_are, flat.updates_are, flat.pixels_are) (sym (marks_more_first frames frame flat.filled));
  updates_are = rw flat.updates_are (parts_more (λ f. f.updates) frames frame);
  pixels_are = rw flat.pixels_are (parts_more (λ f. f.pixels) frames frame);
  filled = filled_more frames frame flat.filled e;
}

-- one frame more, which was laid behind the others with a mark of these numbers
pub laid : (frames : List Frame) (marks marks' : List ShownFrame) (updates updates' : List Area) (pixels pixels' : List Argb) (frame : Frame) (w h updates_at pixels_at : ℕ)
    → LieFlat frames marks updates pixels → length frame.pixels ≡ frame.w * frame.h
    → w ≡ frame.w → h ≡ frame.h → updates_at ≡ length updates → pixels_at ≡ length pixels
    → marks' ≡ marks ++ record { n = frame.number; w = w; h = h; updates_at = updates_at; updates = length frame.updates; pixels_at = pixels_at } ∷ []
    → updates' ≡ updates ++ frame.updates → pixels' ≡ pixels ++ frame.pixels
    → LieFlat (frames ++ frame ∷ []) marks' updates' pixels'
laid frames marks marks' updates updates' pixels pixels' frame w h updates_at pixels_at flat filled width height from first new_marks new_updates new_pixels =
    rw (new_marks, new_updates, new_pixels, width, height, from, first) (lie_more frames marks updates pixels frame flat filled)

-- the frames that lie in lists are those that are read from them
pub as_read : (frames : List Frame) (marks : List ShownFrame) (updates : List Area) (pixels : List Argb) → LieFlat frames marks updates pixels → LieFlat (frames_of marks updates pixels) marks updates pixels
as_read frames marks updates pixels flat = rw (read_back frames marks updates pixels flat) flat
