-- Frames whose tiles took in all records.
use Rattle.std.proofs.Common.{ℕ, ◌≡◌, ◌+◌, ◌-◌, ◌/◌, ◌%◌, ◌<◌, ◌≤◌, Bool, true, not, ℤ, pos, List, ◌∷◌, map, length, get_or, drop, All, refl, sym, ap, ◌∙◌, subst, ⊎_elim, arith}
use Rattle.std.proofs.lemmas.List.{drop_more, length-drop, length-map}
use Rattle.std.proofs.Math.Seq.{drop-length}
use Rattle.std.proofs.lemmas.Bool.{cases_lt, and_parts}
use Rattle.ev_argb.specs.Argb.{clear, IsPremultiplied}
use Rattle.ev_argb.specs.Grid.{side_of}
use Rattle.ev_geom.specs.Tiles.{tiles_along}
use Rattle.ev_region.specs.Count.{LiesWithin}
use Rattle.ev_model.specs.Capture.{Capture, capture_on}
use Rattle.ev_model.specs.Look.{Look, look_of}
use Rattle.ev_model.specs.declared.scene.Record.{Record}
use Rattle.ev_cmds.specs.Cuts.{Cut, IsCut, IsCutOf, IsJobOn, PaintsAll}
use Rattle.ev_cmds.specs.Frames.{IsOpened, Takes, HasTaken}
use Rattle.ev_cmds.specs.TileJobs.{IsTileOf}
use Rattle.ev_cmds.specs.Masks.{has_bit}
use Rattle.ev_cmds.specs.Opaque.{is_hidden}
use Rattle.ev_cmds.specs.Sheets.{LiesOn}
use Rattle.ev_cmds.specs.declared.frame.Frame.{Frame}
use Rattle.ev_cmds.specs.declared.tile.TileCommands.{TileCommands}
use Rattle.ev_cmds.proofs.Counting.{few_painted}

-- the records from the i-th on
abbrev pub looks_from : List Record → ℕ → List Look
looks_from records i = map look_of (drop i records)

pub few_from : (records : List Record) (i : ℕ) → length records ≤ 65536 → length (looks_from records i) ≤ 65536
few_from records i few = let same = length-map (drop i records) look_of in let rest = length-drop i records in omega arith

pub nothing_taken : (work : ℤ → ℤ → Bool) (records : List Record) (i w h : ℕ) (frame : Frame) → i ≡ length records → w ≤ 4096 → h ≤ 4096 → IsOpened work w h frame → HasTaken work (looks_from records i) w h frame
nothing_taken work records i w h frame end wide tall opened =
    subst (λ (looks : List Look). HasTaken work looks w h frame) (sym (ap (λ (n : ℕ). looks_from records n) end ∙ ap (map look_of) (drop-length records)))
    (record {
      width = opened.width;
      height = opened.height;
      table = record { width = opened.sized.width; height = opened.sized.height; columns = opened.sized.columns; places = rw (opened.width, opened.height) opened.table; few = opened.few };
      bounds = opened.bounds;
      tiles = opened.tiles;
      paintable = tt;
      each = opened.each;
    })

pub one_taken : (work : ℤ → ℤ → Bool) (records : List Record) (i w h : ℕ) (d : Record) (old new : Frame) → 0 < i → i ≤ length records → HasTaken work (looks_from records i) w h old → Takes (get_or records (i - 1) d) old new → HasTaken work (looks_from records (i - 1)) w h new
one_taken work records i w h d old new some within before takes =
    subst (λ (looks : List Look). HasTaken work looks w h new) (sym (ap (map look_of) (drop_more records (i - 1) d (omega arith)) ∙ ap (λ (n : ℕ). look_of (get_or records (i - 1) d) ∷ looks_from records n) (let e : i - 1 + 1 ≡ i = omega arith in e)))
    (record {
      width = ap (λ t. t.w) takes.table ∙ before.width;
      height = ap (λ t. t.h) takes.table ∙ before.height;
      table = rw (takes.table, takes.all.tiles) before.table;
      bounds = rw takes.table before.bounds;
      tiles = takes.all.tiles ∙ before.tiles;
      paintable = (takes.all.paintable, before.paintable);
      each =
          subst (λ (n : ℕ). All (IsTileOf work (look_of (get_or records (i - 1) d) ∷ looks_from records i) n h) new.jobs.items) before.width
          (subst (λ (n : ℕ). All (IsTileOf work (look_of (get_or records (i - 1) d) ∷ looks_from records i) old.table.w n) new.jobs.items) before.height
          (takes.all.more work (looks_from records i) before.bounds before.paintable
          (subst (λ (n : ℕ). All (IsTileOf work (looks_from records i) n old.table.h) old.jobs.items) (sym before.width)
          (subst (λ (n : ℕ). All (IsTileOf work (looks_from records i) w n) old.jobs.items) (sym before.height) before.each))));
    })

-- bare places lie on the canvas
bare_on : (work : ℤ → ℤ → Bool) (looks : List Look) (w h : ℕ) (job : TileCommands) → LiesWithin w h work → IsTileOf work looks w h job → LiesOn (side_of w (job.tile % tiles_along w)) (side_of h (job.tile / tiles_along w)) job.sheet.bare
bare_on work looks w h job within tile = record {
  right = λ x y wide tall bare.
      let inside : job.left + x < w = ⊎_elim (λ (l : job.left + x < w). l) (λ (l : w ≤ job.left + x). absurd (let none = within.right (job.left + x) (job.top + y) l in let some = in_work x y wide tall bare in cc)) (cases_lt (job.left + x) w) in
      omega (arith, inside, tile.placed.left);
  bottom = λ x y wide tall bare.
      let inside : job.top + y < h = ⊎_elim (λ (l : job.top + y < h). l) (λ (l : h ≤ job.top + y). absurd (let none = within.below (job.left + x) (job.top + y) l in let some = in_work x y wide tall bare in cc)) (cases_lt (job.top + y) h) in
      omega (arith, inside, tile.placed.top);
}
  where
    in_work : (x y : ℕ) → x < 64 → y < 64 → has_bit job.sheet.bare x y ≡ true → work (pos (job.left + x)) (pos (job.top + y)) ≡ true
    in_work x y wide tall bare = (and_parts (work (pos (job.left + x)) (pos (job.top + y))) (not (is_hidden looks (job.left + x) (job.top + y))) (sym (tile.shows.bare_places x y wide tall) ∙ bare)).0

pub is_cut : (work : ℤ → ℤ → Bool) (looks : List Look) (w h : ℕ) (frame : Frame) → w ≤ 4096 → h ≤ 4096 → length looks ≤ 65536 → LiesWithin w h work → HasTaken work looks w h frame → IsCut (record { w = w; h = h; jobs = frame.jobs.items })
is_cut work looks w h frame wide tall few within taken = record {
  width = wide;
  height = tall;
  jobs = λ k d low. is_job (get_or frame.jobs.items k d) (taken.each k d low);
}
  where
    is_job : (job : TileCommands) → IsTileOf work looks w h job → IsJobOn w h job
    is_job job tile = record {
      placed = tile.placed;
      sheet = record { bare = bare_on work looks w h job within tile; commands = tile.fits };
      few = few_painted work looks job.left job.top _ _ job.sheet.bare job.sheet.commands.items few tile.fits tile.shows;
    }

pub is_cut_of : (work : ℤ → ℤ → Bool) (records : List Record) (i w h : ℕ) (frame : Frame) → i ≡ 0 → HasTaken work (looks_from records i) w h frame → IsCutOf work (capture_on w h records) (record { w = w; h = h; jobs = frame.jobs.items })
is_cut_of work records i w h frame none taken =
    subst (λ (n : ℕ). IsCutOf work (record { w = w; h = h; looks = looks_from records n }) (record { w = w; h = h; jobs = frame.jobs.items })) none
    (record { width = refl; height = refl; tiles = taken.tiles; shows = λ k d low. (taken.each k d low).shows })

clear_good : IsPremultiplied clear
clear_good = record { alpha = omega arith; red = omega arith; green = omega arith; blue = omega arith }

pub paints_all : (work : ℤ → ℤ → Bool) (capture : Capture) (cut : Cut) → IsCutOf work capture cut → PaintsAll work capture cut
paints_all work capture cut is k d x y low wide tall inside = (is.shows k d low).inside x y clear wide tall inside clear_good
