-- A frame's planes, put back one after another from the last job to the first.
use Rattle.std.proofs.Common.{ℕ, suc, ◌≡◌, ◌+◌, ◌*◌, ◌<◌, ◌≤◌, Bool, true, false, ◌||◌, List, [], ◌∷◌, ◌++◌, length, slice_index, All, Some, None, ℤ, ◌⊎◌, inl, inr, refl, sym, ap, ◌∙◌, subst, arith, length-append, eqb}
use Rattle.std.proofs.lemmas.List.{length-set}
use Rattle.std.proofs.lemmas.List.Sums.{sum_by_push, sum_by-take-le}
use Rattle.std.proofs.lemmas.Bool.Decides.{eqb_tells}
use Rattle.ev_argb.specs.Argb.{Argb}
use Rattle.ev_argb.specs.Tile.{Tile}
use Rattle.ev_argb.specs.Grid.{IsWhole, HasSizeOf, plane_of, with_plane, painted_of}
use Rattle.ev_cmds.specs.Cuts.{IsCutOf, most_painted}
use Rattle.ev_cmds.specs.TileJobs.{tiles_of}
use Rattle.ev_model.specs.Capture.{Capture}
use Rattle.ev_buffers.specs.BufferChain.{Lent}
use Rattle.ev_buffers.specs.Kept.{ShowsDone, TileShows, KeepsByPutting}
use Rattle.ev_frames.specs.Running.{Running, AreFor, AreOut, AreRising, EachFrom, IsRunning, IsShownAt, IsSizedAt, Keeps, Returns, frame_cost, painted_on, tile_cost, tiles_cost}
use Rattle.ev_frames.proofs.Planes.{put_back, whole}
use Rattle.ev_frames.proofs.Jobs.{each_front, each_last}

-- what is shown once the planes behind those that are out are back
pub record Shown (paint : ℕ → ℕ → Argb) (hidden : ℤ → ℤ → Bool) (frame : Running) (loan : Lent) (done : List Tile) : Type 0 where
  pub work : ℤ → ℤ → Bool
  pub draws : AreFor paint work frame.cut
  pub drawn : ℕ → Bool
  pub all : (k : ℕ) → length done ≤ k → k < length loan.tiles → drawn (slice_index loan.tiles k) ≡ true
  pub shows : ShowsDone frame.cut.w frame.cut.h paint work hidden drawn loan.picture
  pub rest : EachFrom (IsShownAt frame.cut.w frame.cut.h paint hidden loan.tiles) 0 done

-- these planes are still out, and on those that are back n pixels count as painted
pub record IsReturning (frame : Running) (loan : Lent) (done : List Tile) (n : ℕ) : Type 0 where
  pub width : loan.picture.w ≡ frame.cut.w
  pub height : loan.picture.h ≡ frame.cut.h
  pub planes : length loan.picture.tiles ≡ length frame.loan.picture.tiles
  pub tiles : tiles_of frame.cut.jobs ≡ loan.tiles
  pub rising : AreRising loan.tiles
  pub within : All (λ t. t < length loan.picture.tiles) loan.tiles
  pub few : length done ≤ length loan.tiles
  pub short : length loan.tiles ≤ 4096
  pub sizes : EachFrom (IsSizedAt frame.cut.w frame.cut.h loan.tiles) 0 done
  pub out : AreOut 0 (length done) loan.tiles loan.picture
  pub painted : painted_of loan.picture ≡ painted_of frame.loan.picture + n
  pub count : n + painted_on done ≤ frame.lent + 4096 * most_painted
  pub costs : (work : ℤ → ℤ → Bool) (capture : Capture) → IsCutOf work capture frame.cut → n + painted_on done ≤ frame.lent + frame_cost work capture
  pub shown : (paint : ℕ → ℕ → Argb) (hidden : ℤ → ℤ → Bool) → Keeps paint hidden frame → Shown paint hidden frame loan done

pub begins : (frame : Running) → IsRunning frame → frame.jobs ≡ [] → IsReturning frame frame.loan frame.done 0
begins frame is none =
    let all : length frame.done ≡ length frame.loan.tiles = omega (arith, is.all, ap length none) in
    record {
      width = is.width;
      height = is.height;
      planes = refl;
      tiles = is.tiles;
      rising = is.rising;
      within = is.within;
      few = omega (arith, all);
      short = is.few;
      sizes = is.drawn;
      out = subst (λ (n : ℕ). AreOut 0 n frame.loan.tiles frame.loan.picture) (sym all) is.out;
      painted = omega arith;
      count = omega (arith, is.count, is.few, all);
      costs = λ work capture of.
          let was = is.costs work capture of in
          let most = sum_by-take-le (tile_cost work capture) frame.loan.tiles (length frame.done) in
          let all : tiles_cost work capture frame.loan.tiles ≡ frame_cost work capture = ap (tiles_cost work capture) (sym is.tiles ∙ of.tiles) in
          omega (arith, was, most, all);
      shown = λ paint hidden keeps. record {
        work = keeps.work;
        draws = keeps.draws;
        drawn = λ t. false;
        all = λ k low high. absurd (omega (arith, all));
        shows = keeps.home;
        rest = keeps.done;
      };
    }

-- the place of the last one that is out
pub low : (frame : Running) (loan : Lent) (done rest : List Tile) (plane : Tile) (k n : ℕ) → IsReturning frame loan done n → done ≡ rest ++ plane ∷ [] → k ≡ length rest → k < length loan.tiles
low frame loan done rest plane k n is e m = omega (arith, is.few, ap length e, length-append rest (plane ∷ []), m)

-- its plane is out, and has the size of its tile
pub is_out : (frame : Running) (loan : Lent) (done rest : List Tile) (plane : Tile) (k n : ℕ) → IsReturning frame loan done n → done ≡ rest ++ plane ∷ [] → k ≡ length rest → plane_of loan.picture (slice_index loan.tiles k) ≡ None
is_out frame loan done rest plane k n is e m = is.out.out k (omega arith) (omega (arith, ap length e, length-append rest (plane ∷ []), m))

pub plane_fits : (frame : Running) (loan : Lent) (done rest : List Tile) (plane : Tile) (k n : ℕ) → IsReturning frame loan done n → done ≡ rest ++ plane ∷ [] → k ≡ length rest
    → HasSizeOf loan.picture.w loan.picture.h (slice_index loan.tiles k) plane
plane_fits frame loan done rest plane k n is e m =
    let here : HasSizeOf frame.cut.w frame.cut.h (slice_index loan.tiles k) plane =
    each_last (IsSizedAt frame.cut.w frame.cut.h loan.tiles) 0 k rest plane (omega (arith, m)) (subst (EachFrom (IsSizedAt frame.cut.w frame.cut.h loan.tiles) 0) e is.sizes) in
    subst (λ (w : ℕ). HasSizeOf w loan.picture.h (slice_index loan.tiles k) plane) (sym is.width)
    (subst (λ (h : ℕ). HasSizeOf frame.cut.w h (slice_index loan.tiles k) plane) (sym is.height) here)

-- there is room to count it
pub countable : (frame : Running) (loan : Lent) (done rest : List Tile) (plane : Tile) (n : ℕ) → IsReturning frame loan done n → done ≡ rest ++ plane ∷ [] → n + plane.painted ≤ frame.lent + 4096 * most_painted
countable frame loan done rest plane n is e =
    let sum : painted_on done ≡ painted_on rest + plane.painted = ap painted_on e ∙ sum_by_push (λ (p : Tile). p.painted) rest plane in
    omega (arith, is.count, sum)

either : (b c : Bool) → (b ≡ true) ⊎ (c ≡ true) → (b || c) ≡ true
either true c h = refl
either false c (inl e) = absurd (cc)
either false c (inr e) = e

same_eqb : (t : ℕ) → eqb t t ≡ true
same_eqb t = elim (eqb_tells t t) [
  | inl e ↦ e.0
  | inr o ↦ absurd (o.1 refl)
]

-- what is shown once it is back
put_shown : (frame : Running) (loan loan' : Lent) (done rest : List Tile) (plane : Tile) (k n : ℕ) (paint : ℕ → ℕ → Argb) (hidden : ℤ → ℤ → Bool) → IsReturning frame loan done n → done ≡ rest ++ plane ∷ [] → k ≡ length rest
    → loan' ≡ record loan { picture = with_plane loan.picture (slice_index loan.tiles k) (Some plane) } → KeepsByPutting loan k plane loan' → Keeps paint hidden frame → Shown paint hidden frame loan' rest
put_shown frame loan loan' done rest plane k n paint hidden is e m l keeps so =
    let tiles : loan'.tiles ≡ loan.tiles = ap (λ q. q.tiles) l in
    let size : length done ≡ suc k = omega (arith, ap length e, length-append rest (plane ∷ []), m) in
    let was = is.shown paint hidden so in
    let split = subst (EachFrom (IsShownAt frame.cut.w frame.cut.h paint hidden loan.tiles) 0) e was.rest in
    let here : TileShows frame.cut.w frame.cut.h paint hidden (slice_index loan.tiles k) plane =
    each_last (IsShownAt frame.cut.w frame.cut.h paint hidden loan.tiles) 0 k rest plane (omega (arith, m)) split in
    let sized : TileShows loan.picture.w loan.picture.h paint hidden (slice_index loan.tiles k) plane =
    subst (λ (w : ℕ). TileShows w loan.picture.h paint hidden (slice_index loan.tiles k) plane) (sym is.width)
    (subst (λ (h : ℕ). TileShows frame.cut.w h paint hidden (slice_index loan.tiles k) plane) (sym is.height) here) in
    let home : ShowsDone loan.picture.w loan.picture.h paint was.work hidden was.drawn loan.picture =
    subst (λ (w : ℕ). ShowsDone w loan.picture.h paint was.work hidden was.drawn loan.picture) (sym is.width)
    (subst (λ (h : ℕ). ShowsDone frame.cut.w h paint was.work hidden was.drawn loan.picture) (sym is.height) was.shows) in
    let now = keeps paint was.work hidden was.drawn home sized in
    record {
      work = was.work;
      draws = was.draws;
      drawn = λ t. was.drawn t || eqb t (slice_index loan.tiles k);
      all = λ j low high.
          let there : slice_index loan'.tiles j ≡ slice_index loan.tiles j = ap (λ ts. slice_index ts j) tiles in
          let fits : j < length loan.tiles = omega (arith, high, ap length tiles) in
          rw there
          (either (was.drawn (slice_index loan.tiles j)) (eqb (slice_index loan.tiles j) (slice_index loan.tiles k))
          (elim (eqb_tells j k) [
            | inl s ↦ inr (rw s.1 (same_eqb (slice_index loan.tiles k)))
            | inr o ↦ inl (was.all j (omega (arith, low, size, m, o.1)) fits)
          ]));
      shows = subst (λ (w : ℕ). ShowsDone w frame.cut.h paint was.work hidden (λ t. was.drawn t || eqb t (slice_index loan.tiles k)) loan'.picture) is.width
          (subst (λ (h : ℕ). ShowsDone loan.picture.w h paint was.work hidden (λ t. was.drawn t || eqb t (slice_index loan.tiles k)) loan'.picture) is.height now);
      rest = subst (λ (ts : List ℕ). EachFrom (IsShownAt frame.cut.w frame.cut.h paint hidden ts) 0 rest) (sym tiles) (each_front (IsShownAt frame.cut.w frame.cut.h paint hidden loan.tiles) 0 rest plane split);
    }

-- the last plane is put back
pub returns : (frame : Running) (loan loan' : Lent) (done rest : List Tile) (plane : Tile) (k n n' : ℕ) → IsReturning frame loan done n → done ≡ rest ++ plane ∷ [] → k ≡ length rest
    → loan' ≡ record loan { picture = with_plane loan.picture (slice_index loan.tiles k) (Some plane) } → painted_of loan'.picture ≡ painted_of loan.picture + plane.painted → n' ≡ n + plane.painted → KeepsByPutting loan k plane loan'
    → IsReturning frame loan' rest n'
returns frame loan loan' done rest plane k n n' is e m l p c keeps =
    let h = low frame loan done rest plane k n is e m in
    let b : slice_index loan.tiles k < length loan.picture.tiles = is.within k 0 h in
    let tiles : loan'.tiles ≡ loan.tiles = ap (λ q. q.tiles) l in
    let picture : loan'.picture ≡ with_plane loan.picture (slice_index loan.tiles k) (Some plane) = ap (λ q. q.picture) l in
    let many : length loan'.picture.tiles ≡ length loan.picture.tiles = ap (λ q. length q.tiles) picture ∙ length-set loan.picture.tiles (slice_index loan.tiles k) (Some plane) in
    let size : length done ≡ suc k = omega (arith, ap length e, length-append rest (plane ∷ []), m) in
    let sum : painted_on done ≡ painted_on rest + plane.painted = ap painted_on e ∙ sum_by_push (λ (q : Tile). q.painted) rest plane in
    let out : AreOut 0 k loan.tiles (with_plane loan.picture (slice_index loan.tiles k) (Some plane)) =
    put_back loan.tiles k loan.picture plane is.rising (omega (arith, is.few, size)) b (subst (λ (j : ℕ). AreOut 0 j loan.tiles loan.picture) size is.out) in
    record {
      width = ap (λ q. q.w) picture ∙ is.width;
      height = ap (λ q. q.h) picture ∙ is.height;
      planes = many ∙ is.planes;
      tiles = is.tiles ∙ sym tiles;
      rising = subst AreRising (sym tiles) is.rising;
      within = subst (λ (j : ℕ). All (λ t. t < j) loan'.tiles) (sym many) (subst (All (λ t. t < length loan.picture.tiles)) (sym tiles) is.within);
      few = omega (arith, is.few, size, m, ap length tiles);
      short = omega (arith, is.short, ap length tiles);
      sizes = subst (λ (ts : List ℕ). EachFrom (IsSizedAt frame.cut.w frame.cut.h ts) 0 rest) (sym tiles)
          (each_front (IsSizedAt frame.cut.w frame.cut.h loan.tiles) 0 rest plane (subst (EachFrom (IsSizedAt frame.cut.w frame.cut.h loan.tiles) 0) e is.sizes));
      out = subst (λ (j : ℕ). AreOut 0 j loan'.tiles loan'.picture) m (subst (λ (q : Lent). AreOut 0 k q.tiles q.picture) (sym l) out);
      painted = omega (arith, p, c, is.painted);
      count = omega (arith, is.count, sum, c);
      costs = λ work capture of. let was = is.costs work capture of in omega (arith, was, sum, c);
      shown = λ paint hidden so. put_shown frame loan loan' done rest plane k n paint hidden is e m l keeps so;
    }

-- all planes are back
pub all_back : (frame : Running) (loan : Lent) (done : List Tile) (n : ℕ) → IsReturning frame loan done n → done ≡ [] → IsWhole loan.picture
all_back frame loan done n is none = whole loan.tiles loan.picture (subst (λ (j : ℕ). AreOut 0 j loan.tiles loan.picture) (ap length none) is.out)

pub returned : (frame : Running) (loan : Lent) (done : List Tile) (n : ℕ) (paint : ℕ → ℕ → Argb) (hidden : ℤ → ℤ → Bool) → IsReturning frame loan done n → done ≡ [] → Keeps paint hidden frame → Returns paint hidden frame.cut loan
returned frame loan done n paint hidden is none so =
    let was = is.shown paint hidden so in
    record { work = was.work; draws = was.draws; drawn = was.drawn; all = λ k high. was.all k (omega (arith, ap length none)) high; shows = was.shows }
