-- What the planes of a frame show.
use Rattle.std.proofs.Common.{ℕ, suc, ◌≡◌, ◌+◌, ◌*◌, ◌/◌, ◌%◌, ◌<◌, ◌≤◌, Bool, true, false, ◌||◌, List, [], ◌∷◌, ◌++◌, length, get_or, slice_index, take, ℤ, pos, refl, sym, ap, ◌∙◌, subst, arith, length-append}
use Rattle.std.specs.List.{AllByRecursion}
use Rattle.std.proofs.lemmas.Nat.{mod-mul-add, div-mul-add}
use Rattle.std.proofs.lemmas.List.Sums.{sum_by_more, sum_by_push}
use Rattle.ev_argb.specs.Argb.{Argb, clear}
use Rattle.ev_argb.specs.Tile.{Tile, tile_at}
use Rattle.ev_argb.specs.Grid.{HasSizeOf, across}
use Rattle.ev_model.specs.Capture.{Capture}
use Rattle.ev_model.specs.Look.{Look}
use Rattle.ev_cmds.specs.Cuts.{Cut, IsCutOf, most_painted}
use Rattle.ev_cmds.specs.TileJobs.{IsPlaced, tiles_of}
use Rattle.ev_cmds.specs.Sheets.{cost, painted_looks}
use Rattle.ev_cmds.specs.declared.tile.TileCommands.{TileCommands}
use Rattle.ev_draw.specs.DrawnTiles.{Job, tile_of as commands_of}
use Rattle.ev_draw.specs.Making.{IsDrawn, PaintsAtMost}
use Rattle.ev_buffers.specs.Kept.{TileShows}
use Rattle.ev_frames.specs.Running.{Running, AreFor, AreLeft, IsJobOf, IsRunning, IsShownAt, IsSizedAt, JobShows, Keeps, painted_left, painted_on, tile_cost, tiles_cost}
use Rattle.ev_frames.proofs.Jobs.{as_many, each_more, next, some_of, split_last, tile_is}

or_so : (a b : Bool) → a ≡ false → b ≡ false → (a || b) ≡ false
or_so a b e f = rw (e, f) refl

-- a pixel of a tile that was drawn is what is painted, inside the work region and outside of it
right : (work : ℤ → ℤ → Bool) (looks : List Look) (left top : ℕ) (old new : Tile) (i j x y : ℕ) (value : Argb) (b : Bool) → IsDrawn work looks left top old new → i < old.w → j < old.h → left + i ≡ x → top + j ≡ y
    → work (pos x) (pos y) ≡ b → painted_looks looks x y clear ≡ value → (b ≡ false → tile_at old i j ≡ value) → tile_at new i j ≡ value
right work looks left top old new i j x y value true drawn wide high at_x at_y inside is else =
    drawn.inside i j wide high (ap (λ k. work (pos k) (pos (top + j))) at_x ∙ ap (λ k. work (pos x) (pos k)) at_y ∙ inside)
    ∙ ap (λ k. painted_looks looks k (top + j) clear) at_x ∙ ap (λ k. painted_looks looks x k clear) at_y ∙ is
right work looks left top old new i j x y value false drawn wide high at_x at_y inside is else =
    drawn.outside i j wide high (ap (λ k. work (pos k) (pos (top + j))) at_x ∙ ap (λ k. work (pos x) (pos k)) at_y ∙ inside) ∙ else refl

-- a plane that showed what is painted outside the work region shows it everywhere once it is drawn
pub drawn_shows : (w h : ℕ) (paint : ℕ → ℕ → Argb) (work hidden : ℤ → ℤ → Bool) (looks : List Look) (t : ℕ) (old new : Tile) → HasSizeOf w h t old
    → IsDrawn work looks (t % across w * 64) (t / across w * 64) old new → ((x y : ℕ) → painted_looks looks x y clear ≡ paint x y) → TileShows w h paint (λ x y. work x y || hidden x y) t old → TileShows w h paint hidden t new
drawn_shows w h paint work hidden looks t old new size drawn painted shows = record {
  pixels = λ x y xw yh here hid.
      let column : x / 64 < across w = omega arith in
      let column_is : t % across w ≡ x / 64 = ap (λ k. k % across w) (sym here) ∙ mod-mul-add (y / 64) (across w) (x / 64) column in
      let row_is : t / across w ≡ y / 64 = ap (λ k. k / across w) (sym here) ∙ div-mul-add (y / 64) (across w) (x / 64) column in
      let wide : x % 64 < old.w = omega (arith, size.0, column_is) in
      let high : y % 64 < old.h = omega (arith, size.1, row_is) in
      let at_x : t % across w * 64 + x % 64 ≡ x = omega (arith, column_is) in
      let at_y : t / across w * 64 + y % 64 ≡ y = omega (arith, row_is) in
      right work looks (t % across w * 64) (t / across w * 64) old new (x % 64) (y % 64) x y (paint x y) (work (pos x) (pos y)) drawn wide high at_x at_y refl (painted x y)
      (λ out. shows.pixels x y xw yh here (or_so (work (pos x) (pos y)) (hidden (pos x) (pos y)) out hid));
}

-- what drawing a job gives
pub record Drawn (job : Job) (plane : Tile) : Type 0 where
  pub placed : (d : TileCommands) → IsPlaced job.cut.w job.cut.h (commands_of job d)
  pub most : PaintsAtMost most_painted job.plane plane
  pub drawn : (work : ℤ → ℤ → Bool) (capture : Capture) (d : TileCommands) → IsCutOf work capture job.cut
      → IsDrawn work capture.looks (commands_of job d).left (commands_of job d).top job.plane plane

-- what the k-th job of a frame draws, by its tile
drawn_here : (cut : Cut) (tiles : List ℕ) (k : ℕ) (work : ℤ → ℤ → Bool) (capture : Capture) (job : Job) (plane : Tile) → tiles_of cut.jobs ≡ tiles → k < length tiles → IsJobOf cut tiles k job → Drawn job plane → IsCutOf work capture cut
    → IsDrawn work capture.looks (slice_index tiles k % across cut.w * 64) (slice_index tiles k / across cut.w * 64) job.plane plane
drawn_here cut tiles k work capture job plane same low is draws of =
    let there : k < length cut.jobs = omega (arith, low, as_many cut tiles same) in
    let d = some_of cut.jobs k there in
    let tile_here : get_or job.cut.jobs job.k d ≡ get_or cut.jobs k d = ap (λ (c : Cut). get_or c.jobs job.k d) is.commands ∙ ap (λ (n : ℕ). get_or cut.jobs n d) is.number in
    let placed : IsPlaced cut.w cut.h (get_or cut.jobs k d) = subst (λ (t : TileCommands). IsPlaced cut.w cut.h t) tile_here (subst (λ (c : Cut). IsPlaced c.w c.h (get_or job.cut.jobs job.k d)) is.commands (draws.placed d)) in
    let number : (get_or cut.jobs k d).tile ≡ slice_index tiles k = tile_is cut tiles k d same there in
    let drawn : IsDrawn work capture.looks (get_or cut.jobs k d).left (get_or cut.jobs k d).top job.plane plane =
    subst (λ (t : TileCommands). IsDrawn work capture.looks t.left t.top job.plane plane) tile_here
    (draws.drawn work capture d (subst (IsCutOf work capture) (sym is.commands) of)) in
    subst (λ (left : ℕ). IsDrawn work capture.looks left (slice_index tiles k / across cut.w * 64) job.plane plane) (placed.left ∙ ap (λ t. t % across cut.w * 64) number)
    (subst (λ (top : ℕ). IsDrawn work capture.looks (get_or cut.jobs k d).left top job.plane plane) (placed.top ∙ ap (λ t. t / across cut.w * 64) number) drawn)

-- what it shows
job_shows : (cut : Cut) (tiles : List ℕ) (k : ℕ) (paint : ℕ → ℕ → Argb) (work hidden : ℤ → ℤ → Bool) (job : Job) (plane : Tile) → tiles_of cut.jobs ≡ tiles → k < length tiles → IsJobOf cut tiles k job → Drawn job plane
    → AreFor paint work cut → JobShows cut.w cut.h paint (λ x y. work x y || hidden x y) tiles job → IsShownAt cut.w cut.h paint hidden tiles k plane
job_shows cut tiles k paint work hidden job plane same low is draws for shows =
    let before : TileShows cut.w cut.h paint (λ x y. work x y || hidden x y) (slice_index tiles k) job.plane = subst (λ (n : ℕ). TileShows cut.w cut.h paint (λ x y. work x y || hidden x y) (slice_index tiles n) job.plane) is.number shows in
    drawn_shows cut.w cut.h paint work hidden for.capture.looks (slice_index tiles k) job.plane plane is.size
    (drawn_here cut tiles k work for.capture job plane same low is draws for.is) for.painted before

-- a frame whose next job was drawn
abbrev pub stepped : Running → List Job → Tile → Running
stepped old rest plane = record old { jobs = rest; done = old.done ++ plane ∷ [] }

-- the number of the next job
low : (old : Running) (rest : List Job) (job : Job) → old.jobs ≡ rest ++ job ∷ [] → length old.done + length old.jobs ≡ length old.loan.tiles → length old.done < length old.loan.tiles
low old rest job j all = omega (arith, all, ap length j, length-append rest (job ∷ []))

-- a step keeps to what is painted
pub step_keeps : (paint : ℕ → ℕ → Argb) (hidden : ℤ → ℤ → Bool) (old : Running) (rest : List Job) (job : Job) (plane : Tile) → old.jobs ≡ rest ++ job ∷ [] → IsRunning old → Drawn job plane
    → Keeps paint hidden old → Keeps paint hidden (stepped old rest plane)
step_keeps paint hidden old rest job plane j is draws keeps =
    let first = next old.cut old.loan.tiles (length old.done) job rest (subst (AreLeft old.cut old.loan.tiles (length old.done)) j is.left) in
    let both = split_last (JobShows old.cut.w old.cut.h paint (λ x y. keeps.work x y || hidden x y) old.loan.tiles) rest job
    (subst (AllByRecursion (JobShows old.cut.w old.cut.h paint (λ x y. keeps.work x y || hidden x y) old.loan.tiles)) j keeps.jobs) in
    record {
      work = keeps.work;
      draws = keeps.draws;
      home = keeps.home;
      jobs = both.0;
      done = each_more (IsShownAt old.cut.w old.cut.h paint hidden old.loan.tiles) 0 (length old.done) old.done plane (omega arith) keeps.done
          (job_shows old.cut old.loan.tiles (length old.done) paint keeps.work hidden job plane is.tiles (low old rest job j is.all) first.is draws keeps.draws both.1);
    }

-- it stays a frame that is running
pub step_runs : (old : Running) (rest : List Job) (job : Job) (plane : Tile) → old.jobs ≡ rest ++ job ∷ [] → IsRunning old → Drawn job plane → IsRunning (stepped old rest plane)
step_runs old rest job plane j is draws =
    let first = next old.cut old.loan.tiles (length old.done) job rest (subst (AreLeft old.cut old.loan.tiles (length old.done)) j is.left) in
    let more : length (old.done ++ plane ∷ []) ≡ suc (length old.done) = omega (arith, length-append old.done (plane ∷ [])) in
    let one : length old.jobs ≡ suc (length rest) = omega (arith, ap length j, length-append rest (job ∷ [])) in
    let size : HasSizeOf old.cut.w old.cut.h (slice_index old.loan.tiles (length old.done)) plane = (draws.most.width ∙ first.is.size.0, draws.most.height ∙ first.is.size.1) in
    let drawn : painted_on (old.done ++ plane ∷ []) ≡ painted_on old.done + plane.painted = sum_by_push (λ (p : Tile). p.painted) old.done plane in
    let left : painted_left old.jobs ≡ painted_left rest + job.plane.painted = ap painted_left j ∙ sum_by_push (λ (o : Job). o.plane.painted) rest job in
    record {
      width = is.width;
      height = is.height;
      planes = is.planes;
      tiles = is.tiles;
      rising = is.rising;
      within = is.within;
      few = is.few;
      all = omega (arith, more, one, is.all);
      left = subst (λ (n : ℕ). AreLeft old.cut old.loan.tiles n rest) (sym more) first.left;
      drawn = each_more (IsSizedAt old.cut.w old.cut.h old.loan.tiles) 0 (length old.done) old.done plane (omega arith) is.drawn size;
      out = is.out;
      count = omega (arith, is.count, drawn, left, more, draws.most.count);
      costs = λ work capture of.
          let here = drawn_here old.cut old.loan.tiles (length old.done) work capture job plane is.tiles (low old rest job j is.all) first.is draws of in
          let wide : cost work capture.looks (slice_index old.loan.tiles (length old.done) % across old.cut.w * 64) (slice_index old.loan.tiles (length old.done) / across old.cut.w * 64) ≡ tile_cost work capture (slice_index old.loan.tiles (length old.done)) =
          ap (λ (w : ℕ). cost work capture.looks (slice_index old.loan.tiles (length old.done) % across w * 64) (slice_index old.loan.tiles (length old.done) / across w * 64)) of.width in
          let ends : tiles_cost work capture (take (length (old.done ++ plane ∷ [])) old.loan.tiles) ≡ tiles_cost work capture (take (length old.done) old.loan.tiles) + tile_cost work capture (slice_index old.loan.tiles (length old.done)) =
          ap (λ (n : ℕ). tiles_cost work capture (take n old.loan.tiles)) (let e : length (old.done ++ plane ∷ []) ≡ length old.done + 1 = omega (arith, more) in e)
          ∙ sum_by_more (tile_cost work capture) old.loan.tiles (length old.done) 0 (low old rest job j is.all) in
          let was = is.costs work capture of in
          let count : plane.painted ≤ job.plane.painted + tile_cost work capture (slice_index old.loan.tiles (length old.done)) = subst (λ (n : ℕ). plane.painted ≤ job.plane.painted + n) wide here.count in
          omega (arith, was, drawn, left, ends, count);
    }
