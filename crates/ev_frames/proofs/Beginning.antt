-- A frame's planes, taken one after another from the last job to the first.
use Rattle.std.proofs.Common.{ℕ, suc, ◌≡◌, ◌+◌, ◌-◌, ◌*◌, ◌/◌, ◌%◌, ◌<◌, ◌≤◌, ◌^◌, Bool, false, ◌||◌, List, [], ◌∷◌, ◌++◌, length, get_or, slice_index, All, Some, None, ℤ, refl, sym, ap, ◌∙◌, subst, arith, length-append}
use Rattle.std.specs.List.{AllByRecursion}
use Rattle.std.proofs.lemmas.List.{length-set}
use Rattle.std.proofs.lemmas.List.Sums.{sum_by_push}
use Rattle.ev_argb.specs.Argb.{Argb}
use Rattle.ev_argb.specs.Tile.{Tile}
use Rattle.ev_argb.specs.Grid.{HasSizeOf, across, plane_of, with_plane, painted_of, side_of}
use Rattle.ev_geom.specs.Tiles.{tiles_along}
use Rattle.ev_cmds.specs.Cuts.{Cut}
use Rattle.ev_cmds.specs.TileJobs.{tiles_of}
use Rattle.ev_draw.specs.DrawnTiles.{Job, IsJob}
use Rattle.ev_buffers.specs.BufferChain.{Lent, FitsChain}
use Rattle.ev_buffers.specs.Kept.{ShowsDone, PlaneShows, KeepsByTaking}
use Rattle.ev_frames.specs.Running.{AreFor, AreLeft, AreOn, AreOut, AreRising, IsJobOf, IsRunning, JobShows, Keeps, Lends, painted_left}
use Rattle.ev_frames.proofs.Places.{few_jobs, jobs_rise, jobs_within}
use Rattle.ev_frames.proofs.Planes.{none_out, is_home, taken}
use Rattle.ev_frames.proofs.Jobs.{add_last, as_many, left_more, tile_is}

-- what is shown while the first k planes are at home
pub record Shown (paint : ℕ → ℕ → Argb) (hidden : ℤ → ℤ → Bool) (cut : Cut) (loan : Lent) (jobs : List Job) : Type 0 where
  pub work : ℤ → ℤ → Bool
  pub draws : AreFor paint work cut
  pub home : ShowsDone cut.w cut.h paint work hidden (λ t. false) loan.picture
  pub all : AllByRecursion (JobShows cut.w cut.h paint (λ x y. work x y || hidden x y) loan.tiles) jobs

-- the planes of the jobs from the k-th on were taken, on which n pixels count as painted
pub record IsTaking (cut : Cut) (lent : Lent) (k : ℕ) (loan : Lent) (jobs : List Job) (n : ℕ) : Type 0 where
  pub width : loan.picture.w ≡ cut.w
  pub height : loan.picture.h ≡ cut.h
  pub planes : length loan.picture.tiles ≡ across cut.h * across cut.w
  pub tiles : tiles_of cut.jobs ≡ loan.tiles
  pub same : loan.tiles ≡ lent.tiles
  pub rising : AreRising loan.tiles
  pub within : All (λ t. t < length loan.picture.tiles) loan.tiles
  pub few : length loan.tiles ≤ 4096
  pub count : k + length jobs ≡ length loan.tiles
  pub left : AreLeft cut loan.tiles k jobs
  pub out : AreOut k (length loan.tiles) loan.tiles loan.picture
  pub painted : painted_of loan.picture + n ≡ painted_of lent.picture
  pub on_jobs : painted_left jobs ≡ n
  pub bound : painted_of lent.picture < 2 ^ 63
  pub shown : (paint : ℕ → ℕ → Argb) (hidden : ℤ → ℤ → Bool) → Lends paint hidden cut lent → Shown paint hidden cut loan jobs

pub begins : (cut : Cut) (lent : Lent) (k : ℕ) (work : ℤ → ℤ → Bool) → lent.picture.w ≤ 4096 → lent.picture.h ≤ 4096 → FitsChain cut.w cut.h lent.picture → AreOn lent.picture.w lent.picture.h work cut
    → tiles_of cut.jobs ≡ lent.tiles → painted_of lent.picture < 2 ^ 63 → k ≡ length cut.jobs → IsTaking cut lent k lent [] 0
begins cut lent k work wide tall fits on t p n =
    let all : k ≡ length lent.tiles = n ∙ as_many cut lent.tiles t in
    let w_is : lent.picture.w ≡ cut.w = fits.width in
    let h_is : lent.picture.h ≡ cut.h = fits.height in
    let are = sym t ∙ on.is.tiles in
    record {
      width = fits.width;
      height = fits.height;
      planes = fits.count;
      tiles = t;
      same = refl;
      rising = subst AreRising (sym are) (jobs_rise work on.capture.w on.capture.h);
      within = subst (λ (m : ℕ). All (λ u. u < m) lent.tiles) (ap (λ (w : ℕ). across on.capture.h * across w) (on.width ∙ w_is) ∙ ap (λ (h : ℕ). across h * across cut.w) (on.height ∙ h_is) ∙ sym fits.count)
          (subst (All (λ u. u < across on.capture.h * across on.capture.w)) (sym are) (jobs_within work on.capture.w on.capture.h));
      few = (let most = few_jobs work on.capture.w on.capture.h (omega (arith, on.width, wide)) (omega (arith, on.height, tall)) in omega (arith, ap length are, most));
      count = omega (arith, all);
      left = tt;
      out = subst (λ (m : ℕ). AreOut m (length lent.tiles) lent.tiles lent.picture) (sym all) (none_out lent.tiles lent.picture fits.whole);
      painted = omega arith;
      on_jobs = refl;
      bound = p;
      shown = λ paint hidden lends. record { work = lends.work; draws = lends.draws; home = lends.home; all = tt };
    }

-- the same where it isn't the first
pub before : (cut : Cut) (lent : Lent) (k : ℕ) (loan : Lent) (jobs : List Job) (n : ℕ) → IsTaking cut lent k loan jobs n → 0 < k → IsTaking cut lent (suc (k - 1)) loan jobs n
before cut lent k loan jobs n is some =
    let e : k ≡ suc (k - 1) = omega (arith, some) in
    subst (λ (m : ℕ). IsTaking cut lent m loan jobs n) e is

-- the next job, and its tile
pub is_job : (cut : Cut) (lent : Lent) (k : ℕ) (loan : Lent) (jobs : List Job) (n : ℕ) → IsTaking cut lent (suc k) loan jobs n → k < length loan.tiles
is_job cut lent k loan jobs n is = omega (arith, is.count)

pub is_tile : (cut : Cut) (lent : Lent) (k : ℕ) (loan : Lent) (jobs : List Job) (n : ℕ) → IsTaking cut lent (suc k) loan jobs n → slice_index loan.tiles k < length loan.picture.tiles
is_tile cut lent k loan jobs n is = is.within k 0 (is_job cut lent k loan jobs n is)

-- the plane that is taken next is at home
pub plane_home : (cut : Cut) (lent : Lent) (k : ℕ) (loan : Lent) (jobs : List Job) (n : ℕ) → IsTaking cut lent (suc k) loan jobs n → plane_of loan.picture (slice_index loan.tiles k) ≡ None → ⊥
plane_home cut lent k loan jobs n is none = is_home loan.tiles k loan.picture is.rising (omega (arith, is.count)) (is_tile cut lent k loan jobs n is) is.out none

-- it has the size of its job's tile
pub plane_fits : (cut : Cut) (lent : Lent) (k : ℕ) (loan : Lent) (jobs : List Job) (n : ℕ) (plane : Tile) → IsTaking cut lent (suc k) loan jobs n → HasSizeOf loan.picture.w loan.picture.h (slice_index loan.tiles k) plane
    → HasSizeOf cut.w cut.h (slice_index loan.tiles k) plane
plane_fits cut lent k loan jobs n plane is size =
    subst (λ (w : ℕ). HasSizeOf w cut.h (slice_index loan.tiles k) plane) is.width
    (subst (λ (h : ℕ). HasSizeOf loan.picture.w h (slice_index loan.tiles k) plane) is.height size)

-- the job takes it
pub job_is : (cut share : Cut) (lent : Lent) (k : ℕ) (loan loan' : Lent) (jobs : List Job) (n : ℕ) (plane : Tile) → IsTaking cut lent (suc k) loan jobs n → share ≡ cut → HasSizeOf loan.picture.w loan.picture.h (slice_index loan.tiles k) plane
    → painted_of loan.picture ≡ painted_of loan'.picture + plane.painted → IsJob (record { cut = share; k = k; plane = plane })
job_is cut share lent k loan loan' jobs n plane is s size p =
    let low : k < length cut.jobs = omega (arith, is_job cut lent k loan jobs n is, as_many cut loan.tiles is.tiles) in
    let fits = plane_fits cut lent k loan jobs n plane is size in
    subst (λ (c : Cut). IsJob (record { cut = c; k = k; plane = plane })) (sym s)
    (record {
      number = low;
      takes = λ d.
          let number : (get_or cut.jobs k d).tile ≡ slice_index loan.tiles k = tile_is cut loan.tiles k d is.tiles low in
          record {
            width = subst (λ (t : ℕ). plane.w ≡ side_of cut.w (t % tiles_along cut.w)) (sym number) fits.0;
            height = subst (λ (t : ℕ). plane.h ≡ side_of cut.h (t / tiles_along cut.w)) (sym number) fits.1;
            room = omega (arith, p, is.painted, is.bound);
          };
    })

-- there is room to count it
pub countable : (cut : Cut) (lent : Lent) (k : ℕ) (loan loan' : Lent) (jobs : List Job) (n : ℕ) (plane : Tile) → IsTaking cut lent k loan jobs n → painted_of loan.picture ≡ painted_of loan'.picture + plane.painted → n + plane.painted < 2 ^ 63
countable cut lent k loan loan' jobs n plane is p = omega (arith, p, is.painted, is.bound)

-- it is taken
pub takes : (cut : Cut) (lent : Lent) (k : ℕ) (loan loan' : Lent) (jobs jobs' : List Job) (n n' : ℕ) (plane : Tile) (job : Job) → IsTaking cut lent (suc k) loan jobs n
    → HasSizeOf loan.picture.w loan.picture.h (slice_index loan.tiles k) plane
    → loan' ≡ record loan { picture = with_plane loan.picture (slice_index loan.tiles k) None } → painted_of loan.picture ≡ painted_of loan'.picture + plane.painted → KeepsByTaking loan k (Some plane) loan'
    → n' ≡ n + plane.painted → job ≡ record { cut = cut; k = k; plane = plane } → jobs' ≡ jobs ++ job ∷ [] → IsTaking cut lent k loan' jobs' n'
takes cut lent k loan loan' jobs jobs' n n' plane job is size e p keeps m j js =
    let b = is_tile cut lent k loan jobs n is in
    let tiles : loan'.tiles ≡ loan.tiles = ap (λ l. l.tiles) e in
    let picture : loan'.picture ≡ with_plane loan.picture (slice_index loan.tiles k) None = ap (λ l. l.picture) e in
    let many : length loan'.picture.tiles ≡ length loan.picture.tiles = ap (λ q. length q.tiles) picture ∙ length-set loan.picture.tiles (slice_index loan.tiles k) None in
    let more : length jobs' ≡ suc (length jobs) = omega (arith, ap length js, length-append jobs (job ∷ [])) in
    let out : AreOut k (length loan.tiles) loan.tiles (with_plane loan.picture (slice_index loan.tiles k) None) = taken loan.tiles k loan.picture is.rising (omega (arith, is.count)) b is.out in
    let is_of : IsJobOf cut loan.tiles k job = record {
      commands = ap (λ q. q.cut) j;
      number = ap (λ q. q.k) j;
      size = subst (HasSizeOf cut.w cut.h (slice_index loan.tiles k)) (sym (ap (λ q. q.plane) j)) (plane_fits cut lent k loan jobs n plane is size);
    } in
    let sum : painted_left jobs' ≡ painted_left jobs + job.plane.painted = ap painted_left js ∙ sum_by_push (λ (o : Job). o.plane.painted) jobs job in
    record {
      width = ap (λ q. q.w) picture ∙ is.width;
      height = ap (λ q. q.h) picture ∙ is.height;
      planes = many ∙ is.planes;
      tiles = is.tiles ∙ sym tiles;
      same = tiles ∙ is.same;
      rising = subst AreRising (sym tiles) is.rising;
      within = subst (λ (c : ℕ). All (λ t. t < c) loan'.tiles) (sym many) (subst (All (λ t. t < length loan.picture.tiles)) (sym tiles) is.within);
      few = omega (arith, is.few, ap length tiles);
      count = omega (arith, more, is.count, ap length tiles);
      left = subst (λ (ts : List ℕ). AreLeft cut ts k jobs') (sym tiles) (subst (AreLeft cut loan.tiles k) (sym js) (left_more cut loan.tiles k jobs job is.left is_of));
      out = subst (λ (l : Lent). AreOut k (length l.tiles) l.tiles l.picture) (sym e) out;
      painted = omega (arith, p, is.painted, m);
      on_jobs = omega (arith, sum, is.on_jobs, m, ap (λ q. q.plane.painted) j);
      bound = is.bound;
      shown = λ paint hidden lends.
          let was = is.shown paint hidden lends in
          let sized : ShowsDone loan.picture.w loan.picture.h paint was.work hidden (λ t. false) loan.picture =
          subst (λ (w : ℕ). ShowsDone w loan.picture.h paint was.work hidden (λ t. false) loan.picture) (sym is.width)
          (subst (λ (h : ℕ). ShowsDone cut.w h paint was.work hidden (λ t. false) loan.picture) (sym is.height) was.home) in
          let both = keeps paint was.work hidden (λ t. false) sized in
          let home : ShowsDone cut.w cut.h paint was.work hidden (λ t. false) loan'.picture =
          subst (λ (w : ℕ). ShowsDone w cut.h paint was.work hidden (λ t. false) loan'.picture) is.width
          (subst (λ (h : ℕ). ShowsDone loan.picture.w h paint was.work hidden (λ t. false) loan'.picture) is.height both.0) in
          let plane_shows : PlaneShows cut.w cut.h paint (λ x y. was.work x y || hidden x y) (slice_index loan.tiles k) (Some plane) =
          subst (λ (w : ℕ). PlaneShows w cut.h paint (λ x y. was.work x y || hidden x y) (slice_index loan.tiles k) (Some plane)) is.width
          (subst (λ (h : ℕ). PlaneShows loan.picture.w h paint (λ x y. was.work x y || hidden x y) (slice_index loan.tiles k) (Some plane)) is.height both.1) in
          let here : JobShows cut.w cut.h paint (λ x y. was.work x y || hidden x y) loan.tiles job =
          subst (JobShows cut.w cut.h paint (λ x y. was.work x y || hidden x y) loan.tiles) (sym j) plane_shows in
          let all : AllByRecursion (JobShows cut.w cut.h paint (λ x y. was.work x y || hidden x y) loan.tiles) jobs' =
          subst (AllByRecursion (JobShows cut.w cut.h paint (λ x y. was.work x y || hidden x y) loan.tiles)) (sym js)
          (add_last (JobShows cut.w cut.h paint (λ x y. was.work x y || hidden x y) loan.tiles) jobs job was.all here) in
          record {
            work = was.work;
            draws = was.draws;
            home = home;
            all = subst (λ (ts : List ℕ). AllByRecursion (JobShows cut.w cut.h paint (λ x y. was.work x y || hidden x y) ts) jobs') (sym tiles) all;
          };
    }

-- all planes are taken
pub running : (cut : Cut) (lent loan : Lent) (k : ℕ) (jobs : List Job) (n : ℕ) → IsTaking cut lent k loan jobs n → k ≡ 0 → IsRunning (record { cut = cut; loan = loan; jobs = jobs; done = []; lent = n })
running cut lent loan k jobs n is z =
    let now : IsTaking cut lent 0 loan jobs n = subst (λ (m : ℕ). IsTaking cut lent m loan jobs n) z is in
    record {
      width = now.width;
      height = now.height;
      planes = now.planes;
      tiles = now.tiles;
      rising = now.rising;
      within = now.within;
      few = now.few;
      all = now.count;
      left = now.left;
      drawn = tt;
      out = now.out;
      count = omega (arith, now.on_jobs);
      costs = λ work capture of. omega (arith, now.on_jobs);
    }

pub keeps_all : (cut : Cut) (lent loan : Lent) (k : ℕ) (jobs : List Job) (n : ℕ) (paint : ℕ → ℕ → Argb) (hidden : ℤ → ℤ → Bool) → IsTaking cut lent k loan jobs n → Lends paint hidden cut lent
    → Keeps paint hidden (record { cut = cut; loan = loan; jobs = jobs; done = []; lent = n })
keeps_all cut lent loan k jobs n paint hidden is lends =
    let shown = is.shown paint hidden lends in
    record { work = shown.work; draws = shown.draws; home = shown.home; jobs = shown.all; done = tt }
