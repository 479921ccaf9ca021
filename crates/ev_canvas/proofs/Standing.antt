-- The newest start and its buffers: how a start becomes the newest, and how its frame is drawn and ends.
use Rattle.std.proofs.Common.{◌≡◌, ℕ, ◌+◌, ◌-◌, ◌*◌, ◌^◌, ◌<◌, ◌≤◌, ◌==◌, min, ℤ, Bool, true, false, if◌then◌else◌, List, [], ◌∷◌, length, take, drop, Option, Some, None, IfSome, IsSome, is_some, refl, sym, ap, ap₂, subst, ◌∙◌, arith}
use Rattle.std.proofs.Math.Bool.{true≢false}
use Rattle.std.proofs.Math.Nat.{mul-le-mul}
use Rattle.std.proofs.lemmas.Bool.Decides.{nat_tests}
use Rattle.ev_argb.specs.Argb.{Argb, clear}
use Rattle.ev_geom.specs.Area.{Area}
use Rattle.ev_geom.specs.Bands.{has_pixel}
use Rattle.ev_model.specs.Capture.{Capture}
use Rattle.ev_model.specs.Paint.{paint}
use Rattle.ev_buffers.specs.Kept.{IsNew, Follows, everywhere}
use Rattle.ev_buffers.specs.BufferChain.{Chain, last_updates, painted_on_all}
use Rattle.ev_buffers.specs.Marks.{in_picture}
use Rattle.ev_buffers.specs.declared.mark.Mark.{Mark}
use Rattle.ev_frames.specs.Running.{Running, Keeps}
use Rattle.ev_frames.specs.Stand.{Stand, KeepsTo, KeepsOn, drawn_of, left_of, painted_by, painted_out}
use Rattle.ev_canvas.specs.Starts.{Latest, OwesAll, is_running, has_size_of, repairs, tiles_in, pixels_opened}
use Rattle.ev_canvas.specs.CanvasFrames.{IsFrame, drawn_by, finishing, missed_for, runs}
use Rattle.ev_canvas.specs.Drawings.{AreUsedLast, IsNewest, IsDrawing, IsBegun, IsSetUp, StandsNow, StepsOn, IsDrawnWhole, FlushesTo, FollowsOn, FollowsIf, captured, capture_in, keeps_size, last_drawn, latest_in, latest_of, missed_of, newest_by, painted_of, updates_in}
use Rattle.ev_canvas.specs.declared.begun.Begun.{Begun}
use Rattle.ev_canvas.specs.declared.drawing.Drawing.{Drawing}
use Rattle.ev_canvas.specs.declared.flush.Finish.{Finish}
use Rattle.ev_canvas.specs.declared.flush.Finish.TheVariants as finish
use Rattle.ev_canvas.specs.declared.newest.Drawn.{Drawn}
use Rattle.ev_canvas.specs.declared.newest.End.{End}
use Rattle.ev_canvas.specs.declared.newest.End.TheVariants as end
use Rattle.ev_canvas.specs.declared.newest.Newest.{Newest}
use Rattle.ev_canvas.proofs.Missing.{last_next, last_new, last_dropped, length_next, length_dropped, missed_next, none_missed, used_last_next}
use Rattle.ev_canvas.proofs.Setting.{follows_new}

-- ---- new buffers

-- they have at most 2^26 pixels
pub few_opened : (buffers : ℕ) (newest : Option Latest) (now : Capture) → buffers ≤ 3 → now.w ≤ 4096 → now.h ≤ 4096 → pixels_opened buffers newest now ≤ 2 ^ 26
few_opened buffers newest now few wide high = by newest
  where
    whole : buffers * (now.w * now.h) ≤ 2 ^ 26
    whole =
        let area : now.w * now.h ≤ 4096 * 4096 = mul-le-mul wide high in
        let all : buffers * (now.w * now.h) ≤ 3 * (4096 * 4096) = mul-le-mul few area in
        omega (arith, all)

    opened : (t : Bool) → (if t then 0 else buffers * (now.w * now.h)) ≤ 2 ^ 26
    opened true = omega arith
    opened false = whole

    by : (newest : Option Latest) → pixels_opened buffers newest now ≤ 2 ^ 26
    by None = whole
    by (Some before) = opened (has_size_of before.entry.capture now)

pub few_new : (buffers w h : ℕ) (easel : Stand) → IsNew buffers w h easel.chain → buffers ≤ 3 → w ≤ 4096 → h ≤ 4096 → painted_on_all easel.chain ≤ 2 ^ 26
few_new buffers w h easel new few wide high = let all = few_opened buffers None (record { w = w; h = h; looks = [] }) few wide high in let is = new.painted in omega (arith, all, is)

-- a frame may be set up on them
pub room_new : (buffers w h before : ℕ) (easel : Stand) → IsNew buffers w h easel.chain → easel.frame ≡ None → easel.given_up ≡ before → before < 2 ^ 63 → buffers ≤ 3 → w ≤ 4096 → h ≤ 4096 → painted_by easel < 2 ^ 63 + 2 ^ 26
room_new buffers w h before easel new idle given_up low few wide high =
    let out : painted_out easel.frame ≡ 0 = ap painted_out idle in
    let all = few_new buffers w h easel new few wide high in
    omega (arith, out, all, given_up, low)

-- ---- starts

-- the newest start, whose frame was set up on the next of some buffers
set_newest : (buffers : ℕ) (newest : Option Newest) (b : Begun) (tiles : ℕ) (old easel : Stand) → 1 ≤ buffers → IsBegun newest b → IsSetUp b old tiles easel → old.chain.w ≡ b.shot.scene.w → old.chain.h ≡ b.shot.scene.h → length old.chain.marks ≡ buffers
    → AreUsedLast (drop 1 old.chain.marks) → KeepsTo (paint (capture_in b)) (has_pixel b.hidden) easel → IsNewest buffers (newest_by b tiles easel)
set_newest buffers newest b tiles old easel some is set wide high count last kept = record {
  width = set.width ∙ wide;
  height = set.height ∙ high;
  count = length_next b.updates (drop 1 old.chain.marks) easel.chain.marks set.marks ∙ length_dropped old.chain.marks (omega (arith, count, some)) ∙ count;
  running = sym set.running;
  jobs = λ runs. (let none = set.none_drawn in let left = set.left in omega (arith, none, left));
  used = used_last_next b.updates (drop 1 old.chain.marks) easel.chain.marks set.marks;
  used_last = last_next b.updates (drop 1 old.chain.marks) easel.chain.marks set.marks last;
  apart = is.apart;
  owed = is.owed;
  hidden = is.hidden;
  kept = kept;
}

-- what was missed, once one more plan was lent
missed_more : (buffers : ℕ) (b : Begun) (tiles : ℕ) (old easel : Stand) (missed : List (List Area)) → 1 ≤ buffers → IsSetUp b old tiles easel → length old.chain.marks ≡ buffers → AreUsedLast (drop 1 old.chain.marks) → updates_in (drop 1 old.chain.marks) ≡ missed
    → updates_in (drop 1 easel.chain.marks) ≡ take (buffers - 1) (b.updates ∷ missed)
missed_more buffers b tiles old easel missed some set count last was =
    missed_next b.updates old.chain.marks easel.chain.marks set.marks last (omega (arith, count, some))
    ∙ ap₂ (λ (k : ℕ) (m : List (List Area)). take (k - 1) (b.updates ∷ m)) count was

-- a start stands so, and what holds of the drawing holds of it
pub record Stands (buffers : ℕ) (old : Drawing) (b : Begun) (tiles : ℕ) (new : Drawing) : Type 0 where
  pub is : IsDrawing buffers new
  pub now : StandsNow buffers old b tiles new

abbrev pub then_drawing : Begun → ℕ → Stand → Drawn → Drawing
then_drawing b tiles easel before = record { newest = Some (newest_by b tiles easel); before = before }

none_so : {A : Type 0} (o : Option A) → is_some o ≡ false → o ≡ None
none_so None none = refl
none_so (Some x) none = absurd (true≢false none)

-- the next buffer is there for a start of the same size
pub record IsFree (b : Begun) (easel : Stand) : Type 0 where
  pub idle : easel.frame ≡ None
  pub width : easel.chain.w ≡ b.shot.scene.w
  pub height : easel.chain.h ≡ b.shot.scene.h
  pub here : painted_on_all easel.chain < 2 ^ 63
  pub painted : painted_by easel < 2 ^ 63 + 2 ^ 26

pub free_next : (buffers : ℕ) (n : Newest) (b : Begun) → is_running n.end ≡ false → has_size_of (captured n) (capture_in b) ≡ true → IsNewest buffers n → painted_by n.easel < 2 ^ 63 → IsFree b n.easel
free_next buffers n b ended size is low =
    let same_width : n.shot.scene.w ≡ b.shot.scene.w = grind (arith, nat_tests, size) in
    let same_height : n.shot.scene.h ≡ b.shot.scene.h = grind (arith, nat_tests, size) in
    record {
      idle = none_so n.easel.frame (sym is.running ∙ ended);
      width = is.width ∙ same_width;
      height = is.height ∙ same_height;
      here = omega (arith, low);
      painted = omega (arith, low);
    }

-- a start becomes the newest on the same buffers
pub followed : (buffers : ℕ) (n : Newest) (before : Drawn) (b : Begun) (tiles : ℕ) (easel : Stand) → is_running n.end ≡ false → has_size_of (captured n) (capture_in b) ≡ true → IsDrawing buffers (record { newest = Some n; before = before }) → IsBegun (Some n) b
    → IsSetUp b n.easel tiles easel → Stands buffers (record { newest = Some n; before = before }) b tiles (then_drawing b tiles easel (drawn_by (Some (latest_of n))))
followed buffers n before b tiles easel idle size is begun set =
    let was = is.newest in
    let same_width : n.shot.scene.w ≡ b.shot.scene.w = grind (arith, nat_tests, size) in
    let same_height : n.shot.scene.h ≡ b.shot.scene.h = grind (arith, nat_tests, size) in
    let wide : n.easel.chain.w ≡ b.shot.scene.w = was.width ∙ same_width in
    let high : n.easel.chain.h ≡ b.shot.scene.h = was.height ∙ same_height in
    let on_scene : FollowsIf true n b = subst (λ (t : Bool). FollowsIf t n b) size begun.follows in
    let on_chain : Follows n.easel.chain.w n.easel.chain.h (paint (captured n)) (has_pixel n.hidden) b.updates (paint (capture_in b)) (has_pixel b.hidden) =
    subst (λ (w : ℕ). Follows w n.easel.chain.h (paint (captured n)) (has_pixel n.hidden) b.updates (paint (capture_in b)) (has_pixel b.hidden)) (sym wide)
    (subst (λ (h : ℕ). Follows b.shot.scene.w h (paint (captured n)) (has_pixel n.hidden) b.updates (paint (capture_in b)) (has_pixel b.hidden)) (sym high) on_scene) in
    let both = set.keeps (has_pixel n.hidden) (paint (captured n)) was.kept on_chain in
    let last = last_dropped n.easel.chain.marks was.used_last in
    let missed : updates_in (drop 1 n.easel.chain.marks) ≡ missed_for (Some (latest_of n)) (capture_in b) (updates_in (drop 1 n.easel.chain.marks)) =
    sym (ap (λ (t : Bool). if t then updates_in (drop 1 n.easel.chain.marks) else []) size) in
    let none : pixels_opened buffers (Some (latest_of n)) (capture_in b) ≡ 0 = ap (λ (t : Bool). if t then 0 else buffers * (b.shot.scene.w * b.shot.scene.h)) size in
    record {
      is = record {
        some = is.some;
        few = is.few;
        newest = set_newest buffers (Some n) b tiles n.easel easel is.some begun set wide high was.count last both.0;
        first = λ e. absurd (cc);
      };
      now = record {
        newest = refl;
        count = both.1 ∙ ap (λ (m : List (List Area)). tiles_in (capture_in b) (repairs (b.updates ∷ m) b.hidden)) missed;
        own = set.none_drawn;
        missed = missed_more buffers b tiles n.easel easel (missed_for (Some (latest_of n)) (capture_in b) (updates_in (drop 1 n.easel.chain.marks))) is.some set was.count last missed;
        drawn = sym (ap (λ (t : Bool). if t then before else drawn_by (Some (latest_of n))) idle);
        painted = let same = set.painted in omega (arith, same, none);
      };
    }

-- a start of a new size owes all, and no updates are missed
owes_all : (newest : Option Newest) (b : Begun) → keeps_size newest b ≡ false → FollowsOn newest b → OwesAll (capture_in b) b.owed
owes_all None b other follows = follows
owes_all (Some n) b other follows = subst (λ (t : Bool). FollowsIf t n b) other follows

nothing_missed : (newest : Option Newest) (before : Drawn) (b : Begun) → keeps_size newest b ≡ false → missed_for (latest_in (record { newest = newest; before = before })) (capture_in b) (missed_of newest) ≡ []
nothing_missed None before b other = refl
nothing_missed (Some n) before b other = ap (λ (t : Bool). if t then missed_of (Some n) else []) other

all_opened : (buffers : ℕ) (newest : Option Newest) (before : Drawn) (b : Begun) → keeps_size newest b ≡ false → pixels_opened buffers (latest_in (record { newest = newest; before = before })) (capture_in b) ≡ buffers * (b.shot.scene.w * b.shot.scene.h)
all_opened buffers None before b other = refl
all_opened buffers (Some n) before b other = ap (λ (t : Bool). if t then 0 else buffers * (b.shot.scene.w * b.shot.scene.h)) other

-- new buffers keep to anything while all is hidden
keeps_new : (buffers w h : ℕ) (easel : Stand) → IsNew buffers w h easel.chain → easel.frame ≡ None → KeepsTo (λ x y. clear) everywhere easel
keeps_new buffers w h easel new idle = record {
  buffers = new.kept (λ x y. clear);
  frame = subst (λ (f : Option Running). IfSome f (Keeps (λ x y. clear) everywhere)) (sym idle) tt;
}

-- a start becomes the newest on new buffers
pub opened : (buffers : ℕ) (newest : Option Newest) (before before' : Drawn) (b : Begun) (tiles : ℕ) (old easel : Stand) → keeps_size newest b ≡ false → IsDrawing buffers (record { newest = newest; before = before }) → IsBegun newest b
    → IsNew buffers b.shot.scene.w b.shot.scene.h old.chain → old.frame ≡ None → old.given_up ≡ painted_of newest → IsSetUp b old tiles easel → before' ≡ last_drawn newest before
    → Stands buffers (record { newest = newest; before = before }) b tiles (then_drawing b tiles easel before')
opened buffers newest before before' b tiles old easel size is begun new idle given_up set drawn =
    let follows : Follows b.shot.scene.w b.shot.scene.h (λ x y. clear) everywhere b.updates (paint (capture_in b)) (has_pixel b.hidden) =
    follows_new (capture_in b) (λ x y. clear) b.owed b.hidden b.updates (owes_all newest b size begun.follows) begun.updates in
    let on_chain : Follows old.chain.w old.chain.h (λ x y. clear) everywhere b.updates (paint (capture_in b)) (has_pixel b.hidden) =
    subst (λ (w : ℕ). Follows w old.chain.h (λ x y. clear) everywhere b.updates (paint (capture_in b)) (has_pixel b.hidden)) (sym new.width)
    (subst (λ (h : ℕ). Follows b.shot.scene.w h (λ x y. clear) everywhere b.updates (paint (capture_in b)) (has_pixel b.hidden)) (sym new.height) follows) in
    let both = set.keeps everywhere (λ x y. clear) (keeps_new buffers b.shot.scene.w b.shot.scene.h old new idle) on_chain in
    let last = last_dropped old.chain.marks (last_new (in_picture b.shot.scene.w b.shot.scene.h) old.chain.marks new.marks) in
    let missed : updates_in (drop 1 old.chain.marks) ≡ missed_for (latest_in (record { newest = newest; before = before })) (capture_in b) (missed_of newest) =
    none_missed (in_picture b.shot.scene.w b.shot.scene.h) old.chain.marks new.marks ∙ sym (nothing_missed newest before b size) in
    let out : painted_out old.frame ≡ 0 = ap painted_out idle in
    record {
      is = record {
        some = is.some;
        few = is.few;
        newest = set_newest buffers newest b tiles old easel is.some begun set new.width new.height new.count last both.0;
        first = λ e. absurd (cc);
      };
      now = record {
        newest = refl;
        count = both.1 ∙ ap (λ (m : List (List Area)). tiles_in (capture_in b) (repairs (b.updates ∷ m) b.hidden)) missed;
        own = set.none_drawn;
        missed = missed_more buffers b tiles old easel (missed_for (latest_in (record { newest = newest; before = before })) (capture_in b) (missed_of newest)) is.some set new.count last missed;
        drawn = drawn;
        painted = let same = set.painted in let all = new.painted in let opens = all_opened buffers newest before b size in omega (arith, same, all, out, given_up, opens);
      };
    }

-- the same of a drawing, as a call leaves it

pub followed_in : (buffers : ℕ) (old : Drawing) (n : Newest) (b : Begun) (tiles : ℕ) (easel : Stand) (m : Newest) (before : Drawn) → old.newest ≡ Some n → runs (latest_in old) ≡ false → keeps_size old.newest b ≡ true → IsDrawing buffers old → IsBegun old.newest b → IsSetUp b n.easel tiles easel
    → m ≡ newest_by b tiles easel → before ≡ drawn_by (Some (latest_of n)) → Stands buffers old b tiles (record { newest = Some m; before = before })
followed_in buffers old n b tiles easel m before is idle size drawing begun set stands drawn =
    let seen : old ≡ record { newest = Some n; before = old.before } = ap (λ (o : Option Newest). record { newest = o; before = old.before }) is in
    let here = followed buffers n old.before b tiles easel (subst (λ (d : Drawing). runs (latest_in d) ≡ false) seen idle) (subst (λ (d : Drawing). keeps_size d.newest b ≡ true) seen size)
    (subst (λ (d : Drawing). IsDrawing buffers d) seen drawing) (subst (λ (d : Drawing). IsBegun d.newest b) seen begun) set in
    subst (λ (d : Drawing). Stands buffers d b tiles (record { newest = Some m; before = before })) (sym seen)
    (subst (λ (k : Newest). Stands buffers (record { newest = Some n; before = old.before }) b tiles (record { newest = Some k; before = before })) (sym stands)
    (subst (λ (w : Drawn). Stands buffers (record { newest = Some n; before = old.before }) b tiles (then_drawing b tiles easel w)) (sym drawn) here))

pub opened_in : (buffers : ℕ) (old : Drawing) (b : Begun) (tiles : ℕ) (fresh easel : Stand) (m : Newest) (before : Drawn) → keeps_size old.newest b ≡ false → IsDrawing buffers old → IsBegun old.newest b
    → IsNew buffers b.shot.scene.w b.shot.scene.h fresh.chain → fresh.frame ≡ None → fresh.given_up ≡ painted_of old.newest → IsSetUp b fresh tiles easel → m ≡ newest_by b tiles easel → before ≡ last_drawn old.newest old.before
    → Stands buffers old b tiles (record { newest = Some m; before = before })
opened_in buffers old b tiles fresh easel m before size drawing begun new idle given_up set stands drawn =
    subst (λ (k : Newest). Stands buffers old b tiles (record { newest = Some k; before = before })) (sym stands)
    (opened buffers old.newest old.before before b tiles fresh easel size drawing begun new idle given_up set drawn)

-- ---- steps

-- buffers on which so many more jobs were drawn
pub record IsStepped (old : Stand) (drawn : ℕ) (new : Stand) : Type 0 where
  pub drawn_more : drawn_of new.frame ≡ drawn_of old.frame + drawn
  pub left : left_of new.frame + drawn ≡ left_of old.frame
  pub running : is_some new.frame ≡ is_some old.frame
  pub chain : new.chain ≡ old.chain
  pub painted : painted_by new ≡ painted_by old
  pub kept : KeepsOn old new

pub stepped_newest : (buffers : ℕ) (n : Newest) (drawn : ℕ) (easel : Stand) → IsStepped n.easel drawn easel → IsNewest buffers n → IsNewest buffers (record n { easel = easel })
stepped_newest buffers n drawn easel step is = record {
  width = ap (λ (c : Chain). c.w) step.chain ∙ is.width;
  height = ap (λ (c : Chain). c.h) step.chain ∙ is.height;
  count = ap (λ (c : Chain). length c.marks) step.chain ∙ is.count;
  running = is.running ∙ sym step.running;
  jobs = λ runs. (let all = is.jobs runs in let more = step.drawn_more in let left = step.left in omega (arith, all, more, left));
  used = ap (λ (c : Chain). is_some (last_updates c.marks)) step.chain ∙ is.used;
  used_last = subst (λ (c : Chain). AreUsedLast c.marks) (sym step.chain) is.used_last;
  apart = is.apart;
  owed = is.owed;
  hidden = is.hidden;
  kept = step.kept (paint (captured n)) (has_pixel n.hidden) is.kept;
}

-- ---- flushes

abbrev by_count : ℕ → ℕ → ℕ → Bool → Finish
by_count n own tiles all = if all then finish.Frame n else finish.Pending n own tiles

abbrev by_end : Finish → Bool → Finish
by_end one running = if running then one else finish.Idle

-- what there is to flush is a frame whose jobs are all drawn
finished : (own : ℕ) (latest : Latest) → IsFrame (finishing own (Some latest)) → (is_running latest.end ≡ true) × (own ≡ latest.entry.tiles)
finished own latest is = go (is_running latest.end) (own == latest.entry.tiles) refl refl where
  go : (r t : Bool) → is_running latest.end ≡ r → (own == latest.entry.tiles) ≡ t → (is_running latest.end ≡ true) × (own ≡ latest.entry.tiles)
  go true true e f = (e, grind (arith, nat_tests, f))
  go true false e f =
      absurd (subst (λ (t : Bool). IsFrame (by_count latest.entry.number own latest.entry.tiles t)) f
      (subst (λ (r : Bool). IsFrame (by_end (by_count latest.entry.number own latest.entry.tiles (own == latest.entry.tiles)) r)) e is))
  go false t e f = absurd (subst (λ (r : Bool). IsFrame (by_end (by_count latest.entry.number own latest.entry.tiles (own == latest.entry.tiles)) r)) e is)

pub drawn_whole : (buffers : ℕ) (n : Newest) → IsNewest buffers n → IsFrame (finishing (drawn_of n.easel.frame) (Some (latest_of n))) → IsDrawnWhole n
drawn_whole buffers n is frame =
    let drawn = finished (drawn_of n.easel.frame) (latest_of n) frame in
    let all = is.jobs drawn.0 in
    let own = drawn.1 in
    record {
      running = sym is.running ∙ drawn.0;
      none_left = omega (arith, all, own);
      width = is.width;
      height = is.height;
      used = is.used;
      kept = is.kept;
    }

pub flushed_newest : (buffers : ℕ) (old new : Newest) (e : End) → is_running e ≡ false → FlushesTo old e new → IsNewest buffers old → IsNewest buffers new
flushed_newest buffers old new e ended flush is = subst (λ (n : Newest). IsNewest buffers n) (sym flush.alone) (record {
  width = flush.width ∙ is.width;
  height = flush.height ∙ is.height;
  count = ap (λ (ms : List Mark). length ms) flush.marks ∙ is.count;
  running = ended ∙ sym (ap is_some flush.idle);
  jobs = λ runs. absurd (true≢false (sym runs ∙ ended));
  used = ap (λ (ms : List Mark). is_some (last_updates ms)) flush.marks ∙ is.used;
  used_last = subst (λ (ms : List Mark). AreUsedLast ms) (sym flush.marks) is.used_last;
  apart = is.apart;
  owed = is.owed;
  hidden = is.hidden;
  kept = flush.kept (paint (captured old)) (has_pixel old.hidden) is.kept;
})
