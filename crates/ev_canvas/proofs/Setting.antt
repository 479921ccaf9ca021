-- A frame that is set up on the next of some buffers.
use Rattle.std.proofs.Common.{◌≡◌, ℕ, suc, ◌+◌, ◌-◌, ◌*◌, ◌/◌, ◌%◌, ◌<◌, ◌≤◌, pos, ℤ, Bool, true, false, not, ◌&&◌, ◌||◌, List, [], ◌∷◌, ◌++◌, length, take, drop, filter, option_to_list, Option, Some, None, IfSome, IsSome, is_some, refl, sym, ap, ap₂, subst, ◌∙◌, arith}
use Rattle.std.specs.List.{list_any, range_with_len}
use Rattle.std.proofs.Math.Bool.{true≢false}
use Rattle.std.proofs.lemmas.Int.{ints}
use Rattle.ev_argb.specs.Argb.{Argb}
use Rattle.ev_geom.specs.Area.{Area, holds}
use Rattle.ev_geom.specs.Bands.{has_pixel, IsBandsOf}
use Rattle.ev_geom.specs.Tiles.{holds_tile, tiles_along, jobs_of}
use Rattle.ev_model.specs.Capture.{Capture}
use Rattle.ev_model.specs.Paint.{paint}
use Rattle.ev_model.specs.Stage.{canvas_on}
use Rattle.ev_cmds.specs.Cuts.{Cut, IsCutOf}
use Rattle.ev_buffers.specs.BufferChain.{Chain, Draft, IsPlanOf, lent_by}
use Rattle.ev_buffers.specs.Kept.{Follows, Repairs, everywhere}
use Rattle.ev_buffers.specs.Marks.{IsNextOf, has_pixel_in, updated}
use Rattle.ev_buffers.specs.declared.mark.Mark.{Mark}
use Rattle.ev_frames.specs.Running.{AreOn}
use Rattle.ev_frames.specs.Stand.{Stand, KeepsByStart, drawn_of, left_of, painted_by}
use Rattle.ev_canvas.specs.Starts.{OwesAll, repairs, tiles_in}
use Rattle.ev_canvas.specs.Drawings.{IsSetUp, capture_in, updates_in}
use Rattle.ev_canvas.specs.declared.begun.Begun.{Begun}

-- a pixel of a canvas lies on it
pub on_canvas : (s : Capture) (x y : ℕ) → x < s.w → y < s.h → holds (canvas_on s.w s.h) (pos x) (pos y) ≡ true
on_canvas s x y column row = grind (arith, ints)

-- what fails with a test that passes fails by itself
front_fails : (a b : Bool) → (a && b) ≡ false → b ≡ true → a ≡ false
front_fails false b e passes = refl
front_fails true b e passes = absurd (true≢false (sym passes ∙ e))

-- what is neither updated nor hidden isn't owed
pub unowed : (owed hidden updates : List Area) (x y : ℕ) → IsBandsOf (λ x y. has_pixel owed x y && not (has_pixel hidden x y)) updates → has_pixel updates (pos x) (pos y) ≡ false → has_pixel hidden (pos x) (pos y) ≡ false
    → has_pixel owed (pos x) (pos y) ≡ false
unowed owed hidden updates x y are out shown =
    front_fails (has_pixel owed (pos x) (pos y)) (not (has_pixel hidden (pos x) (pos y))) (sym (are.pixels (pos x) (pos y)) ∙ out) (ap not shown)

-- on new buffers all that isn't hidden is updated
pub follows_new : (now : Capture) (anything : ℕ → ℕ → Argb) (owed hidden updates : List Area) → OwesAll now owed → IsBandsOf (λ x y. has_pixel owed x y && not (has_pixel hidden x y)) updates
    → Follows now.w now.h anything everywhere updates (paint now) (has_pixel hidden)
follows_new now anything owed hidden updates all are = record {
  pixels = λ x y column row out shown.
      absurd (true≢false (sym (on_canvas now x y column row) ∙ sym (all.pixels (pos x) (pos y)) ∙ unowed owed hidden updates x y are out shown));
}

-- ---- the work region, as a list of updates

any_append : (p : List Area → Bool) (xs : List (List Area)) (o : Option (List Area)) → list_any p (xs ++ option_to_list o) ≡ (list_any p xs || list_any p (option_to_list o))
any_append p [] o = refl
any_append p (x ∷ xs) o = ap (λ b. p x || b) (any_append p xs o) ∙ sym (assoc (p x) (list_any p xs) (list_any p (option_to_list o)))
  where
    assoc : (a b c : Bool) → ((a || b) || c) ≡ (a || (b || c))
    assoc true b c = refl
    assoc false b c = refl

in_one : (o : Option (List Area)) (x y : ℤ) → list_any (λ u. has_pixel u x y) (option_to_list o) ≡ has_pixel_in o x y
in_one None x y = refl
in_one (Some region) x y = or_false (has_pixel region x y)
  where
    or_false : (a : Bool) → (a || false) ≡ a
    or_false true = refl
    or_false false = refl

swap : (a b : Bool) → (a || b) ≡ (b || a)
swap true true = refl
swap true false = refl
swap false true = refl
swap false false = refl

-- what the marks say was updated, as a list
updated_in : (marks : List Mark) (x y : ℤ) → list_any (λ u. has_pixel u x y) (updates_in marks) ≡ updated marks x y
updated_in [] x y = refl
updated_in (mark ∷ marks) x y =
    any_append (λ u. has_pixel u x y) (updates_in marks) mark.updates
    ∙ ap (λ b. list_any (λ u. has_pixel u x y) (updates_in marks) || b) (in_one mark.updates x y)
    ∙ ap (λ b. b || has_pixel_in mark.updates x y) (updated_in marks x y)
    ∙ swap (updated marks x y) (has_pixel_in mark.updates x y)

-- a work region of what marks and a start updated is what the start repairs
pub is_repaired : (marks : List Mark) (updates hidden work : List Area) → ((x y : ℤ) → has_pixel work x y ≡ ((updated marks x y || has_pixel updates x y) && not (has_pixel hidden x y)))
    → (x y : ℤ) → has_pixel work x y ≡ repairs (updates ∷ updates_in marks) hidden x y
is_repaired marks updates hidden work same x y =
    same x y
    ∙ ap (λ b. (b || has_pixel updates x y) && not (has_pixel hidden x y)) (sym (updated_in marks x y))
    ∙ ap (λ b. b && not (has_pixel hidden x y)) (swap (list_any (λ u. has_pixel u x y) (updates_in marks)) (has_pixel updates x y))

-- ---- tiles

same_any : (p q : ℕ → Bool) (ks : List ℕ) → ((k : ℕ) → p k ≡ q k) → list_any p ks ≡ list_any q ks
same_any p q [] same = refl
same_any p q (k ∷ ks) same = ap₂ ◌||◌ (same k) (same_any p q ks same)

same_filter : (p q : ℕ → Bool) (ks : List ℕ) → ((k : ℕ) → p k ≡ q k) → filter p ks ≡ filter q ks
same_filter p q [] same = refl
same_filter p q (k ∷ ks) same = rw (same k, same_filter p q ks same) refl

same_tile : (f g : ℤ → ℤ → Bool) (across t : ℕ) → ((x y : ℤ) → f x y ≡ g x y) → holds_tile f across t ≡ holds_tile g across t
unfolding holds_tile
same_tile f g across t same = same_any _ _ (range_with_len 0 4096) (λ k. same (pos (t % across * 64 + k % 64)) (pos (t / across * 64 + k / 64)))

-- sets with the same pixels meet the same tiles
pub same_jobs : (f g : ℤ → ℤ → Bool) (w h : ℕ) → ((x y : ℤ) → f x y ≡ g x y) → jobs_of f w h ≡ jobs_of g w h
same_jobs f g w h same = same_filter (holds_tile f (tiles_along w)) (holds_tile g (tiles_along w)) (range_with_len 0 (tiles_along h * tiles_along w)) (λ t. same_tile f g (tiles_along w) t same)

-- ---- the frame

module _ (b : Begun) (old : Stand) (plan : Draft) (cut : Cut) (is : IsCutOf (has_pixel plan.work) (capture_in b) cut) (wide : old.chain.w ≡ b.shot.scene.w) (high : old.chain.h ≡ b.shot.scene.h) where
  -- its commands are for the canvas
  pub are_on : AreOn old.chain.w old.chain.h (has_pixel plan.work) cut
  are_on = record { capture = capture_in b; is = is; width = sym wide; height = sym high }

  -- a start by its plan sets it up
  pub set_up : (new : Stand) (tiles : ℕ) → IsPlanOf old.chain b.updates (has_pixel b.hidden) plan → Repairs old.chain b.updates (has_pixel b.hidden) plan → new.chain ≡ lent_by old.chain plan → IsSome new.frame → drawn_of new.frame ≡ 0
      → left_of new.frame ≡ length (jobs_of (has_pixel plan.work) old.chain.w old.chain.h) → painted_by new ≡ painted_by old → KeepsByStart old plan cut new → tiles ≡ left_of new.frame → IsSetUp b old tiles new
  set_up new tiles made repaired chain running none left painted kept count = record {
    width = ap (λ (c : Chain). c.w) chain;
    height = ap (λ (c : Chain). c.h) chain;
    marks = subst (λ (c : Chain). IsNextOf b.updates (drop 1 old.chain.marks) c.marks) (sym chain) made.marks;
    running = running;
    none_drawn = none;
    left = sym count;
    painted = painted;
    keeps = λ hidden before keeps follows. (
      kept b.updates hidden (has_pixel b.hidden) before (capture_in b) made is keeps follows,
      count ∙ left
          ∙ ap length (same_jobs (has_pixel plan.work) (repairs (b.updates ∷ updates_in (drop 1 old.chain.marks)) b.hidden) old.chain.w old.chain.h
          (is_repaired (drop 1 old.chain.marks) b.updates b.hidden plan.work (repaired hidden before (paint (capture_in b)) keeps.buffers follows)))
          ∙ ap₂ (λ (w : ℕ) (h : ℕ). length (jobs_of (repairs (b.updates ∷ updates_in (drop 1 old.chain.marks)) b.hidden) w h)) wide high,
    );
  }
