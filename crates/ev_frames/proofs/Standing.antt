-- Buffers and their frame, at its start and at its end.
use Rattle.std.proofs.Common.{ℕ, ◌≡◌, Bool, true, false, List, All, Some, None, ℤ, refl, sym, ap, ◌∙◌, subst}
use Rattle.ev_argb.specs.Argb.{Argb}
use Rattle.ev_geom.specs.Area.{Area}
use Rattle.ev_geom.specs.Bands.{has_pixel}
use Rattle.ev_geom.specs.Tiles.{jobs_of}
use Rattle.ev_model.specs.Capture.{Capture}
use Rattle.ev_model.specs.Paint as model
use Rattle.ev_cmds.specs.Cuts.{Cut, IsCutOf}
use Rattle.ev_cmds.specs.TileJobs.{tiles_of}
use Rattle.ev_buffers.specs.BufferChain.{Chain, Draft, Lent, IsPlanOf}
use Rattle.ev_buffers.specs.Kept.{Follows, IsKept, KeepsByLending, KeepsWhenDone, ShowsDone}
use Rattle.ev_frames.specs.Running.{Running, Keeps, Lends, Returns}
use Rattle.ev_frames.specs.Stand.{Stand, KeepsTo}
use Rattle.ev_frames.proofs.Planes.{same_default}

-- a start turns what is kept to into what its capture paints
pub starts : (old : Stand) (plan : Draft) (cut : Cut) (chain : Chain) (loan : Lent) (frame : Running) (given_up : ℕ) (updates : List Area) (hidden hidden' : ℤ → ℤ → Bool) (before : ℕ → ℕ → Argb) (capture : Capture)
    → cut.w ≡ old.chain.w → cut.h ≡ old.chain.h → KeepsByLending old.chain plan chain loan → ((paint : ℕ → ℕ → Argb) (hidden : ℤ → ℤ → Bool) → Lends paint hidden cut loan → Keeps paint hidden frame)
    → IsPlanOf old.chain updates hidden' plan → IsCutOf (has_pixel plan.work) capture cut → KeepsTo before hidden old → Follows old.chain.w old.chain.h before hidden updates (model.paint capture) hidden'
    → KeepsTo (model.paint capture) hidden' (record { chain = chain; frame = Some frame; given_up = given_up })
starts old plan cut chain loan frame given_up updates hidden hidden' before capture w h lends begins made is keeps follows =
    let both = lends updates hidden hidden' before (model.paint capture) made keeps.buffers follows in
    let home : ShowsDone cut.w cut.h (model.paint capture) (has_pixel plan.work) hidden' (λ t. false) loan.picture =
    subst (λ (n : ℕ). ShowsDone n cut.h (model.paint capture) (has_pixel plan.work) hidden' (λ t. false) loan.picture) (sym w)
    (subst (λ (n : ℕ). ShowsDone old.chain.w n (model.paint capture) (has_pixel plan.work) hidden' (λ t. false) loan.picture) (sym h) both.1) in
    record {
      buffers = both.0;
      frame = begins (model.paint capture) hidden' (record { work = has_pixel plan.work; draws = record { capture = capture; is = is; painted = λ x y. refl }; home = home });
    }

-- the end of a frame keeps to what is painted
pub closes : (chain chain' : Chain) (frame : Running) (loan : Lent) (given_up : ℕ) (paint : ℕ → ℕ → Argb) (hidden : ℤ → ℤ → Bool) → frame.cut.w ≡ chain.w → frame.cut.h ≡ chain.h → tiles_of frame.cut.jobs ≡ loan.tiles
    → (Keeps paint hidden frame → Returns paint hidden frame.cut loan) → KeepsWhenDone chain loan chain' → IsKept paint hidden chain → Keeps paint hidden frame
    → KeepsTo paint hidden (record { chain = chain'; frame = None; given_up = given_up })
closes chain chain' frame loan given_up paint hidden w h tiles returns ends kept keeps =
    let back = returns keeps in
    let is = back.draws.is in
    let are : loan.tiles ≡ jobs_of back.work chain.w chain.h =
    sym tiles ∙ is.tiles ∙ ap (λ (n : ℕ). jobs_of back.work n back.draws.capture.h) (sym is.width ∙ w) ∙ ap (λ (n : ℕ). jobs_of back.work chain.w n) (sym is.height ∙ h) in
    let shows : ShowsDone chain.w chain.h paint back.work hidden back.drawn loan.picture =
    subst (λ (n : ℕ). ShowsDone n chain.h paint back.work hidden back.drawn loan.picture) w
    (subst (λ (n : ℕ). ShowsDone frame.cut.w n paint back.work hidden back.drawn loan.picture) h back.shows) in
    let all : All (λ t. back.drawn t ≡ true) loan.tiles = λ k d low. ap back.drawn (same_default loan.tiles k d 0 low) ∙ back.all k low in
    record { buffers = ends hidden back.work paint back.drawn kept are shows all; frame = tt }
