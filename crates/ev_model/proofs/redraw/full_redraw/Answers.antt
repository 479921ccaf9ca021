use Rattle.std.proofs.Common.{◌≡◌, ℕ, List, length, take, ap, sym, ◌∙◌, subst, arith}
use Rattle.std.proofs.lemmas.List.Elements.{All-get_or}
use Rattle.std.proofs.Math.Seq.{take-length}
use Rattle.ev_model.specs.Capture.{capture_on, IsLookOn}
use Rattle.ev_model.specs.Look.{look_of}
use Rattle.ev_model.specs.Paint.{IsRedrawn}
use Rattle.ev_model.specs.declared.scene.Record.{Record}
use Rattle.ev_model.proofs.Rows.{redrawn_rows}
use Rattle.ev_model.proofs.redraw.full_redraw.Goals as goal

pub paint_record-requires-clause-look : goal.paint_record-requires-clause-look
paint_record-requires-clause-look c =
    let records = c.args.records.now in
    let size = c.clear.ensures.size in
    let P : Record → Type 0 = λ r. IsLookOn c.args.picture.now.w c.args.picture.now.h (look_of r) in
    let W : ℕ → Type 0 = λ w. IsLookOn w c.loop-one.picture.h (look_of c.one-item.result) in
    let H : ℕ → Type 0 = λ h. IsLookOn c.args.picture.now.w h (look_of c.one-item.result) in
    let here : P c.one-item.result = subst P (sym c.one-item.is) (All-get_or P records c.loop-one.one-index c.one-item.result c.loop-one-test.true c.requires.looks) in
    subst W (sym (c.loop-one.invariant.width ∙ size.width)) (subst H (sym (c.loop-one.invariant.height ∙ size.height)) here)

pub returns-clause-rows : goal.returns-clause-rows
returns-clause-rows c =
    let records = c.args.records.now in
    let all : c.loop-one.one-index ≡ length records = omega (arith, c.loop-one-test.false, c.loop-one.auto.one-index-end) in
    let size = c.clear.ensures.size in
    let P : List Record → Type 0 = λ records. IsRedrawn (capture_on c.clear.new.picture.w c.clear.new.picture.h records) c.loop-one.picture in
    let W : ℕ → Type 0 = λ w. IsRedrawn (capture_on w c.clear.new.picture.h records) c.loop-one.picture in
    let H : ℕ → Type 0 = λ h. IsRedrawn (capture_on c.args.picture.now.w h records) c.loop-one.picture in
    redrawn_rows (capture_on c.args.picture.now.w c.args.picture.now.h records) c.loop-one.picture
    (subst H size.height (subst W size.width (subst P (ap (λ n. take n records) all ∙ take-length records) c.loop-one.invariant)))
