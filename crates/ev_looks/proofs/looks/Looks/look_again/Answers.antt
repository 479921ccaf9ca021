use Rattle.std.proofs.Common.{◌≤◌, length, sym, subst}
use Rattle.ev_looks.specs.KeptLooks.{Shown, AreLooksOf}
use Rattle.ev_looks.specs.PlacedStates.{ShowLooks}
use Rattle.ev_looks.specs.declared.walk.Ground.{Ground}
use Rattle.ev_looks.proofs.Ending.{now_ended}
use Rattle.ev_looks.proofs.Keeping.{kept_grown, shown_on, still_past}
use Rattle.ev_looks.proofs.Placing.{now_apart}
use Rattle.ev_looks.proofs.Refreshing.{all_right_where_done}
use Rattle.ev_looks.proofs.looks.Looks.look_again.Goals as goal

pub returns-in_err-grow-clause-apart : goal.returns-in_err-grow-clause-apart
returns-in_err-grow-clause-apart c = now_apart c.args.objects.now c.args.links.now c.laws.ensures c.requires.tied

pub returns-in_err-grow-clause-ended : goal.returns-in_err-grow-clause-ended
returns-in_err-grow-clause-ended c = now_ended c.args.objects.now c.args.links.now c.laws.ensures c.requires.tied c.len-sound.ensures.sound

pub returns-in_err-grow-clause-kept : goal.returns-in_err-grow-clause-kept
returns-in_err-grow-clause-kept c =
    let k : Shown = record { all = c.self.inside.records; w = c.self.inside.w; h = c.self.inside.h; stale = c.self.inside.stale } in
    kept_grown k c.args.objects.now (subst (λ (k : Shown). AreLooksOf k c.args.objects.now) (sym c.self.view_is) c.requires.kept) c.grow.new.records c.grow.ensures.same c.grow.ensures.grown

pub look_at_all-requires-clause-seated : goal.look_at_all-requires-clause-seated
look_at_all-requires-clause-seated c =
    let k : Shown = record { all = c.self.inside.records; w = c.self.inside.w; h = c.self.inside.h; stale = c.self.inside.stale } in
    let kept = kept_grown k c.args.objects.now (subst (λ (k : Shown). AreLooksOf k c.args.objects.now) (sym c.self.view_is) c.requires.kept) c.grow.new.records c.grow.ensures.same c.grow.ensures.grown in
    kept.seated

pub look_at_changes-requires-clause-seated : goal.look_at_changes-requires-clause-seated
look_at_changes-requires-clause-seated c =
    let k : Shown = record { all = c.self.inside.records; w = c.self.inside.w; h = c.self.inside.h; stale = c.self.inside.stale } in
    let kept = kept_grown k c.args.objects.now (subst (λ (k : Shown). AreLooksOf k c.args.objects.now) (sym c.self.view_is) c.requires.kept) c.grow.new.records c.grow.ensures.same c.grow.ensures.grown in
    kept.seated

pub returns-then-few-clause-apart : goal.returns-then-few-clause-apart
returns-then-few-clause-apart c = now_apart c.args.objects.now c.args.links.now c.laws.ensures c.requires.tied

pub returns-then-few-clause-ended : goal.returns-then-few-clause-ended
returns-then-few-clause-ended c = now_ended c.args.objects.now c.args.links.now c.laws.ensures c.requires.tied c.len-sound.ensures.sound

pub returns-else-few-clause-apart : goal.returns-else-few-clause-apart
returns-else-few-clause-apart c = now_apart c.args.objects.now c.args.links.now c.laws.ensures c.requires.tied

pub returns-else-few-clause-ended : goal.returns-else-few-clause-ended
returns-else-few-clause-ended c = now_ended c.args.objects.now c.args.links.now c.laws.ensures c.requires.tied c.len-sound.ensures.sound

pub returns-then-few-clause-looks : goal.returns-then-few-clause-looks
returns-then-few-clause-looks c =
    let g : Ground = record { w = c.args.w; h = c.args.h; objects = c.args.objects; links = c.args.links } in
    let k : Shown = record { all = c.self.inside.records; w = c.self.inside.w; h = c.self.inside.h; stale = c.self.inside.stale } in
    let kept = kept_grown k c.args.objects.now (subst (λ (k : Shown). AreLooksOf k c.args.objects.now) (sym c.self.view_is) c.requires.kept) c.grow.new.records c.grow.ensures.same c.grow.ensures.grown in
    let serve = c.serve_on-few.ensures c.if-few.true in
    let shows : ShowLooks c.args.w c.args.h c.args.objects.now.was c.grow.new.records = shown_on c.self.inside.w c.args.w c.self.inside.h c.args.h c.args.objects.now.was c.grow.new.records serve.width serve.height (kept.looks serve.fresh) in
    let enough = subst (λ n. n ≤ length c.grow.new.records) c.places.ensures c.in_ok-grow.ensures.ok in
    let past = still_past c.args.objects.now c.grow.new.records c.laws.ensures kept.within enough in
    all_right_where_done g (record { width = c.requires.width; height = c.requires.height; laws = c.laws.ensures; tied = c.requires.tied; sound = c.len-sound.ensures.sound })
    c.requires.kept.apart c.requires.kept.ended c.look_at_changes.result c.grow.new.records c.look_at_changes.new.records shows c.look_at_changes.ensures.looks c.look_at_changes.ensures.ok serve.shallow past
