use Rattle.std.proofs.Common.{◌≤◌, List, length, sym, ap, subst}
use Rattle.ev_records.specs.Showing.{Showing}
use Rattle.ev_track.specs.Tracks.{slots_in}
use Rattle.ev_looks.specs.KeptLooks.{Shown}
use Rattle.ev_looks.specs.PlacedStates.{states_now, ShowLooks}
use Rattle.ev_looks.specs.Seated.{AreSeated}
use Rattle.ev_looks.proofs.Keeping.{states_same, kept_fresh}
use Rattle.ev_looks.proofs.looks.Looks.refresh.Goals as goal

pub returns-clause-looks : goal.returns-clause-looks
returns-clause-looks c =
    let t = c.args.objects.now in
    let all = c.self.inside.records in
    let settle = c.in_ok-settle.ensures in
    let same = states_same all c.args.w c.args.h t c.settle.new.self settle.slots settle.seats settle.places settle.room settle.ok in
    subst (λ states. ShowLooks c.args.w c.args.h states all) (sym same)
    (subst (λ (all : List Showing). ShowLooks c.args.w c.args.h (states_now t) all) (sym (ap (λ (k : Shown). k.all) c.self.view_is)) c.in_ok-look_again.ensures.looks)

pub returns-clause-kept : goal.returns-clause-kept
returns-clause-kept c =
    let t = c.args.objects.now in
    let all = c.self.inside.records in
    let settle = c.in_ok-settle.ensures in
    let found = c.in_ok-look_again.ensures in
    let is = sym (ap (λ (k : Shown). k.all) c.self.view_is) in
    kept_fresh all c.args.w c.args.h t c.settle.new.self settle.slots settle.seats settle.places settle.room settle.ok c.laws.ensures
    (subst (λ (all : List Showing). AreSeated (slots_in t) all) is found.kept.seated)
    (subst (λ n. n ≤ length all) (sym settle.places) (subst (λ (all : List Showing). t.places ≤ length all) is found.enough))
    found.apart found.ended (subst (λ (all : List Showing). ShowLooks c.args.w c.args.h (states_now t) all) is found.looks)
