use Rattle.std.proofs.Common.{◌≡◌, false, sym, ◌∙◌}
use Rattle.ev_model.specs.Up.{clips, is_smart}
use Rattle.ev_sights.specs.Sights.{stage_on}
use Rattle.ev_sights.proofs.Sighting.{some_left, none_left, look_seen, unseen_hidden, unseen_over, unseen_empty}
use Rattle.ev_sights.proofs.sights.look.Goals.{else-object-via-then-object+then-sight+else-not-is_empty, else-object-via-then-object+else-sight, else-object-via-else-object}
use Rattle.ev_sights.proofs.sights.look.Goals as goal

pub returns-then-not-is_empty-clause-look : goal.returns-then-not-is_empty-clause-look
returns-then-not-is_empty-clause-look c =
    let s = stage_on c.args.ground.now in
    let o = c.args.object.now in
    let plain : is_smart o ≡ false = sym c.is_smart.ensures ∙ c.if-is_smart.false in
    let clips_none : clips s o ≡ false = sym c.clips.ensures ∙ c.if-clips.false in
    look_seen s o c.or.result c.in_ok-sight.sight c.meet-area.result plain clips_none c.or.ensures c.in_ok-sight.ensures.sight c.meet-area.ensures c.tinted-color.result c.if-object.true c.if-sight.true (some_left c.in_ok-sight.sight.area c.args.object.now.rect c.meet-area.result c.is_empty.result c.meet-area.ensures c.is_empty.ensures c.if-not-is_empty.true) c.tinted-color.ensures.bytes c.tinted-color.ensures.color

pub returns-else-object-clause-look : goal.returns-else-object-clause-look
returns-else-object-clause-look c =
    let s = stage_on c.args.ground.now in
    let o = c.args.object.now in
    let plain : is_smart o ≡ false = sym c.is_smart.ensures ∙ c.if-is_smart.false in
    let clips_none : clips s o ≡ false = sym c.clips.ensures ∙ c.if-clips.false in
    elim c.else-object.branch [
      | else-object-via-then-object+then-sight+else-not-is_empty w ↦ unseen_empty s o c.or.result c.in_ok-sight.sight c.meet-area.result plain clips_none c.or.ensures c.in_ok-sight.ensures.sight c.meet-area.ensures w.if-object.true w.if-sight.true (none_left c.in_ok-sight.sight.area c.args.object.now.rect c.meet-area.result w.is_empty.result c.meet-area.ensures w.is_empty.ensures w.if-not-is_empty.false)
      | else-object-via-then-object+else-sight w ↦ unseen_over s o c.or.result c.in_ok-sight.sight c.meet-area.result plain clips_none c.or.ensures c.in_ok-sight.ensures.sight c.meet-area.ensures w.if-object.true w.if-sight.false
      | else-object-via-else-object w ↦ unseen_hidden s o c.or.result c.in_ok-sight.sight c.meet-area.result plain clips_none c.or.ensures c.in_ok-sight.ensures.sight c.meet-area.ensures w.if-object.false
    ]
