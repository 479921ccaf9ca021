use Rattle.std.proofs.Common.{refl}
use Rattle.ev_damage.proofs.Adding.{meet_pixels, meet_fits}
use Rattle.ev_records.proofs.Gatherings.{gathers_one, gathers_apart}
use Rattle.ev_records.proofs.turned.push_meet.Goals as goal

pub returns-in_ok-push : goal.returns-in_ok-push
returns-in_ok-push c = gathers_one _ _ _ c.meet-both.result c.in_ok-push.ensures.items (meet_pixels c.args.one.now c.args.other.now c.meet-both.result c.meet-both.ensures)
    (meet_fits c.args.one.now c.args.other.now c.meet-both.result c.meet-both.ensures c.requires)

pub returns-else-not-is_empty : goal.returns-else-not-is_empty
returns-else-not-is_empty c = gathers_apart c.args.one.now c.args.other.now c.meet-both.result c.args.areas.now.items c.meet-both.ensures ((c.if-not-is_empty.ensures).0 refl)
