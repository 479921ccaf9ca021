use Rattle.std.proofs.Common.{refl}
use Rattle.ev_damage.proofs.Adding.{meet_pixels, meet_fits, adds_rect, adds_nothing}
use Rattle.ev_damage.proofs.turned.add_meet.Goals as goal

pub add_rect-requires : goal.add_rect-requires
add_rect-requires c = meet_fits c.args.one.now c.args.other.now c.meet-both.result c.meet-both.ensures c.requires

pub returns-in_ok-add_rect : goal.returns-in_ok-add_rect
returns-in_ok-add_rect c = adds_rect _ _ _ c.meet-both.result c.in_ok-add_rect.ensures.ok (meet_pixels c.args.one.now c.args.other.now c.meet-both.result c.meet-both.ensures)

pub returns-else-not-is_empty : goal.returns-else-not-is_empty
returns-else-not-is_empty c = adds_nothing c.args.one.now c.args.other.now c.meet-both.result c.args.region.now c.meet-both.ensures ((c.if-not-is_empty.ensures).0 refl)
