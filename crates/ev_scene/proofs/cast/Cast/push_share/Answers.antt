use Rattle.ev_scene.proofs.Capturing.{pushed, not_pushed}
use Rattle.ev_scene.proofs.cast.Cast.push_share.Goals as goal

pub returns-in_ok-push : goal.returns-in_ok-push
returns-in_ok-push c = pushed c.args.self.now.roll.states c.args.objects.now c.push.new.self c.args.id c.in-Some.state.now c.in_ok-share.field-0 (c.in_ok-push.ensures).ok c.in_ok-share.ensures (c.in-Some.ensures)

pub returns-in_default : goal.returns-in_default
returns-in_default c = not_pushed c.args.self.now.roll.states c.args.objects.now c.args.id (c.in_default.ensures)
