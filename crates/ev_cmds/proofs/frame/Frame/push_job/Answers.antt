use Rattle.std.proofs.Common.{refl, rules}
use Rattle.ev_cmds.proofs.Framing.{pushed}
use Rattle.ev_cmds.proofs.frame.Frame.push_job.Goals as goal

pub returns : goal.returns
returns c = pushed c.args.tile c.args.left c.args.top c.args.bare _ _ _ _ _ c.in_ok-push.ensures.items c.set.ensures.places c.set.ensures.others (search rules) refl refl refl refl c.new-commands.ensures.items refl
