use Rattle.ev_looks.proofs.Clipping.{clips_by}
use Rattle.ev_looks.proofs.walk.Ground.clips.Goals as goal

pub returns : goal.returns
returns c = clips_by c.args.self.now.objects.now c.args.self.now.links.now c.requires.laws c.requires.tied c.args.id c.below_of.result c.below_of.ensures
