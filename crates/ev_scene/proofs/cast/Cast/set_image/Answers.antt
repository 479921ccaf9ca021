use Rattle.ev_model.specs.declared.content.Kind.TheVariants as kind
use Rattle.ev_scene.specs.Board.{values_of}
use Rattle.ev_scene.specs.declared.change.Change.TheVariants as change
use Rattle.ev_scene.specs.declared.image_change.ImageChange.TheVariants as image_change
use Rattle.ev_scene.proofs.Loading.{stands_there, loaded}
use Rattle.ev_scene.proofs.cast.Cast.set_image.Goals as goal

pub change-requires-clause-there : goal.change-requires-clause-there
change-requires-clause-there c = stands_there c.args.self.now.roll.states c.requires.whole c.args.id kind.Image c.requires.kind

pub returns-clause-whole : goal.returns-clause-whole
returns-clause-whole c = loaded c.args.self.now.roll.states c.requires.whole c.args.id kind.Image c.requires.kind
    (change.Image (image_change.Load c.new-loaded.result)) (values_of c.change.new.self.states) tt (c.in_ok-change.ensures).ok
