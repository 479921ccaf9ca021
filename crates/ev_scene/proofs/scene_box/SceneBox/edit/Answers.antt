use Rattle.ev_scene.specs.Cast.{board_of}
use Rattle.ev_scene.proofs.SameKinds.{edit_keeps, edit_leaves}
use Rattle.ev_scene.proofs.scene_box.SceneBox.edit.Goals as goal

pub returns-clause-leaves : goal.returns-clause-leaves
returns-clause-leaves c = edit_leaves c.self.inside.cast c.args.self.now c.self.view_is c.self.invariant (board_of c.edit.new.self) c.args.edit.now c.edit.result c.edit.ensures.edits

pub returns-clause-keeps : goal.returns-clause-keeps
returns-clause-keeps c = edit_keeps c.self.inside.cast c.args.self.now c.self.view_is c.self.invariant (board_of c.edit.new.self) c.args.edit.now c.edit.result c.edit.ensures.edits
