use Rattle.std.proofs.Common.{sym, subst}
use Rattle.ev_model.specs.Glyphs.{IsText}
use Rattle.ev_scene.specs.Board.{values_of}
use Rattle.ev_scene.specs.declared.change.Change.TheVariants as change
use Rattle.ev_scene.specs.declared.text_change.TextChange.TheVariants as text_change
use Rattle.ev_scene.proofs.Standing.{looked}
use Rattle.ev_scene.proofs.cast.Cast.say.Goals as goal

pub returns-clause-whole : goal.returns-clause-whole
returns-clause-whole c =
    looked c.requires.whole c.in-Some.object.now.id c.in-Some.object.now (change.Text (text_change.Say c.in_ok-words.words))
    (values_of c.change.new.self.states) (c.in-Some.ensures).there (subst (λ text. IsText text) (sym c.in_ok-words.ensures) c.requires.text) (c.in_ok-change.ensures).ok
