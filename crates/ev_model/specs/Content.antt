-- Kinds of contents.
use Rattle.std.specs.Prelude.{}
use Rattle.ev_model.specs.declared.content.Kind.{Kind}
use Rattle.ev_model.specs.declared.content.Kind.TheVariants as kind
use Rattle.ev_model.specs.declared.content.Content.{Content}
use Rattle.ev_model.specs.declared.content.Content.TheVariants as content

-- the kind of the objects that have such a content
abbrev pub kind_of : Content → Kind
kind_of content.Rect = kind.Rect
kind_of content.Smart = kind.Smart
kind_of (content.Image part) = kind.Image
kind_of (content.Text part) = kind.Text
