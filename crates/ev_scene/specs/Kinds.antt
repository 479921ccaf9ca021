-- What edits leave of the kinds of objects.
use Rattle.std.specs.Prelude.{◌≡◌, ℕ, Bool, true, false, Option, Some, is_some}
use Rattle.std.specs.Option.{option_map}
use Rattle.ev_model.specs.Content.{kind_of}
use Rattle.ev_model.specs.declared.command.Edit.{Edit}
use Rattle.ev_model.specs.declared.command.Edit.TheVariants as edit
use Rattle.ev_model.specs.declared.content.Kind.{Kind}
use Rattle.ev_scene.specs.Ids.{of_id}
use Rattle.ev_scene.specs.Board.{Board}

-- the kind of the object of an id
abbrev pub kind_at : Board → ℕ → Option Kind
kind_at board id = option_map (λ o. kind_of o.content) (of_id board.objects id)

-- no object is of another kind than it was
abbrev pub LeavesKinds : Board → Board → Type 0
LeavesKinds old new = (id : ℕ) (kind : Kind) → kind_at old id ≡ Some kind → is_some (of_id new.objects id) ≡ true → kind_at new id ≡ Some kind

-- each object that was there is there, and of its kind
abbrev pub KeepsKinds : Board → Board → Type 0
KeepsKinds old new = (id : ℕ) (kind : Kind) → kind_at old id ≡ Some kind → kind_at new id ≡ Some kind

-- only this edit takes objects away
abbrev pub is_delete : Edit → Bool
is_delete (edit.Delete name) = true
is_delete other = false
