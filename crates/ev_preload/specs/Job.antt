-- What is asked of the loader.
use Rattle.std.specs.Prelude.{ℕ, Bool, true, false, List}
use Rattle.ev_model.specs.declared.content.Kind.{Kind}
use Rattle.ev_model.specs.declared.content.Kind.TheVariants.{Rect, Image, Text, Smart}

-- whether something is loaded for objects of this kind
abbrev pub is_loadable : Kind → Bool
is_loadable Image = true
is_loadable Text = true
is_loadable Rect = false
is_loadable Smart = false

-- a load: its number, the id, name and kind of the object that it is for, and the key of the file
pub record Job : Type 0 where
  pub number : ℕ
  pub id : ℕ
  pub name : List ℕ
  pub kind : Kind
  pub key : List ℕ
