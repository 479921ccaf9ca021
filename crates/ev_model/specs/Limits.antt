-- The limits of the values of objects.
use Rattle.std.specs.Prelude.{ℤ, ℕ, pos, neg_ℤ, ◌≤ℤ◌, ◌≤◌, All, List}
use Rattle.ev_geom.specs.Area.{IsPlace}
use Rattle.ev_state.specs.Held.{Held}
use Rattle.ev_model.specs.Glyphs.{IsText}
use Rattle.ev_model.specs.declared.content.Border.{Border}
use Rattle.ev_model.specs.declared.content.Fill.{Fill}
use Rattle.ev_model.specs.declared.content.Fill.TheVariants.{Filled, Area}
use Rattle.ev_model.specs.declared.content.Content.{Content}
use Rattle.ev_model.specs.declared.content.Content.TheVariants as content
use Rattle.ev_model.specs.declared.object.Object.{Object}
use Rattle.ev_model.specs.declared.command.Edit.{Edit}
use Rattle.ev_model.specs.declared.command.Edit.TheVariants.{Say}
use Rattle.ev_model.specs.declared.command.Command.{Command}
use Rattle.ev_model.specs.declared.command.Command.TheVariants as command

-- an area in which an image repeats is 1 to 1,000,000 wide and high
pub record IsFillArea (x y : ℤ) (w h : ℕ) : Type 0 where
  pub left : IsPlace x
  pub top : IsPlace y
  pub w_low : 1 ≤ w
  pub w_high : w ≤ 1000000
  pub h_low : 1 ≤ h
  pub h_high : h ≤ 1000000

abbrev pub IsFill : Fill → Type 0
IsFill Filled = Unit {0}
IsFill (Area x y w h) = IsFillArea x y w h

-- a border is 0 to 4096 wide on each side
pub record IsBorder (border : Border) : Type 0 where
  pub l : border.l ≤ 4096
  pub r : border.r ≤ 4096
  pub t : border.t ≤ 4096
  pub b : border.b ≤ 4096

-- the values of a content keep their limits
abbrev pub IsContent : Content → Type 0
IsContent content.Rect = Unit {0}
IsContent content.Smart = Unit {0}
IsContent (content.Image part) = IsFill part.fill × IsBorder part.border
IsContent (content.Text part) = IsText part.text

-- the values of an object keep their limits; those of its name, its rectangle and its colour always do
pub record IsObject (o : Object) : Type 0 where
  pub layer_low : neg_ℤ (pos 32768) ≤ℤ o.layer
  pub layer_high : o.layer ≤ℤ pos 32767
  pub content : IsContent o.content

abbrev pub AreObjects : List (Held Object) → Type 0
AreObjects states = All (λ s. IsObject s.value) states

-- a text that is said keeps its limits; numbers may be anything
abbrev pub IsEdit : Edit → Type 0
IsEdit (Say name text) = IsText text.now
IsEdit edit = Unit {0}

abbrev pub IsCommand : Command → Type 0
IsCommand (command.Edit edit) = IsEdit edit
IsCommand command = Unit {0}
