-- What is seen of an object.
use Rattle.std.specs.Prelude.{◌≡◌, ℕ, pos, Bool, ◌&&◌, int_lt, if◌then◌else◌, List, filter_map, Option, Some, None, option_map}
use Rattle.ev_argb.specs.Argb.{Argb}
use Rattle.ev_geom.specs.Area.{Area}
use Rattle.ev_model.specs.Loaded.{Loaded}
use Rattle.ev_model.specs.Stage.{Stage}
use Rattle.ev_model.specs.Up.{is_drawn, clip, colour}
use Rattle.ev_model.specs.declared.content.Border.{Border}
use Rattle.ev_model.specs.declared.content.Fill.{Fill}
use Rattle.ev_model.specs.declared.content.Content.{Content}
use Rattle.ev_model.specs.declared.content.Content.TheVariants as content
use Rattle.ev_model.specs.declared.object.Object.{Object}
use Rattle.ev_model.specs.declared.scene.Record.{Record}

-- a record without its serial: the pixels that an object may change, the colour that tints it, and the object
pub record Look : Type 0 where
  pub id : ℕ
  pub area : Area
  pub color : Argb
  pub object : Object

abbrev pub look_of : Record → Look
look_of r = record { id = r.id; area = r.area; color = r.color; object = r.object.value }

abbrev pub has_pixels : Area → Bool
has_pixels area = int_lt (pos 0) area.w && int_lt (pos 0) area.h

-- an object has a look where it is drawn and some pixel is left to it
abbrev pub look : Stage → Object → Option Look
look s o = if is_drawn s o && has_pixels (clip s o) then Some (record { id = o.id; area = clip s o; color = colour s o; object = o }) else None

-- all looks, from the lowest to the highest
abbrev pub looks : Stage → List Look
looks s = filter_map (look s) s.objects

-- a content, where loaded pixels and a loaded font count by the number of their load, and a key does not count
pub data Figure : Type 0 where
  of_rect : Figure
  of_smart : Figure
  of_image : Option ℕ → Fill → Border → Bool → Figure
  of_text : Option ℕ → List ℕ → Figure

abbrev pub load_number : {T : Type 0} → Option (Loaded T) → Option ℕ
load_number loaded = option_map (λ l. l.number) loaded

abbrev pub figure : Content → Figure
figure content.Rect = of_rect
figure content.Smart = of_smart
figure (content.Image part) = of_image (load_number part.loaded) part.fill part.border part.center
figure (content.Text part) = of_text (load_number part.loaded) part.text

-- two looks are equal where these five are
pub record IsSameLook (a b : Look) : Type 0 where
  pub area : a.area ≡ b.area
  pub rect : a.object.rect ≡ b.object.rect
  pub op : a.object.op ≡ b.object.op
  pub color : a.color ≡ b.color
  pub figure : figure a.object.content ≡ figure b.object.content
