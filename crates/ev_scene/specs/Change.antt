-- Changes of one object.
use Rattle.std.specs.Prelude.{◌≡◌, ℕ, ℤ, pos, neg_ℤ, Bool, true, ◌&&◌, false, int_le, unsigned_abs, List, [], Some, None}
use Rattle.ev_argb.specs.Argb.{Argb, clamped}
use Rattle.ev_geom.specs.Area.{is_place, is_side, nowhere}
use Rattle.ev_model.specs.Glyphs.{IsText}
use Rattle.ev_model.specs.Limits.{IsFill, IsBorder}
use Rattle.ev_model.specs.declared.content.Border.{Border}
use Rattle.ev_model.specs.declared.content.Content.{Content}
use Rattle.ev_model.specs.declared.content.Content.TheVariants as content
use Rattle.ev_model.specs.declared.content.Fill.{Fill}
use Rattle.ev_model.specs.declared.content.Fill.TheVariants.{Filled, Area}
use Rattle.ev_model.specs.declared.content.ImagePart.{ImagePart}
use Rattle.ev_model.specs.declared.content.TextPart.{TextPart}
use Rattle.ev_model.specs.declared.content.Kind.{Kind}
use Rattle.ev_model.specs.declared.content.Kind.TheVariants as kind
use Rattle.ev_model.specs.declared.object.Object.{Object}
use Rattle.ev_model.specs.declared.object.Op.TheVariants.{Blend}
use Rattle.ev_scene.specs.declared.image_change.ImageChange.{ImageChange}
use Rattle.ev_scene.specs.declared.image_change.ImageChange.TheVariants as image_change
use Rattle.ev_scene.specs.declared.text_change.TextChange.{TextChange}
use Rattle.ev_scene.specs.declared.text_change.TextChange.TheVariants as text_change
use Rattle.ev_scene.specs.declared.change.Change.{Change}
use Rattle.ev_scene.specs.declared.change.Change.TheVariants as change

-- what an image object shows and how, after a change. Another file drops the pixels
abbrev pub change_image_part : ImageChange → ImagePart → ImagePart
change_image_part (image_change.Fill fill) part = record part { fill = fill }
change_image_part (image_change.Border border) part = record part { border = border }
change_image_part (image_change.Center on) part = record part { center = on }
change_image_part (image_change.File key) part = record part { key = Some key; loaded = None }
change_image_part (image_change.Load loaded) part = record part { loaded = Some loaded }

-- the same for the content of any object
abbrev pub change_image : ImageChange → Content → Content
change_image d content.Rect = content.Rect
change_image d content.Smart = content.Smart
change_image d (content.Image part) = content.Image (change_image_part d part)
change_image d (content.Text part) = content.Text part

-- what a text object says and by which font, after a change. Another file drops the font
abbrev pub change_text_part : TextChange → TextPart → TextPart
change_text_part (text_change.Font key) part = record part { key = Some key; loaded = None }
change_text_part (text_change.Load loaded) part = record part { loaded = Some loaded }
change_text_part (text_change.Say text) part = record part { text = text }

-- the same for the content of any object
abbrev pub change_text : TextChange → Content → Content
change_text w content.Rect = content.Rect
change_text w content.Smart = content.Smart
change_text w (content.Image part) = content.Image part
change_text w (content.Text part) = content.Text (change_text_part w part)

-- an object after a change
abbrev pub apply : Change → Object → Object
apply (change.Move x y) o = record o { rect = record o.rect { x = x; y = y } }
apply (change.Resize w h) o = record o { rect = record o.rect { w = w; h = h } }
apply (change.Show on) o = record o { shown = on }
apply (change.Color color) o = record o { color = color }
apply (change.Op op) o = record o { op = op }
apply (change.Layer layer) o = record o { layer = layer }
apply (change.Image d) o = record o { content = change_image d o.content }
apply (change.Text w) o = record o { content = change_text w o.content }
apply (change.Clip clipper) o = record o { clipper = clipper }
apply (change.Parent parent) o = record o { parent = parent }

-- from low to high
abbrev pub is_between : ℤ → ℤ → ℤ → Bool
is_between low high n = int_le low n && int_le n high

-- layers lie from -32,768 to 32,767
abbrev pub is_layer : ℤ → Bool
is_layer n = is_between (neg_ℤ (pos 32768)) (pos 32767) n

-- the sides of a canvas are 1 to 4096 pixels long
abbrev pub is_canvas : ℤ → ℤ → Bool
is_canvas w h = is_between (pos 1) (pos 4096) w && is_between (pos 1) (pos 4096) h

abbrev pub is_channel : ℤ → Bool
is_channel n = is_between (pos 0) (pos 255) n

-- four numbers from 0 to 255
unfoldable pub are_channels : ℤ → ℤ → ℤ → ℤ → Bool
are_channels r g b a = is_channel r && is_channel g && is_channel b && is_channel a

-- the colour of four such numbers, where none is above a
unfoldable pub color_of : ℤ → ℤ → ℤ → ℤ → Argb
color_of r g b a = clamped (unsigned_abs a) (unsigned_abs r) (unsigned_abs g) (unsigned_abs b)

-- the numbers of a change of an image are in range
abbrev pub IsImageChange : ImageChange → Type 0
IsImageChange (image_change.Fill fill) = IsFill fill
IsImageChange (image_change.Border border) = IsBorder border
IsImageChange (image_change.Center on) = Unit {0}
IsImageChange (image_change.File key) = Unit {0}
IsImageChange (image_change.Load loaded) = Unit {0}

-- what a text says keeps the limits of texts
abbrev pub IsTextChange : TextChange → Type 0
IsTextChange (text_change.Font key) = Unit {0}
IsTextChange (text_change.Load loaded) = Unit {0}
IsTextChange (text_change.Say text) = IsText text

-- a change that leaves the layer, the clipper and the parent, and whose numbers are in range
abbrev pub IsLook : Change → Type 0
IsLook (change.Move x y) = (is_place x ≡ true) × (is_place y ≡ true)
IsLook (change.Resize w h) = (is_side w ≡ true) × (is_side h ≡ true)
IsLook (change.Show on) = Unit {0}
IsLook (change.Color color) = Unit {0}
IsLook (change.Op op) = Unit {0}
IsLook (change.Image d) = IsImageChange d
IsLook (change.Text w) = IsTextChange w
IsLook (change.Layer layer) = ⊥
IsLook (change.Clip clipper) = ⊥
IsLook (change.Parent parent) = ⊥

-- the numbers of a change are in range
abbrev pub IsFit : Change → Type 0
IsFit (change.Layer layer) = is_layer layer ≡ true
IsFit (change.Clip clipper) = Unit {0}
IsFit (change.Parent parent) = Unit {0}
IsFit other = IsLook other

-- the area in which an image repeats has a place, and is 1 to 1,000,000 wide and high
unfoldable pub is_fill : ℤ → ℤ → ℤ → ℤ → Bool
is_fill x y w h = is_place x && is_place y && is_between (pos 1) (pos 1000000) w && is_between (pos 1) (pos 1000000) h

abbrev pub fill_of : ℤ → ℤ → ℤ → ℤ → Fill
fill_of x y w h = Area x y (unsigned_abs w) (unsigned_abs h)

-- a border is 0 to 4096 pixels wide on each side
unfoldable pub is_border : ℤ → ℤ → ℤ → ℤ → Bool
is_border l r t b = is_between (pos 0) (pos 4096) l && is_between (pos 0) (pos 4096) r && is_between (pos 0) (pos 4096) t && is_between (pos 0) (pos 4096) b

abbrev pub border_of : ℤ → ℤ → ℤ → ℤ → Border
border_of l r t b = record { l = unsigned_abs l; r = unsigned_abs r; t = unsigned_abs t; b = unsigned_abs b }

-- the content of a new object: an image fills it, without borders and with the centre on; a text is empty
abbrev pub content_of : Kind → Content
content_of kind.Rect = content.Rect
content_of kind.Smart = content.Smart
content_of kind.Image = content.Image (record { key = None; loaded = None; fill = Filled; border = record { l = 0; r = 0; t = 0; b = 0 }; center = true })
content_of kind.Text = content.Text (record { key = None; loaded = None; text = [] })

-- a new object: at 0, 0, without size, hidden, white, blended, in layer 0, and over it nothing
abbrev pub fresh : ℕ → List ℕ → Kind → Object
fresh id name kind = record {
  id = id;
  name = name;
  rect = nowhere;
  shown = false;
  color = clamped 255 255 255 255;
  op = Blend;
  layer = pos 0;
  clipper = None;
  parent = None;
  content = content_of kind;
}
