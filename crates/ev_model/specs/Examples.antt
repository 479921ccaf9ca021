-- Small scenes, and what they look like.
use Rattle.std.specs.Prelude.{◌≡◌, ℕ, pos, neg_ℤ, true, false, refl, map, replicate, slice_set, List, [], ◌∷◌, ◌++◌, Some, None}
use Rattle.ev_argb.specs.Argb.{unpacked, packed}
use Rattle.ev_model.specs.Glyphs.{Glyphs}
use Rattle.ev_model.specs.Capture.{capture_of}
use Rattle.ev_model.specs.Paint.{redrawn}
use Rattle.ev_model.specs.declared.content.Fill.{Fill}
use Rattle.ev_model.specs.declared.content.Fill.TheVariants.{Filled, Area}
use Rattle.ev_model.specs.declared.object.Op.TheVariants.{Blend, Copy}
use Rattle.ev_model.specs.declared.content.Content.{Content}
use Rattle.ev_model.specs.declared.content.Content.TheVariants as content
use Rattle.ev_model.specs.declared.object.Object.{Object}

-- a visible object at 0, 0, of this size and this colour
abbrev object : ℕ → ℕ → ℕ → ℕ → Content → Object
object id w h color content = record {
  id = id;
  name = [];
  rect = record { x = pos 0; y = pos 0; w = pos w; h = pos h };
  shown = true;
  color = unpacked color;
  op = Blend;
  layer = pos 0;
  clipper = None;
  parent = None;
  content = content;
}

abbrev clipped : ℕ → Object → Object
clipped id o = record o { clipper = Some id }

abbrev inside : ℕ → Object → Object
inside id o = record o { parent = Some id }

-- the words of the pixels of a full redraw
abbrev words : ℕ → ℕ → List Object → List ℕ
words w h objects = map packed (redrawn (capture_of (record { w = w; h = h; objects = objects })))

abbrev image : ℕ → ℕ → List ℕ → Fill → ℕ → Content
image w h pixels fill border = content.Image (record {
  key = None;
  loaded = Some (record { number = 1; value = record { w = w; h = h; pixels = map unpacked pixels } });
  fill = fill;
  border = record { l = border; r = border; t = border; b = border };
  center = false;
})

one_colour : words 2 1 (object 1 2 1 0xffff0000 content.Rect ∷ []) ≡ 0xffff0000 ∷ 0xffff0000 ∷ []
one_colour = refl

half_over_white : words 1 1 (object 1 1 1 0xffffffff content.Rect ∷ object 2 1 1 0x80800000 content.Rect ∷ []) ≡ 0xffff7f7f ∷ []
half_over_white = refl

nearly_opaque : words 1 1 (object 1 1 1 0xffffffff content.Rect ∷ object 2 1 1 0xfefe0000 content.Rect ∷ []) ≡ 0xffff0101 ∷ []
nearly_opaque = refl

copied_away : words 1 1 (object 1 1 1 0xffffffff content.Rect ∷ record (object 2 1 1 0 content.Rect) { op = Copy } ∷ []) ≡ 0 ∷ []
copied_away = refl

-- clippers are not painted, and each tints what lies under it
one_clipper : words 1 1 (clipped 2 (object 1 1 1 0xffffffff content.Rect) ∷ object 2 1 1 0x80808080 content.Rect ∷ []) ≡ 0x80808080 ∷ []
one_clipper = refl

two_clippers : words 1 1 (clipped 2 (object 1 1 1 0xffffffff content.Rect) ∷ clipped 3 (object 2 1 1 0x80808080 content.Rect) ∷ object 3 1 1 0x80808080 content.Rect ∷ []) ≡ 0x40404040 ∷ []
two_clippers = refl

three_clippers : words 1 1 (clipped 2 (object 1 1 1 0xffffffff content.Rect) ∷ clipped 3 (object 2 1 1 0x80808080 content.Rect) ∷ clipped 4 (object 3 1 1 0x80808080 content.Rect) ∷ object 4 1 1 0x80808080 content.Rect ∷ []) ≡ 0x20202020 ∷ []
three_clippers = refl

-- a smart object tints its members and cuts none of them
in_smart : words 2 1 (object 1 0 0 0x80808080 content.Smart ∷ inside 1 (object 2 2 1 0xffffffff content.Rect) ∷ []) ≡ 0x80808080 ∷ 0x80808080 ∷ []
in_smart = refl

-- one green pixel, in a fill of 3 by 3 from -1, -1 on, with wide borders and without the centre
green_corner : words 4 4 (object 1 4 4 0xffffffff (image 1 1 (0xff00ff00 ∷ []) (Area (neg_ℤ (pos 1)) (neg_ℤ (pos 1)) 3 3) 5) ∷ []) ≡
    replicate 8 0 ++ 0 ∷ 0 ∷ 0xff00ff00 ∷ 0 ∷ replicate 4 0
green_corner = refl

-- nine blue pixels in 4 by 4, with borders of 1 and without the centre
blue_frame : words 4 4 (object 1 4 4 0xffffffff (image 3 3 (replicate 9 0xff0000ff) Filled 1) ∷ []) ≡
    replicate 4 0xff0000ff ++ 0xff0000ff ∷ 0 ∷ 0 ∷ 0xff0000ff ∷ 0xff0000ff ∷ 0 ∷ 0 ∷ 0xff0000ff ∷ replicate 4 0xff0000ff
blue_frame = refl

blue_frame_on_white : words 4 4 (object 1 4 4 0xffffffff content.Rect ∷ object 2 4 4 0xffffffff (image 3 3 (replicate 9 0xff0000ff) Filled 1) ∷ []) ≡
    replicate 4 0xff0000ff ++ 0xff0000ff ∷ 0xffffffff ∷ 0xffffffff ∷ 0xff0000ff ∷ 0xff0000ff ∷ 0xffffffff ∷ 0xffffffff ∷ 0xff0000ff ∷ replicate 4 0xff0000ff
blue_frame_on_white = refl

-- a font of height 1 in which each glyph is one column wide, and A alone is set
abbrev dots : Glyphs
dots = record { height = 1; widths = replicate 95 1; rows = slice_set (replicate 95 0) 33 1 }

dotted : words 3 1 (object 1 3 1 0xffffffff (content.Text (record { key = None; loaded = Some (record { number = 1; value = dots }); text = 65 ∷ 32 ∷ 65 ∷ [] })) ∷ []) ≡
    0xffffffff ∷ 0 ∷ 0xffffffff ∷ []
dotted = refl
