-- What stays the same outside the damage.
use Rattle.std.specs.Prelude.{◌≡◌, ℕ, pos, All, List, filter, Option, Some, None}
use Rattle.std.specs.List.{AllZip}
use Rattle.ev_model.specs.Raster.{Raster}
use Rattle.ev_geom.specs.Area.{holds}
use Rattle.ev_model.specs.Glyphs.{Glyphs}
use Rattle.ev_model.specs.Loaded.{Loaded}
use Rattle.ev_model.specs.Capture.{Capture}
use Rattle.ev_model.specs.Look.{Look, IsSameLook}
use Rattle.ev_model.specs.Paint.{paint}
use Rattle.ev_model.specs.declared.content.Content.{Content}
use Rattle.ev_model.specs.declared.content.Content.TheVariants as content
use Rattle.ev_model.specs.declared.object.Object.{Object}

-- the loaded image of a content
abbrev pub image_of : Content → Option (Loaded Raster)
image_of (content.Image part) = part.loaded
image_of _ = None

-- the loaded font of a content
abbrev pub font_of : Content → Option (Loaded Glyphs)
font_of (content.Text part) = part.loaded
font_of _ = None

-- two loads of one number gave one value
pub record IsOneLoad {T : Type 0} (one other : Option (Loaded T)) : Type 0 where
  pub value : (l m : Loaded T) → one ≡ Some l → other ≡ Some m → l.number ≡ m.number → l.value ≡ m.value

-- in two objects one load number stands for one image and for one font
pub record AreOneLoad (o p : Object) : Type 0 where
  pub image : IsOneLoad (image_of o.content) (image_of p.content)
  pub font : IsOneLoad (font_of o.content) (font_of p.content)

-- one load number stands for one image and for one font in the objects of all these looks together
abbrev pub HaveOneLoad : List Look → List Look → Type 0
HaveOneLoad looks others = All (λ l. All (λ m. AreOneLoad l.object m.object) others) looks

-- the looks that cover a pixel, from the lowest to the highest
abbrev pub covering : List Look → ℕ → ℕ → List Look
covering looks x y = filter (λ l. holds l.area (pos x) (pos y)) looks

-- two looks are of one object and equal
pub record IsStillLook (l m : Look) : Type 0 where
  pub id : l.id ≡ m.id
  pub same : IsSameLook l m

-- the same looks cover the pixel in both captured scenes, in the same order, and it is painted the same
pub record IsStill (a b : Capture) (x y : ℕ) : Type 0 where
  pub looks : AllZip IsStillLook (covering a.looks x y) (covering b.looks x y)
  pub pixel : paint a x y ≡ paint b x y
