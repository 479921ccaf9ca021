-- What loads have given to the objects of a scene.
use Rattle.std.specs.Prelude.{◌≡◌, ℕ, Option, Some, None, IfSome}
use Rattle.ev_model.specs.Glyphs.{Glyphs}
use Rattle.ev_model.specs.Loaded.{Loaded}
use Rattle.ev_model.specs.Raster.{Raster}
use Rattle.ev_model.specs.declared.content.Content.{Content}
use Rattle.ev_model.specs.declared.content.Content.TheVariants as content
use Rattle.ev_model.specs.declared.object.Object.{Object}
use Rattle.ev_scene.specs.Ids.{of_id}
use Rattle.ev_scene.specs.Board.{Board}

-- the loaded image of a content
abbrev pub image_of : Content → Option (Loaded Raster)
image_of (content.Image part) = part.loaded
image_of _ = None

-- the loaded font of a content
abbrev pub font_of : Content → Option (Loaded Glyphs)
font_of (content.Text part) = part.loaded
font_of _ = None

-- an object that is there has this loaded image
pub record HasImage (board : Board) (image : Loaded Raster) : Type 0 where
  pub id : ℕ
  pub object : Object
  pub there : of_id board.objects id ≡ Some object
  pub has : image_of object.content ≡ Some image

-- an object that is there has this loaded font
pub record HasFont (board : Board) (font : Loaded Glyphs) : Type 0 where
  pub id : ℕ
  pub object : Object
  pub there : of_id board.objects id ≡ Some object
  pub has : font_of object.content ≡ Some font

-- P holds of the loaded image of an object, if it has one, and Q of its loaded font
pub record HasLoads (P : Loaded Raster → Type 0) (Q : Loaded Glyphs → Type 0) (o : Object) : Type 0 where
  pub image : IfSome (image_of o.content) P
  pub font : IfSome (font_of o.content) Q

-- the same of each object that is there
abbrev pub HoldsLoads : (Loaded Raster → Type 0) → (Loaded Glyphs → Type 0) → Board → Type 0
HoldsLoads P Q board = (id : ℕ) (o : Object) → of_id board.objects id ≡ Some o → HasLoads P Q o
