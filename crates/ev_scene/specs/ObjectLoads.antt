-- What loads of objects fetch and give.
use Rattle.std.specs.Prelude.{ℕ, List, Option, None, option_map}
use Rattle.ev_model.specs.Glyphs.{Glyphs}
use Rattle.ev_model.specs.Raster.{Raster}
use Rattle.ev_model.specs.declared.content.Content.{Content}
use Rattle.ev_model.specs.declared.content.Content.TheVariants as content
use Rattle.ev_scene.specs.Ids.{of_id, put}
use Rattle.ev_scene.specs.Board.{Board}
use Rattle.ev_scene.specs.Change.{apply}
use Rattle.ev_scene.specs.declared.image_change.ImageChange.TheVariants as image_change
use Rattle.ev_scene.specs.declared.text_change.TextChange.TheVariants as text_change
use Rattle.ev_scene.specs.declared.change.Change.{Change}
use Rattle.ev_scene.specs.declared.change.Change.TheVariants as change

-- the file that a load fetches, if there is one. Rectangles and smart objects have none
abbrev pub key_of : Content → Option (List ℕ)
key_of content.Rect = None
key_of content.Smart = None
key_of (content.Image part) = part.key
key_of (content.Text part) = part.key

-- the board, once the object of an id has changed
abbrev pub changed_at : Change → Board → ℕ → Board
changed_at change board id = record board { objects = put board.objects id (option_map (apply change) (of_id board.objects id)) }

-- the image object of an id has these pixels, which the load of this number gave
abbrev pub with_image : Board → ℕ → ℕ → Raster → Board
with_image board id number image = changed_at (change.Image (image_change.Load (record { number = number; value = image }))) board id

-- the text object of an id has this font, which the load of this number gave
abbrev pub with_font : Board → ℕ → ℕ → Glyphs → Board
with_font board id number font = changed_at (change.Text (text_change.Load (record { number = number; value = font }))) board id
