-- What the log tells of the end of a load.
use Rattle.std.specs.Prelude.{Option, Some, None}
use Rattle.ev_image.specs.declared.fault.BadImage.{BadImage}
use Rattle.ev_image.specs.declared.fault.BadImage.TheVariants as image
use Rattle.ev_model.specs.declared.refusal.FontFault.TheVariants as font_kind
use Rattle.ev_model.specs.declared.refusal.ImageFault.TheVariants as image_kind
use Rattle.ev_model.specs.declared.refusal.LoadFault.{LoadFault}
use Rattle.ev_model.specs.declared.refusal.LoadFault.TheVariants as told
use Rattle.ev_text.specs.declared.fault.BadFont.{BadFont}
use Rattle.ev_text.specs.declared.fault.BadFont.TheVariants as font
use Rattle.ev_preload.specs.declared.end.LoadEnd.{LoadEnd}
use Rattle.ev_preload.specs.declared.end.LoadEnd.TheVariants as end

-- what is told of bytes that are no image: the word, and a place or a number of bytes
abbrev pub image_fault : BadImage → LoadFault
image_fault image.Magic = told.Image image_kind.Magic 0
image_fault image.Kind = told.Image image_kind.Kind 4
image_fault (image.Size at) = told.Image image_kind.Size at
image_fault (image.Short at) = told.Image image_kind.Short at
image_fault (image.Long at) = told.Image image_kind.Long at
image_fault (image.Premul at) = told.Image image_kind.Premul at
image_fault image.NoMemory = told.Memory

-- what is told of bytes that are no font: the word, and a place, a number of bytes or a glyph
abbrev pub font_fault : BadFont → LoadFault
font_fault font.Magic = told.Font font_kind.Magic 0
font_fault font.Height = told.Font font_kind.Height 4
font_fault (font.Width glyph) = told.Font font_kind.Width glyph
font_fault (font.Short at) = told.Font font_kind.Short at
font_fault (font.Long at) = told.Font font_kind.Long at
font_fault (font.Bits glyph) = told.Font font_kind.Bits glyph
font_fault font.NoMemory = told.Memory

-- what is told of an end: nothing where the object got its image or font
abbrev pub fault_of : LoadEnd → Option LoadFault
fault_of (end.Done image) = None
fault_of (end.Font font) = None
fault_of end.Missing = Some told.Missing
fault_of end.TooLarge = Some told.Large
fault_of (end.BadImage fault) = Some (image_fault fault)
fault_of (end.BadFont fault) = Some (font_fault fault)
fault_of (end.Failed before after) = Some told.Store
fault_of end.NoMemory = Some told.Memory
