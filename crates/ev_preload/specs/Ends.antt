-- How a load may end, by the files of its store.
use Rattle.std.specs.Prelude.{◌≡◌, ℕ, List, length, nat_le, Option, Some, None, IfSome, Result, Ok, Err, if◌then◌else◌}
use Rattle.ev_port.specs.Causes.{Rose}
use Rattle.ev_port.specs.Files.{bytes_of}
use Rattle.ev_port.specs.declared.file.TheConstants.{LARGEST_FILE}
use Rattle.ev_port.specs.declared.file.StoredFile.{StoredFile}
use Rattle.ev_model.specs.Glyphs.{Glyphs}
use Rattle.ev_model.specs.Raster.{Raster}
use Rattle.ev_model.specs.declared.content.Kind.{Kind}
use Rattle.ev_model.specs.declared.content.Kind.TheVariants as kinds
use Rattle.ev_image.specs.Format as image_format
use Rattle.ev_image.specs.Reading.{image_at}
use Rattle.ev_image.specs.Reading as images
use Rattle.ev_image.specs.declared.fault.BadImage as image_fault
use Rattle.ev_text.specs.FontFormat as font_format
use Rattle.ev_text.specs.FontReading.{font_at}
use Rattle.ev_text.specs.FontReading as fonts
use Rattle.ev_text.specs.declared.fault.BadFont as font_fault
use Rattle.ev_preload.specs.declared.end.LoadEnd.{LoadEnd}
use Rattle.ev_preload.specs.declared.end.LoadEnd.TheVariants.{Done, Font, Missing, TooLarge, BadImage, BadFont, Failed, NoMemory}

-- the end where bytes are read as an image
abbrev pub image_end : Result Raster image_fault.BadImage → LoadEnd
image_end (Ok image) = Done image
image_end (Err fault) = BadImage fault

-- the end where bytes are read as a font
abbrev pub font_end : Result Glyphs font_fault.BadFont → LoadEnd
font_end (Ok font) = Font font
font_end (Err fault) = BadFont fault

-- the end that bytes give for an object of this kind: a font is read for a text object, an image for an image object
abbrev pub read_end : Kind → List ℕ → LoadEnd
read_end kinds.Text bytes = font_end (font_at bytes)
read_end kind bytes = image_end (image_at bytes)

-- the end that is due where a key names these bytes, or none
abbrev pub due_end : Kind → Option (List ℕ) → LoadEnd
due_end kind None = Missing
due_end kind (Some bytes) = if nat_le (length bytes) LARGEST_FILE then read_end kind bytes else TooLarge

-- a load ended as is due, unless a fault of the store or want of memory came first
abbrev pub EndsAs : LoadEnd → LoadEnd → Type 0
EndsAs due (Failed before after) = Unit {0}
EndsAs due NoMemory = Unit {0}
EndsAs due end = end ≡ due

-- a load of a key ended as is due by the files, where they are told
abbrev pub EndsBy : Option (List StoredFile) → List ℕ → Kind → LoadEnd → Type 0
EndsBy None key kind end = Unit {0}
EndsBy (Some files) key kind end = EndsAs (due_end kind (bytes_of files key)) end

-- what a load gave stands in these bytes
abbrev pub StandsIn : List ℕ → LoadEnd → Type 0
StandsIn bytes (Done image) = image_format.Stands bytes image
StandsIn bytes (Font font) = font_format.Stands bytes font
StandsIn bytes end = Unit {0}

-- what a load gave stands in the bytes that the key names, where the files are told
abbrev pub StandsBy : Option (List StoredFile) → List ℕ → LoadEnd → Type 0
StandsBy None key end = Unit {0}
StandsBy (Some files) key end = IfSome (bytes_of files key) (λ bytes. StandsIn bytes end)

-- images, and their faults, come for image objects alone; fonts, and their faults, for text objects alone; want of memory is an end of its own
abbrev pub IsOfKind : Kind → LoadEnd → Type 0
IsOfKind kind (Done image) = kind ≡ kinds.Image
IsOfKind kind (BadImage fault) = (kind ≡ kinds.Image) × images.IsFault fault
IsOfKind kind (Font font) = kind ≡ kinds.Text
IsOfKind kind (BadFont fault) = (kind ≡ kinds.Text) × fonts.IsFault fault
IsOfKind kind end = Unit {0}

-- where the store failed, the end carries its counts of faults, and they rose
abbrev pub HasCounts : ℕ → ℕ → LoadEnd → Type 0
HasCounts before now (Failed first last) = (first ≡ before) × (last ≡ now) × Rose before now
HasCounts before now end = Unit {0}

-- the store did not fail
abbrev pub IsFaultless : LoadEnd → Type 0
IsFaultless (Failed before after) = ⊥
IsFaultless end = Unit {0}
