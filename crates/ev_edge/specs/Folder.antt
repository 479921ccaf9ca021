-- Files of a folder: their paths, why none is given, and the file that a frame is written to.
use Rattle.std.specs.Prelude.{ℕ, List, ◌++◌, codes, Option, Some, None, Result, Ok, Err, Bool, true, false}
use Rattle.std.specs.Fmt.{decimal}
use Rattle.ev_argb.specs.Grid.{Grid}
use Rattle.ev_port.specs.Files.{due, Answers}
use Rattle.ev_port.specs.Frame.{pixels_of}
use Rattle.ev_model.specs.Raster.{Raster}
use Rattle.ev_image.specs.Format.{spelling}
use Rattle.ev_image.specs.declared.format.Format.TheVariants.{Evi1}
use Rattle.ev_port.specs.declared.outside.StoreErr.{StoreErr}
use Rattle.ev_port.specs.declared.outside.StoreErr.TheVariants.{Missing, TooLarge, Failed, NoMemory}

-- the path of the file that a key names
abbrev pub path_of : List ℕ → List ℕ → List ℕ
path_of folder key = folder ++ codes "/" ++ key

-- whether a store failed
abbrev pub is_fault : {T : Type 0} → Result T StoreErr → Bool
is_fault (Ok done) = false
is_fault (Err Missing) = false
is_fault (Err TooLarge) = false
is_fault (Err Failed) = true
is_fault (Err NoMemory) = false

-- a file of these bytes, where they are known, was read
abbrev pub Reads : Option (List ℕ) → Result (Unit {0}) StoreErr → List ℕ → Type 0
Reads None result into = Unit {0}
Reads (Some bytes) result into = Answers (due (Some bytes)) result into

-- the path of the file of a frame
abbrev pub frame_path : List ℕ → ℕ → List ℕ
frame_path folder n = folder ++ codes "/frame-" ++ decimal n ++ codes ".evi"

-- a picture as an image
abbrev pub image_of : Grid → Raster
image_of grid = record { w = grid.w; h = grid.h; pixels = pixels_of grid }

-- the bytes of a frame's file: its picture in the format EVI1
abbrev pub frame_bytes : Grid → List ℕ
frame_bytes grid = spelling Evi1 (image_of grid)
