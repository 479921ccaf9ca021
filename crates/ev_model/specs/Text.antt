-- The bytes of replies.
use Rattle.std.specs.Prelude.{ℤ, ℕ, ◌+◌, ◌/◌, ◌%◌, List, [], ◌∷◌, ◌++◌, decimal, codes, if◌then◌else◌, nat_lt, length, flat_map, Option, Some, None}
use Rattle.std.specs.Fmt.{signed_decimal}
use Rattle.ev_argb.specs.Argb.{Argb}
use Rattle.ev_geom.specs.Area.{Area}
use Rattle.ev_model.specs.declared.refusal.BadLine.{BadLine}
use Rattle.ev_model.specs.declared.refusal.BadLine.TheVariants as bad
use Rattle.ev_model.specs.declared.refusal.Refusal.{Refusal}
use Rattle.ev_model.specs.declared.refusal.Refusal.TheVariants as refusal
use Rattle.ev_model.specs.declared.refusal.ImageFault.{ImageFault}
use Rattle.ev_model.specs.declared.refusal.ImageFault.TheVariants as image
use Rattle.ev_model.specs.declared.refusal.FontFault.{FontFault}
use Rattle.ev_model.specs.declared.refusal.FontFault.TheVariants as font
use Rattle.ev_model.specs.declared.refusal.LoadFault.{LoadFault}
use Rattle.ev_model.specs.declared.refusal.LoadFault.TheVariants as load
use Rattle.ev_model.specs.Answer.{Answer, Started, Pending, Shown, Lost, Stepped, Served, Preloaded, PreloadFailed, Cancelled, Idle, DumpRow, Sum, Stats, Bad, Refused}

-- the word of a fault of a line
abbrev pub bad_word : BadLine → List ℕ
bad_word bad.Long = codes "long"
bad_word bad.Byte = codes "byte"
bad_word bad.Word = codes "word"
bad_word bad.Count = codes "count"
bad_word bad.Name = codes "name"
bad_word bad.Number = codes "number"

-- the word of a refusal
abbrev pub refusal_word : Refusal → List ℕ
refusal_word refusal.Exists = codes "exists"
refusal_word refusal.Unknown = codes "unknown"
refusal_word refusal.Kind = codes "kind"
refusal_word refusal.Range = codes "range"
refusal_word refusal.Itself = codes "itself"
refusal_word refusal.Layer = codes "layer"
refusal_word refusal.Sibling = codes "sibling"
refusal_word refusal.Cycle = codes "cycle"
refusal_word refusal.Clipping = codes "clipping"
refusal_word refusal.Full = codes "full"
refusal_word refusal.NoFile = codes "nofile"
refusal_word refusal.Loading = codes "loading"
refusal_word refusal.NotLoading = codes "notloading"
refusal_word refusal.Busy = codes "busy"
refusal_word refusal.NoFrame = codes "none"
refusal_word refusal.NoMemory = codes "memory"

abbrev pub image_word : ImageFault → List ℕ
image_word image.Magic = codes "magic"
image_word image.Kind = codes "kind"
image_word image.Short = codes "short"
image_word image.Size = codes "size"
image_word image.Long = codes "long"
image_word image.Premul = codes "premul"

abbrev pub font_word : FontFault → List ℕ
font_word font.Magic = codes "magic"
font_word font.Short = codes "short"
font_word font.Height = codes "height"
font_word font.Width = codes "width"
font_word font.Long = codes "long"
font_word font.Bits = codes "bits"

-- a space, and a number
abbrev pub spaced : ℕ → List ℕ
spaced n = 32 ∷ decimal n

abbrev pub signed_spaced : ℤ → List ℕ
signed_spaced n = 32 ∷ signed_decimal n

-- why a load gave nothing
abbrev pub fault_text : LoadFault → List ℕ
fault_text load.Store = codes "store"
fault_text load.Missing = codes "missing"
fault_text load.Large = codes "large"
fault_text (load.Image kind at) = codes "image " ++ image_word kind ++ spaced at
fault_text (load.Font kind at) = codes "font " ++ font_word kind ++ spaced at
fault_text load.Memory = codes "memory"

-- one line of a list of updates
abbrev pub update_text : Area → List ℕ
update_text area = codes "update" ++ signed_spaced area.x ++ signed_spaced area.y ++ signed_spaced area.w ++ signed_spaced area.h ++ 10 ∷ []

-- a hexadecimal digit
abbrev pub digit : ℕ → ℕ
digit n = if nat_lt n 10 then 48 + n else 87 + n

abbrev pub hex : ℕ → List ℕ
hex n = digit (n / 16) ∷ digit (n % 16) ∷ []

abbrev pub pixel_text : Argb → List ℕ
pixel_text p = hex p.a ++ hex p.r ++ hex p.g ++ hex p.b

-- the pixel of a place, or what stands where it was hidden
abbrev pub place_text : Option Argb → List ℕ
place_text (Some p) = pixel_text p
place_text None = codes "--------"

-- places with single spaces between them
abbrev pub places_text : List (Option Argb) → List ℕ
places_text [] = []
places_text (p ∷ ps) = place_text p ++ flat_map (λ q. 32 ∷ place_text q) ps

-- the bytes of one reply
abbrev pub reply_text : Answer → List ℕ
reply_text (Started n tiles) = codes "started" ++ spaced n ++ spaced tiles ++ 10 ∷ []
reply_text (Pending n done tiles) = codes "pending" ++ spaced n ++ spaced done ++ spaced tiles ++ 10 ∷ []
reply_text (Shown n w h updates) = codes "shown" ++ spaced n ++ spaced w ++ spaced h ++ spaced (length updates) ++ 10 ∷ [] ++ flat_map update_text updates
reply_text (Lost n) = codes "lost" ++ spaced n ++ 10 ∷ []
reply_text (Stepped drawn) = codes "stepped" ++ spaced drawn ++ 10 ∷ []
reply_text (Served name) = codes "served " ++ name ++ 10 ∷ []
reply_text (Preloaded name) = codes "preloaded " ++ name ++ 10 ∷ []
reply_text (PreloadFailed name fault) = codes "preload-failed " ++ name ++ 32 ∷ fault_text fault ++ 10 ∷ []
reply_text (Cancelled name) = codes "cancelled " ++ name ++ 10 ∷ []
reply_text Idle = codes "idle" ++ 10 ∷ []
reply_text (DumpRow places) = places_text places ++ 10 ∷ []
reply_text (Sum a r g b p) = codes "sum" ++ spaced a ++ spaced r ++ spaced g ++ spaced b ++ spaced p ++ 10 ∷ []
reply_text (Stats painted made) = codes "stats" ++ spaced painted ++ spaced made ++ 10 ∷ []
reply_text (Bad fault line) = codes "bad " ++ bad_word fault ++ spaced line ++ 10 ∷ []
reply_text (Refused cause line) = codes "refused " ++ refusal_word cause ++ spaced line ++ 10 ∷ []

-- the bytes of a list of replies
abbrev pub text : List Answer → List ℕ
text replies = flat_map reply_text replies
