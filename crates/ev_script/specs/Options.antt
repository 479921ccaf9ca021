-- The words of a run: options, each with its value behind it.
use Rattle.std.specs.Prelude.{ℕ, Bool, true, false, ◌&&◌, ◌||◌, not, nat_eq, nat_le, List, [], ◌∷◌, codes, Option, Some, None, is_some, unwrap_or, ◌==◌, if◌then◌else◌}
use Rattle.std.specs.List.{list_any}
use Rattle.std.specs.Str.{bytes_eq}
use Rattle.ev_lang.specs.Classes.{natural}
use Rattle.ev_canvas.specs.declared.canvas.Setup.{Setup}
use Rattle.ev_script.specs.declared.words.Options.{Options}

-- the value behind this option, where it stands among the words
abbrev pub value_of : List ℕ → List (List ℕ) → Option (List ℕ)
value_of option [] = None
value_of option (word ∷ []) = None
value_of option (word ∷ (value ∷ words)) = if bytes_eq word option then Some value else value_of option words

-- a number that is to be of some kind
abbrev pub checked : (ℕ → Bool) → Option ℕ → Option ℕ
checked fits None = None
checked fits (Some n) = if fits n then Some n else None

-- how many workers a value asks for
abbrev pub workers : List ℕ → Option ℕ
workers value = checked (λ n. nat_le n 16) (natural value)

-- how many buffers a value asks for
abbrev pub buffers : List ℕ → Option ℕ
buffers value = checked (λ n. nat_le 1 n && nat_le n 3) (natural value)

-- the side of a cell that a value asks for, in pixels
abbrev pub cell : List ℕ → Option ℕ
cell value = checked (λ n. list_any (λ side. nat_eq side n) (1 ∷ 2 ∷ 4 ∷ 8 ∷ 16 ∷ 32 ∷ 64 ∷ [])) (natural value)

-- whether an option is one of the five and this is a value of its kind
abbrev pub is_of_kind : List ℕ → List ℕ → Bool
is_of_kind option value =
    if bytes_eq option (codes "--workers") then is_some (workers value)
    else if bytes_eq option (codes "--buffers") then is_some (buffers value)
    else if bytes_eq option (codes "--cell") then is_some (cell value)
    else bytes_eq option (codes "--store") || bytes_eq option (codes "--frames")

abbrev pub begins_dash : List ℕ → Bool
begins_dash [] = false
begins_dash (c ∷ cs) = c == 45

-- whether an option takes this value
abbrev pub takes : List ℕ → List ℕ → Bool
takes option value = not (begins_dash value) && is_of_kind option value

-- the words that are accepted: pairs of an option and a value that it takes, each option at most once
abbrev pub are_pairs : List (List ℕ) → Bool
are_pairs [] = true
are_pairs (word ∷ []) = false
are_pairs (option ∷ (value ∷ words)) = takes option value && not (is_some (value_of option words)) && are_pairs words

-- the number that a value stands for, or else the one that is meant without it
abbrev pub number_or : ℕ → (List ℕ → Option ℕ) → Option (List ℕ) → ℕ
number_or default read None = default
number_or default read (Some value) = unwrap_or (read value) default

-- the options that the words give: 2 workers, 2 buffers and cells of 8 by 8 pixels without them
abbrev pub options_of : List (List ℕ) → Options
options_of words = record {
  workers = number_or 2 workers (value_of (codes "--workers") words);
  buffers = number_or 2 buffers (value_of (codes "--buffers") words);
  cell = number_or 8 cell (value_of (codes "--cell") words);
}

-- the canvas that they set up
abbrev pub setup_of : Options → Setup
setup_of options = record { buffers = options.buffers; cell = options.cell }
