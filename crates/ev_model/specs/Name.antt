-- Names of objects.
use Rattle.std.specs.Prelude.{◌≡◌, ℕ, ◌-◌, ◌≤◌, Bool, not, ◌&&◌, ◌||◌, ◌==◌, nat_le, List, ◌++◌, length, slice_index, take, drop, replicate}
use Rattle.std.specs.List.{list_all}
use Rattle.std.proofs.Common.{arith}
use Rattle.std.proofs.lemmas.List.{length-take-le, length-replicate, take-append-drop, length-append}
use Rattle.std.proofs.Math.Seq.{drop-append_seam}

-- a letter or a digit
abbrev pub is_word_byte : ℕ → Bool
is_word_byte c = (nat_le 97 c && nat_le c 122) || (nat_le 65 c && nat_le c 90) || (nat_le 48 c && nat_le c 57)

-- an underscore, a dash or a dot
abbrev pub is_mark : ℕ → Bool
is_mark c = c == 95 || c == 45 || c == 46

abbrev pub is_name_byte : ℕ → Bool
is_name_byte c = is_word_byte c || is_mark c

-- a name does not begin with a dash or a dot
abbrev pub begins_name : ℕ → Bool
begins_name c = not (c == 45) && not (c == 46)

abbrev pub is_name_long : ℕ → Bool
is_name_long len = nat_le 1 len && nat_le len 64

-- 1 to 64 letters, digits and marks
abbrev pub is_name : List ℕ → Bool
is_name text = is_name_long (length text) && begins_name (slice_index text 0) && list_all is_name_byte text

-- 64 bytes with these in front and zeros behind
abbrev pub padded : List ℕ → List ℕ
padded text = text ++ replicate (64 - length text) 0

-- what follows a name in its 64 bytes
pub record IsPadded (bytes : List ℕ) (len : ℕ) : Type 0 where
  pub size : length bytes ≡ 64
  pub fits : len ≤ 64
  pub blank : drop len bytes ≡ replicate (64 - len) 0

-- the front of such bytes gives them back
pub front_length : (bytes : List ℕ) (len : ℕ) → IsPadded bytes len → length (take len bytes) ≡ len
front_length bytes len h = let e = h.size in let f = h.fits in length-take-le len bytes (omega arith)

pub front_padded : (bytes : List ℕ) (len : ℕ) → IsPadded bytes len → padded (take len bytes) ≡ bytes
front_padded bytes len h =
    rw (front_length bytes len h, ← h.blank) (take-append-drop len bytes)

pub padded_is : (text : List ℕ) → length text ≤ 64 → IsPadded (padded text) (length text)
padded_is text h = record {
  size = simp (length-append, length-replicate) (omega arith);
  fits = h;
  blank = drop-append_seam text (replicate (64 - length text) 0);
}
