-- What is cleared and carried out is what all looks paint.
use Rattle.std.proofs.Common.{ℕ, ◌≡◌, ◌+◌, ◌<◌, ◌≤◌, ℤ, pos, Bool, true, false, not, ◌&&◌, List, refl, ap, ◌∙◌, arith}
use Rattle.std.specs.Prelude.{if◌then◌else◌, All}
use Rattle.ev_argb.specs.Argb.{Argb, clear, IsPremultiplied}
use Rattle.ev_argb.specs.Tile.{Tile, tile_at}
use Rattle.ev_model.specs.Look.{Look}
use Rattle.ev_cmds.specs.Opaque.{is_hidden}
use Rattle.ev_cmds.specs.Masks.{has_bit}
use Rattle.ev_cmds.specs.Sheets.{put_all, painted_looks, Fits, Shows}
use Rattle.ev_cmds.specs.declared.sheet.Command.{Command}
use Rattle.ev_cmds.proofs.Counting.{patches_good, within_cost}
use Rattle.ev_draw.specs.Making.{CarriesOutAll, Clears, IsDrawn, cleared_at}

clear_good : IsPremultiplied clear
clear_good = record { alpha = omega arith; red = omega arith; green = omega arith; blue = omega arith }

painted : (work : ℤ → ℤ → Bool) (looks : List Look) (left top : ℕ) (bare : List ℕ) (commands : List Command) (x y : ℕ) (value : Argb) → Shows work looks left top bare commands → x < 64 → y < 64 → work (pos (left + x)) (pos (top + y)) ≡ true
    → (h : Bool) → is_hidden looks (left + x) (top + y) ≡ h → put_all commands left top x y (cleared_at bare x y value) ≡ painted_looks looks (left + x) (top + y) clear
painted work looks left top bare commands x y value s right bottom w true e =
    let none : has_bit bare x y ≡ false = s.bare_places x y right bottom ∙ ap (λ (b : Bool). work (pos (left + x)) (pos (top + y)) && not b) e ∙ no_bare (work (pos (left + x)) (pos (top + y))) in
    ap (λ (b : Bool). put_all commands left top x y (if b then clear else value)) none
    ∙ s.hidden x y value clear right bottom w e ∙ s.inside x y clear right bottom w clear_good
  where
    no_bare : (b : Bool) → (b && false) ≡ false
    no_bare true = refl
    no_bare false = refl
painted work looks left top bare commands x y value s right bottom w false e =
    let some : has_bit bare x y ≡ true = s.bare_places x y right bottom ∙ ap (λ (b : Bool). work (pos (left + x)) (pos (top + y)) && not b) e ∙ ap (λ (b : Bool). b && true) w in
    ap (λ (b : Bool). put_all commands left top x y (if b then clear else value)) some ∙ s.inside x y clear right bottom w clear_good

kept : (work : ℤ → ℤ → Bool) (looks : List Look) (left top : ℕ) (bare : List ℕ) (commands : List Command) (x y : ℕ) (value : Argb) → Shows work looks left top bare commands → x < 64 → y < 64 → work (pos (left + x)) (pos (top + y)) ≡ false
    → put_all commands left top x y (cleared_at bare x y value) ≡ value
kept work looks left top bare commands x y value s right bottom w =
    let none : has_bit bare x y ≡ false = s.bare_places x y right bottom ∙ ap (λ (b : Bool). b && not (is_hidden looks (left + x) (top + y))) w in
    ap (λ (b : Bool). put_all commands left top x y (if b then clear else value)) none ∙ s.outside x y value right bottom w

pub drawn : (work : ℤ → ℤ → Bool) (looks : List Look) (left top : ℕ) (bare : List ℕ) (commands : List Command) (old now new : Tile) → old.w ≤ 64 → old.h ≤ 64 → All (Fits left top old.w old.h) commands → Shows work looks left top bare commands → Clears bare old now → CarriesOutAll commands left top now new → IsDrawn work looks left top old new
drawn work looks left top bare commands old now new wide tall fits shows cleared carried =
    let cost = within_cost work looks left top bare commands (patches_good left top old.w old.h commands fits) shows in
    record {
      width = carried.width ∙ cleared.width;
      height = carried.height ∙ cleared.height;
      inside = λ x y w h is.
          carried.pixels x y (let e = cleared.width in omega arith) (let e = cleared.height in omega arith) ∙ ap (put_all commands left top x y) (cleared.pixels x y w h (omega arith) (omega arith))
          ∙ painted work looks left top bare commands x y (tile_at old x y) shows (omega arith) (omega arith) is (is_hidden looks (left + x) (top + y)) refl;
      outside = λ x y w h is.
          carried.pixels x y (let e = cleared.width in omega arith) (let e = cleared.height in omega arith) ∙ ap (put_all commands left top x y) (cleared.pixels x y w h (omega arith) (omega arith))
          ∙ kept work looks left top bare commands x y (tile_at old x y) shows (omega arith) (omega arith) is;
      count = (let a = cleared.count in let b = carried.count in omega arith);
    }
