-- The picture that was drawn last is a full redraw of the scene of its start, outside what was hidden.
use Rattle.std.proofs.Common.{◌≡◌, ℕ, ◌+◌, ◌*◌, ◌/◌, ◌<◌, ◌≤◌, pos, true, length, Option, Some, None, IsSome, refl, sym, ap, subst, ◌∙◌, arith}
use Rattle.std.proofs.Math.Nat.{mul-le-mul_right}
use Rattle.ev_argb.specs.Tile.{Tile}
use Rattle.ev_argb.specs.Grid.{Grid, across, plane_of, tile_of}
use Rattle.ev_geom.specs.Bands.{has_pixel}
use Rattle.ev_model.specs.Paint.{paint}
use Rattle.ev_buffers.specs.BufferChain.{Chain, FitsChain}
use Rattle.ev_buffers.specs.Kept.{IsKept, ShowsLast, is_there, is_home}
use Rattle.ev_canvas.specs.Starts.{Entry}
use Rattle.ev_canvas.specs.Pictures.{IsPicture}

home_of : (plane : Option Tile) → IsSome plane → is_there plane ≡ true
home_of None some = some
home_of (Some plane) some = refl

-- each plane of a whole picture is at home
at_home : (w h : ℕ) (picture : Grid) (x y : ℕ) → FitsChain w h picture → x < w → y < h → is_home picture x y ≡ true
at_home w h picture x y fits column row =
    let wide : picture.w ≡ w = fits.width in
    let across_w : x / 64 < across w = omega (arith, column) in
    let rows : y / 64 + 1 ≤ across h = omega (arith, row) in
    let up_to : (y / 64 + 1) * across w ≤ across h * across w = mul-le-mul_right (across w) rows in
    let place : tile_of w x y < length picture.tiles = omega (arith, fits.count, up_to, across_w) in
    let here : tile_of picture.w x y < length picture.tiles = subst (λ (n : ℕ). tile_of n x y < length picture.tiles) (sym wide) place in
    home_of (plane_of picture (tile_of picture.w x y)) (fits.whole (tile_of picture.w x y) None here)

pub drawn_last : (entry : Entry) (chain : Chain) (picture : Grid) → chain.w ≡ entry.capture.w → chain.h ≡ entry.capture.h → IsKept (paint entry.capture) (has_pixel entry.hidden) chain
    → FitsChain chain.w chain.h picture → ShowsLast chain picture → IsPicture entry picture
drawn_last entry chain picture wide high kept fits shows =
    let all = shows (paint entry.capture) (has_pixel entry.hidden) kept in
    record {
      width = fits.width ∙ wide;
      height = fits.height ∙ high;
      whole = fits.whole;
      pixels = λ x y column row shown.
          let c : x < chain.w = omega (arith, column, wide) in
          let r : y < chain.h = omega (arith, row, high) in
          all.pixels x y c r (at_home chain.w chain.h picture x y fits c r) shown;
    }
