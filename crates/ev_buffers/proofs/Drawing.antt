-- A lent picture whose planes are taken, drawn and put back.
use Rattle.std.proofs.Common.{ℕ, ◌≡◌, ◌+◌, ◌*◌, ◌/◌, ◌%◌, ◌<◌, ◌≤◌, Bool, true, false, ◌&&◌, not, List, All, ℤ, pos, refl, ap, subst, arith}
use Rattle.std.proofs.lemmas.Nat.{mod-mul-add, div-mul-add}
use Rattle.std.proofs.Math.Nat.{mul-le-mul_right}
use Rattle.ev_geom.specs.Tiles.{holds_tile, tiles_along, jobs_of}
use Rattle.ev_geom.proofs.Tilings.{held, in_filter}
use Rattle.ev_argb.specs.Argb.{Argb}
use Rattle.ev_argb.specs.Grid.{Grid, tile_of}
use Rattle.ev_buffers.specs.Kept.{Shows, ShowsDone}

below : (r rows columns c : ℕ) → r < rows → c < columns → r * columns + c < 0 + rows * columns
below r rows columns c h k =
    let next : r + 1 ≤ rows = omega arith in
    let e : (r + 1) * columns ≤ rows * columns = mul-le-mul_right columns next in
    omega arith

-- whether a pixel of the work region may still differ, where its tile is done if it is in the work region
all_done : (w d : Bool) → (w ≡ true → d ≡ true) → (w && not d) ≡ false
all_done true d f = ap not (f refl)
all_done false d f = refl

-- a picture all of whose jobs are done
pub finished : (w h : ℕ) (paint : ℕ → ℕ → Argb) (work hidden : ℤ → ℤ → Bool) (done : ℕ → Bool) (picture : Grid) (tiles : List ℕ) → tiles ≡ jobs_of work w h → ShowsDone w h paint work hidden done picture
    → All (λ t. done t ≡ true) tiles → Shows w h paint hidden picture
finished w h paint work hidden done picture tiles e s a = record {
  pixels = λ x y xw yh home hid.
      let column : x / 64 < tiles_along w = omega arith in
      let row : y / 64 < tiles_along h = omega arith in
      let t : ℕ = tile_of w x y in
      let across : t % tiles_along w ≡ x / 64 = mod-mul-add (y / 64) (tiles_along w) (x / 64) column in
      let down : t / tiles_along w ≡ y / 64 = div-mul-add (y / 64) (tiles_along w) (x / 64) column in
      let all : All (λ k. done k ≡ true) (jobs_of work w h) = subst (All (λ k. done k ≡ true)) e a in
      let here : work (pos x) (pos y) ≡ true → done t ≡ true = λ in_work.
      in_filter (holds_tile work (tiles_along w)) (λ k. done k ≡ true) 0 (tiles_along h * tiles_along w) t all (omega arith)
      (below (y / 64) (tiles_along h) (tiles_along w) (x / 64) row column)
      (held work (tiles_along w) t (record { column = x; row = y; held = in_work; across = rw across (omega arith); down = rw down (omega arith) })) in
      s.pixels x y xw yh home hid (all_done (work (pos x) (pos y)) (done t) here);
}
