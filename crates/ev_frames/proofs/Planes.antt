-- Planes that are taken and put back, one by one.
use Rattle.std.proofs.Common.{ℕ, zero, suc, ◌≡◌, ◌≢◌, ◌<◌, ◌≤◌, List, [], ◌∷◌, length, get_or, slice_index, Option, Some, None, IsSome, inl, inr, refl, sym, ap, ◌∙◌, subst, arith}
use Rattle.std.proofs.lemmas.List.{get_or-set_same, get_or-set_other, length-set}
use Rattle.std.proofs.lemmas.Bool.Decides.{eqb_tells}
use Rattle.ev_argb.specs.Tile.{Tile}
use Rattle.ev_argb.specs.Grid.{Grid, IsWhole, plane_of, with_plane}
use Rattle.ev_frames.specs.Running.{AreRising, AreOut}
use Rattle.ev_frames.proofs.Places.{differ}

pub plane_same : (picture : Grid) (t : ℕ) (plane : Option Tile) → t < length picture.tiles → plane_of (with_plane picture t plane) t ≡ plane
plane_same picture t plane h = get_or-set_same picture.tiles t plane None h

pub plane_other : (picture : Grid) (t u : ℕ) (plane : Option Tile) → u ≢ t → plane_of (with_plane picture t plane) u ≡ plane_of picture u
plane_other picture t u plane n = get_or-set_other picture.tiles t u plane None n

-- at first no plane is out
pub none_out : (tiles : List ℕ) (picture : Grid) → IsWhole picture → AreOut (length tiles) (length tiles) tiles picture
none_out tiles picture whole = record {
  out = λ k low high. absurd (omega arith);
  others = λ t h e. let z : IsSome {T = Tile} None = subst IsSome e (whole t None h) in absurd (cc);
}

-- the plane of the job before those that are out is at home
pub is_home : (tiles : List ℕ) (k : ℕ) (picture : Grid) → AreRising tiles → suc k ≤ length tiles → slice_index tiles k < length picture.tiles
    → AreOut (suc k) (length tiles) tiles picture → plane_of picture (slice_index tiles k) ≢ None
is_home tiles k picture up h b out = λ none.
    let other = out.others (slice_index tiles k) b none in
    differ tiles k other.place up (omega (arith, other.low)) other.high (sym other.is)

-- it is taken
pub taken : (tiles : List ℕ) (k : ℕ) (picture : Grid) → AreRising tiles → suc k ≤ length tiles → slice_index tiles k < length picture.tiles
    → AreOut (suc k) (length tiles) tiles picture → AreOut k (length tiles) tiles (with_plane picture (slice_index tiles k) None)
taken tiles k picture up h b out = record {
  out = λ j low high.
      elim (eqb_tells j k) [
        | inl same ↦ ap (λ i. plane_of (with_plane picture (slice_index tiles k) None) (slice_index tiles i)) same.1 ∙ plane_same picture (slice_index tiles k) None b
        | inr other ↦
            let later : suc k ≤ j = omega (arith, low, other.1) in
            plane_other picture (slice_index tiles k) (slice_index tiles j) None (λ s. differ tiles k j up later high (sym s))
            ∙ out.out j later high
      ];
  others = λ t h' none.
      elim (eqb_tells t (slice_index tiles k)) [
        | inl same ↦ record { place = k; low = omega arith; high = h; is = sym same.1 }
        | inr other ↦
            let here : t < length picture.tiles = omega (arith, h', length-set picture.tiles (slice_index tiles k) None) in
            let among = out.others t here (sym (plane_other picture (slice_index tiles k) t None other.1) ∙ none) in
            record { place = among.place; low = omega (arith, among.low); high = among.high; is = among.is }
      ];
}

not_last : (tiles : List ℕ) (p k t : ℕ) → p < suc k → slice_index tiles p ≡ t → t ≢ slice_index tiles k → p < k
not_last tiles p k t high is other =
    elim (eqb_tells p k) [
      | inl same ↦ absurd (other (sym is ∙ ap (slice_index tiles) same.1))
      | inr less ↦ omega (arith, high, less.1)
    ]

-- the last plane that is out is put back
pub put_back : (tiles : List ℕ) (k : ℕ) (picture : Grid) (plane : Tile) → AreRising tiles → suc k ≤ length tiles → slice_index tiles k < length picture.tiles
    → AreOut 0 (suc k) tiles picture → AreOut 0 k tiles (with_plane picture (slice_index tiles k) (Some plane))
put_back tiles k picture plane up h b out = record {
  out = λ j low high.
      plane_other picture (slice_index tiles k) (slice_index tiles j) (Some plane) (λ s. differ tiles j k up high h s)
      ∙ out.out j low (omega arith);
  others = λ t h' none.
      elim (eqb_tells t (slice_index tiles k)) [
        | inl same ↦
            let there : Some plane ≡ None = sym (plane_same picture (slice_index tiles k) (Some plane) b) ∙ ap (plane_of (with_plane picture (slice_index tiles k) (Some plane))) (sym same.1) ∙ none in
            absurd (cc)
        | inr other ↦
            let here : t < length picture.tiles = omega (arith, h', length-set picture.tiles (slice_index tiles k) (Some plane)) in
            let among = out.others t here (sym (plane_other picture (slice_index tiles k) t (Some plane) other.1) ∙ none) in
            let before : among.place < k = not_last tiles among.place k t among.high among.is other.1 in
            record { place = among.place; low = omega arith; high = before; is = among.is }
      ];
}

pub same_default : {A : Type 0} (xs : List A) (k : ℕ) (d e : A) → k < length xs → get_or xs k d ≡ get_or xs k e
same_default [] k d e h = absurd (omega arith)
same_default (x ∷ xs) zero d e h = refl
same_default (x ∷ xs) (suc k) d e h = same_default xs k d e (omega arith)

at_home : (plane : Option Tile) → (plane ≡ None → ⊥) → IsSome plane
at_home None f = absurd (f refl)
at_home (Some plane) f = refl

-- once all are back the picture is whole
pub whole : (tiles : List ℕ) (picture : Grid) → AreOut 0 0 tiles picture → IsWhole picture
whole tiles picture out = λ t d h.
    at_home (get_or picture.tiles t d) (λ none. let among = out.others t h (same_default picture.tiles t None d h ∙ none) in omega (arith, among.high))
