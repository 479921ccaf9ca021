-- Rectangles of pixels that stand in rows.
use Rattle.std.proofs.Common.{ℕ, ◌≡◌, ◌+◌, ◌-◌, ◌*◌, ◌<◌, ◌≤◌, ◌⊎◌, inl, inr, List, ◌++◌, length, map, take, drop, get_or, arith, sym, ap, ◌∙◌, refl, slice_range, subst, length-append}
use Rattle.std.proofs.lemmas.Bool.{cases_lt}
use Rattle.std.proofs.Math.Nat.{mul-le-mul_right}
use Rattle.std.proofs.lemmas.List.{get_or-take, get_or-drop, get_or_default, length-take, length-drop, length-map}
use Rattle.std.proofs.Math.ListN.{get_or-map}
use Rattle.ev_argb.specs.Argb.{Argb, clear}
use Rattle.ev_argb.specs.Tile.{spliced, PutsRect}
use Rattle.ev_argb.proofs.Spans.{at_in, at_left, at_right}

-- without columns nothing changes
pub no_columns : (a x y h n : ℕ) (make : Argb → Argb) (ps : List Argb) → n ≡ 0 → PutsRect a x y n h make ps ps
no_columns a x y h n make ps z = record {
  size = refl;
  inside = λ i j b e c f. absurd (omega arith);
  outside = λ i j b out. refl;
}

-- without rows nothing changes
pub no_rows : (a x y w n : ℕ) (make : Argb → Argb) (ps : List Argb) → n ≡ 0 → PutsRect a x y w n make ps ps
no_rows a x y w n make ps z = record {
  size = refl;
  inside = λ i j b e c f. absurd (omega arith);
  outside = λ i j b out. refl;
}

-- columns beside those that were put
pub more_columns : (a x y w from n m h : ℕ) (make : Argb → Argb) (ps qs rs : List Argb) → from ≡ x + w → m ≡ w + n → x + m ≤ a
    → PutsRect a x y w h make ps qs → PutsRect a from y n h make qs rs → PutsRect a x y m h make ps rs
more_columns a x y w from n m h make ps qs rs f s b first second = record {
  size = second.size ∙ first.size;
  inside = λ i j l r t u. elim (cases_lt i from) [
    | inl o ↦ second.outside i j (omega arith) (inl o) ∙ first.inside i j l (omega arith) t u
    | inr o ↦ second.inside i j o (omega arith) t u ∙ ap make (first.outside i j (omega arith) (inr (inl (omega arith))))
  ];
  outside = λ i j l out. elim out [
    | inl o ↦ second.outside i j l (inl (omega arith)) ∙ first.outside i j l (inl o)
    | inr p ↦ elim p [
      | inl o ↦ second.outside i j l (inr (inl (omega arith))) ∙ first.outside i j l (inr (inl (omega arith)))
      | inr o ↦ second.outside i j l (inr (inr o)) ∙ first.outside i j l (inr (inr o))
    ]
  ];
}

-- rows below those that were put
more_rows : (a x y w h from n m : ℕ) (make : Argb → Argb) (ps qs rs : List Argb) → from ≡ y + h → m ≡ h + n → x + w ≤ a
    → PutsRect a x y w h make ps qs → PutsRect a x from w n make qs rs → PutsRect a x y w m make ps rs
more_rows a x y w h from n m make ps qs rs f s b first second = record {
  size = second.size ∙ first.size;
  inside = λ i j l r t u. elim (cases_lt j from) [
    | inl o ↦ second.outside i j (omega arith) (inr (inr (inl o))) ∙ first.inside i j l r t (omega arith)
    | inr o ↦ second.inside i j l r o (omega arith) ∙ ap make (first.outside i j (omega arith) (inr (inr (inr (omega arith)))))
  ];
  outside = λ i j l out. elim out [
    | inl o ↦ second.outside i j l (inl o) ∙ first.outside i j l (inl o)
    | inr p ↦ elim p [
      | inl o ↦ second.outside i j l (inr (inl o)) ∙ first.outside i j l (inr (inl o))
      | inr q ↦ elim q [
        | inl o ↦ second.outside i j l (inr (inr (inl (omega arith)))) ∙ first.outside i j l (inr (inr (inl o)))
        | inr o ↦ second.outside i j l (inr (inr (inr (omega arith)))) ∙ first.outside i j l (inr (inr (inr (omega arith))))
      ]
    ]
  ];
}

-- a place outside of one row's columns stands before or after them
other_place : (a x y w i j : ℕ) → x + w ≤ a → i < a → (i < x) ⊎ ((x + w ≤ i) ⊎ ((j < y) ⊎ (y + 1 ≤ j))) → (j * a + i < y * a + x) ⊎ (y * a + x + w ≤ j * a + i)
other_place a x y w i j b c out = elim (cases_lt j y) [
  | inl l ↦ let up : j + 1 ≤ y = omega arith in let rows : (j + 1) * a ≤ y * a = mul-le-mul_right a up in inl (omega arith)
  | inr g ↦ elim (cases_lt y j) [
    | inl l ↦ let down : y + 1 ≤ j = omega arith in let rows : (y + 1) * a ≤ j * a = mul-le-mul_right a down in inr (omega arith)
    | inr l ↦ let same : j ≡ y = omega arith in let rows : j * a ≡ y * a = ap (λ k. k * a) same in elim out [
      | inl o ↦ inl (omega arith)
      | inr p ↦ elim p [
        | inl o ↦ inr (omega arith)
        | inr q ↦ absurd (elim q [ inl o ↦ omega arith | inr o ↦ omega arith ])
      ]
    ]
  ]
]

-- the columns of one row, made out of what was there
one_row : (a x y w : ℕ) (make : Argb → Argb) (ps : List Argb) → x + w ≤ a → (y + 1) * a ≤ length ps
    → PutsRect a x y w 1 make ps (spliced ps (y * a + x) (map make (slice_range ps (y * a + x) (y * a + x + w))))
one_row a x y w make ps b r =
    let at : ℕ = y * a + x in
    let there : List Argb = slice_range ps at (at + w) in
    let fits : at ≤ length ps = omega arith in
    let count : length there ≡ w = omega (arith, length-take (at + w - at) (drop at ps), length-drop at ps) in
    let len : length (map make there) ≡ w = length-map there make ∙ count in
    let head : length (take at ps) ≡ at = omega (arith, length-take at ps) in
    let tail : length (drop (at + length (map make there)) ps) ≡ length ps - (at + w) = omega (arith, length-drop (at + length (map make there)) ps) in
    record {
      size = omega (arith, head, tail, len, length-append (take at ps) (map make there), length-append (take at ps ++ map make there) (drop (at + length (map make there)) ps));
      inside = λ i j l u t s.
          let same : j ≡ y = omega arith in
          let rows : j * a ≡ y * a = ap (λ k. k * a) same in
          let k : ℕ = i - x in
          let e : j * a + i ≡ at + k = omega arith in
          let m : k < at + w - at = omega arith in
          ap (λ p. get_or (spliced ps at (map make there)) p clear) e
          ∙ at_in ps at (map make there) k clear fits (omega arith)
          ∙ get_or_default (map make there) k clear (make clear) (omega arith)
          ∙ get_or-map make there k clear
          ∙ ap make (get_or-take (at + w - at) (drop at ps) k clear m ∙ get_or-drop at ps k clear ∙ ap (λ p. get_or ps p clear) (sym e));
      outside = λ i j l out. elim (other_place a x y w i j b l out) [
        | inl o ↦ at_left ps at (map make there) (j * a + i) clear fits o
        | inr o ↦ at_right ps at (map make there) (j * a + i) clear fits (omega arith)
      ];
    }

-- one row below those that were put
pub more_row : (a x y w h from m : ℕ) (make : Argb → Argb) (ps qs rs : List Argb) → from ≡ y + h → m ≡ h + 1 → x + w ≤ a → (from + 1) * a ≤ length qs
    → PutsRect a x y w h make ps qs → rs ≡ spliced qs (from * a + x) (map make (slice_range qs (from * a + x) (from * a + x + w))) → PutsRect a x y w m make ps rs
more_row a x y w h from m make ps qs rs f s b r first is =
    more_rows a x y w h from 1 m make ps qs rs f s b first (subst (λ list. PutsRect a x from w 1 make qs list) (sym is) (one_row a x from w make qs b r))
