-- Areas that take a word each.
use Rattle.std.proofs.Common.{ℕ, ◌≡◌, ◌<◌, ◌≤◌, Bool, true, false, ◌&&◌, nat_le, nat_lt, inl, inr, ap, ap₂, ◌∙◌, max, arith}
use Rattle.std.proofs.lemmas.Bool.{and_parts, leb-true, ltb-true, le-leb, lt-ltb, le-ltb}
use Rattle.ev_areas.specs.Edges.{has_pixel_at}
use Rattle.ev_areas.specs.Packed.{meets, nowhere, most, IsArea, IsPacked, HaveCommon}
use Rattle.ev_areas.specs.declared.edges.Edges.{Edges}

-- a place in two stretches
common_place : (a b c d at : ℕ) → (nat_le a at && nat_lt at b) ≡ true → (nat_le c at && nat_lt at d) ≡ true → (nat_lt a d && nat_lt c b) ≡ true
common_place a b c d at here there =
    let h = and_parts (nat_le a at) (nat_lt at b) here in
    let t = and_parts (nat_le c at) (nat_lt at d) there in
    let ha = leb-true a at h.0 in
    let hb = ltb-true at b h.1 in
    let tc = leb-true c at t.0 in
    let td = ltb-true at d t.1 in
    ap₂ ◌&&◌ (lt-ltb a d (omega arith)) (lt-ltb c b (omega arith))

pub common_meet : (a b : Edges) (x y : ℕ) → has_pixel_at a x y ≡ true → has_pixel_at b x y ≡ true → meets a b ≡ true
common_meet a b x y here there =
    let h = and_parts (nat_le a.left x && nat_lt x a.right) (nat_le a.top y && nat_lt y a.bottom) here in
    let t = and_parts (nat_le b.left x && nat_lt x b.right) (nat_le b.top y && nat_lt y b.bottom) there in
    ap₂ ◌&&◌ (common_place a.left a.right b.left b.right x h.0 t.0) (common_place a.top a.bottom b.top b.bottom y h.1 t.1)

-- the first place that two stretches have in common
first_common : (a b c d : ℕ) → a < b → c < d → (nat_lt a d && nat_lt c b) ≡ true → ((nat_le a (max a c) && nat_lt (max a c) b) ≡ true) × ((nat_le c (max a c) && nat_lt (max a c) d) ≡ true)
first_common a b c d some other meet =
    let both = and_parts (nat_lt a d) (nat_lt c b) meet in
    let l = ltb-true a d both.0 in
    let r = ltb-true c b both.1 in (
      ap₂ ◌&&◌ (le-leb a (max a c) (omega arith)) (lt-ltb (max a c) b (omega arith)),
      ap₂ ◌&&◌ (le-leb c (max a c) (omega arith)) (lt-ltb (max a c) d (omega arith)),
    )

both_common : (a b : Edges) → IsArea a → IsArea b → meets a b ≡ true → HaveCommon a b
both_common a b some other meet =
    let parts = and_parts (nat_lt a.left b.right && nat_lt b.left a.right) (nat_lt a.top b.bottom && nat_lt b.top a.bottom) meet in
    let across = first_common a.left a.right b.left b.right some.wide other.wide parts.0 in
    let down = first_common a.top a.bottom b.top b.bottom some.tall other.tall parts.1 in
    record {
      column = max a.left b.left;
      row = max a.top b.top;
      first = ap₂ ◌&&◌ across.0 down.0;
      second = ap₂ ◌&&◌ across.1 down.1;
    }

-- the area without pixels meets none
none_right : (a b : Edges) → a ≡ nowhere → b.right ≤ most → meets a b ≡ false
none_right a b is right = ap (λ (e : Edges). meets e b) is ∙ ap (λ (t : Bool). t && nat_lt b.left 0 && (nat_lt most b.bottom && nat_lt b.top 0)) (le-ltb most b.right right)

none_left : (a b : Edges) → b ≡ nowhere → meets a b ≡ false
none_left a b is = ap (λ (e : Edges). meets a e) is ∙ ap (λ (t : Bool). t && (nat_lt a.top 0 && nat_lt most a.bottom)) (ap (λ (t : Bool). t && nat_lt most a.right) (le-ltb a.left 0 (omega arith)))

pub meet_common : (a b : Edges) → IsPacked a → IsPacked b → meets a b ≡ true → HaveCommon a b
meet_common a b (inl some) (inl other) meet = both_common a b some other meet
meet_common a b (inl some) (inr none) meet = absurd (let no = none_left a b none in cc)
meet_common a b (inr none) (inl other) meet = absurd (let no = none_right a b none other.right in cc)
meet_common a b (inr none) (inr nor) meet = absurd (let no = none_left a b nor in cc)
