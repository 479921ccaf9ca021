use Rattle.std.proofs.Common.{◌≡◌, ◌∙◌, ℤ, ap₂, sym, subst, rules, pos, int_lt, true, false}
use Rattle.std.proofs.lemmas.Int.{to_z-of_z}
use mir.Val.{SFits}
use mir.Syntax.{w32}
use Rattle.ev_geom.specs.Area.{Area, meet}
use Rattle.ev_geom.proofs.Areas.{same_area}
use Rattle.ev_geom.proofs.Meeting.{limits_of_meet, meet_of, none_meet_w, none_meet_h}
use Rattle.ev_geom.proofs.rect.Rect.meet.Goals as goal
use Rattle.ev_geom.proofs.rect.Rect.meet.Goals.{else-w-gt0-via-then-w-gt0+else-h-gt0, else-w-gt0-via-else-w-gt0}

pub invariant_of-t-11 : goal.invariant_of-t-11
invariant_of-t-11 c =
    let a : Area = record { x = c.self.inside.x; y = c.self.inside.y; w = c.self.inside.w; h = c.self.inside.h } in
    let b : Area = record { x = c.other.inside.x; y = c.other.inside.y; w = c.other.inside.w; h = c.other.inside.h } in
    let ax : SFits w32 c.self.inside.x = search rules in
    let ay : SFits w32 c.self.inside.y = search rules in
    let aw : SFits w32 c.self.inside.w = search rules in
    let ah : SFits w32 c.self.inside.h = search rules in
    let bx : SFits w32 c.other.inside.x = search rules in
    let by : SFits w32 c.other.inside.y = search rules in
    let bw : SFits w32 c.other.inside.w = search rules in
    let bh : SFits w32 c.other.inside.h = search rules in
    let w_fits : SFits w32 c.common-w.result = search rules in
    let h_fits : SFits w32 c.common-h.result = search rules in
    let w = simp to_z-of_z at c.common-w.ensures in
    let h = simp to_z-of_z at c.common-h.ensures in
    let x_fits : SFits w32 c.later-x.result = search rules in
    let y_fits : SFits w32 c.later-y.result = search rules in
    let x = simp to_z-of_z at c.later-x.ensures in
    let y = simp to_z-of_z at c.later-y.ensures in
    limits_of_meet a b _ c.self.invariant c.other.invariant
    (to_z-of_z w32 _ x_fits ∙ x) (to_z-of_z w32 _ y_fits ∙ y) (to_z-of_z w32 _ w_fits ∙ w) (to_z-of_z w32 _ h_fits ∙ h)

pub returns-then-h-gt0 : goal.returns-then-h-gt0
returns-then-h-gt0 c =
    let a : Area = record { x = c.self.inside.x; y = c.self.inside.y; w = c.self.inside.w; h = c.self.inside.h } in
    let b : Area = record { x = c.other.inside.x; y = c.other.inside.y; w = c.other.inside.w; h = c.other.inside.h } in
    let ax : SFits w32 c.self.inside.x = search rules in
    let ay : SFits w32 c.self.inside.y = search rules in
    let aw : SFits w32 c.self.inside.w = search rules in
    let ah : SFits w32 c.self.inside.h = search rules in
    let bx : SFits w32 c.other.inside.x = search rules in
    let by : SFits w32 c.other.inside.y = search rules in
    let bw : SFits w32 c.other.inside.w = search rules in
    let bh : SFits w32 c.other.inside.h = search rules in
    let w_fits : SFits w32 c.common-w.result = search rules in
    let h_fits : SFits w32 c.common-h.result = search rules in
    let w = simp to_z-of_z at c.common-w.ensures in
    let h = simp to_z-of_z at c.common-h.ensures in
    let x_fits : SFits w32 c.later-x.result = search rules in
    let y_fits : SFits w32 c.later-y.result = search rules in
    let x = simp to_z-of_z at c.later-x.ensures in
    let y = simp to_z-of_z at c.later-y.ensures in
    let has_w = simp to_z-of_z at c.if-w-gt0.true in
    let has_h = simp to_z-of_z at c.if-h-gt0.true in
    let P : ℤ → Type 0 = λ l. int_lt (pos 0) l ≡ true in
    same_area _ _ (to_z-of_z w32 _ x_fits ∙ x) (to_z-of_z w32 _ y_fits ∙ y) (to_z-of_z w32 _ w_fits ∙ w) (to_z-of_z w32 _ h_fits ∙ h)
    ∙ sym (meet_of a b (subst P w has_w) (subst P h has_h)) ∙ ap₂ meet c.self.view_is c.other.view_is

pub returns-else-w-gt0 : goal.returns-else-w-gt0
returns-else-w-gt0 c =
    let a : Area = record { x = c.self.inside.x; y = c.self.inside.y; w = c.self.inside.w; h = c.self.inside.h } in
    let b : Area = record { x = c.other.inside.x; y = c.other.inside.y; w = c.other.inside.w; h = c.other.inside.h } in
    let ax : SFits w32 c.self.inside.x = search rules in
    let ay : SFits w32 c.self.inside.y = search rules in
    let aw : SFits w32 c.self.inside.w = search rules in
    let ah : SFits w32 c.self.inside.h = search rules in
    let bx : SFits w32 c.other.inside.x = search rules in
    let by : SFits w32 c.other.inside.y = search rules in
    let bw : SFits w32 c.other.inside.w = search rules in
    let bh : SFits w32 c.other.inside.h = search rules in
    let w_fits : SFits w32 c.common-w.result = search rules in
    let h_fits : SFits w32 c.common-h.result = search rules in
    let w = simp to_z-of_z at c.common-w.ensures in
    let h = simp to_z-of_z at c.common-h.ensures in
    let P : ℤ → Type 0 = λ l. int_lt (pos 0) l ≡ true in
    let Q : ℤ → Type 0 = λ l. int_lt (pos 0) l ≡ false in
    elim c.else-w-gt0.branch [
      | else-w-gt0-via-then-w-gt0+else-h-gt0 k ↦
          (let has_w = simp to_z-of_z at k.if-w-gt0.true in
          let has_h = simp to_z-of_z at k.if-h-gt0.false in
          sym (none_meet_h a b (subst P w has_w) (subst Q h has_h)) ∙ ap₂ meet c.self.view_is c.other.view_is)
      | else-w-gt0-via-else-w-gt0 k ↦
          (let has_w = simp to_z-of_z at k.if-w-gt0.false in
          sym (none_meet_w a b (subst Q w has_w)) ∙ ap₂ meet c.self.view_is c.other.view_is)
    ]
