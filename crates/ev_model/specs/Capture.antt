-- What a start keeps of its scene, and what a redraw paints.
use Rattle.std.specs.Prelude.{ℕ, pos, ◌+ℤ◌, ◌<ℤ◌, ◌≤ℤ◌, List, map}
use Rattle.ev_geom.specs.Area.{Area}
use Rattle.ev_model.specs.Limits.{IsObject}
use Rattle.ev_model.specs.Look.{Look, look_of, looks}
use Rattle.ev_model.specs.Stage.{Stage, canvas_on}
use Rattle.ev_model.specs.declared.scene.Record.{Record}

-- the size of the canvas, and the looks of its records, from the lowest to the highest
pub record Capture : Type 0 where
  pub w : ℕ
  pub h : ℕ
  pub looks : List Look

-- a scene as it is captured
abbrev pub capture_of : Stage → Capture
capture_of s = record { w = s.w; h = s.h; looks = looks s }

-- records on a canvas of w by h, the lowest first
abbrev pub capture_on : ℕ → ℕ → List Record → Capture
capture_on w h records = record { w = w; h = h; looks = map look_of records }

-- an area leaves another one nowhere
pub record IsInside (outer area : Area) : Type 0 where
  pub left : outer.x ≤ℤ area.x
  pub top : outer.y ≤ℤ area.y
  pub right : (area.x +ℤ area.w) ≤ℤ (outer.x +ℤ outer.w)
  pub bottom : (area.y +ℤ area.h) ≤ℤ (outer.y +ℤ outer.h)

-- a look on a canvas of w by h: its area isn't empty and lies on the canvas and in its object's rectangle, and the object keeps its limits
pub record IsLookOn (w h : ℕ) (l : Look) : Type 0 where
  pub wide : pos 0 <ℤ l.area.w
  pub high : pos 0 <ℤ l.area.h
  pub canvas : IsInside (canvas_on w h) l.area
  pub rect : IsInside l.object.rect l.area
  pub limits : IsObject l.object
