-- Rows of an image that are made once for all rows of an object that show the same.
use Rattle.std.specs.Prelude.{◌≡◌, ℕ, ◌<◌, List, length, map, Option, Some, pos, ◌-ℤ◌, unsigned_abs, ◌+◌}
use Rattle.ev_argb.specs.Argb.{Argb, tint}
use Rattle.ev_model.specs.declared.content.ImagePart.{ImagePart}
use Rattle.ev_fill.specs.Rows.{pixel_row, shown_row}
use Rattle.ev_fill.specs.declared.axes.ShownRow.{ShownRow}
use Rattle.ev_cmds.specs.declared.sheet.Command.{Command}

-- pixels are those of each row that shows what was made last, from column i on, in this colour
pub record AreMade (part : ImagePart) (w i : ℕ) (color : Argb) (made : Option (Option ShownRow)) (pixels : List Argb) : Type 0 where
  pub are : (h j : ℕ) → j < h → Some (shown_row part h j) ≡ made → pixels ≡ map (λ p. tint p color) (pixel_row part w h i j (length pixels))

-- the same from the first column of a command's patch on
abbrev pub AreMadeFor : Command → ImagePart → ℕ → Option (Option ShownRow) → List Argb → Type 0
AreMadeFor c part left made pixels =
    let rect = c.object.value.rect in
    AreMade part (unsigned_abs rect.w) (unsigned_abs (pos (left + c.patch.left) -ℤ rect.x)) c.color made pixels
