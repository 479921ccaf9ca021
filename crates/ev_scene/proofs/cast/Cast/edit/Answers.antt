use Rattle.std.proofs.Common.{◌&&◌, FitsSigned, w64, sym, subst, rules}
use Rattle.std.proofs.lemmas.Int.{to_z-of_z}
use Rattle.ev_geom.specs.Area.{is_side}
use Rattle.ev_model.specs.declared.command.Edit.{Edit}
use Rattle.ev_scene.specs.Board.{MakesAtMost}
use Rattle.ev_scene.specs.Cast.{board_of}
use Rattle.ev_scene.specs.Change.{are_channels, color_of, is_fill, fill_of, is_border, border_of}
use Rattle.ev_scene.specs.Edits.{Edits, writes}
use Rattle.ev_scene.specs.declared.change.Change.TheVariants as change
use Rattle.ev_scene.specs.declared.change.Target.TheVariants as target
use Rattle.ev_scene.specs.declared.image_change.ImageChange.TheVariants as image_change
use Rattle.ev_scene.proofs.Answering.{change_answers}
use Rattle.ev_scene.proofs.cast.Cast.edit.Goals as goal

pub returns-in-Move-clause-edits : goal.returns-in-Move-clause-edits
returns-in-Move-clause-edits c =
    let x : FitsSigned w64 c.in-Move.x = search rules in
    let y : FitsSigned w64 c.in-Move.y = search rules in
    let P : Edit → Type 0 = λ edit. Edits (board_of c.args.self.now) edit c.shift.result (board_of c.shift.new.self) in
    subst P (sym c.in-Move.is) (simp to_z-of_z at c.shift.ensures.edits)

pub returns-in-Move-clause-made : goal.returns-in-Move-clause-made
returns-in-Move-clause-made c =
    let x : FitsSigned w64 c.in-Move.x = search rules in
    let y : FitsSigned w64 c.in-Move.y = search rules in
    let P : Edit → Type 0 = λ edit. MakesAtMost (writes (board_of c.args.self.now) edit) c.args.self.now.roll.made c.shift.new.self.roll.made in
    subst P (sym c.in-Move.is) (simp to_z-of_z at c.shift.ensures.made)

pub returns-in-Resize-clause-edits : goal.returns-in-Resize-clause-edits
returns-in-Resize-clause-edits c =
    let w : FitsSigned w64 c.in-Resize.w = search rules in
    let h : FitsSigned w64 c.in-Resize.h = search rules in
    let P : Edit → Type 0 = λ edit. Edits (board_of c.args.self.now) edit c.change.result (board_of c.change.new.self) in
    subst P (sym c.in-Resize.is) (change_answers (board_of c.args.self.now) c.in-Resize.name target.Any (is_side c.in-Resize.w && is_side c.in-Resize.h) (change.Resize c.in-Resize.w c.in-Resize.h)
    c.resize.result c.change.result (board_of c.change.new.self) (simp to_z-of_z at c.resize.ensures.value) c.change.ensures.ok c.change.ensures.err)

pub returns-in-Color-clause-edits : goal.returns-in-Color-clause-edits
returns-in-Color-clause-edits c =
    let r : FitsSigned w64 c.in-Color.r = search rules in
    let g : FitsSigned w64 c.in-Color.g = search rules in
    let b : FitsSigned w64 c.in-Color.b = search rules in
    let a : FitsSigned w64 c.in-Color.a = search rules in
    let P : Edit → Type 0 = λ edit. Edits (board_of c.args.self.now) edit c.change-in-Color.result (board_of c.change-in-Color.new.self) in
    subst P (sym c.in-Color.is) (change_answers (board_of c.args.self.now) c.in-Color.name target.Any (are_channels c.in-Color.r c.in-Color.g c.in-Color.b c.in-Color.a) (change.Color (color_of c.in-Color.r c.in-Color.g c.in-Color.b c.in-Color.a))
    c.color.result c.change-in-Color.result (board_of c.change-in-Color.new.self) (simp to_z-of_z at c.color.ensures.value) c.change-in-Color.ensures.ok c.change-in-Color.ensures.err)

pub returns-in-Layer-clause-edits : goal.returns-in-Layer-clause-edits
returns-in-Layer-clause-edits c =
    let layer : FitsSigned w64 c.in-Layer.layer = search rules in
    let P : Edit → Type 0 = λ edit. Edits (board_of c.args.self.now) edit c.relayer.result (board_of c.relayer.new.self) in
    subst P (sym c.in-Layer.is) (simp to_z-of_z at c.relayer.ensures.edits)

pub returns-in-Fill-clause-edits : goal.returns-in-Fill-clause-edits
returns-in-Fill-clause-edits c =
    let x : FitsSigned w64 c.in-Fill.x = search rules in
    let y : FitsSigned w64 c.in-Fill.y = search rules in
    let w : FitsSigned w64 c.in-Fill.w = search rules in
    let h : FitsSigned w64 c.in-Fill.h = search rules in
    let P : Edit → Type 0 = λ edit. Edits (board_of c.args.self.now) edit c.change-in-Fill.result (board_of c.change-in-Fill.new.self) in
    subst P (sym c.in-Fill.is) (change_answers (board_of c.args.self.now) c.in-Fill.name target.Image (is_fill c.in-Fill.x c.in-Fill.y c.in-Fill.w c.in-Fill.h) (change.Image (image_change.Fill (fill_of c.in-Fill.x c.in-Fill.y c.in-Fill.w c.in-Fill.h)))
    c.fill.result c.change-in-Fill.result (board_of c.change-in-Fill.new.self) (simp to_z-of_z at c.fill.ensures.value) c.change-in-Fill.ensures.ok c.change-in-Fill.ensures.err)

pub returns-in-Border-clause-edits : goal.returns-in-Border-clause-edits
returns-in-Border-clause-edits c =
    let l : FitsSigned w64 c.in-Border.l = search rules in
    let r : FitsSigned w64 c.in-Border.r = search rules in
    let t : FitsSigned w64 c.in-Border.t = search rules in
    let b : FitsSigned w64 c.in-Border.b = search rules in
    let P : Edit → Type 0 = λ edit. Edits (board_of c.args.self.now) edit c.change-in-Border.result (board_of c.change-in-Border.new.self) in
    subst P (sym c.in-Border.is) (change_answers (board_of c.args.self.now) c.in-Border.name target.Image (is_border c.in-Border.l c.in-Border.r c.in-Border.t c.in-Border.b) (change.Image (image_change.Border (border_of c.in-Border.l c.in-Border.r c.in-Border.t c.in-Border.b)))
    c.border.result c.change-in-Border.result (board_of c.change-in-Border.new.self) (simp to_z-of_z at c.border.ensures.value) c.change-in-Border.ensures.ok c.change-in-Border.ensures.err)
