use Rattle.std.proofs.Common.{rules, [], Ok, refl, ap, subst, w64}
use Rattle.std.proofs.lemmas.Int.{to_z-of_z}
use mir.Val.{SFits}
use Rattle.ev_geom.specs.Area.{limited}
use Rattle.ev_geom.proofs.Areas.{same_area}
use Rattle.std.specs.List.{range_with_len}
use Rattle.ev_model.specs.declared.command.Command.TheVariants as command
use Rattle.ev_lang.specs.declared.line.Line.TheVariants as line
use Rattle.ev_canvas.specs.Canvas.{now_of}
use Rattle.ev_canvas.specs.CanvasCalls.{MayDamage, MayHide}
use Rattle.ev_canvas.specs.Now.{Now}
use Rattle.ev_canvas.specs.Turns.{rows, sums, place_row}
use Rattle.ev_script.specs.declared.outcome.Outcome.TheVariants as outcome
use Rattle.ev_script.proofs.Painting.{rows_quietly}
use Rattle.ev_script.proofs.Turns.{printed_quietly, still_acts, frames_acts, edit_acts, unbuilt_acts}
use Rattle.ev_script.proofs.act.obey.Goals as goal

pub returns-in-Edit : goal.returns-in-Edit
returns-in-Edit g c = rw c.in-Edit.is (edit_acts _ c.in-Edit.edit c.args.canvas.now c.edit.new.self c.edit.result c.requires.ready.running c.edit.ensures.edits c.edit.ensures.setup c.edit.ensures.painted)

pub returns-in-ClearAreas : goal.returns-in-ClearAreas
returns-in-ClearAreas g c =
    let clears = c.clear_areas.ensures.clears in
    rw c.in-ClearAreas.is (frames_acts (line.Command command.ClearAreas) _ c.args.canvas.now c.clear_areas.new.self (Ok tt) c.clear_areas.ensures.alone (ap (λ (now : Now). now.frames.newest) clears)
    (λ n older. ap (λ (now : Now). record { replies = []; after = record { now = now; older = older } }) clears))

pub returns-in-Dump : goal.returns-in-Dump
returns-in-Dump g c = rw c.in-Dump.is (still_acts (line.Command command.Dump) _ c.args.canvas.now outcome.Rows (λ n older. refl) (λ n. printed_quietly rows (λ entry. rows_quietly (place_row entry) (range_with_len 0 entry.capture.h)) n c.args.canvas.now.frames.newest))

pub returns-in-Sum : goal.returns-in-Sum
returns-in-Sum g c = rw c.in-Sum.is (still_acts (line.Command command.Sum) _ c.args.canvas.now outcome.Totals (λ n older. refl) (λ n. printed_quietly sums (λ entry. record { losses = refl; failures = refl }) n c.args.canvas.now.frames.newest))

pub returns-in-Load : goal.returns-in-Load
returns-in-Load g c = rw c.in-Load.is (c.load.ensures _ _)

pub returns-in-Render : goal.returns-in-Render
returns-in-Render g c = rw c.in-Render.is (c.render.ensures _ _)

pub returns-in-Damage : goal.returns-in-Damage
returns-in-Damage g c =
    let x : SFits w64 c.in-Damage.x = search rules in
    let y : SFits w64 c.in-Damage.y = search rules in
    let w : SFits w64 c.in-Damage.w = search rules in
    let h : SFits w64 c.in-Damage.h = search rules in
    let area = ap limited (same_area _ _ (to_z-of_z w64 _ x) (to_z-of_z w64 _ y) (to_z-of_z w64 _ w) (to_z-of_z w64 _ h)) in
    rw c.in-Damage.is (frames_acts (line.Command (command.Damage c.in-Damage.x c.in-Damage.y c.in-Damage.w c.in-Damage.h)) _ c.args.canvas.now c.damage.new.self c.damage.result c.damage.ensures.alone (ap (λ (now : Now). now.frames.newest) c.damage.ensures.gives.alone)
    (λ n older. record { result = c.damage.result; call = subst (λ a. MayDamage (now_of c.args.canvas.now) a c.damage.result (now_of c.damage.new.self)) area c.damage.ensures.gives; tells = refl; older = refl }))

pub returns-in-HideArea : goal.returns-in-HideArea
returns-in-HideArea g c =
    let x : SFits w64 c.in-HideArea.x = search rules in
    let y : SFits w64 c.in-HideArea.y = search rules in
    let w : SFits w64 c.in-HideArea.w = search rules in
    let h : SFits w64 c.in-HideArea.h = search rules in
    let area = ap limited (same_area _ _ (to_z-of_z w64 _ x) (to_z-of_z w64 _ y) (to_z-of_z w64 _ w) (to_z-of_z w64 _ h)) in
    rw c.in-HideArea.is (frames_acts (line.Command (command.HideArea c.in-HideArea.x c.in-HideArea.y c.in-HideArea.w c.in-HideArea.h)) _ c.args.canvas.now c.hide_area.new.self c.hide_area.result c.hide_area.ensures.alone (ap (λ (now : Now). now.frames.newest) c.hide_area.ensures.hides.alone)
    (λ n older. record { result = c.hide_area.result; call = subst (λ a. MayHide (now_of c.args.canvas.now) a c.hide_area.result (now_of c.hide_area.new.self)) area c.hide_area.ensures.hides; tells = refl; older = refl }))

pub returns-in-Preload : goal.returns-in-Preload
returns-in-Preload g c = unbuilt_acts _ c.args.canvas.now c.args.command.now c.in-Preload.is
