use Rattle.std.proofs.Common.{List, ap, sym, subst, ◌∙◌}
use Rattle.ev_preload.specs.Loads.{Loads}
use Rattle.ev_preload.specs.declared.preload.Preload.{Preload}
use Rattle.ev_scene.specs.Board.{Board, board}
use Rattle.ev_canvas.specs.Loading.{HaveObjects, kept, gone}
use Rattle.ev_canvas.proofs.Keeping.{all_kept, live_kept}
use Rattle.ev_canvas.proofs.edit.delete.Goals as goal

pub returns-in_err-edit-clause-loads : goal.returns-in_err-edit-clause-loads
returns-in_err-edit-clause-loads c = sym (ap (λ (r : List Preload). record c.args.preloads.now { running = r })
    (ap (λ (s : Board). kept s c.args.preloads.now.running) c.in_err-edit.ensures.edits.1 ∙ (all_kept (board c.args.scene.now) c.args.preloads.now.running c.requires.live).0))

pub returns-in_err-edit-clause-events : goal.returns-in_err-edit-clause-events
returns-in_err-edit-clause-events c = c.requires.taken
    ∙ sym (ap (λ (s : Board). gone s c.args.preloads.now.running) c.in_err-edit.ensures.edits.1 ∙ (all_kept (board c.args.scene.now) c.args.preloads.now.running c.requires.live).1)

pub returns-clause-live : goal.returns-clause-live
returns-clause-live c = subst (λ (l : Loads). HaveObjects (board c.edit.new.self) l.running) (sym c.sweep.ensures.loads)
    (live_kept (board c.args.scene.now) (board c.edit.new.self) c.args.preloads.now.running c.edit.ensures.leaves c.requires.live)
