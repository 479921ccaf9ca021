use Rattle.std.proofs.Common.{sym, ◌∙◌, refl, arith}
use Rattle.ev_links.specs.Ties.{clipper_at}
use Rattle.ev_links.specs.Tables.{tie_in}
use Rattle.ev_links.proofs.Counts.{Counts-some}
use Rattle.ev_links.proofs.TieEdits.{kept_unbound}
use Rattle.ev_links.proofs.Sound.{clipper_there}
use Rattle.ev_links.proofs.edits.unbind.Goals as goal

pub clips-clips-requires : goal.clips-clips-requires
clips-clips-requires c = clipper_there (tie_in c.args.table.now) c.requires.sound c.args.id c.in-Some.clipper (sym c.in-Some.ensures)

pub overflow_sub-clips : goal.overflow_sub-clips
overflow_sub-clips c =
    let some = Counts-some (clipper_at (tie_in c.args.table.now)) c.in-Some.clipper c.args.id c.clips-clips.result (c.requires.counted c.in-Some.clipper c.clips-clips.result c.clips-clips.ensures) (sym c.in-Some.ensures) in
    omega (arith, some)

pub returns-in-Some-clause-kept : goal.returns-in-Some-clause-kept
returns-in-Some-clause-kept c =
    kept_unbound c.args.table.now c.set_clipper.new.self c.args.id c.in-Some.clipper c.clips-clips.result c.requires (sym c.in-Some.ensures) c.clips-clips.ensures
    (λ q. c.set_clipper.ensures.ties q ∙ rw (c.set_clips.ensures.ties q) refl)
    (λ q. c.set_clipper.ensures.clips q ∙ c.set_clips.ensures.clips q)
