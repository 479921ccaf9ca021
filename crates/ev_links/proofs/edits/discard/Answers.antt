use Rattle.std.proofs.Common.{◌≡◌, ◌==◌, None, if◌then◌else◌, sym, ◌∙◌, refl}
use Rattle.std.specs.Option.{option_map}
use Rattle.ev_links.specs.Ties.{released}
use Rattle.ev_links.specs.Tables.{tie_in}
use Rattle.ev_links.proofs.TieEdits.{no_clipper, parents_clipper}
use Rattle.ev_links.proofs.Drops.{kept_dropped, dropped_ties}
use Rattle.ev_links.proofs.edits.discard.Goals as goal

pub returns-clause-kept : goal.returns-clause-kept
returns-clause-kept c =
    kept_dropped c.unbind.new.table c.remove.new.self c.args.id c.unbind.ensures.kept (no_clipper c.args.id c.args.table.now c.unbind.new.table c.unbind.ensures.ties)
    (λ q e. c.requires.members q (sym (parents_clipper None c.args.id c.args.table.now c.unbind.new.table c.unbind.ensures.ties q) ∙ e))
    (λ q. c.remove.ensures.ties q ∙ rw (c.release.ensures.ties q) refl)
    (λ q. c.remove.ensures.clips q ∙ rw (c.release.ensures.clips q) refl)

pub returns-clause-ties : goal.returns-clause-ties
returns-clause-ties c = λ q.
    let now : tie_in c.remove.new.self q ≡ (if q == c.args.id then None else option_map (released c.args.id) (tie_in c.unbind.new.table q)) = c.remove.ensures.ties q ∙ rw (c.release.ensures.ties q) refl in
    now ∙ dropped_ties c.args.table.now c.unbind.new.table c.args.id q c.unbind.ensures.ties
