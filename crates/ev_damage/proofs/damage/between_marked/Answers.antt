use Rattle.ev_damage.proofs.Gathering.{marked_kept}
use Rattle.ev_damage.proofs.damage.between_marked.Goals as goal

pub between_found-requires-clause-old_kept : goal.between_found-requires-clause-old_kept
between_found-requires-clause-old_kept c = marked_kept _ _ _ _ c.requires.old_marked

pub between_found-requires-clause-new_kept : goal.between_found-requires-clause-new_kept
between_found-requires-clause-new_kept c = marked_kept _ _ _ _ c.requires.new_marked
