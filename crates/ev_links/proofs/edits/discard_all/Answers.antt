use Rattle.ev_links.proofs.Sweeps.{kept_discarded, discarded_ties}
use Rattle.ev_links.proofs.edits.discard_all.Goals as goal

pub returns-clause-kept : goal.returns-clause-kept
returns-clause-kept c =
    kept_discarded c.args.ids.now c.args.table.now c.unbind_all.new.table c.remove_all.new.table c.unbind_all.ensures.ties c.unbind_all.ensures.kept c.requires.members c.requires.clipped c.remove_all.ensures.ties c.remove_all.ensures.clips

pub returns-clause-ties : goal.returns-clause-ties
returns-clause-ties c = discarded_ties c.args.ids.now c.args.table.now c.unbind_all.new.table c.remove_all.new.table c.unbind_all.ensures.ties c.remove_all.ensures.ties
