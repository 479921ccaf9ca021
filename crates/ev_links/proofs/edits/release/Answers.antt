use Rattle.ev_links.proofs.Drops.{ties_released, clips_released, none_released}
use Rattle.ev_links.proofs.edits.release.Goals as goal

pub returns-then-clips-gt0-clause-ties : goal.returns-then-clips-gt0-clause-ties
returns-then-clips-gt0-clause-ties c = ties_released c.args.table.now c.release.new.self c.args.id c.release.ensures

pub returns-then-clips-gt0-clause-clips : goal.returns-then-clips-gt0-clause-clips
returns-then-clips-gt0-clause-clips c = clips_released c.args.table.now c.release.new.self c.args.id c.release.ensures

pub returns-else-clips-gt0-clause-ties : goal.returns-else-clips-gt0-clause-ties
returns-else-clips-gt0-clause-ties c = none_released c.args.table.now c.args.id c.clips.result c.requires.kept c.clips.ensures c.if-clips-gt0.false
