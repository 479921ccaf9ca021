use Rattle.std.proofs.Common.{◌∙◌}
use Rattle.ev_script.proofs.Pairs.{none_left}
use Rattle.ev_script.proofs.words.are_pairs.Goals as goal

pub returns : goal.returns
returns c = c.is_empty.ensures ∙ none_left c.loop-rest.rest.now c.in_default.len_below ∙ c.loop-rest.invariant
