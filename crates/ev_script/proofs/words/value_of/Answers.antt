use Rattle.std.proofs.Common.{sym, ◌∙◌}
use Rattle.ev_script.proofs.Pairs.{no_value}
use Rattle.ev_script.proofs.words.value_of.Goals as goal

pub returns : goal.returns
returns c = sym (no_value c.args.option.now c.loop-rest.rest.now c.in_default.len_below) ∙ c.loop-rest.invariant
