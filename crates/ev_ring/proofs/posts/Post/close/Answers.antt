use Rattle.std.proofs.Common.{rules, true, ap, ◌∙◌}
use Rattle.ev_ring.specs.Tally.{limit_word}
use Rattle.ev_ring.proofs.OwnerSteps.{closes}
use Rattle.ev_ring.proofs.posts.Post.close.Goals as goal

pub store-requires : goal.store-requires
store-requires g c = (search rules, search rules, closes g.J.Work.belongs _ _ _ c.requires.owner _ (c.word_of_limit-word.ensures ∙ ap (limit_word true) c.requires.limit.0))
