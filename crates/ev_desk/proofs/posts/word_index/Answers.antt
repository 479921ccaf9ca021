use Rattle.std.proofs.Common.{refl}
use Rattle.ev_desk.proofs.Spread.{place_back}
use Rattle.ev_desk.proofs.posts.word_index.Goals as goal

pub returns-clause-back : goal.returns-clause-back
returns-clause-back c = place_back c.args.place _ refl
