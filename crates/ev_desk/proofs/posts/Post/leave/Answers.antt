use Rattle.std.proofs.Common.{rules, sym, ap, None}
use Rattle.ev_desk.specs.DeskSlots.{place_of}
use Rattle.ev_desk.proofs.Calls.{leaves_job}
use Rattle.ev_seats.proofs.Lists.{first_slot}
use Rattle.ev_desk.proofs.AskerSteps.{empties}
use Rattle.ev_desk.proofs.posts.Post.leave.Goals as goal

pub load-requires : goal.load-requires
load-requires g c = (search rules, search rules, empties g.J.Errand.belongs g.J.Errand.faulty _ _ _ c.requires.asker _ _ c.word_index-word.ensures.at c.requires.small c.requires.free c.args.self.now.none_out)

pub exchange-requires : goal.exchange-requires
exchange-requires g c = (search rules, (None, first_slot _ _ c.args.place (place_of c.word_index-word.result) _ (ap (λ m. m.1) c.load.ensures.2.0) (sym c.word_index-word.ensures.back)))

pub store-requires : goal.store-requires
store-requires g c = (search rules, search rules, leaves_job g.J.Errand.belongs g.J.Errand.faulty _ _ c.args.self.now.seat.me c.load.new.seat.me _ _ _ _ c.args.job c.word_index-word.ensures.at c.requires.asker c.requires.small c.requires.free c.load.ensures.2 c.exchange.ensures.3)
