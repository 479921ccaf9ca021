use Rattle.std.proofs.Common.{rules, sym, ap, Some}
use Rattle.ev_desk.specs.DeskSlots.{place_of}
use Rattle.ev_desk.specs.declared.view.Entry.TheVariants.{Waiting}
use Rattle.ev_desk.proofs.Calls.{returns_slot}
use Rattle.ev_seats.proofs.Lists.{first_slot}
use Rattle.ev_desk.proofs.AskerSteps.{withdraws}
use Rattle.ev_desk.proofs.posts.Post.withdraw.Goals as goal

pub compare_exchange-found-requires : goal.compare_exchange-found-requires
compare_exchange-found-requires g c = (search rules, search rules, withdraws g.J.Errand.belongs g.J.Errand.faulty _ _ _ c.requires.asker _ _ c.word_index-word.ensures.at c.requires.small c.requires.asked c.args.self.now.none_out)

pub exchange-entry-requires : goal.exchange-entry-requires
exchange-entry-requires g c = let won = c.compare_exchange-found.ensures.2.0 c.if-found-ne-ASKED.false in
    (search rules, (Some (Waiting won.0), first_slot _ _ c.args.place (place_of c.word_index-word.result) _ (ap (λ m. m.1) won.2) (sym c.word_index-word.ensures.back)))

pub load-requires : goal.load-requires
load-requires g c = let won = c.compare_exchange-found.ensures.2.0 c.if-found-ne-ASKED.false in
    (search rules, search rules, returns_slot g.J.Errand.belongs g.J.Errand.faulty _ _ c.args.self.now.seat.me c.compare_exchange-found.new.seat.me _ c.args.place _ (Some (Waiting won.0)) c.word_index-word.ensures.at c.requires.asker c.requires.small c.requires.asked won.2 c.exchange-entry.ensures.3)
