use Rattle.std.proofs.Common.{rules, sym, ap, Some, arith}
use Rattle.ev_desk.specs.DeskSlots.{place_of}
use Rattle.ev_desk.specs.declared.view.Entry.TheVariants.{Finished}
use Rattle.ev_desk.proofs.Calls.{frees_place}
use Rattle.ev_seats.proofs.Lists.{first_slot}
use Rattle.ev_desk.proofs.AskerSteps.{looks}
use Rattle.ev_desk.proofs.posts.Post.collect.Goals as goal

pub load-found-requires : goal.load-found-requires
load-found-requires g c = (search rules, search rules, looks g.J.Errand.belongs g.J.Errand.faulty _ _ _ c.requires.asker _ _ c.word_index-word.ensures.at c.requires.small c.requires.asked c.args.self.now.none_out)

pub exchange-entry-requires : goal.exchange-entry-requires
exchange-entry-requires g c = let got = c.load-found.ensures.2.1 (omega (arith, c.if-found-lt-ENDED.false)) in
    (search rules, (Some (Finished got.0 got.1), first_slot _ _ c.args.place (place_of c.word_index-word.result) _ (ap (λ m. m.1) got.5) (sym c.word_index-word.ensures.back)))

pub store-requires : goal.store-requires
store-requires g c = let got = c.load-found.ensures.2.1 (omega (arith, c.if-found-lt-ENDED.false)) in
    (search rules, search rules, frees_place g.J.Errand.belongs g.J.Errand.faulty _ _ c.args.self.now.seat.me c.load-found.new.seat.me _ c.args.place _ _ (Some (Finished got.0 got.1)) c.word_index-word.ensures.at c.requires.asker c.requires.small c.requires.asked got.5 c.exchange-entry.ensures.3)
