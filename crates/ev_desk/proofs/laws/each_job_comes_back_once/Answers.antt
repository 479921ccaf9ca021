use Rattle.ev_desk.proofs.Books.{books_say}
use Rattle.ev_desk.proofs.laws.each_job_comes_back_once.Goals as goal

pub returns-clause-places : goal.returns-clause-places
returns-clause-places g c = books_say _ c.args.asker.now.books
