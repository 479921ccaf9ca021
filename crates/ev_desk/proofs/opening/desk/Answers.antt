use Rattle.std.proofs.Common.{ap, ◌∙◌}
use Rattle.ev_desk.specs.DeskMoves.{parted}
use Rattle.ev_desk.proofs.Books.{books_open}
use Rattle.ev_desk.proofs.opening.desk.Goals as goal

pub invariant_of-result-clause-books : goal.invariant_of-result-clause-books
invariant_of-result-clause-books g c = books_open _ (c.in_ok-loader.ensures.view ∙ ap parted c.in_ok-post.ensures)
