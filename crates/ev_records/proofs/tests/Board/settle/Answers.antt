use Rattle.std.proofs.Common.{◌∙◌, ap, length}
use Rattle.ev_records.proofs.Boarding.{board_settled}
use Rattle.ev_records.proofs.tests.Board.settle.Goals as goal

pub returns : goal.returns
returns c = rw c.settle.ensures (board_settled c.args.self.now.records c.args.self.now.ranks c.renumber.new.self c.requires.board (c.renumber.ensures.same ∙ ap (λ st. length st.stands) c.settle-2.ensures))
