use Rattle.std.proofs.Common.{◌∙◌, sym, arith}
use Rattle.std.proofs.lemmas.Result.{on_ok_weaker}
use Rattle.ev_damage.specs.Marked.{is_marked}
use Rattle.ev_damage.proofs.Members.{or_left, or_right}
use Rattle.ev_records.proofs.Nearing.{turned_halves, marked_halves}
use Rattle.ev_records.proofs.turned.+push_turned.Goals as goal

pub push_turned-requires : goal.push_turned-requires
push_turned-requires t c = (
  omega (arith, c.split_at.ensures.front_len, c.if-moved-le-FEW.false),
  (
    c.requires.same,
    λ place m. c.requires.within place (sym (marked_halves c.args.moved.now c.split_at.result.0.now c.split_at.result.1.now _ place c.split_at.ensures.front c.split_at.ensures.back)
        ∙ or_left (is_marked c.split_at.result.0.now place) (is_marked c.split_at.result.1.now place) m),
  ),
)

pub push_turned-requires-2 : goal.push_turned-requires-2
push_turned-requires-2 t c = (
  omega (arith, c.split_at.ensures.back_len, c.if-moved-le-FEW.false),
  (
    c.requires.same,
    λ place m. c.requires.within place (sym (marked_halves c.args.moved.now c.split_at.result.0.now c.split_at.result.1.now _ place c.split_at.ensures.front c.split_at.ensures.back)
        ∙ or_right (is_marked c.split_at.result.0.now place) (is_marked c.split_at.result.1.now place) m),
  ),
)

pub returns : goal.returns
returns t c = on_ok_weaker c.push_turned-2.result
    (λ g. turned_halves c.args.records.now c.args.ranks.now c.args.moved.now c.split_at.result.0.now c.split_at.result.1.now _ _ _ _ c.split_at.ensures.front c.split_at.ensures.back c.in_ok-push_turned.ensures g)
    c.push_turned-2.ensures
