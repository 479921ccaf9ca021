use Rattle.std.proofs.Common.{sym, ap, ◌∙◌}
use Rattle.ev_model.specs.Look.{look_of}
use Rattle.ev_damage.specs.Same.{same_look}
use Rattle.ev_damage.proofs.Placing.{place_same, place_differs}
use Rattle.ev_damage.proofs.places.equal_at.Goals as goal

pub returns-then-same_look : goal.returns-then-same_look
returns-then-same_look c = sym (place_same c.args.others.now (look_of c.args.one.now) c.args.at c.index-others-at.result c.requires.place
    (ap (λ r. same_look (look_of c.args.one.now) (look_of r)) (sym c.index-others-at.is) ∙ sym c.same_look.ensures ∙ c.if-same_look.true))

pub returns-else-same_look : goal.returns-else-same_look
returns-else-same_look c = sym (place_differs c.args.others.now (look_of c.args.one.now) c.args.at c.index-others-at.result c.requires.own c.requires.place
    (ap (λ r. same_look (look_of c.args.one.now) (look_of r)) (sym c.index-others-at.is) ∙ sym c.same_look.ensures ∙ c.if-same_look.false))
