use Rattle.std.proofs.Common.{inr, ap, ◌∙◌, subst}
use Rattle.ev_looks.specs.Refreshes.{IsRightOf, clipper_in}
use Rattle.ev_looks.proofs.Looking.{looked_twice, stays_right, stays_right_of}
use Rattle.ev_looks.proofs.walk.Ground.look_at_change.Goals as goal

pub returns-in_ok-look_at_clipper-2-clause-ok : goal.returns-in_ok-look_at_clipper-2-clause-ok
returns-in_ok-look_at_clipper-2-clause-ok c =
    let g = c.args.self.now in
    let first = c.look_at.new.records in
    let second = c.look_at_clipper.new.records in
    let last = c.look_at_clipper-then-ne.new.records in
    let was_is = c.clipper_in-was.ensures ∙ ap clipper_in c.was.ensures in
    let now_is = c.clipper_in-now.ensures ∙ ap clipper_in c.state_in.ensures in
    record {
      own = stays_right g first last (looked_twice g first second last c.look_at_clipper.ensures.looks c.look_at_clipper-then-ne.ensures.looks) c.args.place c.in_ok-look_at.ensures.ok;
      clippers = inr (
        stays_right_of g second last c.look_at_clipper-then-ne.ensures.looks _ (subst (λ id. IsRightOf g second id) was_is c.in_ok-look_at_clipper.ensures.ok),
        subst (λ id. IsRightOf g last id) now_is c.in_ok-look_at_clipper-2.ensures.ok,
      );
    }
