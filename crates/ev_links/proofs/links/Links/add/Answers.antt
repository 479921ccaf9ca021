use Rattle.std.proofs.Common.{◌≡◌, ◌∙◌, sym, ap, None, Result, Ok, Err, OnErr}
use Rattle.ev_links.specs.Ties.{alone}
use Rattle.ev_links.specs.Tables.{tie_in}
use Rattle.ev_links.proofs.Views.{read, same_view, added_view}
use Rattle.ev_links.proofs.TieEdits.{kept_added, kept_same}
use Rattle.ev_links.proofs.links.Links.add.Goals as goal

on_err : {T E P : Type 0} (r : Result T E) → P → OnErr r P
on_err (Ok value) p = tt
on_err (Err error) p = p

pub insert-requires : goal.insert-requires
insert-requires c = ap (λ f. f c.args.id) (sym (read c.self.inside.table c.args.self.now c.self.view_is)) ∙ c.requires

pub invariant_of-self : goal.invariant_of-self
invariant_of-self c = kept_same c.self.inside.table c.insert.new.self c.self.invariant c.in_err-insert.ensures.err_ties c.in_err-insert.ensures.err_clips

pub returns-in_err-insert-clause-err : goal.returns-in_err-insert-clause-err
returns-in_err-insert-clause-err c = on_err _ (same_view c.self.inside.table c.insert.new.self c.args.self.now c.self.view_is c.in_err-insert.ensures.err_ties)

pub invariant_of-self-2 : goal.invariant_of-self-2
invariant_of-self-2 c =
    let fresh : tie_in c.self.inside.table c.args.id ≡ None = ap (λ f. f c.args.id) (sym (read c.self.inside.table c.args.self.now c.self.view_is)) ∙ c.requires in
    kept_added c.self.inside.table c.insert.new.self c.args.id c.args.kind c.self.invariant fresh c.in_ok-insert.ensures.ties c.in_ok-insert.ensures.clips

pub returns-clause-ok : goal.returns-clause-ok
returns-clause-ok c = added_view c.self.inside.table c.insert.new.self c.args.self.now c.args.id (alone c.args.kind) c.self.view_is c.in_ok-insert.ensures.ties
