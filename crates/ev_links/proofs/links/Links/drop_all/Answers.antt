use Rattle.std.proofs.Common.{◌≡◌, ℕ, true, Some, subst}
use Rattle.ev_links.specs.Ties.{parent_at, clipper_at, has}
use Rattle.ev_links.proofs.Views.{read}
use Rattle.ev_links.proofs.Sweeps.{all_dropped}
use Rattle.ev_links.proofs.links.Links.drop_all.Goals as goal

pub discard_all-requires-clause-members : goal.discard_all-requires-clause-members
discard_all-requires-clause-members c =
    subst (λ f. (q p : ℕ) → parent_at f q ≡ Some p → has c.args.ids.now p ≡ true → has c.args.ids.now q ≡ true) (read c.self.inside.table c.args.self.now c.self.view_is) c.requires.members

pub discard_all-requires-clause-clipped : goal.discard_all-requires-clause-clipped
discard_all-requires-clause-clipped c =
    subst (λ f. (q p : ℕ) → clipper_at f q ≡ Some p → has c.args.ids.now p ≡ true → has c.args.ids.now q ≡ true) (read c.self.inside.table c.args.self.now c.self.view_is) c.requires.clipped

pub returns : goal.returns
returns c = all_dropped c.self.inside.table c.discard_all.new.table c.args.self.now c.args.ids.now c.self.view_is c.discard_all.ensures.ties
