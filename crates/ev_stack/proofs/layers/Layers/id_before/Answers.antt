use Rattle.std.proofs.Common.{◌≤◌, length, rules}
use Rattle.ev_stack.proofs.Fronts.{id_before-get}
use Rattle.ev_stack.proofs.layers.Layers.id_before.Goals as goal

pub returns : goal.returns
returns c =
    let fits : c.args.place ≤ length c.args.self.now.tops.items = search rules in
    id_before-get 0 c.args.self.now.tops.items c.args.place c.index.result.now c.if-place-eq0.false fits c.index.ensures
