use Rattle.std.proofs.Common.{◌∙◌, ap, rules}
use Rattle.std.specs.Int.{w32}
use Rattle.std.specs.Int.RustNames.{FitsSigned}
use Rattle.std.proofs.lemmas.Int.{to_z-of_z}
use Rattle.ev_stack.specs.Tops.{id_before}
use Rattle.ev_stack.proofs.Fronts.{id_before-below}
use Rattle.ev_stack.proofs.layers.Layers.bottom_place.Goals as goal

pub returns : goal.returns
returns c =
    let fits : FitsSigned w32 c.args.layer = search rules in
    c.id_before.ensures
    ∙ ap (id_before 0 c.args.self.now.tops.items) (simp to_z-of_z at c.below_len.ensures.len)
    ∙ id_before-below 0 c.args.self.now.tops.items c.args.layer
