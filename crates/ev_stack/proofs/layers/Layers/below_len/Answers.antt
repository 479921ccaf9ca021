use Rattle.std.proofs.Common.{◌∙◌, ap, sym, subst, ℕ, ℤ, Bool, rules}
use Rattle.std.specs.Prelude.{int_lt}
use Rattle.std.specs.List.Sorted.{IsPartitionedBy}
use Rattle.std.proofs.lemmas.List.Sorted.{IsPartitionPoint-from_clause}
use Rattle.ev_stack.specs.Tops.{front_len}
use Rattle.ev_stack.proofs.Fronts.{front_len-point, parted_below}
use Rattle.ev_stack.proofs.layers.Layers.below_len.Goals as goal

pub returns-clause-len : goal.returns-clause-len
returns-clause-len c =
    let test : ℕ × ℤ → Bool = λ one. int_lt one.1 c.args.layer in
    let parts = subst (IsPartitionedBy test) (sym c.deref.ensures.value) (parted_below c.args.layer c.args.self.now.tops.items c.requires) in
    let point = IsPartitionPoint-from_clause test _ _ c.partition_point.ensures.partitioned parts (λ a r q k. search rules) in
    front_len-point test c.deref.result.now c.partition_point.result c.partition_point.ensures.bound point ∙ ap (front_len test) c.deref.ensures.value
