use Rattle.std.proofs.Common.{ℕ, List, [], false, ◌∙◌, sym, ap, subst, refl, leb, rules, length, take}
use Rattle.std.proofs.lemmas.List.Sorted.{IsPartitionPoint-from_clause, IsPartitionedBy-leb}
use Rattle.ev_geom.specs.Bands.{IsRow, IsBands, row_at}
use Rattle.ev_region.specs.declared.bands.Step.{Step}
use Rattle.ev_region.specs.BandMerge.{last_edges}
use Rattle.ev_region.specs.Flat.{bands_of}
use Rattle.ev_geom.proofs.Banding.{row_at-row}
use Rattle.ev_region.proofs.Flats.{IsFlat-take, tops_in_order, row_at-count}
use Rattle.ev_region.proofs.bands.Bands.row_at.Goals as goal

pub last_row-requires : goal.last_row-requires
last_row-requires c =
    rw (c.deref-2.ensures.value, c.deref-3.ensures.value)
    (IsFlat-take (length c.self.inside.edges.items) 0 c.self.inside.steps.items c.partition_point-below.result c.self.invariant)

pub returns-clause-edges : goal.returns-clause-edges
returns-clause-edges c =
    let good : IsBands 1000000 0 [] (bands_of 0 c.self.inside.steps.items c.self.inside.edges.items) = subst (IsBands 1000000 0 []) (sym c.self.view_is) c.requires in
    c.last_row.ensures
    ∙ ap (λ (steps : List Step). last_edges (bands_of 0 (take c.partition_point-below.result steps) c.deref-3.result.now)) c.deref-2.ensures.value
    ∙ ap (λ (edges : List ℕ). last_edges (bands_of 0 (take c.partition_point-below.result c.self.inside.steps.items) edges)) c.deref-3.ensures.value
    ∙ row_at-count c.self.inside.steps.items c.self.inside.edges.items c.args.y c.partition_point-below.result (rw c.deref.ensures.value at c.partition_point-below.ensures.bound)
    (IsPartitionPoint-from_clause (λ (s : Step). leb s.top c.args.y) c.self.inside.steps.items _ (rw c.deref.ensures.value at c.partition_point-below.ensures.partitioned)
    (IsPartitionedBy-leb (λ (s : Step). s.top) c.self.inside.steps.items c.args.y (tops_in_order 1000000 0 [] 0 c.self.inside.steps.items c.self.inside.edges.items good))
    (λ a r f' called. search rules))
    ∙ ap (λ bands. row_at [] bands c.args.y) c.self.view_is

pub returns-clause-row : goal.returns-clause-row
returns-clause-row c =
    subst (λ (row : List ℕ). IsRow 1000000 0 false row) (sym (returns-clause-edges c))
    (row_at-row 1000000 0 [] c.args.self.now c.args.y refl c.requires)
