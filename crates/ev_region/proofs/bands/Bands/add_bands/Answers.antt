use Rattle.std.proofs.Common.{ℕ, List, ◌<◌, ◌^◌, ◌++◌, ◌∙◌, drop, length, length-append, ap, rules, arith}
use Rattle.ev_region.specs.Flat.{bands_of}
use Rattle.ev_region.proofs.Flats.{cut_flat, joined_size, joined_flat, joined_bands, all_move}
use Rattle.ev_region.proofs.bands.Bands.add_bands.Goals as goal

pub invariant_of-self : goal.invariant_of-self
invariant_of-self c =
    let end = rw c.deref.ensures.value at c.last_run-end.ensures.end in
    cut_flat c.last_run-end.result.end c.self.inside.steps.items c.self.inside.edges.items c.truncate.new.self.items c.extend_from_slice.new.self.items
    c.self.invariant end c.truncate.ensures.items (omega (arith, ap length c.in_err-extend_from_slice.ensures.items))

pub add_moved-requires : goal.add_moved-requires
add_moved-requires c =
    let end = rw c.deref.ensures.value at c.last_run-end.ensures.end in
    let after = c.in_ok-extend_from_slice.ensures.items ∙ ap (λ (es : List ℕ). c.truncate.new.self.items ++ es) c.edges_of.ensures in
    let size = joined_size c.last_run-end.result.end c.self.inside.steps.items c.self.inside.edges.items c.truncate.new.self.items c.args.rest.start c.args.rest.edges.now c.extend_from_slice.new.self.items
    c.self.invariant end c.truncate.ensures.items after in
    let fits : length c.extend_from_slice.new.self.items < 2 ^ 64 = search rules in
    all_move (length c.args.rest.edges.now) c.args.rest.start c.last_run-end.result.end c.args.rest.steps.now (omega (arith, size, fits)) c.requires

pub invariant_of-self-in_err-add_moved : goal.invariant_of-self-in_err-add_moved
invariant_of-self-in_err-add_moved c =
    let end = rw c.deref.ensures.value at c.last_run-end.ensures.end in
    let after = c.in_ok-extend_from_slice.ensures.items ∙ ap (λ (es : List ℕ). c.truncate.new.self.items ++ es) c.edges_of.ensures in
    let longer = ap length after ∙ length-append c.truncate.new.self.items (drop c.args.rest.start c.args.rest.edges.now) in
    rw c.in_err-add_moved.ensures.err
    (cut_flat c.last_run-end.result.end c.self.inside.steps.items c.self.inside.edges.items c.truncate.new.self.items c.extend_from_slice.new.self.items
    c.self.invariant end c.truncate.ensures.items (omega (arith, longer)))

pub invariant_of-self-2 : goal.invariant_of-self-2
invariant_of-self-2 c =
    let end = rw c.deref.ensures.value at c.last_run-end.ensures.end in
    let after = c.in_ok-extend_from_slice.ensures.items ∙ ap (λ (es : List ℕ). c.truncate.new.self.items ++ es) c.edges_of.ensures in
    rw c.in_ok-add_moved.ensures.ok
    (joined_flat c.last_run-end.result.end c.self.inside.steps.items c.self.inside.edges.items c.truncate.new.self.items c.args.rest.start c.args.rest.steps.now c.args.rest.edges.now c.extend_from_slice.new.self.items
    c.self.invariant end c.truncate.ensures.items c.requires after)

pub returns : goal.returns
returns c =
    let end = rw c.deref.ensures.value at c.last_run-end.ensures.end in
    let after = c.in_ok-extend_from_slice.ensures.items ∙ ap (λ (es : List ℕ). c.truncate.new.self.items ++ es) c.edges_of.ensures in
    ap (λ steps. bands_of 0 steps c.extend_from_slice.new.self.items) c.in_ok-add_moved.ensures.ok
    ∙ joined_bands c.last_run-end.result.end c.self.inside.steps.items c.self.inside.edges.items c.truncate.new.self.items c.args.rest.start c.args.rest.steps.now c.args.rest.edges.now c.extend_from_slice.new.self.items
    c.self.invariant end c.truncate.ensures.items c.requires after
    ∙ ap (λ bands. bands ++ bands_of c.args.rest.start c.args.rest.steps.now c.args.rest.edges.now) c.self.view_is
