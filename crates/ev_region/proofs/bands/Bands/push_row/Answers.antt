use Rattle.std.proofs.Common.{rules, ap, ◌≡◌, length, refl}
use Rattle.std.proofs.lemmas.Bool.{iff_false}
use Rattle.ev_region.specs.declared.bands.Step.{Step}
use Rattle.ev_region.specs.Flat.{bands_of}
use Rattle.ev_region.proofs.Flats.{flat_after, flat_pushed, pushed_none, pushed_one}
use Rattle.ev_region.proofs.bands.Bands.push_row.Goals as goal

pub invariant_of-self : goal.invariant_of-self
invariant_of-self c =
    let end = rw c.deref.ensures.value at c.last_run-last.ensures.end in
    flat_after c.last_run-last.result.end c.self.inside.steps.items c.self.inside.edges.items c.truncate.new.self.items c.merge_rows.new.merged.items
    c.self.invariant end c.truncate.ensures.items c.merge_rows.ensures.kept

pub invariant_of-self-else-not-same_row : goal.invariant_of-self-else-not-same_row
invariant_of-self-else-not-same_row c =
    let end = rw c.deref.ensures.value at c.last_run-last.ensures.end in
    flat_after c.last_run-last.result.end c.self.inside.steps.items c.self.inside.edges.items c.truncate.new.self.items c.merge_rows.new.merged.items
    c.self.invariant end c.truncate.ensures.items c.in_ok-merge_rows.ensures.kept

pub invariant_of-self-in-Continue-branch-2 : goal.invariant_of-self-in-Continue-branch-2
invariant_of-self-in-Continue-branch-2 c =
    let end = rw c.deref.ensures.value at c.last_run-last.ensures.end in
    let step : Step = record { top = c.args.y; end = c.len-end.result } in
    rw c.in_ok-push.ensures.items
    (flat_pushed c.last_run-last.result.end c.self.inside.steps.items c.self.inside.edges.items c.truncate.new.self.items c.merge_rows.new.merged.items step
    c.self.invariant end c.truncate.ensures.items c.in_ok-merge_rows.ensures.kept (search rules))

pub invariant_of-self-in_err-push : goal.invariant_of-self-in_err-push
invariant_of-self-in_err-push c =
    let end = rw c.deref.ensures.value at c.last_run-last.ensures.end in
    rw c.in_err-push.ensures.items
    (flat_after c.last_run-last.result.end c.self.inside.steps.items c.self.inside.edges.items c.truncate.new.self.items c.merge_rows.new.merged.items
    c.self.invariant end c.truncate.ensures.items c.in_ok-merge_rows.ensures.kept)

pub returns-else-not-same_row : goal.returns-else-not-same_row
returns-else-not-same_row c =
    let row = rw (c.deref.ensures.value, c.deref-2.ensures.value) at c.last_run-last.ensures.row in
    let end = rw c.deref.ensures.value at c.last_run-last.ensures.end in
    let same = rw (c.deref-3.ensures.value, c.deref-4.ensures.value) at (c.same_row.ensures.0 c.if-not-same_row.false) in
    pushed_none _ c.args.y _ _ c.last_run-last.result.end c.last_run-last.result.start c.self.inside.steps.items c.self.inside.edges.items c.truncate.new.self.items c.merge_rows.new.merged.items
    _ _ c.self.invariant end c.truncate.ensures.items c.in_ok-merge_rows.ensures.kept c.in_ok-merge_rows.ensures.ok
    c.last_run-last.ensures.order row same c.self.view_is refl

pub returns-in_ok-push : goal.returns-in_ok-push
returns-in_ok-push c =
    let row = rw (c.deref.ensures.value, c.deref-2.ensures.value) at c.last_run-last.ensures.row in
    let end = rw c.deref.ensures.value at c.last_run-last.ensures.end in
    let step : Step = record { top = c.args.y; end = c.len-end.result } in
    let all : c.len-end.result ≡ length c.merge_rows.new.merged.items = search rules in
    pushed_one _ c.args.y _ _ c.last_run-last.result.end c.last_run-last.result.start c.self.inside.steps.items c.self.inside.edges.items c.truncate.new.self.items c.merge_rows.new.merged.items
    step _ _ c.self.invariant end c.truncate.ensures.items c.in_ok-merge_rows.ensures.kept c.in_ok-merge_rows.ensures.ok
    c.last_run-last.ensures.order row
    (λ same. iff_false c.same_row.ensures c.if-not-same_row.true (rw (c.deref-3.ensures.value, c.deref-4.ensures.value) same))
    c.self.view_is refl all (ap (λ steps. bands_of 0 steps c.merge_rows.new.merged.items) c.in_ok-push.ensures.items)
