use Rattle.std.proofs.Common.{ℕ, ◌+◌, ◌∙◌, slice_index, slice_set, bit_or, subst, sym, arith}
use Rattle.std.proofs.lemmas.List.{length-set}
use Rattle.ev_cmds.specs.Masks.{Adds}
use Rattle.ev_cmds.proofs.Masking.{down_to, adds_row}
use Rattle.ev_cmds.proofs.mask.Mask.add.Goals as goal

pub loop-y-preserved : goal.loop-y-preserved
loop-y-preserved c =
    let rows = c.loop-y.self-inside.rows in
    let y = c.loop-y.y in (
      length-set rows y (bit_or (slice_index rows y) c.columns-columns.result) ∙ c.loop-y.invariant.0,
      c.loop-y.invariant.1,
      subst (λ (columns : ℕ). Adds (down_to c.args.patch (y + 1)) c.self.inside.rows (slice_set rows y (bit_or (slice_index rows y) columns))) (sym c.columns-columns.ensures)
          (adds_row c.args.patch c.self.inside.rows rows y c.loop-y.invariant.0 (omega arith) (omega arith) c.loop-y.invariant.2),
    )
