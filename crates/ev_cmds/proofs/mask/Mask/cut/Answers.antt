use Rattle.std.proofs.Common.{ℕ, ◌+◌, ◌∙◌, slice_index, slice_set, bit_and, subst, sym, arith, w64}
use Rattle.std.specs.Int.{bit_not}
use Rattle.std.proofs.lemmas.List.{length-set}
use Rattle.ev_cmds.specs.Masks.{Cuts}
use Rattle.ev_cmds.proofs.Masking.{down_to, cuts_row}
use Rattle.ev_cmds.proofs.mask.Mask.cut.Goals as goal

pub loop-y-preserved : goal.loop-y-preserved
loop-y-preserved c =
    let rows = c.loop-y.self-inside.rows in
    let y = c.loop-y.y in (
      length-set rows y (bit_and (slice_index rows y) (bit_not w64 c.columns-others.result)) ∙ c.loop-y.invariant.0,
      subst (λ (columns : ℕ). Cuts (down_to c.args.patch (y + 1)) c.self.inside.rows (slice_set rows y (bit_and (slice_index rows y) (bit_not w64 columns)))) (sym c.columns-others.ensures)
          (cuts_row c.args.patch c.self.inside.rows rows y c.loop-y.invariant.0 c.requires.right (omega arith) (omega arith) c.loop-y.invariant.1),
    )
