use Rattle.std.proofs.Common.{ℕ, ap, sym, ◌∙◌, arith, slice_index, bit_and}
use Rattle.ev_cmds.proofs.Running.{parts_more}
use Rattle.ev_cmds.proofs.mask.Mask.push_parts.Goals as goal

pub loop-top-preserved : goal.loop-top-preserved
loop-top-preserved c =
    let before = c.loop-top.invariant in
    let rows = c.end_of_rows-bottom.ensures in (
      omega arith,
      rows.within,
      parts_more c.args.self.now c.args.area _ c.loop-top.top c.end_of_rows-bottom.result c.args.into.now.items c.loop-top.into.items c.push_runs.new.into.items before.0 rows.after
          (λ y low high. ap (λ (columns : ℕ). bit_and (slice_index c.args.self.now y) columns) (sym c.columns-columns.ensures) ∙ rows.rows y low high)
          before.2 c.in_ok-push_runs.ensures,
    )
