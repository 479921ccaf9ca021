use Rattle.std.proofs.Common.{◌≤◌, ◌-◌, length}
use Rattle.std.specs.Io.KnownBytes.{Consumes}
use Rattle.ev_edge.proofs.folder_store.read.Given as goal

-- what was read is there
abbrev pub invariant-loop-count : goal.invariant-loop-count
invariant-loop-count g l = Consumes (g.F.Read.remaining l.fn.file) (g.F.Read.remaining l.file) l.into.items × (length l.into.items ≤ 67108877)

abbrev pub decreases-loop-count : goal.decreases-loop-count
decreases-loop-count g l = 67108878 - length l.into.items
