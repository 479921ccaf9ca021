use Rattle.std.proofs.Common.{◌≡◌, ◌++◌, map, take}
use Rattle.ev_cmds.specs.Sheets.{command_of}
use Rattle.ev_cmds.proofs.sheet.push_commands.Given as goal

abbrev pub invariant-loop-patch : goal.invariant-loop-patch
invariant-loop-patch l = l.into.items ≡ l.initial.into.items ++ map (command_of l.one l.replaces) (take l.patch-index l.patches)
