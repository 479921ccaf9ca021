use Rattle.std.proofs.Common.{◌≡◌, None}
use Rattle.ev_desk.specs.DeskSeen.{loader_view, loader_desk}
use Rattle.ev_desk.proofs.tests.load_until_closed.Given as goal

abbrev pub invariant-loop : goal.invariant-loop
invariant-loop g l = record { desk : loader_desk l.loader ≡ loader_desk l.initial.loader; free : (loader_view l.loader).counts.loader.held ≡ None }
