use Rattle.std.proofs.Common.{◌≡◌, ◌+◌, length}
use Rattle.ev_lang.specs.Words.{words}
use Rattle.ev_lang.proofs.words.has_words.Given as goal

abbrev pub invariant-loop : goal.invariant-loop
invariant-loop l = l.counter + length (words l.rest) ≡ length (words l.line)
