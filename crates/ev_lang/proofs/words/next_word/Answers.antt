use Rattle.std.proofs.Common.{◌≡◌, ◌<◌, ℕ, List, Some, length, ap, ap₂, arith, ◌∙◌}
use Rattle.ev_lang.specs.Words.{words}
use Rattle.std.proofs.lemmas.Bool.Decides.{nat_tests}
use Rattle.ev_lang.proofs.Splitting.{next, next_skipped, next_some, next_none}
use Rattle.ev_lang.proofs.words.next_word.Goals as goal

pub returns-then-is_empty : goal.returns-then-is_empty
returns-then-is_empty c =
    let none : length c.skip_spaces-line.result.now ≡ 0 = grind (arith, nat_tests, c.is_empty.ensures, c.if-is_empty.true) in
    next_none _ none ∙ ap next c.skip_spaces-line.ensures.line ∙ next_skipped c.args.line.now

pub returns-else-is_empty : goal.returns-else-is_empty
returns-else-is_empty c =
    let some : 0 < length c.skip_spaces-line.result.now = grind (arith, nat_tests, c.is_empty.ensures, c.if-is_empty.false) in
    let split = ap₂ (λ (word : List ℕ) (rest : List ℕ). Some (word, words rest)) c.split_word.ensures.word c.split_word.ensures.rest in
    split ∙ next_some _ some ∙ ap next c.skip_spaces-line.ensures.line ∙ next_skipped c.args.line.now
