use Rattle.std.proofs.Common.{◌∙◌, ◌==◌, ap, sym}
use Rattle.std.proofs.lemmas.List.Sorted.{list_any-IsPermutation}
use Rattle.ev_damage.specs.Marked.{is_marked}
use Rattle.ev_records.proofs.records.Records.by_column.Goals as goal

pub returns : goal.returns
returns c = λ place. sym (list_any-IsPermutation (λ j. j == place) c.in_ok-sorted.sorted.items c.sort_by_key.new.self.items c.sort_by_key.ensures.permutation) ∙ ap (λ places. is_marked places place) c.in_ok-sorted.ensures.items
