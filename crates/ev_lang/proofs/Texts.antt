-- Lines that are texts.
use Rattle.std.proofs.Common.{◌≡◌, ℕ, ◌≤◌, List, length, drop, true, arith, length-drop}
use Rattle.std.specs.List.{list_all}
use Rattle.std.proofs.lemmas.Bool.Decides.{nat_tests}
use Rattle.std.proofs.lemmas.List.Elements.{All-drop, All-weaker}
use Rattle.std.proofs.lemmas.List.Sums.{AllPass-from_list_all}
use Rattle.ev_model.specs.Glyphs.{IsText, IsCharacter}
use Rattle.ev_lang.specs.Lines.{is_text_byte}

-- what stands behind some characters is a text as well
pub dropped : (xs : List ℕ) (i : ℕ) → IsText xs → IsText (drop i xs)
dropped xs i text = record {
  len = let short = text.len in omega (arith, length-drop i xs);
  characters = All-drop IsCharacter i xs text.characters;
}

character : (c : ℕ) → is_text_byte c ≡ true → IsCharacter c
character c is = record { low = grind (arith, nat_tests); high = grind (arith, nat_tests) }

pub are_characters : (xs : List ℕ) → length xs ≤ 1024 → list_all is_text_byte xs ≡ true → IsText xs
are_characters xs short all = record {
  len = short;
  characters = All-weaker _ IsCharacter character xs (AllPass-from_list_all is_text_byte xs all);
}
