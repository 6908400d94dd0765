use Rattle.cas_typed.proofs.Alike_forms.{alike_is_formed}
use Rattle.cas_typed.proofs.Formed_items.{IsReadAs-formed}
use Rattle.cas_typed.proofs.Kept_words.{IsTyped-words, IsTyped-formed}
use Rattle.cas_typed.proofs.laws.read_modules_are_formed.Goals as goal

pub returns : goal.returns
returns c = record {
  read = IsReadAs-formed;
  alike = alike_is_formed;
  filled = IsTyped-formed;
  resolved = IsTyped-words;
}
