use Rattle.cas_typed.proofs.Bodied.{IsTyped-bodies}
use Rattle.cas_typed.proofs.Defined.{IsTyped-defined}
use Rattle.cas_typed.proofs.Kept_words.{IsFormed-defines}
use Rattle.cas_typed.proofs.laws.typed_modules_have_bodies.Goals as goal

pub returns : goal.returns
returns c = record {
  bodies = IsTyped-bodies;
  declared = IsFormed-defines;
  defined = IsTyped-defined;
}
