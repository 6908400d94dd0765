use Rattle.std.proofs.Common.{◌≡◌, drop}
use Rattle.cas_outside.specs.Shelf.{text_of, texts_of}
use Rattle.cas_outside.proofs.memory.first_text.Given as goal

abbrev pub invariant-loop-held : goal.invariant-loop-held
invariant-loop-held l = text_of (texts_of (drop l.held-index l.texts)) l.name ≡ text_of (texts_of l.texts) l.name
