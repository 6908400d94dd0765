use Rattle.std.proofs.Common.{inl, subst}
use Rattle.cas_outside.specs.Calls.{FailsNext}
use Rattle.cas_outside.specs.Shelf.{ShelfState}
use Rattle.cas_outside.proofs.memory.MemoryShelfShelf.read.Goals as goal

-- the number that was found to fail is that of the shelf as contracts see it
numbered : (c : goal.After-note) → FailsNext c.args.self.now.failing c.args.self.now.calls
numbered c =
    let Fails : ShelfState → Type 0 = λ shelf. FailsNext shelf.failing shelf.calls in
    subst Fails c.self.view_is (c.fails_next.ensures.fails.0 c.if-fails_next.true)

pub returns-then-fails_next-clause-failed : goal.returns-then-fails_next-clause-failed
returns-then-fails_next-clause-failed c _ = inl (numbered c)

pub returns-then-fails_next-clause-longer : goal.returns-then-fails_next-clause-longer
returns-then-fails_next-clause-longer c not_numbered _ = absurd (not_numbered (numbered c))
