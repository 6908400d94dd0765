use Rattle.std.proofs.Common.{rules}
use Rattle.std.proofs.lemmas.List.Sorted.{answers_always}
use Rattle.cas_memory.proofs.Search_lemmas.{searched}
use Rattle.cas_memory.proofs.memory.search.Goals as goal

-- the closure gives a block's serial number
pub returns : goal.returns
returns c =
    let facts = c.binary_search_by_key.ensures in
    let by_key = facts.position (λ b. b.serial) (answers_always _ _ _ (λ f a r g called. search rules)) in
    searched c.args.blocks.now c.requires c.args.serial _ facts.bound by_key
