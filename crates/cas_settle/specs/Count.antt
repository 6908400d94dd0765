-- How what a limit counts is printed.
use Rattle.std.specs.Prelude.{ℕ, List, codes}
use Rattle.cas_settle.specs.declared.link.Count.{Count}
use Rattle.cas_settle.specs.declared.link.Count.TheVariants.{Words, Locks, Code}

-- the word of what a limit counts
abbrev pub count_text : Count → List ℕ
count_text Words = codes "words"
count_text Locks = codes "locks"
count_text Code = codes "code"
