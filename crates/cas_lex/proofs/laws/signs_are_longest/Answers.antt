use Rattle.cas_lex.proofs.Longest.{sign_at-longest, sign_at-none}
use Rattle.cas_lex.proofs.Within.{sign_at-begins}
use Rattle.cas_lex.proofs.laws.signs_are_longest.Goals as goal

pub returns : goal.returns
returns c = record { begins = sign_at-begins; longest = sign_at-longest; none = sign_at-none }
