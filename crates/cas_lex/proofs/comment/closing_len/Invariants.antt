use Rattle.std.proofs.Common.{◌≡◌, ◌+◌, drop}
use Rattle.std.specs.Option.{option_map}
use Rattle.cas_lex.specs.Comments as spec
use Rattle.cas_lex.proofs.comment.closing_len.Given as goal

abbrev pub invariant-loop-i : goal.invariant-loop-i
invariant-loop-i l = option_map (λ n. n + l.i) (spec.closing_len (drop l.i l.text)) ≡ spec.closing_len l.text
