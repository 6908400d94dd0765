use Rattle.std.proofs.Common.{◌≤◌, ◌+◌, ◌++◌, List, length}
use Rattle.cas_lex.specs.declared.token.Token.{Token}
use Rattle.cas_lex.specs.Lexed.{Lexed, Stop}
use Rattle.cas_lex.specs.Places.{start}
use Rattle.cas_lex.proofs.lexing.tokens_of.Given as goal

abbrev pub invariant-fronts : goal.invariant-fronts
invariant-fronts l = record {
  -- what lexes the rest lexes the whole
  lexed : (tokens : List Token) (stop : Stop) → Lexed l.place l.rest tokens stop →
      Lexed start l.text (l.tokens.items ++ tokens) stop;
  lines : l.place.line + length l.rest ≤ length l.text + 1;
  columns : l.place.col + length l.rest ≤ length l.text + 1;
}

abbrev pub decreases-fronts : goal.decreases-fronts
decreases-fronts l = length l.rest
