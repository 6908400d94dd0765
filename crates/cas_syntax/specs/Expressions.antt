-- Which tokens spell which expressions. Each relation speaks of two lists: from the first on to the second, which is an
-- end of it, the tokens spell the tree.
use Rattle.std.specs.Prelude.{◌≤◌, ℕ, ◌+◌, List, [], ◌∷◌}
use Rattle.cas_base.specs.declared.kind.Kind.{Kind}
use Rattle.cas_base.specs.declared.kind.Kind.TheVariants.{I8, U8, I16, U16, I32, U32}
use Rattle.cas_base.specs.declared.place.Place.{Place}
use Rattle.cas_lex.specs.declared.token.Token.{Token}
use Rattle.cas_lex.specs.declared.token.Word.{Word}
use Rattle.cas_lex.specs.declared.token.Word.TheVariants as w
use Rattle.cas_lex.specs.declared.token.Sign.TheVariants as sg
use Rattle.cas_syntax.specs.declared.tree.Ident.{Ident}
use Rattle.cas_syntax.specs.declared.tree.UnaryOperator.{UnaryOperator}
use Rattle.cas_syntax.specs.Tree.{ExprTree, literal, name, index, deref, address, address_index, unary, cast, conditional}
use Rattle.cas_syntax.specs.Operators.{Infix, joined, level, infix_sign, unary_sign}
use Rattle.cas_syntax.specs.Limits.{Limits, AllowsTokens, IsLeftOut}
use Rattle.cas_syntax.specs.Tokens.{word, sign, ident, number}

-- this word, or nothing
pub data Perhaps (w : Word) : List Token → List Token → Type 0 where
  without : (r : List Token) → Perhaps w r r
  with_it : (p : Place) (r : List Token) → Perhaps w (word w p ∷ r) r

-- the words of a kind
pub data SpellsKind : Kind → List Token → List Token → Type 0 where
  char : (p : Place) (s r : List Token) → Perhaps w.Signed s (word w.Char p ∷ r) → SpellsKind I8 s r
  unsigned_char : (p q : Place) (r : List Token) → SpellsKind U8 (word w.Unsigned p ∷ word w.Char q ∷ r) r
  short : (p : Place) (s t r : List Token) → Perhaps w.Signed s (word w.Short p ∷ t) → Perhaps w.Int t r →
      SpellsKind I16 s r
  unsigned_short : (p q : Place) (t r : List Token) → Perhaps w.Int t r →
      SpellsKind U16 (word w.Unsigned p ∷ word w.Short q ∷ t) r
  int : (p : Place) (r : List Token) → SpellsKind I32 (word w.Int p ∷ r) r
  signed : (p : Place) (t r : List Token) → Perhaps w.Int t r → SpellsKind I32 (word w.Signed p ∷ t) r
  unsigned : (p : Place) (t r : List Token) → Perhaps w.Int t r → SpellsKind U32 (word w.Unsigned p ∷ t) r

-- an expression, as an operand of a place that takes operators of this level and tighter ones
pub data Spells (limits : Limits) : ℕ → ExprTree → List Token → List Token → Type 0 where
  a_literal : (l n : ℕ) (k : Kind) (p : Place) (r : List Token) → Spells limits l (literal n k) (number n k p ∷ r) r
  a_name : (l : ℕ) (x : Ident) (r : List Token) → Spells limits l (name x) (ident x ∷ r) r
  an_element : (l : ℕ) (x : Ident) (a : ExprTree) (p q : Place) (s r : List Token) →
      Spells limits 1 a s (sign sg.CloseBracket q ∷ r) →
      Spells limits l (index x a) (ident x ∷ sign sg.OpenBracket p ∷ s) r
  in_parentheses : (l : ℕ) (a : ExprTree) (p q : Place) (s r : List Token) →
      Spells limits 1 a s (sign sg.CloseParen q ∷ r) → Spells limits l a (sign sg.OpenParen p ∷ s) r
  an_operand_of : (l : ℕ) (op : UnaryOperator) (a : ExprTree) (p : Place) (s r : List Token) →
      Spells limits 12 a s r → Spells limits l (unary op a) (sign (unary_sign op) p ∷ s) r
  what_is_pointed_to : (l : ℕ) (a : ExprTree) (p : Place) (s r : List Token) →
      Spells limits 12 a s r → Spells limits l (deref a) (sign sg.Star p ∷ s) r
  an_address : (l : ℕ) (x : Ident) (p : Place) (r : List Token) →
      Spells limits l (address x) (sign sg.And p ∷ ident x ∷ r) r
  an_address_of_element : (l : ℕ) (x : Ident) (a : ExprTree) (o p q : Place) (s r : List Token) →
      Spells limits 1 a s (sign sg.CloseBracket q ∷ r) →
      Spells limits l (address_index x a) (sign sg.And o ∷ ident x ∷ sign sg.OpenBracket p ∷ s) r
  a_cast : (l : ℕ) (k : Kind) (a : ExprTree) (p q : Place) (s t r : List Token) →
      SpellsKind k s (sign sg.CloseParen q ∷ t) → Spells limits 12 a t r →
      Spells limits l (cast k a) (sign sg.OpenParen p ∷ s) r
  two_operands : (l : ℕ) (op : Infix) (a b : ExprTree) (p : Place) (s t r : List Token) → l ≤ level op →
      Spells limits (level op) a s (sign (infix_sign op) p ∷ t) → Spells limits (level op + 1) b t r →
      Spells limits l (joined op a b) s r
  a_choice : (l : ℕ) (c a b : ExprTree) (p q : Place) (s t u r : List Token) → l ≤ 1 →
      Spells limits 2 c s (sign sg.Question p ∷ t) → Spells limits 1 a t (sign sg.Colon q ∷ u) → Spells limits 1 b u r →
      Spells limits l (conditional c a b) s r
  -- left out: a call inside an expression
  a_call : (l : ℕ) (x : Ident) (p : Place) (r : List Token) → IsLeftOut limits r →
      Spells limits l (name x) (ident x ∷ sign sg.OpenParen p ∷ r) r
  a_call_of_address : (l : ℕ) (x : Ident) (o p : Place) (r : List Token) → IsLeftOut limits r →
      Spells limits l (address x) (sign sg.And o ∷ ident x ∷ sign sg.OpenParen p ∷ r) r

-- an expression that stands in no other
pub data SpellsExpr (limits : Limits) : ExprTree → List Token → List Token → Type 0 where
  outermost : (a : ExprTree) (s r : List Token) → AllowsTokens limits s r → Spells limits 1 a s r →
      SpellsExpr limits a s r

-- expressions with commas between
pub data SpellsExprs (limits : Limits) : List ExprTree → List Token → List Token → Type 0 where
  last_of : (a : ExprTree) (s r : List Token) → SpellsExpr limits a s r → SpellsExprs limits (a ∷ []) s r
  one_of : (a : ExprTree) (bs : List ExprTree) (p : Place) (s t r : List Token) →
      SpellsExpr limits a s (sign sg.Comma p ∷ t) →
      SpellsExprs limits bs t r → SpellsExprs limits (a ∷ bs) s r

-- the arguments of a call
pub data SpellsArguments (limits : Limits) : List ExprTree → List Token → List Token → Type 0 where
  no_arguments : (r : List Token) → SpellsArguments limits [] r r
  arguments : (bs : List ExprTree) (s r : List Token) → SpellsExprs limits bs s r → SpellsArguments limits bs s r
