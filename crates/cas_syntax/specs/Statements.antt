-- Which tokens spell which statements: from the first list on to the second.
use Rattle.std.specs.Prelude.{◌≡◌, ℕ, ◌+◌, Bool, true, false, List, ◌∷◌, Option, Some, None}
use Rattle.cas_base.specs.declared.kind.Kind.{Kind}
use Rattle.cas_base.specs.declared.kind.Kind.TheVariants.{I32}
use Rattle.cas_base.specs.declared.kind.Ty.TheVariants.{Int, Ptr, Array}
use Rattle.cas_base.specs.declared.place.Place.{Place}
use Rattle.cas_lex.specs.declared.token.Token.{Token}
use Rattle.cas_lex.specs.declared.token.Word.TheVariants as w
use Rattle.cas_lex.specs.declared.token.Sign.{Sign}
use Rattle.cas_lex.specs.declared.token.Sign.TheVariants as sg
use Rattle.cas_syntax.specs.declared.tree.Ident.{Ident}
use Rattle.cas_syntax.specs.declared.tree.BinaryOperator.{BinaryOperator}
use Rattle.cas_syntax.specs.declared.tree.BinaryOperator.TheVariants.{Add, Sub}
use Rattle.cas_syntax.specs.Tree.{ExprTree, literal, name, TargetTree, to_name, to_index, to_deref, InitTree, nothing, value, called, StmtTree, skip, declare, assign, call, block, if_, while_, do_, for_, break_, continue_, return_, lock, unlock, print, StmtOption, absent, present, StmtList, no_more, one_more}
use Rattle.cas_syntax.specs.Operators.{assigning_sign}
use Rattle.cas_syntax.specs.Limits.{Limits, AllowsDepth, IsLeftOut}
use Rattle.cas_syntax.specs.Tokens.{word, sign, ident, number, begins_call}
use Rattle.cas_syntax.specs.Expressions.{SpellsKind, SpellsExpr, SpellsArguments}

-- what an assignment writes
pub data SpellsTarget (limits : Limits) : TargetTree → List Token → List Token → Type 0 where
  a_variable : (x : Ident) (r : List Token) → SpellsTarget limits (to_name x) (ident x ∷ r) r
  an_element : (x : Ident) (a : ExprTree) (p q : Place) (s r : List Token) →
      SpellsExpr limits a s (sign sg.CloseBracket q ∷ r) →
      SpellsTarget limits (to_index x a) (ident x ∷ sign sg.OpenBracket p ∷ s) r
  behind_name : (x : Ident) (p : Place) (r : List Token) →
      SpellsTarget limits (to_deref (name x)) (sign sg.Star p ∷ ident x ∷ r) r
  behind_parentheses : (a : ExprTree) (o p q : Place) (s r : List Token) →
      SpellsExpr limits a s (sign sg.CloseParen q ∷ r) →
      SpellsTarget limits (to_deref a) (sign sg.Star o ∷ sign sg.OpenParen p ∷ s) r

-- the tokens may be the value of an assignment to this target: where a name takes it, what begins as a call is one
abbrev pub MayBeValue : TargetTree → List Token → Type 0
MayBeValue (to_name x) tokens = begins_call tokens ≡ false
MayBeValue target tokens = Unit {0}

-- an assignment or a call, at the place of its first token
pub data SpellsSimple (limits : Limits) : StmtTree → List Token → List Token → Type 0 where
  sets : (target : TargetTree) (a : ExprTree) (first : Token) (p : Place) (s t r : List Token) →
      SpellsTarget limits target (first ∷ s) (sign sg.Equal p ∷ t) → MayBeValue target t → SpellsExpr limits a t r →
      SpellsSimple limits (assign first.place target None a) (first ∷ s) r
  changes : (target : TargetTree) (op : BinaryOperator) (by : Sign) (a : ExprTree) (first : Token) (p : Place)
      (s t r : List Token) →
      assigning_sign op ≡ Some by → SpellsTarget limits target (first ∷ s) (sign by p ∷ t) → SpellsExpr limits a t r →
      SpellsSimple limits (assign first.place target (Some op) a) (first ∷ s) r
  increments : (target : TargetTree) (first : Token) (p : Place) (s r : List Token) →
      SpellsTarget limits target (first ∷ s) (sign sg.PlusPlus p ∷ r) →
      SpellsSimple limits (assign first.place target (Some Add) (literal 1 I32)) (first ∷ s) r
  decrements : (target : TargetTree) (first : Token) (p : Place) (s r : List Token) →
      SpellsTarget limits target (first ∷ s) (sign sg.MinusMinus p ∷ r) →
      SpellsSimple limits (assign first.place target (Some Sub) (literal 1 I32)) (first ∷ s) r
  increments_first : (target : TargetTree) (p : Place) (s r : List Token) → SpellsTarget limits target s r →
      SpellsSimple limits (assign p target (Some Add) (literal 1 I32)) (sign sg.PlusPlus p ∷ s) r
  decrements_first : (target : TargetTree) (p : Place) (s r : List Token) → SpellsTarget limits target s r →
      SpellsSimple limits (assign p target (Some Sub) (literal 1 I32)) (sign sg.MinusMinus p ∷ s) r
  keeps_result : (x f : Ident) (bs : List ExprTree) (p q q' : Place) (s r : List Token) →
      SpellsArguments limits bs s (sign sg.CloseParen q' ∷ r) →
      SpellsSimple limits (call x.place (Some x) f bs) (ident x ∷ sign sg.Equal p ∷ ident f ∷ sign sg.OpenParen q ∷ s) r
  calls : (f : Ident) (bs : List ExprTree) (p q : Place) (s r : List Token) →
      SpellsArguments limits bs s (sign sg.CloseParen q ∷ r) →
      SpellsSimple limits (call f.place None f bs) (ident f ∷ sign sg.OpenParen p ∷ s) r

-- what a local begins with
pub data SpellsInit (limits : Limits) : InitTree → List Token → List Token → Type 0 where
  no_value : (r : List Token) → SpellsInit limits nothing r r
  a_value : (a : ExprTree) (p : Place) (s r : List Token) → begins_call s ≡ false → SpellsExpr limits a s r →
      SpellsInit limits (value a) (sign sg.Equal p ∷ s) r
  a_result : (f : Ident) (bs : List ExprTree) (p q q' : Place) (s r : List Token) →
      SpellsArguments limits bs s (sign sg.CloseParen q' ∷ r) →
      SpellsInit limits (called f bs) (sign sg.Equal p ∷ ident f ∷ sign sg.OpenParen q ∷ s) r

-- a local of this kind, without the words of the kind; at the place of its name
pub data SpellsLocal (limits : Limits) (k : Kind) : StmtTree → List Token → List Token → Type 0 where
  variable : (x : Ident) (a : InitTree) (s r : List Token) → SpellsInit limits a s r →
      SpellsLocal limits k (declare x.place (Int k) x a) (ident x ∷ s) r
  pointer : (x : Ident) (a : InitTree) (p : Place) (s r : List Token) → SpellsInit limits a s r →
      SpellsLocal limits k (declare x.place (Ptr k) x a) (sign sg.Star p ∷ ident x ∷ s) r
  array : (x : Ident) (n : ℕ) (j : Kind) (p o q : Place) (r : List Token) →
      SpellsLocal limits k (declare x.place (Array k n) x nothing)
      (ident x ∷ sign sg.OpenBracket p ∷ number n j o ∷ sign sg.CloseBracket q ∷ r) r
  -- left out: a pointer to a pointer, for which any tree stands, an array of pointers, an array of arrays, values of an
  -- array
  pointer_to_pointer : (p q : Place) (r : List Token) → IsLeftOut limits r →
      SpellsLocal limits k (skip q) (sign sg.Star p ∷ sign sg.Star q ∷ r) r
  pointers : (x : Ident) (p q : Place) (r : List Token) → IsLeftOut limits r →
      SpellsLocal limits k (declare x.place (Ptr k) x nothing) (sign sg.Star p ∷ ident x ∷ sign sg.OpenBracket q ∷ r) r
  arrays : (x : Ident) (n : ℕ) (j : Kind) (p o q q' : Place) (r : List Token) → IsLeftOut limits r →
      SpellsLocal limits k (declare x.place (Array k n) x nothing)
      (ident x ∷ sign sg.OpenBracket p ∷ number n j o ∷ sign sg.CloseBracket q ∷ sign sg.OpenBracket q' ∷ r) r
  array_values : (x : Ident) (n : ℕ) (j : Kind) (p o q q' : Place) (r : List Token) → IsLeftOut limits r →
      SpellsLocal limits k (declare x.place (Array k n) x nothing)
      (ident x ∷ sign sg.OpenBracket p ∷ number n j o ∷ sign sg.CloseBracket q ∷ sign sg.Equal q' ∷ r) r

-- locals of this kind with commas between: with the second statements behind them they are the first
pub data SpellsLocals (limits : Limits) (k : Kind) : StmtList → StmtList → List Token → List Token → Type 0 where
  last_local : (a : StmtTree) (rest : StmtList) (s r : List Token) → SpellsLocal limits k a s r →
      SpellsLocals limits k (one_more a rest) rest s r
  one_local : (a : StmtTree) (bs rest : StmtList) (p : Place) (s t r : List Token) →
      SpellsLocal limits k a s (sign sg.Comma p ∷ t) →
      SpellsLocals limits k bs rest t r → SpellsLocals limits k (one_more a bs) rest s r

-- the first part of a `for`, which stands in so many statements
pub data SpellsFirst (limits : Limits) (around : ℕ) : StmtOption → List Token → List Token → Type 0 where
  nothing_first : (r : List Token) → SpellsFirst limits around absent r r
  simple_first : (a : StmtTree) (s r : List Token) → AllowsDepth limits around s → SpellsSimple limits a s r →
      SpellsFirst limits around (present a) s r
  local_first : (k : Kind) (a : StmtTree) (s t r : List Token) → AllowsDepth limits around s → SpellsKind k s t →
      SpellsLocal limits k a t r →
      SpellsFirst limits around (present a) s r

-- the last part of a `for`, which stands in so many statements
pub data SpellsAfter (limits : Limits) (around : ℕ) : StmtOption → List Token → List Token → Type 0 where
  nothing_after : (r : List Token) → SpellsAfter limits around absent r r
  simple_after : (a : StmtTree) (s r : List Token) → AllowsDepth limits around s → SpellsSimple limits a s r →
      SpellsAfter limits around (present a) s r

-- an expression, or none
pub data SpellsOptional (limits : Limits) : Option ExprTree → List Token → List Token → Type 0 where
  no_expr : (r : List Token) → SpellsOptional limits None r r
  an_expr : (a : ExprTree) (s r : List Token) → SpellsExpr limits a s r → SpellsOptional limits (Some a) s r

-- whether an `else` behind the statement would belong to an `if` in it
abbrev mutual
  pub dangles : StmtTree → Bool
  dangles (if_ p c a otherwise) = dangles_option otherwise
  dangles (while_ p c a) = dangles a
  dangles (for_ p i c u a) = dangles a
  dangles _ = false

  pub dangles_option : StmtOption → Bool
  dangles_option absent = true
  dangles_option (present a) = dangles a

mutual
  -- a statement that stands in so many others
  pub data SpellsStmt (limits : Limits) : (around : ℕ) → StmtTree → List Token → List Token → Type 0 where
    skips : (n : ℕ) (p : Place) (r : List Token) → AllowsDepth limits n (sign sg.Semicolon p ∷ r) →
        SpellsStmt limits n (skip p) (sign sg.Semicolon p ∷ r) r
    blocks : (n : ℕ) (bs : StmtList) (p q : Place) (s r : List Token) → AllowsDepth limits n (sign sg.OpenBrace p ∷ s) →
        SpellsStmts limits (n + 1) bs s (sign sg.CloseBrace q ∷ r) →
        SpellsStmt limits n (block p bs) (sign sg.OpenBrace p ∷ s) r
    simple : (n : ℕ) (a : StmtTree) (p : Place) (s r : List Token) → AllowsDepth limits n s →
        SpellsSimple limits a s (sign sg.Semicolon p ∷ r) → SpellsStmt limits n a s r
    ifs : (n : ℕ) (c : ExprTree) (a : StmtTree) (p q q' : Place) (s t r : List Token) →
        AllowsDepth limits n (word w.If p ∷ sign sg.OpenParen q ∷ s) →
        SpellsExpr limits c s (sign sg.CloseParen q' ∷ t) →
        SpellsStmt limits (n + 1) a t r → SpellsStmt limits n (if_ p c a absent) (word w.If p ∷ sign sg.OpenParen q ∷ s)
        r
    if_elses : (n : ℕ) (c : ExprTree) (a b : StmtTree) (p q q' e : Place) (s t u r : List Token) →
        AllowsDepth limits n (word w.If p ∷ sign sg.OpenParen q ∷ s) →
        SpellsExpr limits c s (sign sg.CloseParen q' ∷ t) →
        SpellsStmt limits (n + 1) a t (word w.Else e ∷ u) → dangles a ≡ false → SpellsStmt limits (n + 1) b u r →
        SpellsStmt limits n (if_ p c a (present b)) (word w.If p ∷ sign sg.OpenParen q ∷ s) r
    whiles : (n : ℕ) (c : ExprTree) (a : StmtTree) (p q q' : Place) (s t r : List Token) →
        AllowsDepth limits n (word w.While p ∷ sign sg.OpenParen q ∷ s) →
        SpellsExpr limits c s (sign sg.CloseParen q' ∷ t) →
        SpellsStmt limits (n + 1) a t r → SpellsStmt limits n (while_ p c a) (word w.While p ∷ sign sg.OpenParen q ∷ s)
        r
    dos : (n : ℕ) (a : StmtTree) (c : ExprTree) (p o q q' e : Place) (s t r : List Token) →
        AllowsDepth limits n (word w.Do p ∷ s) →
        SpellsStmt limits (n + 1) a s (word w.While o ∷ sign sg.OpenParen q ∷ t) →
        SpellsExpr limits c t (sign sg.CloseParen q' ∷ sign sg.Semicolon e ∷ r) →
        SpellsStmt limits n (do_ p a c) (word w.Do p ∷ s) r
    fors : (n : ℕ) (i : StmtOption) (c : Option ExprTree) (u : StmtOption) (a : StmtTree) (p q e f g : Place)
        (s t v z r : List Token) →
        AllowsDepth limits n (word w.For p ∷ sign sg.OpenParen q ∷ s) →
        SpellsFirst limits (n + 1) i s (sign sg.Semicolon e ∷ t) →
        SpellsOptional limits c t (sign sg.Semicolon f ∷ v) →
        SpellsAfter limits (n + 1) u v (sign sg.CloseParen g ∷ z) →
        SpellsStmt limits (n + 1) a z r → SpellsStmt limits n (for_ p i c u a) (word w.For p ∷ sign sg.OpenParen q ∷ s)
        r
    breaks : (n : ℕ) (p q : Place) (r : List Token) → AllowsDepth limits n (word w.Break p ∷ sign sg.Semicolon q ∷ r) →
        SpellsStmt limits n (break_ p) (word w.Break p ∷ sign sg.Semicolon q ∷ r) r
    continues : (n : ℕ) (p q : Place) (r : List Token) →
        AllowsDepth limits n (word w.Continue p ∷ sign sg.Semicolon q ∷ r) →
        SpellsStmt limits n (continue_ p) (word w.Continue p ∷ sign sg.Semicolon q ∷ r) r
    returns : (n : ℕ) (a : Option ExprTree) (p q : Place) (s r : List Token) →
        AllowsDepth limits n (word w.Return p ∷ s) →
        SpellsOptional limits a s (sign sg.Semicolon q ∷ r) → SpellsStmt limits n (return_ p a) (word w.Return p ∷ s) r
    locks : (n : ℕ) (x : Ident) (p q q' e : Place) (r : List Token) →
        AllowsDepth limits n (word w.Lock p ∷ sign sg.OpenParen q ∷ ident x ∷ sign sg.CloseParen q' ∷ sign sg.Semicolon
        e ∷ r) →
        SpellsStmt limits n (lock p x)
        (word w.Lock p ∷ sign sg.OpenParen q ∷ ident x ∷ sign sg.CloseParen q' ∷ sign sg.Semicolon e ∷ r) r
    unlocks : (n : ℕ) (x : Ident) (p q q' e : Place) (r : List Token) →
        AllowsDepth limits n (word w.Unlock p ∷ sign sg.OpenParen q ∷ ident x ∷ sign sg.CloseParen q' ∷ sign
        sg.Semicolon e ∷ r) →
        SpellsStmt limits n (unlock p x) (word w.Unlock p ∷ sign sg.OpenParen q ∷ ident x ∷ sign sg.CloseParen q' ∷ sign
        sg.Semicolon e ∷ r) r
    prints : (n : ℕ) (a : ExprTree) (p q q' e : Place) (s r : List Token) →
        AllowsDepth limits n (word w.Print p ∷ sign sg.OpenParen q ∷ s) →
        SpellsExpr limits a s (sign sg.CloseParen q' ∷ sign sg.Semicolon e ∷ r) →
        SpellsStmt limits n (print p a) (word w.Print p ∷ sign sg.OpenParen q ∷ s) r

  -- statements and locals, one after another, that stand in so many others
  pub data SpellsStmts (limits : Limits) : (around : ℕ) → StmtList → List Token → List Token → Type 0 where
    ended : (n : ℕ) (r : List Token) → SpellsStmts limits n no_more r r
    a_stmt : (n : ℕ) (a : StmtTree) (bs : StmtList) (s t r : List Token) → SpellsStmt limits n a s t →
        SpellsStmts limits n bs t r →
        SpellsStmts limits n (one_more a bs) s r
    locals : (n : ℕ) (k : Kind) (bs rest : StmtList) (p : Place) (s t u r : List Token) → AllowsDepth limits n s →
        SpellsKind k s t →
        SpellsLocals limits k bs rest t (sign sg.Semicolon p ∷ u) → SpellsStmts limits n rest u r →
        SpellsStmts limits n bs s r
