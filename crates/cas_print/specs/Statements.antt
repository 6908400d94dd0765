-- The canonical tokens of statements. Each function puts those of a tree before the tokens `rest`.
use Rattle.std.specs.Prelude.{Bool, Box, true, false, not, List, ◌∷◌, Option, Some, None}
use Rattle.std.specs.declared.alloc.Global.{Global}
use Rattle.cas_base.specs.declared.kind.Ty.{Ty}
use Rattle.cas_base.specs.declared.kind.Ty.TheVariants.{Void, Int, Ptr, Array}
use Rattle.cas_lex.specs.declared.token.Word.{Word}
use Rattle.cas_lex.specs.declared.token.Word.TheVariants as w
use Rattle.cas_lex.specs.declared.token.Sign.{Sign}
use Rattle.cas_lex.specs.declared.token.Sign.TheVariants as sg
use Rattle.cas_syntax.specs.declared.tree.Ident.{Ident}
use Rattle.cas_syntax.specs.declared.tree.BinaryOperator.{BinaryOperator}
use Rattle.cas_syntax.specs.declared.tree.Stmt.{Stmt}
use Rattle.cas_syntax.specs.Tree.{ExprTree, name, TargetTree, to_name, to_index, to_deref, InitTree, nothing, value, called, StmtTree, skip, declare, assign, call, block, if_, while_, do_, for_, break_, continue_, return_, lock, unlock, print, StmtOption, absent, present, StmtList, no_more, one_more, stmt_tree}
use Rattle.cas_syntax.specs.Operators.{assigning_sign}
use Rattle.cas_print.specs.Pieces.{Piece, word, sign, end_of_line, named, plain_number}
use Rattle.cas_print.specs.Expressions.{kind_words, enclosed, in_brackets, printed_expr, listed}

-- an expression in parentheses
abbrev pub in_parentheses : ExprTree → List Piece → List Piece
in_parentheses a rest = enclosed true (printed_expr a) rest

-- a word, and an expression in parentheses
abbrev pub word_and : Word → ExprTree → List Piece → List Piece
word_and which a rest = word which ∷ in_parentheses a rest

-- whether an expression is a name alone
abbrev pub is_name_alone : ExprTree → Bool
is_name_alone (name x) = true
is_name_alone _ = false

-- what an assignment writes; a pointer that is no name alone stands in parentheses
abbrev pub printed_target : TargetTree → List Piece → List Piece
printed_target (to_name x) rest = named x.name ∷ rest
printed_target (to_index x a) rest = named x.name ∷ in_brackets (printed_expr a) rest
printed_target (to_deref a) rest = sign sg.Star ∷ enclosed (not (is_name_alone a)) (printed_expr a) rest

-- the sign, or else `=`
abbrev pub sign_or_equal : Option Sign → Sign
sign_or_equal (Some s) = s
sign_or_equal None = sg.Equal

-- the sign of an assignment: that of its operator, or else `=`
abbrev pub assignment_sign : Option BinaryOperator → Sign
assignment_sign (Some op) = sign_or_equal (assigning_sign op)
assignment_sign None = sg.Equal

-- a call
abbrev pub printed_call : Ident → List ExprTree → List Piece → List Piece
printed_call f bs rest = named f.name ∷ sign sg.OpenParen ∷ listed printed_expr bs (sign sg.CloseParen ∷ rest)

-- where the result of a call goes, if it is kept
abbrev pub printed_result : Option Ident → List Piece → List Piece
printed_result (Some x) rest = named x.name ∷ sign sg.Equal ∷ rest
printed_result None rest = rest

-- what a local begins with
abbrev pub printed_init : InitTree → List Piece → List Piece
printed_init nothing rest = rest
printed_init (value a) rest = sign sg.Equal ∷ printed_expr a rest
printed_init (called f bs) rest = sign sg.Equal ∷ printed_call f bs rest

-- what of a type stands before the name that has it
abbrev pub before_name : Ty → List Piece → List Piece
before_name Void rest = word w.Void ∷ rest
before_name (Int k) rest = kind_words k rest
before_name (Ptr k) rest = kind_words k (sign sg.Star ∷ rest)
before_name (Array k n) rest = kind_words k rest

-- what of a type stands behind the name that has it: an array's length
abbrev pub behind_name : Ty → List Piece → List Piece
behind_name (Array k n) rest = sign sg.OpenBracket ∷ plain_number n ∷ sign sg.CloseBracket ∷ rest
behind_name _ rest = rest

-- a local, an assignment or a call without its semicolon, as a part of a `for` has it
abbrev pub printed_part : StmtTree → List Piece → List Piece
printed_part (declare p ty x a) rest = before_name ty (named x.name ∷ behind_name ty (printed_init a rest))
printed_part (assign p target op a) rest = printed_target target (sign (assignment_sign op) ∷ printed_expr a rest)
printed_part (call p x f bs) rest = printed_result x (printed_call f bs rest)
printed_part _ rest = rest

-- a local, an assignment or a call
abbrev pub simple : StmtTree → List Piece → List Piece
simple a rest = printed_part a (end_of_line sg.Semicolon ∷ rest)

-- the first or the last part of a `for`, or nothing
abbrev pub printed_part_option : StmtOption → List Piece → List Piece
printed_part_option absent rest = rest
printed_part_option (present a) rest = printed_part a rest

-- an expression, or nothing
abbrev pub printed_optional : Option ExprTree → List Piece → List Piece
printed_optional None rest = rest
printed_optional (Some a) rest = printed_expr a rest

-- a `for` up to its body
abbrev pub for_head : (first : StmtOption) → Option ExprTree → (after : StmtOption) → List Piece → List Piece
for_head i c u rest =
    word w.For ∷ sign sg.OpenParen ∷ printed_part_option i
    (sign sg.Semicolon ∷ printed_optional c (sign sg.Semicolon ∷ printed_part_option u (sign sg.CloseParen ∷ rest)))

-- a statement that is a word alone
abbrev pub word_alone : Word → List Piece → List Piece
word_alone which rest = word which ∷ end_of_line sg.Semicolon ∷ rest

-- a statement of this word on a lock
abbrev pub of_lock : Word → Ident → List Piece → List Piece
of_lock which x rest = word which ∷ sign sg.OpenParen ∷ named x.name ∷ sign sg.CloseParen ∷ end_of_line sg.Semicolon ∷
    rest

abbrev mutual
  -- a statement
  pub printed_stmt : StmtTree → List Piece → List Piece
  printed_stmt (skip p) rest = end_of_line sg.Semicolon ∷ rest
  printed_stmt (declare p ty x a) rest = simple (declare p ty x a) rest
  printed_stmt (assign p target op a) rest = simple (assign p target op a) rest
  printed_stmt (call p x f bs) rest = simple (call p x f bs) rest
  printed_stmt (block p bs) rest = end_of_line sg.OpenBrace ∷ printed_stmts bs (end_of_line sg.CloseBrace ∷ rest)
  printed_stmt (if_ p c a b) rest =
      word_and w.If c (printed_stmt a (printed_else b rest))
  printed_stmt (while_ p c a) rest = word_and w.While c (printed_stmt a rest)
  printed_stmt (do_ p a c) rest =
      word w.Do ∷ printed_stmt a (word_and w.While c (end_of_line sg.Semicolon ∷ rest))
  printed_stmt (for_ p i c u a) rest = for_head i c u (printed_stmt a rest)
  printed_stmt (break_ p) rest = word_alone w.Break rest
  printed_stmt (continue_ p) rest = word_alone w.Continue rest
  printed_stmt (return_ p a) rest = word w.Return ∷ printed_optional a (end_of_line sg.Semicolon ∷ rest)
  printed_stmt (lock p x) rest = of_lock w.Lock x rest
  printed_stmt (unlock p x) rest = of_lock w.Unlock x rest
  printed_stmt (print p a) rest = word_and w.Print a (end_of_line sg.Semicolon ∷ rest)

  -- the second branch of an `if`, or nothing
  pub printed_else : StmtOption → List Piece → List Piece
  printed_else absent rest = rest
  printed_else (present a) rest = word w.Else ∷ printed_stmt a rest

  -- statements, one after another
  pub printed_stmts : StmtList → List Piece → List Piece
  printed_stmts no_more rest = rest
  printed_stmts (one_more a bs) rest = printed_stmt a (printed_stmts bs rest)

-- the statement in a box, or none
abbrev pub boxed_tree : Option (Box Stmt Global) → StmtOption
boxed_tree None = absent
boxed_tree (Some a) = present (stmt_tree a.value)
