-- The canonical tokens of expressions. Each function puts those of a tree before the tokens `rest`.
use Rattle.std.specs.Prelude.{ℕ, ◌+◌, Bool, true, false, nat_lt, List, [], ◌∷◌}
use Rattle.cas_base.specs.declared.kind.Kind.{Kind}
use Rattle.cas_base.specs.declared.kind.Kind.TheVariants.{I8, U8, I16, U16, I32, U32}
use Rattle.cas_lex.specs.declared.token.Word.TheVariants as w
use Rattle.cas_lex.specs.declared.token.Sign.{Sign}
use Rattle.cas_lex.specs.declared.token.Sign.TheVariants as sg
use Rattle.cas_syntax.specs.Tree.{ExprTree, literal, name, index, deref, address, address_index, unary, cast, binary, and_also, or_else, conditional}
use Rattle.cas_syntax.specs.Operators.{Infix, always_both, logical_and, logical_or, level, infix_sign, unary_sign}
use Rattle.cas_print.specs.Pieces.{Piece, word, sign, named, number}

-- the words of a kind
abbrev pub kind_words : Kind → List Piece → List Piece
kind_words I8 rest = word w.Char ∷ rest
kind_words U8 rest = word w.Unsigned ∷ word w.Char ∷ rest
kind_words I16 rest = word w.Short ∷ rest
kind_words U16 rest = word w.Unsigned ∷ word w.Short ∷ rest
kind_words I32 rest = word w.Int ∷ rest
kind_words U32 rest = word w.Unsigned ∷ rest

-- in parentheses, or without
abbrev pub enclosed : (in_parentheses : Bool) → (List Piece → List Piece) → List Piece → List Piece
enclosed true inner rest = sign sg.OpenParen ∷ inner (sign sg.CloseParen ∷ rest)
enclosed false inner rest = inner rest

-- in parentheses where the outermost operator, of the level `found`, binds less tightly than its place asks
abbrev pub at_level : (asked found : ℕ) → (List Piece → List Piece) → List Piece → List Piece
at_level asked found inner rest = enclosed (nat_lt found asked) inner rest

-- in brackets
abbrev pub in_brackets : (List Piece → List Piece) → List Piece → List Piece
in_brackets inner rest = sign sg.OpenBracket ∷ inner (sign sg.CloseBracket ∷ rest)

-- how tightly the outermost operator of an expression binds
abbrev pub outermost : ExprTree → ℕ
outermost (binary op a b) = level (always_both op)
outermost (and_also a b) = level logical_and
outermost (or_else a b) = level logical_or
outermost (conditional c a b) = 1
outermost _ = 12

-- an operand behind a sign
abbrev pub prefixed : Sign → (found : ℕ) → (List Piece → List Piece) → List Piece → List Piece
prefixed by found operand rest = sign by ∷ at_level 12 found operand rest

-- an operand behind a kind in parentheses
abbrev pub converted : Kind → (found : ℕ) → (List Piece → List Piece) → List Piece → List Piece
converted k found operand rest = sign sg.OpenParen ∷ kind_words k (sign sg.CloseParen ∷ at_level 12 found operand rest)

-- an operator between two operands; the right one binds more tightly, since all these operators go to the left
abbrev pub between : Infix → (found_left : ℕ) → (List Piece → List Piece) → (found_right : ℕ) →
    (List Piece → List Piece) → List Piece → List Piece
between op found_left left found_right right rest =
    at_level (level op) found_left left (sign (infix_sign op) ∷ at_level (level op + 1) found_right right rest)

-- an expression
abbrev pub printed_expr : ExprTree → List Piece → List Piece
printed_expr (literal n k) rest = number n k ∷ rest
printed_expr (name x) rest = named x.name ∷ rest
printed_expr (index x a) rest = named x.name ∷ in_brackets (printed_expr a) rest
printed_expr (deref a) rest = prefixed sg.Star (outermost a) (printed_expr a) rest
printed_expr (address x) rest = sign sg.And ∷ named x.name ∷ rest
printed_expr (address_index x a) rest = sign sg.And ∷ named x.name ∷ in_brackets (printed_expr a) rest
printed_expr (unary op a) rest = prefixed (unary_sign op) (outermost a) (printed_expr a) rest
printed_expr (cast k a) rest = converted k (outermost a) (printed_expr a) rest
printed_expr (binary op a b) rest = between (always_both op) (outermost a) (printed_expr a) (outermost b)
    (printed_expr b) rest
printed_expr (and_also a b) rest = between logical_and (outermost a) (printed_expr a) (outermost b) (printed_expr b)
    rest
printed_expr (or_else a b) rest = between logical_or (outermost a) (printed_expr a) (outermost b) (printed_expr b) rest
printed_expr (conditional c a b) rest =
    at_level 2 (outermost c) (printed_expr c) (sign sg.Question ∷ printed_expr a (sign sg.Colon ∷ printed_expr b rest))

-- each of these behind a comma
abbrev pub behind_commas : {A : Type 0} → (A → List Piece → List Piece) → List A → List Piece → List Piece
behind_commas printed [] rest = rest
behind_commas printed (a ∷ bs) rest = sign sg.Comma ∷ printed a (behind_commas printed bs rest)

-- these with commas between
abbrev pub listed : {A : Type 0} → (A → List Piece → List Piece) → List A → List Piece → List Piece
listed printed [] rest = rest
listed printed (a ∷ bs) rest = printed a (behind_commas printed bs rest)
