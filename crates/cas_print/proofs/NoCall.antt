-- A printed expression doesn't begin as a call does.
use Rattle.std.proofs.Common.{◌≡◌, ℕ, ◌+◌, List, [], ◌∷◌, Bool, false, refl}
use Rattle.cas_base.specs.declared.place.Place.{Place}
use Rattle.cas_lex.specs.declared.token.Sign.TheVariants as sg
use Rattle.cas_lex.specs.declared.token.Token.{Token}
use Rattle.cas_syntax.specs.Operators.{Infix, always_both, logical_and, logical_or, level, infix_sign, unary_sign}
use Rattle.cas_syntax.specs.declared.tree.BinaryOperator.TheVariants.{Add}
use Rattle.cas_syntax.specs.Statements.{MayBeValue}
use Rattle.cas_syntax.specs.Tokens.{is_name, is_opening_paren, begins_call}
use Rattle.cas_syntax.specs.Tree.{ExprTree, literal, name, index, deref, address, address_index, unary, cast, binary, and_also, or_else, conditional, TargetTree, to_name, to_index, to_deref}
use Rattle.cas_print.specs.Pieces.{Piece, sign, named, number, kind_of}
use Rattle.cas_print.specs.Expressions.{in_brackets, at_level, outermost, between, printed_expr}
use Rattle.cas_print.proofs.Levels.{at_level-either}
use Rattle.cas_print.proofs.Placed.{placed}

-- whether pieces begin with `(`
abbrev pub opens : List Piece → Bool
opens [] = false
opens (p ∷ ps) = is_opening_paren (kind_of p)

-- what begins with another token than a name
other_first : (at : List Piece → Place) (p : Piece) (ps : List Piece) → is_name (kind_of p) ≡ false →
    begins_call (placed at (p ∷ ps)) ≡ false
other_first at p [] h = refl
other_first at p (q ∷ ps) h = rw h refl

-- a name with no `(` behind it
name_first : (at : List Piece → Place) (x : List ℕ) (ps : List Piece) → opens ps ≡ false →
    begins_call (placed at (named x ∷ ps)) ≡ false
name_first at x [] h = refl
name_first at x (q ∷ ps) h = h

-- where no `(` follows, the pieces begin no call
abbrev BeginsNoCall : (List Piece → Place) → (List Piece → List Piece) → Type 0
BeginsNoCall at inner = (rest : List Piece) → opens rest ≡ false → begins_call (placed at (inner rest)) ≡ false

leveled : (at : List Piece → Place) (l : ℕ) (a : ExprTree) → BeginsNoCall at (printed_expr a) →
    BeginsNoCall at (at_level l (outermost a) (printed_expr a))
leveled at l a inner =
    at_level-either (BeginsNoCall at) l (outermost a) (printed_expr a)
    (λ rest h. other_first at (sign sg.OpenParen) _ refl) (λ low. inner)

infix_opens_nothing : (op : Infix) → is_opening_paren (kind_of (sign (infix_sign op))) ≡ false
infix_opens_nothing (always_both Add) = refl
infix_opens_nothing _ = refl

both : (at : List Piece → Place) (op : Infix) (a b : ExprTree) → BeginsNoCall at (printed_expr a) →
    BeginsNoCall at (between op (outermost a) (printed_expr a) (outermost b) (printed_expr b))
both at op a b left rest h =
    leveled at (level op) a left (sign (infix_sign op) ∷ at_level (level op + 1) (outermost b) (printed_expr b) rest)
    (infix_opens_nothing op)

pub no_call : (at : List Piece → Place) (a : ExprTree) → BeginsNoCall at (printed_expr a)
no_call at (literal n k) rest h = other_first at (number n k) rest refl
no_call at (name x) rest h = name_first at x.name rest h
no_call at (index x a) rest h = name_first at x.name (in_brackets (printed_expr a) rest) refl
no_call at (deref a) rest h = other_first at (sign sg.Star) _ refl
no_call at (address x) rest h = other_first at (sign sg.And) (named x.name ∷ rest) refl
no_call at (address_index x a) rest h = other_first at (sign sg.And) (named x.name ∷ in_brackets (printed_expr a) rest)
    refl
no_call at (unary op a) rest h = other_first at (sign (unary_sign op)) _ refl
no_call at (cast k a) rest h = other_first at (sign sg.OpenParen) _ refl
no_call at (binary op a b) rest h = both at (always_both op) a b (no_call at a) rest h
no_call at (and_also a b) rest h = both at logical_and a b (no_call at a) rest h
no_call at (or_else a b) rest h = both at logical_or a b (no_call at a) rest h
no_call at (conditional c a b) rest h = leveled at 2 c (no_call at c)
    (sign sg.Question ∷ printed_expr a (sign sg.Colon ∷ printed_expr b rest)) refl

-- what begins no call may be the value of any target
pub may_be_value : (target : TargetTree) (tokens : List Token) → begins_call tokens ≡ false → MayBeValue target tokens
may_be_value (to_name x) tokens h = h
may_be_value (to_index x a) tokens h = tt
may_be_value (to_deref a) tokens h = tt
