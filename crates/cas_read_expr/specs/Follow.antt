-- What a function that reads tells of the machine. The limits are asked of every token.
use Rattle.std.specs.Prelude.{◌≡◌, ℕ, Bool, true, false, List, [], ◌∷◌, length, map, Option, Some, None, Result, Ok, Err}
use Rattle.cas_base.specs.declared.place.Place.{Place}
use Rattle.cas_lex.specs.declared.code.ReadCode.TheVariants.{R6}
use Rattle.cas_lex.specs.declared.token.Token.{Token}
use Rattle.cas_lex.specs.declared.token.TokenKind.{TokenKind}
use Rattle.cas_lex.specs.declared.token.TokenKind.TheVariants as k
use Rattle.cas_lex.specs.declared.token.Sign.{Sign}
use Rattle.cas_lex.specs.declared.token.Sign.TheVariants as sg
use Rattle.cas_syntax.specs.declared.tree.UnaryOperator.TheVariants as u
use Rattle.cas_syntax.specs.Operators.{Infix, always_both, logical_and, logical_or}
use Rattle.cas_syntax.specs.Reading.{within}
use Rattle.cas_syntax.specs.Tokens.{is_opening_paren}
use Rattle.cas_syntax.specs.Tree.{expr_tree}
use Rattle.cas_read_expr.specs.declared.operator.Infix as o
use Rattle.cas_read_expr.specs.declared.operator.Infix.TheVariants as ov
use Rattle.cas_read_expr.specs.declared.operator.Prefix as o'
use Rattle.cas_read_expr.specs.declared.operator.Prefix.TheVariants as pv
use Rattle.cas_read_expr.specs.declared.call.Value.{Value}
use Rattle.cas_read_expr.specs.declared.call.Value.TheVariants as vv
use Rattle.cas_read_expr.specs.declared.stop.Stop.{Stop}
use Rattle.cas_read_expr.specs.declared.stop.Stop.TheVariants.{Memory, At}
use Rattle.cas_parse.specs.Frames.{Control, Given, Frame, ValueOf, Prefix, Operates, Points, Casts, Receiver, Keeps}
use Rattle.cas_parse.specs.Machine.{Verdict, Outcome, finish, shift, go, begins_kind, require, counted, resulted, is, is_else}

-- the machine's verdict on tokens
abbrev pub verdict : List Token → Control → List Frame → Verdict
verdict [] c st = finish c
verdict (t ∷ rest) c st = go (verdict rest) (length rest) (shift (within 0) false false t c st)

-- the verdict where these tokens are left behind the one that was taken
abbrev pub taken : List Token → Outcome → Verdict
taken rest o = go (verdict rest) (length rest) o

-- the verdict where the first token is taken so
abbrev pub takes : List Token → (Place → TokenKind → Outcome) → Verdict
takes [] o = Err (record { code = R6; left = 0 })
takes (t ∷ rest) o = taken rest (o t.place t.kind)

-- what an answer that isn't what was read says of a verdict
abbrev pub Fails : Stop → Verdict → Type 0
Fails Memory v = Unit {0}
Fails (At code left) v = v ≡ Err (record { code = code; left = left })

-- the verdict is that on what was read and what is left, or the fault, but where memory ran out
abbrev pub Follows : {X : Type 0} → Result X Stop → Verdict → (X → Verdict) → Type 0
Follows (Ok x) v next = v ≡ next x
Follows (Err e) v next = Fails e v

-- a value beside what was read behind it
abbrev pub kept : {X Y : Type 0} → X → Result Y Stop → Result (X × Y) Stop
kept x (Ok y) = Ok (x, y)
kept x (Err e) = Err e

-- the operators of the code, as the machine has them

abbrev pub infix_shape : o.Infix → Infix
infix_shape (ov.Both op) = always_both op
infix_shape ov.And = logical_and
infix_shape ov.Or = logical_or

abbrev pub infix_shapes : Option o.Infix → Option Infix
infix_shapes None = None
infix_shapes (Some op) = Some (infix_shape op)

abbrev pub prefix_shape : o'.Prefix → Prefix
prefix_shape (pv.Operates op) = Operates op
prefix_shape pv.Points = Points
prefix_shape (pv.Casts kd) = Casts kd

abbrev pub prefix_shapes : Option o'.Prefix → Option Prefix
prefix_shapes None = None
prefix_shapes (Some f) = Some (prefix_shape f)

-- what a token is that stands alone before an operand, but for `&`
abbrev pub prefix_of : TokenKind → Option Prefix
prefix_of (k.Sign sg.Minus) = Some (Operates u.Neg)
prefix_of (k.Sign sg.Plus) = Some (Operates u.Plus)
prefix_of (k.Sign sg.Tilde) = Some (Operates u.BitNot)
prefix_of (k.Sign sg.Not) = Some (Operates u.Not)
prefix_of (k.Sign sg.Star) = Some Points
prefix_of _ = None

-- whether words are counted
abbrev pub are_counted : Option ℕ → Bool
are_counted None = false
are_counted (Some n) = true

-- whether the first token begins the words of a kind
abbrev pub next_begins_kind : List Token → Bool
next_begins_kind [] = false
next_begins_kind (t ∷ rest) = begins_kind t.kind

-- the verdict where a sign has to stand that counts among so many tokens of an outermost expression
abbrev pub closes : Sign → ℕ → List Token → Control → List Frame → Verdict
closes s b [] c st = Err (record { code = R6; left = 0 })
closes s b (t ∷ rest) c st = taken rest (require s t.kind (counted (within 0) false false b (Ok (c, st))))

-- whether the first token is `(`
abbrev pub next_opens : List Token → Bool
next_opens [] = false
next_opens (t ∷ rest) = is_opening_paren t.kind

-- the verdict where a value stands behind which these tokens are left
abbrev pub has_value : List Token → Receiver → Value → List Frame → Verdict
has_value ts r (vv.Expr x) st = verdict ts (Given 0 (expr_tree x)) (ValueOf r ∷ st)
has_value ts r (vv.Call f xs) st = verdict ts (resulted (Keeps r f) (map expr_tree xs)) st

-- whether the first token is this sign, which is one of those that have to stand somewhere
abbrev pub next_is : Sign → List Token → Bool
next_is s [] = false
next_is s (t ∷ rest) = is s t.kind

-- whether the first token is `else`
abbrev pub next_is_else : List Token → Bool
next_is_else [] = false
next_is_else (t ∷ rest) = is_else (within 0) false false t.kind

-- whether a token is `}`
abbrev pub is_closing_brace : TokenKind → Bool
is_closing_brace (k.Sign sg.CloseBrace) = true
is_closing_brace _ = false
