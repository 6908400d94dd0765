-- What tokens whose literals are words spell is formed: expressions.
use Rattle.std.proofs.Common.{ℕ, List}
use Rattle.cas_base.specs.declared.kind.Kind.{Kind}
use Rattle.cas_lex.specs.declared.token.Token.{Token}
use Rattle.cas_lex.specs.declared.token.Word.{Word}
use Rattle.cas_syntax.specs.Expressions as e
use Rattle.cas_syntax.specs.Expressions.{Perhaps, SpellsKind, Spells, SpellsExpr, SpellsExprs, SpellsArguments}
use Rattle.cas_syntax.specs.Limits.{Limits}
use Rattle.cas_syntax.specs.Operators.{Infix, always_both, logical_and, logical_or, joined}
use Rattle.cas_syntax.specs.Tree.{ExprTree}
use Rattle.cas_typed.specs.Formed.{ExprIsFormed, ExprsAreFormed}
use Rattle.cas_typed.proofs.Token_words.{HaveWords, first_of, rest_of}

-- this holds of what was spelled, and the literals behind it are words
pub record Formed (A : Type 0) (r : List Token) : Type 0 where
  pub is : A
  pub rest : HaveWords r

perhaps_rest : {w : Word} {s r : List Token} → Perhaps w s r → HaveWords s → HaveWords r
perhaps_rest (e.without r) h = h
perhaps_rest (e.with_it p r) h = rest_of h

pub kind_rest : {k : Kind} {s r : List Token} → SpellsKind k s r → HaveWords s → HaveWords r
kind_rest (e.char p s r x) h = rest_of (perhaps_rest x h)
kind_rest (e.unsigned_char p q r) h = rest_of (rest_of h)
kind_rest (e.short p s t r x y) h = perhaps_rest y (rest_of (perhaps_rest x h))
kind_rest (e.unsigned_short p q t r x) h = perhaps_rest x (rest_of (rest_of h))
kind_rest (e.int p r) h = rest_of h
kind_rest (e.signed p t r x) h = perhaps_rest x (rest_of h)
kind_rest (e.unsigned p t r x) h = perhaps_rest x (rest_of h)

joined_formed : (op : Infix) (a b : ExprTree) → ExprIsFormed a → ExprIsFormed b → ExprIsFormed (joined op a b)
joined_formed (always_both op) a b h h' = (h, h')
joined_formed logical_and a b h h' = (h, h')
joined_formed logical_or a b h h' = (h, h')

pub spelled : {limits : Limits} {l : ℕ} {a : ExprTree} {s r : List Token} → Spells limits l a s r → HaveWords s →
    Formed (ExprIsFormed a) r
spelled (e.a_literal l n k p r) h = record { is = first_of h; rest = rest_of h }
spelled (e.a_name l x r) h = record { is = tt; rest = rest_of h }
spelled (e.an_element l x a p q s r sa) h = let b = spelled sa (rest_of (rest_of h)) in
    record { is = b.is; rest = rest_of b.rest }
spelled (e.in_parentheses l a p q s r sa) h = let b = spelled sa (rest_of h) in
    record { is = b.is; rest = rest_of b.rest }
spelled (e.an_operand_of l op a p s r sa) h = let b = spelled sa (rest_of h) in record { is = b.is; rest = b.rest }
spelled (e.what_is_pointed_to l a p s r sa) h = let b = spelled sa (rest_of h) in record { is = b.is; rest = b.rest }
spelled (e.an_address l x p r) h = record { is = tt; rest = rest_of (rest_of h) }
spelled (e.an_address_of_element l x a o p q s r sa) h = let b =
    spelled sa (rest_of (rest_of (rest_of h))) in record { is = b.is; rest = rest_of b.rest }
spelled (e.a_cast l k a p q s t r sk sa) h = let b = spelled sa (rest_of (kind_rest sk (rest_of h))) in
    record { is = b.is; rest = b.rest }
spelled (e.two_operands l op a b p s t r le sa sb) h =
    let c = spelled sa h in
    let d = spelled sb (rest_of c.rest) in
    record { is = joined_formed op a b c.is d.is; rest = d.rest }
spelled (e.a_choice l c a b p q s t u r le sc sa sb) h =
    let x = spelled sc h in
    let y = spelled sa (rest_of x.rest) in
    let z = spelled sb (rest_of y.rest) in
    record { is = (x.is, y.is, z.is); rest = z.rest }
spelled (e.a_call l x p r out) h = record { is = tt; rest = rest_of (rest_of h) }
spelled (e.a_call_of_address l x o p r out) h = record { is = tt; rest = rest_of (rest_of (rest_of h)) }

pub expr_formed : {limits : Limits} {a : ExprTree} {s r : List Token} → SpellsExpr limits a s r → HaveWords s →
    Formed (ExprIsFormed a) r
expr_formed (e.outermost a s r allowed h) = spelled h

exprs_formed : {limits : Limits} {args : List ExprTree} {s r : List Token} → SpellsExprs limits args s r → HaveWords s →
    Formed (ExprsAreFormed args) r
exprs_formed (e.last_of a s r sa) h = let b = expr_formed sa h in record { is = (b.is, tt); rest = b.rest }
exprs_formed (e.one_of a bs p s t r sa sbs) h =
    let c = expr_formed sa h in
    let ds = exprs_formed sbs (rest_of c.rest) in
    record { is = (c.is, ds.is); rest = ds.rest }

pub arguments_formed : {limits : Limits} {args : List ExprTree} {s r : List Token} → SpellsArguments limits args s r →
    HaveWords s → Formed (ExprsAreFormed args) r
arguments_formed (e.no_arguments r) h = record { is = tt; rest = h }
arguments_formed (e.arguments bs s r sbs) h = exprs_formed sbs h
