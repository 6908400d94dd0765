-- What the machine does with a target, with what it is given, and with a local, before it sees the next token.
use Rattle.std.proofs.Common.{◌≡◌, ℕ, List, [], ◌∷◌, true, refl, Option, None}
use Rattle.cas_base.specs.declared.place.Place.{Place}
use Rattle.cas_base.specs.declared.kind.Kind.{Kind}
use Rattle.cas_lex.specs.declared.token.Token.{Token}
use Rattle.cas_lex.specs.declared.token.Sign.TheVariants as sg
use Rattle.cas_syntax.specs.declared.tree.Ident.{Ident}
use Rattle.cas_syntax.specs.declared.tree.BinaryOperator.{BinaryOperator}
use Rattle.cas_syntax.specs.declared.tree.Expr.{Expr}
use Rattle.cas_base.specs.declared.kind.Ty.{Ty}
use Rattle.cas_read_expr.specs.declared.call.Value.TheVariants as vv
use Rattle.cas_syntax.specs.Tree.{ExprTree, TargetTree, to_name, to_index, to_deref, expr_tree, value, assign, declare, StmtTree, StmtList}
use Rattle.cas_parse.specs.Frames.{Assigned, Begun, Use, Frame, TargetBehind, TargetIndex, AssignedTo, Locals, Given, HaveLocal, Expect, HaveSimple}
use Rattle.cas_parse.specs.Machine.{reached, in_locals, snoc}
use Rattle.cas_read_expr.specs.Follow.{verdict, takes, has_value}

pub given_target_behind : (ts : List Token) (b : ℕ) (x : ExprTree) (usage : Use) (st : List Frame) →
    verdict ts (Given b x) (TargetBehind usage ∷ st) ≡ verdict ts
    (Expect true sg.CloseParen (reached usage (to_deref x) st).0) (reached usage (to_deref x) st).1
given_target_behind [] b x usage st = refl
given_target_behind (t ∷ ts) b x usage st = refl

pub given_target_index : (ts : List Token) (b : ℕ) (x : ExprTree) (usage : Use) (i : Ident) (st : List Frame) →
    verdict ts (Given b x) (TargetIndex usage i ∷ st) ≡ verdict ts
    (Expect true sg.CloseBracket (reached usage (to_index i x) st).0) (reached usage (to_index i x) st).1
given_target_index [] b x usage i st = refl
given_target_index (t ∷ ts) b x usage i st = refl

pub given_assigned : (ts : List Token) (b : ℕ) (x : ExprTree) (p : Place) (target : TargetTree)
    (op : Option BinaryOperator) (st : List Frame) → verdict ts (Given b x) (AssignedTo p target op ∷ st) ≡ verdict ts
    (HaveSimple (assign p target op x)) st
given_assigned [] b x p target op st = refl
given_assigned (t ∷ ts) b x p target op st = refl

pub assigned_value : (ts : List Token) (x : Expr) (i : Ident) (st : List Frame) →
    has_value ts (Assigned i) (vv.Expr x) st ≡ verdict ts (HaveSimple (assign i.place (to_name i) None (expr_tree x)))
    st
assigned_value [] x i st = refl
assigned_value (t ∷ ts) x i st = refl

pub begun_value : (ts : List Token) (x : Expr) (ty : Ty) (i : Ident) (st : List Frame) →
    has_value ts (Begun ty i) (vv.Expr x) st ≡ verdict ts (HaveLocal (declare i.place ty i (value (expr_tree x)))) st
begun_value [] x ty i st = refl
begun_value (t ∷ ts) x ty i st = refl

pub had_local : (ts : List Token) (a : StmtTree) (n : ℕ) (kd : Kind) (bs : StmtList) (st : List Frame) →
    verdict ts (HaveLocal a) (Locals n kd bs ∷ st) ≡ takes ts (λ p kind. in_locals n kd (snoc bs a) st kind)
had_local [] a n kd bs st = refl
had_local (t ∷ ts) a n kd bs st = refl
