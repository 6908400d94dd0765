-- What the code's trees and functions hold.
use Rattle.std.specs.Prelude.{ℕ, List, [], ◌∷◌, ◌+◌, length, map, Option, Some, None}
use Rattle.cas_base.specs.declared.decl.Form.{Form}
use Rattle.cas_base.specs.declared.decl.Form.TheVariants.{Function}
use Rattle.cas_runs.specs.Calls.{one_block}
use Rattle.cas_mid.specs.declared.tree.AddressOf.{AddressOf}
use Rattle.cas_mid.specs.declared.tree.StackAddress.{StackAddress}
use Rattle.cas_mid.specs.declared.tree.Expr.{Expr, Word, Temp, Own, Global, Element', Load', Unop', Binop', If'}
use Rattle.cas_mid.specs.declared.tree.Address.{Address}
use Rattle.cas_mid.specs.declared.tree.Address.TheVariants as address
use Rattle.cas_mid.specs.declared.tree.Stmt.{Stmt, Skip, Set, Store, Call, Seq', IfElse', Loop', Block', Exit, Return, Lock, Unlock, Print, Row_of-Stmt, end_of-Stmt, more_of-Stmt}
use Rattle.cas_mid.specs.declared.tree.CsharpFun.{CsharpFun}
use Rattle.cas_mid.specs.declared.tree.CminorFun.{CminorFun}
use Rattle.cas_mid.specs.Trees.{Expression, word, temporary, own, global, element, load, unop, binop, if_, Target, to_global, to_element, to_pointer, Statement, skip, set, store, call, seq, if_else, loop, block, exit, return_, lock, unlock, print, Statements, no_more, one_more, Routine}

module _ {A : Type 0} (number : A → ℕ) where
  -- an expression, where an address of own words is told by this number
  abbrev pub expression_of : Expr A → Expression
  expression_of (Word n) = word n
  expression_of (Temp t) = temporary t
  expression_of (Own a) = own (number a)
  expression_of (Global g) = global g
  expression_of (Element' g s p a) = element g s (expression_of a)
  expression_of (Load' p a) = load (expression_of a)
  expression_of (Unop' o p a) = unop o (expression_of a)
  expression_of (Binop' o p a q b) = binop o (expression_of a) (expression_of b)
  expression_of (If' p c q a r b) = if_ (expression_of c) (expression_of a) (expression_of b)

  -- what a store writes
  abbrev pub target_of : Address A → Target
  target_of (address.Global g) = to_global g
  target_of (address.Element g s a) = to_element g s (expression_of a)
  target_of (address.Pointer a) = to_pointer (expression_of a)

-- an expression that may be missing
abbrev pub optional : {E E' : Type 0} → (E' → E) → Option E' → Option E
optional e None = None
optional e (Some a) = Some (e a)

module _ {E M C E' M' C' : Type 0} (e : E' → E) (m : M' → M) (c : C' → C) where
  abbrev mutual
    -- a statement, by what its expressions, addresses and conditions hold
    pub statement_of : Stmt E' M' C' → Statement E M C
    statement_of Skip = skip
    statement_of (Set t a) = set t (e a)
    statement_of (Store to a) = store (m to) (e a)
    statement_of (Call t f args) = call t f (map e args)
    statement_of (Seq' shape all) = seq (statements_of all)
    statement_of (IfElse' test p a q b) = if_else (c test) (statement_of a) (statement_of b)
    statement_of (Loop' p a) = loop (statement_of a)
    statement_of (Block' p a) = block (statement_of a)
    statement_of (Exit n) = exit n
    statement_of (Return a) = return_ (optional e a)
    statement_of (Lock l) = lock l
    statement_of (Unlock l) = unlock l
    statement_of (Print a) = print (e a)

    pub statements_of : {n : _} → Row_of-Stmt E' M' C' n → Statements E M C
    statements_of end_of-Stmt = no_more
    statements_of (more_of-Stmt a rest) = one_more (statement_of a) (statements_of rest)

  -- the statements of a list, and then the rest
  abbrev pub list_of : List (Stmt E' M' C') → Statements E M C → Statements E M C
  list_of [] rest = rest
  list_of (a ∷ list) rest = one_more (statement_of a) (list_of list rest)

-- the number of parameters of what is declared
abbrev pub parameter_count : Form → ℕ
parameter_count (Function ret params holds) = length params
parameter_count _ = 0

-- the expressions of Csharpminor and of Cminor
abbrev pub csharp_expression : Expr AddressOf → Expression
csharp_expression = expression_of (λ a. a.0)

abbrev pub cminor_expression : Expr StackAddress → Expression
cminor_expression = expression_of (λ a. a.0)

abbrev pub csharp_statement :
    Stmt (Expr AddressOf) (Address AddressOf) (Expr AddressOf) → Statement Expression Target Expression
csharp_statement =
    statement_of (expression_of (λ a. a.0)) (target_of (λ a. a.0)) (expression_of (λ a. a.0))

abbrev pub csharp_list :
    List (Stmt (Expr AddressOf) (Address AddressOf) (Expr AddressOf))
    → Statements Expression Target Expression → Statements Expression Target Expression
csharp_list = list_of (expression_of (λ a. a.0)) (target_of (λ a. a.0)) (expression_of (λ a. a.0))

abbrev pub cminor_statement :
    Stmt (Expr StackAddress) (Address StackAddress) (Expr StackAddress) → Statement Expression Target Expression
cminor_statement =
    statement_of (expression_of (λ a. a.0)) (target_of (λ a. a.0)) (expression_of (λ a. a.0))

abbrev pub cminor_list :
    List (Stmt (Expr StackAddress) (Address StackAddress) (Expr StackAddress))
    → Statements Expression Target Expression → Statements Expression Target Expression
cminor_list = list_of (expression_of (λ a. a.0)) (target_of (λ a. a.0)) (expression_of (λ a. a.0))

-- what a store of Csharpminor and of Cminor writes
abbrev pub csharp_target : Address AddressOf → Target
csharp_target = target_of (λ a. a.0)

abbrev pub cminor_target : Address StackAddress → Target
cminor_target = target_of (λ a. a.0)

-- Csharpminor's functions have their variables as names too
abbrev pub csharp_routine : CsharpFun → Routine Expression Target Expression
csharp_routine f = record {
  name = f.decl.name;
  parameters = parameter_count f.decl.form;
  blocks = f.vars;
  temporaries = f.temps;
  names = f.temps + length f.vars;
  body = csharp_statement f.body;
}

abbrev pub cminor_routine : CminorFun → Routine Expression Target Expression
cminor_routine f = record {
  name = f.decl.name;
  parameters = parameter_count f.decl.form;
  blocks = one_block f.block;
  temporaries = f.temps;
  names = f.temps;
  body = cminor_statement f.body;
}
