-- What Selection makes of each form of Cminor. Statements stay as they are; expressions are made from the inside out.
use Rattle.std.specs.Prelude.{◌||◌, Bool, true, false, not, map, Option, Some, None, if◌then◌else◌}
use Rattle.cas_syntax.specs.declared.tree.UnaryOperator.TheVariants.{Not}
use Rattle.cas_mid.specs.declared.tree.Unop.TheVariants.{OnWord}
use Rattle.cas_mid.specs.Trees as cminor
use Rattle.cas_mid.specs.Trees.{Expression, Target, Statement, skip, set, store, call, seq, if_else, loop, block, exit, return_, lock, unlock, print, Statements, no_more, one_more, Routine}
use Rattle.cas_mid.specs.Code.{optional}
use Rattle.cas_sel.specs.Trees as sel
use Rattle.cas_sel.specs.Trees.{Expr, Test, Address}
use Rattle.cas_select.specs.Operators.{constant, stack_address, made_unop, made_binop}
use Rattle.cas_select.specs.Addresses.{first_word, element, address, load_at}
use Rattle.cas_select.specs.Conditions.{agreeing, value_test, binop_test, made_if, made_if_test, is_condition, agrees}

abbrev mutual
  -- an expression
  pub made : Expression → Expr
  made (cminor.word n) = constant n
  made (cminor.temporary t) = sel.temporary t
  made (cminor.own offset) = stack_address offset
  made (cminor.global g) = load_at (first_word g)
  made (cminor.element g s a) = load_at (element g s (made a))
  made (cminor.load a) = load_at (address (made a))
  made (cminor.unop o a) = made_unop o (made a)
  made (cminor.binop o a b) = made_binop o (made a) (made b)
  made (cminor.if_ c a b) = made_if (made_test true c) (made a) (made b)

  -- the condition that an expression is true, or, where that is meant, that it is false
  pub made_test : (meant : Bool) → Expression → Test
  made_test meant (cminor.word n) = value_test meant (constant n)
  made_test meant (cminor.temporary t) = value_test meant (sel.temporary t)
  made_test meant (cminor.own offset) = value_test meant (stack_address offset)
  made_test meant (cminor.global g) = value_test meant (load_at (first_word g))
  made_test meant (cminor.element g s a) = value_test meant (load_at (element g s (made a)))
  made_test meant (cminor.load a) = value_test meant (load_at (address (made a)))
  made_test meant (cminor.unop (OnWord Not) a) = made_test (not meant) a
  made_test meant (cminor.unop o a) = value_test meant (made_unop o (made a))
  made_test meant (cminor.binop o a b) = binop_test meant o (made a) (made b)
  made_test meant (cminor.if_ c a b) = elim (agrees a b) [
    | Some is ↦ made_test (agreeing is meant) c
    | None ↦ if is_condition a || is_condition b
        then made_if_test (made_test true c) (made_test meant a) (made_test meant b)
        else value_test meant (made_if (made_test true c) (made a) (made b))
  ]

-- a condition
abbrev pub made_condition : Expression → Test
made_condition c = made_test true c

-- what a store writes
abbrev pub made_address : Target → Address
made_address (cminor.to_global g) = first_word g
made_address (cminor.to_element g s a) = element g s (made a)
made_address (cminor.to_pointer a) = address (made a)

abbrev mutual
  -- a statement, of its parts
  pub made_statement : Statement Expression Target Expression → sel.Statement
  made_statement skip = skip
  made_statement (set t a) = set t (made a)
  made_statement (store m a) = store (made_address m) (made a)
  made_statement (call t name args) = call t name (map made args)
  made_statement (seq bs) = seq (made_statements bs)
  made_statement (if_else c a b) = if_else (made_condition c) (made_statement a) (made_statement b)
  made_statement (loop a) = loop (made_statement a)
  made_statement (block a) = block (made_statement a)
  made_statement (exit n) = exit n
  made_statement (return_ a) = return_ (optional made a)
  made_statement (lock name) = lock name
  made_statement (unlock name) = unlock name
  made_statement (print a) = print (made a)

  pub made_statements : Statements Expression Target Expression → sel.Statements
  made_statements no_more = no_more
  made_statements (one_more a bs) = one_more (made_statement a) (made_statements bs)

-- a function
abbrev pub made_routine : Routine Expression Target Expression → sel.Routine
made_routine r = record {
  name = r.name;
  parameters = r.parameters;
  blocks = r.blocks;
  temporaries = r.temporaries;
  names = r.names;
  body = made_statement r.body;
}
