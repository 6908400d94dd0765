-- The trees of Csharpminor and Cminor as plain data: what definitions and contracts speak of.
use Rattle.std.specs.Prelude.{ℕ, List, Option}
use Rattle.cas_runs.specs.Label.{NameBytes}
use Rattle.cas_typed.specs.declared.tree.Signedness.{Signedness}
use Rattle.cas_mid.specs.declared.tree.Unop.{Unop}
use Rattle.cas_mid.specs.declared.tree.Binop.{Binop}

-- an expression
pub data Expression : Type 0 where
  word : ℕ → Expression
  temporary : ℕ → Expression
  -- the address of a variable, by its number, or of a word of the block, by its offset
  own : ℕ → Expression
  global : NameBytes → Expression
  element : NameBytes → Signedness → (index : Expression) → Expression
  load : (pointer : Expression) → Expression
  unop : Unop → Expression → Expression
  binop : Binop → Expression → Expression → Expression
  if_ : Expression → Expression → Expression → Expression

-- what a store writes
pub data Target : Type 0 where
  to_global : NameBytes → Target
  to_element : NameBytes → Signedness → (index : Expression) → Target
  to_pointer : Expression → Target

mutual
  -- a statement over expressions, addresses and conditions
  pub data Statement (E M C : Type 0) : Type 0 where
    skip : Statement E M C
    set : (temporary : ℕ) → E → Statement E M C
    store : M → E → Statement E M C
    call : Option ℕ → NameBytes → List E → Statement E M C
    seq : Statements E M C → Statement E M C
    if_else : C → Statement E M C → Statement E M C → Statement E M C
    loop : Statement E M C → Statement E M C
    block : Statement E M C → Statement E M C
    -- leaves this many blocks and one more
    exit : ℕ → Statement E M C
    return_ : Option E → Statement E M C
    lock : NameBytes → Statement E M C
    unlock : NameBytes → Statement E M C
    print : E → Statement E M C

  -- statements, one after another
  pub data Statements (E M C : Type 0) : Type 0 where
    no_more : Statements E M C
    one_more : Statement E M C → Statements E M C → Statements E M C

-- a function. Its names are what entries and weights count besides the parameters
pub record Routine (E M C : Type 0) : Type 0 where
  pub name : NameBytes
  pub parameters : ℕ
  pub blocks : List ℕ
  pub temporaries : ℕ
  pub names : ℕ
  pub body : Statement E M C
