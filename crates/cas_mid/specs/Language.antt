-- The language of statements, which each language up to CminorSel is, over its expressions, addresses and conditions.
use Rattle.std.specs.Prelude.{ℕ, zero, suc, nat_lt, Bool, List, [], ◌∷◌, ◌++◌, length, Option, Some, None, slice_set, if◌then◌else◌}
use Rattle.cas_runs.specs.Label.{NameBytes}
use Rattle.cas_runs.specs.Naming.{Home, Value, Number}
use Rattle.cas_runs.specs.Bounds.{Tariff, ByForms}
use Rattle.cas_runs.specs.Access.{Accesses, Writes, Stores, Then, Fails}
use Rattle.cas_runs.specs.Calls.{Last, Goes, Takes, Gives, Puts, Calls, Returns, Activations, so_many}
use Rattle.cas_mid.specs.declared.price.TheConstants.{ARGUMENT, PLAIN, STORE, IF_ELSE, LOOP, CALL, RETURN, LOCK, PRINT, ENTRY}
use Rattle.cas_mid.specs.Trees.{Statement, skip, set, store, call, seq, if_else, loop, block, exit, return_, lock, unlock, print, Statements, no_more, one_more, Routine}
use Rattle.cas_mid.specs.Operators.{on_word, either}

-- what is left to do: a statement to begin, and the end of a Block
pub data Item (E M C : Type 0) : Type 0 where
  begin : Statement E M C → Item E M C
  end_block : Item E M C

abbrev pub Continuation : (E M C : Type 0) → Type 0
Continuation E M C = List (Item E M C)

-- what expressions see: their function, the activation's serial number, and its temporaries
pub record Frame : Type 0 where
  pub function : NameBytes
  pub serial : ℕ
  pub temporaries : List Value

-- where an activation is
pub record State (E M C : Type 0) : Type 0 where
  pub frame : Frame
  pub continuation : Continuation E M C

-- a word of a global or of a block
pub data Location : Type 0 where
  in_global : (global : NameBytes) → (offset : ℕ) → Location
  in_block : (home : Home) → (place : ℕ) → Location

-- these statements, then the rest
abbrev pub begin_all : {E M C : Type 0} → Statements E M C → Continuation E M C → Continuation E M C
begin_all no_more rest = rest
begin_all (one_more a bs) rest = begin a ∷ begin_all bs rest

-- what follows this many ends of Blocks and one more
abbrev pub after_exit : {E M C : Type 0} → ℕ → Continuation E M C → Option (Continuation E M C)
after_exit n [] = None
after_exit n (begin a ∷ rest) = after_exit n rest
after_exit zero (end_block ∷ rest) = Some rest
after_exit (suc n) (end_block ∷ rest) = after_exit n rest

abbrev pub with_temporary : Frame → ℕ → Value → Frame
with_temporary f t v = record { function = f.function; serial = f.serial; temporaries = slice_set f.temporaries t v }

-- so many values, one for each parameter, and then zeros, in so many temporaries
abbrev pub filled : (temporaries parameters : ℕ) → List Value → Option (List Value)
filled t zero [] = Some (so_many (Number 0) t)
filled t zero (v ∷ vs) = None
filled t (suc n) [] = None
filled zero (suc n) (v ∷ vs) = None
filled (suc t) (suc n) (v ∷ vs) = elim (filled t n vs) [ None ↦ None | Some rest ↦ Some (v ∷ rest) ]

-- what a language gives besides its statements: what expressions, addresses and conditions give, each with what follows
-- on it, and what they cost
pub record Parts (E M C : Type 0) : Type 0 where
  pub value : Frame → E → (Value → Accesses (Last (State E M C))) → Accesses (Last (State E M C))
  pub location : Frame → M → (Location → Accesses (Last (State E M C))) → Accesses (Last (State E M C))
  pub test : Frame → C → (Bool → Accesses (Last (State E M C))) → Accesses (Last (State E M C))
  pub value_prices : E → List ℕ
  pub location_prices : M → List ℕ
  pub test_prices : C → List ℕ

module _ {E M C : Type 0} (x : Parts E M C) where
  abbrev pub at : Frame → Continuation E M C → State E M C
  at f rest = record { frame = f; continuation = rest }

  abbrev pub goes : Frame → Continuation E M C → Accesses (Last (State E M C))
  goes f rest = Then (Goes (at f rest))

  -- the values of expressions, from left to right
  abbrev pub values : Frame → List E → (List Value → Accesses (Last (State E M C))) → Accesses (Last (State E M C))
  values f [] next = next []
  values f (e ∷ es) next = x.value f e (λ v. values f es (λ vs. next (v ∷ vs)))

  -- a temporary that is there gets a value
  abbrev pub sets : Frame → ℕ → Value → Continuation E M C → Accesses (Last (State E M C))
  sets f t v rest = if nat_lt t (length f.temporaries) then goes (with_temporary f t v) rest else Fails

  abbrev pub stores : Location → Value → Accesses (Last (State E M C)) → Accesses (Last (State E M C))
  stores (in_global g i) v next = on_word v (λ n. Writes g i n next)
  stores (in_block home p) v next = Stores home p v next

  -- the caller goes on with what was returned
  abbrev pub resumed : Frame → Option ℕ → Continuation E M C → List Value → Option (State E M C)
  resumed f None rest vs = Some (at f rest)
  resumed f (Some t) rest [] = None
  resumed f (Some t) rest (v ∷ vs) =
      if nat_lt t (length f.temporaries) then Some (at (with_temporary f t v) rest) else None

  abbrev pub jumps : Frame → Option (Continuation E M C) → Accesses (Last (State E M C))
  jumps f None = Fails
  jumps f (Some rest) = goes f rest

  abbrev pub returns : Frame → Option E → Accesses (Last (State E M C))
  returns f None = Then (Returns [])
  returns f (Some e) = x.value f e (λ v. Then (Returns (v ∷ [])))

  -- the step of a statement
  abbrev pub statement : Frame → Statement E M C → Continuation E M C → Accesses (Last (State E M C))
  statement f skip rest = goes f rest
  statement f (set t e) rest = x.value f e (λ v. sets f t v rest)
  statement f (store m e) rest = x.location f m (λ l. x.value f e (λ v. stores l v (goes f rest)))
  statement f (call t name es) rest = values f es (λ vs. Then (Calls name vs (resumed f t rest)))
  statement f (seq bs) rest = goes f (begin_all bs rest)
  statement f (if_else c a b) rest = x.test f c (λ is. goes f (begin (either a b is) ∷ rest))
  statement f (loop a) rest = goes f (begin a ∷ begin (loop a) ∷ rest)
  statement f (block a) rest = goes f (begin a ∷ end_block ∷ rest)
  statement f (exit n) rest = jumps f (after_exit n rest)
  statement f (return_ e) rest = returns f e
  statement f (lock name) rest = Then (Takes name (at f rest))
  statement f (unlock name) rest = Then (Gives name (at f rest))
  statement f (print e) rest = x.value f e (λ v. on_word v (λ n. Then (Puts n (at f rest))))

  -- the next step; a function that falls off its end returns nothing
  abbrev pub continues : Frame → Continuation E M C → Accesses (Last (State E M C))
  continues f [] = Then (Returns [])
  continues f (end_block ∷ rest) = goes f rest
  continues f (begin a ∷ rest) = statement f a rest

  abbrev pub step : State E M C → Accesses (Last (State E M C))
  step s = continues s.frame s.continuation

  -- what a statement costs without its expressions and its parts
  abbrev pub statement_price : Statement E M C → ℕ
  statement_price (store m e) = STORE
  statement_price (call t name es) = CALL
  statement_price (if_else c a b) = IF_ELSE
  statement_price (loop a) = LOOP
  statement_price (return_ e) = RETURN
  statement_price (lock name) = LOCK
  statement_price (unlock name) = LOCK
  statement_price (print e) = PRINT
  statement_price _ = PLAIN

  -- what is passed to a call
  abbrev pub argument_prices : List E → List ℕ
  argument_prices [] = []
  argument_prices (e ∷ es) = ARGUMENT ∷ x.value_prices e ++ argument_prices es

  abbrev pub returned_prices : Option E → List ℕ
  returned_prices None = []
  returned_prices (Some e) = ARGUMENT ∷ x.value_prices e

  -- what its own expressions cost
  abbrev pub operand_prices : Statement E M C → List ℕ
  operand_prices (set t e) = x.value_prices e
  operand_prices (store m e) = x.location_prices m ++ x.value_prices e
  operand_prices (call t name es) = argument_prices es
  operand_prices (if_else c a b) = x.test_prices c
  operand_prices (return_ e) = returned_prices e
  operand_prices (print e) = x.value_prices e
  operand_prices _ = []

  -- what a step costs: the end of a Block as a Block, and the end of a function as a Return
  abbrev pub step_price : Continuation E M C → ℕ
  step_price [] = RETURN
  step_price (end_block ∷ rest) = PLAIN
  step_price (begin a ∷ rest) = statement_price a

  abbrev pub step_operands : Continuation E M C → List ℕ
  step_operands (begin a ∷ rest) = operand_prices a
  step_operands _ = []

  abbrev mutual
    -- the prices of a statement with its parts: a Block has its end
    pub weight_prices : Statement E M C → List ℕ
    weight_prices skip = PLAIN ∷ []
    weight_prices (set t e) = PLAIN ∷ x.value_prices e
    weight_prices (store m e) = STORE ∷ x.location_prices m ++ x.value_prices e
    weight_prices (call t name es) = CALL ∷ argument_prices es
    weight_prices (seq bs) = PLAIN ∷ all_weight_prices bs
    weight_prices (if_else c a b) = IF_ELSE ∷ x.test_prices c ++ weight_prices a ++ weight_prices b
    weight_prices (loop a) = LOOP ∷ weight_prices a
    weight_prices (block a) = PLAIN ∷ PLAIN ∷ weight_prices a
    weight_prices (exit n) = PLAIN ∷ []
    weight_prices (return_ e) = RETURN ∷ returned_prices e
    weight_prices (lock name) = LOCK ∷ []
    weight_prices (unlock name) = LOCK ∷ []
    weight_prices (print e) = PRINT ∷ x.value_prices e

    pub all_weight_prices : Statements E M C → List ℕ
    all_weight_prices no_more = []
    all_weight_prices (one_more a bs) = weight_prices a ++ all_weight_prices bs

  abbrev pub begun : Routine E M C → (serial : ℕ) → Option (List Value) → Option (State E M C)
  begun r serial None = None
  begun r serial (Some ts) =
      Some (at (record { function = r.name; serial = serial; temporaries = ts }) (begin r.body ∷ []))

  -- what its steps cost
  abbrev pub tariff_of : {F : Type 0} → (F → Routine E M C) → Tariff F (State E M C)
  tariff_of routine =
      ByForms (λ s. step_price s.continuation) (λ s. step_operands s.continuation) ENTRY
      (λ f. (routine f).names) (λ f. (routine f).parameters) (λ f. RETURN ∷ weight_prices (routine f).body)

  -- the language, over functions F that stand for routines
  abbrev pub activations : {F : Type 0} → (F → Routine E M C) → Activations F (State E M C)
  activations routine = record {
    name = λ f. (routine f).name;
    blocks = λ f. (routine f).blocks;
    first_word = Number 0;
    enter = λ f serial vs. begun (routine f) serial (filled (routine f).temporaries (routine f).parameters vs);
    form = step;
    tariff = tariff_of routine;
  }
