-- Where Csharpminor's activations stand for Clight's.
--
--     Csharpminor:  x ── step ──► · ── step ──► x'      memory m
--                   │                           │       (the same)
--              match_states                match_states
--                   │                           │
--     Clight:       y ────────── step ────────► y'      memory m
--
-- The continuations match statement by statement; in loops, the ends of Blocks are those of the turn and of the loop.
use Rattle.std.specs.Prelude.{◌≡◌, ⊤, ℕ, ◌+◌, ◌*◌, ◌<◌, ◌≤◌, List, [], ◌∷◌, length, map, Option, Some, None, slice_get}
use Rattle.cas_base.specs.Ty.{words_of_ty}
use Rattle.cas_base.specs.declared.decl.Decl.{Decl}
use Rattle.cas_base.specs.declared.place.Place.{Place}
use Rattle.cas_syntax.specs.Tree as tree
use Rattle.cas_syntax.specs.Tree.{StmtTree, StmtOption, StmtList}
use Rattle.cas_typed.specs.declared.tree.Destination.{Destination}
use Rattle.cas_typed.specs.Resolved as t
use Rattle.cas_typed.specs.Resolved.{TypedExprTree, TypedStmtTree, TypedStmtOption, TypedStmtList}
use Rattle.cas_step.specs.Continuation as items
use Rattle.cas_step.specs.Continuation.{ContItem}
use Rattle.cas_runs.specs.Held.{Activation}
use Rattle.cas_runs.specs.Naming.{Value, Memory}
use Rattle.cas_runs.specs.Bounds.{total}
use Rattle.cas_mid.specs.declared.tree.CsharpFun.{CsharpFun}
use Rattle.cas_mid.specs.Trees.{Expression, Target, skip, block}
use Rattle.cas_mid.specs.Language.{begin, end_block, Continuation, Frame, at, begin_all, operand_prices}
use Rattle.cas_mid.specs.Code.{csharp_routine}
use Rattle.cas_mid.specs.Csharpminor.{CsharpState, csharp_parts}
use Rattle.cas_clight.specs.Clight as clight
use Rattle.cas_clight.specs.Clight.{ClightFun, ClightState, parameters_of, result_of, cells_of}
use Rattle.cas_cshmgen.specs.Makes.{Csharp, made_stmt, made_part, made_call, keeps, tests, while_loop, do_loop, for_loop, closing, made_routine}

-- a statement that may be the first or last part of a for
abbrev pub IsSimpleText : StmtTree → Type 0
IsSimpleText (tree.skip p) = ⊤
IsSimpleText (tree.declare p ty x a) = ⊤
IsSimpleText (tree.assign p target o a) = ⊤
IsSimpleText (tree.call p x f args) = ⊤
IsSimpleText _ = ⊥

abbrev pub IsSimplePart : StmtOption → Type 0
IsSimplePart tree.absent = ⊤
IsSimplePart (tree.present a) = IsSimpleText a

abbrev mutual
  -- the first and last parts of each for are such statements, as in each text
  pub ForsAreSimple : StmtTree → Type 0
  ForsAreSimple (tree.block p bs) = AllForsAreSimple bs
  ForsAreSimple (tree.if_ p c a b) = ForsAreSimple a × PartForsAreSimple b
  ForsAreSimple (tree.while_ p c a) = ForsAreSimple a
  ForsAreSimple (tree.do_ p a c) = ForsAreSimple a
  ForsAreSimple (tree.for_ p i c u a) = IsSimplePart i × IsSimplePart u × ForsAreSimple a
  ForsAreSimple _ = ⊤

  pub PartForsAreSimple : StmtOption → Type 0
  PartForsAreSimple tree.absent = ⊤
  PartForsAreSimple (tree.present a) = ForsAreSimple a

  pub AllForsAreSimple : StmtList → Type 0
  AllForsAreSimple tree.no_more = ⊤
  AllForsAreSimple (tree.one_more a bs) = ForsAreSimple a × AllForsAreSimple bs

abbrev pub Rest : Type 0
Rest = Continuation Expression Target Expression

-- the statement's own expressions cost no more than so many nodes pay for
abbrev pub IsCheap : ℕ → Csharp → Type 0
IsCheap n a = total (operand_prices csharp_parts a) ≤ 130 * n

-- a statement that leads nowhere else
abbrev pub IsSimple : TypedStmtTree → Type 0
IsSimple (t.skip p) = ⊤
IsSimple (t.assign p target a) = ⊤
IsSimple (t.call p kept g at args) = ⊤
IsSimple _ = ⊥

abbrev pub IsPartSimple : TypedStmtOption → Type 0
IsPartSimple t.absent = ⊤
IsPartSimple (t.present a) = IsSimple a

-- a call, with what it costs by itself
abbrev pub IsCallSmall : ℕ → List Decl → (item : ℕ) → List TypedExprTree → Type 0
IsCallSmall n ds g args = IsCheap n (made_call ds 0 None g args)

abbrev pub IsTestSmall : ℕ → List Decl → Option TypedExprTree → Type 0
IsTestSmall n ds None = ⊤
IsTestSmall n ds (Some c) = IsCheap n (tests ds (Some c))

abbrev mutual
  -- a statement that so many nodes pay for, with all that is in it; first and last parts of loops are simple
  pub IsSmall : ℕ → List Decl → TypedStmtTree → Type 0
  IsSmall n ds (t.skip p) = ⊤
  IsSmall n ds (t.assign p target a) = IsCheap n (made_stmt ds 0 (t.assign p target a))
  IsSmall n ds (t.call p kept g at args) = IsCallSmall n ds g args
  IsSmall n ds (t.block p bs) = AreSmall n ds bs
  IsSmall n ds (t.if_ p c a b) = IsTestSmall n ds (Some c) × IsSmall n ds a × IsPartSmall n ds b
  IsSmall n ds (t.while_ p c a) = IsTestSmall n ds (Some c) × IsSmall n ds a
  IsSmall n ds (t.do_ p a c) = IsSmall n ds a × IsTestSmall n ds (Some c)
  IsSmall n ds (t.for_ p i c u a) = IsStepSmall n ds i × IsTestSmall n ds c × IsStepSmall n ds u × IsSmall n ds a
  IsSmall n ds (t.break_ p) = ⊤
  IsSmall n ds (t.continue_ p) = ⊤
  IsSmall n ds (t.return_ p a) = IsCheap n (made_stmt ds 0 (t.return_ p a))
  IsSmall n ds (t.lock p g) = ⊤
  IsSmall n ds (t.unlock p g) = ⊤
  IsSmall n ds (t.print p a) = IsCheap n (made_stmt ds 0 (t.print p a))

  pub IsPartSmall : ℕ → List Decl → TypedStmtOption → Type 0
  IsPartSmall n ds t.absent = ⊤
  IsPartSmall n ds (t.present a) = IsSmall n ds a

  -- the first or last part of a loop
  pub IsStepSmall : ℕ → List Decl → TypedStmtOption → Type 0
  IsStepSmall n ds t.absent = ⊤
  IsStepSmall n ds (t.present a) = IsSmall n ds a × IsSimple a

  pub AreSmall : ℕ → List Decl → TypedStmtList → Type 0
  AreSmall n ds t.no_more = ⊤
  AreSmall n ds (t.one_more a bs) = IsSmall n ds a × AreSmall n ds bs

-- the parts of a loop: a while or a do, and a for
abbrev pub IsLoopSmall : ℕ → List Decl → TypedExprTree → TypedStmtTree → Type 0
IsLoopSmall n ds c a = IsTestSmall n ds (Some c) × IsSmall n ds a

abbrev pub IsForSmall : ℕ → List Decl → Option TypedExprTree → TypedStmtOption → TypedStmtTree → Type 0
IsForSmall n ds c u a = IsTestSmall n ds c × IsStepSmall n ds u × IsSmall n ds a

module _ (n : ℕ) (fn : ClightFun) where
  abbrev pub made : TypedStmtTree → Csharp
  made a = made_stmt fn.decls (parameters_of fn) a

  abbrev pub part : TypedStmtOption → Csharp
  part u = made_part fn.decls (parameters_of fn) u

  abbrev pub for_made : Option TypedExprTree → TypedStmtOption → TypedStmtTree → Csharp
  for_made c u a = for_loop fn.decls c (part u) (made a)

  -- what follows a statement: in a loop the end of the turn
  pub data MatchRest : List ContItem → Rest → Type 0 where
    at_end : MatchRest [] (begin_all (closing (result_of fn)) [])
    begins :
        {a : TypedStmtTree} {cont : List ContItem} {rest : Rest}
        → IsSmall n fn.decls a
        → MatchRest cont rest
        → MatchRest (items.begin a ∷ cont) (begin (made a) ∷ rest)
    in_while :
        {p : Place} {c : TypedExprTree} {a : TypedStmtTree} {cont : List ContItem} {rest : Rest}
        → IsLoopSmall n fn.decls c a
        → MatchRest cont rest
        → MatchRest (items.begun p c a ∷ cont) (end_block ∷ begin (while_loop fn.decls c (made a)) ∷ end_block ∷ rest)
    in_do :
        {p : Place} {c : TypedExprTree} {a : TypedStmtTree} {cont : List ContItem} {rest : Rest}
        → IsLoopSmall n fn.decls c a
        → MatchRest cont rest
        → MatchRest (items.begun p c a ∷ cont)
        (end_block ∷ begin (tests fn.decls (Some c)) ∷ begin (do_loop fn.decls c (made a)) ∷ end_block ∷ rest)
    in_for :
        {p : Place} {c : Option TypedExprTree} {u : TypedStmtOption} {a : TypedStmtTree}
        {cont : List ContItem} {rest : Rest}
        → IsForSmall n fn.decls c u a
        → MatchRest cont rest
        → MatchRest (items.next p u ∷ items.loop p c u a ∷ cont)
        (end_block ∷ begin (part u) ∷ begin (for_made c u a) ∷ end_block ∷ rest)

  -- where both begin a step
  pub data MatchCont : List ContItem → Rest → Type 0 where
    at_rest : {cont : List ContItem} {rest : Rest} → MatchRest cont rest → MatchCont cont rest
    at_skip : {cont : List ContItem} {rest : Rest} → MatchRest cont rest → MatchCont cont (begin skip ∷ rest)
    at_while :
        {p : Place} {c : TypedExprTree} {a : TypedStmtTree} {cont : List ContItem} {rest : Rest}
        → IsLoopSmall n fn.decls c a
        → MatchRest cont rest
        → MatchCont (items.begun p c a ∷ cont) (begin (while_loop fn.decls c (made a)) ∷ end_block ∷ rest)
    at_do :
        {p : Place} {c : TypedExprTree} {a : TypedStmtTree} {cont : List ContItem} {rest : Rest}
        → IsLoopSmall n fn.decls c a
        → MatchRest cont rest
        → MatchCont (items.begun p c a ∷ cont)
        (begin (tests fn.decls (Some c)) ∷ begin (do_loop fn.decls c (made a)) ∷ end_block ∷ rest)
    at_next :
        {p : Place} {c : Option TypedExprTree} {u : TypedStmtOption} {a : TypedStmtTree}
        {cont : List ContItem} {rest : Rest}
        → IsForSmall n fn.decls c u a
        → MatchRest cont rest
        → MatchCont (items.next p u ∷ items.loop p c u a ∷ cont)
        (begin (part u) ∷ begin (for_made c u a) ∷ end_block ∷ rest)
    at_loop :
        {p : Place} {c : Option TypedExprTree} {u : TypedStmtOption} {a : TypedStmtTree}
        {cont : List ContItem} {rest : Rest}
        → IsForSmall n fn.decls c u a
        → MatchRest cont rest
        → MatchCont (items.loop p c u a ∷ cont) (begin (for_made c u a) ∷ end_block ∷ rest)
    -- after the first part of a for
    at_for :
        {p : Place} {c : Option TypedExprTree} {u : TypedStmtOption} {a : TypedStmtTree}
        {cont : List ContItem} {rest : Rest}
        → IsForSmall n fn.decls c u a
        → MatchRest cont rest
        → MatchCont (items.loop p c u a ∷ cont) (begin (block (for_made c u a)) ∷ rest)
    -- there is none
    at_no_first :
        {p : Place} {c : Option TypedExprTree} {u : TypedStmtOption} {a : TypedStmtTree}
        {cont : List ContItem} {rest : Rest}
        → IsForSmall n fn.decls c u a
        → MatchRest cont rest
        → MatchCont (items.loop p c u a ∷ cont) (begin skip ∷ begin (block (for_made c u a)) ∷ rest)
    at_first :
        {i : TypedStmtTree} {p : Place} {c : Option TypedExprTree} {u : TypedStmtOption} {a : TypedStmtTree}
        {cont : List ContItem} {rest : Rest}
        → IsSmall n fn.decls i
        → IsSimple i
        → IsForSmall n fn.decls c u a
        → MatchRest cont rest
        → MatchCont (items.begin i ∷ items.loop p c u a ∷ cont) (begin (made i) ∷ begin (block (for_made c u a)) ∷ rest)

-- there is a temporary for results
abbrev pub HasResult : ClightFun → List Value → Type 0
HasResult fn ts = parameters_of fn < length ts

abbrev pub frame_of : ClightFun → (serial : ℕ) → List Value → Frame
frame_of fn serial ts = record { function = fn.decl.name; serial = serial; temporaries = ts }

-- where activations stand for one another, with the same memory
pub data MatchStates (n : ℕ) (act : Activation CsharpFun ClightFun) :
    CsharpState → Memory → ClightState → Memory → Type 0 where
  runs :
      {fn : ClightFun} {serial : ℕ} {ts : List Value} {cont : List ContItem} {rest : Rest} {m : Memory}
      → HasResult fn ts
      → MatchCont n fn cont rest
      → MatchStates n act (at csharp_parts (frame_of fn serial ts) rest) m (clight.at fn serial [] cont) m
  -- a result is in its temporary, and not in its local yet
  has_result :
      {fn : ClightFun} {serial : ℕ} {ts : List Value} (d : Destination) (v : Value) {u : Value}
      {cont : List ContItem} {rest : Rest} {m : Memory}
      → HasResult fn ts
      → slice_get ts (parameters_of fn) ≡ Some v
      → clight.converted d.ty v ≡ Some u
      → MatchCont n fn cont rest
      → MatchStates n act (at csharp_parts (frame_of fn serial ts) (begin (keeps d (parameters_of fn)) ∷ rest)) m
      (clight.at fn serial (record { local = d.local; value = u } ∷ []) cont) m

-- The function is made of the other, whose counts are such that its steps can pay: a typed function's are
pub record IsMade (decls : List Decl) (f : CsharpFun) (g : ClightFun) : Type 0 where
  pub routine : csharp_routine f ≡ made_routine g
  pub small : AreSmall g.nodes g.decls g.body
  pub cells : total (map words_of_ty g.locals) ≤ cells_of g
  pub locals : length (map words_of_ty g.locals) ≤ parameters_of g + g.nodes
  pub parameters : parameters_of g ≤ 16
