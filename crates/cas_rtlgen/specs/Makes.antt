-- What RTLgen makes of a function. Temporary t is pseudo-register t, and each value between has a pseudo-register of
-- its own above the temporaries. The relation looks at one node at a time, so that any numbering of nodes will do.
use Rattle.std.specs.Prelude.{◌≡◌, ◌⊎◌, ℕ, zero, suc, ◌+◌, ◌-◌, ◌<◌, ◌≤◌, true, false, List, [], ◌∷◌, Option, Some, None, slice_get}
use Rattle.cas_runs.specs.Label.{NameBytes}
use Rattle.cas_mid.specs.Trees as st
use Rattle.cas_sel.specs.declared.tree.Op.{Op}
use Rattle.cas_sel.specs.declared.tree.Op.TheVariants.{Constant, Move}
use Rattle.cas_sel.specs.declared.tree.Mode.{Mode}
use Rattle.cas_sel.specs.declared.tree.Cond.{Cond}
use Rattle.cas_sel.specs.Trees as sel
use Rattle.cas_sel.specs.Trees.{Expr, Exprs, Test, Address, Statement, Statements, Routine, listed}
use Rattle.cas_rtl.specs.Graph.{Node, nop, op, load, store, call, test, return_, lock, unlock, out, Graph}

-- the nodes of a function, with how many temporaries and pseudo-registers it has
pub record Body : Type 0 where
  pub nodes : List (Node ℕ)
  pub temporaries : ℕ
  pub registers : ℕ

-- the pseudo-registers from `low` on and below `high`
pub record Span : Type 0 where
  pub low : ℕ
  pub high : ℕ

-- one span lies within another
pub record IsWithin (part whole : Span) : Type 0 where
  pub from : whole.low ≤ part.low
  pub to : part.high ≤ whole.high

-- the pseudo-register isn't in the span
abbrev pub IsApart : Span → ℕ → Type 0
IsApart span r = (r < span.low) ⊎ (span.high ≤ r)

abbrev pub AreApart : Span → List ℕ → Type 0
AreApart span [] = Unit {0}
AreApart span (r ∷ rs) = IsApart span r × AreApart span rs

module _ (b : Body) where
  -- what is a temporary is one of the function's. Where it isn't, the source has no step
  abbrev pub IsThere : Expr → Type 0
  IsThere (sel.temporary t) = t < b.temporaries
  IsThere e = Unit {0}

  abbrev pub AreThere : Exprs → Type 0
  AreThere sel.no_more = Unit {0}
  AreThere (sel.one_more e es) = IsThere e × AreThere es

  abbrev pub At : ℕ → Node ℕ → Type 0
  At n node = slice_get b.nodes n ≡ Some node

  mutual
    -- from node n to node m the expression's value comes into r. At least one node is passed, and besides r only the
    -- pseudo-registers of the span change
    pub data Computes : Span → Expr → (n m r : ℕ) → Type 0 where
      operates :
          {span : Span} {o : Op} {es : Exprs} {n i m r : ℕ} {args : List ℕ}
          → Finds span es n i args
          → At i (op o args r m)
          → Computes span (sel.operation o es) n m r
      loads :
          {span : Span} {mode : Mode} {es : Exprs} {n i m r : ℕ} {args : List ℕ}
          → Finds span es n i args
          → At i (load mode args r m)
          → Computes span (sel.load mode es) n m r
      chooses :
          {span : Span} {c : Test} {x y : Expr} {n left right m r : ℕ} (one two three : Span)
          → IsWithin one span
          → IsWithin two span
          → IsWithin three span
          → Decides one c n left right
          → Into two x left m r
          → Into three y right m r
          → Computes span (sel.if_ c x y) n m r

    -- the same, where a temporary is moved
    pub data Into : Span → Expr → (n m r : ℕ) → Type 0 where
      moves :
          {span : Span} {t n m r : ℕ}
          → At n (op Move (t ∷ []) r m)
          → Into span (sel.temporary t) n m r
      computes : {span : Span} {e : Expr} {n m r : ℕ} → Computes span e n m r → Into span e n m r

    -- from n to m the value is found in r: that of a temporary is there already
    pub data FindsOne : Span → Expr → (n m r : ℕ) → Type 0 where
      in_place : {span : Span} {t n : ℕ} → FindsOne span (sel.temporary t) n n t
      computed :
          {span : Span} {e : Expr} {n m r : ℕ} (part : Span)
          → Computes part e n m r
          → IsWithin part span
          → span.low ≤ r
          → r < span.high
          → r < b.registers
          → FindsOne span e n m r

    -- the values of all are then in these pseudo-registers
    pub data Finds : Span → Exprs → (n m : ℕ) → List ℕ → Type 0 where
      finds_none : {span : Span} {n : ℕ} → Finds span sel.no_more n n []
      finds_more :
          {span : Span} {e : Expr} {es : Exprs} {n i m r : ℕ} {args : List ℕ} (one two : Span)
          → FindsOne one e n i r
          → IsWithin one span
          → Finds two es i m args
          → IsWithin two span
          → (IsThere e → IsApart two r)
          → Finds span (sel.one_more e es) n m (r ∷ args)

    -- from n the condition leads to one node or to the other
    pub data Decides : Span → Test → (n left right : ℕ) → Type 0 where
      tests :
          {span : Span} {c : Cond} {es : Exprs} {n i left right : ℕ} {args : List ℕ}
          → Finds span es n i args
          → At i (test c args left right)
          → Decides span (sel.holds c es) n left right
      always_left : {span : Span} {n left right : ℕ} → At n (nop left) → Decides span (sel.always true) n left right
      always_right : {span : Span} {n left right : ℕ} → At n (nop right) → Decides span (sel.always false) n left right
      tests_if :
          {span : Span} {c x y : Test} {n i j left right : ℕ} (one two three : Span)
          → IsWithin one span
          → IsWithin two span
          → IsWithin three span
          → Decides one c n i j
          → Decides two x i left right
          → Decides three y j left right
          → Decides span (sel.if_test c x y) n left right

  -- the span lies above the temporaries
  abbrev pub IsAbove : Span → Type 0
  IsAbove span = b.temporaries ≤ span.low

  mutual
    -- from n to m, where leaving k + 1 Blocks leads to the k-th of the exits
    pub data Does : (exits : List ℕ) → Statement → (n m : ℕ) → Type 0 where
      skips : {exits : List ℕ} {n : ℕ} → Does exits st.skip n n
      sets :
          {exits : List ℕ} {t n m : ℕ} {e : Expr} (span : Span)
          → IsAbove span
          → Into span e n m t
          → Does exits (st.set t e) n m
      stores :
          {exits : List ℕ} {n i j m r : ℕ} {address : Address} {e : Expr} {args : List ℕ} (one two : Span)
          → IsAbove one
          → Finds one address.operands n i args
          → IsAbove two
          → FindsOne two e i j r
          → (AreThere address.operands → AreApart two args)
          → At j (store address.mode args r m)
          → Does exits (st.store address e) n m
      calls :
          {exits : List ℕ} {n i m : ℕ} {t : Option ℕ} {name : NameBytes} {es : List Expr} {args : List ℕ}
          (span : Span)
          → IsAbove span
          → Finds span (listed es) n i args
          → At i (call name args t m)
          → Does exits (st.call t name es) n m
      in_order : {exits : List ℕ} {bs : Statements} {n m : ℕ} → DoesAll exits bs n m → Does exits (st.seq bs) n m
      branches :
          {exits : List ℕ} {n left right m : ℕ} {c : Test} {x y : Statement} (span : Span)
          → IsAbove span
          → Decides span c n left right
          → Does exits x left m
          → Does exits y right m
          → Does exits (st.if_else c x y) n m
      -- the Nop of a loop pays for it where nothing else does
      loops :
          {exits : List ℕ} {a : Statement} {n i m : ℕ}
          → At n (nop i)
          → Does exits a i n
          → Does exits (st.loop a) n m
      blocks :
          {exits : List ℕ} {a : Statement} {n m : ℕ}
          → Does (m ∷ exits) a n m
          → Does exits (st.block a) n m
      leaves : {exits : List ℕ} {k n m : ℕ} → slice_get exits k ≡ Some n → Does exits (st.exit k) n m
      -- an Exit of more Blocks than there are has no meaning
      leaves_none : {exits : List ℕ} {k n m : ℕ} → slice_get exits k ≡ None → Does exits (st.exit k) n m
      returns_nothing : {exits : List ℕ} {n m : ℕ} → At n (return_ None) → Does exits (st.return_ None) n m
      returns :
          {exits : List ℕ} {n i m r : ℕ} {e : Expr} (span : Span)
          → IsAbove span
          → FindsOne span e n i r
          → At i (return_ (Some r))
          → Does exits (st.return_ (Some e)) n m
      locks : {exits : List ℕ} {n m : ℕ} {name : NameBytes} → At n (lock name m) → Does exits (st.lock name) n m
      unlocks : {exits : List ℕ} {n m : ℕ} {name : NameBytes} → At n (unlock name m) → Does exits (st.unlock name) n m
      prints :
          {exits : List ℕ} {n i m r : ℕ} {e : Expr} (span : Span)
          → IsAbove span
          → FindsOne span e n i r
          → At i (out r m)
          → Does exits (st.print e) n m

    pub data DoesAll : (exits : List ℕ) → Statements → (n m : ℕ) → Type 0 where
      does_none : {exits : List ℕ} {n : ℕ} → DoesAll exits st.no_more n n
      does_more :
          {exits : List ℕ} {a : Statement} {bs : Statements} {n i m : ℕ}
          → Does exits a n i
          → DoesAll exits bs i m
          → DoesAll exits (st.one_more a bs) n m

  -- from n to m so many temporaries from t on become 0
  pub data Zeros : (t count n m : ℕ) → Type 0 where
    no_zeros : {t n : ℕ} → Zeros t 0 n n
    one_zero :
        {t count n i m : ℕ}
        → At n (op (Constant 0) [] t i)
        → Zeros (t + 1) count i m
        → Zeros t (suc count) n m

-- the first pseudo-registers, so many
abbrev pub first_registers : (from count : ℕ) → List ℕ
first_registers from zero = []
first_registers from (suc count) = from ∷ first_registers (suc from) count

-- the nodes of a graph made of a routine
abbrev pub body_of : Graph ℕ → Routine → Body
body_of f g = record { nodes = f.nodes; temporaries = g.temporaries; registers = f.names }

-- the ways from the entry to the end: a Nop, the temporaries that become 0, and the statements
pub record Ways (f : Graph ℕ) (g : Routine) (others : ℕ) : Type 0 where
  pub first : ℕ
  pub start : ℕ
  pub last : ℕ
  pub entry : slice_get f.nodes f.entry ≡ Some (nop first)
  pub zeros : Zeros (body_of f g) g.parameters others first start
  pub does : Does (body_of f g) [] g.body start last
  pub end : slice_get f.nodes last ≡ Some (return_ None)

-- What is made of a function. The Nop at its entry pays for the first step
pub record IsMadeGraph (f : Graph ℕ) (g : Routine) : Type 0 where
  pub name : f.name ≡ g.name
  pub blocks : f.blocks ≡ g.blocks
  pub parameters : f.parameters ≡ first_registers 0 g.parameters
  pub room : g.temporaries ≤ f.names
  -- the temporaries that are no parameters become 0
  pub ways : Ways f g (g.temporaries - g.parameters)
