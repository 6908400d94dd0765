-- Expressions come to their values, and conditions lead where they should.
use Rattle.std.proofs.Common.{◌≡◌, inl, inr, ℕ, ◌+◌, ◌<◌, ◌≤◌, List, [], ◌∷◌, ◌++◌, Option, Some, None, Bool, true, false, slice_get, nat_eq, nat_lt, refl, sym, ap, ◌∙◌, subst, lt-ltb, arith}
use Rattle.std.proofs.lemmas.Bool.Decides.{nat_tests}
use Rattle.std.proofs.lemmas.Option.{slice_get_within}
use Rattle.cas_syntax.specs.declared.tree.BinaryOperator.{BinaryOperator}
use Rattle.cas_syntax.specs.declared.tree.BinaryOperator.TheVariants as bin
use Rattle.cas_runs.specs.Naming.{Value, Number, Pointer, Hidden, usable, usable_in}
use Rattle.cas_runs.specs.Bounds.{total, step_price}
use Rattle.cas_runs.specs.Access.{Then, Fails, with_value}
use Rattle.cas_runs.specs.Calls.{Goes}
use Rattle.cas_runs.specs.Held.{onward, fails_too}
use Rattle.cas_mid.proofs.Translating.{total_append}
use Rattle.cas_mid.specs.declared.tree.Binop.{Binop}
use Rattle.cas_mid.specs.declared.tree.Binop.TheVariants.{OnWords, PointerPlus, PlusPointer, PointerMinus, PointerDifference, Compare}
use Rattle.cas_mid.specs.Operators.{either, only_if}
use Rattle.cas_mid.specs.Expressions.{word_operator_price as sel_word_price, operator_price as sel_binop_price}
use Rattle.cas_mid.specs.Language.{Frame}
use Rattle.cas_sel.specs.declared.tree.Op.{Op}
use Rattle.cas_sel.specs.declared.tree.Op.TheVariants as op
use Rattle.cas_sel.specs.Operations.{operate, load_by, decide}
use Rattle.cas_sel.specs.Trees as sel
use Rattle.cas_sel.specs.Trees.{Expr, Exprs, Test, Routine}
use Rattle.cas_sel.specs.Code.{sel_routine}
use Rattle.cas_sel.specs.CminorSel.{within, value, values, test, value_prices, all_prices, test_prices, op_price as sel_op_price}
use Rattle.cas_rtl.specs.Graph.{Node, Graph, Point, set, left_by, read, reads, one_more, node_step, step_at, step, each_operand, node_operands, operands_at, price_at}
use Rattle.cas_rtl.specs.Rtl.{pseudo_registers, word_operator_price, operator_price, op_price, node_price, rtl_prices, rtl}
use Rattle.cas_rtlgen.specs.Makes.{Body, body_of, Span, IsWithin, IsApart, AreApart, IsThere, AreThere, At, Computes, operates, loads, chooses, Into, moves, computes, FindsOne, in_place, computed, Finds, finds_none, finds_more, Decides, tests, always_left, always_right, tests_if}
use Rattle.cas_rtlgen.specs.Match.{MatchFrame, frame_of, point_of}
use Rattle.cas_rtlgen.proofs.Queries as queries
use Rattle.cas_rtlgen.proofs.Queries.{TForm, SForm, Stage, asks_too, usable_asks}
use Rattle.cas_rtlgen.proofs.Usable.{IsUsable, usable_twice, AreUsable, operator_usable}

-- a node of an operator on words costs less by an operand
word_pays : (o : BinaryOperator) → word_operator_price o + 2 ≤ sel_word_price o
word_pays bin.Add = omega arith
word_pays bin.Sub = omega arith
word_pays bin.Mul = omega arith
word_pays bin.Div = omega arith
word_pays bin.Mod = omega arith
word_pays bin.Shl = omega arith
word_pays bin.Shr = omega arith
word_pays bin.BitAnd = omega arith
word_pays bin.BitOr = omega arith
word_pays bin.BitXor = omega arith
word_pays bin.Eq = omega arith
word_pays bin.Ne = omega arith
word_pays bin.Lt = omega arith
word_pays bin.Le = omega arith
word_pays bin.Gt = omega arith
word_pays bin.Ge = omega arith

binop_pays : (o : Binop) → operator_price o + 2 ≤ sel_binop_price o
binop_pays (OnWords o s) = word_pays o
binop_pays (PointerPlus s) = omega arith
binop_pays (PlusPointer s) = omega arith
binop_pays (PointerMinus s) = omega arith
binop_pays PointerDifference = omega arith
binop_pays (Compare o) = omega arith

-- an operator of CminorSel pays for its node, and for being an operand
pub operator_pays : (o : Op) → op_price o + 2 ≤ sel_op_price o
operator_pays (op.Constant n) = omega arith
operator_pays (op.StackAddress offset) = omega arith
operator_pays op.Move = omega arith
operator_pays (op.Unary o) = omega arith
operator_pays (op.Binary o) = binop_pays o
operator_pays (op.WithNumber o n) = binop_pays o

-- what pseudo-registers hold
abbrev pub Values : Type 0
Values = ℕ → Value

abbrev pub with_register : Values → ℕ → Value → Values
with_register vs r v = set pseudo_registers vs r v

pub set_here : (vs : Values) (r : ℕ) (v : Value) → with_register vs r v r ≡ v
set_here vs r v = ap (λ b. either v (vs r) b) (let yes : nat_eq r r ≡ true = grind (arith, nat_tests) in yes)

pub set_else : (vs : Values) (r u : ℕ) (v : Value) → (r ≡ u → ⊥) → with_register vs r v u ≡ vs u
set_else vs r u v differ =
    ap (λ b. either v (vs u) b) (let no : nat_eq u r ≡ false = grind (arith, nat_tests, differ) in no)

-- those outside of the span are as they were
abbrev pub Kept : Span → Values → Values → Type 0
Kept span vs vs' = (u : ℕ) → IsApart span u → vs' u ≡ vs u

pub kept_twice : (span : Span) (vs vs' vs'' : Values) → Kept span vs vs' → Kept span vs' vs'' → Kept span vs vs''
kept_twice span vs vs' vs'' h k u apart = k u apart ∙ h u apart

apart_fewer : (part whole : Span) → IsWithin part whole → (u : ℕ) → IsApart whole u → IsApart part u
apart_fewer part whole h u (inl less) = inl (let from = h.from in omega (arith, from, less))
apart_fewer part whole h u (inr over) = inr (let to = h.to in omega (arith, to, over))

pub kept_fewer : (part whole : Span) → IsWithin part whole → (vs vs' : Values) → Kept part vs vs' → Kept whole vs vs'
kept_fewer part whole h vs vs' k u apart = k u (apart_fewer part whole h u apart)

differs : (span : Span) (r u : ℕ) → span.low ≤ r → r < span.high → IsApart span u → r ≡ u → ⊥
differs span r u above under (inl less) e = absurd (omega (arith, above, less, e))
differs span r u above under (inr over) e = absurd (omega (arith, under, over, e))

pub kept_set : (span : Span) (r : ℕ) (vs : Values) (v : Value) → span.low ≤ r → r < span.high →
    Kept span vs (with_register vs r v)
kept_set span r vs v above under u apart = set_else vs r u v (differs span r u above under apart)

-- what is read of pseudo-registers
pub data Have (registers : ℕ) (vs : Values) : List ℕ → List Value → Type 0 where
  have_none : Have registers vs [] []
  have_more :
      {r : ℕ} {args : List ℕ} {v : Value} {us : List Value}
      → r < registers
      → usable (vs r) ≡ Some v
      → Have registers vs args us
      → Have registers vs (r ∷ args) (v ∷ us)

pub read_is : (p : Point ℕ) (r : ℕ) (v : Value) → r < p.graph.names → usable (p.values r) ≡ Some v →
    read pseudo_registers p r ≡ Some v
read_is p r v less e = ap (λ b. either (usable (p.values r)) None b) (lt-ltb r p.graph.names less) ∙ e

pub reads_are : (p : Point ℕ) {args : List ℕ} {us : List Value} → Have p.graph.names p.values args us →
    reads pseudo_registers p args ≡ Some us
reads_are p have_none = refl
reads_are p (have_more {r = r} {args = args} {v = v} less e h) =
    ap (λ o. one_more o (reads pseudo_registers p args)) (read_is p r v less e)
    ∙ ap (λ o. one_more (Some v) o) (reads_are p h)

-- operands stay where their pseudo-registers are kept
pub have_kept : (registers : ℕ) (span : Span) (args : List ℕ) → AreApart span args → (vs vs' : Values) →
    Kept span vs vs' → {us : List Value} → Have registers vs args us → Have registers vs' args us
have_kept registers span [] apart vs vs' kept have_none = have_none
have_kept registers span (r ∷ args) apart vs vs' kept (have_more less e h) =
    have_more less (ap usable (kept r apart.0) ∙ e) (have_kept registers span args apart.1 vs vs' kept h)

module _ (b : Body) (temps : List Value) where
  -- pseudo-registers above the temporaries may change
  pub frame_kept : (span : Span) (vs vs' : Values) → MatchFrame b temps vs → b.temporaries ≤ span.low →
      Kept span vs vs' →
      MatchFrame b temps vs'
  frame_kept span vs vs' h above kept = record {
    count = h.count;
    held = λ t v e.
        let inside = slice_get_within temps t v e in
        let count = h.count in
        kept t (inl (omega (arith, inside, count, above))) ∙ h.held t v e;
  }

-- what reading these pseudo-registers costs
abbrev pub reading : List ℕ → ℕ
reading args = total (each_operand rtl_prices args)

-- nothing is lost by an operator
left_is : (o : Op) (vs : Values) → left_by pseudo_registers o vs ≡ vs
left_is (op.Constant n) vs = refl
left_is (op.StackAddress offset) vs = refl
left_is op.Move vs = refl
left_is (op.Unary o) vs = refl
left_is (op.Binary o) vs = refl
left_is (op.WithNumber o n) vs = refl

have_usable : {registers : ℕ} {vs : Values} {args : List ℕ} {us : List Value} → Have registers vs args us → AreUsable us
have_usable have_none = tt
have_usable {vs = vs} (have_more {r = r} {v = v} less e h) = (usable_twice (vs r) v e, have_usable h)

-- what is computed is no temporary
is_there : {b : Body} {span : Span} {e : Expr} {i j r : ℕ} → Computes b span e i j r → IsThere b e
is_there (operates ops here) = tt
is_there (loads ops here) = tt
is_there (chooses one two three w w' w'' c x y) = tt

-- the price of a node, with what it reads
abbrev pub node_cost : Node ℕ → ℕ
node_cost node = node_price node + total (node_operands rtl_prices node)

abbrev pub cost_at : Option (Node ℕ) → ℕ
cost_at o = price_at rtl_prices o + total (operands_at rtl_prices o)

module _ {F : Type 0} (stage : Stage F) where
  abbrev pub G : Graph ℕ
  G = stage.together.graph_of stage.act.target

  abbrev pub B : Body
  B = body_of G (sel_routine stage.act.source)

  abbrev pub Fr : Frame
  Fr = frame_of G stage.serial stage.temps

  abbrev pub P : Values → ℕ → Point ℕ
  P vs i = point_of G stage.serial vs i

  abbrev pub Does : ℕ → TForm → SForm → Type 0
  Does credit x y = queries.Does stage credit x y

  -- the credit pays for the step at a point and for what follows
  pub data Runs : ℕ → Point ℕ → SForm → Type 0 where
    runs :
        {credit : ℕ} {x : Point ℕ} {y : SForm} (rest : ℕ)
        → step_price (rtl stage.together.graph_of).tariff stage.together.targets x + rest ≤ credit
        → Does rest (step pseudo_registers x) y
        → Runs credit x y

  abbrev pub Fits : Values → Type 0
  Fits vs = MatchFrame B stage.temps vs

  pub onto : {credit : ℕ} {x : Point ℕ} {y : SForm} → Runs credit x y → Does credit (Then (Goes x)) y
  onto {x = x} (runs rest le a) = onward x rest le a

  pub with_more : {credit : ℕ} {x : Point ℕ} {y : SForm} (most : ℕ) → credit ≤ most → Runs credit x y → Runs most x y
  with_more most le (runs rest paid a) = runs rest (omega (arith, le, paid)) a

  pub at_node : (vs : Values) (i : ℕ) (node : Node ℕ) → At B i node → (rest credit : ℕ) {y : SForm} →
      node_cost node + rest ≤ credit → Does rest (node_step pseudo_registers (P vs i) node) y → Runs credit (P vs i) y
  at_node vs i node here rest credit {y} le a =
      runs rest (subst (λ o. cost_at o + rest ≤ credit) (sym here) le)
      (subst (λ o. Does rest (step_at pseudo_registers (P vs i) o) y) (sym here) a)

  either_runs : (vs : Values) (left right credit : ℕ) (x y : SForm) → Runs credit (P vs left) x →
      Runs credit (P vs right) y → (is : Bool) →
      Does credit (Then (Goes (P vs (either left right is)))) (either x y is)
  either_runs vs left right credit x y one two true = onto one
  either_runs vs left right credit x y one two false = onto two

  -- what the node at i costs, if it is there
  abbrev pub Costs : ℕ → ℕ → Type 0
  Costs i most = cost_at (slice_get B.nodes i) ≤ most

  pub costs_at : (i : ℕ) (node : Node ℕ) (most : ℕ) → At B i node → node_cost node ≤ most → Costs i most
  costs_at i node most here le = subst (λ o. cost_at o ≤ most) (sym here) le

  -- where the source has no step nothing is asked but that the target's can be paid
  pub fails_at : (vs : Values) (i most : ℕ) → Costs i most → Runs most (P vs i) Fails
  fails_at vs i most le = runs 0 (omega (arith, le)) fails_too

  -- what the source may not use it fails on
  usable_too : (credit : ℕ) (x : TForm) (next : Value → SForm) (v : Value) →
      ((u : Value) → usable v ≡ Some u → u ≡ v → Does credit x (next u)) → Does credit x (with_value (usable v) next)
  usable_too credit x next (Number n) h = h (Number n) refl refl
  usable_too credit x next (Pointer home p) h = h (Pointer home p) refl refl
  usable_too credit x next (Hidden what) h = fails_too

  pub names_too : {t : ℕ} → t < B.temporaries → t < G.names
  names_too less = let room = stage.room in omega (arith, less, room)

  -- a temporary that is there and may be used is in its pseudo-register
  temporary_runs : (vs : Values) → Fits vs → (t i most : ℕ) → Costs i most → (next : Value → SForm) →
      ((v : Value) → t < B.temporaries → usable (vs t) ≡ Some v → Runs most (P vs i) (next v)) →
      Runs most (P vs i) (with_value (usable_in (slice_get stage.temps t)) next)
  temporary_runs vs fits t i most le next h = by (slice_get stage.temps t) refl
    where
      if_usable : (v : Value) → slice_get stage.temps t ≡ Some v → (o : Option Value) → usable v ≡ o →
          Runs most (P vs i) (with_value o next)
      if_usable v e None is = fails_at vs i most le
      if_usable v e (Some u) is =
          let inside = slice_get_within stage.temps t v e in
          let count = fits.count in
          h u (omega (arith, inside, count)) (ap usable (fits.held t v e) ∙ is)

      by : (o : Option Value) → slice_get stage.temps t ≡ o → Runs most (P vs i) (with_value (usable_in o) next)
      by None e = fails_at vs i most le
      by (Some v) e = if_usable v e (usable v) refl

  -- operands are read
  pub reads_too : (vs : Values) (i : ℕ) {args : List ℕ} {us : List Value} → Have G.names vs args us → (credit : ℕ)
      (next : List Value → TForm) (y : SForm) → Does credit (next us) y →
      Does credit (with_value (reads pseudo_registers (P vs i) args) next) y
  reads_too vs i have credit next y h =
      subst (λ o. Does credit (with_value o next) y) (sym (reads_are (P vs i) have)) h

  -- each expression pays for being read
  pub one_least : (e : Expr) → 2 ≤ total (value_prices e)
  one_least (sel.temporary t) = omega arith
  one_least (sel.operation o es) = let pays = operator_pays o in omega (arith, pays)
  one_least (sel.load mode es) = omega arith
  one_least (sel.if_ c x y) = omega arith

  pub least : {span : Span} {i j : ℕ} {es : Exprs} {args : List ℕ} → Finds B span es i j args →
      reading args ≤ total (all_prices es)
  least finds_none = omega arith
  least (finds_more {e = e} {es = es} one two found w others w' apart) =
      let first = one_least e in
      let rest = least others in
      let sum = total_append (value_prices e) (all_prices es) in
      omega (arith, first, rest, sum)

  -- what the first node of each costs
  mutual
    first_of_value : {span : Span} {i j r : ℕ} {e : Expr} → Computes B span e i j r → (most : ℕ) →
        total (value_prices e) ≤ 2 + most → Costs i most
    first_of_value (operates {o = o} {es = es} {i = i'} {args = args} ops here) most le =
        let pays = operator_pays o in
        let few = least ops in
        first_of_all ops most (omega (arith, le, pays))
        (costs_at i' _ most here (omega (arith, le, pays, few)))
    first_of_value (loads {es = es} {i = i'} ops here) most le =
        let few = least ops in
        first_of_all ops most (omega (arith, le)) (costs_at i' _ most here (omega (arith, le, few)))
    first_of_value (chooses {c = c} {x = x} {y = y} one two three w w' w'' decides left right) most le =
        let sum = total_append (test_prices c ++ value_prices x) (value_prices y) in
        let sum_two = total_append (test_prices c) (value_prices x) in
        first_of_test decides most (omega (arith, le, sum, sum_two))

    pub first_of_one : {span : Span} {i j r : ℕ} {e : Expr} → FindsOne B span e i j r → (most : ℕ) →
        total (value_prices e) ≤ most → Costs j most → Costs i most
    first_of_one in_place most le there = there
    first_of_one (computed part c w above under room') most le there = first_of_value c most (omega (arith, le))

    pub first_of_all : {span : Span} {i j : ℕ} {es : Exprs} {args : List ℕ} → Finds B span es i j args → (most : ℕ) →
        total (all_prices es) ≤ most → Costs j most → Costs i most
    first_of_all finds_none most le there = there
    first_of_all (finds_more {e = e} {es = es} one two found w others w' apart) most le there =
        let sum = total_append (value_prices e) (all_prices es) in
        first_of_one found most (omega (arith, le, sum)) (first_of_all others most (omega (arith, le, sum)) there)

    first_of_test : {span : Span} {c : Test} {i left right : ℕ} → Decides B span c i left right → (most : ℕ) →
        total (test_prices c) + 9 ≤ most → Costs i most
    first_of_test (tests {i = i'} ops here) most le =
        let few = least ops in
        first_of_all ops most (omega (arith, le)) (costs_at i' _ most here (omega (arith, le, few)))
    first_of_test (always_left {n = i} here) most le = costs_at i _ most here (omega (arith, le))
    first_of_test (always_right {n = i} here) most le = costs_at i _ most here (omega (arith, le))
    first_of_test (tests_if {c = c} {x = x} {y = y} one two three w w' w'' decides left right) most le =
        let sum = total_append (test_prices c ++ test_prices x) (test_prices y) in
        let sum_two = total_append (test_prices c) (test_prices x) in
        first_of_test decides most (omega (arith, le, sum, sum_two))

  abbrev pub Is : Span → Type 0
  Is span = B.temporaries ≤ span.low

  above_too : (part whole : Span) → IsWithin part whole → Is whole → Is part
  above_too part whole w above = let from = w.from in omega (arith, above, from)

  -- a value comes into a pseudo-register, if that is there
  abbrev pub Sets : Values → ℕ → Value → ℕ → TForm
  Sets vs r v j = only_if (nat_lt r G.names) (Then (Goes (P (with_register vs r v) j)))

  pub sets_at : (vs : Values) (r j : ℕ) → r < G.names → (v : Value) (credit : ℕ) (y : SForm) →
      Does credit (Then (Goes (P (with_register vs r v) j))) y → Does credit (Sets vs r v j) y
  sets_at vs r j there v credit y a =
      subst (λ b. Does credit (only_if b (Then (Goes (P (with_register vs r v) j)))) y) (sym (lt-ltb r G.names there)) a

  -- what follows on a value that comes into r
  abbrev pub AfterValue : Span → Values → (rest j r : ℕ) → (Value → SForm) → Type 0
  AfterValue span vs rest j r k =
      (vs' : Values) → Fits vs' → Kept span vs vs' → (v : Value) → IsUsable v → Does rest (Sets vs' r v j) (k v)

  -- on one that is found in r
  abbrev pub AfterOne : Span → Values → Expr → (rest j r : ℕ) → (Value → SForm) → Type 0
  AfterOne span vs e rest j r k =
      (vs' : Values) → Fits vs' → Kept span vs vs' → IsThere B e → (v : Value) → r < G.names → usable (vs' r) ≡ Some v →
      Runs (2 + rest) (P vs' j) (k v)

  -- on several
  abbrev pub AfterAll : Span → Values → Exprs → (rest j : ℕ) → List ℕ → (List Value → SForm) → Type 0
  AfterAll span vs es rest j args k =
      (vs' : Values) → Fits vs' → Kept span vs vs' → AreThere B es → (us : List Value) → Have G.names vs' args us →
      Runs (reading args + rest) (P vs' j) (k us)

  -- on a condition
  abbrev pub AfterTest : Span → Values → (rest left right : ℕ) → (Bool → SForm) → Type 0
  AfterTest span vs rest left right k =
      (vs' : Values) → Fits vs' → Kept span vs vs' → (is : Bool) →
      Does rest (Then (Goes (P vs' (either left right is)))) (k is)

  later : {span part : Span} → IsWithin part span → (vs vs' vs'' : Values) → Kept span vs vs' → Kept part vs' vs'' →
      Kept span vs vs''
  later {span = span} {part = part} w vs vs' vs'' h k =
      kept_twice span vs vs' vs'' h (kept_fewer part span w vs' vs'' k)

  frame_later : (span : Span) (vs vs' : Values) → Fits vs → Is span → Kept span vs vs' → Fits vs'
  frame_later span vs vs' fits above kept = frame_kept B stage.temps span vs vs' fits above kept

  mutual
    computes_run : {span : Span} {i j r : ℕ} {e : Expr} → Computes B span e i j r → Is span → (vs : Values) → Fits vs →
        (rest most : ℕ) → total (value_prices e) + rest ≤ 2 + most → (k : Value → SForm) →
        AfterValue span vs rest j r k →
        Runs most (P vs i) (value Fr e k)
    computes_run {j = j} {r = r} (operates {o = o} {es = es} {i = i} {args = args} ops here) above vs fits rest most le
        k next =
        let pays = operator_pays o in
        all_run ops above vs fits (op_price o + rest) most (omega (arith, le, pays))
        (costs_at i _ (reading args + (op_price o + rest)) here (omega arith)) _
        (λ vs' fits' kept there us have.
        at_node vs' i _ here rest _ (omega arith)
        (reads_too vs' i have rest _ _
        (usable_asks stage rest (operate (within Fr) o us) _ k
        (operator_usable (within Fr) o us (have_usable have))
        (λ v is. subst (λ ws. Does rest (Sets ws r v j) (k v)) (sym (left_is o vs')) (next vs' fits' kept v is)))))
    computes_run {j = j} {r = r} (loads {mode = mode} {es = es} {i = i} {args = args} ops here) above vs fits rest most
        le k next =
        all_run ops above vs fits (11 + rest) most (omega (arith, le))
        (costs_at i _ (reading args + (11 + rest)) here (omega arith)) _
        (λ vs' fits' kept there us have.
        at_node vs' i _ here rest _ (omega arith)
        (reads_too vs' i have rest _ _
        (asks_too stage rest (load_by (within Fr) mode us) _ _
        (λ v. usable_too rest (Sets vs' r v j) k v
        (λ u is same. subst (λ x. Does rest (Sets vs' r x j) (k u)) same
        (next vs' fits' kept u (usable_twice v u is)))))))
    computes_run {span = span} {j = j} {r = r}
        (chooses {c = c} {x = x} {y = y} {left = left} {right = right} one two three w w' w'' decides first second)
        above
        vs fits rest most le k next =
        let sum = total_append (test_prices c ++ value_prices x) (value_prices y) in
        let sum_two = total_append (test_prices c) (value_prices x) in
        let credit = total (value_prices x) + total (value_prices y) + rest in
        test_run decides (above_too one span w above) vs fits credit most (omega (arith, le, sum, sum_two)) _
        (λ vs' fits' kept is.
        let so_far = kept_fewer one span w vs vs' kept in
        either_runs vs' left right credit _ _
        (into_run first (above_too two span w' above) vs' fits' rest credit (omega arith) k
        (λ vs'' fits'' further v usable. next vs'' fits'' (later w' vs vs' vs'' so_far further) v usable))
        (into_run second (above_too three span w'' above) vs' fits' rest credit (omega arith) k
        (λ vs'' fits'' further v usable. next vs'' fits'' (later w'' vs vs' vs'' so_far further) v usable)) is)

    pub into_run : {span : Span} {i j r : ℕ} {e : Expr} → Into B span e i j r → Is span → (vs : Values) → Fits vs →
        (rest most : ℕ) → total (value_prices e) + rest ≤ most → (k : Value → SForm) → AfterValue span vs rest j r k →
        Runs most (P vs i) (value Fr e k)
    into_run {i = i} {j = j} {r = r} (moves {t = t} here) above vs fits rest most le k next =
        temporary_runs vs fits t i most (costs_at i _ most here (omega (arith, le))) k
        (λ v less is.
        at_node vs i _ here rest most (omega (arith, le))
        (reads_too vs i (have_more (names_too less) is have_none) rest _ _
        (next vs fits (λ u apart. refl) v (usable_twice (vs t) v is))))
    into_run (computes c) above vs fits rest most le k next =
        computes_run c above vs fits rest most (omega (arith, le)) k next

    pub one_run : {span : Span} {i j r : ℕ} {e : Expr} → FindsOne B span e i j r → Is span → (vs : Values) → Fits vs →
        (rest most : ℕ) → total (value_prices e) + rest ≤ most → Costs j (2 + rest) → (k : Value → SForm) →
        AfterOne span vs e rest j r k → Runs most (P vs i) (value Fr e k)
    one_run {i = i} (in_place {t = t}) above vs fits rest most le cost k next =
        temporary_runs vs fits t i most (omega (arith, le, cost)) k
        (λ v less is. with_more most (omega (arith, le))
        (next vs fits (λ u apart. refl) less v (names_too less) is))
    one_run {span = span} {j = j} {r = r} {e = e} (computed part c w low high there) above vs fits rest most le cost k
        next =
        computes_run c (above_too part span w above) vs fits (2 + rest) most (omega (arith, le)) k
        (λ vs' fits' kept v is.
        let vs'' = with_register vs' r v in
        let all_kept = kept_twice span vs vs' vs'' (kept_fewer part span w vs vs' kept)
        (kept_set span r vs' v low high) in
        sets_at vs' r j there v (2 + rest) _
        (onto (next vs'' (frame_later span vs vs'' fits above all_kept) all_kept (is_there c) v there
        (ap usable (set_here vs' r v) ∙ is))))

    pub all_run : {span : Span} {i j : ℕ} {es : Exprs} {args : List ℕ} → Finds B span es i j args → Is span →
        (vs : Values) → Fits vs → (rest most : ℕ) → total (all_prices es) + rest ≤ most →
        Costs j (reading args + rest) →
        (k : List Value → SForm) → AfterAll span vs es rest j args k → Runs most (P vs i) (values Fr es k)
    all_run finds_none above vs fits rest most le cost k next =
        with_more most (omega (arith, le)) (next vs fits (λ u apart. refl) tt [] have_none)
    all_run {span = span} {j = j} (finds_more {e = e} {es = es} {i = i} {args = args} one two found w others w' apart)
        above vs fits rest most le cost k next =
        let sum = total_append (value_prices e) (all_prices es) in
        let few = least others in
        let credit = total (all_prices es) + rest in
        one_run found (above_too one span w above) vs fits credit most (omega (arith, le, sum))
        (first_of_all others (2 + credit) (omega arith) (let c = cost in omega (arith, c, few))) _
        (λ vs' fits' kept there v less here.
        let so_far = kept_fewer one span w vs vs' kept in
        all_run others (above_too two span w' above) vs' fits' (2 + rest) (2 + credit) (omega arith)
        (let c = cost in omega (arith, c)) _
        (λ vs'' fits'' further there' us have.
        with_more _ (omega arith)
        (next vs'' fits'' (later w' vs vs' vs'' so_far further) (there, there') (v ∷ us)
        (have_more less (ap usable (further _ (apart there)) ∙ here) have))))

    pub test_run : {span : Span} {i left right : ℕ} {c : Test} → Decides B span c i left right → Is span →
        (vs : Values) → Fits vs → (rest most : ℕ) → total (test_prices c) + 9 + rest ≤ most → (k : Bool → SForm) →
        AfterTest span vs rest left right k → Runs most (P vs i) (test Fr c k)
    test_run (tests {c = c} {es = es} {i = i} {args = args} ops here) above vs fits rest most le k next =
        all_run ops above vs fits (9 + rest) most (omega (arith, le))
        (costs_at i _ (reading args + (9 + rest)) here (omega arith)) _
        (λ vs' fits' kept there us have.
        at_node vs' i _ here rest _ (omega arith)
        (reads_too vs' i have rest _ _
        (asks_too stage rest (decide c us) _ k (λ is. next vs' fits' kept is))))
    test_run (always_left {n = i} here) above vs fits rest most le k next =
        at_node vs i _ here rest most (omega (arith, le)) (next vs fits (λ u apart. refl) true)
    test_run (always_right {n = i} here) above vs fits rest most le k next =
        at_node vs i _ here rest most (omega (arith, le)) (next vs fits (λ u apart. refl) false)
    test_run {span = span} {left = left} {right = right}
        (tests_if {c = c} {x = x} {y = y} {i = i} {j = j} one two three w w' w'' decides first second)
        above vs fits rest
        most le k next =
        let sum = total_append (test_prices c ++ test_prices x) (test_prices y) in
        let sum_two = total_append (test_prices c) (test_prices x) in
        let credit = total (test_prices x) + total (test_prices y) + 9 + rest in
        test_run decides (above_too one span w above) vs fits credit most (omega (arith, le, sum, sum_two)) _
        (λ vs' fits' kept so.
        let so_far = kept_fewer one span w vs vs' kept in
        either_runs vs' i j credit _ _
        (test_run first (above_too two span w' above) vs' fits' rest credit (omega arith) k
        (λ vs'' fits'' further is. next vs'' fits'' (later w' vs vs' vs'' so_far further) is))
        (test_run second (above_too three span w'' above) vs' fits' rest credit (omega arith) k
        (λ vs'' fits'' further is. next vs'' fits'' (later w'' vs vs' vs'' so_far further) is)) so)
