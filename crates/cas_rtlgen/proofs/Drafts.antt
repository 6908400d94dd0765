-- What is added to a graph in the making.
use Rattle.std.proofs.Common.{◌≡◌, ℕ, zero, suc, ◌+◌, ◌-◌, ◌<◌, ◌≤◌, List, [], ◌∷◌, ◌++◌, map, length, drop, get_or, slice_set, Result, Ok, Err, IfOk, OnOk, refl, ap, sym, ◌∙◌, arith, add-one, append_assoc, length-append, drop-cons}
use Rattle.std.proofs.Math.Seq.{drop-nil}
use Rattle.std.specs.Prelude.{Vec}
use Rattle.std.specs.declared.alloc.Global.{Global}
use Rattle.cas_mid.specs.declared.tree.Stmt.{Seq}
use Rattle.cas_mid.specs.Trees as st
use Rattle.cas_mid.proofs.Lists.{seq_of}
use Rattle.cas_sel.specs.declared.tree.Op.{Op}
use Rattle.cas_sel.specs.declared.tree.Mode.{Mode}
use Rattle.cas_sel.specs.declared.tree.Cond.{Cond}
use Rattle.cas_sel.specs.declared.tree.SelExpr.{SelExpr}
use Rattle.cas_sel.specs.Trees.{Expr, operation, load, Exprs, one_more, Test, holds, listed}
use Rattle.cas_sel.specs.Code.{expression_of, address_of, test_of, list_of}
use Rattle.cas_sel.specs.Rooms.{own_value, own_values, all_inner_values}
use Rattle.cas_rtl.specs.Graph as graph
use Rattle.cas_rtl.specs.Graph.{Node}
use Rattle.cas_rtlgen.specs.declared.draft.Draft.{Draft}
use Rattle.cas_rtlgen.specs.declared.draft.Way.{Way}
use Rattle.cas_rtlgen.specs.declared.draft.Way.TheVariants.{IsFound}
use Rattle.cas_rtlgen.specs.Makes.{first_registers}
use Rattle.cas_rtlgen.specs.Making.{Piece, registers, then_nodes, value, all}
use Rattle.cas_rtlgen.proofs.Lists.{patched}
use Rattle.cas_rtlgen.specs.Drafts.{value_at, all_at, test_at, node_on, SelStmt, sel_statement, sel_list}

-- a node, and then those before it
pub node_then : {X : Type 0} (xs : List X) (x : X) (ys : List X) → (xs ++ x ∷ []) ++ ys ≡ xs ++ (x ∷ ys)
node_then xs x ys = append_assoc xs (x ∷ []) ys

pub length_one : {X : Type 0} (xs : List X) (x : X) → length (xs ++ x ∷ []) ≡ length xs + 1
length_one xs x = length-append xs (x ∷ [])

-- the same piece, added to the same nodes
pub nodes_same : {T E : Type 0} (r : Result T E) {xs ys : List (Node ℕ)} (zs : List (Node ℕ)) {p q : Piece} →
    xs ≡ ys → p ≡ q → OnOk r (zs ≡ xs ++ p.nodes) → OnOk r (zs ≡ ys ++ q.nodes)
nodes_same (Ok v) {ys = ys} zs {p} same piece made =
    made ∙ ap (λ ws. ws ++ p.nodes) same ∙ ap (λ one. ys ++ one.nodes) piece
nodes_same (Err e) zs same piece made = made

pub entry_same : {E : Type 0} (r : Result ℕ E) {p q : Piece} → p ≡ q →
    IfOk r (λ n. n ≡ p.entry) → IfOk r (λ n. n ≡ q.entry)
entry_same (Ok v) piece made = made ∙ ap (λ one. one.entry) piece
entry_same (Err e) piece made = made

pub taken_same : {T E : Type 0} (r : Result T E) (a : ℕ) {b c : ℕ} → b ≡ c → OnOk r (a ≡ b) → OnOk r (a ≡ c)
taken_same (Ok v) a same made = made ∙ same
taken_same (Err e) a same made = made

-- operands `zs`, which the code sees as `xs` and as `ys`, have taken their pseudo-registers
pub record AreTaken (d d1 : Draft) (xs ys zs : List SelExpr) (args : List ℕ) : Type 0 where
  pub placed : xs ≡ zs
  pub read : ys ≡ zs
  pub registers : args ≡ registers (list_of xs) d.taken
  pub taken : d1.taken ≡ d.taken + own_values (list_of xs)
  pub nodes : d1.nodes ≡ d.nodes

module _ (d d1 : Draft) (xs ys zs : List SelExpr) (args : List ℕ) (t : AreTaken d d1 xs ys zs args) where
  -- the node of an operator, a mode or a condition is that on its operands then
  pub operation_at : (e : Expr) (o : Op) (next r : ℕ) (way : Way) → e ≡ operation o (list_of zs) →
      node_on d1 (list_of ys) d.taken (graph.op o args r next) ≡ value_at d e next r way
  operation_at e o next r way is =
      rw is (rw t.read (rw t.registers (rw t.taken (rw t.nodes (rw t.placed refl)))))

  pub load_at : (e : Expr) (m : Mode) (next r : ℕ) (way : Way) → e ≡ load m (list_of zs) →
      node_on d1 (list_of ys) d.taken (graph.load m args r next) ≡ value_at d e next r way
  load_at e m next r way is =
      rw is (rw t.read (rw t.registers (rw t.taken (rw t.nodes (rw t.placed refl)))))

  pub holds_at : (test : Test) (c : Cond) (left right : ℕ) → test ≡ holds c (list_of zs) →
      node_on d1 (list_of ys) d.taken (graph.test c args left right) ≡ test_at d test left right
  holds_at test c left right is =
      rw is (rw t.read (rw t.registers (rw t.taken (rw t.nodes (rw t.placed refl)))))

  -- they and what is in them take so many
  pub all_taken : d1.taken + all_inner_values (list_of ys)
      ≡ d.taken + (own_values (list_of zs) + all_inner_values (list_of zs))
  all_taken = rw t.read (let taken = t.taken in let same = ap (λ ws. own_values (list_of ws)) t.placed in
      omega (arith, taken, same))

-- a value before those of the operands after it
pub all_more : (d d1 : Draft) (e : Expr) (es rest : Exprs) (next register start entry : ℕ) →
    es ≡ one_more e rest → start + own_value e ≡ register → d1.nodes ≡ d.nodes ++ (all_at d rest next register).nodes →
    entry ≡ (all_at d rest next register).entry → d1.taken ≡ d.taken + all_inner_values rest →
    then_nodes (value_at d1 e entry start IsFound) (all_at d rest next register).nodes ≡ all_at d es next start
all_more d d1 e es rest next register start entry is own nodes begins taken =
    let before = all_at d rest next register in
    let count : length d1.nodes ≡ length d.nodes + length before.nodes =
    ap length nodes ∙ length-append d.nodes before.nodes in
    let piece : value_at d1 e entry start IsFound
    ≡ value e (length d.nodes + length before.nodes) before.entry (d.taken + all_inner_values rest) start IsFound =
    rw count (rw begins (rw taken refl)) in
    rw is (ap (λ p. then_nodes p before.nodes) piece
    ∙ ap (λ r. then_nodes (value e (length d.nodes + length (all_at d rest next r).nodes) (all_at d rest next r).entry
    (d.taken + all_inner_values rest) start IsFound) (all_at d rest next r).nodes) (sym own))

pub all_more_nodes : (xs ys zs : List (Node ℕ)) (before one more : Piece) → ys ≡ xs ++ before.nodes →
    then_nodes one before.nodes ≡ more → zs ≡ ys ++ one.nodes → zs ≡ xs ++ more.nodes
all_more_nodes xs ys zs before one more first is then_ =
    then_ ∙ ap (λ ws. ws ++ one.nodes) first ∙ append_assoc xs before.nodes one.nodes ∙ ap (λ p. xs ++ p.nodes) is

-- the operands that are left, and one before
pub list_before : (xs : List SelExpr) (k left : ℕ) (x : SelExpr) → k + 1 ≡ left → k < length xs → x ≡ get_or xs k x →
    list_of (drop k xs) ≡ one_more (expression_of x) (list_of (drop left xs))
list_before xs k left x next lt e =
    ap list_of (drop-cons xs k x lt ∙ ap (λ y. y ∷ drop (suc k) xs) (sym e))
    ∙ ap (λ n. one_more (expression_of x) (list_of (drop n xs))) (sym (add-one k) ∙ next)

-- they take no more pseudo-registers than all
pub own_left : (xs : List SelExpr) (k : ℕ) → own_values (list_of (drop k xs)) ≤ own_values (list_of xs)
own_left [] k = let none = ap (λ ys. own_values (list_of ys)) (drop-nil k) in omega (arith, none)
own_left (x ∷ xs) zero = omega arith
own_left (x ∷ xs) (suc k) = let more = own_left xs k in omega (arith, more)

-- the code's statements, one by one
pub sequence_of : (all : Vec SelStmt Global) → sel_statement (Seq all) ≡ st.seq (sel_list all.items)
sequence_of all = seq_of expression_of address_of test_of all

pub list_here : (xs : List SelStmt) (k left : ℕ) (x : SelStmt) → k + 1 ≡ left → k < length xs → x ≡ get_or xs k x →
    sel_list (drop k xs) ≡ st.one_more (sel_statement x) (sel_list (drop left xs))
list_here xs k left x next lt e =
    ap sel_list (drop-cons xs k x lt ∙ ap (λ y. y ∷ drop (suc k) xs) (sym e))
    ∙ ap (λ n. st.one_more (sel_statement x) (sel_list (drop n xs))) (sym (add-one k) ∙ next)

-- arguments as operands
pub listed_same : (xs : List SelExpr) → listed (map expression_of xs) ≡ list_of xs
listed_same [] = refl
listed_same (x ∷ xs) = ap (one_more (expression_of x)) (listed_same xs)

-- the Nop of a loop, which was written first, has its successor
pub looped_nodes : (xs ys zs ws : List (Node ℕ)) (body piece : Piece) (here entry : ℕ) →
    ys ≡ xs ++ graph.nop 0 ∷ [] → here ≡ length xs → zs ≡ ys ++ body.nodes → entry ≡ body.entry → body ≡ piece →
    ws ≡ slice_set zs here (graph.nop entry) → ws ≡ xs ++ (graph.nop piece.entry ∷ piece.nodes)
looped_nodes xs ys zs ws body piece here entry first at later begins same is =
    is ∙ ap (λ list. slice_set list here (graph.nop entry)) (later ∙ ap (λ list. list ++ body.nodes) first)
    ∙ ap (λ n. slice_set ((xs ++ graph.nop 0 ∷ []) ++ body.nodes) n (graph.nop entry)) at
    ∙ patched xs body.nodes (graph.nop 0) (graph.nop entry)
    ∙ ap (λ n. xs ++ (graph.nop n ∷ body.nodes)) begins
    ∙ ap (λ p. xs ++ (graph.nop p.entry ∷ p.nodes)) same

-- the first pseudo-register of those that are left
pub first_more : (from count : ℕ) → from < count →
    first_registers from (count - from) ≡ from ∷ first_registers (from + 1) (count - (from + 1))
first_more from count lt =
    let less : count - from ≡ suc (count - (from + 1)) = omega (arith, lt) in
    ap (first_registers from) less
    ∙ ap (λ n. from ∷ first_registers n (count - (from + 1))) (sym (add-one from))
