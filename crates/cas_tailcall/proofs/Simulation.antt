-- Tailcall: one case for a call that becomes a tail call, and all else stays.
use Rattle.std.proofs.Common.{◌≡◌, ℕ, ◌+◌, ◌≤◌, List, [], ◌∷◌, Option, Some, None, Bool, true, false, map, length, slice_get, refl, sym, ap, ◌∙◌, subst, arith}
use Rattle.cas_runs.specs.Label.{NameBytes}
use Rattle.cas_runs.specs.Naming.{Value, Number, Memory}
use Rattle.cas_runs.specs.Bounds.{total, first_price}
use Rattle.cas_runs.specs.Access.{Accesses, Then, with_value}
use Rattle.cas_runs.specs.Calls.{Last, Tails, set_blocks, fresh}
use Rattle.cas_runs.specs.Held.{Activation, Leads, meets_there, steps_alone, fails_alone, Alone, at_last, passing_held, Steps, BeginIf, begins_later}
use Rattle.cas_runs.specs.Passing.{MadeOf}
use Rattle.cas_runs.specs.Unit.{Setting}
use Rattle.cas_runs.specs.Unmoved.{IsUnmoved, bare, places, unmoved}
use Rattle.cas_mid.specs.Operators.{either, only_if}
use Rattle.cas_rtl.specs.Graph as graph
use Rattle.cas_rtl.specs.Graph.{Node, nop, op, load, store, call, tail, test, return_, lock, unlock, out, Graph, Point, given, is_empty, are_few, reads, node_step, step_at, price_at, operands_at}
use Rattle.cas_rtl.specs.Rtl.{pseudo_registers, rtl_prices, rtl}
use Rattle.cas_rtl.proofs.Tariffs.{rtl_tariff}
use Rattle.cas_graphs.specs.Successors.{redirected}
use Rattle.cas_graphs.specs.Match.{point_of}
use Rattle.cas_graphs.proofs.Nodes.{relation, held, Does, Redirection, value_too, same_values, equal_values, node_too}
use Rattle.cas_tailcall.specs.Tailcall.{may_be_tail, tail_node, tailed}
use Rattle.cas_tailcall.specs.Match.{MatchStates, matches, tailcall}
use Rattle.cas_tailcall.proofs.Together.{Together, pair}
use Rattle.cas_tailcall.proofs.Passing.{passes_on}
use Rattle.cas_tailcall.proofs.Making.{MayBeTail, may_be, option_map, map_get, same_price}

same_node : (node : Node ℕ) → redirected (λ n. n) node ≡ node
same_node (nop n) = refl
same_node (op o ins r n) = refl
same_node (load m ins r n) = refl
same_node (store m ins r n) = refl
same_node (call f ins r n) = refl
same_node (tail f ins) = refl
same_node (test c ins n m) = refl
same_node (return_ r) = refl
same_node (lock name n) = refl
same_node (unlock name n) = refl
same_node (out r n) = refl

no_blocks : (bs : List ℕ) → is_empty bs ≡ true → bs ≡ []
no_blocks [] e = refl
no_blocks (b ∷ bs) e = absurd (cc e)

module _ {F : Type 0} (w : Together F) (made : w.graph_of w.act.target ≡ tailed (w.graph_of w.act.source)) where
  abbrev g : Graph ℕ
  g = w.graph_of w.act.source

  abbrev there : (serial : ℕ) → (ℕ → Value) → ℕ → Point ℕ
  there serial vs n = point_of (tailed g) serial vs n

  abbrev here : (serial : ℕ) → (ℕ → Value) → ℕ → Point ℕ
  here serial vs n = point_of g serial vs n

  abbrev redirection : Redirection ℕ
  redirection = record {
    source = g;
    entry = g.entry;
    nodes = map (tail_node g) g.nodes;
    to = λ n. n;
    is_fine = λ n. Unit {0};
  }

  -- a node that stays
  stays : (serial : ℕ) (vs : ℕ → Value) (m : Memory) (n : ℕ) (node : Node ℕ) →
      Does (pair w) m (node_step pseudo_registers (there serial vs n) node)
      (node_step pseudo_registers (here serial vs n) node)
  stays serial vs m n node =
      subst (λ x. Does (pair w) m (node_step pseudo_registers (there serial vs n) x)
      (node_step pseudo_registers (here serial vs n) node)) (same_node node)
      (node_too (pair w) redirection (λ serial n vs m fine. matches) serial m vs n n node (λ k is. tt))

  -- a call that becomes a tail call
  becomes_tail : (serial : ℕ) (vs : ℕ → Value) (m : Memory) (n : ℕ) (f : NameBytes) (ins : List ℕ) (r : Option ℕ)
      (k : ℕ) →
      MayBeTail g ins r k →
      Does (pair w) m (node_step pseudo_registers (there serial vs n) (tail f ins))
      (node_step pseudo_registers (here serial vs n) (call f ins r k))
  becomes_tail serial vs m n f ins r k may =
      let bare = no_blocks g.blocks may.no_block in
      subst (λ b. Does (pair w) m (only_if b (only_if (is_empty g.blocks) tails)) whole) (sym may.few)
      (subst (λ b. Does (pair w) m (only_if b tails) whole) (sym may.no_block)
      (value_too (pair w) m (reads pseudo_registers (here serial vs n) ins) _ _
      (λ us. at_last (passing_held (same_values (pair w) us) (ap (λ (v : Graph ℕ). v.blocks) made ∙ bare) refl
      (bare, λ ws count. passes_on w serial vs n k r ws may.returned)))))
    where
      tails : Accesses (Last (Point ℕ))
      tails = with_value (reads pseudo_registers (here serial vs n) ins) (λ us. Then (Tails f us))

      whole : Accesses (Last (Point ℕ))
      whole = node_step pseudo_registers (here serial vs n) (call f ins r k)

  -- each node does what its own did
  does_too : (serial : ℕ) (vs : ℕ → Value) (m : Memory) (n : ℕ) (node : Node ℕ) →
      Does (pair w) m (node_step pseudo_registers (there serial vs n) (tail_node g node))
      (node_step pseudo_registers (here serial vs n) node)
  does_too serial vs m n (call f ins r k) = by (may_be_tail g ins r k) refl
    where
      by : (b : Bool) → may_be_tail g ins r k ≡ b →
          Does (pair w) m (node_step pseudo_registers (there serial vs n) (either (tail f ins) (call f ins r k) b))
          (node_step pseudo_registers (here serial vs n) (call f ins r k))
      by true e = becomes_tail serial vs m n f ins r k (may_be g ins r k e)
      by false e = stays serial vs m n (call f ins r k)
  does_too serial vs m n (nop k) = stays serial vs m n (nop k)
  does_too serial vs m n (op o ins r k) = stays serial vs m n (op o ins r k)
  does_too serial vs m n (load mode ins r k) = stays serial vs m n (load mode ins r k)
  does_too serial vs m n (store mode ins r k) = stays serial vs m n (store mode ins r k)
  does_too serial vs m n (tail f ins) = stays serial vs m n (tail f ins)
  does_too serial vs m n (test c ins k j) = stays serial vs m n (test c ins k j)
  does_too serial vs m n (return_ r) = stays serial vs m n (return_ r)
  does_too serial vs m n (lock name k) = stays serial vs m n (lock name k)
  does_too serial vs m n (unlock name k) = stays serial vs m n (unlock name k)
  does_too serial vs m n (out r k) = stays serial vs m n (out r k)

  abbrev LeadsAt : (serial : ℕ) → (ℕ → Value) → Memory → ℕ → Type 0
  LeadsAt serial vs m n =
      Leads (relation (pair w)) (held (pair w)) w.act (there serial vs n) m (here serial vs n) m

  -- what a step costs, by its node
  abbrev cost : Option (Node ℕ) → ℕ
  cost o = price_at rtl_prices o + total (operands_at rtl_prices o)

  leads : (serial : ℕ) (vs : ℕ → Value) (m : Memory) (n : ℕ) → LeadsAt serial vs m n
  leads serial vs m n = by (slice_get g.nodes n) refl
    where
      by : (o : Option (Node ℕ)) → slice_get g.nodes n ≡ o → LeadsAt serial vs m n
      by None e =
          steps_alone (subst (λ o. Alone (relation (pair w)) (held (pair w)) w.act (there serial vs n) m m
          (step_at pseudo_registers (here serial vs n) o)) (sym e) fails_alone)
      by (Some node) e =
          let now : slice_get (map (tail_node g) g.nodes) n ≡ Some (tail_node g node) =
          map_get (tail_node g) g.nodes n ∙ ap (option_map (tail_node g)) e in
          let price : cost (Some (tail_node g node)) ≡ cost (Some node) = same_price g node in
          meets_there 0
          (subst (λ o. cost o + 0 ≤ cost (slice_get g.nodes n)) (sym now)
          (subst (λ o. cost (Some (tail_node g node)) + 0 ≤ cost o) (sym e) (omega (arith, price))))
          (subst (λ o. Does (pair w) m (step_at pseudo_registers (there serial vs n) o)
          (step_at pseudo_registers (here serial vs n) (slice_get g.nodes n))) (sym now)
          (subst (λ o. Does (pair w) m (step_at pseudo_registers (there serial vs n) (Some (tail_node g node)))
          (step_at pseudo_registers (here serial vs n) o)) (sym e) (does_too serial vs m n node)))

  -- activations begin alike
  abbrev Begins : Graph ℕ → Option (ℕ → Value) → Memory → Option (ℕ → Value) → Memory → Type 0
  Begins v o t o' s =
      BeginIf (relation (pair w)) (held (pair w)) w.act (graph.begun pseudo_registers v w.act.serial o) t
      (graph.begun pseudo_registers g w.act.serial o') s

  abbrev with_own : Graph ℕ → Memory → Memory
  with_own v m = set_blocks (fresh (Number 0)) m v.name w.act.serial 0 v.blocks

  entry_price : first_price (rtl w.graph_of).tariff (rtl w.graph_of).blocks w.act.target
      ≤ first_price (rtl w.graph_of).tariff (rtl w.graph_of).blocks w.act.source
  entry_price =
      let cells = ap (λ (v : Graph ℕ). total v.blocks) made in
      let passed = ap (λ (v : Graph ℕ). length v.parameters) made in
      omega (arith, cells, passed)

  begins : (m : Memory) (o : Option (ℕ → Value)) → Begins (tailed g) o m o m
  begins m None = tt
  begins m (Some vs) = begins_later entry_price (leads w.act.serial vs m g.entry)

  enters : (t s : Memory) → t ≡ s → (vs ws : List Value) → vs ≡ ws →
      Begins (w.graph_of w.act.target)
      (given pseudo_registers (w.graph_of w.act.target).names (w.graph_of w.act.target).parameters vs)
      (with_own (w.graph_of w.act.target) t) (given pseudo_registers g.names g.parameters ws) (with_own g s)
  enters t s same vs ws all =
      subst (λ (v : Graph ℕ). Begins v (given pseudo_registers v.names v.parameters vs) (with_own v t)
      (given pseudo_registers g.names g.parameters ws) (with_own g s)) (sym made)
      (subst (λ us. Begins (tailed g) (given pseudo_registers g.names g.parameters vs) (with_own g t)
      (given pseudo_registers g.names g.parameters us) (with_own g s)) all
      (subst (λ (v : Memory). Begins (tailed g) (given pseudo_registers g.names g.parameters vs) (with_own g t)
      (given pseudo_registers g.names g.parameters vs) (with_own g v)) same
      (begins (with_own g t) (given pseudo_registers g.names g.parameters vs))))

module _ {F : Type 0} (graph_of : F → Graph ℕ) (setting : Setting) (ts ss : List F) where
  abbrev among : Activation F F → Together F
  among act = record { graph_of = graph_of; setting = setting; targets = ts; sources = ss; act = act }

  forms : (act : Activation F F) → graph_of act.target ≡ tailed (graph_of act.source) → (x : Point ℕ) (t : Memory)
      (y : Point ℕ) (s : Memory) → MatchStates graph_of act x t y s →
      Leads (relation (pair (among act))) (held (pair (among act))) act x t y s
  forms act made x t y s (matches {serial = serial} {n = n} {vs = vs} {m = m}) = leads (among act) made serial vs m n

  steps : Steps (bare (tailcall graph_of) setting ts ss (MadeOf (unmoved (tailcall graph_of)) setting ts ss))
      (places (tailcall graph_of) setting ts ss)
  steps = record {
    forms = λ act made x t y s m. forms act made.is_made.is_made x t y s m;
    enters = λ act made t s same vs ws all.
        enters (among act) made.is_made.is_made t s same vs ws (equal_values (pair (among act)) vs ws all);
  }

pub tailcall_shown : {F : Type 0} (graph_of : F → Graph ℕ) → IsUnmoved (tailcall graph_of)
tailcall_shown graph_of = record {
  names = λ decls f g made. ap (λ v. v.name) made;
  blocks = λ decls f g made. ap (λ v. v.blocks) made;
  prices = rtl_tariff graph_of;
  waits = λ ts ss all. omega arith;
  steps = λ setting decls ts ss together. steps graph_of setting ts ss;
}
