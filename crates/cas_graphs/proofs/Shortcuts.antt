-- A graph with other numbers refines the graph.
use Rattle.std.proofs.Common.{◌≡◌, inl, ℕ, ◌+◌, ◌*◌, ◌≤◌, List, Option, Some, None, length, slice_get, refl, sym, ap, ◌∙◌, subst, arith}
use Rattle.cas_runs.specs.Naming.{Value, Number, Memory}
use Rattle.cas_runs.specs.Bounds.{total, IsTariff, first_price}
use Rattle.cas_runs.specs.Calls.{set_blocks, fresh}
use Rattle.cas_runs.specs.Held.{Activation, Leads, meets_there, steps_alone, Alone, goes_alone, fails_alone, Steps, BeginIf, begins_later}
use Rattle.cas_runs.specs.Passing.{MadeOf}
use Rattle.cas_runs.specs.Unit.{Setting}
use Rattle.cas_runs.specs.Unmoved as law
use Rattle.cas_runs.specs.Unmoved.{IsUnmoved, unmoved}
use Rattle.cas_rtl.specs.Graph as graph
use Rattle.cas_rtl.specs.Graph.{Node, nop, Graph, Point, Places, Prices, given, step_at, price_at, operands_at, graphs}
use Rattle.cas_graphs.specs.Successors.{redirected, IsReached, is_entry, follows}
use Rattle.cas_graphs.specs.Shortcut.{NopsLead, is_there, further, with_nodes, IsShortcut}
use Rattle.cas_graphs.specs.Match.{MatchStates, matches, point_of, shortcut}
use Rattle.cas_graphs.proofs.Nodes.{Pair, relation, held, Does, Redirection, node_too, same_operands, equal_values}

-- what a node costs doesn't depend on its successors
abbrev pub IsByForm : {R : Type 0} → Prices R → Type 0
IsByForm {R = R} prices = (to : ℕ → ℕ) (node : Node R) → prices.form (redirected to node) ≡ prices.form node

module _ {R F : Type 0} (places : Places R) (prices : Prices R) (graph_of : F → Graph R) (by_form : IsByForm prices)
    (setting : Setting) (ts ss : List F) where
  abbrev pair : Activation F F → Pair R F F
  pair act = record {
    places = places;
    pass = shortcut places prices graph_of;
    setting = setting;
    targets = ts;
    sources = ss;
    made = MadeOf (unmoved (shortcut places prices graph_of)) setting ts ss;
    act = act;
  }

  module _ (act : Activation F F) (made : IsShortcut (graph_of act.target) (graph_of act.source)) where
    abbrev f : Graph R
    f = graph_of act.target

    abbrev g : Graph R
    g = graph_of act.source

    -- in place of f, to which it is equal
    abbrev like_f : Graph R
    like_f = with_nodes g (made.to g.entry) f.nodes

    abbrev redirection : Redirection R
    redirection = record {
      source = g;
      entry = made.to g.entry;
      nodes = f.nodes;
      to = made.to;
      is_fine = IsReached g;
    }

    matched : (serial n : ℕ) (vs : R → Value) (m : Memory) → IsReached g n →
        MatchStates graph_of act (point_of like_f serial vs (made.to n)) m (point_of g serial vs n) m
    matched serial n vs m reached =
        subst (λ (v : Graph R). MatchStates graph_of act (point_of v serial vs (made.to n)) m (point_of g serial vs n) m)
        made.rest (matches made reached)

    abbrev LeadsFrom : (serial : ℕ) → (R → Value) → Memory → (at n : ℕ) → Type 0
    LeadsFrom serial vs m at n =
        Leads (relation (pair act)) (held (pair act)) act (point_of like_f serial vs at) m (point_of g serial vs n) m

    abbrev AloneAt : (serial : ℕ) → (R → Value) → Memory → (at n : ℕ) → Option (Node R) → Type 0
    AloneAt serial vs m at n o =
        Alone (relation (pair act)) (held (pair act)) act (point_of like_f serial vs at) m m
        (step_at places (point_of g serial vs n) o)

    -- what a step costs, by its node
    abbrev cost : Option (Node R) → ℕ
    cost o = price_at prices o + total (operands_at prices o)

    same_cost : (node : Node R) → cost (Some (redirected made.to node)) ≡ cost (Some node)
    same_cost node =
        ap (λ k. k + total (operands_at prices (Some (redirected made.to node)))) (by_form made.to node)
        ∙ ap (λ xs. prices.form node + total xs) (same_operands prices made.to node)

    -- both take the same node
    takes_node : (serial : ℕ) (vs : R → Value) (m : Memory) (at n : ℕ) (o : Option (Node R)) → slice_get g.nodes n ≡ o →
        IsReached g n →
        ((node : Node R) → slice_get g.nodes n ≡ Some node → slice_get f.nodes at ≡ Some (redirected made.to node)) →
        LeadsFrom serial vs m at n
    takes_node serial vs m at n None e reached same =
        steps_alone (subst (λ o. AloneAt serial vs m at n o) (sym e) fails_alone)
    takes_node serial vs m at n (Some node) e reached same =
        let now = same node e in
        let price : cost (Some (redirected made.to node)) ≡ cost (Some node) = same_cost node in
        meets_there 0
        (subst (λ o. cost o + 0 ≤ cost (slice_get g.nodes n)) (sym now)
        (subst (λ o. cost (Some (redirected made.to node)) + 0 ≤ cost o) (sym e) (omega (arith, price))))
        (subst (λ o. Does (pair act) m (step_at places (point_of like_f serial vs at) o)
        (step_at places (point_of g serial vs n) (slice_get g.nodes n))) (sym now)
        (subst (λ o. Does (pair act) m (step_at places (point_of like_f serial vs at) (Some (redirected made.to node)))
        (step_at places (point_of g serial vs n) o)) (sym e)
        (node_too (pair act) redirection matched serial m vs at n node (λ k is. follows node reached e is))))

    -- first the source goes along its Nops alone
    nops_alone : (serial : ℕ) (vs : R → Value) (m : Memory) (at n last : ℕ) → IsReached g n →
        ((node : Node R) → slice_get g.nodes last ≡ Some node → slice_get f.nodes at ≡ Some (redirected made.to node)) →
        NopsLead g.nodes n last →
        LeadsFrom serial vs m at n
    nops_alone serial vs m at n last reached same is_there =
        takes_node serial vs m at n (slice_get g.nodes n) refl reached same
    nops_alone serial vs m at n last reached same (further {m = k} e rest) =
        steps_alone (subst (λ o. AloneAt serial vs m at n o) (sym e)
        (goes_alone (nops_alone serial vs m at k last (follows (nop k) reached e (inl refl)) same rest)))

    leads_there : (serial : ℕ) (vs : R → Value) (m : Memory) (n : ℕ) → IsReached g n →
        LeadsFrom serial vs m (made.to n) n
    leads_there serial vs m n reached =
        let found = made.found n reached in
        nops_alone serial vs m (made.to n) n found.last reached found.same found.leads

    -- activations begin alike
    abbrev Begins : Graph R → Option (R → Value) → Memory → Option (R → Value) → Memory → Type 0
    Begins v o t o' s =
        BeginIf (relation (pair act)) (held (pair act)) act (graph.begun places v act.serial o) t
        (graph.begun places g act.serial o') s

    abbrev with_own : Graph R → Memory → Memory
    with_own v m = set_blocks (fresh (Number 0)) m v.name act.serial 0 v.blocks

    entry_price : first_price (graphs places prices graph_of).tariff (graphs places prices graph_of).blocks act.target
        ≤ first_price (graphs places prices graph_of).tariff (graphs places prices graph_of).blocks act.source
    entry_price =
        subst (λ (v : Graph R). prices.entry * (total v.blocks + 0 + length v.parameters + 8)
        ≤ prices.entry * (total g.blocks + 0 + length g.parameters + 8)) (sym made.rest) (omega arith)

    begins : (m : Memory) (o : Option (R → Value)) → Begins like_f o m o m
    begins m None = tt
    begins m (Some vs) = begins_later entry_price (leads_there act.serial vs m g.entry is_entry)

    enters : (t s : Memory) → t ≡ s → (vs ws : List Value) → vs ≡ ws →
        Begins f (given places f.names f.parameters vs) (with_own f t) (given places g.names g.parameters ws)
        (with_own g s)
    enters t s same vs ws all =
        subst (λ (v : Graph R). Begins v (given places v.names v.parameters vs) (with_own v t)
        (given places g.names g.parameters ws) (with_own g s)) (sym made.rest)
        (subst (λ us. Begins like_f (given places g.names g.parameters vs) (with_own g t)
        (given places g.names g.parameters us) (with_own g s)) all
        (subst (λ (v : Memory). Begins like_f (given places g.names g.parameters vs) (with_own g t)
        (given places g.names g.parameters vs) (with_own g v)) same
        (begins (with_own g t) (given places g.names g.parameters vs))))

  leads : (act : Activation F F) (x : Point R) (t : Memory) (y : Point R) (s : Memory) →
      MatchStates graph_of act x t y s →
      Leads (relation (pair act)) (held (pair act)) act x t y s
  leads act x t y s (matches {serial = serial} {n = n} {vs = vs} {m = m} made reached) =
      subst (λ (v : Graph R). Leads (relation (pair act)) (held (pair act)) act (point_of v serial vs (made.to n)) m
      (point_of (graph_of act.source) serial vs n) m) (sym made.rest) (leads_there act made serial vs m n reached)

  steps : Steps (law.bare (shortcut places prices graph_of) setting ts ss
      (MadeOf (unmoved (shortcut places prices graph_of)) setting ts ss))
      (law.places (shortcut places prices graph_of) setting ts ss)
  steps = record {
    forms = λ act made x t y s m. leads act x t y s m;
    enters = λ act made t s same vs ws all.
        enters act made.is_made.is_made t s same vs ws (equal_values (pair act) vs ws all);
  }

pub shortcuts_shown : {R F : Type 0} (places : Places R) (prices : Prices R) (graph_of : F → Graph R) →
    IsByForm prices →
    IsTariff (graphs places prices graph_of).tariff → IsUnmoved (shortcut places prices graph_of)
shortcuts_shown places prices graph_of by_form tariff = record {
  names = λ decls f g made. ap (λ v. v.name) made.rest;
  blocks = λ decls f g made. ap (λ v. v.blocks) made.rest;
  prices = tariff;
  waits = λ ts ss all. omega arith;
  steps = λ setting decls ts ss together. steps places prices graph_of by_form setting ts ss;
}
