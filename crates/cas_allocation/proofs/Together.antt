-- Two functions of which one is allocated, where they run among others, and what the target can do for a credit.
use Rattle.std.proofs.Common.{◌≡◌, ℕ, ◌+◌, ◌≤◌, List, [], ◌∷◌, Option, Some, None, true, slice_get, refl, sym, ap, ◌∙◌, subst, arith}
use Rattle.cas_runs.specs.Naming.{Value, Memory}
use Rattle.cas_runs.specs.Bounds.{total}
use Rattle.cas_runs.specs.Access.{Accesses, with_value, length_of}
use Rattle.cas_runs.specs.Calls.{Last}
use Rattle.cas_runs.specs.Held.{Activation, Held, Amounts, both_read, both_load, source_reads, source_loads, source_looks, target_looks, onward, fails_too}
use Rattle.cas_runs.specs.Passing.{Relation, AllMatch, MadeOf}
use Rattle.cas_runs.specs.Unit.{Setting}
use Rattle.cas_mid.specs.Operators.{only_if}
use Rattle.cas_sel.specs.declared.tree.Op.TheVariants.{Move}
use Rattle.cas_sel.specs.Query.{Query, asks_word, asks_place, asks_length, answers, no_answer, asking}
use Rattle.cas_sel.specs.Operations.{operate}
use Rattle.cas_rtl.specs.Graph as graph
use Rattle.cas_rtl.specs.Graph.{Node, op, Graph, Point, one_more, set, within, node_step, step_at, price_at, operands_at}
use Rattle.cas_rtl.specs.Rtl.{rtl_prices}
use Rattle.cas_ltl.specs.declared.tree.Loc.{Loc}
use Rattle.cas_ltl.specs.Locations.{is_there, locations}
use Rattle.cas_ltl.specs.Ltl.{ltl_prices}
use Rattle.cas_graphs.specs.Match.{point_of}
use Rattle.cas_allocation.specs.Match.{allocation}
use Rattle.cas_allocation.specs.Usable.{bare, places, with_usable}
use Rattle.cas_allocation.proofs.Reading.{Values, with_place, read_of_place}

pub record Together (F G : Type 0) : Type 1 where
  pub target_graph : F → Graph Loc
  pub source_graph : G → Graph ℕ
  pub setting : Setting
  pub targets : List F
  pub sources : List G
  pub act : Activation F G

-- what a step of LTL or of RTL costs, by its node
abbrev pub target_cost : Option (Node Loc) → ℕ
target_cost o = price_at ltl_prices o + total (operands_at ltl_prices o)

abbrev pub source_cost : Option (Node ℕ) → ℕ
source_cost o = price_at rtl_prices o + total (operands_at rtl_prices o)

module _ {F G : Type 0} (w : Together F G) where
  abbrev pub relation : Relation F (Point Loc) G (Point ℕ)
  relation =
      bare (allocation w.target_graph w.source_graph) w.setting w.targets w.sources
      (MadeOf (with_usable (allocation w.target_graph w.source_graph)) w.setting w.targets w.sources)

  abbrev pub held : Held F (Point Loc) G (Point ℕ)
  held = places (allocation w.target_graph w.source_graph) w.setting w.targets w.sources

  abbrev pub target_of : Graph Loc
  target_of = w.target_graph w.act.target

  abbrev pub source_of : Graph ℕ
  source_of = w.source_graph w.act.source

  abbrev pub TForm : Type 0
  TForm = Accesses (Last (Point Loc))

  abbrev pub SForm : Type 0
  SForm = Accesses (Last (Point ℕ))

  -- both do the same, and the target's steps cost at most so much
  abbrev pub Does : ℕ → Memory → TForm → SForm → Type 0
  Does credit m x y = Amounts relation held w.act credit m m x y

  pub equal_values : (vs ws : List Value) → AllMatch relation vs ws → vs ≡ ws
  equal_values [] [] h = refl
  equal_values [] (w ∷ ws) h = absurd h
  equal_values (v ∷ vs) [] h = absurd h
  equal_values (v ∷ vs) (w ∷ ws) h = ap (λ u. u ∷ vs) h.0.0 ∙ ap (λ us. w ∷ us) (equal_values vs ws h.1)

  -- what both ask for
  pub asks_too : (c : ℕ) (m : Memory) {V : Type 0} (q : Query V) (next : V → TForm) (next' : V → SForm) →
      ((v : V) → Does c m (next v) (next' v)) → Does c m (asking q next) (asking q next')
  asks_too c m (asks_word global offset more) next next' h =
      both_read (λ v same. asks_too c m (more v) next next' h)
  asks_too c m (asks_place home p more) next next' h =
      both_load (λ v. v) (λ x e. e) (λ x e. asks_too c m (more x) next next' h)
  asks_too c m (asks_length home more) next next' h =
      target_looks (source_looks (asks_too c m (more (length_of (m home))) next next' h))
  asks_too c m (answers v) next next' h = h v
  asks_too c m no_answer next next' h = fails_too

  -- what the source asks for alone, where the answer isn't used
  pub asks_alone : (c : ℕ) (m : Memory) {V : Type 0} (x : TForm) (q : Query V) (next : V → SForm) →
      ((v : V) → Does c m x (next v)) → Does c m x (asking q next)
  asks_alone c m x (asks_word global offset more) next h = source_reads (λ v same. asks_alone c m x (more v) next h)
  asks_alone c m x (asks_place home p more) next h = source_loads (λ v there. asks_alone c m x (more v) next h)
  asks_alone c m x (asks_length home more) next h = source_looks (asks_alone c m x (more (length_of (m home))) next h)
  asks_alone c m x (answers v) next h = h v
  asks_alone c m x no_answer next h = fails_too

  pub value_alone : (c : ℕ) (m : Memory) {V : Type 0} (x : TForm) (o : Option V) (next : V → SForm) →
      ((v : V) → o ≡ Some v → Does c m x (next v)) → Does c m x (with_value o next)
  value_alone c m x None next h = fails_too
  value_alone c m x (Some v) next h = h v refl

  module _ (serial : ℕ) where
    abbrev pub there : Values → ℕ → Point Loc
    there ls k = point_of target_of serial ls k

    abbrev pub here : (ℕ → Value) → ℕ → Point ℕ
    here vs i = point_of source_of serial vs i

    -- the target can go on from here for so much, its first step included, and does what the source does
    pub record Can (c : ℕ) (m : Memory) (x : Point Loc) (y : SForm) : Type 0 where
      pub credit : ℕ
      pub price : target_cost (slice_get x.graph.nodes x.at) + credit ≤ c
      pub does : Does credit m (graph.step locations x) y

    pub can_more : (c c' : ℕ) (m : Memory) (x : Point Loc) (y : SForm) → c ≤ c' → Can c m x y → Can c' m x y
    can_more c c' m x y le h =
        let price = h.price in record { credit = h.credit; price = omega (arith, price, le); does = h.does }

    pub can_at : (c credit : ℕ) (m : Memory) (ls : Values) (k : ℕ) (node : Node Loc) (y : SForm) →
        slice_get target_of.nodes k ≡ Some node → target_cost (Some node) + credit ≤ c →
        Does credit m (node_step locations (there ls k) node) y → Can c m (there ls k) y
    can_at c credit m ls k node y e le h = record {
      credit = credit;
      price = subst (λ o. target_cost o + credit ≤ c) (sym e) le;
      does = subst (λ o. Does credit m (step_at locations (there ls k) o) y) (sym e) h;
    }

    -- a move
    pub step_move : (c : ℕ) (m : Memory) (ls : Values) (k l : ℕ) (p d : Loc) (u : Value) (y : SForm) →
        slice_get target_of.nodes k ≡ Some (op Move (p ∷ []) d l) → read_of_place target_of serial ls p ≡ Some u →
        is_there target_of.names d ≡ true → Can c m (there (with_place ls d u) l) y → Can (c + 5) m (there ls k) y
    step_move c m ls k l p d u y e got is h =
        let price = h.price in
        can_at (c + 5) c m ls k (op Move (p ∷ []) d l) y e (omega arith)
        (subst (λ o. Does c m (with_value (one_more o (Some []))
        (λ us. asking (operate (within locations (there ls k)) Move us)
        (λ v. graph.sets locations (there ls k) ls d v l))) y) (sym got)
        (subst (λ b. Does c m (only_if b (graph.goes locations (there ls k) (with_place ls d u) l)) y) (sym is)
        (onward (there (with_place ls d u) l) h.credit price h.does)))
