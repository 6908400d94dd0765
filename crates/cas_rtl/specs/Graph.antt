-- Languages of graphs. A function is a graph of nodes over places that hold values: pseudo-registers in RTL, registers
-- and slots in LTL. Each step takes one node. Whatever reads a place that holds no usable value fails.
use Rattle.std.specs.Prelude.{ℕ, Bool, true, false, nat_lt, List, [], ◌∷◌, ◌++◌, length, Option, Some, None, slice_get}
use Rattle.cas_runs.specs.Label.{NameBytes}
use Rattle.cas_runs.specs.Naming.{Value, Number, Hidden, Unset, and_then, usable}
use Rattle.cas_runs.specs.Bounds.{Tariff, ByForms}
use Rattle.cas_runs.specs.Access.{Accesses, Writes, Stores, Then, Fails, with_value}
use Rattle.cas_runs.specs.Calls.{Last, Goes, Takes, Gives, Puts, Calls, Tails, Returns, Activations}
use Rattle.cas_mid.specs.Operators.{either, on_word, only_if}
use Rattle.cas_mid.specs.Language.{Location, in_global, in_block}
use Rattle.cas_sel.specs.declared.tree.Op.{Op}
use Rattle.cas_sel.specs.declared.tree.Op.TheVariants.{Move}
use Rattle.cas_sel.specs.declared.tree.Mode.{Mode}
use Rattle.cas_sel.specs.declared.tree.Cond.{Cond}
use Rattle.cas_sel.specs.Query.{asking}
use Rattle.cas_sel.specs.Operations.{Within, operate, locate, load_by, decide}

-- a node over places R, with the numbers of the nodes that may follow
pub data Node (R : Type 0) : Type 0 where
  nop : (next : ℕ) → Node R
  op : Op → (operands : List R) → (result : R) → (next : ℕ) → Node R
  load : Mode → (operands : List R) → (result : R) → (next : ℕ) → Node R
  store : Mode → (operands : List R) → (stored : R) → (next : ℕ) → Node R
  call : (function : NameBytes) → (arguments : List R) → (result : Option R) → (next : ℕ) → Node R
  tail : (function : NameBytes) → (arguments : List R) → Node R
  test : Cond → (operands : List R) → (next other : ℕ) → Node R
  return_ : (result : Option R) → Node R
  lock : (name : NameBytes) → (next : ℕ) → Node R
  unlock : (name : NameBytes) → (next : ℕ) → Node R
  out : (word : R) → (next : ℕ) → Node R

-- a function
pub record Graph (R : Type 0) : Type 0 where
  pub name : NameBytes
  pub parameters : List R
  pub blocks : List ℕ
  -- how many pseudo-registers or slots it has
  pub names : ℕ
  pub entry : ℕ
  pub nodes : List (Node R)

-- where an activation is: at this node, with these values in the places
pub record Point (R : Type 0) : Type 0 where
  pub graph : Graph R
  pub serial : ℕ
  pub values : R → Value
  pub at : ℕ

-- what the places of a language are
pub record Places (R : Type 0) : Type 0 where
  pub equal : R → R → Bool
  -- the place is there in a function with so many pseudo-registers or slots
  pub has : ℕ → R → Bool
  -- each form but a move may lose what is there
  pub scratched : R → Bool
  -- what is there at first
  pub first : R → Value
  -- where arguments and results have to be
  pub passes : List R → Bool
  pub returns : R → Bool

-- what steps cost: each form by itself, each place that is read, what is passed or returned besides, and entries
pub record Prices (R : Type 0) : Type 0 where
  pub form : Node R → ℕ
  pub operand : ℕ
  pub argument : ℕ
  pub entry : ℕ

-- a value more, where all are there
abbrev pub one_more : Option Value → Option (List Value) → Option (List Value)
one_more None vs = None
one_more (Some v) None = None
one_more (Some v) (Some vs) = Some (v ∷ vs)

abbrev pub is_empty : List ℕ → Bool
is_empty [] = true
is_empty (n ∷ ns) = false

-- a tail call passes at most three arguments
abbrev pub are_few : {R : Type 0} → List R → Bool
are_few args = nat_lt (length args) 4

abbrev pub some_if : {A : Type 0} → Bool → A → Option A
some_if true x = Some x
some_if false x = None

-- the word gets a value, and the step goes on
abbrev pub stored_at : {L : Type 0} → Location → Value → Accesses L → Accesses L
stored_at (in_global g offset) v rest = on_word v (λ n. Writes g offset n rest)
stored_at (in_block home place) v rest = Stores home place v rest

module _ {R : Type 0} (places : Places R) where
  abbrev pub set : (R → Value) → R → Value → R → Value
  set vs r v q = either v (vs q) (places.equal q r)

  -- what a form leaves in the places
  abbrev pub left_of : (R → Value) → R → Value
  left_of vs q = either (Hidden Unset) (vs q) (places.scratched q)

  abbrev pub left_by : Op → (R → Value) → R → Value
  left_by Move vs = vs
  left_by o vs = left_of vs

  -- the value at a place of the function, if it may be used
  abbrev pub read : Point R → R → Option Value
  read p r = either (usable (p.values r)) None (places.has p.graph.names r)

  abbrev pub reads : Point R → List R → Option (List Value)
  reads p [] = Some []
  reads p (r ∷ rs) = one_more (read p r) (reads p rs)

  abbrev pub within : Point R → Within
  within p = record { function = p.graph.name; serial = p.serial }

  -- at another node, with these values
  abbrev pub moved : Point R → (R → Value) → (at : ℕ) → Point R
  moved p vs n = record { graph = p.graph; serial = p.serial; values = vs; at = n }

  abbrev pub goes : Point R → (R → Value) → (at : ℕ) → Accesses (Last (Point R))
  goes p vs n = Then (Goes (moved p vs n))

  -- a place of the function gets a value
  abbrev pub sets : Point R → (R → Value) → R → Value → (at : ℕ) → Accesses (Last (Point R))
  sets p vs r v n = only_if (places.has p.graph.names r) (goes p (set vs r v) n)

  -- the caller goes on with what was returned
  abbrev pub resumed : Point R → Option R → (at : ℕ) → List Value → Option (Point R)
  resumed p None n us = Some (moved p (left_of p.values) n)
  resumed p (Some r) n [] = None
  resumed p (Some r) n (v ∷ vs) = some_if (places.has p.graph.names r) (moved p (set (left_of p.values) r v) n)

  -- the step of a node
  abbrev pub node_step : Point R → Node R → Accesses (Last (Point R))
  node_step p (nop n) = goes p p.values n
  node_step p (op o ins r n) =
      with_value (reads p ins) (λ us. asking (operate (within p) o us) (λ v. sets p (left_by o p.values) r v n))
  node_step p (load m ins r n) =
      with_value (reads p ins) (λ us. asking (load_by (within p) m us) (λ v. sets p (left_of p.values) r v n))
  node_step p (store m ins r n) =
      with_value (reads p ins)
      (λ us. with_value (read p r)
      (λ v. with_value (locate (within p) m us) (λ l. stored_at l v (goes p (left_of p.values) n))))
  node_step p (call f ins r n) =
      only_if (places.passes ins) (with_value (reads p ins) (λ us. Then (Calls f us (resumed p r n))))
  node_step p (tail f ins) =
      only_if (are_few ins)
      (only_if (is_empty p.graph.blocks)
      (only_if (places.passes ins) (with_value (reads p ins) (λ us. Then (Tails f us)))))
  node_step p (test c ins n m) =
      with_value (reads p ins) (λ us. asking (decide c us) (λ is. goes p (left_of p.values) (either n m is)))
  node_step p (return_ None) = Then (Returns [])
  node_step p (return_ (Some r)) =
      only_if (places.returns r) (with_value (read p r) (λ v. Then (Returns (v ∷ []))))
  node_step p (lock name n) = Then (Takes name (moved p (left_of p.values) n))
  node_step p (unlock name n) = Then (Gives name (moved p (left_of p.values) n))
  node_step p (out r n) =
      with_value (read p r) (λ v. on_word v (λ w. Then (Puts w (moved p (left_of p.values) n))))

  -- where the node isn't there the step has no meaning
  abbrev pub step_at : Point R → Option (Node R) → Accesses (Last (Point R))
  step_at p None = Fails
  step_at p (Some node) = node_step p node

  abbrev pub step : Point R → Accesses (Last (Point R))
  step p = step_at p (slice_get p.graph.nodes p.at)

  -- the places with the arguments. Where one place is of several parameters, the first counts
  abbrev pub given : ℕ → List R → List Value → Option (R → Value)
  given names [] [] = Some places.first
  given names [] (v ∷ vs) = None
  given names (r ∷ rs) [] = None
  given names (r ∷ rs) (v ∷ vs) = and_then (given names rs vs) (λ ws. some_if (places.has names r) (set ws r v))

  abbrev pub begun : Graph R → (serial : ℕ) → Option (R → Value) → Option (Point R)
  begun g serial None = None
  begun g serial (Some vs) = Some (record { graph = g; serial = serial; values = vs; at = g.entry })

module _ {R : Type 0} (prices : Prices R) where
  abbrev pub each_operand : List R → List ℕ
  each_operand [] = []
  each_operand (r ∷ rs) = prices.operand ∷ each_operand rs

  abbrev pub each_argument : List R → List ℕ
  each_argument [] = []
  each_argument (r ∷ rs) = prices.operand ∷ prices.argument ∷ each_argument rs

  abbrev pub one_returned : Option R → List ℕ
  one_returned None = []
  one_returned (Some r) = prices.operand ∷ prices.argument ∷ []

  -- what a node reads costs so much
  abbrev pub node_operands : Node R → List ℕ
  node_operands (op o ins r n) = each_operand ins
  node_operands (load m ins r n) = each_operand ins
  node_operands (store m ins r n) = prices.operand ∷ each_operand ins
  node_operands (call f ins r n) = each_argument ins
  node_operands (tail f ins) = each_argument ins
  node_operands (test c ins n m) = each_operand ins
  node_operands (return_ r) = one_returned r
  node_operands (out r n) = prices.operand ∷ []
  node_operands _ = []

  -- the price of a step, where its node is there
  abbrev pub price_at : Option (Node R) → ℕ
  price_at None = 1
  price_at (Some node) = prices.form node

  abbrev pub operands_at : Option (Node R) → List ℕ
  operands_at None = []
  operands_at (Some node) = node_operands node

  abbrev pub all_prices : List (Node R) → List ℕ
  all_prices [] = []
  all_prices (node ∷ nodes) = prices.form node ∷ node_operands node ++ all_prices nodes

  -- an entry costs its block and its parameters
  abbrev pub tariff_of : {F : Type 0} → (F → Graph R) → Tariff F (Point R)
  tariff_of graph =
      ByForms (λ p. price_at (slice_get p.graph.nodes p.at)) (λ p. operands_at (slice_get p.graph.nodes p.at))
      prices.entry (λ f. 0) (λ f. length (graph f).parameters) (λ f. all_prices (graph f).nodes)

-- the language, over functions F that stand for graphs
abbrev pub graphs : {R F : Type 0} → Places R → Prices R → (F → Graph R) → Activations F (Point R)
graphs places prices graph = record {
  name = λ f. (graph f).name;
  blocks = λ f. (graph f).blocks;
  first_word = Number 0;
  enter =
      λ f serial vs. begun places (graph f) serial (given places (graph f).names (graph f).parameters vs);
  form = step places;
  tariff = tariff_of prices graph;
}
