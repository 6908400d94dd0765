-- A node with other successors does what the node does.
use Rattle.std.proofs.Common.{◌≡◌, inl, inr, ℕ, List, [], ◌∷◌, Option, Some, None, Bool, true, false, refl, ap, ◌∙◌, subst}
use Rattle.cas_runs.specs.Naming.{Value, Number, Pointer, Hidden, Memory}
use Rattle.cas_runs.specs.Access.{Accesses, Then, with_value, length_of}
use Rattle.cas_runs.specs.Calls.{Last, Puts}
use Rattle.cas_runs.specs.Unit.{Setting}
use Rattle.cas_runs.specs.Passing.{Relation, AllMatch}
use Rattle.cas_runs.specs.Held.{Activation, Held, Amounts, MatchIf, both_read, both_write, both_load, source_looks, target_looks, both_store, at_last, fails_too, goes_held, takes_held, gives_held, puts_held, calls_held, tails_held, returns_held}
use Rattle.cas_runs.specs.Unmoved.{Unmoved, places, bare}
use Rattle.cas_mid.specs.Operators.{either, on_word, only_if}
use Rattle.cas_mid.specs.Language.{Location, in_global, in_block}
use Rattle.cas_sel.specs.Query.{Query, asks_word, asks_place, asks_length, answers, no_answer, asking}
use Rattle.cas_sel.specs.Operations.{operate, load_by, locate, decide}
use Rattle.cas_rtl.specs.Graph as graph
use Rattle.cas_rtl.specs.Graph.{Node, nop, op, load, store, call, tail, test, return_, lock, unlock, out, Graph, Point, Places, Prices, some_if, stored_at, set, left_of, left_by, read, reads, within, resumed, node_step, node_operands}
use Rattle.cas_graphs.specs.Successors.{IsAmong, successors, redirected}
use Rattle.cas_graphs.specs.Shortcut.{with_nodes}
use Rattle.cas_graphs.specs.Match.{point_of}

-- two functions that run in a pass between languages of graphs
pub record Pair (R F G : Type 0) : Type 1 where
  pub places : Places R
  pub pass : Unmoved F (Point R) G (Point R)
  pub setting : Setting
  pub targets : List F
  pub sources : List G
  pub made : F → G → Type 0
  pub act : Activation F G

module _ {R F G : Type 0} (w : Pair R F G) where
  abbrev pub relation : Relation F (Point R) G (Point R)
  relation = bare w.pass w.setting w.targets w.sources w.made

  abbrev pub held : Held F (Point R) G (Point R)
  held = places w.pass w.setting w.targets w.sources

  abbrev Form : Type 0
  Form = Accesses (Last (Point R))

  -- both do the same, without a step more of the target
  abbrev pub Does : Memory → Form → Form → Type 0
  Does m x y = Amounts relation held w.act 0 m m x y

  -- both go on alike, if the source does
  abbrev pub GoOn : Memory → Option (Point R) → Option (Point R) → Type 0
  GoOn m x y = MatchIf relation held w.act x m y m

  pub asks_too : (m : Memory) {V : Type 0} (q : Query V) (next next' : V → Form) →
      ((v : V) → Does m (next v) (next' v)) → Does m (asking q next) (asking q next')
  asks_too m (asks_word g offset more) next next' h = both_read (λ n same. asks_too m (more n) next next' h)
  asks_too m (asks_place home place more) next next' h =
      both_load (λ v. v) (λ v e. e) (λ v e. asks_too m (more v) next next' h)
  asks_too m (asks_length home more) next next' h =
      target_looks (source_looks (asks_too m (more (length_of (m home))) next next' h))
  asks_too m (answers v) next next' h = h v
  asks_too m no_answer next next' h = fails_too

  pub value_too : (m : Memory) {V : Type 0} (o : Option V) (next next' : V → Form) →
      ((v : V) → Does m (next v) (next' v)) → Does m (with_value o next) (with_value o next')
  value_too m None next next' h = fails_too
  value_too m (Some v) next next' h = h v

  pub only_too : (m : Memory) (is : Bool) (x y : Form) → Does m x y → Does m (only_if is x) (only_if is y)
  only_too m true x y h = h
  only_too m false x y h = fails_too

  pub same_values : (us : List Value) → AllMatch relation us us
  same_values [] = tt
  same_values (u ∷ us) = (refl, same_values us)

  pub equal_values : (vs ws : List Value) → AllMatch relation vs ws → vs ≡ ws
  equal_values [] [] h = refl
  equal_values [] (w ∷ ws) h = absurd h
  equal_values (v ∷ vs) [] h = absurd h
  equal_values (v ∷ vs) (w ∷ ws) h = ap (λ u. u ∷ vs) h.0 ∙ ap (λ us. w ∷ us) (equal_values vs ws h.1)

-- a graph and the same with other nodes, in which both stand for one another at each number that is fine
pub record Redirection (R : Type 0) : Type 1 where
  pub source : Graph R
  pub entry : ℕ
  pub nodes : List (Node R)
  pub to : ℕ → ℕ
  pub is_fine : ℕ → Type 0

abbrev pub target : {R : Type 0} → Redirection R → Graph R
target d = with_nodes d.source d.entry d.nodes

-- activations of both match there
abbrev pub AllMatched : {R F G : Type 0} → Pair R F G → Redirection R → Type 0
AllMatched {R = R} w d =
    (serial n : ℕ) (vs : R → Value) (m : Memory) → d.is_fine n
    → (held w).match_states w.act (point_of (target d) serial vs (d.to n)) m (point_of d.source serial vs n) m

module _ {R F G : Type 0} (w : Pair R F G) (d : Redirection R) (matched : AllMatched w d) (serial : ℕ) where
  -- the points of both
  abbrev there : (R → Value) → ℕ → Point R
  there vs n = point_of (target d) serial vs n

  abbrev here : (R → Value) → ℕ → Point R
  here vs n = point_of d.source serial vs n

  stores_too : (m : Memory) (l : Location) (v : Value) (vs : R → Value) (n j i : ℕ) → d.is_fine n →
      Does w m (stored_at l v (graph.goes w.places (there vs j) vs (d.to n)))
      (stored_at l v (graph.goes w.places (here vs i) vs n))
  stores_too m (in_global g offset) (Number k) vs n j i fine =
      both_write refl (at_last (goes_held (matched serial n vs m fine)))
  stores_too m (in_global g offset) (Pointer home p) vs n j i fine = fails_too
  stores_too m (in_global g offset) (Hidden what) vs n j i fine = fails_too
  stores_too m (in_block home p) v vs n j i fine =
      both_store (λ room. room) tt tt (λ room. at_last (goes_held (matched serial n vs _ fine)))

  puts_too : (m : Memory) (v : Value) (vs : R → Value) (n : ℕ) → d.is_fine n →
      Does w m (on_word v (λ k. Then (Puts k (there vs (d.to n))))) (on_word v (λ k. Then (Puts k (here vs n))))
  puts_too m (Number k) vs n fine = at_last (puts_held (matched serial n vs m fine))
  puts_too m (Pointer home p) vs n fine = fails_too
  puts_too m (Hidden what) vs n fine = fails_too

  some_too : (m : Memory) (is : Bool) (vs : R → Value) (n : ℕ) → d.is_fine n →
      GoOn w m (some_if is (there vs (d.to n))) (some_if is (here vs n))
  some_too m true vs n fine = matched serial n vs m fine
  some_too m false vs n fine = tt

  resumes_too : (m : Memory) (vs : R → Value) (r : Option R) (n j i : ℕ) → d.is_fine n → (us : List Value) →
      GoOn w m (resumed w.places (there vs j) r (d.to n) us) (resumed w.places (here vs i) r n us)
  resumes_too m vs None n j i fine us = matched serial n _ m fine
  resumes_too m vs (Some r) n j i fine [] = tt
  resumes_too m vs (Some r) n j i fine (u ∷ us) = some_too m (w.places.has d.source.names r) _ n fine

  -- so does each node
  pub node_too : (m : Memory) (vs : R → Value) (j i : ℕ) (node : Node R) →
      ((n : ℕ) → IsAmong (successors node) n → d.is_fine n) →
      Does w m (node_step w.places (there vs j) (redirected d.to node)) (node_step w.places (here vs i) node)
  node_too m vs j i (nop n) fine = at_last (goes_held (matched serial n vs m (fine n (inl refl))))
  node_too m vs j i (op o ins r n) fine =
      value_too w m (reads w.places (here vs i) ins) _ _
      (λ us. asks_too w m (operate (within w.places (here vs i)) o us) _ _
      (λ v. only_too w m (w.places.has d.source.names r) _ _
      (at_last (goes_held (matched serial n _ m (fine n (inl refl)))))))
  node_too m vs j i (load mode ins r n) fine =
      value_too w m (reads w.places (here vs i) ins) _ _
      (λ us. asks_too w m (load_by (within w.places (here vs i)) mode us) _ _
      (λ v. only_too w m (w.places.has d.source.names r) _ _
      (at_last (goes_held (matched serial n _ m (fine n (inl refl)))))))
  node_too m vs j i (store mode ins r n) fine =
      value_too w m (reads w.places (here vs i) ins) _ _
      (λ us. value_too w m (read w.places (here vs i) r) _ _
      (λ v. value_too w m (locate (within w.places (here vs i)) mode us) _ _
      (λ l. stores_after m l v n (fine n (inl refl)))))
    where
      stores_after : (m : Memory) (l : Location) (v : Value) (n : ℕ) → d.is_fine n →
          Does w m (stored_at l v (graph.goes w.places (there vs j) (left_of w.places vs) (d.to n)))
          (stored_at l v (graph.goes w.places (here vs i) (left_of w.places vs) n))
      stores_after m l v n fine = stores_too m l v (left_of w.places vs) n j i fine
  node_too m vs j i (call f ins r n) fine =
      only_too w m (w.places.passes ins) _ _
      (value_too w m (reads w.places (here vs i) ins) _ _
      (λ us. at_last (calls_held (same_values w us) refl
      (λ xs zs same count t' s' tk sk equal. after t' s' equal xs zs (equal_values w xs zs same)))))
    where
      after : (t s : Memory) → t ≡ s → (xs zs : List Value) → xs ≡ zs →
          MatchIf (relation w) (held w) w.act (resumed w.places (there vs j) r (d.to n) xs) t
          (resumed w.places (here vs i) r n zs) s
      after t s equal xs zs same =
          subst (λ (a : Memory). MatchIf (relation w) (held w) w.act (resumed w.places (there vs j) r (d.to n) xs) t
          (resumed w.places (here vs i) r n zs) a) equal
          (subst (λ us. GoOn w t (resumed w.places (there vs j) r (d.to n) xs) (resumed w.places (here vs i) r n us))
          same (resumes_too t vs r n j i (fine n (inl refl)) xs))
  node_too m vs j i (tail f ins) fine =
      only_too w m (graph.are_few ins) _ _
      (only_too w m (graph.is_empty d.source.blocks) _ _
      (only_too w m (w.places.passes ins) _ _
      (value_too w m (reads w.places (here vs i) ins) _ _ (λ us. at_last (tails_held (same_values w us) refl)))))
  node_too m vs j i (test c ins n k) fine =
      value_too w m (reads w.places (here vs i) ins) _ _ (λ us. asks_too w m (decide c us) _ _ branch)
    where
      branch : (is : Bool) →
          Does w m (graph.goes w.places (there vs j) (left_of w.places vs) (either (d.to n) (d.to k) is))
          (graph.goes w.places (here vs i) (left_of w.places vs) (either n k is))
      branch true = at_last (goes_held (matched serial n _ m (fine n (inl refl))))
      branch false = at_last (goes_held (matched serial k _ m (fine k (inr (inl refl)))))
  node_too m vs j i (return_ None) fine = at_last (returns_held tt refl)
  node_too m vs j i (return_ (Some r)) fine =
      only_too w m (w.places.returns r) _ _
      (value_too w m (read w.places (here vs i) r) _ _ (λ v. at_last (returns_held (refl, tt) refl)))
  node_too m vs j i (lock name n) fine = at_last (takes_held (matched serial n _ m (fine n (inl refl))))
  node_too m vs j i (unlock name n) fine = at_last (gives_held (matched serial n _ m (fine n (inl refl))))
  node_too m vs j i (out r n) fine =
      value_too w m (read w.places (here vs i) r) _ _
      (λ v. puts_too m v (left_of w.places vs) n (fine n (inl refl)))

-- and it costs the same
pub same_operands : {R : Type 0} (prices : Prices R) (to : ℕ → ℕ) (node : Node R) →
    node_operands prices (redirected to node) ≡ node_operands prices node
same_operands prices to (nop n) = refl
same_operands prices to (op o ins r n) = refl
same_operands prices to (load mode ins r n) = refl
same_operands prices to (store mode ins r n) = refl
same_operands prices to (call f ins r n) = refl
same_operands prices to (tail f ins) = refl
same_operands prices to (test c ins n m) = refl
same_operands prices to (return_ r) = refl
same_operands prices to (lock name n) = refl
same_operands prices to (unlock name n) = refl
same_operands prices to (out r n) = refl
