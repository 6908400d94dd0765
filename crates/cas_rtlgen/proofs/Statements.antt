-- Statements that have nodes.
use Rattle.std.proofs.Common.{◌≡◌, ℕ, ◌+◌, ◌*◌, ◌<◌, ◌≤◌, List, [], ◌∷◌, ◌++◌, Option, Some, None, Bool, true, false, if◌then◌else◌, length, slice_get, slice_set, nat_eq, nat_lt, refl, sym, ap, ◌∙◌, subst, lt-ltb, ltb-true, eqb-true, arith}
use Rattle.std.proofs.lemmas.Bool.Decides.{nat_tests}
use Rattle.cas_runs.specs.Label.{NameBytes, Both}
use Rattle.cas_runs.specs.Naming.{Value, Memory}
use Rattle.cas_runs.specs.Bounds.{total}
use Rattle.cas_runs.specs.Access.{Then, Fails, with_value}
use Rattle.cas_runs.specs.Calls.{Goes, Puts, Calls, Returns}
use Rattle.cas_runs.specs.Held.{MatchIf, goes_held, takes_held, gives_held, puts_held, calls_held, returns_held, both_write, both_store, at_last, fails_too}
use Rattle.cas_runs.specs.Passing.{AllMatch}
use Rattle.cas_runs.proofs.Cells.{set_same, set_other, set_length}
use Rattle.cas_mid.proofs.Translating.{total_append}
use Rattle.cas_mid.specs.Operators.{either, on_word}
use Rattle.cas_mid.specs.Trees as st
use Rattle.cas_mid.specs.Language as language
use Rattle.cas_mid.specs.Language.{Location, in_global, in_block, begin, statement, stores, with_temporary, argument_prices}
use Rattle.cas_sel.specs.Operations.{locate}
use Rattle.cas_sel.specs.Trees.{Expr, Test, Address, Statement, listed}
use Rattle.cas_sel.specs.CminorSel.{SelState, sel_parts, within, value, values, value_prices, all_prices, test_prices}
use Rattle.cas_rtl.specs.Graph as graph
use Rattle.cas_rtl.specs.Graph.{Node, Graph, Point, some_if, stored_at, read, each_argument, node_step}
use Rattle.cas_rtl.specs.Rtl.{pseudo_registers, rtl_prices}
use Rattle.cas_rtlgen.specs.Makes.{Body, Span, AreApart, AreThere, At, Into, FindsOne, Finds, finds_none, finds_more, Decides, loops}
use Rattle.cas_rtlgen.specs.Makes as made
use Rattle.cas_rtlgen.specs.Match.{Continuation, MatchRest, begins, MatchFrame, matches}
use Rattle.cas_rtlgen.proofs.Queries.{TForm, SForm, Stage, R, held, word_too}
use Rattle.cas_rtlgen.proofs.Values as runs_of
use Rattle.cas_rtlgen.proofs.Values.{Values, with_register, set_here, set_else, Have, have_kept, read_is, reading}

-- a temporary is set
frame_sets : (b : Body) (temps : List Value) (vs : Values) (t : ℕ) (v : Value) → MatchFrame b temps vs →
    t < length temps → MatchFrame b (slice_set temps t v) (with_register vs t v)
frame_sets b temps vs t v h inside = record {
  count = set_length temps t v ∙ h.count;
  held = λ u x e. each u x e (nat_eq t u) refl;
}
  where
    each : (u : ℕ) (x : Value) → slice_get (slice_set temps t v) u ≡ Some x → (is : Bool) → nat_eq t u ≡ is →
        with_register vs t v u ≡ x
    each u x e true d =
        let here : t ≡ u = eqb-true t u d in
        let is : v ≡ x = (
        let a = set_same temps t v inside in
        let b : slice_get (slice_set temps t v) t ≡ Some x =
        ap (λ j. slice_get (slice_set temps t v) j) here ∙ e in cc (a, b)) in
        ap (λ j. with_register vs t v j) (sym here) ∙ set_here vs t v ∙ is
    each u x e false d =
        let differ : t ≡ u → ⊥ = λ i. (let yes : nat_eq t u ≡ true = grind (arith, nat_tests, i) in cc (yes, d)) in
        set_else vs t u v differ ∙ h.held u x (sym (set_other temps t u v differ) ∙ e)

-- arguments as operands
values_listed : (f : language.Frame) (es : List Expr) (k : List Value → SForm) →
    language.values sel_parts f es k ≡ values f (listed es) k
values_listed f [] k = refl
values_listed f (e ∷ es) k = ap (λ next. value f e next) (λ i v. values_listed f es (λ vs. k (v ∷ vs)) i)

pub prices_listed : (es : List Expr) → total (argument_prices sel_parts es) ≡ total (all_prices (listed es))
    + 8 * length es
prices_listed [] = omega arith
prices_listed (e ∷ es) =
    let rest = prices_listed es in
    let sum = total_append (value_prices e) (argument_prices sel_parts es) in
    let sum_two = total_append (value_prices e) (all_prices (listed es)) in
    omega (arith, rest, sum, sum_two)

arguments_cost : {b : Body} {span : Span} {i j : ℕ} {args : List ℕ} (es : List Expr) →
    Finds b span (listed es) i j args →
    total (each_argument rtl_prices args) ≡ reading args + 8 * length es
arguments_cost [] finds_none = omega arith
arguments_cost (e ∷ es) (finds_more one two found w others w' apart) =
    let rest = arguments_cost es others in omega (arith, rest)

same_all : (vs : List Value) → Both (λ v w. v ≡ w) vs vs
same_all [] = tt
same_all (v ∷ vs) = (refl, same_all vs)

module _ {F : Type 0} (stage : Stage F) where
  abbrev G : Graph ℕ
  G = runs_of.G stage

  abbrev B : Body
  B = runs_of.B stage

  abbrev Fr : language.Frame
  Fr = runs_of.Fr stage

  abbrev P : Values → ℕ → Point ℕ
  P vs i = runs_of.P stage vs i

  abbrev Does : ℕ → TForm → SForm → Type 0
  Does credit x y = runs_of.Does stage credit x y

  abbrev pub Goal : ℕ → Values → ℕ → SForm → Type 0
  Goal credit vs i y = runs_of.Runs stage credit (P vs i) y

  abbrev Fits : Values → Type 0
  Fits vs = MatchFrame B stage.temps vs

  abbrev Its : List ℕ → Continuation → ℕ → Type 0
  Its exits its i = MatchRest B exits its i

  abbrev Is : Span → Type 0
  Is span = B.temporaries ≤ span.low

  here_is : (vs : Values) (i : ℕ) (node : Node ℕ) → At B i node → (credit : ℕ) {y : SForm} →
      runs_of.node_cost node ≤ credit → Does 0 (node_step pseudo_registers (P vs i) node) y → Goal credit vs i y
  here_is vs i node here credit le a =
      runs_of.at_node stage vs i node here 0 credit (omega (arith, le)) a

  costs_at : (i : ℕ) (node : Node ℕ) (most : ℕ) → At B i node → runs_of.node_cost node ≤ most →
      runs_of.Costs stage i most
  costs_at i node most here le =
      runs_of.costs_at stage i node most here le

  -- an assignment
  pub set_runs : {exits : List ℕ} {span : Span} {i j t : ℕ} {e : Expr} → Into B span e i j t → Is span →
      (vs : Values) → Fits vs → (its : Continuation) → Its exits its j →
      Goal (1 + total (value_prices e)) vs i (statement sel_parts Fr (st.set t e) its)
  set_runs {j = j} {t = t} into above vs fits its rest =
      runs_of.into_run stage into above vs fits 0 _ (omega arith) _
      (λ vs' fits' kept v usable. by vs' fits' v (nat_lt t (length stage.temps)) refl)
    where
      by : (vs' : Values) → Fits vs' → (v : Value) (is : Bool) → nat_lt t (length stage.temps) ≡ is →
          Does 0 (runs_of.Sets stage vs' t v j)
          (if is then language.goes sel_parts (with_temporary Fr t v) its else Fails)
      by vs' fits' v false d = fails_too
      by vs' fits' v true d =
          let inside = ltb-true t (length stage.temps) d in
          let count = fits'.count in
          runs_of.sets_at stage vs' t j
          (runs_of.names_too stage (omega (arith, inside, count))) v 0 _
          (at_last (goes_held (matches (frame_sets B stage.temps vs' t v fits' inside) rest)))

  -- a store
  stored : {exits : List ℕ} {j : ℕ} (l : Location) (v : Value) (vs : Values) → Fits vs → (its : Continuation) →
      Its exits its j →
      Does 0 (stored_at l v (Then (Goes (P vs j)))) (stores sel_parts l v (language.goes sel_parts Fr its))
  stored (in_global g offset) v vs fits its rest =
      word_too stage 0 v _ _ (λ x. both_write refl (at_last (goes_held (matches fits rest))))
  stored (in_block home place) v vs fits its rest =
      both_store (λ there. there) tt tt (λ there. at_last (goes_held (matches fits rest)))

  pub store_runs : {exits : List ℕ} {one two : Span} {i l j k r : ℕ} {a : Address} {e : Expr} {args : List ℕ} →
      Finds B one a.operands i l args → Is one → FindsOne B two e l j r → Is two →
      (AreThere B a.operands → AreApart two args) → At B j (graph.store a.mode args r k) → (vs : Values) → Fits vs →
      (its : Continuation) → Its exits its k →
      Goal (9 + total (all_prices a.operands ++ value_prices e)) vs i (statement sel_parts Fr (st.store a e) its)
  store_runs {two = two} {l = l} {j = j} {k = k} {r = r} {a = a} {e = e} {args = args} ops above found above' apart here
      vs fits its rest =
      let sum = total_append (all_prices a.operands) (value_prices e) in
      runs_of.all_run stage ops above vs fits (total (value_prices e) + 9)
      _ (omega (arith, sum)) cost _
      (λ vs' fits' kept there us have. by vs' fits' there us have (locate (within Fr) a.mode us) refl)
    where
      cost : runs_of.Costs stage l
          (reading args + (total (value_prices e) + 9))
      cost =
          let first = runs_of.one_least stage e in
          runs_of.first_of_one stage found _ (omega arith)
          (costs_at j _ _ here (omega (arith, first)))

      by : (vs' : Values) → Fits vs' → AreThere B a.operands → (us : List Value) → Have G.names vs' args us →
          (o : Option Location) → locate (within Fr) a.mode us ≡ o →
          Goal (reading args + (total (value_prices e) + 9)) vs' l
          (with_value o (λ at. value Fr e (λ v. stores sel_parts at v (language.goes sel_parts Fr its))))
      by vs' fits' there us have None is =
          runs_of.fails_at stage vs' l _ cost
      by vs' fits' there us have (Some at) is =
          runs_of.one_run stage found above' vs' fits' (reading args + 9)
          _ (omega arith) (costs_at j _ _ here (omega arith)) _
          (λ vs'' fits'' kept there' v less found'.
          here_is vs'' j _ here _ (omega arith)
          (runs_of.reads_too stage vs'' j
          (have_kept G.names two args (apart there) vs' vs'' kept have) 0 _ _
          (subst (λ o. Does 0 (with_value o (λ u. with_value (locate (within Fr) a.mode us)
          (λ at'. stored_at at' u (Then (Goes (P vs'' k)))))) (stores sel_parts at v (language.goes sel_parts Fr its)))
          (sym (read_is (P vs'' j) r v less found'))
          (subst (λ o. Does 0 (with_value o (λ at'. stored_at at' v (Then (Goes (P vs'' k)))))
          (stores sel_parts at v (language.goes sel_parts Fr its))) (sym is)
          (stored at v vs'' fits'' its rest)))))

  -- a condition
  pub if_runs : {exits : List ℕ} {span : Span} {i left right j : ℕ} {c : Test} {a b : Statement} →
      Decides B span c i left right → Is span → made.Does B exits a left j → made.Does B exits b right j →
      (vs : Values) → Fits vs → (its : Continuation) → Its exits its j →
      Goal (10 + total (test_prices c)) vs i (statement sel_parts Fr (st.if_else c a b) its)
  if_runs {left = left} {right = right} {a = a} {b = b} decides above one two vs fits its rest =
      runs_of.test_run stage decides above vs fits 0 _ (omega arith) _
      (λ vs' fits' kept is. by vs' fits' is)
    where
      by : (vs' : Values) → Fits vs' → (is : Bool) → Does 0 (Then (Goes (P vs' (either left right is))))
          (language.goes sel_parts Fr (begin (either a b is) ∷ its))
      by vs' fits' true = at_last (goes_held (matches fits' (begins one rest)))
      by vs' fits' false = at_last (goes_held (matches fits' (begins two rest)))

  -- a loop
  pub loop_runs : {exits : List ℕ} {a : Statement} {i j k : ℕ} → At B i (graph.nop j) → made.Does B exits a j i →
      (vs : Values) → Fits vs → (its : Continuation) → Its exits its k →
      Goal 7 vs i (statement sel_parts Fr (st.loop a) its)
  loop_runs {i = i} here a vs fits its rest =
      here_is vs i _ here 7 (omega arith) (at_last (goes_held (matches fits (begins a (begins (loops here a) rest)))))

  pub return_nothing_runs : {i : ℕ} → At B i (graph.return_ None) → (vs : Values) (its : Continuation) →
      Goal 13 vs i (statement sel_parts Fr (st.return_ None) its)
  return_nothing_runs {i = i} here vs its = here_is vs i _ here 13 (omega arith) (at_last (returns_held tt refl))

  pub return_runs : {span : Span} {i j r : ℕ} {e : Expr} → FindsOne B span e i j r → Is span →
      At B j (graph.return_ (Some r)) → (vs : Values) → Fits vs → (its : Continuation) →
      Goal (13 + (8 + total (value_prices e))) vs i (statement sel_parts Fr (st.return_ (Some e)) its)
  return_runs {j = j} {r = r} found above here vs fits its =
      runs_of.one_run stage found above vs fits 21 _ (omega arith)
      (costs_at j _ _ here (omega arith)) _
      (λ vs' fits' kept there v less is.
      here_is vs' j _ here _ (omega arith)
      (subst (λ o. Does 0 (with_value o (λ u. Then (Returns (u ∷ [])))) (Then (Returns (v ∷ []))))
      (sym (read_is (P vs' j) r v less is)) (at_last (returns_held (refl, tt) refl))))

  pub lock_runs : {exits : List ℕ} {i j : ℕ} {name : NameBytes} → At B i (graph.lock name j) → (vs : Values) → Fits vs →
      (its : Continuation) → Its exits its j → Goal 10 vs i (statement sel_parts Fr (st.lock name) its)
  lock_runs {i = i} here vs fits its rest =
      here_is vs i _ here 10 (omega arith) (at_last (takes_held (matches fits rest)))

  pub unlock_runs : {exits : List ℕ} {i j : ℕ} {name : NameBytes} → At B i (graph.unlock name j) → (vs : Values) →
      Fits vs → (its : Continuation) → Its exits its j → Goal 10 vs i (statement sel_parts Fr (st.unlock name) its)
  unlock_runs {i = i} here vs fits its rest =
      here_is vs i _ here 10 (omega arith) (at_last (gives_held (matches fits rest)))

  pub print_runs : {exits : List ℕ} {span : Span} {i j r k : ℕ} {e : Expr} → FindsOne B span e i j r → Is span →
      At B j (graph.out r k) → (vs : Values) → Fits vs → (its : Continuation) → Its exits its k →
      Goal (9 + total (value_prices e)) vs i (statement sel_parts Fr (st.print e) its)
  print_runs {j = j} {r = r} {k = k} found above here vs fits its rest =
      runs_of.one_run stage found above vs fits 9 _ (omega arith)
      (costs_at j _ _ here (omega arith)) _
      (λ vs' fits' kept there v less is.
      here_is vs' j _ here _ (omega arith)
      (subst (λ o. Does 0 (with_value o (λ u. on_word u (λ x. Then (Puts x (P vs' k)))))
      (on_word v (λ x. Then (Puts x (language.at sel_parts Fr its))))) (sym (read_is (P vs' j) r v less is))
      (word_too stage 0 v _ _ (λ x. at_last (puts_held (matches fits' rest))))))

  -- the caller goes on
  abbrev Resumes : Option (Point ℕ) → Option SelState → Memory → Type 0
  Resumes x y m' = MatchIf (R stage.together) (held stage.together) stage.act x m' y m'

  resumed_at : {exits : List ℕ} {j : ℕ} (i : ℕ) (o : Option ℕ) (vs : Values) → Fits vs → (its : Continuation) →
      Its exits its j → (us xs : List Value) → AllMatch (R stage.together) us xs → (m' : Memory) →
      Resumes (graph.resumed pseudo_registers (P vs i) o j us) (language.resumed sel_parts Fr o its xs) m'
  resumed_at i None vs fits its rest us xs same m' = matches fits rest
  resumed_at i (Some t) vs fits its rest [] [] same m' = tt
  resumed_at i (Some t) vs fits its rest [] (x ∷ xs) same m' = absurd same
  resumed_at i (Some t) vs fits its rest (u ∷ us) [] same m' = absurd same
  resumed_at {j = j} i (Some t) vs fits its rest (u ∷ us) (x ∷ xs) same m' = by (nat_lt t (length stage.temps)) refl
    where
      none_if : (o : Option (Point ℕ)) → Resumes o None m'
      none_if None = tt
      none_if (Some y) = tt

      by : (is : Bool) → nat_lt t (length stage.temps) ≡ is →
          Resumes (some_if (nat_lt t G.names) (P (with_register vs t u) j))
          (if is then Some (language.at sel_parts (with_temporary Fr t x) its) else None) m'
      by false d = none_if (some_if (nat_lt t G.names) (P (with_register vs t u) j))
      by true d =
          let inside = ltb-true t (length stage.temps) d in
          let count = fits.count in
          subst (λ b. Resumes (some_if b (P (with_register vs t u) j))
          (Some (language.at sel_parts (with_temporary Fr t x) its)) m')
          (sym (lt-ltb t G.names (runs_of.names_too stage (omega (arith, inside, count)))))
          (subst (λ y. Resumes (Some (P (with_register vs t u) j))
          (Some (language.at sel_parts (with_temporary Fr t y) its)) m') same.0
          (matches (frame_sets B stage.temps vs t u fits inside) rest))

  -- a call
  pub call_runs : {exits : List ℕ} {span : Span} {i l j : ℕ} {t : Option ℕ} {name : NameBytes} {args : List ℕ}
      (es : List Expr) → Finds B span (listed es) i l args → Is span → At B l (graph.call name args t j) →
      (vs : Values) → Fits vs → (its : Continuation) → Its exits its j →
      Goal (13 + total (argument_prices sel_parts es)) vs i (statement sel_parts Fr (st.call t name es) its)
  call_runs {i = i} {l = l} {j = j} {t = t} {name = name} {args = args} es ops above here vs fits its rest =
      let prices = prices_listed es in
      let cost = arguments_cost es ops in
      subst (λ y. Goal (13 + total (argument_prices sel_parts es)) vs i y)
      (sym (values_listed Fr es (λ us. Then (Calls name us (language.resumed sel_parts Fr t its)))))
      (runs_of.all_run stage ops above vs fits (13 + 8 * length es) _
      (omega (arith, prices)) (costs_at l _ _ here (omega (arith, cost))) _
      (λ vs' fits' kept there us have.
      here_is vs' l _ here _ (omega (arith, cost))
      (runs_of.reads_too stage vs' l have 0 _ _
      (at_last (calls_held (same_all us) refl
      (λ xs ys same count t' s' tk sk settled.
      subst (λ (v : Memory). MatchIf (R stage.together) (held stage.together) stage.act
      (graph.resumed pseudo_registers (P vs' l) t j xs) t' (language.resumed sel_parts Fr t its ys) v) settled
      (resumed_at l t vs' fits' its rest xs ys same t')))))))
