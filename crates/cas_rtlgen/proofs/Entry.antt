-- Activations begin: parameters are in their pseudo-registers, and the other temporaries become 0.
use Rattle.std.proofs.Common.{◌≡◌, ℕ, zero, suc, ◌+◌, ◌-◌, ◌*◌, ◌<◌, ◌≤◌, List, [], ◌∷◌, Option, Some, None, Bool, true, false, length, slice_get, nat_eq, nat_lt, refl, sym, ap, ◌∙◌, subst, lt-ltb, eqb-true, arith}
use Rattle.std.proofs.lemmas.Bool.Decides.{nat_tests}
use Rattle.std.proofs.lemmas.Option.{slice_get_within}
use Rattle.cas_runs.specs.Naming.{Value, Number, Memory, and_then}
use Rattle.cas_runs.specs.Bounds.{total, first_price}
use Rattle.cas_runs.specs.Access.{Then}
use Rattle.cas_runs.specs.Calls.{Goes, so_many}
use Rattle.cas_runs.specs.Held.{Activation, Amounts, BeginIf, begins_at_once}
use Rattle.cas_runs.proofs.Cells.{so_many_length}
use Rattle.cas_mid.specs.Operators.{only_if}
use Rattle.cas_mid.specs.Language as language
use Rattle.cas_mid.specs.Language.{filled, begin, statement, statement_price, operand_prices}
use Rattle.cas_sel.specs.declared.tree.SelFun.{SelFun}
use Rattle.cas_sel.specs.Trees.{Routine}
use Rattle.cas_sel.specs.Code.{sel_routine}
use Rattle.cas_sel.specs.CminorSel.{SelState, sel_parts, cminorsel}
use Rattle.cas_rtl.specs.Graph as graph
use Rattle.cas_rtl.specs.Graph.{Node, Graph, Point, some_if, given, node_step, step_at}
use Rattle.cas_rtl.specs.Rtl.{pseudo_registers, rtl}
use Rattle.cas_rtlgen.specs.Makes.{Body, At, Zeros, no_zeros, one_zero, first_registers, IsMadeGraph}
use Rattle.cas_rtlgen.specs.Match.{at_end, MatchFrame, frame_of, point_of}
use Rattle.cas_rtlgen.proofs.Queries.{SForm, Together, Stage, R, held}
use Rattle.cas_rtlgen.proofs.Values as runs_of
use Rattle.cas_rtlgen.proofs.Values.{Values, with_register, set_here, set_else, node_cost, cost_at}
use Rattle.cas_rtlgen.proofs.Leading.{goes_into}

-- what pseudo-registers and temporaries begin with, from this number on
data Fills (from count : ℕ) : Option Values → Option (List Value) → Type 0 where
  fills_none : {o : Option Values} → Fills from count o None
  fills :
      (vs : Values) (ts : List Value)
      → count ≤ length ts
      → ((u : ℕ) (v : Value) → u < count → slice_get ts u ≡ Some v → vs (from + u) ≡ v)
      → ((u : ℕ) (v : Value) → count ≤ u → slice_get ts u ≡ Some v → v ≡ Number 0)
      → Fills from count (Some vs) (Some ts)

zero_only : (n u : ℕ) (v : Value) → slice_get (so_many (Number 0) n) u ≡ Some v → v ≡ Number 0
zero_only zero u v e = absurd (cc e)
zero_only (suc n) zero v e = let same : Number 0 ≡ v = cc e in sym same
zero_only (suc n) (suc u) v e = zero_only n u v e

module _ (from count : ℕ) (v : Value) (vs : Values) (ts : List Value)
    (each : (u : ℕ) (x : Value) → u < count → slice_get ts u ≡ Some x → vs (suc from + u) ≡ x)
    (zeros : (u : ℕ) (x : Value) → count ≤ u → slice_get ts u ≡ Some x → x ≡ Number 0) where
  old : (u : ℕ) (x : Value) → u < suc count → slice_get (v ∷ ts) u ≡ Some x → with_register vs from v (from + u) ≡ x
  old zero x less e =
      let same : v ≡ x = cc e in
      ap (λ r. with_register vs from v r) (let here : from + 0 ≡ from = omega arith in here) ∙ set_here vs from v ∙ same
  old (suc u) x less e =
      set_else vs from (from + suc u) v (λ h. absurd (omega (arith, h)))
      ∙ ap vs (let here : from + suc u ≡ suc from + u = omega arith in here)
      ∙ each u x (omega (arith, less)) e

  new : (u : ℕ) (x : Value) → suc count ≤ u → slice_get (v ∷ ts) u ≡ Some x → x ≡ Number 0
  new zero x le e = absurd (omega (arith, le))
  new (suc u) x le e = zeros u x (omega (arith, le)) e

fill : (names from t count : ℕ) (vs : List Value) → from + t ≤ names →
    Fills from count (given pseudo_registers names (first_registers from count) vs) (filled t count vs)
fill names from t zero [] le =
    fills (λ r. graph.Places.first pseudo_registers r) (so_many (Number 0) t) (omega arith)
    (λ u v less e. absurd (omega (arith, less))) (λ u v le' e. zero_only t u v e)
fill names from t zero (v ∷ vs) le = fills_none
fill names from t (suc count) [] le = fills_none
fill names from zero (suc count) (v ∷ vs) le = fills_none
fill names from (suc t) (suc count) (v ∷ vs) le = by (fill names (suc from) t count vs (omega (arith, le)))
  where
    by : {o : Option Values} {o' : Option (List Value)} → Fills (suc from) count o o' →
        Fills from (suc count) (and_then o (λ ws. some_if (nat_lt from names) (with_register ws from v)))
        (elim o' [ None ↦ None | Some rest ↦ Some (v ∷ rest) ])
    by fills_none = fills_none
    by (fills ws ts many each zeros) =
        subst (λ is. Fills from (suc count) (some_if is (with_register ws from v)) (Some (v ∷ ts)))
        (sym (lt-ltb from names (omega (arith, le))))
        (fills (with_register ws from v) (v ∷ ts) (omega (arith, many))
        (λ u x less e. old from count v ws ts each zeros u x less e)
        (λ u x le' e. new from count v ws ts each zeros u x le' e))

module _ {F : Type 0} (stage : Stage F) (count : length stage.temps ≡ (runs_of.B stage).temporaries) where
  abbrev G : Graph ℕ
  G = runs_of.G stage

  abbrev B : Body
  B = runs_of.B stage

  abbrev Does : ℕ → Values → ℕ → SForm → Type 0
  Does credit vs i y = runs_of.Does stage credit (Then (Goes (runs_of.P stage vs i))) y

  -- a node that only goes on
  step_on : (vs : Values) (i : ℕ) (node : Node ℕ) → At B i node → (rest credit : ℕ) (y : SForm) →
      node_cost node + rest ≤ credit →
      runs_of.Does stage rest (node_step pseudo_registers (runs_of.P stage vs i) node) y → Does credit vs i y
  step_on vs i node here rest credit y le a =
      runs_of.onto stage (runs_of.at_node stage vs i node here rest credit le a)

  -- temporaries become 0
  zeros_run : {t others i j : ℕ} → Zeros B t others i j → t + others ≡ B.temporaries → (least : ℕ) → least ≤ t →
      ((u : ℕ) (v : Value) → least ≤ u → slice_get stage.temps u ≡ Some v → v ≡ Number 0) → (vs : Values) →
      ((u : ℕ) (v : Value) → u < t → slice_get stage.temps u ≡ Some v → vs u ≡ v) → (credit : ℕ) (y : SForm) →
      ((vs' : Values) → MatchFrame B stage.temps vs' → Does credit vs' j y) → Does (11 * others + credit) vs i y
  zeros_run {t = t} {j = j} no_zeros sum least le zeros vs kept credit y next =
      subst (λ c. Does c vs j y) (let same : credit ≡ 11 * 0 + credit = omega arith in same)
      (next vs (record {
        count = count;
        held = λ u v e.
            let inside = slice_get_within stage.temps u v e in
            kept u v (omega (arith, inside, count, sum)) e;
      }))
  zeros_run {i = i} {j = j} (one_zero {t = t} {count = others} {i = i'} here rest) sum least le zeros vs kept credit y
      next =
      let room = stage.room in
      step_on vs i _ here (11 * others + credit) _ y (omega arith)
      (subst (λ is. runs_of.Does stage (11 * others + credit)
      (only_if is (Then (Goes (runs_of.P stage (with_register vs t (Number 0)) i')))) y)
      (sym (lt-ltb t G.names (omega (arith, sum, room))))
      (zeros_run rest (omega (arith, sum)) least (omega (arith, le)) zeros (with_register vs t (Number 0))
      (λ u v less e. by u v less e (nat_eq t u) refl) credit y next))
    where
      by : (u : ℕ) (v : Value) → u < t + 1 → slice_get stage.temps u ≡ Some v → (is : Bool) → nat_eq t u ≡ is →
          with_register vs t (Number 0) u ≡ v
      by u v less e true d =
          let same : t ≡ u = eqb-true t u d in
          let is = zeros u v (omega (arith, le, same)) e in
          ap (λ j. with_register vs t (Number 0) j) (sym same) ∙ set_here vs t (Number 0) ∙ sym is
      by u v less e false d =
          let differ : t ≡ u → ⊥ = λ h. (let yes : nat_eq t u ≡ true = grind (arith, nat_tests, h) in cc (yes, d)) in
          let under : u < t = grind (arith, less, differ) in
          set_else vs t u (Number 0) differ ∙ kept u v under e

filled_length : (t n : ℕ) (vs ts : List Value) → filled t n vs ≡ Some ts → length ts ≡ t
filled_length t zero [] ts e =
    let same : so_many (Number 0) t ≡ ts = cc e in ap length (sym same) ∙ so_many_length (Number 0) t
filled_length t zero (v ∷ vs) ts e = absurd (cc e)
filled_length t (suc n) [] ts e = absurd (cc e)
filled_length zero (suc n) (v ∷ vs) ts e = absurd (cc e)
filled_length (suc t) (suc n) (v ∷ vs) ts e =
    by (filled t n vs) (λ rest is. filled_length t n vs rest is) e
  where
    by : (o : Option (List Value)) → ((rest : List Value) → o ≡ Some rest → length rest ≡ t) →
        elim o [ None ↦ None | Some rest ↦ Some (v ∷ rest) ] ≡ Some ts → length ts ≡ suc t
    by None is h = absurd (cc h)
    by (Some rest) is h =
        let same : v ∷ rest ≡ ts = cc h in ap length (sym same) ∙ ap suc (is rest refl)

pub registers_length : (from count : ℕ) → length (first_registers from count) ≡ count
registers_length from zero = refl
registers_length from (suc count) = ap suc (registers_length (suc from) count)

module _ {F : Type 0} (w : Together F) (act : Activation F SelFun) where
  abbrev pub Begins : Option (Point ℕ) → Option SelState → Memory → Type 0
  Begins x y m = BeginIf (R w) (held w) act x m y m

  abbrev Its : Graph ℕ
  Its = w.graph_of act.target

  abbrev Of : Routine
  Of = sel_routine act.source

  abbrev others : ℕ
  others = Of.temporaries - Of.parameters

  abbrev body_price : ℕ
  body_price = statement_price sel_parts Of.body + total (operand_prices sel_parts Of.body)

  -- activations begin alike
  pub begins_made : IsMadeGraph Its Of → (serial : ℕ) (m : Memory) (vs : List Value) →
      Begins (graph.begun pseudo_registers Its serial (given pseudo_registers Its.names Its.parameters vs))
      (language.begun sel_parts Of serial (filled Of.temporaries Of.parameters vs)) m
  begins_made made serial m vs =
      subst (λ ps. Begins (graph.begun pseudo_registers Its serial (given pseudo_registers Its.names ps vs))
      (language.begun sel_parts Of serial (filled Of.temporaries Of.parameters vs)) m) (sym made.parameters)
      (by refl (let room = made.room in fill Its.names 0 Of.temporaries Of.parameters vs (omega (arith, room))))
    where
      by : {o : Option Values} {o' : Option (List Value)} → filled Of.temporaries Of.parameters vs ≡ o' →
          Fills 0 Of.parameters o o' →
          Begins (graph.begun pseudo_registers Its serial o) (language.begun sel_parts Of serial o') m
      by {o = None} e fills_none = tt
      by {o = Some vs'} e fills_none = tt
      by e (fills ws temps many each zeros) =
          let room = made.room in
          let stage : Stage F = record {
            together = w;
            act = act;
            serial = serial;
            temps = temps;
            memory = m;
            room = room;
          } in
          let count = filled_length Of.temporaries Of.parameters vs temps e in
          let sum : Of.parameters + others ≡ Of.temporaries = omega (arith, many, count) in
          let cells = ap total made.blocks in
          let passed = ap length made.parameters in
          let few = registers_length 0 Of.parameters in
          subst (λ a. Begins (Some (point_of Its serial ws Its.entry))
          (Some (language.at sel_parts (record { function = a; serial = serial; temporaries = temps })
          (begin Of.body ∷ []))) m) made.name
          (begins_at_once (11 * others + body_price)
          (subst (λ o. cost_at o + first_price (rtl w.graph_of).tariff (rtl w.graph_of).blocks act.target
          + (11 * others + body_price) ≤ body_price + first_price cminorsel.tariff cminorsel.blocks act.source)
          (sym made.ways.entry) (omega (arith, sum, passed, few, cells)))
          (subst (λ o. Amounts (R w) (held w) act (11 * others + body_price) m m
          (step_at pseudo_registers (point_of Its serial ws Its.entry) o)
          (statement sel_parts (frame_of Its serial temps) Of.body [])) (sym made.ways.entry)
          (zeros_run stage count made.ways.zeros sum Of.parameters (omega arith) zeros ws
          (λ u v less e'. ap ws (let same : u ≡ 0 + u = omega arith in same) ∙ each u v less e') body_price _
          (λ ws' fits. goes_into stage ws' fits made.ways.does [] (at_end made.ways.end)))))
