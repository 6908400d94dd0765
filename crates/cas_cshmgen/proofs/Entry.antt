-- Activations begin, and each step is paid for.
use Rattle.std.proofs.Common.{◌≡◌, ℕ, zero, suc, ◌+◌, ◌*◌, ◌<◌, ◌≤◌, List, [], ◌∷◌, Option, Some, None, length, slice_get, refl, sym, ap, subst, arith, Bool, true, false, if◌then◌else◌, ◌∙◌}
use Rattle.std.proofs.lemmas.Bool.Decides.{nat_tests}
use Rattle.cas_runs.specs.Label.{NameBytes, same_name}
use Rattle.cas_base.specs.Word.{narrowed}
use Rattle.cas_base.specs.declared.decl.Decl.{Decl}
use Rattle.cas_base.specs.declared.kind.Kind.{Kind}
use Rattle.cas_base.specs.declared.kind.Ty.{Ty}
use Rattle.cas_base.specs.declared.kind.Ty.TheVariants.{Void, Int, Ptr, Array}
use Rattle.cas_typed.specs.declared.tree.Destination.{Destination}
use Rattle.cas_typed.specs.Resolved as t
use Rattle.cas_typed.specs.Resolved.{TypedExprTree, TypedStmtTree, TypedStmtOption, TypedStmtList}
use Rattle.cas_step.specs.Continuation as items
use Rattle.cas_runs.specs.Held.{Activation, Leads, meets_there, begins_at_once, BeginIf, both_store}
use Rattle.cas_runs.specs.Naming.{Value, Number, Pointer, Hidden, Memory, usable, usable_in}
use Rattle.cas_runs.specs.Bounds.{total, first_price, entry_price, greater, most_of}
use Rattle.cas_runs.specs.Access.{Accesses, Stores, with_value}
use Rattle.cas_runs.specs.Calls.{Last}
use Rattle.cas_runs.specs.Unit.{Setting, found}
use Rattle.cas_mid.specs.declared.tree.CsharpFun.{CsharpFun}
use Rattle.cas_mid.specs.Trees.{Routine, Expression, Target}
use Rattle.cas_mid.specs.Operators.{on_word}
use Rattle.cas_mid.specs.Language.{begin, begin_all, Frame, goes, filled, begun}
use Rattle.cas_mid.specs.Csharpminor.{CsharpState, csharpminor, csharp_parts, value}
use Rattle.cas_clight.specs.Clight as clight
use Rattle.cas_clight.specs.Clight.{ClightFun, ClightState, Passed, own_home, storing, also_passed, parameters_of, result_of, cells_of}
use Rattle.cas_cshmgen.specs.Makes.{Csharps, made_stmts, converted, keeps, closing, stored_arguments, made_routine}
use Rattle.cas_cshmgen.specs.Match.{Rest, IsSmall, AreSmall, IsTestSmall, IsPartSmall, IsStepSmall, at_end, at_rest, HasResult, MatchStates, runs, has_result, IsMade}
use Rattle.cas_cshmgen.proofs.Simulation.{R, nodes_in, cells_in, held, price_at, all_begin, Does, F, one_on, cont_paid}

-- with more nodes

test_more : (m n : ℕ) → m ≤ n → (ds : List Decl) (c : Option TypedExprTree) → IsTestSmall m ds c → IsTestSmall n ds c
test_more m n le ds None h = h
test_more m n le ds (Some c) h = omega (arith, le, h)

mutual
  small_more : (m n : ℕ) → m ≤ n → (ds : List Decl) (a : TypedStmtTree) → IsSmall m ds a → IsSmall n ds a
  small_more m n le ds (t.skip p) h = h
  small_more m n le ds (t.assign p target a) h = omega (arith, le, h)
  small_more m n le ds (t.call p kept g at' args) h = omega (arith, le, h)
  small_more m n le ds (t.block p bs) h = all_more m n le ds bs h
  small_more m n le ds (t.if_ p c a b) h =
      (test_more m n le ds (Some c) h.0, small_more m n le ds a h.1, part_more m n le ds b h.2)
  small_more m n le ds (t.while_ p c a) h = (test_more m n le ds (Some c) h.0, small_more m n le ds a h.1)
  small_more m n le ds (t.do_ p a c) h = (small_more m n le ds a h.0, test_more m n le ds (Some c) h.1)
  small_more m n le ds (t.for_ p i c u a) h =
      (step_more m n le ds i h.0, test_more m n le ds c h.1, step_more m n le ds u h.2, small_more m n le ds a h.3)
  small_more m n le ds (t.break_ p) h = h
  small_more m n le ds (t.continue_ p) h = h
  small_more m n le ds (t.return_ p a) h = omega (arith, le, h)
  small_more m n le ds (t.lock p g) h = h
  small_more m n le ds (t.unlock p g) h = h
  small_more m n le ds (t.print p a) h = omega (arith, le, h)

  part_more : (m n : ℕ) → m ≤ n → (ds : List Decl) (u : TypedStmtOption) → IsPartSmall m ds u → IsPartSmall n ds u
  part_more m n le ds t.absent h = h
  part_more m n le ds (t.present a) h = small_more m n le ds a h

  step_more : (m n : ℕ) → m ≤ n → (ds : List Decl) (u : TypedStmtOption) → IsStepSmall m ds u → IsStepSmall n ds u
  step_more m n le ds t.absent h = h
  step_more m n le ds (t.present a) h = (small_more m n le ds a h.0, h.1)

  all_more : (m n : ℕ) → m ≤ n → (ds : List Decl) (bs : TypedStmtList) → AreSmall m ds bs → AreSmall n ds bs
  all_more m n le ds t.no_more h = h
  all_more m n le ds (t.one_more a bs) h = (small_more m n le ds a h.0, all_more m n le ds bs h.1)

-- the temporaries of an activation that begins, and what is passed to the other's locals
data Fills (n : ℕ) (vs : List Value) : Option (List Value) → Option (List Passed) → Type 0 where
  fills_none : Fills n vs None None
  -- an argument that may only be kept: the other isn't entered
  refuses : (ts : List Value) → Fills n vs (Some ts) None
  fills : (ts : List Value) (hs : List Passed) → length ts ≡ suc n →
      ((j : ℕ) (v : Value) → slice_get vs j ≡ Some v → slice_get ts j ≡ Some v) → Fills n vs (Some ts) (Some hs)

fill : (n k : ℕ) (vs : List Value) → Fills n vs (filled (suc n) n vs) (clight.arguments k n vs)
fill zero k [] = fills (Number 0 ∷ []) [] refl (λ j v e. absurd (cc e))
fill zero k (v ∷ vs) = fills_none
fill (suc n) k [] = fills_none
fill (suc n) k (v ∷ vs) = by (usable v) (fill n (k + 1) vs)
  where
    by : {o : Option (List Value)} {o' : Option (List Passed)} (w : Option Value) → Fills n vs o o' →
        Fills (suc n) (v ∷ vs) (elim o [ None ↦ None | Some rest ↦ Some (v ∷ rest) ]) (also_passed k w o')
    by w fills_none = fills_none
    by w (refuses ts) = refuses (v ∷ ts)
    by None (fills ts hs same each) = refuses (v ∷ ts)
    by (Some w) (fills ts hs same each) = fills (v ∷ ts) (record { local = k; value = w } ∷ hs) (ap suc same)
        (λ j u e. shifted j u e)
      where
        shifted : (j : ℕ) (u : Value) → slice_get (v ∷ vs) j ≡ Some u → slice_get (v ∷ ts) j ≡ Some u
        shifted zero u e = e
        shifted (suc j) u e = each j u e

module _ (setting : Setting) (ts : List CsharpFun) (ss : List ClightFun) (made_so : CsharpFun → ClightFun → Type 0)
    (act : Activation CsharpFun ClightFun) where
  abbrev N : ℕ
  N = nodes_in ss

  abbrev K : ℕ
  K = cells_in ss

  abbrev Goal : ℕ → Memory → Accesses (Last CsharpState) → Accesses (Last ClightState) → Type 0
  Goal credit m x y = Does setting ts ss made_so act credit m x y

  module _ (fn : ClightFun) (serial : ℕ) (temps : List Value) (room : HasResult fn temps) where
    abbrev Fr : Frame
    Fr = F setting ts ss made_so act fn serial temps room

    -- the arguments are stored, from this local on
    stores_all : (count k : ℕ) (vs : List Value) (hs : List Passed) → clight.arguments k count vs ≡ Some hs →
        ((j : ℕ) (v : Value) → slice_get vs j ≡ Some v → slice_get temps (k + j) ≡ Some v) →
        (after : Csharps) (y : Accesses (Last ClightState)) (credit least : ℕ) → count * 32 + least ≤ credit →
        ((m : Memory) (c : ℕ) → least ≤ c → Goal c m (goes csharp_parts Fr (begin_all after [])) y) → (m : Memory) →
        Goal credit m (goes csharp_parts Fr (begin_all (stored_arguments k count after) [])) (storing fn serial hs y)
    stores_all zero k [] hs e each after y credit least le more m = let same : [] ≡ hs =
        cc e in subst (λ v. Goal credit m (goes csharp_parts Fr (begin_all after [])) (storing fn serial v y)) same
        (more m credit (omega (arith, le)))
    stores_all zero k (v ∷ vs) hs e each after y credit least le more m = absurd (cc e)
    stores_all (suc count) k [] hs e each after y credit least le more m = absurd (cc e)
    stores_all (suc count) k (v ∷ vs) hs e each after y credit least le more m =
        by (clight.arguments (k + 1) count vs) (usable v) (λ hs' i later m'. stores_all count (k + 1) vs hs' i later after y
        (count * 32 + least) least (omega arith) more m') refl refl e
      where
        there : slice_get temps k ≡ Some v
        there = subst (λ i. slice_get temps i ≡ Some v) (let same : k + 0 ≡ k = omega arith in same) (each 0 v refl)

        later : (j : ℕ) (u : Value) → slice_get vs j ≡ Some u → slice_get temps (k + 1 + j) ≡ Some u
        later j u i = subst (λ x. slice_get temps x ≡ Some u) (let same : k + suc j ≡ k + 1 + j = omega arith in same)
            (each (suc j) u i)

        by : (o : Option (List Passed)) (w : Option Value) →
            ((hs' : List Passed) → clight.arguments (k + 1) count vs ≡ Some hs' →
            ((j : ℕ) (u : Value) → slice_get vs j ≡ Some u → slice_get temps (k + 1 + j) ≡ Some u) → (m' : Memory) →
            Goal (count * 32 + least) m' (goes csharp_parts Fr (begin_all (stored_arguments (k + 1) count after) []))
            (storing fn serial hs' y)) → clight.arguments (k + 1) count vs ≡ o → usable v ≡ w →
            also_passed k w o ≡ Some hs → Goal credit m (goes csharp_parts Fr (begin_all (stored_arguments k (suc count) after) []))
            (storing fn serial hs y)
        by None w next i j q = absurd (cc q)
        by (Some hs') None next i j q = absurd (cc q)
        by (Some hs') (Some w) next i j q =
            let same : record { local = k; value = w } ∷ hs' ≡ hs = cc q in
            subst (λ x. Goal credit m (goes csharp_parts Fr (begin_all (stored_arguments k (suc count) after) []))
            (storing fn serial x y)) same
            (one_on setting ts ss made_so act fn serial temps room (begin_all (stored_arguments k (suc count) after) [])
            (count * 32 + least) credit (omega (arith, le))
            (subst (λ o. Goal (count * 32 + least) m
            (with_value o (λ x. Stores (own_home fn serial k) 0 x
            (goes csharp_parts Fr (begin_all (stored_arguments (k + 1) count after) []))))
            (Stores (own_home fn serial k) 0 w (storing fn serial hs' y))) (sym (ap usable_in there ∙ j))
            (both_store (λ room'. room') tt tt (λ room'. next hs' i later _))))

    -- a result is converted
    converted_amounts : (d : Destination) (v u : Value) → slice_get temps (parameters_of fn) ≡ Some v →
        (credit : ℕ) (m : Memory) (k : Value → Accesses (Last CsharpState)) (y : Accesses (Last ClightState)) →
        Goal credit m (k u) y → clight.converted d.ty v ≡ Some u →
        Goal credit m (value Fr (converted d.ty (parameters_of fn)) k) y
    converted_amounts d v u got credit m k y more e = by d.ty e
      where
        number : (kind : Kind) (x : Value) → slice_get temps (parameters_of fn) ≡ Some x →
            clight.converted (Int kind) x ≡ Some u → Goal credit m
            (with_value (usable_in (slice_get temps (parameters_of fn)))
            (λ x'. on_word x' (λ i. k (Number (narrowed i kind))))) y
        number kind (Number i) g' e' = let same : Number (narrowed i kind) ≡ u =
            cc e' in
            subst (λ o. Goal credit m
            (with_value (usable_in o) (λ x'. on_word x' (λ i. k (Number (narrowed i kind))))) y)
            (sym g') (subst (λ x. Goal credit m (k x) y) (sym same) more)
        number kind (Pointer home p) g' e' = absurd (cc e')
        number kind (Hidden what) g' e' = absurd (cc e')

        pointer : (kind : Kind) (x : Value) → slice_get temps (parameters_of fn) ≡ Some x →
            clight.converted (Ptr kind) x ≡ Some u → Goal credit m
            (with_value (usable_in (slice_get temps (parameters_of fn))) k) y
        pointer kind (Number i) g' e' = let same : Number i ≡ u = cc e' in
            subst (λ o. Goal credit m (with_value (usable_in o) k) y) (sym g')
            (subst (λ x. Goal credit m (k x) y) (sym same) more)
        pointer kind (Pointer home p) g' e' = let same : Pointer home p ≡ u = cc e' in
            subst (λ o. Goal credit m (with_value (usable_in o) k) y) (sym g')
            (subst (λ x. Goal credit m (k x) y) (sym same) more)
        pointer kind (Hidden what) g' e' = absurd (cc e')

        by : (ty : Ty) → clight.converted ty v ≡ Some u → Goal credit m (value Fr (converted ty (parameters_of fn)) k) y
        by (Int kind) e' = number kind v got e'
        by (Ptr kind) e' = pointer kind v got e'
        by Void e' = absurd (cc e')
        by (Array kind i) e' = absurd (cc e')

  store_price : (d : Destination) (r : ℕ) (rest : Rest) → price_at (begin (keeps d r) ∷ rest) ≤ 45
  store_price d r rest = by d.ty
    where
      by : (ty : Ty) → price_at (begin (keeps (record { local = d.local; ty = ty }) r) ∷ rest) ≤ 45
      by (Int k) = omega arith
      by (Ptr k) = omega arith
      by Void = omega arith
      by (Array k i) = omega arith

  -- each step
  pub steps_lead : (x : CsharpState) (m : Memory) (y : ClightState) (s : Memory) → MatchStates N act x m y s →
      Leads (R setting ts ss made_so) (held setting ts ss) act x m y s
  steps_lead x m y s (runs {fn = fn} {serial = serial} {ts = temps} {cont = cont} {rest = rest} {m = m'} room h) =
      let there = cont_paid setting ts ss made_so act fn serial temps room cont rest h in
      let cheap = there.pays in
      meets_there there.credit (omega (arith, cheap)) (there.steps m')
  steps_lead x m y s (has_result {fn = fn} {serial = serial} {ts = temps} d v {u = u} {cont = cont} {rest = rest}
      {m = m'} room got conv h) =
      let there = cont_paid setting ts ss made_so act fn serial temps room cont rest h in
      let first = store_price d (parameters_of fn) rest in
      meets_there (40 + 130 * N) (omega (arith, first))
      (converted_amounts fn serial temps room d v u got (40 + 130 * N) m' _ _
      (both_store (λ room'. room') tt tt
      (λ room'. one_on setting ts ss made_so act fn serial temps room rest there.credit (40 + 130 * N) there.pays
      (there.steps _))) conv)

  -- an activation begins
  pub begins_made : (f : CsharpFun) (g : ClightFun) (serial : ℕ) (decls : List Decl) → f ≡ act.target → g ≡ act.source →
      IsMade decls f g → g.nodes ≤ N → cells_of g ≤ K → (m : Memory) (vs : List Value) →
      BeginIf (R setting ts ss made_so) (held setting ts ss) act
      (begun csharp_parts (made_routine g) serial (filled (suc (parameters_of g)) (parameters_of g) vs)) m
      (clight.begun g serial (clight.arguments 0 (parameters_of g) vs)) m
  begins_made f g serial decls is_target is_source made few cells m vs = by refl (fill (parameters_of g) 0 vs)
    where
      first : first_price csharpminor.tariff csharpminor.blocks act.target ≤ 18 *
          (cells_of g + (suc (parameters_of g) + (parameters_of g + g.nodes)) + parameters_of g + 8)
      first =
          let c = made.cells in let l = made.locals in
          subst (λ (v : CsharpFun). first_price csharpminor.tariff csharpminor.blocks v ≤ 18 *
          (cells_of g + (suc (parameters_of g) + (parameters_of g + g.nodes)) + parameters_of g + 8)) is_target
          (subst (λ (v : Routine Expression Target Expression). entry_price 18 (total v.blocks)
          v.names v.parameters ≤ 18 * (cells_of g + (suc (parameters_of g) + (parameters_of g + g.nodes))
          + parameters_of g + 8)) (sym made.routine) (omega (arith, c, l)))

      begins_so : (ts' : List Value) → length ts' ≡ suc (parameters_of g) →
          ((j : ℕ) (v : Value) → slice_get vs j ≡ Some v → slice_get ts' j ≡ Some v) → (hs : List Passed) →
          clight.arguments 0 (parameters_of g) vs ≡ Some hs →
          BeginIf (R setting ts ss made_so) (held setting ts ss) act
          (begun csharp_parts (made_routine g) serial (Some ts')) m (clight.begun g serial (Some hs)) m
      begins_so ts' size each hs e =
          let room : HasResult g ts' = subst (λ v. parameters_of g < v) (sym size) (omega arith) in
          let cont = items.begin_all g.body [] in
          let rest = begin_all (made_stmts g.decls (parameters_of g) g.body (closing (result_of g))) [] in
          let h = at_rest (all_begin N g g.body (all_more g.nodes N few g.decls g.body made.small) []
          (closing (result_of g)) [] at_end) in
          let there = cont_paid setting ts ss made_so act g serial ts' room cont rest h in
          let pays = there.pays in
          let few_parameters = made.parameters in
          begins_at_once (parameters_of g * 32 + (40 + 130 * N)) (omega (arith, first, few_parameters, few, cells))
          (stores_all g serial ts' room (parameters_of g) 0 vs hs e
          (λ j v i. subst (λ x. slice_get ts' x ≡ Some v) (let same : j ≡ 0 + j = omega arith in same) (each j v i))
          (made_stmts g.decls (parameters_of g) g.body (closing (result_of g))) _
          (parameters_of g * 32 + (40 + 130 * N)) (40 + 130 * N) (omega arith)
          (λ m' c le. one_on setting ts ss made_so act g serial ts' room rest there.credit c (omega (arith, le, pays))
          (there.steps m')) m)

      by : {o : Option (List Value)} {o' : Option (List Passed)} → clight.arguments 0 (parameters_of g) vs ≡ o' →
          Fills (parameters_of g) vs o o' → BeginIf (R setting ts ss made_so) (held setting ts ss) act
          (begun csharp_parts (made_routine g) serial o) m (clight.begun g serial o') m
      by i fills_none = tt
      by i (refuses ts') = tt
      by i (fills ts' hs size each) = begins_so ts' size each hs i

-- a function that is found counts no more than the most
pub most_found : (count : ClightFun → ℕ) (ss : List ClightFun) (name : NameBytes) (g : ClightFun) →
    found (λ (f : ClightFun). f.decl.name) ss name ≡ Some g → count g ≤ most_of count ss
most_found count [] name g e = absurd (cc e)
most_found count (x ∷ ss) name g e = by (same_name x.decl.name name) e (most_found count ss name g)
  where
    least : (a b : ℕ) → a ≤ greater a b
    least a b = grind (arith, nat_tests)

    most : (a b : ℕ) → b ≤ greater a b
    most a b = grind (arith, nat_tests)

    by : (b : Bool) → (if b then Some x else found (λ (f : ClightFun). f.decl.name) ss name) ≡ Some g →
        (found (λ (f : ClightFun). f.decl.name) ss name ≡ Some g → count g ≤ most_of count ss) →
        count g ≤ greater (count x) (most_of count ss)
    by true i rest = let same : x ≡ g = cc i in subst (λ v. count v ≤ greater (count x) (most_of count ss)) same
        (least (count x) (most_of count ss))
    by false i rest = let le = rest i in let more = most (count x) (most_of count ss) in omega (arith, le, more)
