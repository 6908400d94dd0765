-- Cminorgen is a pass.
use Rattle.std.proofs.Common.{◌≡◌, ℕ, zero, suc, ◌+◌, ◌-◌, ◌<◌, ◌≤◌, List, [], ◌∷◌, ◌++◌, Option, Some, None, length, slice_get, refl, sym, ap, subst, arith}
use Rattle.cas_runs.specs.Held.{Activation, Leads, meets_there, begins_at_once, BeginIf, Steps, with_blocks_of}
use Rattle.cas_runs.specs.Naming.{Value, Number, Memory}
use Rattle.cas_runs.specs.Bounds.{total, first_price, entry_price}
use Rattle.cas_runs.specs.Calls.{so_many, fresh, one_block}
use Rattle.cas_runs.specs.Unit.{Setting, IsLayout}
use Rattle.cas_runs.specs.Calls.{language}
use Rattle.cas_runs.specs.Passing.{AllMatch, MadeOf}
use Rattle.cas_runs.specs.Placing.{SameMoved, IsPlacing, IsMoved, moved_blocks}
use Rattle.cas_runs.proofs.Placing.{set_there}
use Rattle.cas_runs.proofs.Bringing.{moved_begin}
use Rattle.cas_mid.specs.declared.tree.CsharpFun.{CsharpFun}
use Rattle.cas_mid.specs.declared.tree.CminorFun.{CminorFun}
use Rattle.cas_mid.specs.Trees.{Expression, word, temporary, own, global, element, load, unop, binop, if_, Target, Routine}
use Rattle.cas_mid.specs.Language.{filled, begun}
use Rattle.cas_mid.specs.Expressions.{value_prices, target_prices}
use Rattle.cas_mid.specs.Code.{csharp_routine, cminor_routine}
use Rattle.cas_mid.specs.Csharpminor.{CsharpState, csharpminor, csharp_parts}
use Rattle.cas_mid.specs.Cminor.{CminorState, cminor, cminor_parts, stack_address}
use Rattle.cas_mid.specs.Translating.{PricesAlike, begins, nothing_left}
use Rattle.cas_mid.proofs.Tariffs.{tariff_by}
use Rattle.cas_mid.proofs.Translating.{steps_along, steps_cheap, append_least}
use Rattle.cas_cminorgen.specs.Makes.{Place, kept_in, loaded, made_expr, made_routine}
use Rattle.cas_cminorgen.specs.Match.{places_of, placing, sizes, joined, IsExpression, IsTarget, is_global, is_element, is_pointer, cminorgen_makes, ValuesMatch, MatchFrames, frames_match, MatchStates, states_match, cminorgen}
use Rattle.cas_cminorgen.proofs.Plans.{grows, counted, few_temporaries, in_temporary_is}
use Rattle.cas_cminorgen.proofs.Places.{plan_is, taken_in, words_of, temporaries_of, source_at, is_placing, joined_laid_out}
use Rattle.cas_cminorgen.proofs.Values.{R, W, Moves}
use Rattle.cas_cminorgen.proofs.Simulation.{parts_alike, frames_alike}
use Rattle.cas_cminorgen.proofs.Fitting.{body_is}

-- What is made costs no more.

loaded_cheap : (o : Option ℕ) (a a' : Expression) → total (value_prices a) ≤ total (value_prices a') →
    total (value_prices (loaded o a)) ≤ total (value_prices (load a'))
loaded_cheap None a a' le = omega (arith, le)
loaded_cheap (Some u) a a' le = omega arith

value_cheap : (ps : List Place) (e : Expression) → total (value_prices (made_expr ps e)) ≤ total (value_prices e)
value_cheap ps (word n) = omega arith
value_cheap ps (temporary t) = omega arith
value_cheap ps (own n) = omega arith
value_cheap ps (global g) = omega arith
value_cheap ps (element g s a) = let le = value_cheap ps a in omega (arith, le)
value_cheap ps (load a) = loaded_cheap (kept_in ps a) (made_expr ps a) a (value_cheap ps a)
value_cheap ps (unop o a) = let le = value_cheap ps a in omega (arith, le)
value_cheap ps (binop o a b) =
    let both = append_least (value_prices (made_expr ps a)) (value_prices (made_expr ps b)) (value_prices a)
    (value_prices b) (value_cheap ps a) (value_cheap ps b) in omega (arith, both)
value_cheap ps (if_ c a b) =
    let first = append_least (value_prices (made_expr ps c)) (value_prices (made_expr ps a)) (value_prices c)
    (value_prices a) (value_cheap ps c) (value_cheap ps a) in
    let both = append_least (value_prices (made_expr ps c) ++ value_prices (made_expr ps a))
    (value_prices (made_expr ps b)) (value_prices c ++ value_prices a) (value_prices b) first (value_cheap ps b) in
    omega (arith, both)

expression_cheap : (ps : List Place) (e e' : Expression) → IsExpression ps e e' →
    total (value_prices e) ≤ total (value_prices e')
expression_cheap ps e e' h = subst (λ x. total (value_prices x) ≤ total (value_prices e')) (sym h.is) (value_cheap ps e')

target_cheap : (ps : List Place) (b b' : Target) → IsTarget ps b b' →
    total (target_prices b) ≤ total (target_prices b')
target_cheap ps b b' is_global = omega arith
target_cheap ps b b' (is_element {e = e} {e' = e'} h) = expression_cheap ps e e' h
target_cheap ps b b' (is_pointer {e = e} {e' = e'} h) = expression_cheap ps e e' h

pub prices_alike : PricesAlike cminor_parts csharp_parts cminorgen_makes
prices_alike = record {
  values = λ g e e' h. expression_cheap (places_of g) e e' h;
  locations = λ g b b' h. target_cheap (places_of g) b b' h;
  tests = λ g e e' h. expression_cheap (places_of g) e e' h;
}

-- The temporaries of an activation that begins.

module _ (same : Value → Value → Type 0) (same_zero : same (Number 0) (Number 0)) where
  pub data Fills (t m : ℕ) : Option (List Value) → Option (List Value) → Type 0 where
    not_there : {o : Option (List Value)} → Fills t m o None
    fills :
        (vs vs' : List Value)
        → length vs' ≡ t
        → ((u : ℕ) (v' : Value) → slice_get vs' u ≡ Some v' → (v : Value) × (slice_get vs u ≡ Some v) × same v v')
        → ((u : ℕ) → t ≤ u → u < t + m → slice_get vs u ≡ Some (Number 0))
        → Fills t m (Some vs) (Some vs')

  zeros_length : (t : ℕ) → length (so_many (Number 0) t) ≡ t
  zeros_length zero = refl
  zeros_length (suc t) = ap suc (zeros_length t)

  zeros_get : (t u : ℕ) → u < t → slice_get (so_many (Number 0) t) u ≡ Some (Number 0)
  zeros_get zero u le = absurd (omega (arith, le))
  zeros_get (suc t) zero le = refl
  zeros_get (suc t) (suc u) le = zeros_get t u (omega (arith, le))

  zero_only : (t u : ℕ) (v : Value) → slice_get (so_many (Number 0) t) u ≡ Some v → (Number 0 ≡ v) × (u < t)
  zero_only zero u v e = absurd (cc e)
  zero_only (suc t) zero v e = (cc e, omega arith)
  zero_only (suc t) (suc u) v e = let rest = zero_only t u v e in let le = rest.1 in (rest.0, omega (arith, le))

  abbrev Alike : List Value → List Value → Type 0
  Alike [] [] = Unit {0}
  Alike [] (w ∷ ws) = ⊥
  Alike (v ∷ vs) [] = ⊥
  Alike (v ∷ vs) (w ∷ ws) = same v w × Alike vs ws

  fill : (t m n : ℕ) (vs ws : List Value) → Alike vs ws → Fills t m (filled (t + m) n vs) (filled t n ws)
  fill t m zero [] [] h = fills (so_many (Number 0) (t + m)) (so_many (Number 0) t) (zeros_length t)
      (λ u v e. let z = zero_only t u v e in let le = z.1 in
      (Number 0, zeros_get (t + m) u (omega (arith, le)), subst (λ x. same (Number 0) x) z.0 same_zero))
      (λ u least le. zeros_get (t + m) u le)
  fill t m zero [] (w ∷ ws) h = absurd h
  fill t m zero (v ∷ vs) [] h = absurd h
  fill t m zero (v ∷ vs) (w ∷ ws) h = not_there
  fill t m (suc n) [] [] h = not_there
  fill t m (suc n) [] (w ∷ ws) h = absurd h
  fill t m (suc n) (v ∷ vs) [] h = absurd h
  fill zero m (suc n) (v ∷ vs) (w ∷ ws) h = not_there
  fill (suc t) m (suc n) (v ∷ vs) (w ∷ ws) h =
      let next : suc (t + m) ≡ suc t + m = omega arith in
      subst (λ i. Fills (suc t) m (filled i (suc n) (v ∷ vs)) (filled (suc t) (suc n) (w ∷ ws))) next
      (by (fill t m n vs ws h.1))
    where
      by : {o o' : Option (List Value)} → Fills t m o o' →
          Fills (suc t) m (elim o [ None ↦ None | Some rest ↦ Some (v ∷ rest) ])
          (elim o' [ None ↦ None | Some rest ↦ Some (w ∷ rest) ])
      by not_there = not_there
      by (fills us us' size each zeros) = fills (v ∷ us) (w ∷ us') (ap suc size) old more_zeros
        where
          old : (u : ℕ) (x' : Value) → slice_get (w ∷ us') u ≡ Some x' →
              (x : Value) × (slice_get (v ∷ us) u ≡ Some x) × same x x'
          old zero x' e = (v, refl, subst (λ y. same v y) (let s : w ≡ x' = cc e in s) h.0)
          old (suc u) x' e = each u x' e

          more_zeros : (u : ℕ) → suc t ≤ u → u < suc t + m → slice_get (v ∷ us) u ≡ Some (Number 0)
          more_zeros zero least le = absurd (omega (arith, least))
          more_zeros (suc u) least le = zeros u (omega (arith, least)) (omega (arith, le))

pub total_one : (n : ℕ) → total (one_block n) ≡ n
total_one zero = refl
total_one (suc n) = omega arith

module _ (setting : Setting) (ts : List CminorFun) (ss : List CsharpFun)
    (laid : IsLayout (language csharpminor) ss setting.layout) where
  abbrev Made : CminorFun → CsharpFun → Type 0
  Made = MadeOf (moved_blocks cminorgen) setting ts ss

  is : IsPlacing cminor csharpminor Made (record { place = placing ss; sizes = sizes ss })
      (joined ss setting.layout) setting.layout
  is = is_placing setting ts ss laid

  forms : (act : Activation CminorFun CsharpFun) (x : CminorState) (t : Memory) (y : CsharpState) (s : Memory) →
      MatchStates ss act x t y s → Leads (R setting ts ss Made is) (W setting ts ss Made is) act x t y s
  forms act x t y s (states_match {fr = fr} {fr' = fr'} {rest = rest} {rest' = rest'} match h) =
      let cheap = steps_cheap cminor_parts csharp_parts cminorgen_makes prices_alike act.source h in
      meets_there 0 (omega (arith, cheap))
      (steps_along cminor_parts csharp_parts cminorgen_makes (MatchFrames ss) (R setting ts ss Made is)
      (W setting ts ss Made is) (parts_alike setting ts ss Made is) (frames_alike setting ts ss Made is) act fr fr' t s
      match h)

  all_alike : (vs ws : List Value) → AllMatch (R setting ts ss Made is) vs ws →
      Alike (SameMoved (placing ss)) refl vs ws
  all_alike [] [] h = tt
  all_alike [] (w ∷ ws) h = absurd h
  all_alike (v ∷ vs) [] h = absurd h
  all_alike (v ∷ vs) (w ∷ ws) h = (h.0, all_alike vs ws h.1)

  module _ (act : Activation CminorFun CsharpFun) (made : Made act.target act.source) where
    abbrev g : CsharpFun
    g = act.source

    abbrev r : Routine Expression Target Expression
    r = csharp_routine g

    abbrev Goal : Memory → Memory → Option CminorState → Option CsharpState → Type 0
    Goal t s x y = BeginIf (R setting ts ss Made is) (W setting ts ss Made is) act x t y s

    routine : cminor_routine act.target ≡ made_routine r
    routine = made.is_made.is_made.routine

    -- what the first step costs in addition
    first : first_price cminor.tariff cminor.blocks act.target
        ≤ first_price csharpminor.tariff csharpminor.blocks act.source
    first =
        let count = counted (taken_in g) (plan_is g) in
        let few = few_temporaries (taken_in g) (plan_is g) in
        let whole = total_one (words_of g) in
        subst (λ (x : Routine Expression Target Expression). entry_price 18 (total x.blocks) x.names x.parameters
        ≤ first_price csharpminor.tariff csharpminor.blocks act.source) (sym routine) (omega (arith, count, few, whole))

    matches : (t s : Memory) → Moves setting ts ss Made is (with_blocks_of cminor act.target act.serial t)
        (with_blocks_of csharpminor g act.serial s) → (m : ℕ) → temporaries_of g ≡ g.temps + m → (vs vs' : List Value) →
        length vs' ≡ g.temps →
        ((u : ℕ) (v' : Value) → slice_get vs' u ≡ Some v' →
        (v : Value) × (slice_get vs u ≡ Some v) × SameMoved (placing ss) v v') →
        ((u : ℕ) → g.temps ≤ u → u < g.temps + m → slice_get vs u ≡ Some (Number 0)) →
        ValuesMatch ss g act.serial vs (with_blocks_of cminor act.target act.serial t) vs'
        (with_blocks_of csharpminor g act.serial s)
    matches t s moves m more vs vs' size old zeros = record {
      is_found = source_at setting ts ss act.target g made;
      variables = made.is_made.is_made.variables;
      count = size;
      old = old;
      kept = λ v u e.
          let one = in_temporary_is (taken_in g) (plan_is g) v u e in
          let least = one.from in
          let most = one.to in
          record {
            value = Number 0;
            other = Number 0;
            in_variable = set_there (fresh (Number 0)) s g.decl.name act.serial 0 g.vars v v 1 one.there (omega arith);
            in_temporary = zeros u least (omega (arith, most, more));
            same = refl;
          };
      memory = moves;
    }

    enters : (t s : Memory) → Moves setting ts ss Made is t s → (vs ws : List Value) →
        AllMatch (R setting ts ss Made is) vs ws →
        Goal (with_blocks_of cminor act.target act.serial t) (with_blocks_of csharpminor g act.serial s)
        (begun cminor_parts (cminor_routine act.target) act.serial
        (filled (cminor_routine act.target).temporaries (cminor_routine act.target).parameters vs))
        (begun csharp_parts r act.serial (filled r.temporaries r.parameters ws))
    enters t s moves vs ws all =
        let m = temporaries_of g - g.temps in
        let grown = (grows (taken_in g) (plan_is g)).1 in
        let more : temporaries_of g ≡ g.temps + m = omega (arith, grown) in
        let after = moved_begin cminor csharpminor setting (joined ss setting.layout) ts ss Made (placing ss) (sizes ss)
        (λ f g n x y. Unit {0}) is refl refl act.target g made act.serial t s moves in
        subst (λ (x : Routine Expression Target Expression).
        Goal (with_blocks_of cminor act.target act.serial t) (with_blocks_of csharpminor g act.serial s)
        (begun cminor_parts x act.serial (filled x.temporaries x.parameters vs))
        (begun csharp_parts r act.serial (filled r.temporaries r.parameters ws))) (sym routine)
        (subst (λ n. Goal (with_blocks_of cminor act.target act.serial t) (with_blocks_of csharpminor g act.serial s)
        (begun cminor_parts (made_routine r) act.serial (filled n r.parameters vs))
        (begun csharp_parts r act.serial (filled r.temporaries r.parameters ws))) (sym more)
        (by after m more (fill (SameMoved (placing ss)) refl g.temps m r.parameters vs ws (all_alike vs ws all))))
      where
        by : Moves setting ts ss Made is (with_blocks_of cminor act.target act.serial t)
            (with_blocks_of csharpminor g act.serial s) → (m : ℕ) → temporaries_of g ≡ g.temps + m →
            {o o' : Option (List Value)} → Fills (SameMoved (placing ss)) refl g.temps m o o' →
            Goal (with_blocks_of cminor act.target act.serial t) (with_blocks_of csharpminor g act.serial s)
            (begun cminor_parts (made_routine r) act.serial o) (begun csharp_parts r act.serial o')
        by after m more {o = None} not_there = tt
        by after m more {o = Some us} not_there = tt
        by after m more (fills us us' size old zeros) =
            let body = body_is g made.is_made.is_made.variables.within in
            let rest = begins body nothing_left in
            let cheap = steps_cheap cminor_parts csharp_parts cminorgen_makes prices_alike g rest in
            let cost = first in
            begins_at_once 0 (omega (arith, cheap, cost))
            (steps_along cminor_parts csharp_parts cminorgen_makes (MatchFrames ss) (R setting ts ss Made is)
            (W setting ts ss Made is) (parts_alike setting ts ss Made is) (frames_alike setting ts ss Made is) act _ _ _ _
            (frames_match (matches t s after m more us us' size old zeros)) rest)

  steps : Steps (R setting ts ss Made is) (W setting ts ss Made is)
  steps = record {
    forms = λ act made x t y s m. forms act x t y s m;
    enters = λ act made t s moves vs ws all. enters act made t s moves vs ws all;
  }

pub cminorgen_shown : IsMoved cminorgen
cminorgen_shown = record {
  names = λ decls f g made. ap (λ (x : Routine Expression Target Expression). x.name) made.routine;
  laid_out_too = joined_laid_out;
  is_placing = λ setting decls ts ss run. is_placing setting ts ss run.laid_out;
  prices = tariff_by stack_address cminor_routine;
  waits = λ ts ss all. omega arith;
  steps = λ setting decls ts ss run. steps setting ts ss run.laid_out;
}
