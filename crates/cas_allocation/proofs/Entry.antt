-- Activations begin: arguments come into registers and places, and live parameters are moved to their places.
use Rattle.std.proofs.Common.{◌≡◌, inl, inr, ℕ, suc, ◌+◌, ◌*◌, ◌≤◌, List, [], ◌∷◌, Option, Some, None, Bool, true, false, length, slice_get, nat_eq, nat_lt, refl, sym, ap, ◌∙◌, subst, eqb-true, arith}
use Rattle.cas_runs.specs.Label.{Each}
use Rattle.cas_runs.specs.Naming.{Value, Hidden, Unset, Memory, and_then, usable}
use Rattle.cas_runs.specs.Bounds.{total, first_price}
use Rattle.cas_runs.specs.Held.{BeginIf, begins_at_once}
use Rattle.cas_mid.specs.Operators.{either}
use Rattle.cas_rtl.specs.Graph as graph
use Rattle.cas_rtl.specs.Graph.{Node, op, Graph, Point, some_if, given, step_at}
use Rattle.cas_rtl.specs.Rtl.{pseudo_registers, rtl}
use Rattle.cas_ltl.specs.declared.tree.Loc.{Loc}
use Rattle.cas_ltl.specs.Locations.{is_there, is_scratched, locations, argument_registers, result_register}
use Rattle.cas_ltl.specs.Ltl.{ltl}
use Rattle.cas_graphs.specs.Successors.{IsAmong}
use Rattle.cas_allocation.specs.Allocation as allocation
use Rattle.cas_allocation.specs.Allocation.{Plan, arrived, comes_in, EntryMoves, enters, IsAllocated}
use Rattle.cas_allocation.specs.Usable.{IsUsable}
use Rattle.cas_allocation.proofs.Convention.{AreApart, one_apart, AreRegisters, arguments_apart, arguments_are}
use Rattle.cas_allocation.proofs.Nodes.{Registers, with_register, usable_self}
use Rattle.cas_allocation.proofs.Reading.{Values, with_place, usable_is, set_other, set_itself, differ}
use Rattle.cas_allocation.proofs.Simulation.{from_node}
use Rattle.cas_allocation.proofs.Together.{Together, target_cost, source_cost, relation, held, target_of, source_of, SForm, Does, there, here, Can, can_more, step_move}

-- what the moves of parameters cost at most
abbrev entry_moves_price : List ℕ → List Loc → ℕ
entry_moves_price [] rs = 0
entry_moves_price (p ∷ ps) [] = 0
entry_moves_price (p ∷ ps) (r ∷ rs) = entry_moves_price ps rs + 5

entry_moves_few : (ps : List ℕ) (rs : List Loc) → entry_moves_price ps rs ≤ 5 * length rs
entry_moves_few [] rs = omega arith
entry_moves_few (p ∷ ps) [] = omega arith
entry_moves_few (p ∷ ps) (r ∷ rs) = let rest = entry_moves_few ps rs in omega (arith, rest)

-- a language has one argument more
data OneGiven (names p : ℕ) (u : Value) (o : Option Registers) (vs : Registers) : Type 0 where
  one_given :
      (us : Registers) → o ≡ Some us → nat_lt p names ≡ true → vs ≡ with_register us p u → OneGiven names p u o vs

split_given : (names p : ℕ) (u : Value) (o : Option Registers) (vs : Registers) →
    and_then o (λ us. some_if (nat_lt p names) (with_register us p u)) ≡ Some vs → OneGiven names p u o vs
split_given names p u None vs e = absurd (cc e)
split_given names p u (Some us) vs e = by (nat_lt p names) refl e
  where
    by : (b : Bool) → nat_lt p names ≡ b → some_if b (with_register us p u) ≡ Some vs →
        OneGiven names p u (Some us) vs
    by false less e' = absurd (cc e')
    by true less e' = let same : with_register us p u ≡ vs = cc e' in one_given us refl less (sym same)

module _ {F G : Type 0} (w : Together F G) (serial : ℕ) (made : IsAllocated (target_of w) (source_of w)) where
  abbrev f : Graph Loc
  f = target_of w

  abbrev g : Graph ℕ
  g = source_of w

  abbrev plan : Plan
  plan = made.plan

  abbrev first_live : ℕ → Bool
  first_live r = plan.live g.entry r

  kept_place : (r : ℕ) → is_scratched (plan.place r) ≡ false
  kept_place r = let assigned = made.made.assigned in assigned.kept r

  -- what is live where the function begins has its value in its place
  abbrev InPlaces : Values → Registers → Type 0
  InPlaces ls vs = (r : ℕ) (v : Value) → first_live r ≡ true → usable (vs r) ≡ Some v → ls (plan.place r) ≡ v

  -- what has come where: the first arguments in registers, and those behind them in their places
  data HaveCome (ls : Values) : List ℕ → List Loc → Registers → Type 0 where
    none_come : {rs : List Loc} → HaveCome ls [] rs (λ r. Hidden Unset)
    on_stack_come : {p : ℕ} {ps : List ℕ} {vs : Registers} → InPlaces ls vs → HaveCome ls (p ∷ ps) [] vs
    one_come :
        {p : ℕ} {r : Loc} {ps : List ℕ} {rs : List Loc} {vs : Registers} (u : Value)
        → usable u ≡ Some u
        → ls r ≡ u
        → HaveCome ls ps rs vs
        → HaveCome ls (p ∷ ps) (r ∷ rs) (with_register vs p u)

  come_too : (ls ls' : Values) (ps : List ℕ) (rs : List Loc) (vs : Registers) →
      ((q : Loc) → is_scratched q ≡ false → ls' q ≡ ls q) → ((q : Loc) → IsAmong rs q → ls' q ≡ ls q) →
      HaveCome ls ps rs vs → HaveCome ls' ps rs vs
  come_too ls ls' ps rs vs kept regs none_come = none_come
  come_too ls ls' ps rs vs kept regs (on_stack_come h) =
      on_stack_come (λ r v live e. kept (plan.place r) (kept_place r) ∙ h r v live e)
  come_too ls ls' ps rs vs kept regs (one_come {r = r} {ps = rest} {rs = more} {vs = us} u shows at then) =
      one_come u shows (regs r (inl refl) ∙ at) (come_too ls ls' rest more us kept (λ q is. regs q (inr is)) then)

  -- one live parameter more is in its place
  one_placed : (ls : Values) (vs : Registers) (p : ℕ) (u : Value) → first_live p ≡ true → InPlaces ls vs →
      InPlaces (with_place ls (plan.place p) u) (with_register vs p u)
  one_placed ls vs p u live h r v live_r e = by (nat_eq r p) refl e
    where
      by : (b : Bool) → nat_eq r p ≡ b → usable (either u (vs r) b) ≡ Some v →
          with_place ls (plan.place p) u (plan.place r) ≡ v
      by true is e' =
          let equal : r ≡ p = eqb-true r p is in
          ap (λ x. with_place ls (plan.place p) u (plan.place x)) equal ∙ set_itself ls (plan.place p) u
          ∙ usable_is u v e'
      by false is e' =
          let not : r ≡ p → ⊥ = λ k. absurd (grind (arith, k, is)) in
          let assigned = made.made.assigned in
          set_other ls (plan.place p) (plan.place r) u (λ k. not (assigned.apart g.entry r p enters live_r live k))
          ∙ h r v live_r e'

  one_dead : (ls : Values) (vs : Registers) (p : ℕ) (u : Value) → first_live p ≡ false → InPlaces ls vs →
      InPlaces ls (with_register vs p u)
  one_dead ls vs p u dead h r v live_r e = by (nat_eq r p) refl e
    where
      by : (b : Bool) → nat_eq r p ≡ b → usable (either u (vs r) b) ≡ Some v → ls (plan.place r) ≡ v
      by true is e' =
          let equal : r ≡ p = eqb-true r p is in
          let no : true ≡ false = sym live_r ∙ ap first_live equal ∙ dead in
          absurd (cc no)
      by false is e' = h r v live_r e'

  abbrev given_source : List ℕ → List Value → Option Registers
  given_source ps us = given pseudo_registers g.names ps us

  abbrev given_target : List Loc → List Value → Option Values
  given_target ps us = given locations f.names ps us

  give_one : (ps : List Loc) (p : Loc) (us : List Value) (u : Value) (ls : Values) → given_target ps us ≡ Some ls →
      is_there f.names p ≡ true → given_target (p ∷ ps) (u ∷ us) ≡ Some (with_place ls p u)
  give_one ps p us u ls rest is =
      ap (λ o. and_then o (λ x. some_if (is_there f.names p) (with_place x p u))) rest
      ∙ ap (λ b. some_if b (with_place ls p u)) is

  -- the target gets these arguments so
  record Comes (ps : List Loc) (us : List Value) (Is : Values → Type 0) : Type 0 where
    values : Values
    given_so : given_target ps us ≡ Some values
    is : Is values

  -- the target gets the arguments on the stack so, where the first of them is live or isn't
  abbrev StackComes : Bool → ℕ → List ℕ → List Value → Registers → Type 0
  StackComes b p ps us vs =
      Comes (either (plan.place p) result_register b ∷ arrived plan first_live ps) us (λ ls. InPlaces ls vs)

  given_stack : (ps : List ℕ) (us : List Value) (vs : Registers) → given_source ps us ≡ Some vs →
      Comes (arrived plan first_live ps) us (λ ls. InPlaces ls vs)
  given_stack [] [] vs e = record {
    values = λ q. Hidden Unset;
    given_so = refl;
    is = λ r v live s.
        (let none : (λ (r : ℕ). Hidden Unset) ≡ vs = cc e in
        let no : usable (Hidden Unset) ≡ Some v = ap (λ (x : Registers). usable (x r)) none ∙ s in
        absurd (cc no));
  }
  given_stack [] (u ∷ us) vs e = absurd (cc e)
  given_stack (p ∷ ps) [] vs e = absurd (cc e)
  given_stack (p ∷ ps) (u ∷ us) vs e =
      by (λ vs' got. given_stack ps us vs' got) (split_given g.names p u (given_source ps us) vs e)
    where
      by : ((vs' : Registers) → given_source ps us ≡ Some vs' →
          Comes (arrived plan first_live ps) us (λ ls. InPlaces ls vs')) →
          OneGiven g.names p u (given_source ps us) vs → StackComes (first_live p) p ps (u ∷ us) vs
      by again (one_given vs' got less is) = pick (first_live p) refl
        where
          rest : Comes (arrived plan first_live ps) us (λ ls. InPlaces ls vs')
          rest = again vs' got

          pick : (b : Bool) → first_live p ≡ b → StackComes b p ps (u ∷ us) vs
          pick true live =
              let all = rest in
              let assigned = made.made.assigned in
              record {
                values = with_place all.values (plan.place p) u;
                given_so = give_one (arrived plan first_live ps) (plan.place p) us u all.values all.given_so
                    (assigned.there p less);
                is = subst (λ (x : Registers). InPlaces (with_place all.values (plan.place p) u) x) (sym is)
                    (one_placed all.values vs' p u live all.is);
              }
          pick false dead =
              let all = rest in
              record {
                values = with_place all.values result_register u;
                given_so = give_one (arrived plan first_live ps) result_register us u all.values all.given_so refl;
                is = subst (λ (x : Registers). InPlaces (with_place all.values result_register u) x) (sym is)
                    (one_dead (with_place all.values result_register u) vs' p u dead
                    (λ r v live s. set_other all.values result_register (plan.place r) u
                    (differ (plan.place r) result_register (kept_place r) refl) ∙ all.is r v live s));
              }

  given_registers : (ps : List ℕ) (rs : List Loc) (us : List Value) (vs : Registers) → Each IsUsable us → AreApart rs →
      AreRegisters f.names rs → given_source ps us ≡ Some vs →
      Comes (comes_in plan first_live rs ps) us (λ ls. HaveCome ls ps rs vs)
  given_registers [] [] [] vs good apart regs e = record {
    values = λ q. Hidden Unset;
    given_so = refl;
    is = subst (λ (x : Registers). HaveCome (λ q. Hidden Unset) [] [] x)
        (let none : (λ (r : ℕ). Hidden Unset) ≡ vs = cc e in none) none_come;
  }
  given_registers [] [] (u ∷ us) vs good apart regs e = absurd (cc e)
  given_registers (p ∷ ps) [] us vs good apart regs e =
      let all = given_stack (p ∷ ps) us vs e in
      record { values = all.values; given_so = all.given_so; is = on_stack_come all.is }
  given_registers [] (r ∷ rs) [] vs good apart regs e = record {
    values = λ q. Hidden Unset;
    given_so = refl;
    is = subst (λ (x : Registers). HaveCome (λ q. Hidden Unset) [] (r ∷ rs) x)
        (let none : (λ (r : ℕ). Hidden Unset) ≡ vs = cc e in none) none_come;
  }
  given_registers [] (r ∷ rs) (u ∷ us) vs good apart regs e = absurd (cc e)
  given_registers (p ∷ ps) (r ∷ rs) [] vs good apart regs e = absurd (cc e)
  given_registers (p ∷ ps) (r ∷ rs) (u ∷ us) vs good (one_apart not apart) regs e =
      by (λ vs' got. given_registers ps rs us vs' good.1 apart (λ q is. regs q (inr is)) got)
      (split_given g.names p u (given_source ps us) vs e)
    where
      by : ((vs' : Registers) → given_source ps us ≡ Some vs' →
          Comes (comes_in plan first_live rs ps) us (λ ls. HaveCome ls ps rs vs')) →
          OneGiven g.names p u (given_source ps us) vs →
          Comes (r ∷ comes_in plan first_live rs ps) (u ∷ us) (λ ls. HaveCome ls (p ∷ ps) (r ∷ rs) vs)
      by again (one_given vs' got less is) =
          let all = again vs' got in
          let reg = regs r (inl refl) in
          let now : Values = with_place all.values r u in
          record {
            values = now;
            given_so = give_one (comes_in plan first_live rs ps) r us u all.values all.given_so reg.there;
            is = subst (λ (x : Registers). HaveCome now (p ∷ ps) (r ∷ rs) x) (sym is)
                (one_come u (usable_self u good.0) (set_itself all.values r u)
                (come_too all.values now ps rs vs'
                (λ q k. set_other all.values r q u (differ q r k reg.lost))
                (λ q k. set_other all.values r q u (λ h. not (subst (λ (x : Loc). IsAmong rs x) h k))) all.is));
          }

  -- the moves of parameters to their places
  run_entry : (c : ℕ) (m : Memory) (k l : ℕ) (ps : List ℕ) (rs : List Loc) (y : SForm w) (ls : Values)
      (vs : Registers) → EntryMoves plan f.nodes first_live k ps rs l → AreRegisters f.names rs →
      ((p : ℕ) → IsAmong ps p → nat_lt p g.names ≡ true) → HaveCome ls ps rs vs →
      ((ls' : Values) → ((q : Loc) → is_scratched q ≡ true → ls' q ≡ ls q) → InPlaces ls' vs →
      Can w serial c m (there w serial ls' l) y) →
      Can w serial (c + entry_moves_price ps rs) m (there w serial ls k) y
  run_entry c m k l ps rs y ls vs allocation.all_moved regs is none_come h =
      can_more w serial c (c + 0) m (there w serial ls k) y (omega arith) (h ls (λ q s. refl) (λ r v live s. absurd (cc s)))
  run_entry c m k l ps rs y ls vs allocation.on_stack regs is (on_stack_come in_places) h =
      can_more w serial c (c + 0) m (there w serial ls k) y (omega arith) (h ls (λ q s. refl) in_places)
  run_entry c m k l ps rs y ls vs (allocation.unused {p = p} {ps = rest} {rs = more} dead chain) regs is
      (one_come {vs = us} u shows at then) h =
      can_more w serial (c + entry_moves_price rest more) (c + (entry_moves_price rest more + 5)) m (there w serial ls k) y
      (omega arith)
      (run_entry c m k l rest more y ls us chain (λ q am. regs q (inr am)) (λ q am. is q (inr am)) then
      (λ ls' kept in_places. h ls' kept (one_dead ls' us p u dead in_places)))
  run_entry c m k l ps rs y ls vs (allocation.moved {l = last} {p = p} {r = r} {ps = rest} {rs = more} live chain move)
      regs is (one_come {vs = us} u shows at then) h =
      can_more w serial (c + 5 + entry_moves_price rest more) (c + (entry_moves_price rest more + 5)) m
      (there w serial ls k) y (omega arith)
      (run_entry (c + 5) m k last rest more y ls us chain (λ q am. regs q (inr am)) (λ q am. is q (inr am)) then
      (λ ls' kept in_places.
      (let reg = regs r (inl refl) in
      let value : ls' r ≡ u = kept r reg.lost ∙ at in
      let assigned = made.made.assigned in
      step_move w serial c m ls' last l r (plan.place p) u y move
      (ap (λ b. either (usable (ls' r)) None b) reg.there ∙ ap usable value ∙ shows)
      (assigned.there p (is p (inl refl)))
      (h (with_place ls' (plan.place p) u)
      (λ q s. set_other ls' (plan.place p) q u (λ e. differ (plan.place p) q (kept_place p) s (sym e)) ∙ kept q s)
      (one_placed ls' us p u live in_places)))))

  all_there : (ps : List ℕ) (us : List Value) (vs : Registers) → given_source ps us ≡ Some vs → (p : ℕ) →
      IsAmong ps p → nat_lt p g.names ≡ true
  all_there [] us vs e p is = absurd is
  all_there (q ∷ ps) [] vs e p is = absurd (cc e)
  all_there (q ∷ ps) (u ∷ us) vs e p is =
      by (λ vs' got r am. all_there ps us vs' got r am) (split_given g.names q u (given_source ps us) vs e) is
    where
      by : ((vs' : Registers) → given_source ps us ≡ Some vs' → (r : ℕ) → IsAmong ps r → nat_lt r g.names ≡ true) →
          OneGiven g.names q u (given_source ps us) vs → IsAmong (q ∷ ps) p → nat_lt p g.names ≡ true
      by again (one_given vs' got less same) (inl e) = ap (λ r. nat_lt r g.names) (sym e) ∙ less
      by again (one_given vs' got less same) (inr am) = again vs' got p am

  same_count : (rs : List Loc) (ps : List ℕ) → length (comes_in plan first_live rs ps) ≡ length ps
  same_count [] [] = refl
  same_count [] (p ∷ ps) = ap suc (same_count [] ps)
  same_count (r ∷ rs) [] = refl
  same_count (r ∷ rs) (p ∷ ps) = ap suc (same_count rs ps)

  abbrev Begins : Option Values → Memory → Option Registers → Type 0
  Begins o m o' =
      BeginIf (relation w) (held w) w.act (graph.begun locations f serial o) m (graph.begun pseudo_registers g serial o')
      m

  none_begins : (m : Memory) (o : Option Values) → Begins o m None
  none_begins m None = tt
  none_begins m (Some ls) = tt

  -- activations begin alike
  pub begins_made : (m : Memory) (us : List Value) → Each IsUsable us →
      Begins (given_target f.parameters us) m (given_source g.parameters us)
  begins_made m us good =
      subst (λ ps. Begins (given_target ps us) m (given_source g.parameters us)) (sym parameters)
      (by (given_source g.parameters us) refl)
    where
      parameters : f.parameters ≡ comes_in plan first_live argument_registers g.parameters
      parameters = let all = made.made in all.parameters

      by : (o : Option Registers) → given_source g.parameters us ≡ o →
          Begins (given_target (comes_in plan first_live argument_registers g.parameters) us) m o
      by None e = none_begins m (given_target (comes_in plan first_live argument_registers g.parameters) us)
      by (Some vs) e =
          let all = made.made in
          let begins = all.begins in
          let come = given_registers g.parameters argument_registers us vs good arguments_apart (arguments_are f.names) e
          in
          let moves : ℕ = entry_moves_price g.parameters argument_registers in
          let can : Can w serial (source_cost (Some begins.node) + moves) m (there w serial come.values f.entry)
          (step_at pseudo_registers (here w serial vs g.entry) (Some begins.node)) =
          run_entry (source_cost (Some begins.node)) m f.entry (plan.head g.entry) g.parameters argument_registers _
          come.values vs all.entry (arguments_are f.names) (all_there g.parameters us vs e) come.is
          (λ ls kept in_places. from_node w serial made g.entry ls vs in_places m (source_cost (Some begins.node))
          begins.node begins.there (omega arith) (all.nodes g.entry begins.node begins.there)) in
          let cells : total f.blocks ≡ total g.blocks = ap total made.blocks in
          let count : length f.parameters ≡ length g.parameters =
          ap length parameters ∙ same_count argument_registers g.parameters in
          let few = entry_moves_few g.parameters argument_registers in
          let own = can.price in
          subst (λ o. Begins o m (Some vs)) (sym come.given_so)
          (begins_at_once can.credit
          (subst (λ o. target_cost (slice_get f.nodes f.entry)
          + first_price (ltl w.target_graph).tariff (ltl w.target_graph).blocks w.act.target + can.credit
          ≤ source_cost o + first_price (rtl w.source_graph).tariff (rtl w.source_graph).blocks w.act.source)
          (sym begins.there) (omega (arith, cells, count, few, own)))
          (subst (λ o. Does w can.credit m (graph.step locations (there w serial come.values f.entry))
          (step_at pseudo_registers (here w serial vs g.entry) o)) (sym begins.there) can.does))
