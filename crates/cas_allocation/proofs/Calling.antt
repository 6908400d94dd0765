-- Calls: arguments are moved into their registers, and the result is moved from its own.
use Rattle.std.proofs.Common.{◌≡◌, inl, inr, ℕ, ◌+◌, ◌≤◌, List, [], ◌∷◌, Option, Some, None, Bool, true, false, slice_get, nat_lt, refl, sym, ap, ◌∙◌, subst, arith}
use Rattle.cas_runs.specs.Label.{NameBytes}
use Rattle.cas_runs.specs.Naming.{Value, Memory, usable}
use Rattle.cas_runs.specs.Bounds.{total}
use Rattle.cas_runs.specs.Access.{Then, Fails, with_value}
use Rattle.cas_runs.specs.Calls.{Calls}
use Rattle.cas_runs.specs.Held.{MatchIf, at_last, fails_too, calls_held}
use Rattle.cas_runs.specs.Passing.{AllMatch}
use Rattle.cas_mid.specs.Operators.{only_if}
use Rattle.cas_sel.specs.declared.tree.Op.TheVariants.{Move}
use Rattle.cas_rtl.specs.Graph.{Node, op, call, Graph, some_if, left_of, reads, resumed, node_step, each_argument}
use Rattle.cas_rtl.specs.Rtl.{pseudo_registers}
use Rattle.cas_ltl.specs.declared.tree.Loc.{Loc}
use Rattle.cas_ltl.specs.Locations.{is_scratched, locations, argument_registers, result_register}
use Rattle.cas_ltl.specs.Ltl.{ltl_prices}
use Rattle.cas_graphs.specs.Successors.{IsAmong, successors}
use Rattle.cas_allocation.specs.Liveness.{set_by}
use Rattle.cas_allocation.specs.Allocation.{Plan, places_of, in_registers, Moves, follows, IsAllocated}
use Rattle.cas_allocation.specs.Match.{Agrees, at_node, at_result}
use Rattle.cas_allocation.proofs.Convention.{arguments_apart, arguments_are, begins_with}
use Rattle.cas_allocation.proofs.Moving.{moves_price, registers_paid, run_moves, fail_moves}
use Rattle.cas_allocation.proofs.Nodes.{Registers, with_register, usable_self, reads_source, AllLive, reads_agree, reads_usable, agree_nothing, agree_set, agree_drop}
use Rattle.cas_allocation.proofs.Reading.{Values, with_place, set_other, set_itself, left_kept, differ, AreKept, moved, moved_other, moved_reads, reads_of, reads_at}
use Rattle.cas_allocation.proofs.Together.{Together, target_cost, source_cost, relation, held, target_of, source_of, SForm, Does, equal_values, there, here, Can, can_more, can_at}

module _ {F G : Type 0} (w : Together F G) (serial : ℕ) (made : IsAllocated (target_of w) (source_of w)) (i : ℕ)
    (ls : Values) (vs : Registers) (agree : Agrees made.plan i ls vs) where
  abbrev f : Graph Loc
  f = target_of w

  abbrev g : Graph ℕ
  g = source_of w

  abbrev plan : Plan
  plan = made.plan

  abbrev ps : List ℕ → List Loc
  ps rs = places_of plan rs

  abbrev regs : List ℕ → List Loc
  regs rs = in_registers argument_registers (ps rs)

  abbrev read_source : List ℕ → Option (List Value)
  read_source rs = reads_source w serial made i ls vs agree rs

  -- what nodes don't lose is as it was
  abbrev IsKept : Values → Type 0
  IsKept ls' = (q : Loc) → is_scratched q ≡ false → ls' q ≡ ls q

  places_kept : (rs : List ℕ) → AreKept (ps rs)
  places_kept [] p is = absurd is
  places_kept (r ∷ rs) p (inl e) =
      let assigned = made.made.assigned in ap is_scratched (sym e) ∙ assigned.kept r
  places_kept (r ∷ rs) p (inr is) = places_kept rs p is

  no_argument : (q : Loc) → is_scratched q ≡ false → IsAmong argument_registers q → ⊥
  no_argument q kept is = let reg = arguments_are f.names q is in differ q q kept reg.lost refl

  -- moves of arguments, and then what follows
  pub with_moves : (c : ℕ) (m : Memory) (rs : List ℕ) → AllLive w serial made i ls vs agree rs → (k : ℕ) →
      Moves plan f.nodes (plan.head i) (ps rs) argument_registers k → (goes_on : List Value → SForm w) →
      ((ls : Values) → Can w serial c m (there w serial ls k) Fails) →
      ((us : List Value) (ls' : Values) → AllMatch (relation w) us us →
      reads locations (there w serial ls' k) (regs rs) ≡ Some us → IsKept ls' →
      Can w serial c m (there w serial ls' k) (goes_on us)) →
      Can w serial (c + moves_price (ps rs)) m (there w serial ls (plan.head i)) (with_value (read_source rs) goes_on)
  with_moves c m rs live k chain goes_on failing h = by (read_source rs) refl
    where
      by : (o : Option (List Value)) → read_source rs ≡ o →
          Can w serial (c + moves_price (ps rs)) m (there w serial ls (plan.head i)) (with_value o goes_on)
      by None e = fail_moves w serial plan c m (plan.head i) k (ps rs) argument_registers ls chain failing
      by (Some us) e =
          let got : reads_of f serial ls (ps rs) ≡ Some us = reads_agree w serial made i ls vs agree rs live us e in
          let after : Values = moved ls (ps rs) argument_registers in
          run_moves w serial plan c m (plan.head i) k (ps rs) argument_registers (goes_on us) chain ls
          (arguments_are f.names) (places_kept rs) us got
          (h us after (reads_usable w serial made i ls vs agree rs us e)
          (reads_at f serial after k (regs rs)
          ∙ moved_reads f serial (ps rs) argument_registers ls arguments_apart (arguments_are f.names)
          (places_kept rs) us got)
          (λ q kept. moved_other (ps rs) argument_registers ls q (no_argument q kept)))

  -- what a call leaves
  module _ (m : Memory) (node : Node ℕ) (n : ℕ) (at : slice_get g.nodes i ≡ Some node)
      (leads : IsAmong (successors node) n) (ls' : Values) (kept : IsKept ls') (k : ℕ) where
    abbrev Back : Option Loc → ℕ → Option ℕ → List Value → Type 0
    Back p l r us =
        MatchIf (relation w) (held w) w.act (resumed locations (there w serial ls' k) p l us) m
        (resumed pseudo_registers (here w serial vs i) r n us) m

    left_same : IsKept (left_of locations ls')
    left_same q e = left_kept ls' q e ∙ kept q e

    result_same : (u : Value) → IsKept (with_place (left_of locations ls') result_register u)
    result_same u q e =
        set_other (left_of locations ls') result_register q u (differ q result_register e refl) ∙ left_same q e

    pub back_nothing : set_by node ≡ None → (us : List Value) → Back None (plan.head n) None us
    back_nothing none us =
        at_node made (agree_nothing w serial made i ls vs agree node n at leads (left_of locations ls') left_same vs
        (λ r. refl) none) (follows i node at leads)

    pub back_result : (d l : ℕ) → plan.live n d ≡ true → set_by node ≡ Some d →
        slice_get f.nodes l ≡ Some (op Move (result_register ∷ []) (plan.place d) (plan.head n)) → (us : List Value) →
        AllMatch (relation w) us us → Back (Some result_register) l (Some d) us
    back_result d l live sets move [] all = tt
    back_result d l live sets move (u ∷ us) all = by (nat_lt d g.names) refl
      where
        now : Values
        now = with_place (left_of locations ls') result_register u

        by : (b : Bool) → nat_lt d g.names ≡ b →
            MatchIf (relation w) (held w) w.act (Some (there w serial now l)) m
            (some_if b (here w serial (with_register vs d u) n)) m
        by false less = tt
        by true less =
            at_result made move less u
            (ap usable (set_itself (left_of locations ls') result_register u) ∙ usable_self u all.0.1)
            (subst (λ x. Agrees plan n (with_place now (plan.place d) x) (with_register vs d u))
            (sym (set_itself (left_of locations ls') result_register u))
            (agree_set w serial made i ls vs agree node n at leads now (result_same u) vs (λ r. refl) d u live sets))
            (follows i node at leads)

    pub back_dropped : (d : ℕ) → plan.live n d ≡ false → set_by node ≡ Some d → (us : List Value) →
        Back (Some result_register) (plan.head n) (Some d) us
    back_dropped d dead sets [] = tt
    back_dropped d dead sets (u ∷ us) = by (nat_lt d g.names)
      where
        now : Values
        now = with_place (left_of locations ls') result_register u

        by : (b : Bool) →
            MatchIf (relation w) (held w) w.act (Some (there w serial now (plan.head n))) m
            (some_if b (here w serial (with_register vs d u) n)) m
        by false = tt
        by true =
            at_node made (agree_drop w serial made i ls vs agree node n at leads now (result_same u) vs (λ r. refl) d u
            dead sets) (follows i node at leads)

  -- both go on so with the results of a call, whatever they are
  abbrev BackToo : (n : ℕ) → Option Loc → ℕ → Option ℕ → Values → ℕ → Type 0
  BackToo n p l r ls' k =
      (m : Memory) (us : List Value) → AllMatch (relation w) us us →
      MatchIf (relation w) (held w) w.act (resumed locations (there w serial ls' k) p l us) m
      (resumed pseudo_registers (here w serial vs i) r n us) m

  usable_after : (us xs : List Value) → us ≡ xs → AllMatch (relation w) us xs → AllMatch (relation w) us us
  usable_after us xs e h = subst (λ ys. AllMatch (relation w) us ys) (sym e) h

  calls_then : (m : Memory) (name : NameBytes) (us : List Value) → AllMatch (relation w) us us → (n : ℕ) (p : Option Loc)
      (l : ℕ) (r : Option ℕ) (ls' : Values) (k : ℕ) → BackToo n p l r ls' k →
      Does w 0 m (Then (Calls name us (resumed locations (there w serial ls' k) p l)))
      (Then (Calls name us (resumed pseudo_registers (here w serial vs i) r n)))
  calls_then m name us all n p l r ls' k back =
      at_last (calls_held all refl
      (λ xs zs same count t s tk sk equal. after t s equal xs zs (equal_values w xs zs same) same))
    where
      after : (t s : Memory) → t ≡ s → (xs zs : List Value) → xs ≡ zs → AllMatch (relation w) xs zs →
          MatchIf (relation w) (held w) w.act (resumed locations (there w serial ls' k) p l xs) t
          (resumed pseudo_registers (here w serial vs i) r n zs) s
      after t s equal xs zs e h =
          subst (λ (a : Memory). MatchIf (relation w) (held w) w.act (resumed locations (there w serial ls' k) p l xs) t
          (resumed pseudo_registers (here w serial vs i) r n zs) a) equal
          (subst (λ ys. MatchIf (relation w) (held w) w.act (resumed locations (there w serial ls' k) p l xs) t
          (resumed pseudo_registers (here w serial vs i) r n ys) t) e (back t xs (usable_after xs zs e h)))

  -- a call, with the moves before it
  pub calls_too : (c : ℕ) (m : Memory) (name : NameBytes) (rs : List ℕ) (r : Option ℕ) (n k : ℕ) (p : Option Loc)
      (l : ℕ) → AllLive w serial made i ls vs agree rs →
      Moves plan f.nodes (plan.head i) (ps rs) argument_registers k →
      slice_get f.nodes k ≡ Some (call name (regs rs) p l) → source_cost (Some (call name rs r n)) ≤ c + 5 →
      ((ls' : Values) → IsKept ls' → BackToo n p l r ls' k) →
      Can w serial c m (there w serial ls (plan.head i))
      (node_step pseudo_registers (here w serial vs i) (call name rs r n))
  calls_too c m name rs r n k p l live chain at paid back =
      let cost = registers_paid plan argument_registers rs in
      let budget : ℕ = 7 + total (each_argument ltl_prices (regs rs)) in
      let enough : target_cost (Some (call name (regs rs) p l)) + 0 ≤ budget = omega arith in
      can_more w serial (budget + moves_price (ps rs)) c m (there w serial ls (plan.head i)) _ (omega (arith, cost, paid))
      (with_moves budget m rs live k chain
      (λ us. Then (Calls name us (resumed pseudo_registers (here w serial vs i) r n)))
      (λ ls'. can_at w serial budget 0 m ls' k (call name (regs rs) p l) Fails at enough fails_too)
      (λ us ls' all got kept. can_at w serial budget 0 m ls' k (call name (regs rs) p l) _ at enough
      (subst (λ b. Does w 0 m (only_if b (with_value (reads locations (there w serial ls' k) (regs rs))
      (λ us. Then (Calls name us (resumed locations (there w serial ls' k) p l)))))
      (Then (Calls name us (resumed pseudo_registers (here w serial vs i) r n))))
      (sym (begins_with argument_registers (ps rs)))
      (subst (λ o. Does w 0 m (with_value o (λ us. Then (Calls name us (resumed locations (there w serial ls' k) p l))))
      (Then (Calls name us (resumed pseudo_registers (here w serial vs i) r n)))) (sym got)
      (calls_then m name us all n p l r ls' k (back ls' kept))))))
