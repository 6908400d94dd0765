-- Allocation: one case for what is made of each node.
use Rattle.std.proofs.Common.{◌≡◌, inl, inr, ℕ, zero, suc, ◌+◌, ◌≤◌, List, [], ◌∷◌, Option, Some, None, Bool, true, false, length, slice_get, nat_lt, refl, sym, ap, ◌∙◌, subst, arith}
use Rattle.cas_runs.specs.Label.{NameBytes}
use Rattle.cas_runs.specs.Naming.{Value, Memory, usable}
use Rattle.cas_runs.specs.Bounds.{total}
use Rattle.cas_runs.specs.Access.{Then, Fails, with_value}
use Rattle.cas_runs.specs.Calls.{Tails, Returns}
use Rattle.cas_runs.specs.Held.{Leads, Alone, meets_there, steps_alone, fails_alone, at_last, fails_too, goes_held, takes_held, gives_held, tails_held, returns_held}
use Rattle.cas_mid.specs.Operators.{either, only_if}
use Rattle.cas_sel.specs.declared.tree.Op.TheVariants.{Move}
use Rattle.cas_sel.specs.Operations.{operate, load_by, locate, decide}
use Rattle.cas_rtl.specs.Graph as graph
use Rattle.cas_rtl.specs.Graph.{Node, nop, op, load, store, call, tail, test, return_, lock, unlock, out, Graph, Point, is_empty, are_few, stored_at, left_of, left_by, reads, node_step, step_at, each_argument}
use Rattle.cas_rtl.specs.Rtl.{pseudo_registers}
use Rattle.cas_ltl.specs.declared.tree.Loc.{Loc}
use Rattle.cas_ltl.specs.Locations.{locations, argument_registers, result_register, begin_with}
use Rattle.cas_ltl.specs.Ltl.{ltl_prices}
use Rattle.cas_graphs.specs.Successors.{IsAmong}
use Rattle.cas_allocation.specs.Liveness.{uses, by_op, by_load}
use Rattle.cas_allocation.specs.Allocation.{Plan, places_of, in_registers, Moves, IsMadeNode, nops, ops, ops_dropped, loads, loads_dropped, stores, calls, calls_dropped, calls_nothing, tails, tests, returns_nothing, returns, locks, unlocks, outs, follows, IsAllocated}
use Rattle.cas_allocation.specs.Match.{Agrees, MatchStates, at_node, at_result}
use Rattle.cas_allocation.proofs.Calling.{with_moves, calls_too, back_nothing, back_result, back_dropped}
use Rattle.cas_allocation.proofs.Convention.{begins_with}
use Rattle.cas_allocation.proofs.Moving.{moves_price, plain_paid, registers_paid, fail_moves}
use Rattle.cas_allocation.proofs.Nodes.{Registers, left_source, read_usable, stores_too, puts_too, agree_nothing, read_agrees, on_reads, on_read, computes_too, drops, goes_too}
use Rattle.cas_allocation.proofs.Prices.{op_pays, op_drops}
use Rattle.cas_allocation.proofs.Reading.{Values, with_place, read_of, usable_is, usable_again, set_itself, left_kept, left_by_kept}
use Rattle.cas_allocation.proofs.Together.{Together, target_cost, source_cost, relation, held, target_of, source_of, Does, asks_too, there, here, Can, can_more, can_at, step_move}

-- so much is left where another number is taken away
rest_of : (a b : ℕ) → a ≤ b → (c : ℕ) × (c + a ≡ b)
rest_of zero b le = (b, omega arith)
rest_of (suc a) zero le = absurd (omega (arith, le))
rest_of (suc a) (suc b) le = let more = rest_of a b (omega (arith, le)) in let is = more.1 in (more.0, omega (arith, is))

-- each node pays for a move
pays_move : (node : Node ℕ) → 5 ≤ source_cost (Some node)
pays_move (nop n) = omega arith
pays_move (op o rs d n) = let one = op_drops o in omega (arith, one)
pays_move (load mode rs d n) = omega arith
pays_move (store mode rs d n) = omega arith
pays_move (call name rs d n) = omega arith
pays_move (tail name rs) = omega arith
pays_move (test cond rs n m) = omega arith
pays_move (return_ d) = omega arith
pays_move (lock name n) = omega arith
pays_move (unlock name n) = omega arith
pays_move (out d n) = omega arith

kept_length : (plan : Plan) (ds : List Loc) (rs : List ℕ) → length (in_registers ds (places_of plan rs)) ≡ length rs
kept_length plan [] [] = refl
kept_length plan [] (r ∷ rs) = ap suc (kept_length plan [] rs)
kept_length plan (d ∷ ds) [] = refl
kept_length plan (d ∷ ds) (r ∷ rs) = ap suc (kept_length plan ds rs)

module _ {F G : Type 0} (w : Together F G) (serial : ℕ) (made : IsAllocated (target_of w) (source_of w)) where
  abbrev f : Graph Loc
  f = target_of w

  abbrev g : Graph ℕ
  g = source_of w

  abbrev plan : Plan
  plan = made.plan

  module _ (i : ℕ) (ls : Values) (vs : Registers) (agree : Agrees plan i ls vs) (m : Memory) where
    abbrev there_now : Point Loc
    there_now = there w serial ls (plan.head i)

    abbrev here_now : Point ℕ
    here_now = here w serial vs i

    abbrev ps : List ℕ → List Loc
    ps rs = places_of plan rs

    abbrev regs : List ℕ → List Loc
    regs rs = in_registers argument_registers (ps rs)

    -- what is made of the node can do for these prices what the node does
    abbrev CanDo : ℕ → Node ℕ → Type 0
    CanDo c node = Can w serial c m there_now (node_step pseudo_registers here_now node)

    abbrev IsPaid : ℕ → Node ℕ → Type 0
    IsPaid c node = source_cost (Some node) ≤ c + 5

    abbrev IsHere : Node ℕ → Type 0
    IsHere node = slice_get g.nodes i ≡ Some node

    abbrev Lives : ℕ → Type 0
    Lives r = plan.live i r ≡ true

    used : (node : Node ℕ) → IsHere node → (r : ℕ) → IsAmong (uses node) r → Lives r
    used node at r is = let solved = made.made.solved in solved.used i r node at is

    -- a Return of a value: it is moved, and then returned
    returns_value : (c r k : ℕ) → IsHere (return_ (Some r)) → IsPaid c (return_ (Some r)) →
        slice_get f.nodes (plan.head i) ≡ Some (op Move (plan.place r ∷ []) result_register k) →
        slice_get f.nodes k ≡ Some (return_ (Some result_register)) → CanDo c (return_ (Some r))
    returns_value c r k at paid e then = by (graph.read pseudo_registers here_now r) refl
      where
        by : (o : Option Value) → graph.read pseudo_registers here_now r ≡ o →
            Can w serial c m there_now (with_value o (λ u. Then (Returns (u ∷ []))))
        by None got =
            can_at w serial c 0 m ls (plan.head i) (op Move (plan.place r ∷ []) result_register k) _ e
            (omega (arith, paid)) fails_too
        by (Some u) got =
            let value = read_of (nat_lt r g.names) (usable (vs r)) u got in
            let now : Values = with_place ls result_register u in
            can_more w serial (8 + (2 + (3 + 0)) + 0 + 5) c m there_now _ (omega (arith, paid))
            (step_move w serial (8 + (2 + (3 + 0)) + 0) m ls (plan.head i) k (plan.place r) result_register u _ e
            (read_agrees w serial made i ls vs agree r u (used (return_ (Some r)) at r (inl refl)) got) refl
            (can_at w serial (8 + (2 + (3 + 0)) + 0) 0 m now k (return_ (Some result_register)) _ then (omega arith)
            (subst (λ o. Does w 0 m (with_value o (λ x. Then (Returns (x ∷ [])))) (Then (Returns (u ∷ []))))
            (sym (ap usable (set_itself ls result_register u) ∙ usable_again (vs r) u value.value))
            (at_last (returns_held ((refl, read_usable (vs r) u value.value), tt) refl)))))

    -- a tail call, with the moves before it
    tails_too : (c : ℕ) (name : NameBytes) (rs : List ℕ) (k : ℕ) → IsHere (tail name rs) → IsPaid c (tail name rs) →
        Moves plan f.nodes (plan.head i) (ps rs) argument_registers k →
        slice_get f.nodes k ≡ Some (tail name (regs rs)) → CanDo c (tail name rs)
    tails_too c name rs k at paid chain e = few (nat_lt (length rs) 4) refl
      where
        budget : ℕ
        budget = 8 + total (each_argument ltl_prices (regs rs)) + 0

        enough : 8 + total (each_argument ltl_prices (regs rs)) + 0 + moves_price (ps rs) ≤ c
        enough = let cost = registers_paid plan argument_registers rs in omega (arith, cost, paid)

        failing : (ls' : Values) →
            Can w serial (8 + total (each_argument ltl_prices (regs rs)) + 0) m (there w serial ls' k) Fails
        failing ls' =
            can_at w serial (8 + total (each_argument ltl_prices (regs rs)) + 0) 0 m ls' k (tail name (regs rs)) Fails e
            (omega arith) fails_too

        fails_all : Can w serial c m there_now Fails
        fails_all =
            can_more w serial (8 + total (each_argument ltl_prices (regs rs)) + 0 + moves_price (ps rs)) c m there_now
            Fails enough
            (fail_moves w serial plan (8 + total (each_argument ltl_prices (regs rs)) + 0) m (plan.head i) k (ps rs)
            argument_registers ls chain failing)

        bare : (b : Bool) → nat_lt (length rs) 4 ≡ true → is_empty g.blocks ≡ b →
            Can w serial c m there_now
            (only_if b (with_value (reads pseudo_registers here_now rs) (λ us. Then (Tails name us))))
        bare false le none = fails_all
        bare true le none =
            can_more w serial (8 + total (each_argument ltl_prices (regs rs)) + 0 + moves_price (ps rs)) c m there_now _
            enough
            (with_moves w serial made i ls vs agree (8 + total (each_argument ltl_prices (regs rs)) + 0) m rs
            (λ q is. used (tail name rs) at q is) k chain (λ us. Then (Tails name us)) failing
            (λ us ls' all got kept.
            can_at w serial (8 + total (each_argument ltl_prices (regs rs)) + 0) 0 m ls' k (tail name (regs rs)) _ e
            (omega arith)
            (subst (λ b. Does w 0 m (only_if b (only_if (is_empty f.blocks) (only_if
            (begin_with argument_registers (regs rs)) (with_value (reads locations (there w serial ls' k) (regs rs))
            (λ us. Then (Tails name us)))))) (Then (Tails name us)))
            (sym (ap (λ x. nat_lt x 4) (kept_length plan argument_registers rs) ∙ le))
            (subst (λ b. Does w 0 m (only_if b (only_if (begin_with argument_registers (regs rs))
            (with_value (reads locations (there w serial ls' k) (regs rs)) (λ us. Then (Tails name us)))))
            (Then (Tails name us))) (sym (ap is_empty made.blocks ∙ none))
            (subst (λ b. Does w 0 m (only_if b (with_value (reads locations (there w serial ls' k) (regs rs))
            (λ us. Then (Tails name us)))) (Then (Tails name us))) (sym (begins_with argument_registers (ps rs)))
            (subst (λ o. Does w 0 m (with_value o (λ us. Then (Tails name us))) (Then (Tails name us))) (sym got)
            (at_last (tails_held all refl))))))))

        few : (b : Bool) → nat_lt (length rs) 4 ≡ b →
            Can w serial c m there_now (only_if b (only_if (is_empty g.blocks)
            (with_value (reads pseudo_registers here_now rs) (λ us. Then (Tails name us)))))
        few false le = fails_all
        few true le = bare (is_empty g.blocks) le refl

    -- a Test
    tests_too : (c : ℕ) (cond : _) (rs : List ℕ) (n k : ℕ) → IsHere (test cond rs n k) → IsPaid c (test cond rs n k) →
        slice_get f.nodes (plan.head i) ≡ Some (test cond (ps rs) (plan.head n) (plan.head k)) →
        CanDo c (test cond rs n k)
    tests_too c cond rs n k at paid e =
        let own = plain_paid plan rs in
        can_at w serial c 0 m ls (plan.head i) (test cond (ps rs) (plan.head n) (plan.head k)) _ e
        (omega (arith, own, paid))
        (on_reads w serial made i ls vs agree 0 m (plan.head i) rs (λ q is. used (test cond rs n k) at q is) _ _
        (λ us got. asks_too w 0 m (decide cond us) _ _ branch))
      where
        branch : (is : Bool) →
            Does w 0 m (graph.goes locations there_now (left_of locations ls) (either (plan.head n) (plan.head k) is))
            (graph.goes pseudo_registers here_now vs (either n k is))
        branch true =
            at_last (goes_held (goes_too w serial made i ls vs agree m (test cond rs n k) n at (inl refl) refl))
        branch false =
            at_last (goes_held (goes_too w serial made i ls vs agree m (test cond rs n k) k at (inr (inl refl)) refl))

    -- a Store
    stores_node : (c : ℕ) (mode : _) (rs : List ℕ) (r n : ℕ) → IsHere (store mode rs r n) → IsPaid c (store mode rs r n) →
        slice_get f.nodes (plan.head i) ≡ Some (store mode (ps rs) (plan.place r) (plan.head n)) →
        CanDo c (store mode rs r n)
    stores_node c mode rs r n at paid e =
        let own = plain_paid plan rs in
        can_at w serial c 0 m ls (plan.head i) (store mode (ps rs) (plan.place r) (plan.head n)) _ e
        (omega (arith, own, paid))
        (on_reads w serial made i ls vs agree 0 m (plan.head i) rs (λ q is. used (store mode rs r n) at q (inr is)) _ _
        (λ us got. on_read w serial made i ls vs agree 0 m r (used (store mode rs r n) at r (inl refl)) _ _
        (λ u first. located us u)))
      where
        after : (us : List Value) (u : Value) (o : Option _) →
            Does w 0 m (with_value o
            (λ l. stored_at l u (graph.goes locations there_now (left_of locations ls) (plan.head n))))
            (with_value o (λ l. stored_at l u (graph.goes pseudo_registers here_now vs n)))
        after us u None = fails_too
        after us u (Some l) =
            stores_too w serial made 0 m l u _ _
            (λ m'. goes_too w serial made i ls vs agree m' (store mode rs r n) n at (inl refl) refl)

        located : (us : List Value) (u : Value) →
            Does w 0 m (with_value (locate (record { function = f.name; serial = serial }) mode us)
            (λ l. stored_at l u (graph.goes locations there_now (left_of locations ls) (plan.head n))))
            (with_value (locate (record { function = g.name; serial = serial }) mode us)
            (λ l. stored_at l u (graph.goes pseudo_registers here_now vs n)))
        located us u =
            subst (λ name. Does w 0 m (with_value (locate (record { function = name; serial = serial }) mode us)
            (λ l. stored_at l u (graph.goes locations there_now (left_of locations ls) (plan.head n))))
            (with_value (locate (record { function = g.name; serial = serial }) mode us)
            (λ l. stored_at l u (graph.goes pseudo_registers here_now vs n)))) (sym made.name)
            (after us u (locate (record { function = g.name; serial = serial }) mode us))

    -- what is made of each node
    pub from_node : (c : ℕ) (node : Node ℕ) → IsHere node → IsPaid c node → IsMadeNode plan f.nodes i node → CanDo c node
    from_node c node at paid (nops {n = n} e) =
        can_at w serial c 0 m ls (plan.head i) _ _ e (omega (arith, paid))
        (at_last (goes_held (at_node made
        (agree_nothing w serial made i ls vs agree node n at (inl refl) ls (λ q k. refl) vs (λ r. refl) refl)
        (follows i node at (inl refl)))))
    from_node c node at paid (ops {o = o} {ins = rs} {r = d} {n = n} live e) =
        let one = op_pays o in
        let own = plain_paid plan rs in
        can_at w serial c 0 m ls (plan.head i) _ _ e (omega (arith, one, own, paid))
        (computes_too w serial made i ls vs agree 0 m node rs d n at by_op (inl refl) refl live
        (λ act us. operate act o us) (left_by locations o ls) (left_by_kept o ls) (left_by pseudo_registers o vs)
        (left_source o vs))
    from_node c node at paid (ops_dropped {o = o} {ins = rs} {r = d} {n = n} dead e) =
        let one = op_drops o in
        can_at w serial c 0 m ls (plan.head i) _ _ e (omega (arith, one, paid))
        (drops w serial made i ls vs agree 0 m node rs d n at (inl refl) refl dead (λ act us. operate act o us)
        (left_by pseudo_registers o vs) (left_source o vs))
    from_node c node at paid (loads {m = mode} {ins = rs} {r = d} {n = n} live e) =
        let own = plain_paid plan rs in
        can_at w serial c 0 m ls (plan.head i) _ _ e (omega (arith, own, paid))
        (computes_too w serial made i ls vs agree 0 m node rs d n at by_load (inl refl) refl live
        (λ act us. load_by act mode us) (left_of locations ls) (left_kept ls) vs (λ r. refl))
    from_node c node at paid (loads_dropped {m = mode} {ins = rs} {r = d} {n = n} dead e) =
        can_at w serial c 0 m ls (plan.head i) _ _ e (omega (arith, paid))
        (drops w serial made i ls vs agree 0 m node rs d n at (inl refl) refl dead (λ act us. load_by act mode us) vs
        (λ r. refl))
    from_node c node at paid (stores {m = mode} {ins = rs} {r = r} {n = n} e) = stores_node c mode rs r n at paid e
    from_node c node at paid (calls {f = name} {ins = rs} {r = d} {n = n} {k = k} {l = l} live chain e move) =
        calls_too w serial made i ls vs agree c m name rs (Some d) n k (Some result_register) l
        (λ q is. used node at q is) chain e paid
        (λ ls' kept m' us all. back_result w serial made i ls vs agree m' node n at (inl refl) ls' kept k d l live refl
        move us all)
    from_node c node at paid (calls_dropped {f = name} {ins = rs} {r = d} {n = n} {k = k} dead chain e) =
        calls_too w serial made i ls vs agree c m name rs (Some d) n k (Some result_register) (plan.head n)
        (λ q is. used node at q is) chain e paid
        (λ ls' kept m' us all. back_dropped w serial made i ls vs agree m' node n at (inl refl) ls' kept k d dead refl us)
    from_node c node at paid (calls_nothing {f = name} {ins = rs} {n = n} {k = k} chain e) =
        calls_too w serial made i ls vs agree c m name rs None n k None (plan.head n) (λ q is. used node at q is) chain e
        paid
        (λ ls' kept m' us all. back_nothing w serial made i ls vs agree m' node n at (inl refl) ls' kept k refl us)
    from_node c node at paid (tails {f = name} {ins = rs} {k = k} chain e) = tails_too c name rs k at paid chain e
    from_node c node at paid (tests {c = cond} {ins = rs} {n = n} {m = k} e) = tests_too c cond rs n k at paid e
    from_node c node at paid (returns_nothing e) =
        can_at w serial c 0 m ls (plan.head i) _ _ e (omega (arith, paid)) (at_last (returns_held tt refl))
    from_node c node at paid (returns {r = r} {k = k} e then) = returns_value c r k at paid e then
    from_node c node at paid (locks {name = name} {n = n} e) =
        can_at w serial c 0 m ls (plan.head i) _ _ e (omega (arith, paid))
        (at_last (takes_held (goes_too w serial made i ls vs agree m node n at (inl refl) refl)))
    from_node c node at paid (unlocks {name = name} {n = n} e) =
        can_at w serial c 0 m ls (plan.head i) _ _ e (omega (arith, paid))
        (at_last (gives_held (goes_too w serial made i ls vs agree m node n at (inl refl) refl)))
    from_node c node at paid (outs {r = r} {n = n} e) =
        can_at w serial c 0 m ls (plan.head i) _ _ e (omega (arith, paid))
        (on_read w serial made i ls vs agree 0 m r (used node at r (inl refl)) _ _
        (λ u first. puts_too w serial made 0 m u _ _
        (goes_too w serial made i ls vs agree m node n at (inl refl) refl)))

  abbrev LeadsAt : Values → ℕ → Registers → ℕ → Memory → Type 0
  LeadsAt ls k vs i m =
      Leads (relation w) (held w) w.act (there w serial ls k) m (here w serial vs i) m

  abbrev AloneAt : Values → ℕ → Registers → ℕ → Memory → Option (Node ℕ) → Type 0
  AloneAt ls k vs i m o =
      Alone (relation w) (held w) w.act (there w serial ls k) m m (step_at pseudo_registers (here w serial vs i) o)

  -- what the target can do there for the price of the node
  leads_by : (ls : Values) (k : ℕ) (vs : Registers) (i : ℕ) (m : Memory) (node : Node ℕ) →
      slice_get g.nodes i ≡ Some node →
      Can w serial (source_cost (Some node)) m (there w serial ls k)
      (node_step pseudo_registers (here w serial vs i) node) →
      LeadsAt ls k vs i m
  leads_by ls k vs i m node e can =
      meets_there can.credit
      (subst (λ o. target_cost (slice_get f.nodes k) + can.credit ≤ source_cost o) (sym e) can.price)
      (subst (λ o. Does w can.credit m (graph.step locations (there w serial ls k))
      (step_at pseudo_registers (here w serial vs i) o)) (sym e) can.does)

  leads_at_node : (ls : Values) (vs : Registers) (i : ℕ) (m : Memory) → Agrees plan i ls vs →
      LeadsAt ls (plan.head i) vs i m
  leads_at_node ls vs i m agree = by (slice_get g.nodes i) refl
    where
      by : (o : Option (Node ℕ)) → slice_get g.nodes i ≡ o → LeadsAt ls (plan.head i) vs i m
      by None e = steps_alone (subst (λ o. AloneAt ls (plan.head i) vs i m o) (sym e) fails_alone)
      by (Some node) e =
          let all = made.made in
          leads_by ls (plan.head i) vs i m node e
          (from_node i ls vs agree m (source_cost (Some node)) node e (omega arith) (all.nodes i node e))

  leads_at_result : (ls : Values) (k r : ℕ) (vs : Registers) (i : ℕ) (m : Memory) →
      slice_get f.nodes k ≡ Some (op Move (result_register ∷ []) (plan.place r) (plan.head i)) →
      nat_lt r g.names ≡ true → (u : Value) → usable (ls result_register) ≡ Some u →
      Agrees plan i (with_place ls (plan.place r) (ls result_register)) vs → LeadsAt ls k vs i m
  leads_at_result ls k r vs i m move less u shows agree = by (slice_get g.nodes i) refl
    where
      by : (o : Option (Node ℕ)) → slice_get g.nodes i ≡ o → LeadsAt ls k vs i m
      by None e = steps_alone (subst (λ o. AloneAt ls k vs i m o) (sym e) fails_alone)
      by (Some node) e =
          let all = made.made in
          let assigned = made.made.assigned in
          let rest = rest_of 5 (source_cost (Some node)) (pays_move node) in
          let is = rest.1 in
          let value : ls result_register ≡ u = usable_is (ls result_register) u shows in
          let now : Values = with_place ls (plan.place r) u in
          let agree_now : Agrees plan i now vs =
          subst (λ z. Agrees plan i (with_place ls (plan.place r) z) vs) value agree in
          let can : Can w serial (rest.0 + 5) m (there w serial ls k)
          (node_step pseudo_registers (here w serial vs i) node) =
          step_move w serial rest.0 m ls k (plan.head i) result_register (plan.place r) u _ move shows
          (assigned.there r less)
          (from_node i now vs agree_now m rest.0 node e (omega (arith, is)) (all.nodes i node e)) in
          leads_by ls k vs i m node e
          (can_more w serial (rest.0 + 5) (source_cost (Some node)) m (there w serial ls k) _ (omega (arith, is)) can)

-- each place at which both begin a step
pub forms_lead : {F G : Type 0} (w : Together F G) (x : Point Loc) (t : Memory) (y : Point ℕ) (s : Memory) →
    MatchStates (target_of w) (source_of w) x t y s → Leads (relation w) (held w) w.act x t y s
forms_lead w x t y s (at_node {serial = serial} {i = i} {ls = ls} {vs = vs} {m = m} made agree point) =
    leads_at_node w serial made ls vs i m agree
forms_lead w x t y s
    (at_result {serial = serial} {i = i} {k = k} {r = r} {ls = ls} {vs = vs} {m = m} made move less u shows agree point) =
    leads_at_result w serial made ls k r vs i m move less u shows agree
