-- What is made of a node does what the node does.
use Rattle.std.proofs.Common.{◌≡◌, inl, inr, ℕ, List, [], ◌∷◌, Option, Some, None, Bool, true, false, slice_get, nat_eq, nat_lt, refl, sym, ap, ◌∙◌, subst, eqb-true, arith}
use Rattle.cas_runs.specs.Label.{NameBytes}
use Rattle.cas_runs.specs.Naming.{Value, Number, Pointer, Hidden, Memory, usable}
use Rattle.cas_runs.specs.Access.{Then, with_value}
use Rattle.cas_runs.specs.Calls.{Goes, Puts}
use Rattle.cas_runs.specs.Held.{both_write, both_store, at_last, fails_too, goes_held, puts_held}
use Rattle.cas_runs.specs.Passing.{AllMatch}
use Rattle.cas_mid.specs.Operators.{either, on_word, only_if}
use Rattle.cas_mid.specs.Language.{Location, in_global, in_block}
use Rattle.cas_sel.specs.declared.tree.Op.{Op}
use Rattle.cas_sel.specs.declared.tree.Op.TheVariants as op_is
use Rattle.cas_sel.specs.declared.tree.Op.TheVariants.{Move}
use Rattle.cas_sel.specs.Query.{Query, asking}
use Rattle.cas_sel.specs.Operations.{Within}
use Rattle.cas_rtl.specs.Graph as graph
use Rattle.cas_rtl.specs.Graph.{Node, nop, op, load, store, call, tail, test, return_, lock, unlock, out, Graph, Point, one_more, is_empty, are_few, some_if, stored_at, set, left_of, left_by, read, reads, within, resumed, node_step, each_argument}
use Rattle.cas_rtl.specs.Rtl.{pseudo_registers}
use Rattle.cas_ltl.specs.declared.tree.Loc.{Loc}
use Rattle.cas_ltl.specs.Locations.{is_there, is_scratched, locations}
use Rattle.cas_graphs.specs.Successors.{IsAmong, successors}
use Rattle.cas_allocation.specs.Liveness.{Computes, set_by}
use Rattle.cas_allocation.specs.Allocation.{Plan, places_of, IsPoint, follows, IsAllocated}
use Rattle.cas_allocation.specs.Match.{Agrees, MatchStates, at_node}
use Rattle.cas_allocation.specs.Usable.{IsUsable}
use Rattle.cas_allocation.proofs.Reading.{Values, with_place, OneMore, parts, parts_of, read_of, usable_is, usable_again, set_other, set_itself, left_kept, reads_of, reads_at, read_of_place}
use Rattle.cas_allocation.proofs.Together.{Together, relation, target_of, source_of, TForm, SForm, Does, asks_too, asks_alone, value_alone, there, here}

-- what pseudo-registers hold
abbrev pub Registers : Type 0
Registers = ℕ → Value

abbrev pub with_register : Registers → ℕ → Value → Registers
with_register vs r v = set pseudo_registers vs r v

pub left_source : (o : Op) (vs : Registers) (r : ℕ) → left_by pseudo_registers o vs r ≡ vs r
left_source (op_is.Constant n) vs r = refl
left_source (op_is.StackAddress n) vs r = refl
left_source op_is.Move vs r = refl
left_source (op_is.Unary o) vs r = refl
left_source (op_is.Binary o) vs r = refl
left_source (op_is.WithNumber o n) vs r = refl

pub usable_self : (v : Value) → IsUsable v → usable v ≡ Some v
usable_self (Number n) h = refl
usable_self (Pointer home p) h = refl
usable_self (Hidden what) h = absurd h

pub read_usable : (v u : Value) → usable v ≡ Some u → IsUsable u
read_usable (Number n) u e = let same : Number n ≡ u = cc e in subst (λ x. IsUsable x) same tt
read_usable (Pointer home p) u e = let same : Pointer home p ≡ u = cc e in subst (λ x. IsUsable x) same tt
read_usable (Hidden what) u e = absurd (cc e)

module _ {F G : Type 0} (w : Together F G) (serial : ℕ) (made : IsAllocated (target_of w) (source_of w)) where
  abbrev f : Graph Loc
  f = target_of w

  abbrev g : Graph ℕ
  g = source_of w

  abbrev plan : Plan
  plan = made.plan

  abbrev place : ℕ → Loc
  place r = plan.place r

  abbrev Lives : ℕ → ℕ → Type 0
  Lives n r = plan.live n r ≡ true

  abbrev Both : Point Loc → Point ℕ → Memory → Type 0
  Both x y m = MatchStates f g x m y m

  kept_place : (r : ℕ) → is_scratched (place r) ≡ false
  kept_place r = let assigned = made.made.assigned in assigned.kept r

  there_place : (r : ℕ) → nat_lt r g.names ≡ true → is_there f.names (place r) ≡ true
  there_place r e = let assigned = made.made.assigned in assigned.there r e

  pub stores_too : (c : ℕ) (m : Memory) (l : Location) (v : Value) (x : Point Loc) (y : Point ℕ) →
      ((m : Memory) → Both x y m) → Does w c m (stored_at l v (Then (Goes x))) (stored_at l v (Then (Goes y)))
  stores_too c m (in_global global j) (Number k) x y h = both_write (refl, tt) (at_last (goes_held (h m)))
  stores_too c m (in_global global j) (Pointer home p) x y h = fails_too
  stores_too c m (in_global global j) (Hidden what) x y h = fails_too
  stores_too c m (in_block home p) v x y h = both_store (λ room. room) tt tt (λ room. at_last (goes_held (h _)))

  pub puts_too : (c : ℕ) (m : Memory) (v : Value) (x : Point Loc) (y : Point ℕ) → Both x y m →
      Does w c m (on_word v (λ k. Then (Puts k x))) (on_word v (λ k. Then (Puts k y)))
  puts_too c m (Number k) x y h = at_last (puts_held h)
  puts_too c m (Pointer home p) x y h = fails_too
  puts_too c m (Hidden what) x y h = fails_too

  module _ (i : ℕ) (ls : Values) (vs : Registers) (agree : Agrees plan i ls vs) where
    -- what both have after a node
    module _ (node : Node ℕ) (n : ℕ) (at : slice_get g.nodes i ≡ Some node) (leads : IsAmong (successors node) n)
        (ls' : Values) (kept : (q : Loc) → is_scratched q ≡ false → ls' q ≡ ls q) (vs' : Registers)
        (same : (r : ℕ) → vs' r ≡ vs r) where
      point : IsPoint g n
      point = follows i node at leads

      passes_by : (r : ℕ) (v : Value) → Lives n r → (set_by node ≡ Some r → ⊥) → usable (vs' r) ≡ Some v →
          ls' (place r) ≡ v
      passes_by r v live not e =
          let solved = made.made.solved in
          kept (place r) (kept_place r)
          ∙ agree r v (solved.passes i r n node at leads not live) (ap usable (sym (same r)) ∙ e)

      pub agree_nothing : set_by node ≡ None → Agrees plan n ls' vs'
      agree_nothing none r v live e =
          passes_by r v live (λ set. (let both : None ≡ Some r = sym none ∙ set in absurd (cc both))) e

      others : (d r : ℕ) → set_by node ≡ Some d → (r ≡ d → ⊥) → set_by node ≡ Some r → ⊥
      others d r sets not set =
          let both : Some d ≡ Some r = sym sets ∙ set in
          let equal : d ≡ r = cc both in
          absurd (not (sym equal))

      pub agree_set : (d : ℕ) (u : Value) → Lives n d → set_by node ≡ Some d →
          Agrees plan n (with_place ls' (place d) u) (with_register vs' d u)
      agree_set d u live sets r v live_r e = by (nat_eq r d) refl e
        where
          by : (b : Bool) → nat_eq r d ≡ b → usable (either u (vs' r) b) ≡ Some v →
              with_place ls' (place d) u (place r) ≡ v
          by true is e' =
              let equal : r ≡ d = eqb-true r d is in
              ap (λ x. with_place ls' (place d) u (place x)) equal ∙ set_itself ls' (place d) u ∙ usable_is u v e'
          by false is e' =
              let not : r ≡ d → ⊥ = λ h. absurd (grind (arith, h, is)) in
              let assigned = made.made.assigned in
              set_other ls' (place d) (place r) u (λ h. not (assigned.apart n r d point live_r live h))
              ∙ passes_by r v live_r (others d r sets not) e'

      pub agree_drop : (d : ℕ) (u : Value) → plan.live n d ≡ false → set_by node ≡ Some d →
          Agrees plan n ls' (with_register vs' d u)
      agree_drop d u dead sets r v live_r e = by (nat_eq r d) refl e
        where
          by : (b : Bool) → nat_eq r d ≡ b → usable (either u (vs' r) b) ≡ Some v → ls' (place r) ≡ v
          by true is e' =
              let equal : r ≡ d = eqb-true r d is in
              let no : true ≡ false = sym live_r ∙ ap (λ x. plan.live n x) equal ∙ dead in
              absurd (cc no)
          by false is e' =
              let not : r ≡ d → ⊥ = λ h. absurd (grind (arith, h, is)) in
              passes_by r v live_r (others d r sets not) e'

      -- the value of both goes into the pseudo-register and into its place
      pub sets_too : (c : ℕ) (m : Memory) (d : ℕ) (u : Value) → Lives n d → set_by node ≡ Some d →
          Does w c m (graph.sets locations (there w serial ls (plan.head i)) ls' (place d) u (plan.head n))
          (graph.sets pseudo_registers (here w serial vs i) vs' d u n)
      sets_too c m d u live sets = by (nat_lt d g.names) refl
        where
          by : (b : Bool) → nat_lt d g.names ≡ b →
              Does w c m (graph.sets locations (there w serial ls (plan.head i)) ls' (place d) u (plan.head n))
              (only_if b (graph.goes pseudo_registers (here w serial vs i) (with_register vs' d u) n))
          by false e = fails_too
          by true e =
              subst (λ b. Does w c m (only_if b (graph.goes locations (there w serial ls (plan.head i))
              (with_place ls' (place d) u) (plan.head n)))
              (graph.goes pseudo_registers (here w serial vs i) (with_register vs' d u) n)) (sym (there_place d e))
              (at_last (goes_held (at_node made (agree_set d u live sets) point)))

      pub sets_alone : (c : ℕ) (m : Memory) (d : ℕ) (u : Value) → plan.live n d ≡ false → set_by node ≡ Some d →
          Does w c m (graph.goes locations (there w serial ls (plan.head i)) ls' (plan.head n))
          (graph.sets pseudo_registers (here w serial vs i) vs' d u n)
      sets_alone c m d u dead sets = by (nat_lt d g.names)
        where
          by : (b : Bool) →
              Does w c m (graph.goes locations (there w serial ls (plan.head i)) ls' (plan.head n))
              (only_if b (graph.goes pseudo_registers (here w serial vs i) (with_register vs' d u) n))
          by false = fails_too
          by true = at_last (goes_held (at_node made (agree_drop d u dead sets) point))

    -- what is used is read from its place
    pub read_agrees : (r : ℕ) (u : Value) → Lives i r → read pseudo_registers (here w serial vs i) r ≡ Some u →
        read_of_place f serial ls (place r) ≡ Some u
    read_agrees r u live e =
        let got = read_of (nat_lt r g.names) (usable (vs r)) u e in
        ap (λ b. either (usable (ls (place r))) None b) (there_place r got.there)
        ∙ ap usable (agree r u live got.value) ∙ usable_again (vs r) u got.value

    abbrev pub reads_source : List ℕ → Option (List Value)
    reads_source rs = reads pseudo_registers (here w serial vs i) rs

    abbrev pub AllLive : List ℕ → Type 0
    AllLive rs = (r : ℕ) → IsAmong rs r → Lives i r

    pub reads_agree : (rs : List ℕ) → AllLive rs → (us : List Value) → reads_source rs ≡ Some us →
        reads_of f serial ls (places_of plan rs) ≡ Some us
    reads_agree [] live us e = e
    reads_agree (r ∷ rs) live us e =
        by (λ ws same. reads_agree rs (λ q is. live q (inr is)) ws same) (parts_of _ _ us e)
      where
        by : ((ws : List Value) → reads_source rs ≡ Some ws → reads_of f serial ls (places_of plan rs) ≡ Some ws) →
            OneMore (read pseudo_registers (here w serial vs i) r) (reads_source rs) us →
            reads_of f serial ls (places_of plan (r ∷ rs)) ≡ Some us
        by again (parts v ws first rest is) =
            ap (λ o. one_more o (reads_of f serial ls (places_of plan rs))) (read_agrees r v (live r (inl refl)) first)
            ∙ ap (λ o. one_more (Some v) o) (again ws rest) ∙ ap Some (sym is)

    -- what is read is usable
    pub reads_usable : (rs : List ℕ) (us : List Value) → reads_source rs ≡ Some us → AllMatch (relation w) us us
    reads_usable [] us e = let none : [] ≡ us = cc e in subst (λ xs. AllMatch (relation w) xs xs) none tt
    reads_usable (r ∷ rs) us e = by (λ ws same. reads_usable rs ws same) (parts_of _ _ us e)
      where
        by : ((ws : List Value) → reads_source rs ≡ Some ws → AllMatch (relation w) ws ws) →
            OneMore (read pseudo_registers (here w serial vs i) r) (reads_source rs) us → AllMatch (relation w) us us
        by again (parts v ws first rest is) =
            let got = read_of (nat_lt r g.names) (usable (vs r)) v first in
            subst (λ xs. AllMatch (relation w) xs xs) (sym is)
            ((refl, read_usable (vs r) v got.value), again ws rest)

    pub on_reads : (c : ℕ) (m : Memory) (k : ℕ) (rs : List ℕ) → AllLive rs → (next : List Value → TForm w)
        (next' : List Value → SForm w) →
        ((us : List Value) → reads_source rs ≡ Some us → Does w c m (next us) (next' us)) →
        Does w c m (with_value (reads locations (there w serial ls k) (places_of plan rs)) next)
        (with_value (reads_source rs) next')
    on_reads c m k rs live next next' h =
        subst (λ o. Does w c m (with_value o next) (with_value (reads_source rs) next'))
        (sym (reads_at f serial ls k (places_of plan rs))) (by (reads_source rs) refl)
      where
        by : (o : Option (List Value)) → reads_source rs ≡ o →
            Does w c m (with_value (reads_of f serial ls (places_of plan rs)) next) (with_value o next')
        by None e = fails_too
        by (Some us) e =
            subst (λ o. Does w c m (with_value o next) (next' us)) (sym (reads_agree rs live us e)) (h us e)

    pub on_read : (c : ℕ) (m : Memory) (r : ℕ) → Lives i r → (next : Value → TForm w) (next' : Value → SForm w) →
        ((u : Value) → read pseudo_registers (here w serial vs i) r ≡ Some u → Does w c m (next u) (next' u)) →
        Does w c m (with_value (read_of_place f serial ls (place r)) next)
        (with_value (read pseudo_registers (here w serial vs i) r) next')
    on_read c m r live next next' h = by (read pseudo_registers (here w serial vs i) r) refl
      where
        by : (o : Option Value) → read pseudo_registers (here w serial vs i) r ≡ o →
            Does w c m (with_value (read_of_place f serial ls (place r)) next) (with_value o next')
        by None e = fails_too
        by (Some u) e =
            subst (λ o. Does w c m (with_value o next) (next' u)) (sym (read_agrees r u live e)) (h u e)

    -- the same query of both, whose names are equal
    abbrev ask_in : NameBytes → Within
    ask_in name = record { function = name; serial = serial }

    -- an operator or a load whose result is used
    pub computes_too : (c : ℕ) (m : Memory) (node : Node ℕ) (ins : List ℕ) (d n : ℕ) → slice_get g.nodes i ≡ Some node →
        Computes node ins d n → IsAmong (successors node) n → set_by node ≡ Some d → Lives n d →
        (query : Within → List Value → Query Value) (ls' : Values) →
        ((q : Loc) → is_scratched q ≡ false → ls' q ≡ ls q) → (vs' : Registers) → ((r : ℕ) → vs' r ≡ vs r) →
        Does w c m (with_value (reads locations (there w serial ls (plan.head i)) (places_of plan ins))
        (λ us. asking (query (ask_in f.name) us)
        (λ u. graph.sets locations (there w serial ls (plan.head i)) ls' (place d) u (plan.head n))))
        (with_value (reads_source ins) (λ us. asking (query (ask_in g.name) us)
        (λ u. graph.sets pseudo_registers (here w serial vs i) vs' d u n)))
    computes_too c m node ins d n at computes leads sets live query ls' kept vs' same =
        let solved = made.made.solved in
        on_reads c m (plan.head i) ins (λ r is. solved.used_for i r d n ins node at computes is live) _ _
        (λ us e. subst (λ name. Does w c m (asking (query (ask_in name) us)
        (λ u. graph.sets locations (there w serial ls (plan.head i)) ls' (place d) u (plan.head n)))
        (asking (query (ask_in g.name) us) (λ u. graph.sets pseudo_registers (here w serial vs i) vs' d u n)))
        (sym made.name)
        (asks_too w c m (query (ask_in g.name) us) _ _
        (λ u. sets_too node n at leads ls' kept vs' same c m d u live sets)))

    -- one whose result isn't
    pub drops : (c : ℕ) (m : Memory) (node : Node ℕ) (ins : List ℕ) (d n : ℕ) → slice_get g.nodes i ≡ Some node →
        IsAmong (successors node) n → set_by node ≡ Some d → plan.live n d ≡ false →
        (query : Within → List Value → Query Value) (vs' : Registers) → ((r : ℕ) → vs' r ≡ vs r) →
        Does w c m (graph.goes locations (there w serial ls (plan.head i)) ls (plan.head n))
        (with_value (reads_source ins) (λ us. asking (query (ask_in g.name) us)
        (λ u. graph.sets pseudo_registers (here w serial vs i) vs' d u n)))
    drops c m node ins d n at leads sets dead query vs' same =
        value_alone w c m _ (reads_source ins) _
        (λ us e. asks_alone w c m _ (query (ask_in g.name) us) _
        (λ u. sets_alone node n at leads ls (λ q k. refl) vs' same c m d u dead sets))

    -- the state after a node that sets nothing
    pub goes_too : (m : Memory) (node : Node ℕ) (n : ℕ) → slice_get g.nodes i ≡ Some node → IsAmong (successors node) n →
        set_by node ≡ None →
        Both (there w serial (left_of locations ls) (plan.head n)) (here w serial vs n) m
    goes_too m node n at leads none =
        at_node made (agree_nothing node n at leads (left_of locations ls) (λ q k. left_kept ls q k) vs (λ r. refl) none)
        (follows i node at leads)
