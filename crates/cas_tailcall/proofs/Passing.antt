-- What a call leaves is only passed on: the caller goes along Nops to a Return of it.
use Rattle.std.proofs.Common.{◌≡◌, ℕ, zero, suc, ◌+◌, ◌≤◌, List, [], ◌∷◌, Option, Some, None, Bool, true, false, length, slice_get, nat_eq, nat_lt, refl, sym, ap, ◌∙◌, subst, arith}
use Rattle.std.proofs.lemmas.Bool.Decides.{nat_tests}
use Rattle.cas_runs.specs.Naming.{Value, Number, Pointer, Hidden, usable}
use Rattle.cas_runs.specs.Bounds.{total}
use Rattle.cas_runs.specs.Access.{Accesses, Then, with_value}
use Rattle.cas_runs.specs.Calls.{Last, Returns}
use Rattle.cas_runs.specs.Passing.{Relation, PassesOn, cannot_go_on, fails_then, goes_then, returns_first}
use Rattle.cas_runs.proofs.Tests.{eq_self}
use Rattle.cas_mid.specs.Operators.{either}
use Rattle.cas_rtl.specs.Graph.{Node, nop, op, load, store, call, tail, test, return_, lock, unlock, out, Graph, Point, some_if, set, left_of, read, resumed, step_at, price_at, operands_at}
use Rattle.cas_rtl.specs.Rtl.{pseudo_registers, rtl_prices}
use Rattle.cas_graphs.specs.Match.{point_of}
use Rattle.cas_graphs.proofs.Nodes.{relation}
use Rattle.cas_tailcall.specs.Tailcall.{past_nop, landing, returns_at, is_returned}
use Rattle.cas_tailcall.proofs.Together.{Together, pair}

abbrev Values : Type 0
Values = ℕ → Value

-- of these results the first is in the pseudo-register, if there is one
data IsHeld (vs : Values) : Option ℕ → List Value → Type 0 where
  held_none : {ws : List Value} → IsHeld vs None ws
  held_in : {r : ℕ} {u : Value} {us : List Value} → vs r ≡ u → IsHeld vs (Some r) (u ∷ us)

usable_is : (u v : Value) → usable u ≡ Some v → v ≡ u
usable_is (Number n) v e = let same : Number n ≡ v = cc e in sym same
usable_is (Pointer home p) v e = let same : Pointer home p ≡ v = cc e in sym same
usable_is (Hidden what) v e = absurd (cc e)

same_number : (r q : ℕ) → nat_eq r q ≡ true → r ≡ q
same_number r q e = let same : r ≡ q = grind (arith, nat_tests, e) in same

module _ {F : Type 0} (w : Together F) (serial : ℕ) where
  abbrev g : Graph ℕ
  g = w.graph_of w.act.source

  abbrev R : Relation F (Point ℕ) F (Point ℕ)
  R = relation (pair w)

  abbrev at : Values → ℕ → Point ℕ
  at vs n = point_of g serial vs n

  -- what a step costs, by its node
  abbrev cost : Option (Node ℕ) → ℕ
  cost o = price_at rtl_prices o + total (operands_at rtl_prices o)

  abbrev step_by : Values → ℕ → Option (Node ℕ) → Accesses (Last (Point ℕ))
  step_by vs n o = step_at pseudo_registers (at vs n) o

  -- a Return of the result
  returns_result : (vs : Values) (n r : ℕ) (u : Value) (us : List Value) → vs r ≡ u →
      slice_get g.nodes n ≡ Some (return_ (Some r)) → PassesOn R (u ∷ us) (Some (at vs n))
  returns_result vs n r u us held e = by (read pseudo_registers (at vs n) r) refl
    where
      by : (o : Option Value) → read pseudo_registers (at vs n) r ≡ o → PassesOn R (u ∷ us) (Some (at vs n))
      by None got =
          fails_then (ap (λ o. step_by vs n o) e ∙ ap (λ o. with_value o (λ v. Then (Returns (v ∷ [])))) got)
      by (Some v) got =
          let same : v ≡ u = value v (nat_lt r g.names) got in
          returns_first (u ∷ []) us refl
          (ap (λ o. step_by vs n o) e ∙ ap (λ o. with_value o (λ v. Then (Returns (v ∷ [])))) got
          ∙ ap (λ v. Then (Returns (v ∷ []))) same)
          (subst (λ o. 1 ≤ cost o) (sym e) (omega arith))
        where
          value : (v : Value) (is : Bool) → either (usable (vs r)) None is ≡ Some v → v ≡ u
          value v true h = usable_is (vs r) v h ∙ held
          value v false h = absurd (cc h)

  -- the node only returns it
  at_return : (vs : Values) (n : ℕ) (r : Option ℕ) (ws : List Value) → IsHeld vs r ws → (o : Option (Node ℕ)) →
      slice_get g.nodes n ≡ o → returns_at r o ≡ true → PassesOn R ws (Some (at vs n))
  at_return vs n r ws held (Some (return_ None)) e only =
      returns_first [] ws refl (ap (λ o. step_by vs n o) e) (subst (λ o. 1 ≤ cost o) (sym e) (omega arith))
  at_return vs n (Some r) ws (held_in {u = u} {us = us} is) (Some (return_ (Some q))) e only =
      let same : r ≡ q = same_number r q only in
      returns_result vs n r u us is (subst (λ k. slice_get g.nodes n ≡ Some (return_ (Some k))) (sym same) e)
  at_return vs n None ws held (Some (return_ (Some q))) e only = absurd (cc only)
  at_return vs n r ws held None e only = absurd (cc only)
  at_return vs n r ws held (Some (nop k)) e only = absurd (cc only)
  at_return vs n r ws held (Some (op o ins d k)) e only = absurd (cc only)
  at_return vs n r ws held (Some (load m ins d k)) e only = absurd (cc only)
  at_return vs n r ws held (Some (store m ins d k)) e only = absurd (cc only)
  at_return vs n r ws held (Some (call f ins d k)) e only = absurd (cc only)
  at_return vs n r ws held (Some (tail f ins)) e only = absurd (cc only)
  at_return vs n r ws held (Some (test c ins k j)) e only = absurd (cc only)
  at_return vs n r ws held (Some (lock name k)) e only = absurd (cc only)
  at_return vs n r ws held (Some (unlock name k)) e only = absurd (cc only)
  at_return vs n r ws held (Some (out d k)) e only = absurd (cc only)

  -- along a Nop, or at such a node
  along : (vs : Values) (n : ℕ) (go : ℕ → ℕ) (r : Option ℕ) (ws : List Value) → IsHeld vs r ws →
      ((k : ℕ) → returns_at r (slice_get g.nodes (go k)) ≡ true → PassesOn R ws (Some (at vs k))) →
      (o : Option (Node ℕ)) → slice_get g.nodes n ≡ o →
      returns_at r (slice_get g.nodes (past_nop go n o)) ≡ true → PassesOn R ws (Some (at vs n))
  along vs n go r ws held rest (Some (nop k)) e only = goes_then (ap (λ o. step_by vs n o) e) (rest k only)
  along vs n go r ws held rest None e only = at_return vs n r ws held (slice_get g.nodes n) refl only
  along vs n go r ws held rest (Some (op o ins d k)) e only = at_return vs n r ws held (slice_get g.nodes n) refl only
  along vs n go r ws held rest (Some (load m ins d k)) e only = at_return vs n r ws held (slice_get g.nodes n) refl only
  along vs n go r ws held rest (Some (store m ins d k)) e only = at_return vs n r ws held (slice_get g.nodes n) refl only
  along vs n go r ws held rest (Some (call f ins d k)) e only = at_return vs n r ws held (slice_get g.nodes n) refl only
  along vs n go r ws held rest (Some (tail f ins)) e only = at_return vs n r ws held (slice_get g.nodes n) refl only
  along vs n go r ws held rest (Some (test c ins k j)) e only = at_return vs n r ws held (slice_get g.nodes n) refl only
  along vs n go r ws held rest (Some (return_ d)) e only = at_return vs n r ws held (slice_get g.nodes n) refl only
  along vs n go r ws held rest (Some (lock name k)) e only = at_return vs n r ws held (slice_get g.nodes n) refl only
  along vs n go r ws held rest (Some (unlock name k)) e only = at_return vs n r ws held (slice_get g.nodes n) refl only
  along vs n go r ws held rest (Some (out d k)) e only = at_return vs n r ws held (slice_get g.nodes n) refl only

  -- Nops lead to such a node
  from_here : (vs : Values) (steps n : ℕ) (r : Option ℕ) (ws : List Value) → IsHeld vs r ws →
      returns_at r (slice_get g.nodes (landing g.nodes steps n)) ≡ true → PassesOn R ws (Some (at vs n))
  from_here vs zero n r ws held only = at_return vs n r ws held (slice_get g.nodes n) refl only
  from_here vs (suc steps) n r ws held only =
      along vs n (landing g.nodes steps) r ws held (λ k only. from_here vs steps k r ws held only)
      (slice_get g.nodes n) refl only

  -- the caller goes on with the results, and only passes them on
  pub passes_on : (vs : Values) (j n : ℕ) (r : Option ℕ) (ws : List Value) → is_returned g.nodes r n ≡ true →
      PassesOn R ws (resumed pseudo_registers (at vs j) r n ws)
  passes_on vs j n None ws only =
      from_here (left_of pseudo_registers vs) (length g.nodes) n None ws held_none only
  passes_on vs j n (Some r) [] only = cannot_go_on
  passes_on vs j n (Some r) (u ∷ us) only = by (nat_lt r g.names)
    where
      new : Values
      new = set pseudo_registers (left_of pseudo_registers vs) r u

      by : (is : Bool) → PassesOn R (u ∷ us) (some_if is (at new n))
      by true =
          from_here new (length g.nodes) n (Some r) (u ∷ us)
          (held_in (ap (λ b. either u (left_of pseudo_registers vs r) b) (eq_self r))) only
      by false = cannot_go_on
