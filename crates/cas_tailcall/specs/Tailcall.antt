-- What Tailcall makes. A call becomes a tail call if the function has no block, the call has at most three arguments,
-- and what follows it, after Nops if any, returns its result or nothing.
--
--     g:   Call f ──► Nop ──► Return              f:   Tail f
use Rattle.std.specs.Prelude.{◌≡◌, ℕ, zero, suc, nat_eq, Bool, true, false, ◌&&◌, List, length, map, Option, Some, None, slice_get}
use Rattle.cas_runs.specs.Label.{NameBytes}
use Rattle.cas_mid.specs.Operators.{either}
use Rattle.cas_rtl.specs.Graph.{Node, nop, call, tail, return_, Graph, is_empty, are_few}

-- where a Nop leads
abbrev pub nop_next : Node ℕ → Option ℕ
nop_next (nop n) = Some n
nop_next _ = None

abbrev pub next_at : Option (Node ℕ) → Option ℕ
next_at None = None
next_at (Some node) = nop_next node

abbrev pub from_next : (ℕ → ℕ) → ℕ → Option ℕ → ℕ
from_next go n None = n
from_next go n (Some m) = go m

-- goes on after a Nop, and stays at all else
abbrev pub past_nop : (ℕ → ℕ) → ℕ → Option (Node ℕ) → ℕ
past_nop go n o = from_next go n (next_at o)

-- the node that Nops lead to, in at most so many steps
abbrev pub landing : List (Node ℕ) → (steps n : ℕ) → ℕ
landing nodes zero n = n
landing nodes (suc steps) n = past_nop (landing nodes steps) n (slice_get nodes n)

-- the node returns what a call left there, or nothing
abbrev pub returns_only : Option ℕ → Node ℕ → Bool
returns_only r (return_ None) = true
returns_only (Some r) (return_ (Some q)) = nat_eq r q
returns_only _ _ = false

abbrev pub returns_at : Option ℕ → Option (Node ℕ) → Bool
returns_at r None = false
returns_at r (Some node) = returns_only r node

-- the result of a call is only returned
abbrev pub is_returned : List (Node ℕ) → (result : Option ℕ) → (next : ℕ) → Bool
is_returned nodes r n = returns_at r (slice_get nodes (landing nodes (length nodes) n))

-- a call with these arguments and this result may be a tail call
abbrev pub may_be_tail : Graph ℕ → (arguments : List ℕ) → (result : Option ℕ) → (next : ℕ) → Bool
may_be_tail g ins r n = is_empty g.blocks && are_few ins && is_returned g.nodes r n

abbrev pub tail_node : Graph ℕ → Node ℕ → Node ℕ
tail_node g (call f ins r n) = either (tail f ins) (call f ins r n) (may_be_tail g ins r n)
tail_node g node = node

abbrev pub tailed : Graph ℕ → Graph ℕ
tailed g = record g { nodes = map (tail_node g) g.nodes }

-- no call is left that may be a tail call
abbrev pub HasTailCalls : Graph ℕ → Type 0
HasTailCalls g =
    (i : ℕ) (f : NameBytes) (ins : List ℕ) (r : Option ℕ) (n : ℕ) → slice_get g.nodes i ≡ Some (call f ins r n)
    → may_be_tail g ins r n ≡ false
