-- The graph with tail calls: each node costs and weighs what its own did, and no call is left that may be a tail call.
use Rattle.std.proofs.Common.{◌≡◌, ℕ, zero, suc, ◌+◌, ◌-◌, ◌*◌, ◌<◌, List, [], ◌∷◌, ◌++◌, ◌&&◌, Option, Some, None, Bool, true, false, map, length, slice_get, refl, sym, ap, ◌∙◌, arith}
use Rattle.cas_runs.specs.Label.{NameBytes}
use Rattle.cas_runs.specs.Bounds.{total, weight_of}
use Rattle.cas_mid.specs.Operators.{either}
use Rattle.cas_rtl.specs.Graph.{Node, nop, op, load, store, call, tail, test, return_, lock, unlock, out, Graph, is_empty, are_few, node_operands, price_at, operands_at, all_prices}
use Rattle.cas_rtl.specs.Rooms.{passed_at, passed, room_of}
use Rattle.cas_rtl.specs.Rtl.{rtl_prices, rtl}
use Rattle.cas_tailcall.specs.Tailcall.{next_at, from_next, past_nop, landing, returns_at, is_returned, may_be_tail, tail_node, tailed, HasTailCalls}

pub record MayBeTail (g : Graph ℕ) (ins : List ℕ) (r : Option ℕ) (n : ℕ) : Type 0 where
  pub no_block : is_empty g.blocks ≡ true
  pub few : are_few ins ≡ true
  pub returned : is_returned g.nodes r n ≡ true

pub may_be : (g : Graph ℕ) (ins : List ℕ) (r : Option ℕ) (n : ℕ) → may_be_tail g ins r n ≡ true → MayBeTail g ins r n
may_be g ins r n e = by (is_empty g.blocks) (are_few ins) (is_returned g.nodes r n) refl refl refl e
  where
    by : (a b c : Bool) → is_empty g.blocks ≡ a → are_few ins ≡ b → is_returned g.nodes r n ≡ c → (a && b && c) ≡ true →
        MayBeTail g ins r n
    by true true true one two three all = record { no_block = one; few = two; returned = three }
    by true true false one two three all = absurd (cc all)
    by true false c one two three all = absurd (cc all)
    by false b c one two three all = absurd (cc all)

abbrev pub option_map : {A B : Type 0} → (A → B) → Option A → Option B
option_map f None = None
option_map f (Some x) = Some (f x)

pub map_get : {A B : Type 0} (f : A → B) (xs : List A) (n : ℕ) → slice_get (map f xs) n ≡ option_map f (slice_get xs n)
map_get f [] n = refl
map_get f (x ∷ xs) zero = refl
map_get f (x ∷ xs) (suc n) = map_get f xs n

-- a step along a Nop leaves where all steps lead
pub landing_next : (xs : List (Node ℕ)) (steps at next : ℕ) → 0 < steps → next_at (slice_get xs at) ≡ Some next →
    landing xs (steps - 1) next ≡ landing xs steps at
landing_next xs zero at next some e = absurd (omega (arith, some))
landing_next xs (suc steps) at next some e =
    ap (λ k. landing xs k next) (let same : suc steps - 1 ≡ steps = omega arith in same)
    ∙ ap (from_next (landing xs steps) at) (sym e)

-- what a node costs, and what it passes
record IsAlike (a b : Node ℕ) : Type 0 where
  prices : rtl_prices.form a ∷ node_operands rtl_prices a ≡ rtl_prices.form b ∷ node_operands rtl_prices b
  arguments : passed_at a ≡ passed_at b

alike : (g : Graph ℕ) (node : Node ℕ) → IsAlike (tail_node g node) node
alike g (call f ins r n) = by (may_be_tail g ins r n)
  where
    by : (b : Bool) → IsAlike (either (tail f ins) (call f ins r n) b) (call f ins r n)
    by true = record { prices = refl; arguments = refl }
    by false = record { prices = refl; arguments = refl }
alike g (nop n) = record { prices = refl; arguments = refl }
alike g (op o ins r n) = record { prices = refl; arguments = refl }
alike g (load m ins r n) = record { prices = refl; arguments = refl }
alike g (store m ins r n) = record { prices = refl; arguments = refl }
alike g (tail f ins) = record { prices = refl; arguments = refl }
alike g (test c ins n m) = record { prices = refl; arguments = refl }
alike g (return_ r) = record { prices = refl; arguments = refl }
alike g (lock name n) = record { prices = refl; arguments = refl }
alike g (unlock name n) = record { prices = refl; arguments = refl }
alike g (out r n) = record { prices = refl; arguments = refl }

pub same_price : (g : Graph ℕ) (node : Node ℕ) →
    price_at rtl_prices (Some (tail_node g node)) + total (operands_at rtl_prices (Some (tail_node g node)))
    ≡ price_at rtl_prices (Some node) + total (operands_at rtl_prices (Some node))
same_price g node = let both = alike g node in ap total both.prices

same_weights : (g : Graph ℕ) (nodes : List (Node ℕ)) →
    all_prices rtl_prices (map (tail_node g) nodes) ≡ all_prices rtl_prices nodes
same_weights g [] = refl
same_weights g (node ∷ nodes) =
    let both = alike g node in
    ap (λ ps. ps ++ all_prices rtl_prices (map (tail_node g) nodes)) both.prices
    ∙ ap (λ ps. (rtl_prices.form node ∷ node_operands rtl_prices node) ++ ps) (same_weights g nodes)

same_arguments : (g : Graph ℕ) (nodes : List (Node ℕ)) → passed (map (tail_node g) nodes) ≡ passed nodes
same_arguments g [] = refl
same_arguments g (node ∷ nodes) =
    let both = alike g node in
    ap (λ k. k + passed (map (tail_node g) nodes)) both.arguments
    ∙ ap (λ k. passed_at node + k) (same_arguments g nodes)

-- the function weighs what the other does
pub same_weight : {F : Type 0} (graph_of : F → Graph ℕ) (f g : F) → graph_of f ≡ tailed (graph_of g) →
    weight_of (rtl graph_of).tariff f ≡ weight_of (rtl graph_of).tariff g
same_weight graph_of f g made =
    ap (λ (v : Graph ℕ). total (all_prices rtl_prices v.nodes) + rtl_prices.entry * (0 + length v.parameters + 8)) made
    ∙ ap (λ ps. total ps + rtl_prices.entry * (0 + length (graph_of g).parameters + 8))
    (same_weights (graph_of g) (graph_of g).nodes)

pub same_room : (g : Graph ℕ) → room_of (tailed g) ≡ room_of g
same_room g = let same = same_arguments g g.nodes in omega (arith, same)

-- Nops are as they were, and so is where they lead.
past_alike : (g : Graph ℕ) (go go' : ℕ → ℕ) (n : ℕ) → ((k : ℕ) → go k ≡ go' k) → (o : Option (Node ℕ)) →
    past_nop go n (option_map (tail_node g) o) ≡ past_nop go' n o
past_alike g go go' n same None = refl
past_alike g go go' n same (Some (nop k)) = same k
past_alike g go go' n same (Some (op o ins r k)) = refl
past_alike g go go' n same (Some (load m ins r k)) = refl
past_alike g go go' n same (Some (store m ins r k)) = refl
past_alike g go go' n same (Some (call f ins r k)) = by (may_be_tail g ins r k)
  where
    by : (b : Bool) → past_nop go n (Some (either (tail f ins) (call f ins r k) b)) ≡ n
    by true = refl
    by false = refl
past_alike g go go' n same (Some (tail f ins)) = refl
past_alike g go go' n same (Some (test c ins k j)) = refl
past_alike g go go' n same (Some (return_ r)) = refl
past_alike g go go' n same (Some (lock name k)) = refl
past_alike g go go' n same (Some (unlock name k)) = refl
past_alike g go go' n same (Some (out r k)) = refl

landing_alike : (g : Graph ℕ) (steps n : ℕ) → landing (tailed g).nodes steps n ≡ landing g.nodes steps n
landing_alike g zero n = refl
landing_alike g (suc steps) n =
    ap (past_nop (landing (tailed g).nodes steps) n) (map_get (tail_node g) g.nodes n)
    ∙ past_alike g (landing (tailed g).nodes steps) (landing g.nodes steps) n (landing_alike g steps)
    (slice_get g.nodes n)

returns_alike : (g : Graph ℕ) (r : Option ℕ) (o : Option (Node ℕ)) →
    returns_at r (option_map (tail_node g) o) ≡ returns_at r o
returns_alike g r None = refl
returns_alike g r (Some (nop k)) = refl
returns_alike g r (Some (op o ins d k)) = refl
returns_alike g r (Some (load m ins d k)) = refl
returns_alike g r (Some (store m ins d k)) = refl
returns_alike g r (Some (call f ins d k)) = by (may_be_tail g ins d k)
  where
    by : (b : Bool) → returns_at r (Some (either (tail f ins) (call f ins d k) b)) ≡ false
    by true = refl
    by false = refl
returns_alike g r (Some (tail f ins)) = refl
returns_alike g r (Some (test c ins k j)) = refl
returns_alike g r (Some (return_ d)) = refl
returns_alike g r (Some (lock name k)) = refl
returns_alike g r (Some (unlock name k)) = refl
returns_alike g r (Some (out d k)) = refl

map_length : {A B : Type 0} (f : A → B) (xs : List A) → length (map f xs) ≡ length xs
map_length f [] = refl
map_length f (x ∷ xs) = ap suc (map_length f xs)

same_test : (g : Graph ℕ) (ins : List ℕ) (r : Option ℕ) (n : ℕ) →
    may_be_tail (tailed g) ins r n ≡ may_be_tail g ins r n
same_test g ins r n =
    ap (λ b. is_empty g.blocks && are_few ins && b)
    (ap (λ k. returns_at r (slice_get (tailed g).nodes (landing (tailed g).nodes k n)))
    (map_length (tail_node g) g.nodes)
    ∙ ap (λ k. returns_at r (slice_get (tailed g).nodes k)) (landing_alike g (length g.nodes) n)
    ∙ ap (returns_at r) (map_get (tail_node g) g.nodes (landing g.nodes (length g.nodes) n))
    ∙ returns_alike g r (slice_get g.nodes (landing g.nodes (length g.nodes) n)))

-- a call that is left may not be a tail call
left : (g : Graph ℕ) (f : NameBytes) (ins : List ℕ) (r : Option ℕ) (n : ℕ) (o : Option (Node ℕ)) →
    option_map (tail_node g) o ≡ Some (call f ins r n) → may_be_tail g ins r n ≡ false
left g f ins r n None e = absurd (cc e)
left g f ins r n (Some (call f' ins' r' n')) e = by (may_be_tail g ins' r' n') refl e
  where
    by : (b : Bool) → may_be_tail g ins' r' n' ≡ b →
        Some (either (tail f' ins') (call f' ins' r' n') b) ≡ Some (call f ins r n) → may_be_tail g ins r n ≡ false
    by true is e = absurd (cc e)
    by false is e =
        let same_ins : ins' ≡ ins = cc e in
        let same_r : r' ≡ r = cc e in
        let same_n : n' ≡ n = cc e in
        ap (λ v. may_be_tail g v r n) (sym same_ins) ∙ ap (λ v. may_be_tail g ins' v n) (sym same_r)
        ∙ ap (λ v. may_be_tail g ins' r' v) (sym same_n) ∙ is
left g f ins r n (Some (nop k)) e = absurd (cc e)
left g f ins r n (Some (op o as_ d k)) e = absurd (cc e)
left g f ins r n (Some (load m as_ d k)) e = absurd (cc e)
left g f ins r n (Some (store m as_ d k)) e = absurd (cc e)
left g f ins r n (Some (tail f' as_)) e = absurd (cc e)
left g f ins r n (Some (test c as_ k j)) e = absurd (cc e)
left g f ins r n (Some (return_ d)) e = absurd (cc e)
left g f ins r n (Some (lock name k)) e = absurd (cc e)
left g f ins r n (Some (unlock name k)) e = absurd (cc e)
left g f ins r n (Some (out d k)) e = absurd (cc e)

pub none_left : (g : Graph ℕ) → HasTailCalls (tailed g)
none_left g i f ins r n e =
    same_test g ins r n ∙ left g f ins r n (slice_get g.nodes i) (sym (map_get (tail_node g) g.nodes i) ∙ e)
