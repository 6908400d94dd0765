-- Operations on pointers. Each fails with the first reason of these that applies: Null, Dead, Across, Index.
use Rattle.std.specs.Prelude.{ℕ, ◌+◌, ◌%◌, ◌^◌, ℤ, pos, ◌+ℤ◌, nat_lt, nat_le, ◌==◌, ◌||◌, Bool, true, false, not, Option, Some, None, if◌then◌else◌}
use Rattle.cas_base.specs.Word.{word_sub}
use Rattle.cas_base.specs.declared.act.Why.TheVariants.{Index, Null, Dead, Across}
use Rattle.cas_syntax.specs.declared.tree.BinaryOperator.{BinaryOperator}
use Rattle.cas_syntax.specs.declared.tree.BinaryOperator.TheVariants as bin
use Rattle.cas_step.specs.Asks.{Value, pointer, Asks, gives, fails, stuck, looks, loads, and_then}
use Rattle.cas_step.specs.Operators.{place_below, or_index}

-- how many elements a place is after another, modulo 2^32
abbrev pub distance : ℕ → ℕ → ℕ
distance p r = word_sub p (r % 2 ^ 32)

module _ {O : Type 0} where
  -- an evaluation on the number of an object's cells, if the object is live
  abbrev pub if_live : {A : Type 0} → (ℕ → Asks O A) → Option ℕ → Asks O A
  if_live next None = fails Dead
  if_live next (Some size) = next size

  abbrev pub live : {A : Type 0} → O → (ℕ → Asks O A) → Asks O A
  live o next = looks o (if_live next)

  -- the place of a pointer moved by this number: up to the object's length
  abbrev pub moved : Option (O × ℕ) → ℤ → Asks O (Value O)
  moved None i = fails Null
  moved (Some (o, p)) i = live o (λ size. or_index (place_below (size + 1) (pos p +ℤ i)) (λ q. gives (pointer o q)))

  -- the cell that a pointer points to
  abbrev pub cell_behind : Option (O × ℕ) → Asks O (O × ℕ)
  cell_behind None = fails Null
  cell_behind (Some (o, p)) = live o (λ size. if nat_lt p size then gives (o, p) else fails Index)

  -- the value that a pointer points to
  abbrev pub behind : Option (O × ℕ) → Asks O (Value O)
  behind a = and_then (cell_behind a) (λ c. loads c.0 c.1 gives)

module _ {O : Type 0} (same : O → O → Bool) where
  -- two places in one object
  abbrev pub places : Option (O × ℕ) → Option (O × ℕ) → Asks O (ℕ × ℕ)
  places (Some (o, p)) (Some (q, r)) = live o (λ n. live q (λ m. if same o q then gives (p, r) else fails Across))
  places _ _ = fails Null

  -- how many elements the first is after the second
  abbrev pub difference : Option (O × ℕ) → Option (O × ℕ) → Asks O ℕ
  difference a b = and_then (places a b) (λ ps. gives (distance ps.0 ps.1))

  -- whether places of two objects with these numbers of cells are equal; of different objects neither may be at the end
  -- or past it
  abbrev pub is_same_place : (one : Bool) → (p n r m : ℕ) → Asks O Bool
  is_same_place true p n r m = gives (p == r)
  is_same_place false p n r m = if nat_le n p || nat_le m r then fails Across else gives false

  -- whether two pointers are equal
  abbrev pub equal : Option (O × ℕ) → Option (O × ℕ) → Asks O Bool
  equal None None = gives true
  equal (Some (o, p)) None = live o (λ n. gives false)
  equal None (Some (q, r)) = live q (λ m. gives false)
  equal (Some (o, p)) (Some (q, r)) = live o (λ n. live q (λ m. is_same_place (same o q) p n r m))

  -- whether two pointers compare so
  abbrev pub compared : BinaryOperator → Option (O × ℕ) → Option (O × ℕ) → Asks O Bool
  compared bin.Eq a b = equal a b
  compared bin.Ne a b = and_then (equal a b) (λ is. gives (not is))
  compared bin.Lt a b = and_then (places a b) (λ ps. gives (nat_lt ps.0 ps.1))
  compared bin.Le a b = and_then (places a b) (λ ps. gives (nat_le ps.0 ps.1))
  compared bin.Gt a b = and_then (places a b) (λ ps. gives (nat_lt ps.1 ps.0))
  compared bin.Ge a b = and_then (places a b) (λ ps. gives (nat_le ps.1 ps.0))
  compared _ a b = stuck
