-- The addressing modes that Selection picks name the words that pointers and indices do.
use Rattle.std.proofs.Common.{◌≡◌, ℕ, zero, ◌^◌, List, [], ◌∷◌, Option, Some, None, Bool, true, false, if◌then◌else◌, nat_lt, refl, sym, ap, ◌∙◌, subst}
use Rattle.std.specs.Prelude.{ℤ, pos, negsuc, ◌+ℤ◌}
use Rattle.std.proofs.Math.IntN.{+ℤ_idr}
use Rattle.cas_runs.specs.Label.{NameBytes}
use Rattle.cas_runs.specs.Naming.{Home, Value, Number, Pointer, Hidden, usable}
use Rattle.cas_runs.specs.Access.{Accesses, Then, with_value}
use Rattle.cas_typed.specs.declared.tree.Signedness.{Signedness}
use Rattle.cas_typed.specs.declared.tree.Signedness.TheVariants.{Signed, Unsigned}
use Rattle.cas_step.specs.Operators.{number_of, place_below}
use Rattle.cas_mid.specs.declared.tree.Binop.TheVariants.{PointerPlus}
use Rattle.cas_mid.specs.Operators.{place_at, on_word, on_index, on_pointer, binary}
use Rattle.cas_mid.specs.Language.{Frame, Location, in_global, in_block}
use Rattle.cas_sel.specs.declared.tree.Op.TheVariants as op
use Rattle.cas_sel.specs.declared.tree.Mode.{Mode}
use Rattle.cas_sel.specs.declared.tree.Mode.TheVariants as mode
use Rattle.cas_sel.specs.Query.{asking, query_of, and_asks, answer_of}
use Rattle.cas_sel.specs.Trees.{Expr, temporary, operation, load, if_, Exprs, no_more, one_more, Address}
use Rattle.cas_sel.specs.Operations.{operate, locate, held_at, in_block_at, in_global_at}
use Rattle.cas_sel.specs.CminorSel.{value, values, location, within}
use Rattle.cas_select.specs.Operators.{one, constant, known}
use Rattle.cas_select.specs.Addresses.{offset_of, beyond, address, element_at, known_place, element, load_at}
use Rattle.cas_select.proofs.Improving.{Improves, itself, equals, then_too, fails, value_better, values_better}
use Rattle.cas_select.proofs.Choosing.{IsKnown, known_is}

abbrev IsOffset : Signedness → ℕ → Option ℤ → Type 0
IsOffset s n None = Unit {0}
IsOffset s n (Some offset) = offset ≡ number_of s n

offset_is : (s : Signedness) (n : ℕ) → IsOffset s n (offset_of s n)
offset_is Signed n = refl
offset_is Unsigned n = by (nat_lt n (2 ^ 31))
  where
    by : (b : Bool) → IsOffset Unsigned n (if b then Some (pos n) else None)
    by true = refl
    by false = tt

module _ {L : Type 0} (f : Frame) (next : Location → Accesses L) where
  -- what follows on a value that is a pointer
  abbrev points : Value → Accesses L
  points v = on_pointer v (λ home p. next (in_block home p))

  -- a pointer that was moved to here
  abbrev goes_to : Home → ℤ → Accesses L
  goes_to home z = asking (query_of (with_value (place_at z) (λ q. Then (Pointer home q)))) points

  at_place : (home : Home) (z z' : ℤ) → z ≡ z' → Improves (with_value (in_block_at home z) next) (goes_to home z')
  at_place home z z' same = subst (λ y. Improves (with_value (in_block_at home z) next) (goes_to home y)) same (by z)
    where
      by : (z : ℤ) → Improves (with_value (in_block_at home z) next) (goes_to home z)
      by (pos n) = itself _
      by (negsuc n) = fails

  -- the mode of a pointer alone
  based : (v : Value) → Improves (with_value (locate (within f) (mode.Based (pos 0)) (v ∷ [])) next) (points v)
  based (Number n) = fails
  based (Hidden what) = fails
  based (Pointer home p) = subst (λ z. Improves (with_value (in_block_at home z) next) (next (in_block home p)))
      (sym (+ℤ_idr (pos p))) (itself _)

  based_is : (a : Expr) → Improves (location f (record { mode = mode.Based (pos 0); operands = one a }) next)
      (value f a points)
  based_is a = value_better f a _ _ (λ v. based v)

  stacked : (k : ℕ) (vs : List Value) → Improves (with_value (locate (within f) (mode.Stack k) vs) next)
      (asking (operate (within f) (op.StackAddress k) vs) points)
  stacked k [] = itself _
  stacked k (v ∷ vs) = fails

  -- a pointer and an index
  indexed : (s : Signedness) (vs : List Value) →
      Improves (with_value (locate (within f) (mode.Indexed s (pos 0)) vs) next)
      (asking (operate (within f) (op.Binary (PointerPlus s)) vs) points)
  indexed s [] = fails
  indexed s (u ∷ []) = fails
  indexed s (Number m ∷ v ∷ []) = fails
  indexed s (Hidden what ∷ v ∷ []) = fails
  indexed s (Pointer home p ∷ Number n ∷ []) = at_place home _ _ (+ℤ_idr (pos p +ℤ number_of s n))
  indexed s (Pointer home p ∷ Pointer other r ∷ []) = fails
  indexed s (Pointer home p ∷ Hidden what ∷ []) = fails
  indexed s (u ∷ v ∷ w ∷ vs) = fails

  module _ (s : Signedness) (n : ℕ) (offset : ℤ) (is : offset ≡ number_of s n) where
    moved_by : (vs : List Value) → Improves (with_value (locate (within f) (mode.Based offset) vs) next)
        (asking (operate (within f) (op.WithNumber (PointerPlus s) n) vs) points)
    moved_by [] = fails
    moved_by (Number m ∷ []) = fails
    moved_by (Hidden what ∷ []) = fails
    moved_by (Pointer home p ∷ []) = at_place home _ _ (ap (λ z. pos p +ℤ z) is)
    moved_by (u ∷ v ∷ vs) = fails

    -- an index, and then the offset
    abbrev then_moved : Value → Accesses L
    then_moved u = asking (operate (within f) (op.WithNumber (PointerPlus s) n) (u ∷ [])) points

    abbrev then_at : Home → ℤ → Accesses L
    then_at home z = asking (query_of (with_value (place_at z) (λ q. Then (Pointer home q)))) then_moved

    both_moved : (home : Home) (z : ℤ) → Improves (with_value (in_block_at home (z +ℤ offset)) next) (then_at home z)
    both_moved home (pos q) = at_place home _ _ (ap (λ z. pos q +ℤ z) is)
    both_moved home (negsuc q) = fails

    indexed_by : (t : Signedness) (vs : List Value) →
        Improves (with_value (locate (within f) (mode.Indexed t offset) vs) next)
        (asking (operate (within f) (op.Binary (PointerPlus t)) vs) then_moved)
    indexed_by t [] = fails
    indexed_by t (u ∷ []) = fails
    indexed_by t (Number m ∷ v ∷ []) = fails
    indexed_by t (Hidden what ∷ v ∷ []) = fails
    indexed_by t (Pointer home p ∷ Number i ∷ []) = both_moved home (pos p +ℤ number_of t i)
    indexed_by t (Pointer home p ∷ Pointer other r ∷ []) = fails
    indexed_by t (Pointer home p ∷ Hidden what ∷ []) = fails
    indexed_by t (u ∷ v ∷ w ∷ vs) = fails

    beyond_is : (es : Exprs) (whole : Expr) → Improves (location f (beyond es whole (Some offset)) next)
        (value f (operation (op.WithNumber (PointerPlus s) n) es) points)
    beyond_is (one_more (operation (op.Binary (PointerPlus t)) es) no_more) whole =
        values_better f es _ _ (λ vs. indexed_by t vs)
    beyond_is es whole = values_better f es _ _ (λ vs. moved_by vs)

  by_offset : (s : Signedness) (n : ℕ) (es : Exprs) (o : Option ℤ) → IsOffset s n o →
      Improves (location f (beyond es (operation (op.WithNumber (PointerPlus s) n) es) o) next)
      (value f (operation (op.WithNumber (PointerPlus s) n) es) points)
  by_offset s n es None is = based_is (operation (op.WithNumber (PointerPlus s) n) es)
  by_offset s n es (Some offset) is = beyond_is s n offset is es (operation (op.WithNumber (PointerPlus s) n) es)

  pub address_is : (a : Expr) → Improves (location f (address a) next)
      (value f a (λ v. on_pointer v (λ home p. next (in_block home p))))
  address_is (operation (op.StackAddress k) es) = values_better f es _ _ (λ vs. stacked k vs)
  address_is (operation (op.Binary (PointerPlus s)) es) = values_better f es _ _ (λ vs. indexed s vs)
  address_is (operation (op.WithNumber (PointerPlus s) n) es) = by_offset s n es (offset_of s n) (offset_is s n)
  address_is a = based_is a

  -- a word of a global at an index
  module _ (g : NameBytes) (s : Signedness) where
    abbrev at_index : ℤ → Accesses L
    at_index z = with_value (place_at z) (λ q. next (in_global g q))

    at_global : (z z' : ℤ) → z ≡ z' → Improves (with_value (in_global_at g z) next) (at_index z')
    at_global z z' same = subst (λ y. Improves (with_value (in_global_at g z) next) (at_index y)) same (by z)
      where
        by : (z : ℤ) → Improves (with_value (in_global_at g z) next) (at_index z)
        by (pos n) = itself _
        by (negsuc n) = fails

    index_better : (v : Value) →
        Improves (with_value (locate (within f) (mode.IndexedGlobal g s (pos 0)) (v ∷ [])) next)
        (on_index s v (λ q. next (in_global g q)))
    index_better (Number n) = at_global _ _ (+ℤ_idr (number_of s n))
    index_better (Pointer home p) = fails
    index_better (Hidden what) = fails

    index_is : (a : Expr) → Improves (location f (element_at g s a None) next)
        (value f a (λ v. on_index s v (λ q. next (in_global g q))))
    index_is a = value_better f a _ _ (λ v. index_better v)

    place_is : (a : Expr) (z : ℤ) → Improves (location f (element_at g s a None) next) (at_index z) →
        Improves (location f (element_at g s a (place_below (2 ^ 32) z)) next) (at_index z)
    place_is a (negsuc n) h = fails
    place_is a (pos n) h = by (nat_lt n (2 ^ 32))
      where
        by : (b : Bool) → Improves (location f (element_at g s a (if b then Some n else None)) next)
            (next (in_global g n))
        by true = itself _
        by false = h

    pub element_is : (a : Expr) → Improves (location f (element g s a) next)
        (value f a (λ v. on_index s v (λ q. next (in_global g q))))
    element_is a = by (known a) (known_is a)
      where
        by : (k : Option ℕ) → IsKnown a k → Improves (location f (element_at g s a (known_place s k)) next)
            (value f a (λ v. on_index s v (λ q. next (in_global g q))))
        by None e = index_is a
        by (Some n) e = subst (λ c. Improves (location f (element_at g s c (known_place s (Some n))) next)
            (value f c (λ v. on_index s v (λ q. next (in_global g q))))) (sym e)
            (place_is (constant n) (number_of s n) (index_is (constant n)))

-- what is loaded from there
pub load_is : {L : Type 0} (f : Frame) (next : Value → Accesses L) (a : Address) → Improves (value f (load_at a) next)
    (location f a (λ l. asking (held_at l) (λ v. with_value (usable v) next)))
load_is {L = L} f next a = values_better f a.operands _ _ (λ vs. by (locate (within f) a.mode vs))
  where
    by : (o : Option Location) → Improves (asking (and_asks (answer_of o) held_at) (λ v. with_value (usable v) next))
        (with_value o (λ l. asking (held_at l) (λ v. with_value (usable v) next)))
    by None = fails
    by (Some l) = itself _
