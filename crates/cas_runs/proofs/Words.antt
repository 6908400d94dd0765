-- The words of a share that are the same as themselves, where values are the same.
use Rattle.std.proofs.Common.{◌≡◌, ℕ, zero, suc, List, [], ◌∷◌, Some, Bool, true, false, if◌then◌else◌, slice_get, slice_set, nat_eq, nat_lt, subst, arith}
use Rattle.std.proofs.lemmas.Bool.Decides.{nat_tests}
use Rattle.std.proofs.lemmas.Int.{ints}
use Rattle.cas_base.specs.declared.kind.Kind.{Kind}
use Rattle.cas_base.specs.declared.kind.Kind.TheVariants.{I8, U8, I16, U16, I32, U32}
use Rattle.cas_runs.specs.Label.{Each, Share}
use Rattle.cas_runs.specs.Edge.{Cell, TableWord, Edge, IsOfKind, AreOfKinds, guarded, AreGuarded}
use Rattle.cas_runs.specs.Naming.{Value, Number}
use Rattle.cas_runs.specs.Access.{words_in, with_lock, without_lock, with_words}
use Rattle.cas_runs.specs.Unit.{IsInKind}
use Rattle.cas_runs.specs.Forms.{AreSelfSame, ShareSelfSame}

-- a value of a kind is a word
pub kind_word : (w : ℕ) (kind : Kind) → IsOfKind w kind → IsOfKind w U32
kind_word w I8 h = grind (arith, nat_tests, ints, h)
kind_word w U8 h = grind (arith, nat_tests, ints, h)
kind_word w I16 h = grind (arith, nat_tests, ints, h)
kind_word w U16 h = grind (arith, nat_tests, ints, h)
kind_word w I32 h = grind (arith, nat_tests, ints, h)
kind_word w U32 h = h

module _ (same : Value → Value → Type 0) where
  pub self_get : (ws : List ℕ) → AreSelfSame same ws → (i w : ℕ) → slice_get ws i ≡ Some w → same (Number w) (Number w)
  self_get [] h i w e = absurd (cc e)
  self_get (x ∷ ws) h zero w e = let here : x ≡ w = cc e in subst (λ v. same (Number v) (Number v)) here h.0
  self_get (x ∷ ws) h (suc i) w e = self_get ws h.1 i w e

  pub self_set : (ws : List ℕ) → AreSelfSame same ws → (i w : ℕ) → same (Number w) (Number w) →
      AreSelfSame same (slice_set ws i w)
  self_set [] h i w s = tt
  self_set (x ∷ ws) h zero w s = (s, h.1)
  self_set (x ∷ ws) h (suc i) w s = (h.0, self_set ws h.1 i w s)

  pub self_found : (hs : Share) → ShareSelfSame same hs → (lock : ℕ) (ws : List ℕ) → words_in hs lock ≡ Some ws →
      AreSelfSame same ws
  self_found [] h lock ws e = absurd (cc e)
  self_found (k ∷ hs) h lock ws e = by (nat_eq k.lock lock) (λ g. self_found hs h.1 lock ws g) e
    where
      by : (t : Bool) → (words_in hs lock ≡ Some ws → AreSelfSame same ws) →
          (if t then Some k.words else words_in hs lock) ≡ Some ws → AreSelfSame same ws
      by true more g = let here : k.words ≡ ws = cc g in subst (λ v. AreSelfSame same v) here h.0
      by false more g = more g

  pub self_with : (hs : Share) → ShareSelfSame same hs → (lock : ℕ) (ws : List ℕ) → AreSelfSame same ws →
      ShareSelfSame same (with_words hs lock ws)
  self_with [] h lock ws s = tt
  self_with (k ∷ hs) h lock ws s = by (nat_eq k.lock lock) (self_with hs h.1 lock ws s)
    where
      by : (t : Bool) → ShareSelfSame same (with_words hs lock ws) →
          ShareSelfSame same (if t then record { lock = lock; words = ws } ∷ hs else k ∷ with_words hs lock ws)
      by true rest = (s, h.1)
      by false rest = (h.0, rest)

  pub self_with_lock : (hs : Share) → ShareSelfSame same hs → (lock : ℕ) (ws : List ℕ) → AreSelfSame same ws →
      ShareSelfSame same (with_lock hs lock ws)
  self_with_lock [] h lock ws s = (s, tt)
  self_with_lock (k ∷ hs) h lock ws s = by (nat_lt lock k.lock) (self_with_lock hs h.1 lock ws s)
    where
      by : (t : Bool) → ShareSelfSame same (with_lock hs lock ws) →
          ShareSelfSame same (if t then record { lock = lock; words = ws } ∷ k ∷ hs else k ∷ with_lock hs lock ws)
      by true rest = (s, h)
      by false rest = (h.0, rest)

  pub self_without_lock : (hs : Share) → ShareSelfSame same hs → (lock : ℕ) → ShareSelfSame same (without_lock hs lock)
  self_without_lock [] h lock = tt
  self_without_lock (k ∷ hs) h lock = by (nat_eq k.lock lock) (self_without_lock hs h.1 lock)
    where
      by : (t : Bool) → ShareSelfSame same (without_lock hs lock) →
          ShareSelfSame same (if t then hs else k ∷ without_lock hs lock)
      by true rest = h.1
      by false rest = (h.0, rest)

  -- where each number is the same as itself
  pub all_self : ((w : ℕ) → same (Number w) (Number w)) → (hs : Share) → ShareSelfSame same hs
  all_self each [] = tt
  all_self each (k ∷ hs) = (words k.words, all_self each hs)
    where
      words : (ws : List ℕ) → AreSelfSame same ws
      words [] = tt
      words (w ∷ ws) = (each w, words ws)

  module _ (numbers : (w : ℕ) → IsOfKind w U32 → same (Number w) (Number w)) where
    kinds_self : (ws : List ℕ) (kinds : List Kind) → AreOfKinds ws kinds → AreSelfSame same ws
    kinds_self [] kinds h = tt
    kinds_self (w ∷ ws) [] h = absurd h
    kinds_self (w ∷ ws) (kind ∷ kinds) h = (numbers w (kind_word w kind h.0), kinds_self ws kinds h.1)

    -- the words that a lock brings
    pub guarded_self : (edge : Edge) (lock : ℕ) (ws : List ℕ) → AreGuarded edge lock ws → AreSelfSame same ws
    guarded_self edge lock ws g = kinds_self ws (guarded lock edge.cells) g.kinds

    -- the words of tables
    pub table_self : (cells : List Cell) → Each IsInKind cells → (word value : ℕ) →
        slice_get cells word ≡ Some (TableWord value) → same (Number value) (Number value)
    table_self [] h word value e = absurd (cc e)
    table_self (c ∷ cells) h zero value e = let here : c ≡ TableWord value =
        cc e in numbers value (subst (λ v. IsInKind v) here h.0)
    table_self (c ∷ cells) h (suc word) value e = table_self cells h.1 word value e
