-- Words of a share with a lock more, and with one less.
use Rattle.std.proofs.Common.{◌≡◌, ℕ, List, [], ◌∷◌, ◌⊎◌, inl, inr, ⊎_elim, Some, None, Bool, true, false, if◌then◌else◌, slice_get, nat_eq, nat_lt, refl, sym, subst, eqb-true, arith}
use Rattle.cas_base.specs.declared.kind.Kind.{Kind}
use Rattle.cas_runs.specs.Label.{Share}
use Rattle.cas_runs.specs.Edge.{Cell, SharedWord, AreAbove, IsOrderedWith}
use Rattle.cas_runs.specs.Access.{words_in, with_lock, without_lock, place_among}
use Rattle.cas_bridge.specs.Matching.{WordsMatch}
use Rattle.cas_bridge.specs.Threads.{AreWordsOf}

-- the words of a lock in a share with one more
words_with_lock : (hs : Share) (lock : ℕ) (ws : List ℕ) (l : ℕ) (us : List ℕ) →
    words_in (with_lock hs lock ws) l ≡ Some us → ((lock ≡ l) × (ws ≡ us)) ⊎ (words_in hs l ≡ Some us)
words_with_lock [] lock ws l us e = by (nat_eq lock l) refl e
  where
    by : (t : Bool) → nat_eq lock l ≡ t → (if t then Some ws else None) ≡ Some us →
        ((lock ≡ l) × (ws ≡ us)) ⊎ (words_in [] l ≡ Some us)
    by true d i = inl (eqb-true lock l d, cc i)
    by false d i = absurd (cc i)
words_with_lock (h ∷ hs) lock ws l us e = by (nat_lt lock h.lock) e (λ i. words_with_lock hs lock ws l us i)
  where
    new : (t : Bool) → nat_eq lock l ≡ t → (if t then Some ws else words_in (h ∷ hs) l) ≡ Some us →
        ((lock ≡ l) × (ws ≡ us)) ⊎ (words_in (h ∷ hs) l ≡ Some us)
    new true d i = inl (eqb-true lock l d, cc i)
    new false d i = inr i

    old : (t : Bool) → (if t then Some h.words else words_in (with_lock hs lock ws) l) ≡ Some us →
        (words_in (with_lock hs lock ws) l ≡ Some us → ((lock ≡ l) × (ws ≡ us)) ⊎ (words_in hs l ≡ Some us)) →
        ((lock ≡ l) × (ws ≡ us)) ⊎ ((if t then Some h.words else words_in hs l) ≡ Some us)
    old true i rest = inr i
    old false i rest = rest i

    by : (t : Bool) → words_in (if t then record { lock = lock; words = ws } ∷ h ∷ hs else h ∷ with_lock hs lock ws) l
        ≡ Some us → (words_in (with_lock hs lock ws) l ≡ Some us → ((lock ≡ l) × (ws ≡ us))
        ⊎ (words_in hs l ≡ Some us)) → ((lock ≡ l) × (ws ≡ us)) ⊎ (words_in (h ∷ hs) l ≡ Some us)
    by true i rest = new (nat_eq lock l) refl i
    by false i rest = old (nat_eq h.lock l) i rest

-- a lock that comes with its words
pub words_taken : (cells : List Cell) (hs : Share) (words : List ℕ) → WordsMatch cells hs words → (lock : ℕ)
    (ws : List ℕ) → AreWordsOf cells lock ws words → WordsMatch cells (with_lock hs lock ws) words
words_taken cells hs words old lock ws are = record {
  held = λ l us e n initial kind g. ⊎_elim (λ s. here l us s.0 s.1 n initial kind g)
      (λ i. old.held l us i n initial kind g) (words_with_lock hs lock ws l us e);
  tables = old.tables;
}
  where
    here : (l : ℕ) (us : List ℕ) → lock ≡ l → ws ≡ us → (n initial : ℕ) (kind : Kind) →
        slice_get cells n ≡ Some (SharedWord kind (Some l) initial) →
        slice_get us (place_among cells l n) ≡ slice_get words n
    here l us s t n initial kind g =
        subst (λ (v : List ℕ). slice_get v (place_among cells l n) ≡ slice_get words n) t
        (subst (λ (k : ℕ). slice_get ws (place_among cells k n) ≡ slice_get words n) s
        (are n initial kind (subst (λ (k : ℕ). slice_get cells n ≡ Some (SharedWord kind (Some k) initial)) (sym s) g)))

-- no lock stands among greater ones
none_above : (n : ℕ) (hs : Share) (us : List ℕ) → AreAbove n hs → words_in hs n ≡ Some us → ⊥
none_above n [] us h e = cc e
none_above n (k ∷ hs) us h e = by (nat_eq k.lock n) refl e (λ i. none_above n hs us h.1 i)
  where
    by : (t : Bool) → nat_eq k.lock n ≡ t → (if t then Some k.words else words_in hs n) ≡ Some us →
        (words_in hs n ≡ Some us → ⊥) → ⊥
    by true d i rest = let same : k.lock ≡ n = eqb-true k.lock n d in let less = h.0 in omega (arith, same, less)
    by false d i rest = rest i

words_without_lock : (AreSuch : ℕ → List ℕ → Type 0) (hs : Share) → IsOrderedWith AreSuch hs → (lock l : ℕ)
    (us : List ℕ) → words_in (without_lock hs lock) l ≡ Some us → words_in hs l ≡ Some us
words_without_lock AreSuch [] o lock l us e = e
words_without_lock AreSuch (h ∷ hs) o lock l us e = by (nat_eq h.lock lock) e
    (λ i. words_without_lock AreSuch hs o.2 lock l us i)
  where
    first : (t : Bool) → nat_eq h.lock l ≡ t → words_in hs l ≡ Some us →
        (if t then Some h.words else words_in hs l) ≡ Some us
    first true d i =
        let same : h.lock ≡ l = eqb-true h.lock l d in
        absurd (none_above h.lock hs us o.1 (subst (λ k. words_in hs k ≡ Some us) (sym same) i))
    first false d i = i

    later : (t : Bool) → (if t then Some h.words else words_in (without_lock hs lock) l) ≡ Some us →
        (words_in (without_lock hs lock) l ≡ Some us → words_in hs l ≡ Some us) →
        (if t then Some h.words else words_in hs l) ≡ Some us
    later true i rest = i
    later false i rest = rest i

    by : (t : Bool) → words_in (if t then hs else h ∷ without_lock hs lock) l ≡ Some us →
        (words_in (without_lock hs lock) l ≡ Some us → words_in hs l ≡ Some us) → words_in (h ∷ hs) l ≡ Some us
    by true i rest = first (nat_eq h.lock l) refl i
    by false i rest = later (nat_eq h.lock l) i rest

-- a lock that goes
pub words_given : (AreSuch : ℕ → List ℕ → Type 0) (cells : List Cell) (hs : Share) (words : List ℕ) →
    IsOrderedWith AreSuch hs → WordsMatch cells hs words → (lock : ℕ) →
    WordsMatch cells (without_lock hs lock) words
words_given AreSuch cells hs words o old lock = record {
  held = λ l us e n initial kind g. old.held l us (words_without_lock AreSuch hs o lock l us e) n initial kind g;
  tables = old.tables;
}
