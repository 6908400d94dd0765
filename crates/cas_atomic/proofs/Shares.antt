-- The share as a list, and as words and a set of locks.
use Rattle.std.proofs.Common.{◌≡◌, ℕ, zero, suc, ◌+◌, ◌<◌, ◌≤◌, nat_eq, nat_lt, Bool, true, false, List, [], ◌∷◌, length, Option, Some, None, slice_get, if◌then◌else◌, sym, refl, ap, ◌∙◌, subst, inl, inr, ◌⊎◌, arith, ltb-true, ltb-false}
use Rattle.std.specs.Prelude.{slice_set}
use Rattle.std.proofs.lemmas.Bool.Decides.{eqb_tells}
use Rattle.cas_base.specs.declared.kind.Kind.{Kind}
use Rattle.cas_runs.specs.Label.{Held, Share}
use Rattle.cas_runs.specs.Edge.{Cell, LockWord, SharedWord, TableWord}
use Rattle.cas_runs.specs.Access.{words_in, with_lock, without_lock, with_words, is_guarded_by, place_among}
use Rattle.cas_atomic.specs.Buffer.{put}
use Rattle.cas_atomic.specs.Cells.{IsUnder, and_word, under, values}
use Rattle.cas_atomic.proofs.Inner.{with_values}
use Rattle.cas_atomic.proofs.Basic.{same_or_not, if_same, if_not, put_here, put_else}
use Rattle.cas_atomic.proofs.Words.{found_all, values_on}

abbrev pub held : ℕ → List ℕ → Held
held lock words = record { lock = lock; words = words }

-- the locks ascend: each is greater than this
abbrev pub AreFrom : ℕ → Share → Type 0
AreFrom n [] = Unit {0}
AreFrom n (h ∷ hs) = (n ≤ h.lock) × AreFrom (suc h.lock) hs

not_before : (hs : Share) (n l : ℕ) → AreFrom n hs → l < n → words_in hs l ≡ None
not_before [] n l a less = refl
not_before (h ∷ hs) n l a less = let low = a.0 in if_not h.lock l (Some h.words) (words_in hs l) (λ e. omega arith)
    ∙ not_before hs (suc h.lock) l a.1 (omega arith)

from_less : (hs : Share) (m n : ℕ) → m ≤ n → AreFrom n hs → AreFrom m hs
from_less [] m n less a = tt
from_less (h ∷ hs) m n less a = let low = a.0 in (omega arith, a.1)

lt_or_not : (a b : ℕ) → ((nat_lt a b ≡ true) × (a < b)) ⊎ ((nat_lt a b ≡ false) × (b ≤ a))
lt_or_not a b = by (nat_lt a b) refl
  where
    by : (t : Bool) → nat_lt a b ≡ t → ((nat_lt a b ≡ true) × (a < b)) ⊎ ((nat_lt a b ≡ false) × (b ≤ a))
    by true e = inl (e, ltb-true a b e)
    by false e = inr (e, ltb-false a b e)

-- with a lock more
pub with_here : (hs : Share) (l : ℕ) (ws : List ℕ) → words_in hs l ≡ None → words_in (with_lock hs l ws) l ≡ Some ws
with_here [] l ws e = if_same l l (Some ws) None refl
with_here (h ∷ hs) l ws e = elim (lt_or_not l h.lock) [
  | inl q ↦ ap (λ (b : Bool). words_in (if b then held l ws ∷ h ∷ hs else h ∷ with_lock hs l ws) l) q.0
      ∙ if_same l l (Some ws) (words_in (h ∷ hs) l) refl
  | inr q ↦ ap (λ (b : Bool). words_in (if b then held l ws ∷ h ∷ hs else h ∷ with_lock hs l ws) l) q.0
      ∙ elim (same_or_not h.lock l) [
        | inl s ↦ let f = if_same h.lock l (Some h.words) (words_in hs l) s in absurd (cc (e, f))
        | inr d ↦ if_not h.lock l (Some h.words) (words_in (with_lock hs l ws) l) d
            ∙ with_here hs l ws (sym (if_not h.lock l (Some h.words) (words_in hs l) d) ∙ e)
      ]
]

pub with_else : (hs : Share) (l : ℕ) (ws : List ℕ) (k : ℕ) → (k ≡ l → ⊥) →
    words_in (with_lock hs l ws) k ≡ words_in hs k
with_else [] l ws k d = if_not l k (Some ws) None (λ e. d (sym e))
with_else (h ∷ hs) l ws k d = elim (lt_or_not l h.lock) [
  | inl q ↦ ap (λ (b : Bool). words_in (if b then held l ws ∷ h ∷ hs else h ∷ with_lock hs l ws) k) q.0
      ∙ if_not l k (Some ws) (words_in (h ∷ hs) k) (λ e. d (sym e))
  | inr q ↦ ap (λ (b : Bool). words_in (if b then held l ws ∷ h ∷ hs else h ∷ with_lock hs l ws) k) q.0
      ∙ ap (λ (o : Option (List ℕ)). if nat_eq h.lock k then Some h.words else o) (with_else hs l ws k d)
]

pub with_from : (hs : Share) (n l : ℕ) (ws : List ℕ) → n ≤ l → words_in hs l ≡ None → AreFrom n hs →
    AreFrom n (with_lock hs l ws)
with_from [] n l ws less e a = (less, tt)
with_from (h ∷ hs) n l ws less e a = elim (lt_or_not l h.lock) [
  | inl q ↦ subst (λ (b : Bool). AreFrom n (if b then held l ws ∷ h ∷ hs else h ∷ with_lock hs l ws)) (sym q.0)
      (let z = q.1 in (less, (omega arith, a.1)))
  | inr q ↦ subst (λ (b : Bool). AreFrom n (if b then held l ws ∷ h ∷ hs else h ∷ with_lock hs l ws)) (sym q.0)
      (elim (same_or_not h.lock l) [
        | inl s ↦ let f = if_same h.lock l (Some h.words) (words_in hs l) s in absurd (cc (e, f))
        | inr d ↦ let z =
            q.1 in (
              a.0,
              with_from hs (suc h.lock) l ws (above h.lock l z d)
                  (sym (if_not h.lock l (Some h.words) (words_in hs l) d) ∙ e) a.1,
            )
      ])
]
  where
    above : (a b : ℕ) → a ≤ b → (a ≡ b → ⊥) → suc a ≤ b
    above a b h d = elim (lt_or_not a b) [
      | inl q ↦ let z = q.1 in omega arith
      | inr q ↦ let z = q.1 in
          absurd (d (omega arith))
    ]

-- with a lock less
pub without_here : (hs : Share) (n l : ℕ) → AreFrom n hs → words_in (without_lock hs l) l ≡ None
without_here [] n l a = refl
without_here (h ∷ hs) n l a = elim (same_or_not h.lock l) [
  | inl s ↦ ap (λ (xs : Share). words_in xs l) (if_same h.lock l hs (h ∷ without_lock hs l) s)
      ∙ not_before hs (suc h.lock) l a.1 (omega arith)
  | inr d ↦ ap (λ (xs : Share). words_in xs l) (if_not h.lock l hs (h ∷ without_lock hs l) d)
      ∙ if_not h.lock l (Some h.words) (words_in (without_lock hs l) l) d ∙ without_here hs (suc h.lock) l a.1
]

pub without_else : (hs : Share) (l k : ℕ) → (k ≡ l → ⊥) → words_in (without_lock hs l) k ≡ words_in hs k
without_else [] l k d = refl
without_else (h ∷ hs) l k d = elim (same_or_not h.lock l) [
  | inl s ↦ ap (λ (xs : Share). words_in xs k) (if_same h.lock l hs (h ∷ without_lock hs l) s)
      ∙ sym (if_not h.lock k (Some h.words) (words_in hs k) (λ e. d (sym e ∙ s)))
  | inr n ↦ ap (λ (xs : Share). words_in xs k) (if_not h.lock l hs (h ∷ without_lock hs l) n)
      ∙ ap (λ (o : Option (List ℕ)). if nat_eq h.lock k then Some h.words else o) (without_else hs l k d)
]

pub without_from : (hs : Share) (n l : ℕ) → AreFrom n hs → AreFrom n (without_lock hs l)
without_from [] n l a = tt
without_from (h ∷ hs) n l a = elim (same_or_not h.lock l) [
  | inl s ↦ subst (λ (xs : Share). AreFrom n xs) (sym (if_same h.lock l hs (h ∷ without_lock hs l) s))
      (let z = a.0 in from_less hs n (suc h.lock) (omega arith) a.1)
  | inr d ↦ subst (λ (xs : Share). AreFrom n xs) (sym (if_not h.lock l hs (h ∷ without_lock hs l) d))
      (a.0, without_from hs (suc h.lock) l a.1)
]

-- with other words of a lock
pub words_here : (hs : Share) (l : ℕ) (vs ws : List ℕ) → words_in hs l ≡ Some vs →
    words_in (with_words hs l ws) l ≡ Some ws
words_here [] l vs ws e = absurd (cc e)
words_here (h ∷ hs) l vs ws e = elim (same_or_not h.lock l) [
  | inl s ↦ ap (λ (xs : Share). words_in xs l) (if_same h.lock l (held l ws ∷ hs) (h ∷ with_words hs l ws) s)
      ∙ if_same l l (Some ws) (words_in hs l) refl
  | inr d ↦ ap (λ (xs : Share). words_in xs l) (if_not h.lock l (held l ws ∷ hs) (h ∷ with_words hs l ws) d)
      ∙ if_not h.lock l (Some h.words) (words_in (with_words hs l ws) l) d
      ∙ words_here hs l vs ws (sym (if_not h.lock l (Some h.words) (words_in hs l) d) ∙ e)
]

pub words_else : (hs : Share) (l k : ℕ) (ws : List ℕ) → (k ≡ l → ⊥) → words_in (with_words hs l ws) k ≡ words_in hs k
words_else [] l k ws d = refl
words_else (h ∷ hs) l k ws d = elim (same_or_not h.lock l) [
  | inl s ↦ ap (λ (xs : Share). words_in xs k) (if_same h.lock l (held l ws ∷ hs) (h ∷ with_words hs l ws) s)
      ∙ if_not l k (Some ws) (words_in hs k) (λ e. d (sym e))
      ∙ sym (if_not h.lock k (Some h.words) (words_in hs k) (λ e. d (sym e ∙ s)))
  | inr n ↦ ap (λ (xs : Share). words_in xs k) (if_not h.lock l (held l ws ∷ hs) (h ∷ with_words hs l ws) n)
      ∙ ap (λ (o : Option (List ℕ)). if nat_eq h.lock k then Some h.words else o) (words_else hs l k ws d)
]

pub words_from : (hs : Share) (n l : ℕ) (ws : List ℕ) → AreFrom n hs → AreFrom n (with_words hs l ws)
words_from [] n l ws a = tt
words_from (h ∷ hs) n l ws a = elim (same_or_not h.lock l) [
  | inl s ↦ subst (λ (xs : Share). AreFrom n xs) (sym (if_same h.lock l (held l ws ∷ hs) (h ∷ with_words hs l ws) s))
      (subst (λ (k : ℕ). (n ≤ k) × AreFrom (suc k) hs) s a)
  | inr d ↦ subst (λ (xs : Share). AreFrom n xs) (sym (if_not h.lock l (held l ws ∷ hs) (h ∷ with_words hs l ws) d))
      (a.0, words_from hs (suc h.lock) l ws a.1)
]

-- a list's entry behind the first
behind : (x : ℕ) (xs : List ℕ) (n : ℕ) → slice_get (x ∷ xs) (n + 1) ≡ slice_get xs n
behind x xs n = let e : n + 1 ≡ suc n = omega arith in ap (λ (m : ℕ). slice_get (x ∷ xs) m) e

set_behind : (x : ℕ) (xs : List ℕ) (n v : ℕ) → slice_set (x ∷ xs) (n + 1) v ≡ x ∷ slice_set xs n v
set_behind x xs n v = let e : n + 1 ≡ suc n = omega arith in ap (λ (m : ℕ). slice_set (x ∷ xs) m v) e

-- the value of a guarded word stands at its place among those of its lock, and a new one is put there
value_place : (kind : Kind) (f : ℕ → ℕ) (cs : List Cell) (k lock j initial : ℕ) →
    slice_get cs j ≡ Some (SharedWord kind (Some lock) initial) →
    slice_get (values f (under cs k lock)) (place_among cs lock j) ≡ Some (f (k + j))
value_place kind f [] k lock j initial e = absurd (cc e)
value_place kind f (c ∷ cs) k lock zero initial e =
    let same : c ≡ SharedWord kind (Some lock) initial = cc e in
    subst (λ (d : Cell). slice_get (values f (and_word lock k d (under cs (suc k) lock))) 0 ≡ Some (f (k + 0)))
    (sym same)
    (ap (λ (ns : List ℕ). slice_get (values f ns) 0) (if_same lock lock (k ∷ under cs (suc k) lock)
    (under cs (suc k) lock) refl) ∙ ap (λ (n : ℕ). Some (f n)) (omega arith))
value_place kind f (c ∷ cs) k lock (suc j) initial e =
    by c (value_place kind f cs (suc k) lock j initial e ∙ ap (λ (n : ℕ). Some (f n)) (omega arith))
  where
    by : (c : Cell) → slice_get (values f (under cs (suc k) lock)) (place_among cs lock j) ≡ Some (f (k + suc j))
        → slice_get (values f (and_word lock k c (under cs (suc k) lock)))
        (if is_guarded_by lock c then place_among cs lock j + 1 else place_among cs lock j) ≡ Some (f (k + suc j))
    by LockWord h = h
    by (TableWord v) h = h
    by (SharedWord other None v) h = h
    by (SharedWord other (Some g) v) h = elim (eqb_tells g lock) [
      | inl q ↦ ap (λ (b : Bool). slice_get (values f (if b then k ∷ under cs (suc k) lock else under cs (suc k) lock))
          (if b then place_among cs lock j + 1 else place_among cs lock j)) q.0
          ∙ behind (f k) (values f (under cs (suc k) lock)) (place_among cs lock j) ∙ h
      | inr q ↦ ap (λ (b : Bool). slice_get (values f (if b then k ∷ under cs (suc k) lock else under cs (suc k) lock))
          (if b then place_among cs lock j + 1 else place_among cs lock j)) q.0 ∙ h
    ]

pub value_at : (f : ℕ → ℕ) (cells : List Cell) (lock w : ℕ) → IsUnder cells lock w →
    slice_get (values f (under cells 0 lock)) (place_among cells lock w) ≡ Some (f w)
value_at f cells lock w h = value_place h.kind f cells 0 lock w h.initial h.is
    ∙ ap (λ (n : ℕ). Some (f n)) (omega arith)

values_past : (f : ℕ → ℕ) (cs : List Cell) (k lock w v : ℕ) → w < k →
    values (put w v f) (under cs k lock) ≡ values f (under cs k lock)
values_past f [] k lock w v less = refl
values_past f (c ∷ cs) k lock w v less = by c (values_past f cs (suc k) lock w v (omega arith))
  where
    by : (c : Cell) → values (put w v f) (under cs (suc k) lock) ≡ values f (under cs (suc k) lock)
        → values (put w v f) (and_word lock k c (under cs (suc k) lock)) ≡ values f
        (and_word lock k c (under cs (suc k) lock))
    by LockWord h = h
    by (TableWord u) h = h
    by (SharedWord other None u) h = h
    by (SharedWord other (Some g) u) h = two (nat_eq g lock)
      where
        here : put w v f k ≡ f k
        here = put_else w v f k (λ e. omega arith)

        two : (b : Bool) → values (put w v f) (if b then k ∷ under cs (suc k) lock else under cs (suc k) lock)
            ≡ values f (if b then k ∷ under cs (suc k) lock else under cs (suc k) lock)
        two true = let a = here in let r = h in cc (a, r)
        two false = h

set_place : (kind : Kind) (f : ℕ → ℕ) (v : ℕ) (cs : List Cell) (k lock j initial : ℕ) →
    slice_get cs j ≡ Some (SharedWord kind (Some lock) initial) →
    slice_set (values f (under cs k lock)) (place_among cs lock j) v ≡ values (put (k + j) v f) (under cs k lock)
set_place kind f v [] k lock j initial e = absurd (cc e)
set_place kind f v (c ∷ cs) k lock zero initial e =
    let same : c ≡ SharedWord kind (Some lock) initial = cc e in
    let rest : values f (under cs (suc k) lock) ≡ values (put (k + 0) v f) (under cs (suc k) lock) =
    sym (values_past f cs (suc k) lock (k + 0) v (omega arith)) in
    let front : v ≡ put (k + 0) v f k = sym (put_here (k + 0) v f k (omega arith)) in
    subst (λ (d : Cell). slice_set (values f (and_word lock k d (under cs (suc k) lock))) 0 v ≡ values (put (k + 0) v f)
    (and_word lock k d (under cs (suc k) lock))) (sym same)
    (subst (λ (ns : List ℕ). slice_set (values f ns) 0 v ≡ values (put (k + 0) v f) ns)
    (sym (if_same lock lock (k ∷ under cs (suc k) lock) (under cs (suc k) lock) refl)) (cc (front, rest)))
set_place kind f v (c ∷ cs) k lock (suc j) initial e =
    by c (set_place kind f v cs (suc k) lock j initial e
    ∙ ap (λ (n : ℕ). values (put n v f) (under cs (suc k) lock)) (omega arith))
  where
    by : (c : Cell) → slice_set (values f (under cs (suc k) lock)) (place_among cs lock j) v ≡ values
        (put (k + suc j) v f) (under cs (suc k) lock)
        → slice_set (values f (and_word lock k c (under cs (suc k) lock)))
        (if is_guarded_by lock c then place_among cs lock j + 1 else place_among cs lock j) v ≡ values
        (put (k + suc j) v f) (and_word lock k c (under cs (suc k) lock))
    by LockWord h = h
    by (TableWord u) h = h
    by (SharedWord other None u) h = h
    by (SharedWord other (Some g) u) h = two (nat_eq g lock)
      where
        here : f k ≡ put (k + suc j) v f k
        here = sym (put_else (k + suc j) v f k (λ q. omega arith))

        two : (b : Bool) → slice_set (values f (if b then k ∷ under cs (suc k) lock else under cs (suc k) lock))
            (if b then place_among cs lock j + 1 else place_among cs lock j) v ≡ values (put (k + suc j) v f)
            (if b then k ∷ under cs (suc k) lock else under cs (suc k) lock)
        two true = let a = here in let r = h in
            set_behind (f k) (values f (under cs (suc k) lock)) (place_among cs lock j) v ∙ cc (a, r)
        two false = h

pub set_at : (f : ℕ → ℕ) (v : ℕ) (cells : List Cell) (lock w : ℕ) → IsUnder cells lock w →
    slice_set (values f (under cells 0 lock)) (place_among cells lock w) v ≡ values (put w v f) (under cells 0 lock)
set_at f v cells lock w h = set_place h.kind f v cells 0 lock w h.initial h.is
    ∙ ap (λ (n : ℕ). values (put n v f) (under cells 0 lock)) (omega arith)

-- words that are given to a lock's words are read back
pub given_back : (cs : List Cell) (k lock : ℕ) (ws : List ℕ) (old : ℕ → ℕ) → length ws ≡ length (under cs k lock) →
    values (with_values (under cs k lock) ws old) (under cs k lock) ≡ ws
given_back [] k lock [] old e = refl
given_back [] k lock (v ∷ vs) old e = absurd (omega arith)
given_back (c ∷ cs) k lock ws old e = by c (λ vs q. given_back cs (suc k) lock vs old q) ws e
  where
    by : (c : Cell) → ((vs : List ℕ) → length vs ≡ length (under cs (suc k) lock) →
        values (with_values (under cs (suc k) lock) vs old) (under cs (suc k) lock) ≡ vs) → (ws : List ℕ)
        → length ws ≡ length (and_word lock k c (under cs (suc k) lock))
        → values (with_values (and_word lock k c (under cs (suc k) lock)) ws old)
        (and_word lock k c (under cs (suc k) lock)) ≡ ws
    by LockWord h ws e = h ws e
    by (TableWord u) h ws e = h ws e
    by (SharedWord other None u) h ws e = h ws e
    by (SharedWord other (Some g) u) h ws e = two (nat_eq g lock) ws e
      where
        front : (vs : List ℕ) (v : ℕ) → with_values (k ∷ under cs (suc k) lock) (v ∷ vs) old k ≡ v
        front vs v = if_same k k v (with_values (under cs (suc k) lock) vs old k) refl

        rest : (vs : List ℕ) (v : ℕ) → values (with_values (k ∷ under cs (suc k) lock) (v ∷ vs) old)
            (under cs (suc k) lock) ≡ values (with_values (under cs (suc k) lock) vs old) (under cs (suc k) lock)
        rest vs v = values_on (with_values (k ∷ under cs (suc k) lock) (v ∷ vs) old)
            (with_values (under cs (suc k) lock) vs old) (under cs (suc k) lock)
            (λ w m. let f = found_all cs (suc k) lock w m in let z = f.at in
            if_not w k v (with_values (under cs (suc k) lock) vs old w) (λ q. omega arith))

        two : (b : Bool) (ws : List ℕ) → length ws ≡ length
            (if b then k ∷ under cs (suc k) lock else under cs (suc k) lock)
            → values (with_values (if b then k ∷ under cs (suc k) lock else under cs (suc k) lock) ws old)
            (if b then k ∷ under cs (suc k) lock else under cs (suc k) lock) ≡ ws
        two false ws e = h ws e
        two true [] e = absurd (omega arith)
        two true (v ∷ vs) e = let a = front vs v in let r = rest vs v ∙ h vs (omega arith) in cc (a, r)
