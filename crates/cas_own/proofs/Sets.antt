-- Laws of sets of locks.
use Rattle.std.proofs.Common.{arith, ◌≡◌, ◌≢◌, ℕ, suc, ◌<◌, ◌≤◌, min, Bool, true, false, List, [], ◌∷◌, Some, None, refl, sym, ap, subst, ◌∙◌, inl, inr}
use Rattle.std.specs.Prelude.{◌==◌, nat_lt, not, ◌&&◌, ◌||◌, if◌then◌else◌}
use Rattle.std.proofs.lemmas.Bool.Decides.{eqb_tells, leb_tells}
use Rattle.cas_own.specs.Laws.{IsAscendingFrom, IsAscending, SetsAscend, OthersStay, SetsAreOfLocks, DifferencesAreFirst}
use Rattle.cas_own.specs.Locks.{Locks, has, having, without, differs, set_of}

-- a number is another, or isn't
pub same_or_not : {C : Type 0} (m l : ℕ) → ((m == l) ≡ true → m ≡ l → C) → ((m == l) ≡ false → m ≢ l → C) → C
same_or_not m l same other = elim (eqb_tells m l) [ inl h ↦ same h.0 h.1 | inr h ↦ other h.0 h.1 ]

-- a number is less than another, or isn't
less_or_not : {C : Type 0} (l m : ℕ) → (nat_lt l m ≡ true → l < m → C) → (nat_lt l m ≡ false → m ≤ l → C) → C
less_or_not l m less other = elim (leb_tells (suc l) m)
    [ inl h ↦ less h.0 h.1 | inr h ↦ other h.0 (omega (arith, h.1)) ]

-- a set with a lock, by how the lock compares with the first

having_same : (m : ℕ) (s : Locks) (l : ℕ) → (m == l) ≡ true → having (m ∷ s) l ≡ m ∷ s
having_same m s l h = ap (λ b. if b then m ∷ s else if nat_lt l m then l ∷ m ∷ s else m ∷ having s l) h

having_less : (m : ℕ) (s : Locks) (l : ℕ) → (m == l) ≡ false → nat_lt l m ≡ true → having (m ∷ s) l ≡ l ∷ m ∷ s
having_less m s l h k = ap (λ b. if b then m ∷ s else if nat_lt l m then l ∷ m ∷ s else m ∷ having s l) h
    ∙ ap (λ b. if b then l ∷ m ∷ s else m ∷ having s l) k

having_more : (m : ℕ) (s : Locks) (l : ℕ) → (m == l) ≡ false → nat_lt l m ≡ false → having (m ∷ s) l ≡ m ∷ having s l
having_more m s l h k = ap (λ b. if b then m ∷ s else if nat_lt l m then l ∷ m ∷ s else m ∷ having s l) h
    ∙ ap (λ b. if b then l ∷ m ∷ s else m ∷ having s l) k

-- of a set with a lock holds what holds in each of these cases
pub having_cases : (P : Locks → Type 0) (m : ℕ) (s : Locks) (l : ℕ) → (m ≡ l → P (m ∷ s)) → (l < m → P (l ∷ m ∷ s)) →
    (m < l → P (m ∷ having s l)) → P (having (m ∷ s) l)
having_cases P m s l same less more =
    same_or_not m l (λ h e. subst P (sym (having_same m s l h)) (same e))
    (λ h n. less_or_not l m (λ k u. subst P (sym (having_less m s l h k)) (less u))
    (λ k u. subst P (sym (having_more m s l h k)) (more (omega (arith, u, n)))))

pub without_cases : (P : Locks → Type 0) (m : ℕ) (s : Locks) (l : ℕ) → (m ≡ l → P s) → (m ≢ l → P (m ∷ without s l)) →
    P (without (m ∷ s) l)
without_cases P m s l same other =
    same_or_not m l (λ h e. subst P (sym (ap (λ b. if b then s else m ∷ without s l) h)) (same e))
    (λ h n. subst P (sym (ap (λ b. if b then s else m ∷ without s l) h)) (other n))

-- sets ascend

lower : (n k : ℕ) (s : Locks) → n ≤ k → IsAscendingFrom k s → IsAscendingFrom n s
lower n k [] le h = tt
lower n k (m ∷ s) le h = (omega (arith, le, h.0), h.1)

having_ascends : (n : ℕ) (s : Locks) (l : ℕ) → n ≤ l → IsAscendingFrom n s → IsAscendingFrom n (having s l)
having_ascends n [] l le h = (le, tt)
having_ascends n (m ∷ s) l le h =
    having_cases (IsAscendingFrom n) m s l (λ e. h) (λ u. (le, (omega (arith, u), h.1)))
    (λ u. (h.0, having_ascends (suc m) s l (omega (arith, u)) h.1))

without_ascends : (n : ℕ) (s : Locks) (l : ℕ) → IsAscendingFrom n s → IsAscendingFrom n (without s l)
without_ascends n [] l h = tt
without_ascends n (m ∷ s) l h =
    without_cases (IsAscendingFrom n) m s l (λ e. lower n (suc m) s (omega (arith, h.0)) h.1)
    (λ e. (h.0, without_ascends (suc m) s l h.1))

pub set_ascends : (ls : List ℕ) → IsAscending (set_of ls)
set_ascends [] = tt
set_ascends (l ∷ ls) = having_ascends 0 (set_of ls) l (omega arith) (set_ascends ls)

pub sets_ascend : SetsAscend
sets_ascend = (set_ascends, λ s l h. (having_ascends 0 s l (omega arith) h, without_ascends 0 s l h))

-- members

either_way : (a b c : Bool) → (a || (b || c)) ≡ (b || (a || c))
either_way true true c = refl
either_way true false c = refl
either_way false true c = refl
either_way false false c = refl

twice : (a c : Bool) → (a || c) ≡ (a || (a || c))
twice true c = refl
twice false c = refl

pub has-having : (s : Locks) (l m : ℕ) → has (having s l) m ≡ (l == m || has s m)
has-having [] l m = refl
has-having (k ∷ s) l m =
    having_cases (λ t. has t m ≡ (l == m || has (k ∷ s) m)) k s l
    (λ e. twice (k == m) (has s m) ∙ ap (λ j. (j == m || has (k ∷ s) m)) e)
    (λ u. refl)
    (λ u. ap (λ b. (k == m || b)) (has-having s l m) ∙ either_way (k == m) (l == m) (has s m))

-- no lock of a set is less than the first
pub not_before : (n : ℕ) (s : Locks) (m : ℕ) → IsAscendingFrom n s → m < n → has s m ≡ false
not_before n [] m h u = refl
not_before n (k ∷ s) m h u =
    same_or_not k m (λ t e. absurd (omega (arith, e, u, h.0)))
    (λ t e. ap (λ b. (b || has s m)) t ∙ not_before (suc k) s m h.1 (omega (arith, u, h.0)))

pub has-without : (n : ℕ) (s : Locks) (l m : ℕ) → IsAscendingFrom n s → has (without s l) m ≡ (not (l == m) && has s m)
has-without n [] l m h = same_or_not l m (λ t e. ap (λ b. (not b && false)) (sym t))
    (λ t e. ap (λ b. (not b && false)) (sym t))
has-without n (k ∷ s) l m h =
    without_cases (λ t. has t m ≡ (not (l == m) && has (k ∷ s) m)) k s l
    (λ e. same_or_not l m
    (λ t d. not_before (suc k) s m h.1 (omega (arith, d, e)) ∙ ap (λ b. (not b && has (k ∷ s) m)) (sym t))
    (λ t d. ap (λ b. (b || has s m)) (sym (ap (λ j. j == m) e ∙ t)) ∙ ap (λ b. (not b && has (k ∷ s) m)) (sym t)))
    (λ e. ap (λ b. (k == m || b)) (has-without (suc k) s l m h.1) ∙ same_or_not l m
    (λ t d. same_or_not k m (λ t' d'. absurd (e (d' ∙ sym d)))
    (λ t' d'. ap (λ b. (b || (not (l == m) && has s m))) t' ∙ ap (λ b. (not b && has s m)) t
    ∙ ap (λ b. (not b && has (k ∷ s) m)) (sym t)))
    (λ t d. ap (λ b. (k == m || (not b && has s m))) t ∙ ap (λ b. (not b && has (k ∷ s) m)) (sym t)))

pub others_stay : OthersStay
others_stay s l m h = (has-having s l m, has-without 0 s l m h)

pub sets_are_of_locks : SetsAreOfLocks
sets_are_of_locks [] l = refl
sets_are_of_locks (m ∷ ls) l = has-having (set_of ls) m l ∙ ap (λ b. (m == l || b)) (sets_are_of_locks ls l)

-- differences

equal_heads : (l m : ℕ) (s t : Locks) → (l == m) ≡ true → differs (l ∷ s) (m ∷ t) ≡ differs s t
equal_heads l m s t h = ap (λ b. if b then differs s t else Some (min l m)) h

other_heads : (l m : ℕ) (s t : Locks) → (l == m) ≡ false → differs (l ∷ s) (m ∷ t) ≡ Some (min l m)
other_heads l m s t h = ap (λ b. if b then differs s t else Some (min l m)) h

pub differs-none : (s t : Locks) → differs s t ≡ None → s ≡ t
differs-none [] [] h = refl
differs-none [] (m ∷ t) h = cc
differs-none (l ∷ s) [] h = cc
differs-none (l ∷ s) (m ∷ t) h =
    same_or_not l m (λ k e. ap (λ j. j ∷ s) e ∙ ap (λ r. m ∷ r) (differs-none s t (sym (equal_heads l m s t k) ∙ h)))
    (λ k e. let no : Some (min l m) ≡ None = sym (other_heads l m s t k) ∙ h in cc)

pub differs-same : (s : Locks) → differs s s ≡ None
differs-same [] = refl
differs-same (l ∷ s) = same_or_not l l (λ k e. equal_heads l l s s k ∙ differs-same s) (λ k e. absurd (e refl))

-- the first lock that is in one of the sets only
abbrev Parts : Locks → Locks → (lock : ℕ) → Type 0
Parts s t l = (has s l ≢ has t l) × ((m : ℕ) → m < l → has s m ≡ has t m)

only_here : (k : ℕ) (s t : Locks) → IsAscendingFrom (suc k) s → IsAscendingFrom (suc k) t → Parts (k ∷ s) t k
only_here k s t a b = (
  apart,
  λ m u. not_before k (k ∷ s) m (omega arith, a) u
      ∙ sym (not_before (suc k) t m b (omega (arith, u))),
)
  where
    here : has (k ∷ s) k ≡ true
    here = same_or_not k k (λ e d. ap (λ b. (b || has s k)) e) (λ e d. absurd (d refl))

    apart : has (k ∷ s) k ≢ has t k
    apart e = let no : true ≡ false = sym here ∙ e ∙ not_before (suc k) t k b (omega arith) in absurd (cc no)

turned : (s t : Locks) (l : ℕ) → Parts s t l → Parts t s l
turned s t l h = (λ e. h.0 (sym e), λ m u. sym (h.1 m u))

-- behind a lock of both
behind_both : (k : ℕ) (s t : Locks) (l : ℕ) → IsAscendingFrom (suc k) s → IsAscendingFrom (suc k) t → Parts s t l →
    Parts (k ∷ s) (k ∷ t) l
behind_both k s t l a b h = (apart, λ m u. ap (λ b. (k == m || b)) (h.1 m u))
  where
    apart : has (k ∷ s) l ≢ has (k ∷ t) l
    apart e =
        same_or_not k l
        (λ c d. h.0 (not_before (suc k) s l a (omega (arith, d)) ∙ sym (not_before (suc k) t l b (omega (arith, d)))))
        (λ c d. h.0 (ap (λ b. (b || has s l)) (sym c) ∙ e ∙ ap (λ b. (b || has t l)) c))

differs-first : (n : ℕ) (s t : Locks) (l : ℕ) → IsAscendingFrom n s → IsAscendingFrom n t → differs s t ≡ Some l →
    Parts s t l
differs-first n [] [] l a b h = cc
differs-first n [] (m ∷ t) l a b h = let e : m ≡ l = cc in
    subst (Parts [] (m ∷ t)) e (turned (m ∷ t) [] m (only_here m t [] b.1 tt))
differs-first n (k ∷ s) [] l a b h = let e : k ≡ l = cc in subst (Parts (k ∷ s) []) e (only_here k s [] a.1 tt)
differs-first n (k ∷ s) (m ∷ t) l a b h =
    same_or_not k m
    (λ c e. let both : Parts s t l = differs-first (suc k) s t l a.1
    (subst (λ j. IsAscendingFrom (suc j) t) (sym e) b.1) (sym (equal_heads k m s t c) ∙ h) in
    subst (λ j. Parts (k ∷ s) (j ∷ t) l) e (behind_both k s t l a.1 (subst (λ j. IsAscendingFrom (suc j) t) (sym e) b.1)
    both))
    (λ c e. let least : Some (min k m) ≡ Some l = sym (other_heads k m s t c) ∙ h in let is : min k m ≡ l = cc in
    less_or_not k m
    (λ d u. let first : k ≡ l = omega (arith, is, u) in
    subst (Parts (k ∷ s) (m ∷ t)) first (only_here k s (m ∷ t) a.1 (omega (arith, u), b.1)))
    (λ d u. let first : m ≡ l = omega (arith, is, u) in
    subst (Parts (k ∷ s) (m ∷ t)) first
    (turned (m ∷ t) (k ∷ s) m (only_here m t (k ∷ s) b.1 (omega (arith, u, e), a.1)))))

pub differences_are_first : DifferencesAreFirst
differences_are_first = (
  λ s t. (differs-none s t, λ e. subst (λ r. differs s r ≡ None) e (differs-same s)),
  λ s t l a b h. differs-first 0
      s t l a b h,
)
