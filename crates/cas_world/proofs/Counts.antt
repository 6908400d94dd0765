-- How many locks of a set have a word: of a set over a module's items, by the words that they have in the program.
use Rattle.std.proofs.Common.{arith, ◌≡◌, ◌≢◌, ℕ, suc, ◌+◌, ◌<◌, ◌≤◌, Bool, true, false, [], ◌∷◌, Option, Some, None, refl, sym, ap, ◌∙◌}
use Rattle.std.specs.Prelude.{◌==◌, ◌||◌}
use Rattle.cas_own.specs.Laws.{IsAscendingFrom}
use Rattle.cas_own.specs.Locks.{Locks, has, having, without}
use Rattle.cas_own.proofs.Sets.{same_or_not, having_cases, without_cases, not_before}
use Rattle.cas_step.specs.Env.{Entity, function, outside, shared, table, lock}
use Rattle.cas_step.specs.Operators.{truth}
use Rattle.cas_world.specs.Owned.{is_word, count}

pub word_is : (it : Option Entity) (w : ℕ) → is_word it w ≡ true → it ≡ Some (lock w)
word_is None w h = cc
word_is (Some (function f)) w h = cc
word_is (Some outside) w h = cc
word_is (Some (shared first n guard)) w h = cc
word_is (Some (table first n)) w h = cc
word_is (Some (lock n)) w h = same_or_not n w (λ t e. ap (λ k. Some (lock k)) e)
    (λ t e. let no : true ≡ false = sym h ∙ t in absurd (cc no))

pub word_here : (w : ℕ) → is_word (Some (lock w)) w ≡ true
word_here w = same_or_not w w (λ t e. t) (λ t e. absurd (e refl))

pub word_other : (v w : ℕ) → v ≢ w → is_word (Some (lock v)) w ≡ false
word_other v w n = same_or_not v w (λ t e. absurd (n e)) (λ t e. t)

first_out : (a b : Bool) → (a || b) ≡ false → a ≡ false
first_out true b h = h
first_out false b h = refl

second_out : (a b : Bool) → (a || b) ≡ false → b ≡ false
second_out true b h = absurd (cc h)
second_out false b h = h

-- one or the other
one_of : {C : Type 0} (a b : Bool) → (a || b) ≡ true → (a ≡ true → C) → (b ≡ true → C) → C
one_of true b h f g = f refl
one_of false b h f g = g h

tell : {C : Type 0} (b : Bool) → (b ≡ true → C) → (b ≡ false → C) → C
tell true f g = f refl
tell false f g = g refl

-- what isn't in a set isn't its first, nor behind it
not_first : {C : Type 0} (k : ℕ) (s : Locks) (l : ℕ) → has (k ∷ s) l ≡ false → k ≡ l → C
not_first k s l h e = same_or_not k l (λ t d. let no : true ≡ false = sym t ∙ first_out (k == l) (has s l) h in
    absurd (cc no)) (λ t d. absurd (d e))

module _ (entity : ℕ → Option Entity) where
  pub count-having : (s : Locks) (l w : ℕ) → has s l ≡ false →
      count entity (having s l) w ≡ truth (is_word (entity l) w) + count entity s w
  count-having [] l w h = refl
  count-having (m ∷ s) l w h =
      having_cases (λ t. count entity t w ≡ truth (is_word (entity l) w) + count entity (m ∷ s) w) m s l
      (λ e. not_first m s l h e)
      (λ u. refl)
      (λ u. let rest = count-having s l w (second_out (m == l) (has s l) h) in omega (arith, rest))

  pub count-without : (s : Locks) (l w : ℕ) → has s l ≡ true →
      count entity s w ≡ truth (is_word (entity l) w) + count entity (without s l) w
  count-without [] l w h = absurd (cc h)
  count-without (m ∷ s) l w h =
      without_cases (λ t. count entity (m ∷ s) w ≡ truth (is_word (entity l) w) + count entity t w) m s l
      (λ e. ap (λ k. truth (is_word (entity k) w) + count entity s w) e)
      (λ d. one_of (m == l) (has s l) h
      (λ t. same_or_not m l (λ t' e. absurd (d e)) (λ t' e. let no : true ≡ false = sym t ∙ t' in absurd (cc no)))
      (λ t. let rest = count-without s l w t in omega (arith, rest)))

  -- a lock of a set is counted
  pub count_has : (s : Locks) (l w : ℕ) → has s l ≡ true → entity l ≡ Some (lock w) → 0 < count entity s w
  count_has s l w h e =
      let is : truth (is_word (entity l) w) ≡ 1 = ap (λ it. truth (is_word it w)) e ∙ ap truth (word_here w) in
      omega (arith, count-without s l w h, is)

  -- what is counted is a lock of the set
  pub count_some : (s : Locks) (w : ℕ) → 0 < count entity s w → (l : ℕ) × (has s l ≡ true) × (entity l ≡ Some (lock w))
  count_some [] w u = absurd (omega (arith, u))
  count_some (m ∷ s) w u =
      tell (is_word (entity m) w)
      (λ t. (m, same_or_not m m (λ c e. ap (λ b. (b || has s m)) c) (λ c e. absurd (e refl)), word_is (entity m) w t))
      (λ t. let none : truth (is_word (entity m) w) ≡ 0 = ap truth t in
      let r = count_some s w (omega (arith, u, none)) in
      (r.0, same_or_not m r.0 (λ c e. ap (λ b. (b || has s r.0)) c) (λ c e. ap (λ b. (b || has s r.0)) c ∙ r.1), r.2))

  -- where one lock at most has the word, it is counted once
  pub count_once : (n : ℕ) (s : Locks) (w : ℕ) → IsAscendingFrom n s →
      ((l m : ℕ) → has s l ≡ true → has s m ≡ true → entity l ≡ Some (lock w) → entity m ≡ Some (lock w) → l ≡ m) →
      count entity s w ≤ 1
  count_once n [] w h f = omega arith
  count_once n (m ∷ s) w h f =
      tell (is_word (entity m) w)
      (λ t. same_or_not (count entity s w) 0
      (λ c e. let is : truth (is_word (entity m) w) ≡ 1 = ap truth t in omega (arith, is, e))
      (λ c e. let r = count_some s w (omega (arith, e)) in
      let here : has (m ∷ s) m ≡ true = same_or_not m m (λ c e. ap (λ b. (b || has s m)) c) (λ c e. absurd (e refl)) in
      let there : has (m ∷ s) r.0 ≡ true = same_or_not m r.0 (λ c e. ap (λ b. (b || has s r.0)) c)
      (λ c e. ap (λ b. (b || has s r.0)) c ∙ r.1) in
      let again : m ≡ r.0 = f m r.0 here there (word_is (entity m) w t) r.2 in
      let out : has s r.0 ≡ false = not_before (suc m) s r.0 h.1 (omega (arith, again)) in
      let no : true ≡ false = sym r.1 ∙ out in absurd (cc no)))
      (λ t. let none : truth (is_word (entity m) w) ≡ 0 = ap truth t in
      let rest = count_once (suc m) s w h.1 (λ k j a b. f k j (behind k a) (behind j b)) in
      omega (arith, rest, none))
    where
      behind : (k : ℕ) → has s k ≡ true → has (m ∷ s) k ≡ true
      behind k a = same_or_not m k (λ c e. ap (λ b. (b || has s k)) c) (λ c e. ap (λ b. (b || has s k)) c ∙ a)
