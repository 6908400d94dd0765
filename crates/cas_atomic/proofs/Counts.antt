-- How many threads are refused, and what the flags tell.
use Rattle.std.proofs.Common.{◌≡◌, ℕ, zero, suc, ◌≤◌, ◌<◌, nat_eq, nat_le, Bool, true, false, ◌&&◌, ◌||◌, sym, refl, ap, ◌∙◌, subst, inl, inr, arith}
use Rattle.std.proofs.lemmas.Bool.Decides.{eqb_tells, leb_tells}
use Rattle.cas_base.specs.Word.{word_sub}
use Rattle.cas_asm.specs.Flags.{fits_signed, differ}
use Rattle.cas_atomic.specs.Leftover.{Leftover, IsMinus, after_decrement, after_compare, less_or_equal}
use Rattle.std.specs.Int.{cast_signed}
use Rattle.std.specs.Prelude.{◌-ℤ◌, not}
use mir.Syntax.{w32}
use Rattle.std.proofs.lemmas.Int.{ints}
use Rattle.cas_atomic.specs.Buffer.{put}
use Rattle.cas_atomic.specs.Buffered.{Inside, Thread}
use Rattle.cas_atomic.specs.Table.{refused_at, is_refused, one, count, refusals}
use Rattle.cas_atomic.proofs.Basic.{same_or_not, put_here, put_else, each_put}
use Rattle.cas_atomic.proofs.Own.{minus_low}

count_same : (f g : ℕ → Bool) (n : ℕ) → ((j : ℕ) → g j ≡ f j) → count g n ≡ count f n
count_same f g zero h = refl
count_same f g (suc n) h = let a = ap one (h n) in let b = count_same f g n h in omega arith

count_below : (f g : ℕ → Bool) (i n : ℕ) → n ≤ i → ((j : ℕ) → (j ≡ i → ⊥) → g j ≡ f j) → count g n ≡ count f n
count_below f g i zero less h = refl
count_below f g i (suc n) less h = let a = ap one (h n (λ e. omega arith)) in let b =
    count_below f g i n (omega arith) h in omega arith

-- one more is such
count_more : (f g : ℕ → Bool) (i n : ℕ) → i < n → f i ≡ false → g i ≡ true → ((j : ℕ) → (j ≡ i → ⊥) → g j ≡ f j) →
    count g n ≡ suc (count f n)
count_more f g i zero less no_ yes_ h = absurd (omega arith)
count_more f g i (suc n) less no_ yes_ h = elim (same_or_not n i) [
  | inl e ↦
      let a : one (f n) ≡ 0 = ap one (ap f e ∙ no_) in
      let b : one (g n) ≡ 1 = ap one (ap g e ∙ yes_) in
      let c = count_below f g i n (omega arith) h in
      omega arith
  | inr d ↦ let a = ap one (h n d) in let b = count_more f g i n (omega arith) no_ yes_ h in omega arith
]

one_most : (b : Bool) → one b ≤ 1
one_most true = omega arith
one_most false = omega arith

count_most : (f : ℕ → Bool) (n : ℕ) → count f n ≤ n
count_most f zero = omega arith
count_most f (suc n) = let a = one_most (f n) in let b = count_most f n in omega arith

count_room : (f : ℕ → Bool) (i n : ℕ) → i < n → f i ≡ false → count f n < n
count_room f i zero less no_ = absurd (omega arith)
count_room f i (suc n) less no_ = elim (same_or_not n i) [
  | inl e ↦ let a : one (f n) ≡ 0 = ap one (ap f e ∙ no_) in let b = count_most f n in omega arith
  | inr d ↦ let a = one_most (f n) in let b = count_room f i n (omega arith) no_ in omega arith
]

module _ {X : Type 0} (n lock : ℕ) (threads : ℕ → Thread X) (i : ℕ) where
  others_same : (c : Thread X) (j : ℕ) → (j ≡ i → ⊥) →
      is_refused lock (put i c threads j).at ≡ is_refused lock (threads j).at
  others_same c j d = ap (λ (k : Thread X). is_refused lock k.at) (put_else i c threads j d)

  own_now : (c : Thread X) → is_refused lock (put i c threads i).at ≡ is_refused lock c.at
  own_now c = ap (λ (k : Thread X). is_refused lock k.at) (put_here i c threads i refl)

  pub refusals_kept : (c : Thread X) → is_refused lock c.at ≡ is_refused lock (threads i).at →
      refusals n lock (put i c threads) ≡ refusals n lock threads
  refusals_kept c e = count_same (λ j. is_refused lock (threads j).at) (λ j. is_refused lock (put i c threads j).at) n
      (each_put (λ j k. is_refused lock k.at ≡ is_refused lock (threads j).at) i c threads e (λ j d. refl))

  pub refusals_more : (c : Thread X) → i < n → is_refused lock (threads i).at ≡ false → is_refused lock c.at ≡ true →
      refusals n lock (put i c threads) ≡ suc (refusals n lock threads)
  refusals_more c less no_ yes_ = count_more (λ j. is_refused lock (threads j).at)
      (λ j. is_refused lock (put i c threads j).at) i n less no_ (own_now c ∙ yes_) (others_same c)

  pub refusals_room : i < n → is_refused lock (threads i).at ≡ false → refusals n lock threads < n
  refusals_room less no_ = count_room (λ j. is_refused lock (threads j).at) i n less no_

pub refusals_most : {X : Type 0} (n lock : ℕ) (threads : ℕ → Thread X) → refusals n lock threads ≤ n
refusals_most n lock threads = count_most (λ j. is_refused lock (threads j).at) n

-- at another lock a thread in the lock object isn't refused
pub refused_else : {X : Type 0} (lock place : ℕ) (f : Leftover) (l : ℕ) (k : Leftover → X) → (l ≡ lock → ⊥) →
    is_refused lock (Inside place f l k) ≡ false
refused_else lock place f l k d = elim (eqb_tells l lock)
    [ inl h ↦ absurd (d h.1) | inr h ↦ ap (λ (t : Bool). t && refused_at place f) h.0 ]

pub refused_here : {X : Type 0} (lock place : ℕ) (f : Leftover) (l : ℕ) (k : Leftover → X) → l ≡ lock →
    is_refused lock (Inside place f l k) ≡ refused_at place f
refused_here lock place f l k e = elim (eqb_tells l lock)
    [ inl h ↦ ap (λ (t : Bool). t && refused_at place f) h.0 | inr h ↦ absurd (h.1 e) ]

-- from one place to another, refused at both or at none
pub refused_alike : {X : Type 0} (lock place place' : ℕ) (f f' : Leftover) (l : ℕ) (k : Leftover → X) →
    refused_at place' f' ≡ refused_at place f → is_refused lock (Inside place' f' l k) ≡ is_refused lock
    (Inside place f l k)
refused_alike lock place place' f f' l k e = ap (λ (t : Bool). nat_eq l lock && t) e

pub never_refused : {X : Type 0} (lock place : ℕ) (f : Leftover) (l : ℕ) (k : Leftover → X) →
    refused_at place f ≡ false →
    is_refused lock (Inside place f l k) ≡ false
never_refused lock place f l k e = by (nat_eq l lock) (refused_at place f) e
  where
    by : (a b : Bool) → b ≡ false → (a && b) ≡ false
    by true b h = h
    by false b h = refl

-- after a refused decrement the sign is set
pub sign_of : (f : Leftover) (v : ℕ) → 2147483648 ≤ v → (after_decrement f v).flags.sign ≡ true
sign_of f v h = elim (leb_tells 2147483648 v) [ inl t ↦ t.0 | inr t ↦ let z = t.1 in absurd (omega arith) ]

-- a word of 2^31 or more has the sign, and minus 0 doesn't overflow
no_overflow : (w : ℕ) → 2147483648 ≤ w → w < 4294967296 → fits_signed (cast_signed w32 w -ℤ cast_signed w32 0) ≡ true
no_overflow w up small = grind (arith, ints)

less_by_sign : (f : Leftover) (w : ℕ) → 2147483648 ≤ w → w < 4294967296 → less_or_equal (after_compare f w) ≡ true
less_by_sign f w up small = by (nat_eq (word_sub w 0) 0) (nat_le 2147483648 (word_sub w 0))
    (fits_signed (cast_signed w32 w -ℤ cast_signed w32 0)) signed (no_overflow w up small)
  where
    same : word_sub w 0 ≡ w
    same = omega arith

    signed : nat_le 2147483648 (word_sub w 0) ≡ true
    signed = elim (leb_tells 2147483648 (word_sub w 0))
        [ inl h ↦ h.0 | inr h ↦ let z = h.1 in let q = same in absurd (omega arith) ]

    by : (z n o : Bool) → n ≡ true → o ≡ true → (z || differ n (not o)) ≡ true
    by true n o e q = refl
    by false true true e q = refl
    by false true false e q = absurd (cc q)
    by false false o e q = absurd (cc e)

less_by_zero : (f : Leftover) (w : ℕ) → w ≡ 0 → less_or_equal (after_compare f w) ≡ true
less_by_zero f w e = subst (λ (n : ℕ). less_or_equal (after_compare f n) ≡ true) (sym e) refl

-- a word that is minus a number of refused threads isn't positive
pub minus_le : (f : Leftover) (r w : ℕ) → r ≤ 2147483648 → IsMinus r w → less_or_equal (after_compare f w) ≡ true
minus_le f r w few m = elim (minus_low r w few m) [
  | inl z ↦ less_by_zero f w z
  | inr up ↦ let b = m.is in less_by_sign f w up (omega arith)
]
