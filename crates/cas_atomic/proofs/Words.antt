-- The words that a lock guards.
use Rattle.std.proofs.Common.{◌≡◌, ℕ, zero, suc, ◌+◌, nat_eq, Bool, true, false, List, [], ◌∷◌, Option, Some, None, slice_get, length, if◌then◌else◌, sym, refl, ap, ◌∙◌, subst, ⊎_elim, inl, inr, ◌⊎◌, arith}
use Rattle.std.proofs.lemmas.Bool.Decides.{eqb_tells}
use Rattle.cas_atomic.proofs.Inner.{with_values}
use Rattle.cas_runs.specs.Legal.{initial_words, value_if_guarded}
use Rattle.cas_atomic.specs.Cells.{first_value, first_words, IsLock, IsUnder, and_word, under, values}
use Rattle.cas_base.specs.declared.kind.Kind.{Kind}
use Rattle.cas_runs.specs.Edge.{Cell, LockWord, SharedWord, TableWord}
use Rattle.cas_atomic.proofs.Basic.{if_same, if_not, same_or_not}

pub data In (w : ℕ) : List ℕ → Type 0 where
  first : (ns : List ℕ) → In w (w ∷ ns)
  later : (n : ℕ) (ns : List ℕ) → In w ns → In w (n ∷ ns)

pub in_front : (w n : ℕ) (ns : List ℕ) → In w (n ∷ ns) → (w ≡ n) ⊎ In w ns
in_front w n ns (first _) = inl refl
in_front w n ns (later _ _ m) = inr m

-- what is in the list is a word of these cells that the lock guards
pub record IsFound (cs : List Cell) (k lock w : ℕ) : Type 0 where
  pub place : ℕ
  pub kind : Kind
  pub initial : ℕ
  pub at : w ≡ k + place
  pub is : slice_get cs place ≡ Some (SharedWord kind (Some lock) initial)

found_later : (c : Cell) (cs : List Cell) (k lock w : ℕ) → IsFound cs (suc k) lock w → IsFound (c ∷ cs) k lock w
found_later c cs k lock w f = let e =
    f.at in record { place = suc f.place; kind = f.kind; initial = f.initial; at = omega arith; is = f.is }

pub found_all : (cs : List Cell) (k lock w : ℕ) → In w (under cs k lock) → IsFound cs k lock w
found_all [] k lock w m = elim m [ ]
found_all (LockWord ∷ cs) k lock w m = found_later LockWord cs k lock w (found_all cs (suc k) lock w m)
found_all (TableWord v ∷ cs) k lock w m = found_later (TableWord v) cs k lock w (found_all cs (suc k) lock w m)
found_all (SharedWord kind None v ∷ cs) k lock w m = found_later (SharedWord kind None v) cs k lock w
    (found_all cs (suc k) lock w m)
found_all (SharedWord kind (Some g) v ∷ cs) k lock w m = by (eqb_tells g lock) (found_all cs (suc k) lock w) m
  where
    head : (g ≡ lock) → (w ≡ k) ⊎ In w (under cs (suc k) lock) →
        (In w (under cs (suc k) lock) → IsFound cs (suc k) lock w) → IsFound (SharedWord kind (Some g) v ∷ cs) k lock w
    head e (inl s) more =
        record {
          place = 0;
          kind = kind;
          initial = v;
          at = omega arith;
          is = ap (λ (l : ℕ). Some (SharedWord kind (Some l) v)) e;
        }
    head e (inr m) more = found_later (SharedWord kind (Some g) v) cs k lock w (more m)

    by : ((nat_eq g lock ≡ true) × (g ≡ lock)) ⊎ ((nat_eq g lock ≡ false) × (g ≡ lock → ⊥)) →
        (In w (under cs (suc k) lock) → IsFound cs (suc k) lock w) →
        In w (if nat_eq g lock then k ∷ under cs (suc k) lock else under cs (suc k) lock) →
        IsFound (SharedWord kind (Some g) v ∷ cs) k lock w
    by (inl h) more n =
        head h.1 (in_front w k (under cs (suc k) lock)
        (subst (λ (ns : List ℕ). In w ns)
        (ap (λ (t : Bool). if t then k ∷ under cs (suc k) lock else under cs (suc k) lock) h.0) n)) more
    by (inr h) more n = found_later (SharedWord kind (Some g) v) cs k lock w
        (more (subst (λ (ns : List ℕ). In w ns)
        (ap (λ (t : Bool). if t then k ∷ under cs (suc k) lock else under cs (suc k) lock) h.0) n))

pub under_guarded : (cells : List Cell) (lock w : ℕ) → In w (under cells 0 lock) → IsUnder cells lock w
under_guarded cells lock w m =
    let f = found_all cells 0 lock w m in
    let at : w ≡ 0 + f.place = f.at in
    let e : f.place ≡ w = omega arith in
    record {
      kind = f.kind;
      initial = f.initial;
      is = subst (λ (j : ℕ). slice_get cells j ≡ Some (SharedWord f.kind (Some lock) f.initial))
          e f.is;
    }

in_all : (kind : Kind) (cs : List Cell) (k lock w initial j : ℕ) → w ≡ k + j →
    slice_get cs j ≡ Some (SharedWord kind (Some lock) initial) → In w (under cs k lock)
in_all kind [] k lock w initial j at e = absurd (cc e)
in_all kind (c ∷ cs) k lock w initial zero at e =
    let same : c ≡ SharedWord kind (Some lock) initial = cc e in
    let here : w ≡ k = omega arith in
    subst (λ (d : Cell). In w (and_word lock k d (under cs (suc k) lock))) (sym same)
    (subst (λ (ns : List ℕ). In w ns)
    (sym (if_same lock lock (k ∷ under cs (suc k) lock) (under cs (suc k) lock) refl))
    (subst (λ (n : ℕ). In w (n ∷ under cs (suc k) lock)) here (first (under cs (suc k) lock))))
in_all kind (c ∷ cs) k lock w initial (suc j) at e = grows c (in_all kind cs (suc k) lock w initial j (omega arith) e)
  where
    grows : (c : Cell) → In w (under cs (suc k) lock) → In w (and_word lock k c (under cs (suc k) lock))
    grows LockWord m = m
    grows (TableWord v) m = m
    grows (SharedWord other None v) m = m
    grows (SharedWord other (Some g) v) m = elim (same_or_not g lock) [
      | inl h ↦ subst (λ (ns : List ℕ). In w ns)
          (sym (if_same g lock (k ∷ under cs (suc k) lock) (under cs (suc k) lock) h))
          (later k (under cs (suc k) lock) m)
      | inr h ↦ subst (λ (ns : List ℕ). In w ns)
          (sym (if_not g lock (k ∷ under cs (suc k) lock) (under cs (suc k) lock) h)) m
    ]

pub guarded_in : (cells : List Cell) (lock w : ℕ) → IsUnder cells lock w → In w (under cells 0 lock)
guarded_in cells lock w h = in_all h.kind cells 0 lock w h.initial w (omega arith) h.is

pub values_on : (f g : ℕ → ℕ) (ns : List ℕ) → ((w : ℕ) → In w ns → f w ≡ g w) → values f ns ≡ values g ns
values_on f g [] h = refl
values_on f g (n ∷ ns) h = let here = h n (first ns) in let rest = values_on f g ns (λ w m. h w (later n ns m)) in
    cc (here, rest)

pub values_count : (f : ℕ → ℕ) (ns : List ℕ) → length (values f ns) ≡ length ns
values_count f [] = refl
values_count f (n ∷ ns) = ap suc (values_count f ns)

-- two readings that agree on the words of a lock give the same values
pub same_values : (cells : List Cell) (lock : ℕ) (f g : ℕ → ℕ) → ((w : ℕ) → IsUnder cells lock w → f w ≡ g w) →
    values f (under cells 0 lock) ≡ values g (under cells 0 lock)
same_values cells lock f g h = values_on f g (under cells 0 lock) (λ w m. h w (under_guarded cells lock w m))

values_in : (f old : ℕ → ℕ) (ns : List ℕ) (w : ℕ) → In w ns → with_values ns (values f ns) old w ≡ f w
values_in f old [] w m = elim m [ ]
values_in f old (n ∷ ns) w m = elim (same_or_not w n) [
  | inl e ↦ if_same w n (f n) (with_values ns (values f ns) old w) e ∙ ap f (sym e)
  | inr e ↦ if_not w n (f n) (with_values ns (values f ns) old w) e
      ∙ values_in f old ns w (⊎_elim (λ s. absurd (e s)) (λ k. k) (in_front w n ns m))
]

pub brought : (cells : List Cell) (lock : ℕ) (f old : ℕ → ℕ) (w : ℕ) → IsUnder cells lock w →
    with_values (under cells 0 lock) (values f (under cells 0 lock)) old w ≡ f w
brought cells lock f old w h = values_in f old (under cells 0 lock) w (guarded_in cells lock w h)

values_out : (old : ℕ → ℕ) (ns vs : List ℕ) (w : ℕ) → ((n : ℕ) → In n ns → w ≡ n → ⊥) → with_values ns vs old w ≡ old w
values_out old [] vs w h = refl
values_out old (n ∷ ns) [] w h = refl
values_out old (n ∷ ns) (v ∷ vs) w h = if_not w n v (with_values ns vs old w) (h n (first ns))
    ∙ values_out old ns vs w (λ k m. h k (later n ns m))

-- a word is under one lock alone
pub under_one : (cells : List Cell) (lock other w : ℕ) → IsUnder cells lock w → IsUnder cells other w → lock ≡ other
under_one cells lock other w h k = let a = h.is in let b = k.is in cc (a, b)

pub lock_not_under : (cells : List Cell) (lock other : ℕ) → IsLock cells lock → IsUnder cells other lock → ⊥
lock_not_under cells lock other h k = let a = h.is in let b = k.is in absurd (cc (a, b))

-- the words of other locks stay
pub not_brought : (cells : List Cell) (lock other : ℕ) (vs : List ℕ) (old : ℕ → ℕ) (w : ℕ) → IsUnder cells other w →
    (other ≡ lock → ⊥) → with_values (under cells 0 lock) vs old w ≡ old w
not_brought cells lock other vs old w h d = values_out old (under cells 0 lock) vs w
    (λ n m e. d
    (under_one cells other lock w h
    (under_guarded cells lock w (subst (λ (k : ℕ). In k (under cells 0 lock)) (sym e) m))))

-- what a word is to a lock: its own word, one that it guards, or none of these
pub record IsApart (cells : List Cell) (lock w : ℕ) : Type 0 where
  pub other : w ≡ lock → ⊥
  pub unguarded : IsUnder cells lock w → ⊥

pub sort_of : (cells : List Cell) (lock w : ℕ) → (w ≡ lock) ⊎ (IsUnder cells lock w) ⊎ (IsApart cells lock w)
sort_of cells lock w = elim (same_or_not w lock) [ inl e ↦ inl e | inr n ↦ inr (by (slice_get cells w) refl n) ]
  where
    by : (o : Option Cell) → slice_get cells w ≡ o → (w ≡ lock → ⊥) → (IsUnder cells lock w) ⊎ (IsApart cells lock w)
    by None e n = inr (record { other = n; unguarded = λ h. let a = h.is in absurd (cc (a, e)) })
    by (Some LockWord) e n = inr (record { other = n; unguarded = λ h. let a = h.is in absurd (cc (a, e)) })
    by (Some (TableWord v)) e n = inr (record { other = n; unguarded = λ h. let a = h.is in absurd (cc (a, e)) })
    by (Some (SharedWord kind None v)) e n =
        inr (record { other = n; unguarded = λ h. let a = h.is in absurd (cc (a, e)) })
    by (Some (SharedWord kind (Some g) v)) e n = elim (same_or_not g lock) [
      | inl s ↦ inl
          (record {
            kind = kind;
            initial = v;
            is = subst (λ (l : ℕ). slice_get cells w ≡ Some (SharedWord kind (Some l) v)) s e;
          })
      | inr d ↦ inr (record { other = n; unguarded = λ h. let a = h.is in let same : g ≡ lock = cc (a, e) in d same })
    ]

-- the words that the labels begin with
first_from : (f : ℕ → ℕ) (cs : List Cell) (k lock : ℕ) → ((j : ℕ) → f (k + j) ≡ first_value (slice_get cs j)) →
    initial_words cs lock ≡ values f (under cs k lock)
first_from f [] k lock h = refl
first_from f (c ∷ cs) k lock h = by c (h 0) (first_from f cs (suc k) lock
    (λ j. ap f (omega arith) ∙ h (suc j)))
  where
    by : (c : Cell) → f (k + 0) ≡ first_value (Some c) → initial_words cs lock ≡ values f (under cs (suc k) lock) →
        value_if_guarded lock c (initial_words cs lock) ≡ values f (and_word lock k c (under cs (suc k) lock))
    by LockWord q r = r
    by (TableWord v) q r = r
    by (SharedWord kind None v) q r = r
    by (SharedWord kind (Some g) v) q r = two (nat_eq g lock)
      where
        two : (b : Bool) → (if b then v ∷ initial_words cs lock else initial_words cs lock) ≡
            values f (if b then k ∷ under cs (suc k) lock else under cs (suc k) lock)
        two true = let z : f k ≡ v = ap f (omega arith) ∙ q in cc (z, r)
        two false = r

pub initially : (cells : List Cell) (lock : ℕ) →
    initial_words cells lock ≡ values (first_words cells) (under cells 0 lock)
initially cells lock = first_from (first_words cells) cells 0 lock (λ j. ap (first_words cells) (omega arith))
