-- Marks of numbers, and locals with their marks.
use Rattle.std.proofs.Common.{◌≡◌, ◌<◌, ◌≤◌, ℕ, zero, suc, ◌+◌, ◌-◌, ◌==◌, Bool, true, false, ◌||◌, List, [], ◌∷◌, ◌++◌, append_assoc, length-append, length, replicate, refl, ap, sym, ◌∙◌, arith}
use Rattle.std.specs.List.{list_any}
use Rattle.std.specs.Prelude.{set}
use Rattle.cas_base.specs.Ty.{words_of_ty}
use Rattle.cas_base.specs.declared.kind.Ty.{Ty}
use Rattle.cas_type.specs.Parts.{marks_of, marked, marked_locals}
use Rattle.cas_typed.specs.Modules.{locals_in}
use Rattle.cas_typed.specs.Resolved.{TypedStmtList, list_makes_pointer}

-- each of these numbers is marked
abbrev pub marked_all : List ℕ → List Bool → List Bool
marked_all [] bs = bs
marked_all (m ∷ ms) bs = marked_all ms (marked m 0 bs)

-- what holds of so many numbers, from this one on
abbrev shown : (ℕ → Bool) → (number count : ℕ) → List Bool
shown f n zero = []
shown f n (suc k) = f n ∷ shown f (n + 1) k

shown_same : (f g : ℕ → Bool) (n k : ℕ) → ((j : ℕ) → f j ≡ g j) → shown f n k ≡ shown g n k
shown_same f g n zero h = refl
shown_same f g n (suc k) h = λ i. h n i ∷ shown_same f g (n + 1) k h i

shown_marked : (f : ℕ → Bool) (m n k : ℕ) → marked m n (shown f n k) ≡ shown (λ j. f j || (m == j)) n k
shown_marked f m n zero = refl
shown_marked f m n (suc k) = ap (λ bs. (f n || (m == n)) ∷ bs) (shown_marked f m (n + 1) k)

or_assoc : (a b c : Bool) → ((a || b) || c) ≡ (a || (b || c))
or_assoc true b c = refl
or_assoc false b c = refl

or_false : (a : Bool) → (a || false) ≡ a
or_false true = refl
or_false false = refl

shown_all : (ms : List ℕ) (f : ℕ → Bool) (k : ℕ) → marked_all ms (shown f 0 k) ≡ shown
    (λ j. f j || list_any (λ m. m == j) ms) 0 k
shown_all [] f k = shown_same f (λ j. f j || false) 0 k (λ j. sym (or_false (f j)))
shown_all (m ∷ ms) f k =
    ap (marked_all ms) (shown_marked f m 0 k)
    ∙ shown_all ms (λ j. f j || (m == j)) k
    ∙ shown_same (λ j. (f j || (m == j)) || list_any (λ m. m == j) ms) (λ j. f j || list_any (λ m. m == j) (m ∷ ms)) 0 k
    (λ j. or_assoc (f j) (m == j) (list_any (λ m. m == j) ms))

shown_none : (n k : ℕ) → replicate k false ≡ shown (λ j. false) n k
shown_none n zero = refl
shown_none n (suc k) = ap (λ bs. false ∷ bs) (shown_none (n + 1) k)

shown_marks : (ms : List ℕ) (n k : ℕ) → shown (λ j. list_any (λ m. m == j) ms) n k ≡ marks_of ms n k
shown_marks ms n zero = refl
shown_marks ms n (suc k) = ap (λ bs. list_any (λ m. m == n) ms ∷ bs) (shown_marks ms (n + 1) k)

-- so many numbers, of which these are marked
pub marks_are : (ms : List ℕ) (k : ℕ) → marked_all ms (replicate k false) ≡ marks_of ms 0 k
marks_are ms k = ap (marked_all ms) (shown_none 0 k) ∙ shown_all ms (λ j. false) k ∙ shown_marks ms 0 k

-- locals with the marks of those whose pointers the body makes
pub locals_marked : (bs : TypedStmtList) (ms : List ℕ) (n first : ℕ) (tys : List Ty) →
    ((j : ℕ) → list_any (λ m. m == j) ms ≡ list_makes_pointer j bs)
    → marked_locals (marks_of ms n (length tys)) first tys ≡ locals_in bs n first tys
locals_marked bs ms n first [] h = refl
locals_marked bs ms n first (ty ∷ tys) h =
    λ i. record { ty = ty; first = first; addressed = h n i } ∷ locals_marked bs ms (n + 1) (first + words_of_ty ty)
    tys h i

-- one number

same : (m : ℕ) → (m == m) ≡ true
same m = grind arith

differ : (m n : ℕ) → m < n → (m == n) ≡ false
differ m n h = grind (arith, h)

or_true : (b : Bool) → (b || true) ≡ true
or_true true = refl
or_true false = refl

or_false_too : (b c : Bool) → c ≡ false → (b || c) ≡ b
or_false_too b c h = ap (λ c. b || c) h ∙ or_false b

-- numbers that are past stay as they are
marked_past : (m n : ℕ) (bs : List Bool) → m < n → marked m n bs ≡ bs
marked_past m n [] h = refl
marked_past m n (b ∷ bs) h = λ i. or_false_too b (m == n) (differ m n h) i ∷ marked_past m (n + 1) bs (omega arith) i

differ_before : (m n : ℕ) → n < m → (m == n) ≡ false
differ_before m n h = grind (arith, h)

-- so do those that are after the last
marked_behind : (m n : ℕ) (bs : List Bool) → n + length bs ≤ m → bs ≡ marked m n bs
marked_behind m n [] h = refl
marked_behind m n (b ∷ bs) h =
    λ i. sym (or_false_too b (m == n) (differ_before m n (omega arith))) i ∷ marked_behind m (n + 1) bs (omega arith) i

marked_here : (m n : ℕ) (bs : List Bool) (k : ℕ) → k < length bs → m ≡ n + k → set bs k true ≡ marked m n bs
marked_here m n [] k h e = absurd (omega arith)
marked_here m n (b ∷ bs) zero h e =
    let here : m ≡ n = omega arith in
    λ i. sym (ap (λ c. b || c) (ap (λ x. x == n) here ∙ same n) ∙ or_true b) i ∷ sym
    (marked_past m (n + 1) bs (omega arith)) i
marked_here m n (b ∷ bs) (suc k) h e =
    λ i. sym (or_false_too b (m == n) (differ_before m n (omega arith))) i ∷ marked_here m (n + 1) bs k (omega arith)
    (omega arith) i

-- a number among those that are there is marked
pub marked_there : (m : ℕ) (bs : List Bool) → m < length bs → set bs m true ≡ marked m 0 bs
marked_there m bs h = marked_here m 0 bs m h (omega arith)

pub marked_away : (m : ℕ) (bs : List Bool) → length bs ≤ m → bs ≡ marked m 0 bs
marked_away m bs h = marked_behind m 0 bs (omega arith)

-- one more of those that are missing
pub filled_step : {A : Type 0} (x : A) (xs : List A) (count : ℕ) → length xs < count
    → (xs ++ x ∷ []) ++ replicate (count - length (xs ++ x ∷ [])) x ≡ xs ++ replicate (count - length xs) x
filled_step x xs count h =
    let n : count - length xs ≡ suc (count - length (xs ++ x ∷ [])) = let e =
    length-append xs (x ∷ []) in omega (arith, e) in
    append_assoc xs (x ∷ []) (replicate (count - length (xs ++ x ∷ [])) x) ∙ ap (λ k. xs ++ replicate k x) (sym n)
