-- What is counted of the lines of a function and of the globals of an object, after one more.
use Rattle.std.proofs.Common.{◌≡◌, ℕ, suc, ◌+◌, ◌==◌, Bool, true, false, ◌&&◌, ◌||◌, not, List, [], ◌∷◌, ◌++◌, refl, ap, sym, ◌∙◌, arith}
use Rattle.std.specs.List.{list_any}
use Rattle.std.proofs.lemmas.Bool.Decides.{nat_tests}
use Rattle.std.proofs.lemmas.List.Folds.{list_any-append}
use Rattle.cas_asm.specs.declared.instr.Instr.{Instr}
use Rattle.cas_asm.specs.declared.line.Line.{Line}
use Rattle.cas_asm.specs.declared.line.Line.TheVariants.{Label, Run}
use Rattle.cas_object_text.specs.Labels.{sets, is_set, are_distinct}
use Rattle.cas_object.specs.Bodies.{instructions, AreLabelsOf}

or-false : (a : Bool) → (a || false) ≡ a
or-false true = refl
or-false false = refl

-- one more label is set
pub set_label : (lines : List Line) (labels : List ℕ) (m : ℕ) → AreLabelsOf lines labels →
    AreLabelsOf (lines ++ Label m ∷ []) (labels ++ m ∷ [])
set_label lines labels m same n =
    list_any-append (λ label. label == n) labels (m ∷ [])
    ∙ (ap (λ b. b || ((m == n) || false)) (same n)
    ∙ sym (list_any-append (sets n) lines (Label m ∷ [])))

-- an instruction sets none
pub set_instruction : (lines : List Line) (labels : List ℕ) (i : Instr (List ℕ)) → AreLabelsOf lines labels →
    AreLabelsOf (lines ++ Run i ∷ []) labels
set_instruction lines labels i same n =
    same n ∙ (sym (or-false (is_set lines n)) ∙ sym (list_any-append (sets n) lines (Run i ∷ [])))

pub instructions_label : (lines : List Line) (m : ℕ) → instructions (lines ++ Label m ∷ []) ≡ instructions lines
instructions_label [] m = refl
instructions_label (Label n ∷ lines) m = instructions_label lines m
instructions_label (Run i ∷ lines) m = ap suc (instructions_label lines m)

pub instructions_more : (lines : List Line) (i : Instr (List ℕ)) →
    instructions (lines ++ Run i ∷ []) ≡ instructions lines + 1
instructions_more [] i = refl
instructions_more (Label n ∷ lines) i = instructions_more lines i
instructions_more (Run j ∷ lines) i = omega (arith, instructions_more lines i)

other-set : (lines : List Line) (m n : ℕ) → is_set (lines ++ Label m ∷ []) n ≡ (is_set lines n || (m == n))
other-set lines m n = list_any-append (sets n) lines (Label m ∷ [])
    ∙ ap (λ b. is_set lines n || b) (or-false (m == n))

same-set : (lines : List Line) (i : Instr (List ℕ)) (n : ℕ) → is_set (lines ++ Run i ∷ []) n ≡ is_set lines n
same-set lines i n = list_any-append (sets n) lines (Run i ∷ []) ∙ or-false (is_set lines n)

or-first : (a b : Bool) → (a || b) ≡ false → a ≡ false
or-first true b e = absurd cc
or-first false b e = refl

or-second : (a b : Bool) → (a || b) ≡ false → b ≡ false
or-second true b e = absurd cc
or-second false b e = e

and-first : (a b : Bool) → (a && b) ≡ true → a ≡ true
and-first true b e = refl
and-first false b e = absurd cc

and-second : (a b : Bool) → (a && b) ≡ true → b ≡ true
and-second true b e = e
and-second false b e = absurd cc

neither : (a b c : Bool) → not a ≡ true → b ≡ false → c ≡ true → (not (a || b) && c) ≡ true
neither true b c unset back rest = absurd cc
neither false true c unset back rest = absurd cc
neither false false c unset back rest = rest

other-way : (n m : ℕ) → (n == m) ≡ false → (m == n) ≡ false
other-way n m e = grind (arith, nat_tests)

-- a label that wasn't set keeps labels distinct
pub distinct_label : (lines : List Line) (m : ℕ) → is_set lines m ≡ false → are_distinct lines ≡ true →
    are_distinct (lines ++ Label m ∷ []) ≡ true
distinct_label [] m fresh distinct = refl
distinct_label (Label n ∷ lines) m fresh distinct =
    ap (λ b. not b && are_distinct (lines ++ Label m ∷ [])) (other-set lines m n)
    ∙ neither _ _ _ (and-first _ _ distinct) (other-way n m (or-first _ _ fresh))
    (distinct_label lines m (or-second _ _ fresh) (and-second _ _ distinct))
distinct_label (Run j ∷ lines) m fresh distinct = distinct_label lines m fresh distinct

pub distinct_instruction : (lines : List Line) (i : Instr (List ℕ)) →
    are_distinct (lines ++ Run i ∷ []) ≡ are_distinct lines
distinct_instruction [] i = refl
distinct_instruction (Label n ∷ lines) i =
    ap (λ b. not b && are_distinct (lines ++ Run i ∷ [])) (same-set lines i n)
    ∙ ap (λ b. not (is_set lines n) && b) (distinct_instruction lines i)
distinct_instruction (Run j ∷ lines) i = distinct_instruction lines i

eq-turned : (a b : ℕ) → (a == b) ≡ (b == a)
eq-turned a b = grind (arith, nat_tests)

-- a number is in a list, looked for from either side
pub any-turned : (m : ℕ) (ls : List ℕ) → list_any (λ l. l == m) ls ≡ list_any (λ l. m == l) ls
any-turned m [] = refl
any-turned m (l ∷ ls) =
    ap (λ b. (l == m) || b) (any-turned m ls) ∙ ap (λ b. b || list_any (λ l. m == l) ls) (eq-turned l m)
