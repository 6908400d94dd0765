-- A sum of literals evaluates to the word that its code leaves in the register.
use Rattle.std.proofs.Common.{◌≡◌, ℕ, List, [], ◌∷◌, ◌++◌, length, Some, None, slice_get, refl, sym, ap, subst, append_assoc}
use Rattle.std.proofs.lemmas.List.{length_push}
use Rattle.cas_base.specs.Word.{word_add}
use Rattle.cas_syntax.specs.Tree.{ExprTree, literal, binary}
use Rattle.cas_syntax.specs.declared.tree.BinaryOperator.TheVariants.{Add}
use Rattle.cas_typed.specs.Resolved as t
use Rattle.cas_typed.specs.Resolved.{TypedExprTree}
use Rattle.cas_typed.specs.declared.tree.Signedness.TheVariants.{Signed}
use Rattle.cas_step.specs.Asks.{Value, word, Asks, gives, and_then, word_in}
use Rattle.cas_step.specs.Evaluate.{EvalContext, a_word, value_of}
use Rattle.cas_step.specs.Operators.{binary_result}
use Rattle.cas_step.specs.Step.{Object}
use Rattle.cas_top.specs.Machine.{State, executed, Runs, steps, start, IsExprCode, loads, adds}
use Rattle.cas_top.specs.declared.machine.Instr.{Instr}
use Rattle.cas_top.specs.declared.machine.Instr.TheVariants.{AddEax}

-- the element behind a list
pub slice_get-append_seam : {A : Type 0} (xs : List A) (x : A) (ys : List A) →
    slice_get (xs ++ x ∷ ys) (length xs) ≡ Some x
slice_get-append_seam [] x ys = refl
slice_get-append_seam (y ∷ xs) x ys = slice_get-append_seam xs x ys

-- after the first instructions of the code, with this word in the register and no output
abbrev pub behind : List Instr → ℕ → State
behind code n = record { thread = 0; place = length code; eax = n; end = None; out = [] }

-- the code leaves this word in the register, whatever comes behind it
abbrev pub Leaves : List Instr → ℕ → Type 0
Leaves code n = (rest : List Instr) (t : State) → Runs (code ++ rest) (behind code n) t →
    Runs (code ++ rest) (start 0) t

-- code that leaves a word leaves the sum of it and a number, with `add eax` of that number behind
leaves_sum : (code : List Instr) (m n : ℕ) → Leaves code m → Leaves (code ++ AddEax n ∷ []) (word_add m n)
leaves_sum code m n leaves rest t run =
    let whole : (code ++ AddEax n ∷ []) ++ rest ≡ code ++ (AddEax n ∷ rest) = append_assoc code (AddEax n ∷ []) rest in
    let P : List Instr → Type 0 = λ c. Runs c (start 0) t in
    let Q : List Instr → Type 0 = λ c. Runs c (behind (code ++ AddEax n ∷ []) (word_add m n)) t in
    let from_sum : Q (code ++ (AddEax n ∷ rest)) = subst Q whole run in
    let at_sum : executed (slice_get (code ++ (AddEax n ∷ rest)) (length code)) (behind code m) ≡ behind
    (code ++ AddEax n ∷ []) (word_add m n) =
    rw (slice_get-append_seam code (AddEax n) rest, length_push code (AddEax n)) refl in
    let S : State → Type 0 = λ s. Runs (code ++ (AddEax n ∷ rest)) s t in
    subst P (sym whole) (leaves (AddEax n ∷ rest) t (steps (behind code m) t refl (subst S (sym at_sum) from_sum)))

-- what a sum of literals is resolved to
abbrev pub typed_sum : ExprTree → TypedExprTree
typed_sum (literal n k) = t.literal n
typed_sum (binary op a b) = t.binary op Signed (typed_sum a) (typed_sum b)
typed_sum _ = t.null

-- the sum of what an expression gives and a number
abbrev with_number : ℕ → Asks Object (Value Object) → Asks Object (Value Object)
with_number n x =
    and_then x
    (λ u. and_then (gives (word n))
    (λ v. and_then (word_in u) (λ a. and_then (word_in v) (λ b. a_word (binary_result Add Signed a b)))))

-- a sum of literals evaluates to the word that its code leaves
pub evaluated : {e : ExprTree} {code : List Instr} → IsExprCode e code →
    (n : ℕ) × ((s : EvalContext Object) → value_of s (typed_sum e) ≡ gives (word n)) × Leaves code n
evaluated (loads n) = (n, λ s. refl, λ rest t run. steps (start 0) t refl run)
evaluated (adds sum code n is_code) =
    let (m, value, leaves) =
    evaluated is_code in (word_add m n, λ s. ap (with_number n) (value s), leaves_sum code m n leaves)
