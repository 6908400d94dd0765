-- An expression as a condition is true where its value is.
use Rattle.std.proofs.Common.{◌≡◌, ℕ, zero, Bool, true, false, refl, ap}
use Rattle.std.specs.Prelude.{not, nat_eq}
use Rattle.cas_syntax.specs.declared.tree.BinaryOperator.TheVariants as op
use Rattle.cas_step.specs.Operators.{truth, is_true}
use Rattle.cas_runs.specs.Naming.{Value, Number, Pointer, Hidden}
use Rattle.cas_runs.specs.Access.{Accesses}
use Rattle.cas_mid.specs.declared.tree.Binop.TheVariants.{Compare}
use Rattle.cas_mid.specs.Trees.{Expression, word, binop}
use Rattle.cas_mid.specs.Operators.{on_truth, binary, either}
use Rattle.cas_mid.specs.Language.{Frame}
use Rattle.cas_mid.specs.Csharpminor.{value}
use Rattle.cas_cshmgen.specs.Makes.{condition_of, is_null}
use Rattle.cas_cshmgen.proofs.Asked.{fun_ext}

module _ {L : Type 0} (f : Frame) (next : Bool → Accesses L) where
  truth_is : (b : Bool) → b ≡ is_true (truth b)
  truth_is true = refl
  truth_is false = refl

  differs : (n : ℕ) → next (is_true n) ≡ next (is_true (truth (not (nat_eq n 0))))
  differs n = ap next (truth_is (not (nat_eq n 0)))

  -- a value that differs from null is true
  true_value : (u : Value) → on_truth u next ≡ binary (Compare op.Ne) u (Number 0) (λ v. on_truth v next)
  true_value (Number n) = differs n
  true_value (Pointer home p) = refl
  true_value (Hidden what) = refl

  tested : (p q : Expression) → value f (either p (binop (Compare op.Ne) p q) (is_null q)) (λ v. on_truth v next)
      ≡ value f (binop (Compare op.Ne) p q) (λ v. on_truth v next)
  tested p (word zero) = ap (λ k. value f p k) (fun_ext true_value)
  tested p _ = refl

  pub same_condition : (a : Expression) → value f (condition_of a) (λ v. on_truth v next) ≡ value f a
      (λ v. on_truth v next)
  same_condition (binop (Compare op.Ne) p q) = tested p q
  same_condition _ = refl
