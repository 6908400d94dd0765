-- Functions by their parts.
use Rattle.std.proofs.Common.{◌≡◌, ℕ, zero, suc, ◌+◌, List, [], ◌∷◌, ◌++◌, refl, ap, sym, ◌∙◌, arith}
use Rattle.cas_mid.specs.declared.tree.AddressOf.{AddressOf}
use Rattle.cas_mid.specs.declared.tree.Address.{Address}
use Rattle.cas_mid.specs.declared.tree.Expr.{Expr}
use Rattle.cas_mid.specs.declared.tree.Stmt.{Stmt}
use Rattle.cas_mid.specs.Code.{csharp_list, csharp_statement}
use Rattle.cas_mid.specs.Trees.{one_more, store, to_pointer, own, temporary}
use Rattle.cas_cshmgen.specs.Makes.{Csharps, stored_arguments}
use Rattle.cas_cshmgen.proofs.Statements.{list_after}

abbrev Code : Type 0
Code = Stmt (Expr AddressOf) (Address AddressOf) (Expr AddressOf)

-- one argument more is stored
stored_more : (k n : ℕ) (rest : Csharps) → stored_arguments k (n + 1) rest ≡ stored_arguments k n
    (one_more (store (to_pointer (own (k + n))) (temporary (k + n))) rest)
stored_more k zero rest = let same : k ≡ k + 0 = omega arith in
    ap (λ i. one_more (store (to_pointer (own i)) (temporary i)) rest) same
stored_more k (suc n) rest =
    let same : k + 1 + n ≡ k + suc n = omega arith in
    let count : suc n + 1 ≡ suc (n + 1) = omega arith in
    ap (λ i. stored_arguments k i rest) count
    ∙ ap (one_more (store (to_pointer (own k)) (temporary k)))
    (stored_more (k + 1) n rest
    ∙ ap (λ i. stored_arguments (k + 1) n (one_more (store (to_pointer (own i)) (temporary i)) rest)) same)

pub one_stored : (all more : List Code) (a : Code) (n : ℕ) → more ≡ all ++ a ∷ [] →
    csharp_statement a ≡ store (to_pointer (own n)) (temporary n) →
    ((rest : Csharps) → csharp_list all rest ≡ stored_arguments 0 n rest) → (rest : Csharps) →
    csharp_list more rest ≡ stored_arguments 0 (n + 1) rest
one_stored all more a n same is before rest =
    ap (λ xs. csharp_list xs rest) same ∙ list_after all (a ∷ []) rest ∙ before (one_more (csharp_statement a) rest)
    ∙ ap (λ s. stored_arguments 0 n (one_more s rest)) is
    ∙ sym (let here : 0 + n ≡ n = omega arith in stored_more 0 n rest
    ∙ ap (λ i. stored_arguments 0 n (one_more (store (to_pointer (own i)) (temporary i)) rest)) here)

pub none_stored : (rest : Csharps) → rest ≡ stored_arguments 0 0 rest
none_stored rest = refl
