-- The functions that a formed module's declarations define are its resolved functions.
use Rattle.std.proofs.Common.{◌≡◌, ℕ, zero, suc, ◌<◌, List, [], ◌∷◌, length, map, take, Some, refl, sym, ap, subst, ◌∙◌, arith}
use Rattle.std.specs.Prelude.{slice_get}
use Rattle.std.proofs.Math.Seq.{take-append_seam}
use Rattle.std.proofs.lemmas.Option.{slice_get_within}
use Rattle.cas_base.specs.Decl.{functions_of}
use Rattle.cas_base.specs.declared.decl.Decl.{Decl}
use Rattle.cas_syntax.specs.Tree.{FunTree, ModuleTree}
use Rattle.cas_typed.specs.Bodies.{bodies_of, IsOf, HasBodies, IsDefined}
use Rattle.cas_typed.specs.Counts.{parameter_types}
use Rattle.cas_typed.specs.Formed.{IsFormed}
use Rattle.cas_typed.specs.Modules.{IsTyped, decls_of}
use Rattle.cas_typed.specs.Resolved.{TypedFunTree, TypedModuleTree}
use Rattle.cas_typed.specs.Scopes.{locals_of_list}
use Rattle.cas_typed.proofs.Bodied.{IsTyped-bodies}
use Rattle.cas_typed.proofs.Kept_words.{IsTyped-formed, IsFormed-defines}

there : {A : Type 0} (xs : List A) (n : ℕ) → n < length xs → (x : A) × (slice_get xs n ≡ Some x)
there [] n h = absurd (omega arith)
there (x ∷ xs) zero h = (x, refl)
there (x ∷ xs) (suc n) h = there xs n (omega arith)

-- the body whose declaration has this number among those of bodies
body_there : (fs : List FunTree) (n : ℕ) (d : Decl) → slice_get (map (λ f. f.decl) fs) n ≡ Some d → (f : FunTree)
    × (slice_get fs n ≡ Some f) × (f.decl ≡ d)
body_there [] n d h = cc
body_there (f ∷ fs) zero d h = (f, refl, cc)
body_there (f ∷ fs) (suc n) d h = body_there fs n d h

defined_of : (r : TypedModuleTree) (n : ℕ) (d : Decl) (f : FunTree) (it : TypedFunTree) →
    slice_get r.functions n ≡ Some it → f.decl ≡ d → IsOf r.module_tree.items f it → IsDefined r n d
defined_of r n d f it at e is = record {
  it = it;
  tree = f;
  function = at;
  is_of = is;
  decl = e;
  parameters = subst (λ c. take (length (parameter_types c.form)) (map (λ v. v.ty) it.locals) ≡ parameter_types c.form)
      e
      (ap (λ tys. take (length (parameter_types f.decl.form)) tys) is.locals
      ∙ take-append_seam (parameter_types f.decl.form) (locals_of_list f.body));
}

body_defined : (r : TypedModuleTree) (n : ℕ) (d : Decl) (f : FunTree) → HasBodies r →
    slice_get (bodies_of r.module_tree.items) n ≡ Some f → f.decl ≡ d → IsDefined r n d
body_defined r n d f h at e =
    found (there r.functions n (subst (λ k. n < k) (sym h.count)
    (slice_get_within (bodies_of r.module_tree.items) n f at)))
  where
    found : (it : TypedFunTree) × (slice_get r.functions n ≡ Some it) → IsDefined r n d
    found (it, is) = same (h.each n it is)
      where
        same : (g : FunTree) × (slice_get (bodies_of r.module_tree.items) n ≡ Some g) × IsOf r.module_tree.items g it →
            IsDefined r n d
        same (g, at_g, of_g) = defined_of r n d f it is e (subst (λ x. IsOf r.module_tree.items x it) (cc) of_g)

pub IsTyped-defined : (m : ModuleTree) (r : TypedModuleTree) (n : ℕ) (d : Decl) → IsFormed m → IsTyped m r →
    slice_get (functions_of (decls_of r)) n ≡ Some d → IsDefined r n d
IsTyped-defined m r n d w h at =
    found (body_there (bodies_of r.module_tree.items) n d
    (sym (ap (λ ds. slice_get ds n) (IsFormed-defines r.module_tree (IsTyped-formed m r w h))) ∙ at))
  where
    found : (f : FunTree) × (slice_get (bodies_of r.module_tree.items) n ≡ Some f) × (f.decl ≡ d) → IsDefined r n d
    found (f, at_f, e) = body_defined r n d f (IsTyped-bodies m r h) at_f e
