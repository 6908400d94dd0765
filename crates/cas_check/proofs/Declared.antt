-- What declarations say of locks, by references to them.
use Rattle.std.proofs.Common.{◌≡◌, List, [], ◌∷◌, map, refl, ap, ◌∙◌}
use Rattle.std.specs.Borrow.{Bor}
use Rattle.cas_base.specs.declared.decl.Decl.{Decl}
use Rattle.cas_base.specs.declared.decl.Form.{Form}
use Rattle.cas_own.specs.Locks.{guard_of_form, holds_of_form}

told_of : {X : Type 0} (f : Form → X) (decls : List (Bor Decl)) →
    map (λ d. f d.now.form) decls ≡ map (λ d. f d.form) (map (λ d. d.now) decls)
told_of f [] = refl
told_of f (d ∷ decls) = ap (λ xs. f d.now.form ∷ xs) (told_of f decls)

pub guards_of : (named : List Decl) (decls : List (Bor Decl)) → map (λ d. d.now) decls ≡ named
    → map (λ d. guard_of_form named d.now.form) decls ≡ map (λ d. guard_of_form named d.form) named
guards_of named decls h = told_of (guard_of_form named) decls ∙ ap (map (λ d. guard_of_form named d.form)) h

pub all_held : (named : List Decl) (decls : List (Bor Decl)) → map (λ d. d.now) decls ≡ named
    → map (λ d. holds_of_form named d.now.form) decls ≡ map (λ d. holds_of_form named d.form) named
all_held named decls h = told_of (holds_of_form named) decls ∙ ap (map (λ d. holds_of_form named d.form)) h
