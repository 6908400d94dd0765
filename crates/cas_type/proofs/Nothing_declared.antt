-- Statements without parts declare nothing.
use Rattle.std.proofs.Common.{◌≡◌, List, [], ◌++◌, ◌+◌, sym, refl, ap, ◌∙◌, arith}
use Rattle.std.proofs.lemmas.List.{append-nil}
use Rattle.cas_base.specs.declared.kind.Ty.{Ty}
use Rattle.cas_syntax.specs.Tree.{StmtTree, skip, declare, assign, call, block, if_, while_, do_, for_, break_, continue_, return_, lock, unlock, print}
use Rattle.cas_type.specs.Rows.{IsPlain}
use Rattle.cas_typed.specs.Scopes.{Scope, after, locals_of}

none_declared : (a : StmtTree) → IsPlain a → locals_of a ≡ []
none_declared (skip p) h = refl
none_declared (declare p ty x a) h = absurd h
none_declared (assign p t op a) h = refl
none_declared (call p x f args) h = refl
none_declared (block p bs) h = absurd h
none_declared (if_ p c a b) h = absurd h
none_declared (while_ p c a) h = absurd h
none_declared (do_ p a c) h = absurd h
none_declared (for_ p i c u a) h = absurd h
none_declared (break_ p) h = refl
none_declared (continue_ p) h = refl
none_declared (return_ p a) h = refl
none_declared (lock p x) h = refl
none_declared (unlock p x) h = refl
none_declared (print p a) h = refl

pub plain_locals : (a : StmtTree) (old new : List Ty) → IsPlain a → new ≡ old → new ≡ old ++ locals_of a
plain_locals a old new h same = same ∙ sym (append-nil old) ∙ ap (λ tys. old ++ tys) (sym (none_declared a h))

counted : (s : Scope) → s ≡ record s { count = s.count + 0 }
counted s = let is : s.count ≡ s.count + 0 = omega arith in ap (λ n. record s { count = n }) is

pub plain_scope : (s : Scope) (a : StmtTree) → IsPlain a → s ≡ after s a
plain_scope s (skip p) h = counted s
plain_scope s (declare p ty x a) h = absurd h
plain_scope s (assign p t op a) h = counted s
plain_scope s (call p x f args) h = counted s
plain_scope s (block p bs) h = absurd h
plain_scope s (if_ p c a b) h = absurd h
plain_scope s (while_ p c a) h = absurd h
plain_scope s (do_ p a c) h = absurd h
plain_scope s (for_ p i c u a) h = absurd h
plain_scope s (break_ p) h = counted s
plain_scope s (continue_ p) h = counted s
plain_scope s (return_ p a) h = counted s
plain_scope s (lock p x) h = counted s
plain_scope s (unlock p x) h = counted s
plain_scope s (print p a) h = counted s
