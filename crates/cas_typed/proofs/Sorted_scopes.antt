-- What names mean is there: locals among a function's locals, and items among a module's.
use Rattle.std.proofs.Common.{◌≡◌, ℕ, zero, suc, ◌+◌, Bool, true, false, if◌then◌else◌, List, [], ◌∷◌, ◌++◌, length, Some, refl, sym, ap, subst, ◌∙◌, arith, append_assoc, length-append}
use Rattle.std.specs.Prelude.{⊤, slice_get}
use Rattle.std.specs.Str.{bytes_eq}
use Rattle.cas_base.specs.Decl.{is_named}
use Rattle.cas_base.specs.declared.decl.Decl.{Decl}
use Rattle.cas_base.specs.declared.decl.Form.{Form}
use Rattle.cas_base.specs.declared.kind.Ty.{Ty}
use Rattle.cas_syntax.specs.declared.tree.Ident.{Ident}
use Rattle.cas_syntax.specs.Tree.{StmtTree, skip, declare, assign, call, block, if_, while_, do_, for_, break_, continue_, return_, lock, unlock, print, StmtOption, absent, present}
use Rattle.cas_typed.specs.Scopes.{Bound, Scope, Meaning, variable, item, item_named, local_named, meaning, declaring, inside, locals_of, locals_of_option, past, past_option, after, after_option}
use Rattle.cas_typed.specs.Sorts.{IsLocal, IsDeclared}

-- from this number on the locals have these types
pub record Segment (vs : List Ty) (n : ℕ) (tys : List Ty) : Type 0 where
  pub front : List Ty
  pub rest : List Ty
  pub size : length front ≡ n
  pub all : vs ≡ front ++ (tys ++ rest)

pub first_part : (vs : List Ty) (n : ℕ) (xs ys : List Ty) → Segment vs n (xs ++ ys) → Segment vs n xs
first_part vs n xs ys h = record {
  front = h.front;
  rest = ys ++ h.rest;
  size = h.size;
  all = h.all ∙ ap (λ zs. h.front ++ zs) (append_assoc xs ys h.rest);
}

pub last_part : (vs : List Ty) (n : ℕ) (xs ys : List Ty) → Segment vs n (xs ++ ys) → Segment vs (n + length xs) ys
last_part vs n xs ys h = record {
  front = h.front ++ xs;
  rest = h.rest;
  size = length-append h.front xs ∙ ap (λ k. k + length xs) h.size;
  all = h.all ∙ ap (λ zs. h.front ++ zs) (append_assoc xs ys h.rest) ∙ sym (append_assoc h.front xs (ys ++ h.rest));
}

pub behind_front : {A : Type 0} (front rest : List A) (x : A) → slice_get (front ++ x ∷ rest) (length front) ≡ Some x
behind_front [] rest x = refl
behind_front (y ∷ front) rest x = behind_front front rest x

pub one_local : (vs : List Ty) (n : ℕ) (ty : Ty) → Segment vs n (ty ∷ []) → IsLocal vs n ty
one_local vs n ty h = (λ i. slice_get (h.all i) (sym h.size i)) ∙ behind_front h.front h.rest ty

-- locals with the types that are theirs
abbrev pub AreBound : List Ty → List Bound → Type 0
AreBound vs [] = ⊤
AreBound vs (b ∷ bs) = IsLocal vs b.number b.ty × AreBound vs bs

-- what is visible is there
pub record IsScoped (vs : List Ty) (ds : List Decl) (s : Scope) : Type 0 where
  pub bound : AreBound vs (s.block ++ s.around)
  pub more : List Decl
  pub decls : ds ≡ s.decls ++ more

-- locals

no_variable : (k : ℕ) (ds : List Decl) (name : List ℕ) (n : ℕ) (ty : Ty) → item_named k ds name ≡ variable n ty → ⊥
no_variable k [] name n ty h = cc
no_variable k (d ∷ ds) name n ty h = test (is_named name d) h (no_variable (k + 1) ds name n ty)
  where
    test : (c : Bool) → (if c then item k d.form else item_named (k + 1) ds name) ≡ variable n ty →
        (item_named (k + 1) ds name ≡ variable n ty → ⊥) → ⊥
    test true h next = cc
    test false h next = next h

local_there : (vs : List Ty) (bs : List Bound) (name : List ℕ) (otherwise : Meaning) (n : ℕ) (ty : Ty) →
    AreBound vs bs → (otherwise ≡ variable n ty → ⊥) → local_named bs name otherwise ≡ variable n ty → IsLocal vs n ty
local_there vs [] name otherwise n ty bound none h = absurd (none h)
local_there vs (b ∷ bs) name otherwise n ty bound none h =
    test (bytes_eq b.name name) h (local_there vs bs name otherwise n ty bound.1 none)
  where
    first : b.number ≡ n → b.ty ≡ ty → IsLocal vs n ty
    first e e' = subst (λ m. IsLocal vs m ty) e (subst (IsLocal vs b.number) e' bound.0)

    test : (c : Bool) → (if c then variable b.number b.ty else local_named bs name otherwise) ≡ variable n ty →
        (local_named bs name otherwise ≡ variable n ty → IsLocal vs n ty) → IsLocal vs n ty
    test true h next = first (cc) (cc)
    test false h next = next h

pub variable_there : {vs : List Ty} {ds : List Decl} {s : Scope} (x : Ident) (n : ℕ) (ty : Ty) → IsScoped vs ds s →
    meaning s x ≡ variable n ty → IsLocal vs n ty
variable_there {vs} {ds} {s} x n ty scoped h = local_there vs (s.block ++ s.around) x.name (item_named 0 s.decls x.name)
    n ty scoped.bound (no_variable 0 s.decls x.name n ty) h

-- items

otherwise_item : (bs : List Bound) (name : List ℕ) (otherwise : Meaning) (g : ℕ) (form : Form) →
    local_named bs name otherwise ≡ item g form → otherwise ≡ item g form
otherwise_item [] name otherwise g form h = h
otherwise_item (b ∷ bs) name otherwise g form h = test (bytes_eq b.name name) h
    (otherwise_item bs name otherwise g form)
  where
    test : (c : Bool) → (if c then variable b.number b.ty else local_named bs name otherwise) ≡ item g form →
        (local_named bs name otherwise ≡ item g form → otherwise ≡ item g form) → otherwise ≡ item g form
    test true h next = cc
    test false h next = next h

-- a declaration, so many after the first
abbrev IsBehind : (k : ℕ) → List Decl → (g : ℕ) → Form → Type 0
IsBehind k ds g form = (i : ℕ) × (g ≡ k + i) × IsDeclared ds i form

item_behind : (k : ℕ) (ds : List Decl) (name : List ℕ) (g : ℕ) (form : Form) → item_named k ds name ≡ item g form →
    IsBehind k ds g form
item_behind k [] name g form h = cc
item_behind k (d ∷ ds) name g form h = test (is_named name d) h (item_behind (k + 1) ds name g form)
  where
    first : k ≡ g → d.form ≡ form → IsBehind k (d ∷ ds) g form
    first e e' = (zero, omega arith, (d, refl, e'))

    shifted : IsBehind (k + 1) ds g form → IsBehind k (d ∷ ds) g form
    shifted (i, e, there) = (suc i, omega arith, there)

    test : (c : Bool) → (if c then item k d.form else item_named (k + 1) ds name) ≡ item g form →
        (item_named (k + 1) ds name ≡ item g form → IsBehind (k + 1) ds g form) → IsBehind k (d ∷ ds) g form
    test true h next = first (cc) (cc)
    test false h next = shifted (next h)

in_front : (xs ys : List Decl) (i : ℕ) (d : Decl) → slice_get xs i ≡ Some d → slice_get (xs ++ ys) i ≡ Some d
in_front [] ys i d h = cc
in_front (x ∷ xs) ys zero d h = h
in_front (x ∷ xs) ys (suc i) d h = in_front xs ys i d h

pub item_there : {vs : List Ty} {ds : List Decl} {s : Scope} (x : Ident) (g : ℕ) (form : Form) → IsScoped vs ds s →
    meaning s x ≡ item g form → IsDeclared ds g form
item_there {vs} {ds} {s} x g form scoped h =
    found (item_behind 0 s.decls x.name g form (otherwise_item (s.block ++ s.around) x.name
    (item_named 0 s.decls x.name) g form h))
  where
    found : IsBehind 0 s.decls g form → IsDeclared ds g form
    found (i, e, (d, there, of)) =
        let same : i ≡ g = omega arith in (
          d,
          ap (λ es. slice_get es g) scoped.decls ∙ in_front s.decls scoped.more g d
              (subst (λ j. slice_get s.decls j ≡ Some d) same there),
          of,
        )

-- scopes further on

pub inside_scoped : {vs : List Ty} {ds : List Decl} {s : Scope} → IsScoped vs ds s → IsScoped vs ds (inside s)
inside_scoped h = record { bound = h.bound; more = h.more; decls = h.decls }

pub past_scoped : {vs : List Ty} {ds : List Decl} {s : Scope} (a : StmtTree) → IsScoped vs ds s →
    IsScoped vs ds (past s a)
past_scoped a h = record { bound = h.bound; more = h.more; decls = h.decls }

pub declaring_scoped : {vs : List Ty} {ds : List Decl} {s : Scope} (ty : Ty) (x : Ident) →
    Segment vs s.count (ty ∷ []) → IsScoped vs ds s → IsScoped vs ds (declaring s ty x)
declaring_scoped {vs} {ds} {s} ty x there h =
    record { bound = (one_local vs s.count ty there, h.bound); more = h.more; decls = h.decls }

pub after_scoped : {vs : List Ty} {ds : List Decl} {s : Scope} (a : StmtTree) → Segment vs s.count (locals_of a) →
    IsScoped vs ds s → IsScoped vs ds (after s a)
after_scoped (declare p ty x i) there h = declaring_scoped ty x there h
after_scoped (skip p) there h = past_scoped (skip p) h
after_scoped (assign p t op a) there h = past_scoped (assign p t op a) h
after_scoped (call p x f args) there h = past_scoped (call p x f args) h
after_scoped (block p bs) there h = past_scoped (block p bs) h
after_scoped (if_ p c a o) there h = past_scoped (if_ p c a o) h
after_scoped (while_ p c a) there h = past_scoped (while_ p c a) h
after_scoped (do_ p a c) there h = past_scoped (do_ p a c) h
after_scoped (for_ p i c u a) there h = past_scoped (for_ p i c u a) h
after_scoped (break_ p) there h = past_scoped (break_ p) h
after_scoped (continue_ p) there h = past_scoped (continue_ p) h
after_scoped (return_ p a) there h = past_scoped (return_ p a) h
after_scoped (lock p x) there h = past_scoped (lock p x) h
after_scoped (unlock p x) there h = past_scoped (unlock p x) h
after_scoped (print p a) there h = past_scoped (print p a) h

pub after_count : (s : Scope) (a : StmtTree) → (after s a).count ≡ s.count + length (locals_of a)
after_count s (declare p ty x i) = refl
after_count s (skip p) = refl
after_count s (assign p t op a) = refl
after_count s (call p x f args) = refl
after_count s (block p bs) = refl
after_count s (if_ p c a o) = refl
after_count s (while_ p c a) = refl
after_count s (do_ p a c) = refl
after_count s (for_ p i c u a) = refl
after_count s (break_ p) = refl
after_count s (continue_ p) = refl
after_count s (return_ p a) = refl
after_count s (lock p x) = refl
after_count s (unlock p x) = refl
after_count s (print p a) = refl

pub after_option_scoped : {vs : List Ty} {ds : List Decl} {s : Scope} (o : StmtOption) →
    Segment vs s.count (locals_of_option o) → IsScoped vs ds s → IsScoped vs ds (after_option s o)
after_option_scoped absent there h = h
after_option_scoped (present a) there h = after_scoped a there h

pub past_option_scoped : {vs : List Ty} {ds : List Decl} {s : Scope} (o : StmtOption) → IsScoped vs ds s →
    IsScoped vs ds (past_option s o)
past_option_scoped absent h = h
past_option_scoped (present a) h = past_scoped a h

pub after_option_count : (s : Scope) (o : StmtOption) → (after_option s o).count ≡ s.count + length (locals_of_option o)
after_option_count s absent = omega arith
after_option_count s (present a) = after_count s a

pub past_option_count : (s : Scope) (o : StmtOption) → (past_option s o).count ≡ s.count + length (locals_of_option o)
past_option_count s absent = omega arith
past_option_count s (present a) = refl
