-- Scopes: what a name means at a place of a module.
use Rattle.std.specs.Prelude.{ℕ, ◌+◌, Bool, List, [], ◌∷◌, ◌++◌, length, if◌then◌else◌}
use Rattle.std.specs.List.{list_any}
use Rattle.std.specs.Str.{bytes_eq}
use Rattle.cas_base.specs.Decl.{is_named}
use Rattle.cas_base.specs.declared.decl.Decl.{Decl}
use Rattle.cas_base.specs.declared.decl.Form.{Form}
use Rattle.cas_base.specs.declared.kind.Ty.{Ty}
use Rattle.cas_syntax.specs.declared.tree.Ident.{Ident}
use Rattle.cas_syntax.specs.Tree.{StmtTree, skip, declare, assign, call, block, if_, while_, do_, for_, break_, continue_, return_, lock, unlock, print, StmtOption, absent, present, StmtList, no_more, one_more}

-- a local: its name, its number in its function, and its type
pub record Bound : Type 0 where
  pub name : List ℕ
  pub number : ℕ
  pub ty : Ty

-- what is visible at a place: the locals of the innermost block, those of the blocks around it, the inner ones first,
-- and the declarations of the module so far; with how many locals of the function stand before
pub record Scope : Type 0 where
  pub block : List Bound
  pub around : List Bound
  pub decls : List Decl
  pub count : ℕ

-- what a name means: nothing, a local with its type, or what an item of the module declares first
pub data Meaning : Type 0 where
  undeclared : Meaning
  variable : (number : ℕ) → Ty → Meaning
  item : (number : ℕ) → Form → Meaning

-- the meaning of a name among declarations that are counted from this number on: the first of them
abbrev pub item_named : (number : ℕ) → List Decl → List ℕ → Meaning
item_named n [] name = undeclared
item_named n (d ∷ ds) name = if is_named name d then item n d.form else item_named (n + 1) ds name

-- the meaning of a name among locals, or else another
abbrev pub local_named : List Bound → List ℕ → Meaning → Meaning
local_named [] name otherwise = otherwise
local_named (v ∷ vs) name otherwise =
    if bytes_eq v.name name then variable v.number v.ty else local_named vs name otherwise

-- the meaning of a name: an inner name hides an outer one
abbrev pub meaning : Scope → Ident → Meaning
meaning s x = local_named (s.block ++ s.around) x.name (item_named 0 s.decls x.name)

-- whether a name is declared in the innermost block
abbrev pub is_in_block : Scope → Ident → Bool
is_in_block s x = list_any (λ v. bytes_eq v.name x.name) s.block

-- after the declaration of a local
abbrev pub declaring : Scope → Ty → Ident → Scope
declaring s ty x = record s {
  block = record { name = x.name; number = s.count; ty = ty } ∷ s.block;
  count = s.count +
      1;
}

-- inside a further block
abbrev pub inside : Scope → Scope
inside s = record s { block = []; around = s.block ++ s.around }

abbrev mutual
  -- the types of the locals that a statement declares, in order of text
  pub locals_of : StmtTree → List Ty
  locals_of (skip p) = []
  locals_of (declare p ty x a) = ty ∷ []
  locals_of (assign p t op a) = []
  locals_of (call p x f args) = []
  locals_of (block p bs) = locals_of_list bs
  locals_of (if_ p c a b) = locals_of a ++ locals_of_option b
  locals_of (while_ p c a) = locals_of a
  locals_of (do_ p a c) = locals_of a
  locals_of (for_ p i c u a) = locals_of_option i ++ (locals_of_option u ++ locals_of a)
  locals_of (break_ p) = []
  locals_of (continue_ p) = []
  locals_of (return_ p a) = []
  locals_of (lock p x) = []
  locals_of (unlock p x) = []
  locals_of (print p a) = []

  pub locals_of_option : StmtOption → List Ty
  locals_of_option absent = []
  locals_of_option (present a) = locals_of a

  pub locals_of_list : StmtList → List Ty
  locals_of_list no_more = []
  locals_of_list (one_more a bs) = locals_of a ++ locals_of_list bs

-- after a part of a statement: the names are as before, and its locals are counted
abbrev pub past : Scope → StmtTree → Scope
past s a = record s { count = s.count + length (locals_of a) }

-- after a statement of a block; its declaration is visible from there on
abbrev pub after : Scope → StmtTree → Scope
after s (declare p ty x a) = declaring s ty x
after s a = past s a

abbrev pub past_option : Scope → StmtOption → Scope
past_option s absent = s
past_option s (present a) = past s a

abbrev pub after_option : Scope → StmtOption → Scope
after_option s absent = s
after_option s (present a) = after s a

-- the locals that a function's parameters are, counted from this number on
abbrev pub parameters : (number : ℕ) → List Ident → List Ty → List Bound
parameters n (x ∷ xs) (ty ∷ tys) = record { name = x.name; number = n; ty = ty } ∷ parameters (n + 1) xs tys
parameters n _ _ = []

-- at the beginning of a function's body, whose outermost block is the scope of the parameters
abbrev pub body_scope : List Decl → List Ident → List Ty → Scope
body_scope decls xs tys = record { block = parameters 0 xs tys; around = []; decls = decls; count = length tys }
