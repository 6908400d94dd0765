-- What the typer's values stand for.
use Rattle.std.specs.Prelude.{Box, ◌≡◌, ⊤, ℕ, ◌+◌, ◌-◌, Bool, true, false, if◌then◌else◌, List, [], ◌∷◌, ◌++◌, length, map, take, drop, Option, Some, None}
use Rattle.std.specs.Borrow.{Bor}
use Rattle.std.specs.Map.{lookup}
use Rattle.std.specs.Str.{bytes_eq}
use Rattle.std.specs.declared.alloc.Global.{Global}
use Rattle.cas_base.specs.declared.kind.Ty.TheVariants.{Int, Ptr}
use Rattle.cas_type.specs.declared.found.Found.{Found}
use Rattle.cas_type.specs.declared.found.Found.TheVariants.{Unfit, Word, Pointer}
use Rattle.cas_type.specs.declared.found.Operands.{Operands}
use Rattle.cas_type.specs.declared.found.Operands.TheVariants.{Words, PointerAndWord, WordAndPointer, Pointers}
use Rattle.cas_type.specs.declared.scope.Meaning.{Meaning}
use Rattle.cas_type.specs.declared.scope.Meaning.TheVariants.{Undeclared, Variable, Item}
use Rattle.cas_type.specs.declared.locals.Visible.{Visible}
use Rattle.cas_type.specs.declared.targets.Written.{Written}
use Rattle.cas_base.specs.declared.place.Place.{Place}
use Rattle.cas_type.specs.declared.calls.Called.{Called}
use Rattle.cas_type.specs.declared.values.Assignment.{Assignment}
use Rattle.cas_typed.specs.Resolved.{typed_expr_tree, typed_target_tree, TypedExprTree, TypedStmtTree, assign, call}
use Rattle.cas_typed.specs.declared.tree.TypedExpr.{TypedExpr}
use Rattle.cas_typed.specs.Resolving as r
use Rattle.cas_typed.specs.Scopes as s

-- what was found of an expression
abbrev pub found_of : Found → r.Found
found_of Unfit = r.unfit
found_of (Word e k) = r.fits (typed_expr_tree e.value) (Int k)
found_of (Pointer e k) = r.fits (typed_expr_tree e.value) (Ptr k)

-- an expression behind a pointer, which may be missing
abbrev pub boxed_tree : Option (Box TypedExpr Global) → Option TypedExprTree
boxed_tree None = None
boxed_tree (Some e) = Some (typed_expr_tree e.value)

-- what was found of the left one of two operands that fit
abbrev pub left_of : Operands → r.Found
left_of (Words a j b k) = r.fits (typed_expr_tree a.value) (Int j)
left_of (PointerAndWord a j b k) = r.fits (typed_expr_tree a.value) (Ptr j)
left_of (WordAndPointer a j b k) = r.fits (typed_expr_tree a.value) (Int j)
left_of (Pointers a j b k) = r.fits (typed_expr_tree a.value) (Ptr j)

-- what was found of the right one
abbrev pub right_of : Operands → r.Found
right_of (Words a j b k) = r.fits (typed_expr_tree b.value) (Int k)
right_of (PointerAndWord a j b k) = r.fits (typed_expr_tree b.value) (Int k)
right_of (WordAndPointer a j b k) = r.fits (typed_expr_tree b.value) (Ptr k)
right_of (Pointers a j b k) = r.fits (typed_expr_tree b.value) (Ptr k)

-- what a name means
abbrev pub meaning_of : Meaning → s.Meaning
meaning_of Undeclared = s.undeclared
meaning_of (Variable n ty) = s.variable n ty
meaning_of (Item n form) = s.item n form.now

-- a local that is visible
abbrev pub bound_of : Visible → s.Bound
bound_of v = record { name = v.name.now; number = v.number; ty = v.ty }

-- the index of the newest local of a name, among locals with the newest one first
abbrev pub newest_of : List s.Bound → List ℕ → Option ℕ
newest_of [] name = None
newest_of (v ∷ vs) name = if bytes_eq v.name name then Some (length vs) else newest_of vs name

-- each local has the index of the one that it hides
abbrev pub AreHiding : List Visible → Type 0
AreHiding [] = ⊤
AreHiding (v ∷ vs) = (v.hidden ≡ newest_of (map bound_of vs) v.name.now) × AreHiding vs

-- the table has the index of the newest local of each name, by the name
abbrev pub IsNewest : List s.Bound → List (Bor (List ℕ) × ℕ) → Type 0
IsNewest vs entries = (name : List ℕ) → lookup (λ key. bytes_eq name key.now) entries ≡ newest_of vs name

-- what a local's name means, or else another
abbrev pub variable_or : Option Visible → s.Meaning → s.Meaning
variable_or None otherwise = otherwise
variable_or (Some v) otherwise = s.variable v.number v.ty

-- what was found of a target
abbrev pub written_of : Option Written → r.Written
written_of None = r.unwritable
written_of (Some w) = r.written (typed_target_tree w.target.value) w.ty

-- an assignment at its place
abbrev pub assignment_tree : Place → Assignment → TypedStmtTree
assignment_tree p a = assign p (typed_target_tree a.target.value) (typed_expr_tree a.value.value)

-- values, if there are any
abbrev pub values_tree : Option (List TypedExpr) → Option (List TypedExprTree)
values_tree None = None
values_tree (Some es) = Some (map typed_expr_tree es)

-- values, if each argument has one
abbrev pub values_if : Bool → List TypedExpr → Option (List TypedExprTree)
values_if true es = Some (map typed_expr_tree es)
values_if false es = None

-- values after those that are done, if there are any
abbrev pub extended : List TypedExprTree → Option (List TypedExprTree) → Option (List TypedExprTree)
extended done None = None
extended done (Some es) = Some (done ++ es)

-- a call at its place, of the function that is named at another
abbrev pub called_tree : Place → (at : Place) → Called → TypedStmtTree
called_tree p at c = call p c.kept c.item at (map typed_expr_tree c.args)

-- the scope after a block: the oldest locals, this many, are again those around it
abbrev pub outside : ℕ → s.Scope → s.Scope
outside n s = record s { block = take (length s.around - n) s.around; around = drop (length s.around - n) s.around }

-- only so many locals are visible
abbrev pub forgotten : ℕ → s.Scope → s.Scope
forgotten n s = record s { block = drop ((length s.block + length s.around) - n) s.block }
