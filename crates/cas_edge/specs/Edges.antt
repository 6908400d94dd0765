-- The edge of a settled program: the words of its globals, one after another, and the functions that it defines.
use Rattle.std.specs.Prelude.{◌≡◌, ℕ, ◌+◌, ◌≤◌, Bool, List, [], ◌∷◌, ◌++◌, length, map, Option, Some, None}
use Rattle.std.specs.Prelude.{if◌then◌else◌}
use Rattle.cas_base.specs.declared.kind.Kind.{Kind}
use Rattle.cas_base.specs.declared.kind.Ty.{Ty}
use Rattle.cas_base.specs.declared.decl.Decl.{Decl}
use Rattle.cas_base.specs.declared.decl.Form.{Form}
use Rattle.cas_base.specs.declared.decl.Form.TheVariants.{Lock, Shared, Table, Function}
use Rattle.cas_base.specs.declared.decl.Global.{Global}
use Rattle.cas_base.specs.declared.decl.Unit.{Unit as UnitOf}
use Rattle.cas_base.specs.Decl.{words_of_form, definitions}
use Rattle.cas_base.specs.Ty.{words_of_ty}
use Rattle.cas_runs.specs.Label.{Each, NameBytes, same_name}
use Rattle.cas_runs.specs.Edge.{Cell, LockWord, SharedWord, TableWord, Signature, Stretch, Edge, IsOfKind}
use Rattle.cas_runs.specs.Unit.{kind_of_words, and_number, all_decls, all_globals}

-- where the words of the global of this name stand, if the first global begins at this word
abbrev pub stretch_from : ℕ → List Global → NameBytes → Option Stretch
stretch_from first [] name = None
stretch_from first (g ∷ gs) name =
    if same_name g.decl.name name then Some (record { first = first; size = words_of_form g.decl.form })
    else stretch_from (first + words_of_form g.decl.form) gs name

abbrev pub lock_if : Form → ℕ → Option ℕ
lock_if Lock first = Some first
lock_if _ first = None

-- the number of the lock of this name
abbrev pub lock_from : ℕ → List Global → NameBytes → Option ℕ
lock_from first [] name = None
lock_from first (g ∷ gs) name =
    if same_name g.decl.name name then lock_if g.decl.form first
    else lock_from (first + words_of_form g.decl.form) gs name

abbrev pub of_kind : Option Kind → (Kind → List Cell) → List Cell
of_kind None cells = []
of_kind (Some kind) cells = cells kind

-- the cells of a global with these values, where locks have these numbers
abbrev pub cells_of : (NameBytes → Option ℕ) → Form → List ℕ → List Cell
cells_of number Lock vs = LockWord ∷ []
cells_of number (Shared ty lock) vs = of_kind (kind_of_words ty) (λ kind. map (λ v. SharedWord kind (number lock) v) vs)
cells_of number (Table ty) vs = map (λ v. TableWord v) vs
cells_of number (Function ret params holds) vs = []

abbrev pub all_cells : (NameBytes → Option ℕ) → List Global → List Cell
all_cells number [] = []
all_cells number (g ∷ gs) = cells_of number g.decl.form g.values ++ all_cells number gs

abbrev pub numbers_of : (NameBytes → Option ℕ) → List NameBytes → List ℕ
numbers_of number [] = []
numbers_of number (n ∷ ns) = and_number (number n) (numbers_of number ns)

abbrev pub and_signature : Option Signature → List Signature → List Signature
and_signature None fs = fs
and_signature (Some f) fs = f ∷ fs

abbrev pub signature_by : (NameBytes → Bool) → (NameBytes → Option ℕ) → NameBytes → Form → Option Signature
signature_by inside number name (Function ret params holds) = Some (record {
  name = name;
  ret = ret;
  params = params;
  holds = numbers_of number holds;
  inside = inside name;
})
signature_by inside number name _ = None

-- the functions among these definitions, as calls see them
abbrev pub signatures : (NameBytes → Bool) → (NameBytes → Option ℕ) → List Decl → List Signature
signatures inside number [] = []
signatures inside number (d ∷ ds) =
    and_signature (signature_by inside number d.name d.form) (signatures inside number ds)

-- the edge of these units, at which the outside may enter the functions for which the test is true
abbrev pub edge_of : {F : Type 0} → (NameBytes → Bool) → List (UnitOf F) → Edge
edge_of inside units =
    let number = lock_from 0 (all_globals units) in
    record {
      cells = all_cells number (all_globals units);
      words = stretch_from 0 (all_globals units);
      functions = signatures inside number (definitions (all_decls units));
    }

-- as many values as the type has words, of its kind
pub record AreValues (ty : Ty) (vs : List ℕ) : Type 0 where
  pub kind : Kind
  pub kind_is : kind_of_words ty ≡ Some kind
  pub count : length vs ≡ words_of_ty ty
  pub some : 1 ≤ length vs
  pub kinds : Each (λ v. IsOfKind v kind) vs

-- a lock has no values, and a shared global or a table those of its type
abbrev pub HasItsValues : Form → List ℕ → Type 0
HasItsValues Lock vs = vs ≡ []
HasItsValues (Shared ty lock) vs = AreValues ty vs
HasItsValues (Table ty) vs = AreValues ty vs
HasItsValues (Function ret params holds) vs = ⊥
