-- What the functions that read items tell of the machine.
use Rattle.std.specs.Prelude.{ℕ, Bool, true, false, List, [], ◌∷◌, ◌++◌, Option, Some, None}
use Rattle.cas_base.specs.declared.decl.Form.TheVariants as form
use Rattle.cas_base.specs.declared.kind.Kind.{Kind}
use Rattle.cas_base.specs.declared.kind.Ty.{Ty}
use Rattle.cas_base.specs.declared.kind.Ty.TheVariants.{Array}
use Rattle.cas_lex.specs.declared.token.Token.{Token}
use Rattle.cas_syntax.specs.declared.tree.Ident.{Ident}
use Rattle.cas_syntax.specs.Items.{names_alone, places_alone}
use Rattle.cas_syntax.specs.Reading.{within}
use Rattle.cas_syntax.specs.Tree.{ItemTree}
use Rattle.cas_parse.specs.Frames.{Data, Sort, Opening, CellsEnd, HaveCells, WantParameter, AfterParameters, WantHeld, AfterHead}
use Rattle.cas_parse.specs.Machine.{Verdict, item_started}
use Rattle.cas_read_expr.specs.Follow.{verdict, takes}

-- a global of its parts
abbrev pub data_of : Sort → (defined : Bool) → Kind → Data
data_of s d kd = record { sort = s; defined = d; kind = kd }

-- a function's beginning of its parts
abbrev pub opening : (defined : Bool) → (ret : Ty) → (name : Ident) → Opening
opening d ty x = record { defined = d; ret = ty; name = x }

-- the verdict where an item has to begin, behind `extern` where it isn't defined
abbrev pub begins_item : List Token → (defined : Bool) → List ItemTree → Verdict
begins_item ts d items = takes ts (λ p kind. item_started (within 0) false false d items [] kind)

-- the verdict behind a further value of a list, or behind the list
abbrev pub has_value_or_end : Option ℕ → List Token → Data → Ident → (length : ℕ) → List ℕ → List ItemTree → Verdict
has_value_or_end (Some v) ts d x n vs items = verdict ts (HaveCells d x n (vs ++ v ∷ []) items) []
has_value_or_end None ts d x n vs items = verdict ts (CellsEnd d x (Array d.kind n) vs items) []

-- the verdict where a further parameter stands, or where none does
abbrev pub has_more_parameters : Bool → List Token → Opening → List Ty → List (Option Ident) → List ItemTree → Verdict
has_more_parameters true ts o tys xs items = verdict ts (WantParameter o tys xs items) []
has_more_parameters false ts o tys xs items = verdict ts (AfterParameters o tys xs items) []

-- the verdict where a further lock stands, or where none does
abbrev pub has_more_held : Bool → List Token → Opening → List Ty → List (Option Ident) → (held : List Ident) →
    List ItemTree → Verdict
has_more_held true ts o tys xs held items = verdict ts (WantHeld o tys xs held items) []
has_more_held false ts o tys xs held items = verdict ts
    (AfterHead o.name (form.Function o.ret tys (names_alone held)) o.defined xs (places_alone held) items) []
