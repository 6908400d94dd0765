-- What the sets of locks and the walks of the code stand for.
use Rattle.std.specs.Prelude.{◌≡◌, ⊤, ℕ, ◌+◌, ◌≤◌, ◌<◌, List, [], ◌∷◌, length, Option, Some, None, Result, Ok, Err, slice_get, All}
use Rattle.std.specs.Borrow.{Bor}
use Rattle.cas_base.specs.declared.decl.Decl.{Decl}
use Rattle.cas_own.specs.Flow as f
use Rattle.cas_own.specs.Locks.{Locks, having}
use Rattle.cas_check.specs.declared.flow.Halt.{Halt}
use Rattle.cas_check.specs.declared.flow.Halt.TheVariants.{Memory, Fault}
use Rattle.cas_check.specs.declared.flow.Head.{Head}
use Rattle.cas_check.specs.declared.flow.Onward.{Onward}
use Rattle.cas_check.specs.declared.flow.Onward.TheVariants.{Same, With, Nowhere}
use Rattle.cas_own.specs.Uses.{option_uses}
use Rattle.cas_base.specs.declared.place.Place.{Place}
use Rattle.cas_typed.specs.declared.rows.StmtRow.{StmtRow}
use Rattle.cas_typed.specs.declared.rows.StmtRowForm.{StmtRowForm}
use Rattle.cas_typed.specs.declared.rows.StmtRowForm.TheVariants as row
use Rattle.cas_typed.specs.Numbered.{parts_of}
use Rattle.cas_typed.specs.Resolved.{TypedExprTree, TypedStmtTree, TypedStmtOption}

-- sets

-- the first of these numbers, if there is one, is at least this
abbrev pub IsFrom : (least : ℕ) → List ℕ → Type 0
IsFrom n [] = ⊤
IsFrom n (m ∷ ms) = n ≤ m

-- a set with these locks
abbrev pub adding : List ℕ → Locks → Locks
adding [] s = s
adding (l ∷ ls) s = having (adding ls s) l

-- walks

-- the set at a reference, if there is one
abbrev pub set_at : Option (Bor (List ℕ)) → Option Locks
set_at None = None
set_at (Some s) = Some s.now

-- the set with which a walk continues that had this one, if it does
abbrev pub onward : Locks → Onward → Option Locks
onward s Same = Some s
onward s (With t) = Some t
onward s Nowhere = None

-- the head of a loop
abbrev pub head_of : Head → f.Head
head_of h = record { place = h.place; set = h.set.now }

-- the head of the innermost loop, if in one
abbrev pub optional_head : Option Head → Option f.Head
optional_head None = None
optional_head (Some h) = Some (head_of h)

-- unless it is out of memory, the walk ends with this fault
abbrev pub Halts : Halt → f.Flow → Type 0
Halts Memory flow = ⊤
Halts (Fault code p l) flow = flow ≡ f.fault code p l

-- the walk continues with the next one, or ends with this fault
abbrev pub Passes : Result ⊤ Halt → (next flow : f.Flow) → Type 0
Passes (Ok u) next flow = flow ≡ next
Passes (Err e) next flow = Halts e flow

-- the walk that begins with this set continues so, or ends with this fault
abbrev pub Walked : Locks → Result Onward Halt → f.Flow → Type 0
Walked s (Ok o) flow = flow ≡ f.on (onward s o)
Walked s (Err e) flow = Halts e flow

-- rows

-- each part of a row has a greater number, and is there
abbrev pub IsTable : List StmtRow → Type 0
IsTable rows = (n : ℕ) (r : StmtRow) → slice_get rows n ≡ Some r →
    All (λ i. (n < i) × (i < length rows)) (parts_of r.form)

abbrev pub IsPartWithin : (n end : ℕ) → Option ℕ → Type 0
IsPartWithin n end None = ⊤
IsPartWithin n end (Some i) = (n < i) × (i < end)

-- the same of the parts of one row, by its form
abbrev pub PartsAreWithin : (n end : ℕ) → StmtRowForm → Type 0
PartsAreWithin n end (row.Block ns) = All (λ i. (n + 1 ≤ i) × (i < end)) ns
PartsAreWithin n end (row.If c i j) = (n < i) × (i < end) × IsPartWithin n end j
PartsAreWithin n end (row.While c i) = (n < i) × (i < end)
PartsAreWithin n end (row.Do i c) = (n < i) × (i < end)
PartsAreWithin n end (row.For h c j k) = IsPartWithin n end h × IsPartWithin n end j × (n < k) × (k < end)
PartsAreWithin n end _ = ⊤

-- the turns of a `for`, from the set after its first part on
abbrev pub turns : List Decl → (own : Locks) → Place → Option TypedExprTree → (after : TypedStmtOption) →
    TypedStmtTree → Locks → (next : f.Flow) → f.Flow
turns ds own p c u a r next =
    f.guarded ds r (option_uses c) (f.after (f.flow ds own (Some (record { place = p; set = r })) a r) (λ t.
    f.back (record { place = p; set = r }) t (f.after (f.flow_part ds own None u r) (λ v.
    f.back (record { place = p; set = r }) v next))))
