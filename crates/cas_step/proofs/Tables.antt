-- Tables of constants never change.
use Rattle.std.proofs.Common.{◌≡◌, ℕ, ◌+◌, ◌<◌, List, [], ◌∷◌, Some, arith, refl, sym, ap, ◌∙◌}
use Rattle.std.specs.Prelude.{Contains}
use Rattle.std.proofs.lemmas.List.Elements.{Contains-append_right}
use Rattle.cas_typed.specs.Resolved.{TypedModuleTree}
use Rattle.cas_step.specs.Env.{Env, shared, table}
use Rattle.cas_step.specs.Well_formed.{IsWellFormed}
use Rattle.cas_step.specs.Laws.{IsWordOf, item_names, TablesStay}
use Rattle.cas_step.specs.Step.{Activation, Config, Step, step_of}
use Rattle.cas_step.proofs.Steps.{footprints_are_named, writes_are_reported}

-- a word of a shared global is none of a table
in_no_table : (modules : List TypedModuleTree) (e : Env) (unit g first len i : ℕ) → IsWellFormed modules e →
    e.entity unit g ≡ Some (table first len) → i < len →
    (other : ℕ) (names : List ℕ) → IsWordOf e other names (first + i) → ⊥
in_no_table modules e unit g first len i well_formed is under other names
    (h, start, size, guard, named, as_shared, above, below) =
    let same : table first len ≡ shared start size guard =
    well_formed.apart unit g other h (first + i) (table first len) (shared start size guard) is as_shared
    (omega arith, omega (arith, under)) (above, below) in
    absurd (cc same)

not_written : (modules : List TypedModuleTree) (e : Env) (ws : List ℕ) (c : Config) (s : Step) (unit g first len i : ℕ)
    (activations : List Activation) → c.activations ≡ activations →
    IsWellFormed modules e → e.entity unit g ≡ Some (table first len) → i < len → step_of e ws c activations ≡ Some s →
    Contains s.writes (first + i) → ⊥
not_written modules e ws c s unit g first len i [] here well_formed is under steps written = absurd (cc steps)
not_written modules e ws c s unit g first len i (a ∷ older) here well_formed is under steps written =
    in_no_table modules e unit g first len i well_formed is under a.function.unit (item_names a.cont)
    (footprints_are_named e ws c a older s here (ap (step_of e ws c) here ∙ steps) (first + i)
    (Contains-append_right s.reads s.writes (first + i) written))

pub tables_stay : TablesStay
tables_stay modules e ws c s well_formed steps unit g first len i is under =
    sym ((writes_are_reported e ws c s steps).1 (first + i)
    (not_written modules e ws c s unit g first len i c.activations refl well_formed is under steps))
