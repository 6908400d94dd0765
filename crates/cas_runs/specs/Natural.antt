-- What a source language keeps of a unit: what it emits is in kind, and it has the locks that are due. It is asked in
-- the layout of its own variables, where each block is one object; refinement is asked in all layouts.
use Rattle.std.specs.Prelude.{◌≡◌, ℕ, ◌+◌, ◌≤◌, List, [], ◌∷◌, Some}
use Rattle.cas_base.specs.declared.kind.Kind.{Kind}
use Rattle.cas_base.specs.declared.decl.Unit.{Unit as UnitOf}
use Rattle.cas_runs.specs.Label.{NameBytes}
use Rattle.cas_runs.specs.Naming.{Layout, Part}
use Rattle.cas_runs.specs.Rules.{KeepsKinds, KeepsLocks}
use Rattle.cas_runs.specs.Unit.{Setting, Language, FitsUnit, found}

-- each block, from the k-th on, is one object of its kind, with a cell at least, and past the blocks nothing is
abbrev pub AreOneEach : List ℕ → List Kind → ℕ → (ℕ → List Part) → Type 0
AreOneEach [] [] k parts = (j : ℕ) → k ≤ j → parts j ≡ []
AreOneEach (size ∷ sizes) (kind ∷ kinds) k parts =
    (1 ≤ size) × (parts k ≡ record { from = 0; size = size; kind = kind } ∷ []) × AreOneEach sizes kinds (k + 1) parts
AreOneEach _ _ k parts = ⊥

-- it is so of the blocks of each function that is found, whose kinds are these
abbrev pub IsNatural : {F S : Type 0} → Language F S → (F → List Kind) → List F → Layout → Type 0
IsNatural {F = F} l kinds fs layout =
    (name : NameBytes) (f : F) → found l.name fs name ≡ Some f → AreOneEach (l.blocks f) (kinds f) 0 (layout name)

-- the language keeps kinds and locks of the unit, in each setting that fits it with the layout of its variables
pub record KeepsAsSource {F S : Type 0} (l : Language F S) (kinds : F → List Kind) (unit : UnitOf F) : Type 0 where
  pub keeps_kinds : (setting : Setting) → FitsUnit setting unit.decls unit.globals →
      IsNatural l kinds unit.funs setting.layout → KeepsKinds setting.edge (l.unit setting unit.funs)
  pub keeps_locks : (setting : Setting) → FitsUnit setting unit.decls unit.globals →
      IsNatural l kinds unit.funs setting.layout → KeepsLocks setting.edge (l.unit setting unit.funs)
