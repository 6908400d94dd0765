-- The layout of a source's variables is one.
use Rattle.std.proofs.Common.{ℕ, ◌+◌, List, [], ◌∷◌, sym, subst, arith}
use Rattle.cas_base.specs.declared.kind.Kind.{Kind}
use Rattle.cas_runs.specs.Naming.{Layout, Part, ArePlaced}
use Rattle.cas_runs.specs.Natural.{AreOneEach, IsNatural}
use Rattle.cas_runs.specs.Unit.{Language, AreLaidOut, IsLayout}

one_each : (sizes : List ℕ) (kinds : List Kind) (k : ℕ) (parts : ℕ → List Part) → AreOneEach sizes kinds k parts →
    AreLaidOut sizes k parts
one_each [] [] k parts h = h
one_each [] (kind ∷ kinds) k parts h = absurd h
one_each (size ∷ sizes) [] k parts h = absurd h
one_each (size ∷ sizes) (kind ∷ kinds) k parts h =
    let least = h.0 in
    let placed : ArePlaced 0 size (record { from = 0; size = size; kind = kind } ∷ []) =
    (omega arith, least, omega arith, tt) in
    (subst (λ ps. ArePlaced 0 size ps) (sym h.1) placed, one_each sizes kinds (k + 1) parts h.2)

pub natural_laid_out : {F S : Type 0} (l : Language F S) (kinds : F → List Kind) (fs : List F) (layout : Layout) →
    IsNatural l kinds fs layout → IsLayout l fs layout
natural_laid_out l kinds fs layout h name f e = one_each (l.blocks f) (kinds f) 0 (layout name) (h name f e)
