-- What is made so is a graph with other numbers.
use Rattle.std.proofs.Common.{List, [], ◌∷◌}
use Rattle.cas_base.specs.declared.decl.Decl.{Decl}
use Rattle.cas_base.specs.declared.decl.Unit.{Unit as UnitOf}
use Rattle.cas_runs.specs.Label.{Both}
use Rattle.cas_runs.specs.Passing.{UnitsMade}
use Rattle.cas_runs.specs.Unmoved.{IsUnmoved}
use Rattle.cas_rtl.specs.Code.{rtl_graph}
use Rattle.cas_rtl.specs.Rtl.{pseudo_registers, rtl_prices}
use Rattle.cas_rtl.specs.declared.tree.RtlFun.{RtlFun}
use Rattle.cas_rtl.proofs.Tariffs.{rtl_tariff}
use Rattle.cas_graphs.specs.Shortcut.{IsShortcut}
use Rattle.cas_graphs.specs.Match.{shortcut}
use Rattle.cas_graphs.proofs.Prices.{rtl_by_form}
use Rattle.cas_graphs.proofs.Shortcuts.{shortcuts_shown}
use Rattle.cas_renumber.specs.Renumber.{IsMade}

pub shown : IsUnmoved (shortcut pseudo_registers rtl_prices rtl_graph)
shown = shortcuts_shown pseudo_registers rtl_prices rtl_graph rtl_by_form (rtl_tariff rtl_graph)

abbrev pub IsOther : List Decl → RtlFun → RtlFun → Type 0
IsOther decls f g = IsShortcut (rtl_graph f) (rtl_graph g)

pub all_other : (decls : List Decl) (fs gs : List RtlFun) → Both (IsMade decls) fs gs → Both (IsOther decls) fs gs
all_other decls [] [] h = tt
all_other decls [] (g ∷ gs) h = absurd h
all_other decls (f ∷ fs) [] h = absurd h
all_other decls (f ∷ fs) (g ∷ gs) h = let made = h.0 in (made.shortcut, all_other decls fs gs h.1)

pub units_other : (ts ss : List (UnitOf RtlFun)) → UnitsMade IsMade ts ss → UnitsMade IsOther ts ss
units_other [] [] h = tt
units_other [] (s ∷ ss) h = absurd h
units_other (t ∷ ts) [] h = absurd h
units_other (t ∷ ts) (s ∷ ss) h = (all_other s.decls t.funs s.funs h.0, units_other ts ss h.1)
