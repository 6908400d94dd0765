-- What Renumber makes: the graph with other numbers, in which the entry is node 0 and each node can be reached.
--
--     g:   3 ──► 1 ──► 4     2, which nothing leads to          f:   0 ──► 1 ──► 2
use Rattle.std.specs.Prelude.{◌≡◌, ◌<◌, ℕ, List, length}
use Rattle.cas_base.specs.declared.decl.Decl.{Decl}
use Rattle.cas_rtl.specs.Graph.{Graph}
use Rattle.cas_rtl.specs.Code.{rtl_graph}
use Rattle.cas_rtl.specs.declared.tree.RtlFun.{RtlFun}
use Rattle.cas_graphs.specs.Successors.{IsReached}
use Rattle.cas_graphs.specs.Shortcut.{IsShortcut}

pub record IsRenumbered (f g : Graph ℕ) : Type 0 where
  pub shortcut : IsShortcut f g
  pub entry : f.entry ≡ 0
  pub reached : (n : ℕ) → n < length f.nodes → IsReached f n

-- what is made of a function, among these declarations
abbrev pub IsMade : List Decl → RtlFun → RtlFun → Type 0
IsMade decls f g = IsRenumbered (rtl_graph f) (rtl_graph g)
