-- Two functions of which one has tail calls, where they run among others.
use Rattle.std.proofs.Common.{ℕ, List}
use Rattle.cas_runs.specs.Held.{Activation}
use Rattle.cas_runs.specs.Passing.{MadeOf}
use Rattle.cas_runs.specs.Unit.{Setting}
use Rattle.cas_runs.specs.Unmoved.{unmoved}
use Rattle.cas_rtl.specs.Graph.{Graph}
use Rattle.cas_rtl.specs.Rtl.{pseudo_registers}
use Rattle.cas_graphs.proofs.Nodes.{Pair}
use Rattle.cas_tailcall.specs.Match.{tailcall}

pub record Together (F : Type 0) : Type 1 where
  pub graph_of : F → Graph ℕ
  pub setting : Setting
  pub targets : List F
  pub sources : List F
  pub act : Activation F F

abbrev pub pair : {F : Type 0} → Together F → Pair ℕ F F
pair w = record {
  places = pseudo_registers;
  pass = tailcall w.graph_of;
  setting = w.setting;
  targets = w.targets;
  sources = w.sources;
  made = MadeOf (unmoved (tailcall w.graph_of)) w.setting w.targets w.sources;
  act = w.act;
}
