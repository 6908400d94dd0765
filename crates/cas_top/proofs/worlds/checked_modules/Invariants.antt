use Rattle.std.proofs.Common.{◌≡◌, drop, length}
use Rattle.cas_top.proofs.Turning.{ModulesOn}
use Rattle.cas_top.proofs.worlds.checked_modules.Given as goal

abbrev pub invariant-loop-source : goal.invariant-loop-source
invariant-loop-source l = record {
  counted : length l.modules.items ≡ l.source-index;
  on : ModulesOn l.sources (drop l.source-index l.sources) l.modules.items;
}
