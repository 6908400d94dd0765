use Rattle.std.proofs.Common.{◌≡◌, ◌≤◌, ◌+◌, ◌-◌, ◌++◌}
use Rattle.cas_rtlgen.specs.Drafts.{zeros_at}
use Rattle.cas_rtlgen.proofs.function.zeros.Given as goal

-- the temporaries that come later become 0
abbrev pub invariant-each : goal.invariant-each
invariant-each l = record {
  within : l.temp ≤ l.end;
  nodes : l.draft.nodes ≡ l.initial.draft.nodes
      ++ (zeros_at l.initial.draft l.temp (l.end - l.temp) l.next).nodes;
  entry : l.entry ≡ (zeros_at l.initial.draft l.temp (l.end - l.temp) l.next).entry;
  taken : l.draft.taken ≡ l.initial.draft.taken;
  past : l.end - l.first ≡ l.end - l.temp + (l.temp - l.first);
}

abbrev pub decreases-each : goal.decreases-each
decreases-each l = l.temp
