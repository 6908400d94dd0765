use Rattle.cas_runs.proofs.Existing.{received_exists}
use Rattle.cas_runs.proofs.Knowing.{first_known, is_received, stays_known, numbered_once}
use Rattle.cas_runs.proofs.rules.received_labels_exist.Goals as goal

pub returns : goal.returns
returns c = record {
  first = λ unit. first_known unit;
  exists = λ k seen from to emitted callers sound leaves counts away.
      received_exists k from seen sound emitted leaves counts to away callers;
  received = λ k k' seen x sound by h.
      is_received k x.from seen sound x.emitted by.leaves by.words by.sizes x.to x.received k' h;
  stays = λ k k' seen x sound by h.
      stays_known k x.from seen sound x.emitted by.leaves by.words by.sizes x.to x.received k' h;
  once = numbered_once;
}
