use Rattle.cas_runs.proofs.Itself.{alone_itself}
use Rattle.cas_runs.proofs.compose.functions_refine_themselves.Goals as goal

pub returns : goal.returns
returns g c = λ l prices decls f defined. alone_itself l prices decls f defined
