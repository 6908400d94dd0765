use Rattle.std.proofs.Common.{sym, subst}
use Rattle.std.specs.Prelude.{length}
use Rattle.cas_asm.specs.declared.ask.Ask.{Ask}
use Rattle.cas_tso.specs.Asking.{IsAmongWords}
use Rattle.cas_tso.proofs.Asking.{asks_among}
use Rattle.cas_tso.proofs.thread.ThreadCore.ask.Goals as goal

pub returns-clause-among : goal.returns-clause-among
returns-clause-among c =
    subst (λ (a : Ask). IsAmongWords (length c.args.image.now.words) a) (sym c.cpu_ask.ensures)
    (asks_among c.args.image.now c.self.inside.cpu c.args.loaded)
