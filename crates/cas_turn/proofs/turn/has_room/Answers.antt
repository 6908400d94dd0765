use Rattle.std.proofs.Common.{sym, ◌∙◌}
use Rattle.cas_turn.proofs.Stands_at.{false_not, true_not}
use Rattle.cas_turn.proofs.turn.has_room.Goals as goal

pub returns-clause-room : goal.returns-clause-room
returns-clause-room c = true_not c.puts_out.result c.puts_out.ensures.other
    (λ other ms names d s program thread is n out. absurd
    (other n (c.act_of.ensures ms names d s program thread is ∙ out)))

pub returns-clause-full : goal.returns-clause-full
returns-clause-full c = false_not c.puts_out.result c.puts_out.ensures.out
    (λ out ms names d s program thread is. (out.0, sym (c.act_of.ensures ms names d s program thread is) ∙ out.1))

pub returns-then-not-next_prints-clause-room : goal.returns-then-not-next_prints-clause-room
returns-then-not-next_prints-clause-room c = λ ms names d s program thread is n out.
    absurd (c.if-not-next_prints.ensures.other c.args.shared.now.words.items ms names d s program thread is n out)
