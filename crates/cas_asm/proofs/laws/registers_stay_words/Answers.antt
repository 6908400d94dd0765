use Rattle.cas_asm.proofs.Wording.{words_stay}
use Rattle.cas_asm.proofs.laws.registers_stay_words.Goals as goal

pub returns : goal.returns
returns g c = λ core read has words word. words_stay g.links c.args.instr.now core read has words word
