use Rattle.std.proofs.Common.{arith, ◌≡◌, None, [], ap, length, replicate, ◌∙◌}
use Rattle.std.proofs.Math.Logic.{∥∥₁_map}
use Rattle.cas_program.specs.Program.{initial_words}
use Rattle.cas_turn.specs.Shown.{AreWorldOf}
use Rattle.cas_world.specs.Races.{program_world}
use Rattle.cas_world.specs.World.{at_first}
use Rattle.cas_turn.proofs.world.World.start.Goals as goal

pub invariant_of-result : goal.invariant_of-result
invariant_of-result c = record {
  numbered = c.in_ok-threads.ensures.numbered;
  reached = ∥∥₁_map c.args.program.program (λ r.
      let words : c.in_ok-words.words.items ≡ initial_words r.0 = c.in_ok-words.ensures r.0 r.1 r.2 in
      let count : c.len.result ≡ length (initial_words r.0) =
      omega (arith, c.len.ensures, c.in_ok-words.words.ok.0, ap length words) in
      let are : AreWorldOf c.args.program c.in_ok-threads.threads.items c.in_ok-words.words.items
      c.in_ok-holders.holders.items c.new.result.items r.0 r.1 (program_world r.0 r.1) = record {
        program = r.2;
        threads_are = c.in_ok-threads.ensures.threads r.0 r.1 r.2;
        words_are = words;
        holders_are = c.in_ok-holders.ensures ∙ ap (λ n. replicate n None) count;
        out_is = c.new.ensures.items;
      } in
      (r.0, r.1, program_world r.0 r.1, are, ([], at_first)));
}

pub returns-clause-first : goal.returns-clause-first
returns-clause-first c = λ ms names is.
    let words : c.in_ok-words.words.items ≡ initial_words ms = c.in_ok-words.ensures ms names is in
    let count : c.len.result ≡ length (initial_words ms) =
    omega (arith, c.len.ensures, c.in_ok-words.words.ok.0, ap length words) in
    record {
      program = is;
      threads_are = c.in_ok-threads.ensures.threads ms names is;
      words_are = words;
      holders_are = c.in_ok-holders.ensures ∙ ap (λ n. replicate n None) count;
      out_is = c.new.ensures.items;
    }
