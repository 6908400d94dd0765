use Rattle.std.proofs.Common.{refl, sym, ap, subst, ◌∙◌}
use Rattle.std.proofs.Math.Logic.{∥∥₁_elim, ∥∥₁_map}
use Rattle.std.specs.Coded.{le_prop}
use Rattle.cas_program.specs.Program.{env_of}
use Rattle.cas_thread.specs.Thread.{IsThread}
use Rattle.cas_turn.proofs.Bad_steps.{bad_stays}
use Rattle.cas_turn.proofs.Stands_at.{answers_bad, bad_there, begins_call, call_there, free_from, goes_from_stands, is_running, next_step, out_there, runs_there}
use Rattle.cas_turn.specs.Standing.{state_in}
use Rattle.cas_world.specs.World.{holders_after, out_after}
use Rattle.cas_turn.proofs.turn.run.Goals as goal

pub returns-then-not-has_room-clause-answer : goal.returns-then-not-has_room-clause-answer
returns-then-not-has_room-clause-answer c = λ ms names d program thread.
    let ws = c.args.shared.now.words.items in
    let hs = c.args.holders.now in
    let (s, is) = next_step ws hs ms d (c.requires.may ms names d program thread)
    (c.requires.goes_on ms names d program thread) in
    let out = c.if-not-has_room.ensures.full ms names d s program thread is in
    out_there ws hs ms d s is out.0 out.1

pub returns-in-Err-clause-answer : goal.returns-in-Err-clause-answer
returns-in-Err-clause-answer c = λ ms names d program thread.
    let ws = c.args.shared.now.words.items in
    let hs = c.args.holders.now in
    let may = c.requires.may ms names d program thread in
    let (s, is) = next_step ws hs ms d may (c.requires.goes_on ms names d program thread) in
    let begins = begins_call d.activations (c.requires.goes_on ms names d program thread)
    (λ a older same. c.in-Err.ensures.calls ms names d a older program thread same) in
    call_there ws hs ms d s is (c.in-Err.ensures.quiet ms names d s program thread is) begins

pub bad_at-requires : goal.bad_at-requires
bad_at-requires c = goes_from_stands c.args.program.now c.thread_step.new.config c.args.shared.now.words.items
    (∥∥₁_map c.requires.stands (λ t.
    let ws = c.args.shared.now.words.items in
    let may = c.requires.may t.modules t.names t.c t.is_program t.is_thread in
    let (s, is) = next_step ws c.args.holders.now t.modules t.c may
    (c.requires.goes_on t.modules t.names t.c t.is_program t.is_thread) in
    let (acts, next, words) = c.in-Ok.ensures.taken t.modules t.names t.c s t.is_program t.is_thread is in
    let stays = bad_stays (env_of t.modules) ws t.c s c.in-Bad.why is (sym acts ∙ c.in-Bad.is) in
    record {
      modules = t.modules;
      names = t.names;
      c = t.c;
      newest = t.newest;
      older = t.older;
      is_program = t.is_program;
      is_thread = subst (IsThread c.args.program.now c.thread_step.new.config) stays.0 next;
      sound = t.sound;
      words = t.words;
      going = t.going;
    }))

pub returns-in-Bad-clause-unmoved : goal.returns-in-Bad-clause-unmoved
returns-in-Bad-clause-unmoved c = λ ms names d program thread.
    let ws = c.args.shared.now.words.items in
    let may = c.requires.may ms names d program thread in
    let (s, is) = next_step ws c.args.holders.now ms d may (c.requires.goes_on ms names d program thread) in
    let (acts, next, words) = c.in-Ok.ensures.taken ms names d s program thread is in
    let stays = bad_stays (env_of ms) ws d s c.in-Bad.why is (sym acts ∙ c.in-Bad.is) in
    record {
      thread = subst (IsThread c.args.program.now c.thread_step.new.config) stays.0 next;
      words_are = words ∙ stays.1;
      held_is = refl;
      put_is = c.has_room.ensures.same;
    }

pub returns-in-Bad-clause-answer : goal.returns-in-Bad-clause-answer
returns-in-Bad-clause-answer c = λ ms names d program thread.
    let ws = c.args.shared.now.words.items in
    let hs = c.args.holders.now in
    let may = c.requires.may ms names d program thread in
    let (s, is) = next_step ws hs ms d may (c.requires.goes_on ms names d program thread) in
    let (acts, next, words) = c.in-Ok.ensures.taken ms names d s program thread is in
    let is_bad = sym acts ∙ c.in-Bad.is in
    let stays = bad_stays (env_of ms) ws d s c.in-Bad.why is is_bad in
    let same = subst (IsThread c.args.program.now c.thread_step.new.config) stays.0 next in
    answers_bad d.activations (state_in ws hs ms d) c.bad_at.result c.in-Bad.why s.unit s.place
    (c.bad_at.ensures ws ms names d s program same is) (bad_there ws hs ms d s is c.in-Bad.why is_bad)

pub put-requires : goal.put-requires
put-requires c = λ n out. ∥∥₁_elim c.requires.stands le_prop (λ t.
    let may = c.requires.may t.modules t.names t.c t.is_program t.is_thread in
    let (s, is) = next_step c.args.shared.now.words.items c.args.holders.now t.modules t.c may
    (c.requires.goes_on t.modules t.names t.c t.is_program t.is_thread) in
    let (acts, next, words) = c.in-Ok.ensures.taken t.modules t.names t.c s t.is_program t.is_thread is in
    c.if-not-has_room.ensures.room t.modules t.names t.c s t.is_program t.is_thread is n (sym acts ∙ out))

pub returns-clause-taken : goal.returns-clause-taken
returns-clause-taken c = λ ms names d program thread.
    let ws = c.args.shared.now.words.items in
    let hs = c.args.holders.now in
    let may = c.requires.may ms names d program thread in
    let (s, is) = next_step ws hs ms d may (c.requires.goes_on ms names d program thread) in
    let free = free_from ws hs ms d s may is (c.requires.free ms names d s program thread is) in
    let (acts, next, words) = c.in-Ok.ensures.taken ms names d s program thread is in
    is_running (state_in ws hs ms d) s _ (runs_there ws hs ms d s is free
    (λ why is_bad. c.in_default.not-Bad why (acts ∙ is_bad))) (record {
      next = next;
      words_are = words;
      held_is = c.hold.ensures ∙ ap (λ a. holders_after a c.args.thread hs) acts;
      put_is = c.put.ensures ∙ ap (λ out. out_after c.in-Ok.act c.args.thread out) c.has_room.ensures.same
          ∙ ap (λ a. out_after a c.args.thread c.args.out.now.items) acts;
    })
