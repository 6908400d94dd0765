use Rattle.std.proofs.Common.{sym, ap, ◌∙◌}
use Rattle.cas_turn.proofs.Stands_at.{free_from, goes_from_stands, next_step, shown_there, stands, told_to_go_on, waits_there}
use Rattle.cas_turn.specs.Answers.{state_shown}
use Rattle.cas_turn.proofs.standing.state_at.Goals as goal

pub wait_of-requires : goal.wait_of-requires
wait_of-requires c =
    let p = c.args.program.now in
    let k = c.args.config.now in
    let ws = c.args.shared.now.words.items in
    let goes_on = told_to_go_on p k c.has_ended.result c.has_ended.ensures c.if-has_ended.false in
    goes_from_stands p k ws (stands p k ws c.args.holders.now c.requires.there c.requires.may goes_on)

pub free_state-requires : goal.free_state-requires
free_state-requires c =
    let p = c.args.program.now in
    let k = c.args.config.now in
    let goes_on = told_to_go_on p k c.has_ended.result c.has_ended.ensures c.if-has_ended.false in
    stands p k c.args.shared.now.words.items c.args.holders.now c.requires.there c.requires.may goes_on

pub returns-in-Some : goal.returns-in-Some
returns-in-Some c = λ ms names d program thread.
    let p = c.args.program.now in
    let k = c.args.config.now in
    let ws = c.args.shared.now.words.items in
    let hs = c.args.holders.now in
    let goes_on = told_to_go_on p k c.has_ended.result c.has_ended.ensures c.if-has_ended.false in
    let (s, is) = next_step ws hs ms d (c.requires.may ms names d program thread) (goes_on ms names d program thread) in
    let told = c.in-Some.ensures.waits ws ms names d s program thread is in
    sym (ap state_shown (waits_there ws hs ms d s is c.in-Some.lock c.in-Some.holder told.0 told.1))

pub returns-in-None : goal.returns-in-None
returns-in-None c = λ ms names d program thread.
    let p = c.args.program.now in
    let k = c.args.config.now in
    let ws = c.args.shared.now.words.items in
    let hs = c.args.holders.now in
    let may = c.requires.may ms names d program thread in
    let goes_on = told_to_go_on p k c.has_ended.result c.has_ended.ensures c.if-has_ended.false in
    let (s, is) = next_step ws hs ms d may (goes_on ms names d program thread) in
    let free = free_from ws hs ms d s may is (c.in-None.ensures.free ws ms names d s program thread is) in
    c.free_state.ensures ms names d s program thread is ∙ sym (shown_there ws hs ms d s is free)
