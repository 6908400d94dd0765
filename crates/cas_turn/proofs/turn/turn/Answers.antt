use Rattle.cas_turn.proofs.Stands_at.{goes_from_stands, next_step, stands, told_to_go_on, waits_there}
use Rattle.cas_turn.proofs.turn.turn.Goals as goal

pub wait_of-requires : goal.wait_of-requires
wait_of-requires c =
    let p = c.args.program.now in
    let k = c.args.config.now in
    let ws = c.args.shared.now.words.items in
    let goes_on = told_to_go_on p k c.has_ended.result c.has_ended.ensures c.if-has_ended.false in
    goes_from_stands p k ws (stands p k ws c.args.holders.now c.requires.there c.requires.may goes_on)

pub returns-in-Some-clause-answer : goal.returns-in-Some-clause-answer
returns-in-Some-clause-answer c = λ ms names d program thread.
    let p = c.args.program.now in
    let k = c.args.config.now in
    let ws = c.args.shared.now.words.items in
    let hs = c.args.holders.now in
    let goes_on = told_to_go_on p k c.has_ended.result c.has_ended.ensures c.if-has_ended.false in
    let (s, is) = next_step ws hs ms d (c.requires.may ms names d program thread) (goes_on ms names d program thread) in
    let told = c.in-Some.ensures.waits ws ms names d s program thread is in
    waits_there ws hs ms d s is c.in-Some.lock c.in-Some.holder told.0 told.1

pub run-requires-clause-stands : goal.run-requires-clause-stands
run-requires-clause-stands c =
    let p = c.args.program.now in
    let k = c.args.config.now in
    let goes_on = told_to_go_on p k c.has_ended.result c.has_ended.ensures c.if-has_ended.false in
    stands p k c.args.shared.now.words.items c.args.holders.now c.requires.there c.requires.may goes_on

pub run-requires-clause-goes_on : goal.run-requires-clause-goes_on
run-requires-clause-goes_on c = told_to_go_on c.args.program.now c.args.config.now c.has_ended.result
    c.has_ended.ensures c.if-has_ended.false
