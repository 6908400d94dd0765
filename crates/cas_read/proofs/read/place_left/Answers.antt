use Rattle.std.proofs.Common.{◌≡◌, ℕ, arith, sym, ◌∙◌, ap}
use Rattle.cas_parse.specs.Left.{place_left}
use Rattle.cas_parse.proofs.Faults.{place_left_end}
use Rattle.cas_read.proofs.Reader.{place_left_or}
use Rattle.cas_read.proofs.read.place_left.Goals as goal

pub returns-in-Some : goal.returns-in-Some
returns-in-Some c =
    let t = c.in-Some.token.now in
    let found = c.in-Some.ensures.lookup in
    place_left_or c.args.tokens.now c.args.end c.args.left t t (omega (arith, found.3.0)) c.requires found.1

pub returns-in-None : goal.returns-in-None
returns-in-None c =
    let found = c.in-None.ensures.lookup in
    let none : c.args.left ≡ 0 = omega (arith, found.3) in
    sym (ap (λ (left : ℕ). place_left c.args.tokens.now c.args.end left) none
    ∙ place_left_end c.args.tokens.now c.args.end)
