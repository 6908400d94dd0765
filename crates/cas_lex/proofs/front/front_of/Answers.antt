use Rattle.std.proofs.Common.{◌≡◌, ◌<◌, ◌∙◌, ℕ, List, [], ◌∷◌, length, get_or, take_while, true, refl, sym, arith}
use Rattle.cas_base.specs.Name.{is_first_byte, is_name_byte}
use Rattle.cas_lex.specs.Front.{front, front_at, name_at}
use Rattle.cas_lex.proofs.Names.{list_all-take_while}
use Rattle.cas_lex.proofs.front.front_of.Goals as goal

front-name : (text : List ℕ) → 0 < length text → is_first_byte (get_or text 0 0) ≡ true →
    front text ≡ name_at (take_while is_name_byte text)
unfolding front_at
front-name [] some first = absurd (omega arith)
front-name (b ∷ bs) some first = rw first refl

pub name_at-requires-clause-goes_on : goal.name_at-requires-clause-goes_on
name_at-requires-clause-goes_on c = rw c.name_text.ensures (list_all-take_while is_name_byte c.args.text.now)

pub returns-then-begins_name : goal.returns-then-begins_name
returns-then-begins_name c =
    let is : front c.args.text.now ≡ name_at (take_while is_name_byte c.args.text.now) =
    front-name c.args.text.now (omega arith) (sym c.begins_name.ensures ∙ c.if-begins_name.true)
    in
    rw (is, sym c.name_text.ensures) c.name_at.ensures
