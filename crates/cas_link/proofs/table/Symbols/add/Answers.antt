use Rattle.std.proofs.Common.{ℕ, List, ◌∙◌, ap, sym, is_some, ◌≡◌, true}
use Rattle.std.specs.Str.{bytes_eq}
use Rattle.std.proofs.lemmas.Slice.Eq.{bytes_eq-Decides}
use Rattle.cas_link.specs.Rows.{found}
use Rattle.cas_link.proofs.Finding.{found-again, none-is_some}
use Rattle.cas_link.proofs.table.Symbols.add.Goals as goal

sound : (a b : List ℕ) → bytes_eq a b ≡ true → a ≡ b
sound a b e = (bytes_eq-Decides a b).0 e

pub returns-then-has : goal.returns-then-has
returns-then-has c =
    let text = c.as_str-text.ensures.text in
    found-again bytes_eq sound c.args.self.now c.args.name.now c.args.number
    (ap (λ name. is_some (found c.args.self.now name)) (sym text) ∙ sym c.has.ensures ∙ c.if-has.true)

pub push-requires : goal.push-requires
push-requires c = none-is_some (found c.args.self.now c.as_str-text.result.now) (sym c.has.ensures ∙ c.if-has.false)
