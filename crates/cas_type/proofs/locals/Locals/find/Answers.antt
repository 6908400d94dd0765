use Rattle.std.proofs.Common.{◌≡◌, ◌<◌, length, reverse, get_or, is_some, ap, sym, subst, ◌∙◌, arith}
use Rattle.std.proofs.lemmas.List.{length-map, length-reverse, reverse-reverse}
use Rattle.cas_type.specs.View.{bound_of, newest_of}
use Rattle.cas_type.proofs.Locals_named.{Within, read_at, read_newest, unnamed, within}
use Rattle.cas_typed.specs.Scopes.{local_named, variable}
use Rattle.cas_type.specs.declared.locals.Visible.{Visible}
use Rattle.cas_type.proofs.locals.Locals.find.Goals as goal

pub index-requires-in-Some : goal.index-requires-in-Some
index-requires-in-Some c =
    let vs = c.args.self.now in
    let stack = c.self.inside.stack.items in
    let inside : c.in-Some.index < length vs = subst (Within (length vs)) (sym c.index.ensures ∙ c.in-Some.is)
    (within vs c.args.name.now) in
    let counted : length vs ≡ length stack = ap length (sym c.self.view_is) ∙ length-map (reverse stack) bound_of
    ∙ length-reverse stack in
    omega (arith, inside, counted)

pub returns-in-Some : goal.returns-in-Some
returns-in-Some c = λ otherwise.
    let name = c.args.name.now in
    let i = c.in-Some.index in
    let v = c.index-in-Some.result.now in
    let vs = reverse c.self.inside.stack.items in
    ap (λ (w : Visible). variable w.number w.ty) (c.index-in-Some.ensures
    ∙ ap (λ l. get_or l i v) (sym (reverse-reverse c.self.inside.stack.items)))
    ∙ ap (λ found. read_at vs found otherwise v) (sym c.in-Some.is ∙ c.index.ensures
    ∙ ap (λ all. newest_of all name) (sym c.self.view_is))
    ∙ sym (read_newest vs name otherwise v)
    ∙ ap (λ all. local_named all name otherwise) c.self.view_is

pub returns-in-None : goal.returns-in-None
returns-in-None c = λ otherwise.
    sym (unnamed c.args.self.now c.args.name.now otherwise (ap is_some (sym c.index.ensures ∙ c.in-None.is)))
