use Rattle.std.proofs.Common.{◌≡◌, List, [], ◌∷◌, map, refl, ap, ◌∙◌, rules}
use borrow.Author.Tests.{tests}
use Rattle.std.proofs.lemmas.Iterator.Consumers.{YieldsList-at, YieldsList-end}
use Rattle.std.proofs.lemmas.Iterator.Splits.{YieldsList-from_slice_split}
use Rattle.cas_object_decl.specs.Fields.{field_of, is_space}
use Rattle.cas_object_decl.proofs.field.fields.Goals as goal

map-of-map : {A B C : Type 0} (f : B → C) (g : A → B) (xs : List A) → map (λ x. f (g x)) xs ≡ map f (map g xs)
map-of-map f g [] = refl
map-of-map f g (x ∷ xs) = ap (λ ys. f (g x) ∷ ys) (map-of-map f g xs)

pub returns : goal.returns
returns c =
    let s = c.split-part-items.ensures in
    let parts = YieldsList-end
    (YieldsList-at c.into_iter-part-iterator.ensures.into_iter_gives
    (YieldsList-from_slice_split _ is_space c.args.pieces.now s.rest s.done s.closure
    (λ x r q k. search (rules, tests))))
    c.loop-part.yielded _ c.loop-part.yielded_by _ _ c.in-None.is c.next.ensures.steps in
    c.loop-part.invariant
    ∙ (map-of-map field_of (λ part. part.now) c.loop-part.yielded ∙ ap (map field_of) parts.0)
