use Rattle.std.proofs.Common.{[], ◌∷◌, ◌++◌, sym, ap, ◌∙◌, subst, append-nil, append_assoc}
use Rattle.cas_trial.specs.declared.lowering.Low.TheVariants as low
use Rattle.cas_trial.specs.Lowering.Makes.{MakesOne, skip, take, show, give}
use Rattle.cas_trial.proofs.lowering.add_made.Goals as goal

pub returns-in-Skip : goal.returns-in-Skip
returns-in-Skip c = ([], sym (append-nil c.args.made.now.items), subst (λ i. MakesOne [] i) (sym c.in-Skip.is) skip)

pub returns-in_ok-push-in-Take : goal.returns-in_ok-push-in-Take
returns-in_ok-push-in-Take c =
    (low.Take ∷ [], c.in_ok-push-in-Take.ensures.items, subst (λ i. MakesOne (low.Take ∷ []) i) (sym c.in-Take.is) take)

pub returns-in_ok-push-in-Show-2 : goal.returns-in_ok-push-in-Show-2
returns-in_ok-push-in-Show-2 c =
    let first = c.in_ok-push-in-Show.ensures.items in
    let second = c.in_ok-push-in-Show-2.ensures.items in (
      low.Read ∷ low.Put ∷ [],
      second ∙ ap (λ ts. ts ++ low.Put ∷ []) first
          ∙ append_assoc c.args.made.now.items (low.Read ∷ []) (low.Put ∷ []),
      subst
          (λ i. MakesOne (low.Read ∷ low.Put ∷ []) i) (sym c.in-Show.is) show,
    )

pub returns-in_ok-push-in-Give : goal.returns-in_ok-push-in-Give
returns-in_ok-push-in-Give c =
    (low.Give ∷ [], c.in_ok-push-in-Give.ensures.items, subst (λ i. MakesOne (low.Give ∷ []) i) (sym c.in-Give.is) give)
