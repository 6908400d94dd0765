-- The list that the loop has made, with what is made of one instruction more.
use Rattle.std.proofs.Common.{List, [], ◌∷◌, ◌++◌, sym, subst, append-nil, append_assoc}
use Rattle.cas_trial.specs.declared.lowering.High.{High}
use Rattle.cas_trial.specs.declared.lowering.Low.{Low}
use Rattle.cas_trial.specs.Lowering.Makes.{MakesOne, Makes, no_more, one_more}

pub made_more : {ts : List Low} {is : List High} → Makes ts is → (ls : List Low) (i : High) → MakesOne ls i →
    Makes (ts ++ ls) (is ++ i ∷ [])
made_more no_more ls i one = subst (λ ks. Makes ks (i ∷ [])) (append-nil ls) (one_more one no_more)
made_more (one_more {ls = ks} {ts = ts} {i = j} {is = is} first rest) ls i one =
    subst (λ us. Makes us (j ∷ (is ++ i ∷ []))) (sym (append_assoc ks ts ls)) (one_more first (made_more rest ls i one))
