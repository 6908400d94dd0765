-- Whether the first of the items outputs a word, by equal rows and items.
use Rattle.std.proofs.Common.{◌≡◌, Bool, List, reverse, sym, subst}
use Rattle.cas_step.specs.Continuation.{ContItem}
use Rattle.cas_typed.specs.declared.rows.StmtRow.{StmtRow}
use Rattle.cas_thread.specs.Effects.{prints_first}
use Rattle.cas_thread.specs.Continuations.{IsContinuation}
use Rattle.cas_thread.specs.declared.continuation.ContItem as code

pub prints_shown : (rows : List StmtRow) (xs : List code.ContItem) (others : List StmtRow) (ys : List code.ContItem)
    (cont : List ContItem) (b : Bool) → rows ≡ others → xs ≡ ys → IsContinuation others (reverse ys) cont →
    ((it : List ContItem) → IsContinuation rows (reverse xs) it → b ≡ prints_first it) → b ≡ prints_first cont
prints_shown rows xs others ys cont b same one shows is =
    is cont (subst (λ zs. IsContinuation rows (reverse zs) cont) (sym one)
    (subst (λ rs. IsContinuation rs (reverse ys) cont) (sym same) shows))
