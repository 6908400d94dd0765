-- What follows from what a call wrote.
use Rattle.std.proofs.Common.{◌≡◌, ℕ, List, Result, Ok, Err, ap, ◌∙◌}
use Rattle.std.specs.Prelude.{ℤ, IfOk}
use Rattle.cas_object_print.specs.Page.{followed_by, integer}

pub IfOk-map : {A E : Type 0} (r : Result A E) (P Q : A → Type 0) → ((x : A) → P x → Q x) → IfOk r P → IfOk r Q
IfOk-map (Ok x) P Q f h = f x h
IfOk-map (Err e) P Q f h = tt

-- an integer that is written is any that it equals
pub same_integer : (new old rest : List ℕ) (z y : ℤ) → z ≡ y → followed_by new rest ≡ followed_by old (integer z rest) →
    followed_by new rest ≡ followed_by old (integer y rest)
same_integer new old rest z y e h = h ∙ ap (λ (x : ℤ). followed_by old (integer x rest)) e
