-- A declaration put at the end of the last unit.
use Rattle.std.proofs.Common.{◌≡◌, ℕ, suc, zero, ◌+◌, ◌-◌, ◌<◌, List, [], ◌∷◌, ◌++◌, length, get_or, set, ap, refl, sym, ◌∙◌, subst, arith}
use Rattle.cas_settle.specs.Roster.{add_to_last}

-- the last unit, written back with one more item
pub set-last : {X : Type 0} (units : List (List X)) (last : ℕ) (old : List X) (x : X) → length units ≡ suc last →
    old ≡ get_or units last old → set units last (old ++ x ∷ []) ≡ add_to_last units x
set-last [] last old x len at = absurd (omega arith)
set-last (unit ∷ []) zero old x len at = ap (λ u. (u ++ x ∷ []) ∷ []) at
set-last (unit ∷ []) (suc last) old x len at = absurd (omega arith)
set-last (unit ∷ next ∷ units) zero old x len at = absurd (omega arith)
set-last (unit ∷ next ∷ units) (suc last) old x len at =
    ap (λ us. unit ∷ us) (set-last (next ∷ units) last old x (omega arith) at)

-- the units stay as many
pub length-add_to_last : {X : Type 0} (units : List (List X)) (x : X) → length (add_to_last units x) ≡ length units
length-add_to_last [] x = refl
length-add_to_last (unit ∷ []) x = refl
length-add_to_last (unit ∷ next ∷ units) x = ap suc (length-add_to_last (next ∷ units) x)
