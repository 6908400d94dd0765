-- Items that are read one after another.
use Rattle.std.proofs.Common.{◌≡◌, List, [], ◌∷◌, ◌++◌, Result, Ok, Err, refl, ap, sym, append_assoc}
use Rattle.cas_object_line.specs.declared.fault.LineFault.{LineFault}
use Rattle.cas_object_line.specs.Instructions.{made_of}
use Rattle.cas_object_decl.specs.Chain.{all_of}

-- what was read, before what is read of the others
abbrev pub behind : {B : Type 0} → List B → Result (List B) LineFault → Result (List B) LineFault
behind found others = made_of (λ ys. found ++ ys) others

behind-put : {B : Type 0} (found : List B) (y : B) (others : Result (List B) LineFault) →
    behind found (made_of (λ ys. y ∷ ys) others) ≡ behind (found ++ y ∷ []) others
behind-put found y (Ok ys) = ap Ok (sym (append_assoc found (y ∷ []) ys))
behind-put found y (Err fault) = refl

-- the next item is read
pub behind_next : {A B : Type 0} (read : A → Result B LineFault) (found : List B) (x : A) (xs : List A) (y : B) →
    read x ≡ Ok y → behind found (all_of read (x ∷ xs)) ≡ behind (found ++ y ∷ []) (all_of read xs)
behind_next read found x xs y e = rw e (behind-put found y (all_of read xs))

-- it can't be read
pub behind_fault : {A B : Type 0} (read : A → Result B LineFault) (found : List B) (x : A) (xs : List A)
    (fault : LineFault) → read x ≡ Err fault → behind found (all_of read (x ∷ xs)) ≡ Err fault
behind_fault read found x xs fault e = rw e refl
