-- What holds of a part, if it is read.
use Rattle.std.proofs.Common.{◌≡◌, Bool, true, false, List, [], ◌∷◌, length, suc, Result, Ok, Err, refl, ap, subst, cond}
use Rattle.cas_object_line.specs.declared.fault.LineFault.{LineFault}
use Rattle.cas_object_line.specs.Instructions.{made_of}
use Rattle.cas_object_decl.specs.Chain.{and_then, all_of}

-- this holds of what is read
abbrev pub Gives : {A E : Type 0} → (A → Type 0) → Result A E → Type 0
Gives P (Ok x) = P x
Gives P (Err fault) = Unit {0}

pub gives-fault : {A E : Type 0} (P : A → Type 0) (fault : E) → Gives P (Err fault)
gives-fault P fault = tt

pub gives-if : {A E : Type 0} (P : A → Type 0) (b : Bool) (x y : Result A E) → (b ≡ true → Gives P x) → Gives P y →
    Gives P (cond b x y)
gives-if P true x y f h = f refl
gives-if P false x y f h = h

pub gives-then : {A B : Type 0} (P : B → Type 0) (Q : A → Type 0) (read : A → Result B LineFault)
    (r : Result A LineFault) → Gives Q r → ((x : A) → Q x → Gives P (read x)) → Gives P (and_then read r)
gives-then P Q read (Ok x) h f = f x h
gives-then P Q read (Err fault) h f = tt

pub gives-made : {A B : Type 0} (P : B → Type 0) (Q : A → Type 0) (make : A → B) (r : Result A LineFault) →
    Gives Q r → ((x : A) → Q x → P (make x)) → Gives P (made_of make r)
gives-made P Q make (Ok x) h f = f x h
gives-made P Q make (Err fault) h f = tt

-- anything may be read
pub gives-any : {A E : Type 0} (r : Result A E) → Gives (λ x. Unit {0}) r
gives-any (Ok x) = tt
gives-any (Err fault) = tt

pub gives-of : {A E : Type 0} (P : A → Type 0) (r : Result A E) (x : A) → Gives P r → r ≡ Ok x → P x
gives-of P r x h e = subst (Gives P) e h

-- as many parts as items
pub gives-all : {A B : Type 0} (read : A → Result B LineFault) (xs : List A) →
    Gives (λ ys. length ys ≡ length xs) (all_of read xs)
gives-all read [] = refl
gives-all read (x ∷ xs) =
    gives-then (λ ys. length ys ≡ suc (length xs)) (λ y. Unit {0}) _ (read x) (gives-any (read x))
    (λ y any. gives-made (λ ys. length ys ≡ suc (length xs)) (λ ys. length ys ≡ length xs) (λ ys. y ∷ ys)
    (all_of read xs) (gives-all read xs) (λ ys same. ap suc same))

pub gives-more : {A E : Type 0} (P Q : A → Type 0) (r : Result A E) → Gives Q r → ((x : A) → Q x → P x) → Gives P r
gives-more P Q (Ok x) h f = f x h
gives-more P Q (Err fault) h f = tt
