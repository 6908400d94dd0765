-- Which refusals are answered: at the exit of a `?`, and from item to item.
use Rattle.std.proofs.Common.{◌≡◌, ◌≢◌, ℕ, List, [], ◌∷◌, ◌++◌, map, Option, Some, None, Result, Ok, Err, ap, refl, sym, ◌∙◌, subst}
use Rattle.std.specs.List.{cons_option}
use Rattle.std.specs.Option.{option_or}
use Rattle.std.specs.Result.{IsErrAnd}
use Rattle.std.proofs.lemmas.List.{append_assoc, map_push}
use Rattle.cas_settle.specs.declared.link.LinkFault.{LinkFault}
use Rattle.cas_settle.specs.declared.link.LinkFault.TheVariants.{Memory}
use Rattle.cas_settle.specs.Settle.{first_fault}
use Rattle.cas_settle.specs.Refusal.{IsRefusedBy}

-- a fault that is passed on
pub passed_on : {T : Type 0} (result : Result T LinkFault) (given : LinkFault) (fault : Option LinkFault)
    → IsErrAnd result (λ passed. passed ≡ given) → (given ≢ Memory → fault ≡ Some given) → IsRefusedBy result fault
passed_on (Ok x) given fault passed says = absurd passed
passed_on (Err e) given fault passed says = λ other. says (λ is. other (passed ∙ is)) ∙ ap Some (sym passed)

option_or-assoc : {X : Type 0} (o p q : Option X) → option_or (option_or o p) q ≡ option_or o (option_or p q)
option_or-assoc None p q = refl
option_or-assoc (Some x) p q = refl

module _ {X : Type 0} (fault_of : X → Option LinkFault) where
  -- the first fault of two lists
  pub first_fault-append : (xs ys : List X) → first_fault fault_of (xs ++ ys) ≡ option_or (first_fault fault_of xs)
      (first_fault fault_of ys)
  first_fault-append [] ys = refl
  first_fault-append (x ∷ xs) ys =
      ap (option_or (fault_of x)) (first_fault-append xs ys)
      ∙ sym (option_or-assoc (fault_of x) (first_fault fault_of xs) (first_fault fault_of ys))

  module _ (all now one later : List X) (is : now ≡ one ++ later)
      (so_far : first_fault fault_of now ≡ first_fault fault_of all) where
    -- no fault up to here, so the first comes later
    pub first_fault-later : first_fault fault_of one ≡ None → first_fault fault_of later ≡ first_fault fault_of all
    first_fault-later none =
        sym (ap (λ o. option_or o (first_fault fault_of later)) none)
        ∙ sym (first_fault-append one later) ∙ ap (first_fault fault_of) (sym is) ∙ so_far

    -- a fault here is the first
    pub first_fault-here : (given : LinkFault) → first_fault fault_of one ≡ Some given →
        first_fault fault_of all ≡ Some given
    first_fault-here given some =
        sym so_far ∙ ap (first_fault fault_of) is ∙ first_fault-append one later
        ∙ ap (λ o. option_or o (first_fault fault_of later)) some

-- one more answer
pub map-step : {X Y : Type 0} (f : X → Option Y) (ys new : List Y) (x : X) (y : Y) (later : List X)
    → new ≡ ys ++ y ∷ [] → f x ≡ Some y
    → map (λ y. Some y) new ++ map f later ≡ map (λ y. Some y) ys ++ map f (x ∷ later)
map-step f ys new x y later pushed is =
    ap (λ new. map (λ y. Some y) new ++ map f later) pushed
    ∙ ap (λ front. front ++ map f later) (map_push (λ y. Some y) ys y)
    ∙ append_assoc (map (λ y. Some y) ys) (Some y ∷ []) (map f later)
    ∙ ap (λ o. map (λ y. Some y) ys ++ o ∷ map f later) (sym is)

-- an option at the end of a list, and what comes after it
pub append-cons_option : {X : Type 0} (xs : List X) (o : Option X) (ys : List X) →
    (xs ++ cons_option o []) ++ ys ≡ xs ++ cons_option o ys
append-cons_option xs None ys = append_assoc xs [] ys
append-cons_option xs (Some x) ys = append_assoc xs (x ∷ []) ys
