-- A text has one list of tokens, and they stop at one place.
use Rattle.std.proofs.Common.{◌≡◌, ℕ, List, take, drop, refl, subst}
use Rattle.cas_base.specs.declared.place.Place.{Place}
use Rattle.cas_lex.specs.declared.code.ReadCode.{ReadCode}
use Rattle.cas_lex.specs.declared.token.Token.{Token}
use Rattle.cas_lex.specs.Lexed.{Stop, at_end, at_fault, Lexed, ends, skips, takes, fails, HasTokens, HasFault, broken, met}
use Rattle.cas_lex.specs.Places.{behind}

-- from one place on a text has one list of tokens, and one end of them
pub Lexed-once : {p : Place} {text : List ℕ} {ts : List Token} {stop : Stop} → Lexed p text ts stop →
    (us : List Token) (other : Stop) → Lexed p text us other → (ts ≡ us) × (stop ≡ other)
Lexed-once (ends p) us other (ends _) = (refl, refl)
Lexed-once (ends p) us other (skips _ _ n vs e some h r) = absurd (some refl)
Lexed-once (ends p) us other (takes _ _ kind n vs e some h r) = absurd (some refl)
Lexed-once (ends p) us other (fails _ _ code some h) = absurd (some refl)
Lexed-once (skips p _ n vs e some h r) us other (ends _) = absurd (some refl)
Lexed-once (skips p text n vs e some h r) us other (skips _ _ n' vs' e' some' h' r') =
    let same : n' ≡ n = cc in
    Lexed-once r vs' e' (subst (λ m. Lexed (behind p (take m text)) (drop m text) vs' e') same r')
Lexed-once (skips p text n vs e some h r) us other (takes _ _ kind n' vs' e' some' h' r') = cc
Lexed-once (skips p text n vs e some h r) us other (fails _ _ code some' h') = cc
Lexed-once (takes p _ kind n vs e some h r) us other (ends _) = absurd (some refl)
Lexed-once (takes p text kind n vs e some h r) us other (skips _ _ n' vs' e' some' h' r') = cc
Lexed-once (takes p text kind n vs e some h r) us other (takes _ _ kind' n' vs' e' some' h' r') =
    let same : n' ≡ n = cc in
    let alike : kind ≡ kind' = cc in
    let rest = Lexed-once r vs' e' (subst (λ m. Lexed (behind p (take m text)) (drop m text) vs' e') same r') in
    (rw (alike, rest.0) refl, rest.1)
Lexed-once (takes p text kind n vs e some h r) us other (fails _ _ code some' h') = cc
Lexed-once (fails p _ code some h) us other (ends _) = absurd (some refl)
Lexed-once (fails p text code some h) us other (skips _ _ n' vs' e' some' h' r') = cc
Lexed-once (fails p text code some h) us other (takes _ _ kind n' vs' e' some' h' r') = cc
Lexed-once (fails p text code some h) us other (fails _ _ code' some' h') = let same : code ≡ code' =
    cc in (refl, rw same refl)

-- a text has one list of tokens
pub HasTokens-once : (text : List ℕ) (ts us : List Token) → HasTokens text ts → HasTokens text us → ts ≡ us
HasTokens-once text ts us h k = (Lexed-once h.1 us at_end k.1).0

-- and then no fault
pub HasTokens-no_fault : (text : List ℕ) (ts : List Token) (code : ReadCode) (p : Place) → HasTokens text ts →
    HasFault text code p → ⊥
HasTokens-no_fault text ts code p h (broken _ _ bad is) = bad h.0
HasTokens-no_fault text ts code p h (met _ us _ _ good lexed) = let same =
    (Lexed-once h.1 us (at_fault code p) lexed).1 in cc

-- or one first fault
pub HasFault-once : (text : List ℕ) (c d : ReadCode) (p q : Place) → HasFault text c p → HasFault text d q → (c ≡ d)
    × (p ≡ q)
HasFault-once text c d p q (broken _ _ bad is) (broken _ _ bad' is') = (refl, cc)
HasFault-once text c d p q (broken _ _ bad is) (met _ us _ _ good lexed) = absurd (bad good)
HasFault-once text c d p q (met _ us _ _ good lexed) (broken _ _ bad is) = absurd (bad good)
HasFault-once text c d p q (met _ us _ _ good lexed) (met _ vs _ _ good' lexed') =
    let same = (Lexed-once lexed vs (at_fault d q) lexed').1 in ((cc), (cc))
