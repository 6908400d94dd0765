-- What the tests of the definitions tell.
use Rattle.std.proofs.Common.{◌≡◌, ℕ, List, [], ◌∷◌, Bool, true, false, ◌&&◌, if◌then◌else◌, nat_eq, Option, Some, None, zero, suc, refl, sym, ap, ◌∙◌, arith, eqb-true}
use Rattle.std.proofs.lemmas.Bool.Decides.{nat_tests}
use Rattle.cas_base.specs.declared.kind.Kind.{Kind}
use Rattle.cas_base.specs.declared.kind.Kind.TheVariants.{I8, U8, I16, U16, I32, U32}
use Rattle.cas_runs.specs.Label.{NameBytes, same_name, Object, Owner, Inside, Outside}
use Rattle.cas_runs.specs.Naming.{Home, Own, Theirs, same_home, kind_number, same_owner, same_content, same_contents, same_state, same_object, same_objects}

pub and_both : (a b : Bool) → (a && b) ≡ true → (a ≡ true) × (b ≡ true)
and_both true true e = (refl, refl)
and_both true false e = absurd (cc e)
and_both false b e = absurd (cc e)

pub both_true : (a b : Bool) → a ≡ true → b ≡ true → (a && b) ≡ true
both_true true true d e = refl
both_true true false d e = absurd (cc e)
both_true false b d e = absurd (cc d)

pub true_or_false : (b : Bool) → (b ≡ true → ⊥) → b ≡ false
true_or_false true h = absurd (h refl)
true_or_false false h = refl

pub eq_self : (n : ℕ) → nat_eq n n ≡ true
eq_self n = grind (arith, nat_tests)

pub same_name_self : (a : NameBytes) → same_name a a ≡ true
same_name_self [] = refl
same_name_self (a ∷ rest) = ap (λ (t : Bool). if t then same_name rest rest else false) (eq_self a)
    ∙ same_name_self rest

name_from : (a b : ℕ) (xs ys : NameBytes) (t : Bool) → nat_eq a b ≡ t → (same_name xs ys ≡ true → xs ≡ ys) →
    (if t then same_name xs ys else false) ≡ true → a ∷ xs ≡ b ∷ ys
name_from a b xs ys true e more h = let first : a ≡ b = eqb-true a b e in let rest = more h in cc (first, rest)
name_from a b xs ys false e more h = absurd (cc h)

pub same_name_from : (a b : NameBytes) → same_name a b ≡ true → a ≡ b
same_name_from [] [] e = refl
same_name_from [] (b ∷ ys) e = absurd (cc e)
same_name_from (a ∷ xs) [] e = absurd (cc e)
same_name_from (a ∷ xs) (b ∷ ys) e = name_from a b xs ys (nat_eq a b) refl (same_name_from xs ys) e

pub same_home_self : (h : Home) → same_home h h ≡ true
same_home_self (Own f a b) = both_true _ _ (both_true _ _ (same_name_self f) (eq_self a)) (eq_self b)
same_home_self (Theirs n) = eq_self n

pub same_home_from : (h k : Home) → same_home h k ≡ true → h ≡ k
same_home_from (Own f a b) (Own g c d) e =
    let front = and_both (same_name f g && nat_eq a c) (nat_eq b d) e in
    let names = and_both (same_name f g) (nat_eq a c) front.0 in
    let first = same_name_from f g names.0 in
    let second = eqb-true a c names.1 in
    let third = eqb-true b d front.1 in
    cc (first, second, third)
same_home_from (Own f a b) (Theirs n) e = absurd (cc e)
same_home_from (Theirs n) (Own f a b) e = absurd (cc e)
same_home_from (Theirs n) (Theirs m) e = let same = eqb-true n m e in cc same

same_owner_self : (o : Owner) → same_owner o o ≡ true
same_owner_self Inside = refl
same_owner_self Outside = refl

same_content_self : (c : Option ℕ) → same_content c c ≡ true
same_content_self None = refl
same_content_self (Some w) = eq_self w

same_contents_self : (cs : List (Option ℕ)) → same_contents cs cs ≡ true
same_contents_self [] = refl
same_contents_self (c ∷ cs) = both_true _ _ (same_content_self c) (same_contents_self cs)

same_state_self : (o : Option (List (Option ℕ))) → same_state o o ≡ true
same_state_self None = refl
same_state_self (Some cs) = same_contents_self cs

same_object_self : (o : Object) → same_object o o ≡ true
same_object_self o =
    both_true _ _ (both_true _ _ (both_true _ _ (same_owner_self o.owner) (eq_self (kind_number o.kind)))
    (eq_self o.size)) (same_state_self o.contents)

pub same_objects_self : (os : List Object) → same_objects os os ≡ true
same_objects_self [] = refl
same_objects_self (o ∷ os) = both_true _ _ (same_object_self o) (same_objects_self os)

-- What is the same by its test is equal.

abbrev kind_of : ℕ → Kind
kind_of zero = I8
kind_of (suc zero) = U8
kind_of (suc (suc zero)) = I16
kind_of (suc (suc (suc zero))) = U16
kind_of (suc (suc (suc (suc zero)))) = I32
kind_of (suc (suc (suc (suc (suc n))))) = U32

kind_again : (k : Kind) → kind_of (kind_number k) ≡ k
kind_again I8 = refl
kind_again U8 = refl
kind_again I16 = refl
kind_again U16 = refl
kind_again I32 = refl
kind_again U32 = refl

kind_from : (k j : Kind) → nat_eq (kind_number k) (kind_number j) ≡ true → k ≡ j
kind_from k j e = sym (kind_again k) ∙ ap kind_of (eqb-true (kind_number k) (kind_number j) e) ∙ kind_again j

owner_from : (o p : Owner) → same_owner o p ≡ true → o ≡ p
owner_from Inside Inside e = refl
owner_from Inside Outside e = absurd (cc e)
owner_from Outside Inside e = absurd (cc e)
owner_from Outside Outside e = refl

content_from : (c d : Option ℕ) → same_content c d ≡ true → c ≡ d
content_from None None e = refl
content_from None (Some w) e = absurd (cc e)
content_from (Some v) None e = absurd (cc e)
content_from (Some v) (Some w) e = ap (λ n. Some n) (eqb-true v w e)

contents_from : (cs ds : List (Option ℕ)) → same_contents cs ds ≡ true → cs ≡ ds
contents_from [] [] e = refl
contents_from [] (d ∷ ds) e = absurd (cc e)
contents_from (c ∷ cs) [] e = absurd (cc e)
contents_from (c ∷ cs) (d ∷ ds) e =
    let both = and_both (same_content c d) (same_contents cs ds) e in
    let one = content_from c d both.0 in
    let rest = contents_from cs ds both.1 in
    cc (one, rest)

state_from : (o p : Option (List (Option ℕ))) → same_state o p ≡ true → o ≡ p
state_from None None e = refl
state_from None (Some ws) e = absurd (cc e)
state_from (Some vs) None e = absurd (cc e)
state_from (Some vs) (Some ws) e = ap (λ v. Some v) (contents_from vs ws e)

object_from : (o p : Object) → same_object o p ≡ true → o ≡ p
object_from o p e =
    let one =
    and_both (same_owner o.owner p.owner && nat_eq (kind_number o.kind) (kind_number p.kind)
    && nat_eq o.size p.size) (same_state o.contents p.contents) e in
    let two = and_both (same_owner o.owner p.owner && nat_eq (kind_number o.kind) (kind_number p.kind))
    (nat_eq o.size p.size) one.0 in
    let three = and_both (same_owner o.owner p.owner) (nat_eq (kind_number o.kind) (kind_number p.kind)) two.0 in
    ap (λ (v : Owner). record { owner = v; kind = o.kind; size = o.size; contents = o.contents })
    (owner_from o.owner p.owner three.0)
    ∙ ap (λ (v : Kind). record { owner = p.owner; kind = v; size = o.size; contents = o.contents })
    (kind_from o.kind p.kind three.1)
    ∙ ap (λ (v : ℕ). record { owner = p.owner; kind = p.kind; size = v; contents = o.contents })
    (eqb-true o.size p.size two.1)
    ∙ ap (λ (v : Option (List (Option ℕ))). record { owner = p.owner; kind = p.kind; size = p.size; contents = v })
    (state_from o.contents p.contents one.1)

pub objects_from : (os ps : List Object) → same_objects os ps ≡ true → os ≡ ps
objects_from [] [] e = refl
objects_from [] (p ∷ ps) e = absurd (cc e)
objects_from (o ∷ os) [] e = absurd (cc e)
objects_from (o ∷ os) (p ∷ ps) e =
    let both = and_both (same_object o p) (same_objects os ps) e in
    let one = object_from o p both.0 in
    let rest = objects_from os ps both.1 in
    cc (one, rest)
