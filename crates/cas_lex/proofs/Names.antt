-- The bytes of names are text, and names.
use Rattle.std.proofs.Common.{◌≡◌, ℕ, ◌<◌, ◌≤◌, List, [], ◌∷◌, length, take_while, Bool, true, false, cond, ◌&&◌, IsTrue, refl, arith, IsUtf8}
use Rattle.std.specs.List.{list_all}
use Rattle.std.specs.Prelude.{IsAscii}
use Rattle.std.proofs.lemmas.List.Sums.{take_while-cons}
use Rattle.std.proofs.lemmas.Str.{IsUtf8-from_ascii}
use Rattle.std.proofs.lemmas.Str.Ascii.{IsAscii-nil, IsAscii-cons}
use Rattle.std.proofs.lemmas.Bool.Decides.{nat_tests}
use Rattle.cas_base.specs.Name.{is_name, is_first_byte, is_name_byte}
use Rattle.cas_lex.specs.Literals.{begins_with_letter}

-- what stands before the first that fails passes
pub list_all-take_while : (p : ℕ → Bool) (xs : List ℕ) → list_all p (take_while p xs) ≡ true
list_all-take_while p [] = refl
list_all-take_while p (x ∷ xs) = rw (take_while-cons p x xs) (step (p x) refl (list_all-take_while p xs))
  where
    step : (b : Bool) → p x ≡ b → list_all p (take_while p xs) ≡ true →
        list_all p (cond b (x ∷ take_while p xs) []) ≡ true
    step true passes rest = rw (passes, rest) refl
    step false fails rest = refl

name_byte_ascii : (b : ℕ) → is_name_byte b ≡ true → b < 128
name_byte_ascii b h = grind (arith, nat_tests)

-- the bytes of a name are ASCII
name_ascii : (bs : List ℕ) → list_all is_name_byte bs ≡ true → IsAscii bs
name_ascii [] h = IsAscii-nil
name_ascii (b ∷ bs) h = both (is_name_byte b) refl h (name_ascii bs)
  where
    both : (t : Bool) → is_name_byte b ≡ t → (t && list_all is_name_byte bs) ≡ true →
        (list_all is_name_byte bs ≡ true → IsAscii bs) → IsAscii (b ∷ bs)
    both true passes rest all = IsAscii-cons b bs (name_byte_ascii b passes) (all rest)
    both false fails rest all = cc

-- and so text
pub name_utf8 : (text : List ℕ) → IsUtf8 (take_while is_name_byte text)
name_utf8 text = IsUtf8-from_ascii _ (name_ascii _ (list_all-take_while is_name_byte text))

-- what a name begins with still begins it
pub begins-take_while : (b : ℕ) (bs : List ℕ) → is_first_byte b ≡ true →
    begins_with_letter (take_while is_name_byte (b ∷ bs)) ≡ true
begins-take_while b bs h = rw (take_while-cons is_name_byte b bs) (rw (first_is_name_byte b h) h)
  where
    first_is_name_byte : (c : ℕ) → is_first_byte c ≡ true → is_name_byte c ≡ true
    first_is_name_byte c h = grind (arith, nat_tests)

-- letters, digits and `_` after a letter or `_` are a name, where they aren't too many
pub is_name-from : (text : List ℕ) → IsTrue (begins_with_letter text) → IsTrue (list_all is_name_byte text) →
    length text ≤ 63 → is_name text ≡ true
is_name-from [] h all few = cc
is_name-from (b ∷ bs) h all few = grind (arith, nat_tests)
