-- Words are text.
use Rattle.std.proofs.Common.{◌≡◌, ℕ, ◌<◌, List, [], ◌∷◌, take_while, Bool, true, false, cond, ◌&&◌, IsTrue, refl, arith, IsUtf8}
use Rattle.std.specs.List.{list_all}
use Rattle.std.specs.Prelude.{IsAscii}
use Rattle.std.proofs.lemmas.List.Sums.{take_while-cons}
use Rattle.std.proofs.lemmas.Str.{IsUtf8-from_ascii}
use Rattle.std.proofs.lemmas.Str.Ascii.{IsAscii-nil, IsAscii-cons}
use Rattle.std.proofs.lemmas.Bool.Decides.{nat_tests}
use Rattle.cas_base.specs.Name.{is_name_byte}
use Rattle.cas_pieces.specs.Words.{is_word}

list_all-take_while : (p : ℕ → Bool) (xs : List ℕ) → list_all p (take_while p xs) ≡ true
list_all-take_while p [] = refl
list_all-take_while p (x ∷ xs) = rw (take_while-cons p x xs) (step (p x) refl (list_all-take_while p xs))
  where
    step : (b : Bool) → p x ≡ b → list_all p (take_while p xs) ≡ true →
        list_all p (cond b (x ∷ take_while p xs) []) ≡ true
    step true passes rest = rw (passes, rest) refl
    step false fails rest = refl

name_byte_ascii : (b : ℕ) → is_name_byte b ≡ true → b < 128
name_byte_ascii b h = grind (arith, nat_tests)

word_ascii : (bs : List ℕ) → list_all is_name_byte bs ≡ true → IsAscii bs
word_ascii [] h = IsAscii-nil
word_ascii (b ∷ bs) h = both (is_name_byte b) refl h (word_ascii bs)
  where
    both : (t : Bool) → is_name_byte b ≡ t → (t && list_all is_name_byte bs) ≡ true →
        (list_all is_name_byte bs ≡ true → IsAscii bs) → IsAscii (b ∷ bs)
    both true passes rest all = IsAscii-cons b bs (name_byte_ascii b passes) (all rest)
    both false fails rest all = cc

pub word_utf8 : (x : List ℕ) → IsTrue (is_word x) → IsUtf8 x
word_utf8 [] h = absurd cc
word_utf8 (b ∷ bs) h = IsUtf8-from_ascii _ (word_ascii (b ∷ bs) h)

-- what begins with a byte of a word begins with a word
pub is_word-longest : (b : ℕ) (bs : List ℕ) → is_name_byte b ≡ true → is_word (take_while is_name_byte (b ∷ bs)) ≡ true
is_word-longest b bs e = rw (take_while-cons is_name_byte b bs, e, e) (list_all-take_while is_name_byte bs)

-- the same, of a text that is known to begin with it
pub word_front : (text : List ℕ) (b : ℕ) (bs : List ℕ) → text ≡ b ∷ bs → is_name_byte b ≡ true →
    is_word (take_while is_name_byte text) ≡ true
word_front text b bs is e = rw is (is_word-longest b bs e)
