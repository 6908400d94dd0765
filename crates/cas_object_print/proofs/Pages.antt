-- What a page says once a text is written on it.
use Rattle.std.proofs.Common.{◌≡◌, ℕ, List, [], ◌++◌, append_assoc, ◌∙◌, sym, refl}
use Rattle.std.specs.Fmt.{signed_decimal}
use Rattle.std.specs.Prelude.{ℤ}
use Rattle.std.proofs.lemmas.List.{append-nil}
use Rattle.cas_object_print.specs.Page.{followed_by, integer}

-- what is written on a page isn't to come any more
pub text_written : (new old text rest : List ℕ) → new ≡ old ++ text →
    followed_by new rest ≡ followed_by old (text ++ rest)
unfolding followed_by
text_written new old text rest is = rw is (append_assoc old text rest)

pub integer_written : (new old rest : List ℕ) (z : ℤ) → new ≡ old ++ signed_decimal z →
    followed_by new rest ≡ followed_by old (integer z rest)
unfolding followed_by integer
integer_written new old rest z is = rw is (append_assoc old (signed_decimal z) rest)

-- a page that began empty has the text of all that was written
pub all_written : (page empty text : List ℕ) → empty ≡ [] → followed_by page [] ≡ followed_by empty text → page ≡ text
unfolding followed_by
all_written page empty text nothing h = sym (append-nil page) ∙ h ∙ rw nothing refl
