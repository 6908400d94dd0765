-- What a page says once a token is written on it.
use Rattle.std.proofs.Common.{◌≡◌, ℕ, List, [], ◌∷◌, ◌++◌, codes, refl, append_assoc, ◌∙◌, sym}
use Rattle.std.proofs.lemmas.List.{append-nil}
use Rattle.std.specs.Fmt.{decimal}
use Rattle.cas_base.specs.declared.kind.Kind.{Kind}
use Rattle.cas_lex.specs.declared.token.Word.{Word}
use Rattle.cas_lex.specs.declared.token.Sign.{Sign}
use Rattle.cas_lex.specs.Spellings.{word_spelling, sign_spelling}
use Rattle.cas_print.specs.Page.{followed_by}
use Rattle.cas_print.specs.Pieces.{Piece, word, sign, end_of_line, named, number, plain_number, suffix, spelling, separator, text}

-- a token that is written on a page isn't to come any more
one_written : (new old spelt behind : List ℕ) (rest : List Piece) (p : Piece) → new ≡ old ++ (spelt ++ behind) →
    spelt ≡ spelling p → behind ≡ separator p ∷ [] →
    followed_by new rest ≡ followed_by old (p ∷ rest)
unfolding followed_by
one_written new old spelt behind rest p is spells separates =
    rw (is, spells, separates) (simp append_assoc)

pub word_written : (new old spelt : List ℕ) (rest : List Piece) (w : Word) → new ≡ old ++ (spelt ++ codes " ") →
    spelt ≡ word_spelling w →
    followed_by new rest ≡ followed_by old (word w ∷ rest)
word_written new old spelt rest w is spells = one_written new old spelt _ rest (word w) is spells refl

pub sign_written : (new old spelt : List ℕ) (rest : List Piece) (s : Sign) → new ≡ old ++ (spelt ++ codes " ") →
    spelt ≡ sign_spelling s →
    followed_by new rest ≡ followed_by old (sign s ∷ rest)
sign_written new old spelt rest s is spells = one_written new old spelt _ rest (sign s) is spells refl

pub line_written : (new old spelt : List ℕ) (rest : List Piece) (s : Sign) → new ≡ old ++ (spelt ++ codes "\n") →
    spelt ≡ sign_spelling s →
    followed_by new rest ≡ followed_by old (end_of_line s ∷ rest)
line_written new old spelt rest s is spells = one_written new old spelt _ rest (end_of_line s) is spells refl

pub name_written : (new old x : List ℕ) (rest : List Piece) → new ≡ old ++ (x ++ codes " ") →
    followed_by new rest ≡ followed_by old (named x ∷ rest)
name_written new old x rest is = one_written new old x _ rest (named x) is refl refl

pub number_written : (new old spelt : List ℕ) (rest : List Piece) (n : ℕ) (k : Kind) →
    new ≡ old ++ (decimal n ++ spelt) → spelt ≡ suffix k ++ codes " " →
    followed_by new rest ≡ followed_by old (number n k ∷ rest)
number_written new old spelt rest n k is spells =
    one_written new old (decimal n ++ suffix k) (codes " ") rest (number n k) (rw append_assoc (rw (← spells) is))
    refl refl

pub plain_number_written : (new old : List ℕ) (rest : List Piece) (n : ℕ) → new ≡ old ++ (decimal n ++ codes " ") →
    followed_by new rest ≡ followed_by old (plain_number n ∷ rest)
plain_number_written new old rest n is = one_written new old (decimal n) _ rest (plain_number n) is refl refl

-- a page that began empty has the text of all that was written
pub all_written : (page empty : List ℕ) (pieces : List Piece) → empty ≡ [] →
    followed_by page [] ≡ followed_by empty pieces → page ≡ text pieces
unfolding followed_by
all_written page empty pieces nothing h = sym (append-nil page) ∙ h ∙ rw nothing refl
