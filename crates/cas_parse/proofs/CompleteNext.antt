-- What the next token is, and states that take it alike.
use Rattle.std.proofs.Common.{◌≡◌, Bool, true, false, nat_lt, List, [], ◌∷◌, length, refl, ap}
use Rattle.cas_base.specs.declared.place.Place.{Place}
use Rattle.cas_lex.specs.declared.token.Token.{Token}
use Rattle.cas_lex.specs.declared.token.TokenKind.{TokenKind}
use Rattle.cas_syntax.specs.Limits.{Limits}
use Rattle.cas_parse.specs.Frames.{Frame, Control}
use Rattle.cas_parse.specs.Machine.{is_at, finish, shift, run, go}

-- whether there is a next token, and its kind is so
abbrev pub next_is : (TokenKind → Bool) → List Token → Bool
next_is p [] = false
next_is p (t ∷ ts) = p t.kind

pub next_is-so : (p q : TokenKind → Bool) → ((kind : TokenKind) → p kind ≡ true → q kind ≡ true) → (r : List Token) →
    next_is p r ≡ true → next_is q r ≡ true
next_is-so p q so [] h = h
next_is-so p q so (t ∷ ts) h = so t.kind h

pub next_is-not : (p q : TokenKind → Bool) → ((kind : TokenKind) → p kind ≡ true → q kind ≡ false) → (r : List Token) →
    next_is p r ≡ true → next_is q r ≡ false
next_is-not p q not_so [] h = refl
next_is-not p q not_so (t ∷ ts) h = not_so t.kind h

-- two states go on alike where they take the next token alike
pub alike : (limits : Limits) (p : TokenKind → Bool) (b : Bool) (c d : Control) (st other : List Frame) →
    finish c ≡ finish d
    → ((near leaves : Bool) (q : Place) (kind : TokenKind) → p kind ≡ b →
    shift limits near leaves (record { kind = kind; place = q }) c st ≡ shift limits near leaves
    (record { kind = kind; place = q }) d other)
    → (r : List Token) → next_is p r ≡ b → run limits r c st ≡ run limits r d other
alike limits p b c d st other ends same [] h = ends
alike limits p b c d st other ends same (t ∷ ts) h = ap (go (run limits ts) (length ts))
    (same (nat_lt (length ts) limits.cut) (is_at limits.left_out (length ts)) t.place t.kind h)
