-- Each text has tokens, or a first lexical fault.
use Rattle.std.proofs.Common.{◌≡◌, inl, inr, ℕ, zero, suc, ◌<◌, ◌≤◌, List, [], ◌∷◌, length, take, drop, Bool, true, false, IsUtf8, refl, arith, length-drop}
use Rattle.std.proofs.lemmas.Str.{IsUtf8-from_is_utf8, is_utf8-from_IsUtf8}
use Rattle.std.specs.Str.{is_utf8}
use Rattle.std.specs.Str.Lossy.{utf8_valid_len}
use Rattle.cas_base.specs.declared.place.Place.{Place}
use Rattle.cas_lex.specs.declared.code.ReadCode.TheVariants.{R1}
use Rattle.cas_lex.specs.declared.token.Token.{Token}
use Rattle.cas_lex.specs.declared.front.Front.{Front}
use Rattle.cas_lex.specs.declared.front.Front.TheVariants as f
use Rattle.cas_lex.specs.Front.{front}
use Rattle.cas_lex.specs.Lexed.{Stop, at_end, at_fault, Lexed, ends, skips, takes, fails, broken, met, IsLexed}
use Rattle.cas_lex.specs.Places.{start, behind}
use Rattle.cas_lex.proofs.Within.{IsWithin, front-within}

-- some tokens of a text from a place on, and where they stop
abbrev Some_lexed : Place → List ℕ → Type 0
Some_lexed p text = (tokens : List Token) × (stop : Stop) × Lexed p text tokens stop

shorter : (m n : ℕ) (text : List ℕ) → 0 < m → length text ≤ suc n → length (drop m text) ≤ n
shorter m n text some le = omega (arith, length-drop m text)

lexed : (n : ℕ) (p : Place) (text : List ℕ) → length text ≤ n → Some_lexed p text
lexed n p [] le = ([], at_end, ends p)
lexed zero p (b ∷ bs) le = absurd (omega arith)
lexed (suc n) p (b ∷ bs) le = step (front (b ∷ bs)) refl (front-within (b ∷ bs) nonempty)
    (λ q rest short. lexed n q rest short)
  where
    nonempty : b ∷ bs ≡ [] → ⊥
    nonempty h = cc

    step : (found : Front) → front (b ∷ bs) ≡ found → IsWithin (front (b ∷ bs)) (length (b ∷ bs)) →
        ((q : Place) (rest : List ℕ) → length rest ≤ n → Some_lexed q rest) → Some_lexed p (b ∷ bs)
    step (f.Blank m) is within next =
        let bounds = rw is at within in
        let rest = next (behind p (take m (b ∷ bs))) (drop m (b ∷ bs)) (shorter m n (b ∷ bs) bounds.0 le) in
        (rest.0, rest.1, skips p (b ∷ bs) m rest.0 rest.1 nonempty is rest.2)
    step (f.Token kind m) is within next =
        let bounds = rw is at within in
        let rest = next (behind p (take m (b ∷ bs))) (drop m (b ∷ bs)) (shorter m n (b ∷ bs) bounds.0 le) in
        (record { kind = kind; place = p } ∷ rest.0, rest.1, takes p (b ∷ bs) kind m rest.0 rest.1 nonempty is rest.2)
    step (f.Fault code) is within next = ([], at_fault code p, fails p (b ∷ bs) code nonempty is)

-- each text has tokens or a fault
pub lexed-total : (text : List ℕ) → IsLexed text
lexed-total text = test (is_utf8 text) refl
  where
    stopped : IsUtf8 text → Some_lexed start text → IsLexed text
    stopped good (tokens, at_end, lexed) = inl (tokens, (good, lexed))
    stopped good (tokens, at_fault code p, lexed) = inr (code, p, met text tokens code p good lexed)

    test : (t : Bool) → is_utf8 text ≡ t → IsLexed text
    test true is = let good = IsUtf8-from_is_utf8 text is in stopped good (lexed (length text) start text (omega arith))
    test false is =
        let bad : IsUtf8 text → ⊥ = λ good. let h = is_utf8-from_IsUtf8 text good in cc in
        inr (
          R1,
          behind start (take (utf8_valid_len text) text),
          broken text
              (behind start (take (utf8_valid_len text) text)) bad refl,
        )
