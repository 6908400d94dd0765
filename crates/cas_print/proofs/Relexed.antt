-- The tokens of a canonical text are its pieces, each at some place.
use Rattle.std.proofs.Common.{◌≡◌, ◌≢◌, ℕ, ◌+◌, ◌<◌, ◌==◌, List, [], ◌∷◌, length, take, true, false, if◌then◌else◌, refl, sym, subst, arith}
use Rattle.std.proofs.lemmas.Bool.Decides.{nat_tests}
use Rattle.std.proofs.Math.Seq.{drop-append_seam}
use Rattle.cas_base.specs.declared.place.Place.{Place}
use Rattle.cas_lex.specs.declared.front.Front.TheVariants as f
use Rattle.cas_lex.specs.declared.token.Token.{Token}
use Rattle.cas_lex.specs.declared.token.TokenKind.{TokenKind}
use Rattle.cas_lex.specs.Front.{front}
use Rattle.cas_lex.specs.Lexed.{at_end, Lexed, ends, skips, takes}
use Rattle.cas_lex.specs.Places.{behind}
use Rattle.cas_print.specs.Pieces.{Piece, kind_of, spelling, separator, text}
use Rattle.cas_print.proofs.Placed.{placed}
use Rattle.cas_print.proofs.Sound.{IsSound, SoundPieces}
use Rattle.cas_print.proofs.Spelt.{piece_front, separator_front}

-- places by how many pieces are behind
abbrev pub by_count : (ℕ → Place) → List Piece → Place
by_count places ps = places (length ps)

placed-agree : (n : ℕ) (one other : ℕ → Place) (ps : List Piece) → ((m : ℕ) → m < n → one m ≡ other m) →
    length ps < n + 1 → placed (by_count one) ps ≡ placed (by_count other) ps
placed-agree n one other [] agree h = refl
placed-agree n one other (p ∷ ps) agree h =
    let here : one (length ps) ≡ other (length ps) = agree (length ps) (omega arith) in
    rw (here, placed-agree n one other ps agree (omega arith)) refl

-- one place more
abbrev with_place : ℕ → Place → (ℕ → Place) → ℕ → Place
with_place n p places m = if m == n then p else places m

with_place-other : (n : ℕ) (p : Place) (places : ℕ → Place) (m : ℕ) → m < n → with_place n p places m ≡ places m
with_place-other n p places m h = let other : (m == n) ≡ false = grind (arith, nat_tests) in rw other refl

with_place-same : (n : ℕ) (p : Place) (places : ℕ → Place) → with_place n p places n ≡ p
with_place-same n p places = let same : (n == n) ≡ true = grind (arith, nat_tests) in rw same refl

same_tokens : (kind : TokenKind) (p q : Place) (ts us : List Token) → p ≡ q → ts ≡ us →
    record { kind = kind; place = p } ∷ ts ≡ record { kind = kind; place = q } ∷ us
same_tokens kind p q ts us e h = rw (e, h) refl

-- one piece more
one_more : (q : Piece) (ps : List Piece) (p : Place) (places : ℕ → Place) → IsSound (kind_of q) →
    Lexed (behind (behind p (take (length (spelling q)) (text (q ∷ ps)))) (take 1 (separator q ∷ text ps))) (text ps)
    (placed (by_count places) ps) at_end →
    Lexed p (text (q ∷ ps)) (placed (by_count (with_place (length ps) p places)) (q ∷ ps)) at_end
one_more q ps p places sound more =
    let tokens = placed (by_count places) ps in
    let blank = separator q ∷ text ps in
    let here = behind p (take (length (spelling q)) (text (q ∷ ps))) in
    let is = piece_front q (text ps) sound in
    let some : text (q ∷ ps) ≢ [] = λ e.
    let none : front [] ≡ f.Token (kind_of q) (length (spelling q)) =
    subst (λ (bytes : List ℕ). front bytes ≡ f.Token (kind_of q) (length (spelling q))) e is in
    cc in
    let rest : Lexed here blank tokens at_end = skips here blank 1 tokens at_end (λ e. cc) (separator_front q (text ps))
    more in
    let behind_it = subst (λ (bytes : List ℕ). Lexed here bytes tokens at_end)
    (sym (drop-append_seam (spelling q) blank)) rest in
    let all = takes p (text (q ∷ ps)) (kind_of q) (length (spelling q)) tokens at_end some is behind_it in
    subst (λ (ts : List Token). Lexed p (text (q ∷ ps)) ts at_end)
    (same_tokens (kind_of q) p (with_place (length ps) p places (length ps)) tokens
    (placed (by_count (with_place (length ps) p places)) ps)
    (sym (with_place-same (length ps) p places))
    (sym (placed-agree (length ps) (with_place (length ps) p places) places ps (with_place-other (length ps) p places)
    (omega arith))))
    all

pub lexed_again : (ps : List Piece) (p : Place) → SoundPieces ps → (places : ℕ → Place)
    × Lexed p (text ps) (placed (by_count places) ps) at_end
lexed_again [] p sound = ((λ n. p), ends p)
lexed_again (q ∷ ps) p sound =
    let more =
    lexed_again ps (behind (behind p (take (length (spelling q)) (text (q ∷ ps)))) (take 1 (separator q ∷ text ps)))
    sound.1 in
    (with_place (length ps) p more.0, one_more q ps p more.0 sound.0 more.1)
