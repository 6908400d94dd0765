-- What is spelled as a kind is read as it.
use Rattle.std.proofs.Common.{◌≡◌, ℕ, ◌+◌, ◌≤◌, ◌<◌, max, Bool, true, false, List, ◌∷◌, length, Option, Some, None, arith, refl}
use Rattle.cas_base.specs.declared.kind.Kind.{Kind}
use Rattle.cas_base.specs.declared.kind.Kind.TheVariants.{I8, I16, U16, I32, U32}
use Rattle.cas_base.specs.declared.place.Place.{Place}
use Rattle.cas_lex.specs.declared.token.Token.{Token}
use Rattle.cas_lex.specs.declared.token.TokenKind.{TokenKind}
use Rattle.cas_lex.specs.declared.token.TokenKind.TheVariants as k
use Rattle.cas_lex.specs.declared.token.Word.{Word}
use Rattle.cas_lex.specs.declared.token.Word.TheVariants as w
use Rattle.cas_syntax.specs.Limits.{Limits}
use Rattle.cas_syntax.specs.Tokens.{word}
use Rattle.cas_syntax.specs.Expressions.{Perhaps, without, with_it, SpellsKind, char, unsigned_char, short, unsigned_short, int, signed, unsigned}
use Rattle.cas_parse.specs.Frames.{Frame, WantKind, HaveKind, Signed, Unsigned, MayEndInt}
use Rattle.cas_parse.specs.Machine.{begins_kind, after_signed, after_unsigned, may_end_int, down_kind, run, Verdict}
use Rattle.cas_parse.proofs.CompleteNext.{next_is, alike}
use Rattle.cas_parse.proofs.CompleteLimits.{counts}

-- whether the next token is a word of a kind
pub no_longer : {w : Word} {s r : List Token} → Perhaps w s r → length r ≤ length s
no_longer (without r) = omega arith
no_longer (with_it p r) = omega arith

pub shorter_kind : {kd : Kind} {s r : List Token} → SpellsKind kd s r → length r < length s
shorter_kind (char p s r h) = let one = no_longer h in omega arith
shorter_kind (unsigned_char p q r) = omega arith
shorter_kind (short p s t r h i) = let one = no_longer h in let two = no_longer i in omega arith
shorter_kind (unsigned_short p q t r i) = let one = no_longer i in omega arith
shorter_kind (int p r) = omega arith
shorter_kind (signed p t r i) = let one = no_longer i in omega arith
shorter_kind (unsigned p t r i) = let one = no_longer i in omega arith

pub begins_with_kind : {kd : Kind} {s r : List Token} → SpellsKind kd s r → next_is begins_kind s ≡ true
begins_with_kind (char p s r h) = leads h refl
  where
    leads : {s v : List Token} → Perhaps w.Signed s v → next_is begins_kind v ≡ true → next_is begins_kind s ≡ true
    leads (without r) h = h
    leads (with_it p r) h = refl
begins_with_kind (short p s t r h i) = leads h refl
  where
    leads : {s v : List Token} → Perhaps w.Signed s v → next_is begins_kind v ≡ true → next_is begins_kind s ≡ true
    leads (without r) h = h
    leads (with_it p r) h = refl
begins_with_kind _ = refl

module _ (limits : Limits) where
  -- where no further word of a kind stands, the kind is whole

  pub ends_signed : (c : Option ℕ) (st : List Frame) (r : List Token) → next_is begins_kind r ≡ false →
      run limits r (Signed c) st ≡ run limits r (HaveKind c I32) st
  ends_signed c st r h = alike limits begins_kind false (Signed c) (HaveKind c I32) st st refl by_kind r h
    where
      by_kind : (near leaves : Bool) (place : Place) (kind : TokenKind) → begins_kind kind ≡ false
          → after_signed limits near leaves c st place kind ≡ down_kind limits near leaves c I32 st place kind
      by_kind near leaves place (k.Word w.Char) h = cc
      by_kind near leaves place (k.Word w.Short) h = cc
      by_kind near leaves place (k.Word w.Int) h = cc
      by_kind near leaves place _ h = refl

  pub ends_unsigned : (c : Option ℕ) (st : List Frame) (r : List Token) → next_is begins_kind r ≡ false →
      run limits r (Unsigned c) st ≡ run limits r (HaveKind c U32) st
  ends_unsigned c st r h = alike limits begins_kind false (Unsigned c) (HaveKind c U32) st st refl by_kind r h
    where
      by_kind : (near leaves : Bool) (place : Place) (kind : TokenKind) → begins_kind kind ≡ false
          → after_unsigned limits near leaves c st place kind ≡ down_kind limits near leaves c U32 st place kind
      by_kind near leaves place (k.Word w.Char) h = cc
      by_kind near leaves place (k.Word w.Short) h = cc
      by_kind near leaves place (k.Word w.Int) h = cc
      by_kind near leaves place _ h = refl

  pub ends_int : (c : Option ℕ) (kd : Kind) (st : List Frame) (r : List Token) → next_is begins_kind r ≡ false →
      run limits r (MayEndInt c kd) st ≡ run limits r (HaveKind c kd) st
  ends_int c kd st r h = alike limits begins_kind false (MayEndInt c kd) (HaveKind c kd) st st refl by_kind r h
    where
      by_kind : (near leaves : Bool) (place : Place) (kind : TokenKind) → begins_kind kind ≡ false
          → may_end_int limits near leaves c kd st place kind ≡ down_kind limits near leaves c kd st place kind
      by_kind near leaves place (k.Word w.Int) h = cc
      by_kind near leaves place _ h = refl

  -- kinds outside of expressions, whose tokens aren't counted

  leading : {s v : List Token} → Perhaps w.Signed s v → (st : List Frame) (V : Verdict)
      → run limits v (WantKind None) st ≡ V → run limits v (Signed None) st ≡ V → run limits s (WantKind None) st ≡ V
  leading (without r) st V one two = one
  leading (with_it p r) st V one two = two

  closing : {t r : List Token} → Perhaps w.Int t r → (kd : Kind) (st : List Frame) → next_is begins_kind r ≡ false
      → run limits t (MayEndInt None kd) st ≡ run limits r (HaveKind None kd) st
  closing (without r) kd st ends = ends_int None kd st r ends
  closing (with_it p r) kd st ends = refl

  after_signed_word : {t r : List Token} → Perhaps w.Int t r → (st : List Frame) → next_is begins_kind r ≡ false
      → run limits t (Signed None) st ≡ run limits r (HaveKind None I32) st
  after_signed_word (without r) st ends = ends_signed None st r ends
  after_signed_word (with_it p r) st ends = refl

  after_unsigned_word : {t r : List Token} → Perhaps w.Int t r → (st : List Frame) → next_is begins_kind r ≡ false
      → run limits t (Unsigned None) st ≡ run limits r (HaveKind None U32) st
  after_unsigned_word (without r) st ends = ends_unsigned None st r ends
  after_unsigned_word (with_it p r) st ends = refl

  pub reads_kind : {kd : Kind} {s r : List Token} → SpellsKind kd s r → (st : List Frame) →
      next_is begins_kind r ≡ false
      → run limits s (WantKind None) st ≡ run limits r (HaveKind None kd) st
  reads_kind (char p s r h) st ends = leading h st (run limits r (HaveKind None I8) st) refl refl
  reads_kind (unsigned_char p q r) st ends = refl
  reads_kind (short p s t r h i) st ends = leading h st (run limits r (HaveKind None I16) st) (closing i I16 st ends)
      (closing i I16 st ends)
  reads_kind (unsigned_short p q t r i) st ends = closing i U16 st ends
  reads_kind (int p r) st ends = refl
  reads_kind (signed p t r i) st ends = after_signed_word i st ends
  reads_kind (unsigned p t r i) st ends = after_unsigned_word i st ends

-- kinds in an outermost expression, whose tokens and all behind them are `whole`, and those behind it `behind`
module _ (limits : Limits) (whole behind : ℕ) (room : whole ≤ limits.tokens + max behind limits.cut) where
  leading_in : {s v : List Token} → Perhaps w.Signed s v → (used : ℕ) (st : List Frame) (V : Verdict) →
      used + length s ≡ whole → behind ≤ length v
      → ((one : ℕ) → one + length v ≡ whole → run limits v (WantKind (Some one)) st ≡ V)
      → ((one : ℕ) → one + length v ≡ whole → run limits v (Signed (Some one)) st ≡ V)
      → run limits s (WantKind (Some used)) st ≡ V
  leading_in (without r) used st V count inside one two = one used count
  leading_in (with_it p r) used st V count inside one two =
      rw (counts limits used whole behind r (omega arith) room inside) (two (used + 1) (omega arith))

  closing_in : {t r : List Token} → Perhaps w.Int t r → (kd : Kind) (used used' : ℕ) (st : List Frame) →
      used + length t ≡ whole → used' + length r ≡ whole
      → behind ≤ length r → next_is begins_kind r ≡ false →
      run limits t (MayEndInt (Some used) kd) st ≡ run limits r (HaveKind (Some used') kd) st
  closing_in (without r) kd used used' st count count' inside ends =
      let same : used ≡ used' = omega arith in rw same (ends_int limits (Some used') kd st r ends)
  closing_in (with_it p r) kd used used' st count count' inside ends =
      let same : used' ≡ used + 1 =
      omega arith in rw (counts limits used whole behind r (omega arith) room inside, same)

  after_signed_in : {t r : List Token} → Perhaps w.Int t r → (used used' : ℕ) (st : List Frame) →
      used + length t ≡ whole → used' + length r ≡ whole
      → behind ≤ length r → next_is begins_kind r ≡ false →
      run limits t (Signed (Some used)) st ≡ run limits r (HaveKind (Some used') I32) st
  after_signed_in (without r) used used' st count count' inside ends =
      let same : used ≡ used' = omega arith in rw same (ends_signed limits (Some used') st r ends)
  after_signed_in (with_it p r) used used' st count count' inside ends =
      let same : used' ≡ used + 1 =
      omega arith in rw (counts limits used whole behind r (omega arith) room inside, same)

  after_unsigned_in : {t r : List Token} → Perhaps w.Int t r → (used used' : ℕ) (st : List Frame) →
      used + length t ≡ whole → used' + length r ≡ whole
      → behind ≤ length r → next_is begins_kind r ≡ false →
      run limits t (Unsigned (Some used)) st ≡ run limits r (HaveKind (Some used') U32) st
  after_unsigned_in (without r) used used' st count count' inside ends =
      let same : used ≡ used' = omega arith in rw same (ends_unsigned limits (Some used') st r ends)
  after_unsigned_in (with_it p r) used used' st count count' inside ends =
      let same : used' ≡ used + 1 =
      omega arith in rw (counts limits used whole behind r (omega arith) room inside, same)

  char_in : (used used' : ℕ) (p : Place) (r : List Token) (st : List Frame) →
      used + length (word w.Char p ∷ r) ≡ whole → used' + length r ≡ whole → behind ≤ length r
      → run limits (word w.Char p ∷ r) (WantKind (Some used)) st ≡ run limits r (HaveKind (Some used') I8) st
  char_in used used' p r st count count' inside =
      let same : used' ≡ used + 1 =
      omega arith in rw (counts limits used whole behind r (omega arith) room inside, same)

  pub reads_kind_in : {kd : Kind} {s r : List Token} → SpellsKind kd s r → (used used' : ℕ) (st : List Frame) →
      used + length s ≡ whole → used' + length r ≡ whole
      → behind ≤ length r → next_is begins_kind r ≡ false →
      run limits s (WantKind (Some used)) st ≡ run limits r (HaveKind (Some used') kd) st
  reads_kind_in (char p s r h) used used' st count count' inside ends =
      leading_in h used st (run limits r (HaveKind (Some used') I8) st) count (omega arith)
      (λ one c. char_in one used' p r st c count' inside)
      (λ one c. char_in one used' p r st c count' inside)
  reads_kind_in (unsigned_char p q r) used used' st count count' inside ends =
      let same : used' ≡ used + 1 + 1 = omega arith in
      let first = counts limits used whole behind (word w.Char q ∷ r) (omega arith) room (omega arith) in
      let second = counts limits (used + 1) whole behind r (omega arith) room inside in
      rw (first, second, same)
  reads_kind_in (short p s t r h i) used used' st count count' inside ends =
      let some = no_longer i in
      leading_in h used st (run limits r (HaveKind (Some used') I16) st) count (omega arith)
      (λ one c. rw (counts limits one whole behind t (omega arith) room (omega arith))
      (closing_in i I16 (one + 1) used' st (omega arith) count' inside ends))
      (λ one c. rw (counts limits one whole behind t (omega arith) room (omega arith))
      (closing_in i I16 (one + 1) used' st (omega arith) count' inside ends))
  reads_kind_in (unsigned_short p q t r i) used used' st count count' inside ends =
      let some = no_longer i in
      let first = counts limits used whole behind (word w.Short q ∷ t) (omega arith) room (omega arith) in
      let second = counts limits (used + 1) whole behind t (omega arith) room (omega arith) in
      rw (first, second) (closing_in i U16 (used + 1 + 1) used' st (omega arith) count' inside ends)
  reads_kind_in (int p r) used used' st count count' inside ends =
      let same : used' ≡ used + 1 = omega arith in
      rw (counts limits used whole behind r (omega arith) room inside, same)
  reads_kind_in (signed p t r i) used used' st count count' inside ends =
      let some = no_longer i in
      rw (counts limits used whole behind t (omega arith) room (omega arith))
      (after_signed_in i (used + 1) used' st (omega arith) count' inside ends)
  reads_kind_in (unsigned p t r i) used used' st count count' inside ends =
      let some = no_longer i in
      rw (counts limits used whole behind t (omega arith) room (omega arith))
      (after_unsigned_in i (used + 1) used' st (omega arith) count' inside ends)
