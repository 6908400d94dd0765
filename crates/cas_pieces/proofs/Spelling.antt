-- A text is what its pieces spell, and proper pieces are those of their text.
use Rattle.std.proofs.Common.{◌≡◌, ℕ, ◌+◌, suc, List, [], ◌∷◌, ◌++◌, drop, Bool, true, false, cond, ◌&&◌, refl, ap, sym, ◌∙◌, arith}
use Rattle.std.specs.Prelude.{take_while}
use Rattle.std.specs.List.{list_all, prefix_len}
use Rattle.std.proofs.lemmas.List.Sums.{take_while-cons}
use Rattle.std.proofs.lemmas.Bool.Decides.{nat_tests}
use Rattle.cas_base.specs.Name.{is_name_byte}
use Rattle.cas_pieces.specs.declared.piece.Mark.{Mark}
use Rattle.cas_pieces.specs.declared.piece.Piece.{Piece}
use Rattle.cas_pieces.specs.declared.piece.Piece.TheVariants.{Word, Mark as Single}
use Rattle.cas_pieces.specs.Pieces.{mark_of, mark_byte, into_word, pieces, text, begins_with_word, AreProper}

-- a mark is of its byte
mark_byte-mark_of : (b : ℕ) → mark_byte (mark_of b) ≡ b
mark_byte-mark_of b = grind (arith, nat_tests)

-- a mark of a byte stands for it
mark_of-again : (b : ℕ) → mark_of (mark_byte (mark_of b)) ≡ mark_of b
mark_of-again b = ap mark_of (mark_byte-mark_of b)

text-into_word : (b : ℕ) (ps : List Piece) → text (into_word b ps) ≡ b ∷ text ps
unfolding into_word
text-into_word b [] = refl
text-into_word b (Word x ∷ ps) = refl
text-into_word b (Single m ∷ ps) = refl

pub text-pieces : (bytes : List ℕ) → text (pieces bytes) ≡ bytes
unfolding pieces
text-pieces [] = refl
text-pieces (b ∷ bs) = step (is_name_byte b) (text-pieces bs)
  where
    step : (t : Bool) → text (pieces bs) ≡ bs → text (cond t (into_word b (pieces bs)) (Single (mark_of b) ∷ pieces bs))
        ≡ b ∷ bs
    step true e = text-into_word b (pieces bs) ∙ ap (λ (x : List ℕ). b ∷ x) e
    step false e = ap (λ (x : List ℕ). mark_byte (mark_of b) ∷ x) e ∙ ap (λ (x : ℕ). x ∷ bs) (mark_byte-mark_of b)

-- the pieces of a text are proper
AreProper-into_word : (b : ℕ) (ps : List Piece) → is_name_byte b ≡ true → AreProper ps → AreProper (into_word b ps)
unfolding into_word
AreProper-into_word b [] e h = (rw e refl, refl, tt)
AreProper-into_word b (Word [] ∷ ps) e h = absurd cc
AreProper-into_word b (Word (c ∷ cs) ∷ ps) e h = (rw e h.0, h.1, h.2)
AreProper-into_word b (Single m ∷ ps) e h = (rw e refl, refl, h)

pub AreProper-pieces : (bytes : List ℕ) → AreProper (pieces bytes)
unfolding pieces
AreProper-pieces [] = tt
AreProper-pieces (b ∷ bs) = step (is_name_byte b) refl (AreProper-pieces bs)
  where
    step : (t : Bool) → is_name_byte b ≡ t → AreProper (pieces bs) →
        AreProper (cond t (into_word b (pieces bs)) (Single (mark_of b) ∷ pieces bs))
    step true e h = AreProper-into_word b (pieces bs) e h
    step false e h = ((mark_of-again b, ap is_name_byte (mark_byte-mark_of b) ∙ e), h)

-- what no word begins takes a byte as a word of its own
into_word-alone : (b : ℕ) (ps : List Piece) → begins_with_word ps ≡ false → into_word b ps ≡ Word (b ∷ []) ∷ ps
unfolding into_word
into_word-alone b [] e = refl
into_word-alone b (Word x ∷ ps) e = absurd cc
into_word-alone b (Single m ∷ ps) e = refl

and-first : (a b : Bool) → (a && b) ≡ true → a ≡ true
and-first true b e = refl
and-first false b e = absurd cc

and-second : (a b : Bool) → (a && b) ≡ true → b ≡ true
and-second true b e = e
and-second false b e = absurd cc

pieces-word_byte : (b : ℕ) (bs : List ℕ) → is_name_byte b ≡ true → pieces (b ∷ bs) ≡ into_word b (pieces bs)
unfolding pieces
pieces-word_byte b bs e = rw e refl

pub pieces-mark : (b : ℕ) (bs : List ℕ) → is_name_byte b ≡ false → pieces (b ∷ bs) ≡ Single (mark_of b) ∷ pieces bs
unfolding pieces
pieces-mark b bs e = rw e refl

into_word-word : (b : ℕ) (x : List ℕ) (ps : List Piece) → into_word b (Word x ∷ ps) ≡ Word (b ∷ x) ∷ ps
unfolding into_word
into_word-word b x ps = refl

-- a word before what no word begins
pieces-word : (b : ℕ) (x rest : List ℕ) → list_all is_name_byte (b ∷ x) ≡ true →
    begins_with_word (pieces rest) ≡ false → pieces ((b ∷ x) ++ rest) ≡ Word (b ∷ x) ∷ pieces rest
pieces-word b [] rest all e = pieces-word_byte b rest (and-first _ _ all) ∙ into_word-alone b (pieces rest) e
pieces-word b (c ∷ cs) rest all e =
    pieces-word_byte b ((c ∷ cs) ++ rest) (and-first _ _ all)
    ∙ (ap (into_word b) (pieces-word c cs rest (and-second _ _ all) e) ∙ into_word-word b (c ∷ cs) (pieces rest))

pieces-nil : pieces [] ≡ []
unfolding pieces
pieces-nil = refl

pub pieces-text : (ps : List Piece) → AreProper ps → pieces (text ps) ≡ ps
pieces-text [] h = pieces-nil
pieces-text (Word [] ∷ ps) h = absurd cc
pieces-text (Word (b ∷ x) ∷ ps) h =
    let e : pieces (text ps) ≡ ps = pieces-text ps h.2 in
    pieces-word b x (text ps) h.0 (ap begins_with_word e ∙ h.1) ∙ ap (λ (r : List Piece). Word (b ∷ x) ∷ r) e
pieces-text (Single m ∷ ps) h =
    pieces-mark (mark_byte m) (text ps) h.0.1
    ∙ (ap (λ (n : Mark). Single n ∷ pieces (text ps)) h.0.0
    ∙ ap (λ (r : List Piece). Single m ∷ r) (pieces-text ps h.1))

-- what follows the longest word, from its second byte on
drop-longest : (b : ℕ) (bs : List ℕ) → is_name_byte b ≡ true →
    drop (prefix_len is_name_byte (b ∷ bs)) (b ∷ bs) ≡ drop (prefix_len is_name_byte bs) bs
drop-longest b bs e = rw e (ap (λ (k : ℕ). drop k (b ∷ bs)) one_more)
  where
    one_more : 1 + prefix_len is_name_byte bs ≡ suc (prefix_len is_name_byte bs)
    one_more = omega arith

take_while-longest : (b : ℕ) (bs : List ℕ) → is_name_byte b ≡ true →
    take_while is_name_byte (b ∷ bs) ≡ b ∷ take_while is_name_byte bs
take_while-longest b bs e = take_while-cons is_name_byte b bs
    ∙ ap (λ (t : Bool). cond t (b ∷ take_while is_name_byte bs) []) e

take_while-none : (b : ℕ) (bs : List ℕ) → is_name_byte b ≡ false → take_while is_name_byte (b ∷ bs) ≡ []
take_while-none b bs e = take_while-cons is_name_byte b bs
    ∙ ap (λ (t : Bool). cond t (b ∷ take_while is_name_byte bs) []) e

drop-none : (b : ℕ) (bs : List ℕ) → is_name_byte b ≡ false → drop (prefix_len is_name_byte (b ∷ bs)) (b ∷ bs) ≡ b ∷ bs
drop-none b bs e = rw e refl

-- a text that begins with a byte of a word begins with the longest word
word_and_rest : {x y : List ℕ} {rest others : List ℕ} → x ≡ y → rest ≡ others →
    ◌≡◌ {A = List Piece} (Word x ∷ pieces rest) (Word y ∷ pieces others)
word_and_rest e f = cc

pub pieces-longest : (b : ℕ) (bs : List ℕ) → is_name_byte b ≡ true →
    pieces (b ∷ bs) ≡ Word (take_while is_name_byte (b ∷ bs)) ∷ pieces
    (drop (prefix_len is_name_byte (b ∷ bs)) (b ∷ bs))
pieces-longest b [] e =
    pieces-word_byte b [] e
    ∙ (ap (into_word b) pieces-nil
    ∙ (into_word-alone b [] refl ∙ (ap (λ (r : List Piece). Word (b ∷ []) ∷ r) (sym pieces-nil)
    ∙ word_and_rest (sym (take_while-longest b [] e)) (sym (drop-longest b [] e)))))
pieces-longest b (c ∷ cs) e =
    pieces-word_byte b (c ∷ cs) e ∙ (by_first (is_name_byte c) refl (pieces-longest c cs)
    ∙ word_and_rest (sym (take_while-longest b (c ∷ cs) e)) (sym (drop-longest b (c ∷ cs) e)))
  where
    by_first : (t : Bool) → is_name_byte c ≡ t →
        (is_name_byte c ≡ true → pieces (c ∷ cs) ≡ Word (take_while is_name_byte (c ∷ cs)) ∷ pieces
        (drop (prefix_len is_name_byte (c ∷ cs)) (c ∷ cs))) →
        into_word b (pieces (c ∷ cs)) ≡ Word (b ∷ take_while is_name_byte (c ∷ cs)) ∷ pieces
        (drop (prefix_len is_name_byte (c ∷ cs)) (c ∷ cs))
    by_first true ec longest = ap (into_word b) (longest ec) ∙ into_word-word b _ _
    by_first false ec longest =
        into_word-alone b (pieces (c ∷ cs)) (ap begins_with_word (pieces-mark c cs ec))
        ∙ word_and_rest (ap (λ (x : List ℕ). b ∷ x) (sym (take_while-none c cs ec))) (sym (drop-none c cs ec))

-- the same, of a text that is known to begin with it
pub pieces-word_front : (text : List ℕ) (b : ℕ) (bs : List ℕ) → text ≡ b ∷ bs → is_name_byte b ≡ true →
    pieces text ≡ Word (take_while is_name_byte text) ∷ pieces (drop (prefix_len is_name_byte text) text)
pieces-word_front text b bs is e = rw is (pieces-longest b bs e)

-- a mark
pub pieces-mark_front : (text : List ℕ) (b : ℕ) (bs : List ℕ) → text ≡ b ∷ bs → is_name_byte b ≡ false →
    pieces text ≡ Single (mark_of b) ∷ pieces bs
pieces-mark_front text b bs is e = rw is (pieces-mark b bs e)

-- the empty text
pub pieces-none : (text : List ℕ) → text ≡ [] → pieces text ≡ []
pieces-none text is = rw is pieces-nil
