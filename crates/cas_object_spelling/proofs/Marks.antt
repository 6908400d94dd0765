-- Pieces that are a mark or a word, and what holds of what is found.
use Rattle.std.proofs.Common.{◌≡◌, ℕ, Bool, true, false, ◌&&◌, List, Option, Some, None, refl, ap, sym, subst, cond}
use Rattle.cas_pieces.specs.declared.piece.Mark.TheVariants as mark
use Rattle.cas_pieces.specs.declared.piece.Piece.{Piece}
use Rattle.cas_pieces.specs.declared.piece.Piece.TheVariants as piece
use Rattle.cas_pieces.specs.Marks.{is_mark, spells}
use Rattle.cas_pieces.proofs.Tables.{bytes_eq-same}

pub is_space : (p : Piece) → is_mark p mark.Space ≡ true → p ≡ piece.Mark mark.Space
is_space (piece.Mark mark.Space) h = refl
is_space _ h = absurd cc

pub is_comma : (p : Piece) → is_mark p mark.Comma ≡ true → p ≡ piece.Mark mark.Comma
is_comma (piece.Mark mark.Comma) h = refl
is_comma _ h = absurd cc

pub is_at : (p : Piece) → is_mark p mark.At ≡ true → p ≡ piece.Mark mark.At
is_at (piece.Mark mark.At) h = refl
is_at _ h = absurd cc

pub is_dot : (p : Piece) → is_mark p mark.Dot ≡ true → p ≡ piece.Mark mark.Dot
is_dot (piece.Mark mark.Dot) h = refl
is_dot _ h = absurd cc

pub is_plus : (p : Piece) → is_mark p mark.Plus ≡ true → p ≡ piece.Mark mark.Plus
is_plus (piece.Mark mark.Plus) h = refl
is_plus _ h = absurd cc

pub is_minus : (p : Piece) → is_mark p mark.Minus ≡ true → p ≡ piece.Mark mark.Minus
is_minus (piece.Mark mark.Minus) h = refl
is_minus _ h = absurd cc

pub is_star : (p : Piece) → is_mark p mark.Star ≡ true → p ≡ piece.Mark mark.Star
is_star (piece.Mark mark.Star) h = refl
is_star _ h = absurd cc

pub is_open : (p : Piece) → is_mark p mark.Open ≡ true → p ≡ piece.Mark mark.Open
is_open (piece.Mark mark.Open) h = refl
is_open _ h = absurd cc

pub is_close : (p : Piece) → is_mark p mark.Close ≡ true → p ≡ piece.Mark mark.Close
is_close (piece.Mark mark.Close) h = refl
is_close _ h = absurd cc

pub is_word : (p : Piece) (x : List ℕ) → spells p x ≡ true → p ≡ piece.Word x
is_word (piece.Word y) x h = ap piece.Word (sym (bytes_eq-same y x h))
is_word (piece.Mark m) x h = absurd cc

pub and-first : (a b : Bool) → (a && b) ≡ true → a ≡ true
and-first true b e = refl
and-first false b e = absurd cc

pub and-second : (a b : Bool) → (a && b) ≡ true → b ≡ true
and-second true b e = e
and-second false b e = absurd cc

-- this holds of what is found, if something is
abbrev pub May : {A : Type 0} → (A → Type 0) → Option A → Type 0
May P None = Unit {0}
May P (Some x) = P x

pub may-if : {A : Type 0} (P : A → Type 0) (b : Bool) (x y : Option A) → (b ≡ true → May P x) →
    (b ≡ false → May P y) → May P (cond b x y)
may-if P true x y f g = f refl
may-if P false x y f g = g refl

pub may-some : {A : Type 0} (P : A → Type 0) (o : Option A) (x : A) → May P o → o ≡ Some x → P x
may-some P o x h e = subst (May P) e h

pub may-more : {A : Type 0} (P Q : A → Type 0) (o : Option A) → May P o → ((x : A) → P x → Q x) → May Q o
may-more P Q None h f = tt
may-more P Q (Some x) h f = f x h
