-- The first line of a text.
use Rattle.std.proofs.Common.{◌≡◌, ℕ, ◌+◌, suc, eqb, List, [], ◌∷◌, ◌++◌, length, take, drop, Bool, true, false, not, cond, refl, ap, sym, ◌∙◌, arith, take-append-drop, append-nil}
use Rattle.std.specs.List.{prefix_len}
use Rattle.std.proofs.lemmas.Bool.{eqb-true}
use Rattle.cas_pieces.specs.Lines.{is_inner, into_line, lines}

-- what comes after the first line
abbrev later : List ℕ → List (List ℕ)
later [] = []
later (c ∷ cs) = lines cs

lines-inner : (b : ℕ) (bs : List ℕ) → is_inner b ≡ true → lines (b ∷ bs) ≡ into_line b (lines bs)
unfolding lines
lines-inner b bs e = rw e refl

lines-feed : (b : ℕ) (bs : List ℕ) → is_inner b ≡ false → lines (b ∷ bs) ≡ [] ∷ lines bs
unfolding lines
lines-feed b bs e = rw e refl

lines-nil : lines [] ≡ [] ∷ []
unfolding lines
lines-nil = refl

into_line-line : (b : ℕ) (line : List ℕ) (ls : List (List ℕ)) → into_line b (line ∷ ls) ≡ (b ∷ line) ∷ ls
unfolding into_line
into_line-line b line ls = refl

abbrev front : List ℕ → List ℕ
front text = take (prefix_len is_inner text) text

abbrev rest : List ℕ → List ℕ
rest text = drop (prefix_len is_inner text) text

one_more : (n : ℕ) → 1 + n ≡ suc n
one_more n = omega arith

front-inner : (b : ℕ) (bs : List ℕ) → is_inner b ≡ true → front (b ∷ bs) ≡ b ∷ front bs
front-inner b bs e = rw (e, one_more (prefix_len is_inner bs)) refl

rest-inner : (b : ℕ) (bs : List ℕ) → is_inner b ≡ true → rest (b ∷ bs) ≡ rest bs
rest-inner b bs e = rw (e, one_more (prefix_len is_inner bs)) refl

front-feed : (b : ℕ) (bs : List ℕ) → is_inner b ≡ false → front (b ∷ bs) ≡ []
front-feed b bs e = rw e refl

rest-feed : (b : ℕ) (bs : List ℕ) → is_inner b ≡ false → rest (b ∷ bs) ≡ b ∷ bs
rest-feed b bs e = rw e refl

pub lines-cut : (text : List ℕ) → lines text ≡ front text ∷ later (rest text)
lines-cut [] = lines-nil
lines-cut (b ∷ bs) = by_first (is_inner b) refl (lines-cut bs)
  where
    by_first : (t : Bool) → is_inner b ≡ t → lines bs ≡ front bs ∷ later (rest bs) →
        lines (b ∷ bs) ≡ front (b ∷ bs) ∷ later (rest (b ∷ bs))
    by_first true e more =
        rw (
          lines-inner b bs e,
          more,
          into_line-line b (front bs) (later (rest bs)),
          front-inner b bs e,
          rest-inner b bs
              e,
        ) refl
    by_first false e more = rw (lines-feed b bs e, front-feed b bs e, rest-feed b bs e) refl

first_same : (b c : ℕ) (bs cs : List ℕ) → ◌≡◌ {A = List ℕ} (b ∷ bs) (c ∷ cs) → b ≡ c
first_same b c bs cs h = cc

feed_at : (b : ℕ) (t : Bool) → eqb b 10 ≡ t → not t ≡ false → b ≡ 10
feed_at b true e h = eqb-true b 10 e
feed_at b false e h = absurd cc

-- what follows the first line begins with a line feed
pub rest-feeds : (text : List ℕ) (c : ℕ) (cs : List ℕ) → rest text ≡ c ∷ cs → c ≡ 10
rest-feeds [] c cs is = absurd cc
rest-feeds (b ∷ bs) c cs is = by_first (is_inner b) refl (rest-feeds bs c cs)
  where
    by_first : (t : Bool) → is_inner b ≡ t → (rest bs ≡ c ∷ cs → c ≡ 10) → c ≡ 10
    by_first true e more = more (sym (rest-inner b bs e) ∙ is)
    by_first false e more =
        let same : b ≡ c = first_same b c bs cs (sym (rest-feed b bs e) ∙ is) in
        sym same ∙ feed_at b (eqb b 10) refl e

pub lines-more : (text line after : List ℕ) (c : ℕ) (cs : List ℕ) → line ≡ front text → after ≡ rest text →
    after ≡ c ∷ cs → lines text ≡ line ∷ lines cs
lines-more text line after c cs is rests some =
    rw is (lines-cut text ∙ ap (λ (r : List ℕ). front text ∷ later r) (sym rests ∙ some))

joined : (text line after : List ℕ) → line ≡ front text → after ≡ rest text → text ≡ line ++ after
joined text line after is rests = rw (is, rests) (sym (take-append-drop (prefix_len is_inner text) text))

pub joined-more : (text line after : List ℕ) (c : ℕ) (cs : List ℕ) → line ≡ front text → after ≡ rest text →
    after ≡ c ∷ cs → text ≡ line ++ 10 ∷ cs
joined-more text line after c cs is rests some =
    joined text line after is rests
    ∙ ap (λ (r : List ℕ). line ++ r) (some ∙ ap (λ (b : ℕ). b ∷ cs) (rest-feeds text c cs (sym rests ∙ some)))

is_nil : (xs : List ℕ) → length xs ≡ 0 → xs ≡ []
is_nil [] h = refl
is_nil (x ∷ xs) h = absurd (omega arith)

pub lines-last : (text line after : List ℕ) → line ≡ front text → after ≡ rest text → length after ≡ 0 →
    lines text ≡ text ∷ []
lines-last text line after is rests none =
    let empty : after ≡ [] = is_nil after none in
    let whole : text ≡ line = joined text line after is rests
    ∙ (ap (λ (r : List ℕ). line ++ r) empty ∙ append-nil line) in
    lines-cut text ∙ (ap (λ (r : List ℕ). front text ∷ later r) (sym rests ∙ empty)
    ∙ ap (λ (l : List ℕ). l ∷ []) (sym is ∙ sym whole))
