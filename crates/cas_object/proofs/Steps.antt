-- Texts are read line by line.
use Rattle.std.proofs.Common.{◌≡◌, ℕ, ◌+◌, Bool, true, false, List, [], ◌∷◌, Ok, Err, refl, ap, sym, cond, ◌∙◌}
use Rattle.cas_pieces.specs.Lines.{is_inner, into_line, lines}
use Rattle.cas_pieces.specs.Pieces.{pieces}
use Rattle.cas_object.specs.Texts.{Reading, next, read_from, last_line}
use Rattle.cas_object.specs.declared.fault.ObjectFault.{ObjectFault}

-- a text has a line
lines-some : (text : List ℕ) → (first : List ℕ) × (rest : List (List ℕ)) × (lines text ≡ first ∷ rest)
unfolding lines into_line
lines-some [] = ([], [], refl)
lines-some (b ∷ bs) = step (is_inner b) (lines-some bs)
  where
    step : (t : Bool) → ((first : List ℕ) × (rest : List (List ℕ)) × (lines bs ≡ first ∷ rest)) →
        (first : List ℕ) × (rest : List (List ℕ)) × (cond t (into_line b (lines bs)) ([] ∷ lines bs) ≡ first ∷ rest)
    step true found = (b ∷ found.0, found.1, ap (into_line b) found.2)
    step false found = ([], lines bs, refl)

-- a line that is read
next-line : (front other : List ℕ) (others : List (List ℕ)) (n : ℕ) (r now : Reading) →
    next n r.units r.inside (pieces front) ≡ Ok now →
    read_from (front ∷ other ∷ others) n r ≡ read_from (other ∷ others) (n + 1) now
next-line front other others n r now e = rw e refl

next-fault : (front other : List ℕ) (others : List (List ℕ)) (n : ℕ) (r : Reading) (fault : ObjectFault) →
    next n r.units r.inside (pieces front) ≡ Err fault → read_from (front ∷ other ∷ others) n r ≡ Err fault
next-fault front other others n r fault e = rw e refl

pub read_next : (text front after : List ℕ) (n : ℕ) (r now : Reading) → lines text ≡ front ∷ lines after →
    next n r.units r.inside (pieces front) ≡ Ok now →
    read_from (lines text) n r ≡ read_from (lines after) (n + 1) now
read_next text front after n r now cut e =
    let some = lines-some after in
    let all : lines text ≡ front ∷ some.0 ∷ some.1 = cut ∙ ap (λ ls. front ∷ ls) some.2 in
    ap (λ ls. read_from ls n r) all
    ∙ (next-line front some.0 some.1 n r now e ∙ ap (λ ls. read_from ls (n + 1) now) (sym some.2))

pub read_fault : (text front after : List ℕ) (n : ℕ) (r : Reading) (fault : ObjectFault) →
    lines text ≡ front ∷ lines after → next n r.units r.inside (pieces front) ≡ Err fault →
    read_from (lines text) n r ≡ Err fault
read_fault text front after n r fault cut e =
    let some = lines-some after in
    let all : lines text ≡ front ∷ some.0 ∷ some.1 = cut ∙ ap (λ ls. front ∷ ls) some.2 in
    ap (λ ls. read_from ls n r) all ∙ next-fault front some.0 some.1 n r fault e

pub read_last : (text : List ℕ) (n : ℕ) (r : Reading) → lines text ≡ text ∷ [] →
    read_from (lines text) n r ≡ last_line n r text
read_last text n r one = ap (λ ls. read_from ls n r) one
