-- The text of a line by its fields.
use Rattle.std.proofs.Common.{◌≡◌, ℕ, suc, ◌<◌, ◌≤◌, ◌^◌, Bool, true, false, ◌&&◌, cond, List, [], ◌∷◌, ◌++◌, map, codes, length, refl, ap, sym, subst, ◌∙◌, arith, append_assoc}
use Rattle.std.specs.Prelude.{ℤ, pos, negsuc}
use Rattle.std.specs.Fmt.{decimal}
use Rattle.std.specs.List.{slice_split, onto_first, flat_map}
use Rattle.std.proofs.lemmas.List.{append-nil, length-map}
use Rattle.cas_base.specs.Name.{is_name_byte}
use Rattle.cas_base.specs.Print.{ty_text, types_text, names_text, form_text, decl_text}
use Rattle.cas_base.specs.Word.{signed}
use Rattle.cas_base.specs.declared.decl.Form.{Form as Declared}
use Rattle.cas_base.specs.declared.decl.Form.TheVariants as form
use Rattle.cas_base.specs.declared.kind.Kind.TheVariants.{I8, U8, I16, U16, I32, U32}
use Rattle.cas_base.specs.declared.kind.Ty.{Ty}
use Rattle.cas_base.specs.declared.kind.Ty.TheVariants as ty
use Rattle.cas_pieces.specs.declared.piece.Mark.TheVariants.{Space, Minus, Star, Open, Close}
use Rattle.cas_pieces.specs.declared.piece.Piece.{Piece}
use Rattle.cas_pieces.specs.declared.piece.Piece.TheVariants as p
use Rattle.cas_pieces.specs.Marks.{is_mark}
use Rattle.cas_pieces.specs.Pieces.{pieces, into_word, mark_of, mark_byte, text}
use Rattle.cas_pieces.proofs.Spelling.{text-pieces}
use Rattle.cas_object_decl.specs.Fields.{field_of, array, is_space, fields}
use Rattle.cas_object_decl.specs.Lines.{decl_line}
use Rattle.cas_object_decl.specs.declared.field.Field.{Field}
use Rattle.cas_object_decl.specs.declared.field.Field.TheVariants.{Word, Negative, Pointer, Array, Other}
use Rattle.cas_object_decl.specs.declared.line.DeclLine.{DeclLine}
use Rattle.cas_object_decl.specs.declared.line.DeclLine.TheVariants.{Extern, Data, Function, End}
use Rattle.cas_object_print.specs.Objects.{values}
use Rattle.cas_object_print.specs.Page.{integer}
use Rattle.cas_object_laws.proofs.Giving.{Gives, gives-more}
use Rattle.cas_object_spelling.specs.Declared.{decl_line_text}
use Rattle.cas_object_spelling.proofs.Marks as mark
use Rattle.cas_object_spelling.proofs.Declared.{ty_field, integer_field, value_field, counted_fields, form_fields, line_fields, HasNoLockValues, IsLine, decl-spelt}

-- Parts between spaces.

abbrev spaced_parts : List (List Piece) → List Piece
spaced_parts [] = []
spaced_parts (part ∷ parts) = p.Mark Space ∷ (part ++ spaced_parts parts)

abbrev joined : List (List Piece) → List Piece
joined [] = []
joined (part ∷ parts) = part ++ spaced_parts parts

joined-onto : (x : Piece) (parts : List (List Piece)) → joined (onto_first x parts) ≡ x ∷ joined parts
joined-onto x [] = refl
joined-onto x (part ∷ parts) = refl

-- a split list has a part
abbrev HasPart : List (List Piece) → Type 0
HasPart [] = ⊥
HasPart (part ∷ parts) = Unit {0}

split-part : (ps : List Piece) → HasPart (slice_split is_space ps)
split-part [] = tt
split-part (q ∷ ps) = by_space (is_space q) (slice_split is_space ps)
  where
    by_space : (t : Bool) (parts : List (List Piece)) → HasPart (cond t ([] ∷ parts) (onto_first q parts))
    by_space true parts = tt
    by_space false [] = tt
    by_space false (part ∷ parts) = tt

joined-space : (parts : List (List Piece)) → HasPart parts → joined ([] ∷ parts) ≡ p.Mark Space ∷ joined parts
joined-space [] h = absurd h
joined-space (part ∷ parts) h = refl

joined-split : (ps : List Piece) → joined (slice_split is_space ps) ≡ ps
joined-split [] = refl
joined-split (q ∷ ps) = by_space (is_space q) refl (joined-split ps)
  where
    by_space : (t : Bool) → is_space q ≡ t → joined (slice_split is_space ps) ≡ ps →
        joined (cond t ([] ∷ slice_split is_space ps) (onto_first q (slice_split is_space ps))) ≡ q ∷ ps
    by_space true e same =
        joined-space (slice_split is_space ps) (split-part ps)
        ∙ (ap (λ qs. p.Mark Space ∷ qs) same ∙ ap (λ r. r ∷ ps) (sym (mark.is_space q e)))
    by_space false e same = joined-onto q (slice_split is_space ps) ∙ ap (λ qs. q ∷ qs) same

-- Fields.

abbrev field_pieces : Field → List Piece
field_pieces (Word x) = p.Word x ∷ []
field_pieces (Negative x) = p.Mark Minus ∷ p.Word x ∷ []
field_pieces (Pointer x) = p.Word x ∷ p.Mark Star ∷ []
field_pieces (Array x len) = p.Word x ∷ p.Mark Open ∷ p.Word len ∷ p.Mark Close ∷ []
field_pieces Other = []

abbrev IsSome : Field → Type 0
IsSome Other = ⊥
IsSome _ = Unit {0}

abbrev IsFieldOf : List Piece → Field → Type 0
IsFieldOf q f = IsSome f → q ≡ field_pieces f

field-if : (q : List Piece) (t : Bool) (f : Field) → (t ≡ true → IsFieldOf q f) → IsFieldOf q (cond t f Other)
field-if q true f h = h refl
field-if q false f h = λ none. absurd none

two : (a b c d : Piece) → a ≡ c → b ≡ d → a ∷ b ∷ [] ≡ c ∷ d ∷ []
two a b c d e f = cc

array-of : (x l n r : Piece) → l ≡ p.Mark Open → r ≡ p.Mark Close → IsFieldOf (x ∷ l ∷ n ∷ r ∷ []) (array x n)
array-of (p.Word x) l (p.Word n) r e f = λ some. four e f
  where
    four : {a b : Piece} → l ≡ a → r ≡ b →
        p.Word x ∷ l ∷ p.Word n ∷ r ∷ [] ≡ p.Word x ∷ a ∷ p.Word n ∷ b ∷ []
    four g h = cc
array-of (p.Word x) l (p.Mark m) r e f = λ none. absurd none
array-of (p.Mark m) l n r e f = λ none. absurd none

field-spelt : (q : List Piece) → IsFieldOf q (field_of q)
field-spelt [] = λ none. absurd none
field-spelt (p.Word x ∷ []) = λ some. refl
field-spelt (p.Mark m ∷ []) = λ none. absurd none
field-spelt (p.Word x ∷ b ∷ []) =
    field-if (p.Word x ∷ b ∷ []) (is_mark b Star) (Pointer x)
    (λ e. λ some. two (p.Word x) b (p.Word x) (p.Mark Star) refl (mark.is_star b e))
field-spelt (p.Mark Minus ∷ p.Word x ∷ []) = λ some. refl
field-spelt (p.Mark Minus ∷ p.Mark m ∷ []) = λ none. absurd none
field-spelt (p.Mark _ ∷ b ∷ []) = λ none. absurd none
field-spelt (a ∷ b ∷ c ∷ []) = λ none. absurd none
field-spelt (x ∷ l ∷ n ∷ r ∷ []) =
    field-if (x ∷ l ∷ n ∷ r ∷ []) (is_mark l Open && is_mark r Close) (array x n)
    (λ e. array-of x l n r (mark.is_open l (mark.and-first (is_mark l Open) (is_mark r Close) e))
    (mark.is_close r (mark.and-second (is_mark l Open) (is_mark r Close) e)))
field-spelt (a ∷ b ∷ c ∷ d ∷ e ∷ rest) = λ none. absurd none

abbrev AreSome : List Field → Type 0
AreSome [] = Unit {0}
AreSome (f ∷ fs) = IsSome f × AreSome fs

some-append : (fs gs : List Field) → AreSome fs → AreSome gs → AreSome (fs ++ gs)
some-append [] gs h k = k
some-append (f ∷ fs) gs h k = (h.0, some-append fs gs h.1 k)

some-map : {A : Type 0} (field : A → Field) → ((x : A) → IsSome (field x)) → (xs : List A) → AreSome (map field xs)
some-map field each [] = tt
some-map field each (x ∷ xs) = (each x, some-map field each xs)

some-ty : (t : Ty) → IsSome (ty_field t)
some-ty ty.Void = tt
some-ty (ty.Int kind) = tt
some-ty (ty.Ptr kind) = tt
some-ty (ty.Array kind n) = tt

some-integer : (z : ℤ) → IsSome (integer_field z)
some-integer (pos n) = tt
some-integer (negsuc n) = tt

some-form : (x : List ℕ) (f : Declared) (rest : List Field) → AreSome rest → AreSome (form_fields x f rest)
some-form x form.Lock rest h = (tt, (tt, h))
some-form x (form.Shared t lock) rest h = (tt, (tt, (some-ty t, (tt, h))))
some-form x (form.Table t) rest h = (tt, (tt, (some-ty t, h)))
some-form x (form.Function ret params holds) rest h =
    let held = some-append (map Word holds) rest (some-map Word (λ y. tt) holds) h in
    let taken = some-append (map ty_field params) (counted_fields (map Word holds) rest)
    (some-map ty_field some-ty params) (tt, held) in
    (tt, (tt, (some-ty ret, (tt, taken))))

some-line : (line : DeclLine) → AreSome (line_fields line)
some-line (Extern decl) = (tt, some-form decl.name decl.form [] tt)
some-line (Data global) =
    some-form global.decl.name global.decl.form (map value_field global.values)
    (some-map value_field (λ w. some-integer (signed w)) global.values)
some-line (Function decl) = some-form decl.name decl.form [] tt
some-line End = (tt, (tt, tt))

parts-spelt : (qs : List (List Piece)) (fs : List Field) → map field_of qs ≡ fs → AreSome fs → qs ≡ map field_pieces fs
parts-spelt [] [] e h = refl
parts-spelt [] (f ∷ fs) e h = absurd cc
parts-spelt (q ∷ qs) [] e h = absurd cc
parts-spelt (q ∷ qs) (f ∷ fs) e h =
    both (spelt f (head e) h.0) (parts-spelt qs fs (rest e) h.1)
  where
    both : {r : List Piece} {rs : List (List Piece)} → q ≡ r → qs ≡ rs → q ∷ qs ≡ r ∷ rs
    both a b = cc

    head : field_of q ∷ map field_of qs ≡ f ∷ fs → field_of q ≡ f
    head a = cc

    rest : field_of q ∷ map field_of qs ≡ f ∷ fs → map field_of qs ≡ fs
    rest a = cc

    spelt : (g : Field) → field_of q ≡ g → IsSome g → q ≡ field_pieces g
    spelt g a some = subst (IsFieldOf q) a (field-spelt q) some

-- The text of fields.

abbrev field_text : Field → List ℕ
field_text (Word x) = x
field_text (Negative x) = codes "-" ++ x
field_text (Pointer x) = x ++ codes "*"
field_text (Array x len) = x ++ (codes "[" ++ (len ++ codes "]"))
field_text Other = []

abbrev spaced : List Field → List ℕ
spaced [] = []
spaced (f ∷ fs) = codes " " ++ (field_text f ++ spaced fs)

abbrev fields_text : List Field → List ℕ
fields_text [] = []
fields_text (f ∷ fs) = field_text f ++ spaced fs

text-append : (qs rs : List Piece) → text (qs ++ rs) ≡ text qs ++ text rs
text-append [] rs = refl
text-append (p.Word x ∷ qs) rs =
    ap (λ (t : List ℕ). x ++ t) (text-append qs rs) ∙ sym (append_assoc x (text qs) (text rs))
text-append (p.Mark m ∷ qs) rs = ap (λ (t : List ℕ). mark_byte m ∷ t) (text-append qs rs)

text-field : (f : Field) → text (field_pieces f) ≡ field_text f
text-field (Word x) = append-nil x
text-field (Negative x) = ap (λ (t : List ℕ). codes "-" ++ t) (append-nil x)
text-field (Pointer x) = refl
text-field (Array x len) = refl
text-field Other = refl

text-spaced : (fs : List Field) → text (spaced_parts (map field_pieces fs)) ≡ spaced fs
text-spaced [] = refl
text-spaced (f ∷ fs) =
    ap (λ (t : List ℕ). codes " " ++ t) (text-append (field_pieces f) (spaced_parts (map field_pieces fs))
    ∙ rw (text-field f, text-spaced fs) refl)

text-fields : (fs : List Field) → text (joined (map field_pieces fs)) ≡ fields_text fs
text-fields [] = refl
text-fields (f ∷ fs) =
    text-append (field_pieces f) (spaced_parts (map field_pieces fs)) ∙ rw (text-field f, text-spaced fs) refl

spaced-append : (fs gs : List Field) → spaced (fs ++ gs) ≡ spaced fs ++ spaced gs
spaced-append [] gs = refl
spaced-append (f ∷ fs) gs =
    ap (λ (t : List ℕ). codes " " ++ (field_text f ++ t)) (spaced-append fs gs)
    ∙ ap (λ (t : List ℕ). codes " " ++ t) (sym (append_assoc (field_text f) (spaced fs) (spaced gs)))

text-ty : (t : Ty) → field_text (ty_field t) ≡ ty_text t
text-ty ty.Void = refl
text-ty (ty.Int kind) = refl
text-ty (ty.Ptr kind) = refl
text-ty (ty.Array I8 n) = refl
text-ty (ty.Array U8 n) = refl
text-ty (ty.Array I16 n) = refl
text-ty (ty.Array U16 n) = refl
text-ty (ty.Array I32 n) = refl
text-ty (ty.Array U32 n) = refl

spaced-types : (ts : List Ty) → spaced (map ty_field ts) ≡ flat_map (λ t. codes " " ++ ty_text t) ts
spaced-types [] = refl
spaced-types (t ∷ ts) = rw (text-ty t, spaced-types ts) refl

spaced-names : (xs : List (List ℕ)) → spaced (map Word xs) ≡ flat_map (λ x. codes " " ++ x) xs
spaced-names [] = refl
spaced-names (x ∷ xs) = rw (spaced-names xs) refl

counted-text : {A : Type 0} (field : A → Field) (xs : List A) (rest : List Field) (t : List ℕ) →
    spaced (map field xs) ≡ t →
    fields_text (counted_fields (map field xs) rest) ≡ (decimal (length xs) ++ t) ++ spaced rest
counted-text field xs rest t e =
    rw (length-map xs field, spaced-append (map field xs) rest, e)
    (sym (append_assoc (decimal (length xs)) t (spaced rest)))

text-form : (x : List ℕ) (f : Declared) (rest : List Field) →
    fields_text (form_fields x f rest) ≡ form_text x f ++ spaced rest
text-form x form.Lock rest = refl
text-form x (form.Shared t lock) rest =
    rw (text-ty t) (ap (λ (s : List ℕ). codes "shared " ++ s) (regroup x (ty_text t) lock (spaced rest)))
  where
    regroup : (a b c d : List ℕ) →
        a ++ (codes " " ++ (b ++ (codes " " ++ (c ++ d)))) ≡ (a ++ (codes " " ++ (b ++ (codes " " ++ c)))) ++ d
    regroup a b c d =
        sym (append_assoc a (codes " " ++ (b ++ (codes " " ++ c))) d
        ∙ ap (λ (s : List ℕ). a ++ (codes " " ++ s)) (append_assoc b (codes " " ++ c) d))
text-form x (form.Table t) rest =
    rw (text-ty t) (ap (λ (s : List ℕ). codes "const " ++ s) (regroup x (ty_text t) (spaced rest)))
  where
    regroup : (a b c : List ℕ) → a ++ (codes " " ++ (b ++ c)) ≡ (a ++ (codes " " ++ b)) ++ c
    regroup a b c = sym (append_assoc a (codes " " ++ b) c)
text-form x (form.Function ret params holds) rest =
    ap (λ (s : List ℕ). codes "function " ++ s)
    (rw (
      text-ty ret,
      counted-text ty_field params (counted_fields (map Word holds) rest) _ (spaced-types params),
      counted-text Word holds rest _ (spaced-names holds),
    ) (regroup x (ty_text ret) (types_text params) (names_text holds) (spaced rest)))
  where
    regroup : (a b c d e : List ℕ) →
        a ++ (codes " " ++ (b ++ (codes " " ++ (c ++ (codes " " ++ (d ++ e))))))
        ≡ (a ++ (codes " " ++ (b ++ (codes " " ++ (c ++ (codes " " ++ d)))))) ++ e
    regroup a b c d e =
        sym (append_assoc a (codes " " ++ (b ++ (codes " " ++ (c ++ (codes " " ++ d))))) e
        ∙ ap (λ (s : List ℕ). a ++ (codes " " ++ s)) (append_assoc b (codes " " ++ (c ++ (codes " " ++ d))) e
        ∙ ap (λ (s : List ℕ). b ++ (codes " " ++ s)) (append_assoc c (codes " " ++ d) e)))

text-integer : (z : ℤ) (rest : List ℕ) → field_text (integer_field z) ++ rest ≡ integer z rest
unfolding integer
text-integer (pos n) rest = refl
text-integer (negsuc n) rest = refl

text-values : (ws : List ℕ) → spaced (map value_field ws) ≡ values ws []
text-values [] = refl
text-values (w ∷ ws) =
    ap (λ (t : List ℕ). codes " " ++ t)
    (ap (λ (t : List ℕ). field_text (value_field w) ++ t) (text-values ws)
    ∙ text-integer (signed w) (values ws []))

abbrev HasField : List Field → Type 0
HasField [] = ⊥
HasField (f ∷ fs) = Unit {0}

has-field : (x : List ℕ) (f : Declared) → HasField (form_fields x f [])
has-field x form.Lock = tt
has-field x (form.Shared t lock) = tt
has-field x (form.Table t) = tt
has-field x (form.Function ret params holds) = tt

spaced-fields : (fs : List Field) → HasField fs → spaced fs ≡ codes " " ++ fields_text fs
spaced-fields [] h = absurd h
spaced-fields (f ∷ fs) h = refl

text-line : (line : DeclLine) → fields_text (line_fields line) ≡ decl_line_text line
text-line (Extern decl) =
    ap (λ (t : List ℕ). codes "extern" ++ t)
    (spaced-fields (form_fields decl.name decl.form []) (has-field decl.name decl.form)
    ∙ ap (λ (t : List ℕ). codes " " ++ t) (text-form decl.name decl.form [] ∙ append-nil _))
text-line (Data global) =
    text-form global.decl.name global.decl.form (map value_field global.values)
    ∙ ap (λ (t : List ℕ). decl_text global.decl ++ t) (text-values global.values)
text-line (Function decl) = text-form decl.name decl.form [] ∙ append-nil _
text-line End = refl

-- Lengths.

length-into : (b : ℕ) (ps : List Piece) → length (into_word b ps) ≤ suc (length ps)
unfolding into_word
length-into b [] = omega arith
length-into b (p.Word x ∷ ps) = omega arith
length-into b (p.Mark m ∷ ps) = omega arith

length-pieces : (t : List ℕ) → length (pieces t) ≤ length t
unfolding pieces
length-pieces [] = omega arith
length-pieces (b ∷ bs) = by_byte (is_name_byte b) (length-pieces bs)
  where
    by_byte : (t : Bool) → length (pieces bs) ≤ length bs →
        length (cond t (into_word b (pieces bs)) (p.Mark (mark_of b) ∷ pieces bs)) ≤ suc (length bs)
    by_byte true h = omega (arith, length-into b (pieces bs), h)
    by_byte false h = omega (arith, h)

length-onto : (q : Piece) (parts : List (List Piece)) (n : ℕ) → length parts ≤ suc n →
    length (onto_first q parts) ≤ suc (suc n)
length-onto q [] n h = omega arith
length-onto q (part ∷ parts) n h = omega (arith, h)

length-split : (ps : List Piece) → length (slice_split is_space ps) ≤ suc (length ps)
length-split [] = omega arith
length-split (q ∷ ps) = by_space (is_space q) (length-split ps)
  where
    by_space : (t : Bool) → length (slice_split is_space ps) ≤ suc (length ps) →
        length (cond t ([] ∷ slice_split is_space ps) (onto_first q (slice_split is_space ps)))
        ≤ suc (suc (length ps))
    by_space true h = omega (arith, h)
    by_space false h = length-onto q (slice_split is_space ps) (length ps) h

length-fields : (t : List ℕ) → length (fields (pieces t)) ≤ suc (length t)
length-fields t =
    omega (
      arith,
      length-map (slice_split is_space (pieces t)) field_of,
      length-split (pieces t),
      length-pieces t,
    )

-- A line has one text.

abbrev pub IsSpelt : List ℕ → DeclLine → Type 0
IsSpelt t line = (t ≡ decl_line_text line) × HasNoLockValues line

spelt-line : (t : List ℕ) (line : DeclLine) → IsLine (fields (pieces t)) line → IsSpelt t line
spelt-line t line h =
    let parts = parts-spelt (slice_split is_space (pieces t)) (line_fields line) h.0 (some-line line) in (
      sym (text-pieces t) ∙ (ap text (sym (joined-split (pieces t)) ∙ ap joined parts)
          ∙ (text-fields (line_fields line) ∙ text-line line)),
      h.1,
    )

-- the fields of a text
pub field-words : (t : List ℕ) (fs : List Field) → fields (pieces t) ≡ fs → AreSome fs → t ≡ fields_text fs
field-words t fs e some =
    let parts = parts-spelt (slice_split is_space (pieces t)) fs e some in
    sym (text-pieces t) ∙ (ap text (sym (joined-split (pieces t)) ∙ ap joined parts) ∙ text-fields fs)

pub declared-spelt : (t : List ℕ) → suc (length t) < 2 ^ 64 → Gives (IsSpelt t) (decl_line (fields (pieces t)))
declared-spelt t small =
    gives-more (IsSpelt t) (IsLine (fields (pieces t))) (decl_line (fields (pieces t)))
    (decl-spelt (fields (pieces t)) (omega (arith, small, length-fields t))) (λ line h. spelt-line t line h)
