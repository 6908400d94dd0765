-- A text that is read is what is printed of its objects.
use Rattle.std.proofs.Common.{◌≡◌, ℕ, suc, ◌+◌, ◌<◌, ◌^◌, nat_lt, eqb, Bool, true, false, not, cond, List, [], ◌∷◌, ◌++◌, codes, length, Result, Ok, Err, refl, ap, sym, subst, ◌∙◌, arith, append_assoc}
use Rattle.std.specs.List.{list_all}
use Rattle.std.proofs.lemmas.List.{append-nil, length-append}
use Rattle.std.proofs.lemmas.Bool.{eqb-true}
use Rattle.cas_asm.specs.declared.line.AsmFun.{AsmFun}
use Rattle.cas_asm.specs.declared.line.Line.{Line}
use Rattle.cas_asm.specs.declared.line.Line.TheVariants as l
use Rattle.cas_base.specs.Decl.{is_function, is_lock, words_of_form}
use Rattle.cas_base.specs.Print.{decl_text}
use Rattle.cas_base.specs.declared.decl.Decl.{Decl}
use Rattle.cas_base.specs.declared.decl.Global.{Global}
use Rattle.cas_base.specs.declared.decl.Unit.{Unit as Module}
use Rattle.cas_pieces.specs.Lines.{lines, into_line, is_inner}
use Rattle.cas_pieces.specs.Pieces.{pieces, text}
use Rattle.cas_pieces.proofs.Spelling.{text-pieces}
use Rattle.cas_object_text.specs.Labels.{is_set, uses_set}
use Rattle.cas_object_line.specs.Codes.{code_line}
use Rattle.cas_object_line.specs.declared.code.CodeLine.{CodeLine}
use Rattle.cas_object_line.specs.declared.code.CodeLine.TheVariants as c
use Rattle.cas_object_line.specs.declared.fault.LineFault.{LineFault}
use Rattle.cas_object_decl.specs.Data.{is_number}
use Rattle.cas_object_decl.specs.Fields.{fields, spells}
use Rattle.cas_object_decl.specs.Lines.{decl_line}
use Rattle.cas_object_decl.specs.declared.field.Field.{Field}
use Rattle.cas_object_decl.specs.declared.field.Field.TheVariants.{Word}
use Rattle.cas_object_decl.specs.declared.line.DeclLine.{DeclLine}
use Rattle.cas_object_decl.specs.declared.line.DeclLine.TheVariants.{Extern, Data, Function, End}
use Rattle.cas_object.specs.Bodies.{Body, instructions, opened, with_line}
use Rattle.cas_object.specs.Drafts.{empty, words, with_data, with_function, fun_of}
use Rattle.cas_object.specs.Texts.{Reading, and_then, at_line, refused, version, first_line, line, code, going_on, goes_on, data_line, declared, next, at_end, last_line, read_from, read}
use Rattle.cas_object.specs.declared.fault.ObjectCode.TheVariants.{B1, B2, B3, B5}
use Rattle.cas_object.specs.declared.fault.ObjectFault.{ObjectFault}
use Rattle.cas_object.specs.declared.inside.Inside.{Inside}
use Rattle.cas_object.specs.declared.inside.Inside.TheVariants as inside
use Rattle.cas_object_print.specs.Instructions as print
use Rattle.cas_object_print.specs.Objects as print_object
use Rattle.cas_object_print.specs.Objects.{values, items, item, object}
use Rattle.cas_object_print.specs.Operands.{word}
use Rattle.cas_object_laws.specs.Formed.{line_text}
use Rattle.cas_object_laws.proofs.Declared.{IsRight, line-right}
use Rattle.cas_object_laws.proofs.Giving.{Gives, gives-if, gives-of}
use Rattle.cas_object_laws.proofs.Wholes.{at-line, then-gives}
use Rattle.cas_object_spelling.specs.Texts.{objects_before, objects_text}
use Rattle.cas_object_spelling.proofs.Before.{line-before, word-before}
use Rattle.cas_object_spelling.proofs.Declared.{spelt}
use Rattle.cas_object_spelling.proofs.Fields.{IsSpelt, declared-spelt, field-words}
use Rattle.cas_object_spelling.proofs.Pieces.{text-line}
use Rattle.cas_object_spelling.proofs.Written.{IsLine, line-written}

-- Data and functions that belong to declarations, in order.
pub data Fits : List Decl → List Global → List AsmFun → Type 0 where
  none : Fits [] [] []
  other : (d : Decl) (ds : List Decl) (gs : List Global) (fs : List AsmFun) → d.defined ≡ false → Fits ds gs fs →
      Fits (d ∷ ds) gs fs
  data_of : (d : Decl) (ds : List Decl) (g : Global) (gs : List Global) (fs : List AsmFun) → d.defined ≡ true →
      is_function d.form ≡ false → Fits ds gs fs → Fits (d ∷ ds) (g ∷ gs) fs
  code_of : (d : Decl) (ds : List Decl) (gs : List Global) (f : AsmFun) (fs : List AsmFun) → d.defined ≡ true →
      is_function d.form ≡ true → Fits ds gs fs → Fits (d ∷ ds) gs (f ∷ fs)

fits-put : {ds : List Decl} {gs : List Global} {fs : List AsmFun} (d : Decl) (hs : List Global) (ks : List AsmFun) →
    Fits ds gs fs → Fits (d ∷ []) hs ks → Fits (ds ++ d ∷ []) (gs ++ hs) (fs ++ ks)
fits-put d hs ks none k = k
fits-put d hs ks (other e ds gs fs x h) k = other e _ _ _ x (fits-put d hs ks h k)
fits-put d hs ks (data_of e ds g gs fs x y h) k = data_of e _ g _ _ x y (fits-put d hs ks h k)
fits-put d hs ks (code_of e ds gs f fs x y h) k = code_of e _ _ f _ x y (fits-put d hs ks h k)

first-values : (lock : Bool) (g : Global) (gs hs : List Global) (rest : List ℕ) →
    print_object.values_of_first lock (g ∷ gs) rest ≡ print_object.values_of_first lock (g ∷ hs) rest
first-values true g gs hs rest = refl
first-values false g gs hs rest = refl

-- one declaration more is printed after the others
items-put : {ds : List Decl} {gs : List Global} {fs : List AsmFun} (d : Decl) (hs : List Global) (ks : List AsmFun)
    (rest : List ℕ) → Fits ds gs fs →
    items (ds ++ d ∷ []) (gs ++ hs) (fs ++ ks) rest ≡ items ds gs fs (item d hs ks rest)
items-put d hs ks rest none = refl
items-put d hs ks rest (other e ds gs fs x h) =
    rw x (ap (λ (t : List ℕ). codes "extern " ++ print_object.declared e (codes "\n" ++ t))
    (items-put d hs ks rest h))
items-put d hs ks rest (data_of e ds g gs fs x y h) =
    rw (x, y)
    (ap (λ (t : List ℕ). print_object.declared e (print_object.values_of e (g ∷ gs ++ hs) (codes "\n" ++ t)))
    (items-put d hs ks rest h)
    ∙ ap (print_object.declared e) (first-values (is_lock e.form) g (gs ++ hs) gs _))
items-put d hs ks rest (code_of e ds gs f fs x y h) =
    rw (x, y)
    (ap (λ (t : List ℕ). print_object.declared e (codes "\n" ++ print_object.lines f.lines (codes "end\n" ++ t)))
    (items-put d hs ks rest h))

-- What is read so far, before more text.

abbrev inside_text : Inside → List ℕ → List ℕ
inside_text inside.Text rest = rest
inside_text (inside.Object unit) rest = codes "object 1\n" ++ items unit.decls unit.globals unit.funs rest
inside_text (inside.Function unit body) rest =
    codes "object 1\n" ++ items unit.decls unit.globals unit.funs
    (decl_text body.decl ++ (codes "\n" ++ print_object.lines body.lines rest))

abbrev IsFit : Inside → Type 0
IsFit inside.Text = Unit {0}
IsFit (inside.Object unit) = Fits unit.decls unit.globals unit.funs
IsFit (inside.Function unit body) =
    Fits unit.decls unit.globals unit.funs × (body.decl.defined ≡ true) × (is_function body.decl.form ≡ true)

-- a line opens this
abbrev Opened : Inside → List ℕ → Inside → Type 0
Opened now t after =
    IsFit after × ((rest : List ℕ) → inside_text after rest ≡ inside_text now (t ++ (codes "\n" ++ rest)))

-- after a line this is read
abbrev Continues : List (Module AsmFun) → Inside → List ℕ → Reading → Type 0
Continues units now t r =
    IsFit r.inside × ((rest : List ℕ) → objects_before r.units (inside_text r.inside rest)
    ≡ objects_before units (inside_text now (t ++ (codes "\n" ++ rest))))

-- The first line of an object.

first-opened : (n : ℕ) (t : List ℕ) (fs : List Field) → fields (pieces t) ≡ fs →
    Gives (Opened inside.Text t) (first_line n fs)
first-opened n t [] e = tt
first-opened n t (f ∷ []) e = tt
first-opened n t (f ∷ g ∷ []) e =
    let other : Result Inside ObjectFault = cond (is_number g) (refused B1 n) (refused B2 n) in
    gives-if (Opened inside.Text t) (spells f (codes "object")) (version n g) (refused B2 n)
    (λ x. gives-if (Opened inside.Text t) (spells g (codes "1")) (Ok (inside.Object empty)) other
    (λ y. (
      none,
      λ rest. ap (λ (s : List ℕ). s ++ (codes "\n" ++ rest))
          (sym (field-words t (Word (codes "object") ∷ Word (codes "1") ∷ [])
          (e ∙ both (spelt f (codes "object") x) (spelt g (codes "1") y)) (tt, (tt, tt)))),
    ))
    (gives-if (Opened inside.Text t) (is_number g) (refused B1 n) (refused B2 n) (λ y. tt) tt))
    tt
  where
    both : {p q : Field} → f ≡ p → g ≡ q → f ∷ g ∷ [] ≡ p ∷ q ∷ []
    both a b = cc
first-opened n t (f ∷ g ∷ h ∷ fs) e = tt

-- Lines of an object, outside functions.

nil-fits : {ds : List Decl} {gs hs : List Global} {fs ks : List AsmFun} → gs ≡ hs → fs ≡ ks → Fits ds gs fs →
    Fits ds hs ks
nil-fits {ds} {gs} {hs} {fs} {ks} a b h = subst (λ xs. Fits ds xs ks) a (subst (λ ys. Fits ds gs ys) b h)

nil-items : (ds : List Decl) (gs hs : List Global) (fs ks : List AsmFun) (rest : List ℕ) → gs ≡ hs → fs ≡ ks →
    items ds gs fs rest ≡ items ds hs ks rest
nil-items ds gs hs fs ks rest a b = rw (a, b) refl

extern-item : (d : Decl) (rest : List ℕ) → d.defined ≡ false →
    item d [] [] rest ≡ (codes "extern " ++ decl_text d) ++ (codes "\n" ++ rest)
extern-item d rest e = rw e (ap (λ (s : List ℕ). codes "extern " ++ s) refl)

values-before : (vs : List ℕ) (rest : List ℕ) → values vs rest ≡ values vs [] ++ rest
values-before [] rest = refl
values-before (v ∷ vs) rest =
    ap (λ (s : List ℕ). codes " " ++ s)
    (word-before v (values vs rest)
    ∙ (ap (λ (s : List ℕ). word v [] ++ s) (values-before vs rest)
    ∙ (sym (append_assoc (word v []) (values vs []) rest)
    ∙ ap (λ (s : List ℕ). s ++ rest) (sym (word-before v (values vs []))))))

-- a lock has no values
printed-values : (lock : Bool) (g : Global) (rest : List ℕ) → (lock ≡ true → g.values ≡ []) →
    print_object.values_of_first lock (g ∷ []) rest ≡ values g.values rest
printed-values true g rest h = rw (h refl) refl
printed-values false g rest h = refl

item-of_data : (d : Decl) (gs : List Global) (fs : List AsmFun) (rest : List ℕ) → d.defined ≡ true →
    is_function d.form ≡ false →
    item d gs fs rest ≡ decl_text d ++ print_object.values_of_first (is_lock d.form) gs (codes "\n" ++ rest)
item-of_data d gs fs rest x y = rw (x, y) refl

data-item : (g : Global) (rest : List ℕ) → g.decl.defined ≡ true → is_function g.decl.form ≡ false →
    (is_lock g.decl.form ≡ true → g.values ≡ []) →
    item g.decl (g ∷ []) [] rest ≡ (decl_text g.decl ++ values g.values []) ++ (codes "\n" ++ rest)
data-item g rest x y h =
    item-of_data g.decl (g ∷ []) [] rest x y
    ∙ (ap (λ (s : List ℕ). decl_text g.decl ++ s)
    (printed-values (is_lock g.decl.form) g (codes "\n" ++ rest) h ∙ values-before g.values (codes "\n" ++ rest))
    ∙ sym (append_assoc (decl_text g.decl) (values g.values []) (codes "\n" ++ rest)))

code-item : (d : Decl) (f : AsmFun) (rest : List ℕ) → d.defined ≡ true → is_function d.form ≡ true →
    item d [] (f ∷ []) rest
    ≡ decl_text d ++ (codes "\n" ++ print_object.lines f.lines (codes "end\n" ++ rest))
code-item d f rest x y = rw (x, y) refl

abbrev is_end : DeclLine → Bool
is_end End = true
is_end _ = false

-- a declaration, as its line is read
abbrev IsRead : List ℕ → DeclLine → Type 0
IsRead t found = IsSpelt t found × IsRight found

data-opened : (n : ℕ) (t : List ℕ) (unit : Module AsmFun) (found : DeclLine) → IsFit (inside.Object unit) →
    is_end found ≡ false → IsRead t found → Gives (Opened (inside.Object unit) t) (data_line n unit found)
data-opened n t unit (Extern d) fit more h = (
  nil-fits (append-nil unit.globals) (append-nil unit.funs)
      (fits-put d [] [] fit (other d [] [] [] h.1 none)),
  λ rest. ap (λ (s : List ℕ). codes "object 1\n" ++ s)
      (nil-items (unit.decls ++ d ∷ []) unit.globals (unit.globals ++ []) unit.funs (unit.funs ++ []) rest
      (sym (append-nil unit.globals)) (sym (append-nil unit.funs))
      ∙ (items-put d [] [] rest fit
      ∙ ap (items unit.decls unit.globals unit.funs)
      (extern-item d rest h.1 ∙ ap (λ (s : List ℕ). s ++ (codes "\n" ++ rest)) (sym h.0.0)))),
)
data-opened n t unit (Data g) fit more h =
    gives-if (Opened (inside.Object unit) t) (nat_lt 65536 (words unit.globals + words_of_form g.decl.form))
    (refused B5 n) (Ok (inside.Object (with_data unit g))) (λ e. tt) (
      nil-fits refl (append-nil unit.funs)
          (fits-put g.decl (g ∷ []) [] fit (data_of g.decl [] g [] [] h.1.0 h.1.1 none)),
      λ rest. ap (λ (s : List ℕ). codes "object 1\n" ++ s)
          (nil-items (unit.decls ++ g.decl ∷ []) (unit.globals ++ g ∷ []) (unit.globals ++ g ∷ []) unit.funs
          (unit.funs ++ []) rest refl (sym (append-nil unit.funs))
          ∙ (items-put g.decl (g ∷ []) [] rest fit
          ∙ ap (items unit.decls unit.globals unit.funs)
          (data-item g rest h.1.0 h.1.1 h.0.1 ∙ ap (λ (s : List ℕ). s ++ (codes "\n" ++ rest)) (sym h.0.0)))),
    )
data-opened n t unit (Function d) fit more h =
    gives-if (Opened (inside.Object unit) t) (nat_lt (length unit.funs) 1024)
    (Ok (inside.Function unit (opened d))) (refused B5 n)
    (λ e. (
      (fit, h.1.0, h.1.1),
      λ rest. ap (λ (s : List ℕ). inside_text (inside.Object unit) (s ++ (codes "\n" ++ rest)))
          (sym h.0.0),
    ))
    tt
data-opened n t unit End fit more h = absurd cc

goes : (units : List (Module AsmFun)) (now : Inside) (t : List ℕ) (r : Result Inside ObjectFault) →
    Gives (Opened now t) r → Gives (Continues units now t) (goes_on units r)
goes units now t (Ok after) h = (h.0, λ rest. ap (objects_before units) (h.1 rest))
goes units now t (Err fault) h = tt

objects-put : (units : List (Module AsmFun)) (unit : Module AsmFun) (rest : List ℕ) →
    objects_before (units ++ unit ∷ []) rest ≡ objects_before units (object unit rest)
objects-put [] unit rest = refl
objects-put (u ∷ units) unit rest = ap (object u) (objects-put units unit rest)

declared-continues : (n : ℕ) (units : List (Module AsmFun)) (unit : Module AsmFun) (t : List ℕ) (found : DeclLine) →
    IsFit (inside.Object unit) → IsRead t found →
    Gives (Continues units (inside.Object unit) t) (declared n units unit found)
declared-continues n units unit t (Extern d) fit h =
    goes units (inside.Object unit) t (data_line n unit (Extern d)) (data-opened n t unit (Extern d) fit refl h)
declared-continues n units unit t (Data g) fit h =
    goes units (inside.Object unit) t (data_line n unit (Data g)) (data-opened n t unit (Data g) fit refl h)
declared-continues n units unit t (Function d) fit h =
    goes units (inside.Object unit) t (data_line n unit (Function d)) (data-opened n t unit (Function d) fit refl h)
declared-continues n units unit t End fit h = (
  tt,
  λ rest. objects-put units unit rest
      ∙ ap (λ (s : List ℕ). objects_before units (inside_text (inside.Object unit) (s ++ (codes "\n" ++ rest))))
      (sym h.0.0),
)

-- Lines of a function.

lines-put : (ls : List Line) (x : Line) (rest : List ℕ) →
    print_object.lines (ls ++ x ∷ []) rest ≡ print_object.lines ls (print.line x rest)
lines-put [] x rest = refl
lines-put (l ∷ ls) x rest = ap (print.line l) (lines-put ls x rest)

line-added : (unit : Module AsmFun) (body : Body) (t : List ℕ) (x : Line) → IsFit (inside.Function unit body) →
    t ≡ line_text x → Opened (inside.Function unit body) t (inside.Function unit (with_line body x))
line-added unit body t x fit e = (
  fit,
  λ rest. ap (λ (s : List ℕ). codes "object 1\n" ++ items unit.decls unit.globals unit.funs
      (decl_text body.decl ++ (codes "\n" ++ s)))
      (lines-put body.lines x rest
      ∙ ap (print_object.lines body.lines)
      (line-before x rest ∙ ap (λ (s : List ℕ). s ++ (codes "\n" ++ rest)) (sym e))),
)

line-opened : (n : ℕ) (unit : Module AsmFun) (body : Body) (t : List ℕ) (x : Line) →
    IsFit (inside.Function unit body) → t ≡ line_text x →
    Gives (Opened (inside.Function unit body) t) (line n unit body x)
line-opened n unit body t (l.Label m) fit e =
    gives-if (Opened (inside.Function unit body) t) (is_set body.lines m) (refused B3 n)
    (Ok (inside.Function unit (with_line body (l.Label m)))) (λ f. tt) (line-added unit body t (l.Label m) fit e)
line-opened n unit body t (l.Run i) fit e =
    gives-if (Opened (inside.Function unit body) t) (nat_lt (instructions body.lines) 4194304)
    (Ok (inside.Function unit (with_line body (l.Run i)))) (refused B5 n)
    (λ f. line-added unit body t (l.Run i) fit e) tt

-- a line of a function, as it is read
abbrev IsCode : List ℕ → CodeLine → Type 0
IsCode t (c.Code x) = t ≡ line_text x
IsCode t c.End = t ≡ codes "end"

code-opened : (n : ℕ) (unit : Module AsmFun) (body : Body) (t : List ℕ) (found : CodeLine) →
    IsFit (inside.Function unit body) → IsCode t found →
    Gives (Opened (inside.Function unit body) t) (code n unit body found)
code-opened n unit body t (c.Code x) fit e = line-opened n unit body t x fit e
code-opened n unit body t c.End fit e =
    gives-if (Opened (inside.Function unit body) t) (list_all (uses_set body.lines) body.lines)
    (Ok (inside.Object (with_function unit body))) (refused B3 n)
    (λ f. (
      nil-fits (append-nil unit.globals) refl
          (fits-put body.decl [] (fun_of body ∷ []) fit.0 (code_of body.decl [] [] (fun_of body) [] fit.1 fit.2 none)),
      λ rest. ap (λ (s : List ℕ). codes "object 1\n" ++ s)
          (nil-items (unit.decls ++ body.decl ∷ []) unit.globals (unit.globals ++ []) (unit.funs ++ fun_of body ∷ [])
          (unit.funs ++ fun_of body ∷ []) rest (sym (append-nil unit.globals)) refl
          ∙ (items-put body.decl [] (fun_of body ∷ []) rest fit.0
          ∙ ap (items unit.decls unit.globals unit.funs)
          (code-item body.decl (fun_of body) rest fit.1 fit.2
          ∙ ap (λ (s : List ℕ). decl_text body.decl ++ (codes "\n" ++ print_object.lines body.lines
          (s ++ (codes "\n" ++ rest)))) (sym e)))),
    ))
    tt

code-read : (t : List ℕ) → Gives (IsCode t) (code_line (pieces t))
code-read t = by_line (code_line (pieces t)) (line-written (pieces t))
  where
    by_line : (r : Result CodeLine LineFault) → Gives (IsLine (pieces t)) r → Gives (IsCode t) r
    by_line (Ok (c.Code x)) h = sym (text-pieces t) ∙ (ap text h ∙ text-line x)
    by_line (Ok c.End) h = sym (text-pieces t) ∙ ap text h
    by_line (Err fault) h = tt

-- Lines.

both-given : {A E : Type 0} (P Q : A → Type 0) (r : Result A E) → Gives P r → Gives Q r → Gives (λ x. P x × Q x) r
both-given P Q (Ok x) h k = (h, k)
both-given P Q (Err fault) h k = tt

next-continues : (n : ℕ) (units : List (Module AsmFun)) (now : Inside) (t : List ℕ) → suc (length t) < 2 ^ 64 →
    IsFit now → Gives (Continues units now t) (next n units now (pieces t))
next-continues n units inside.Text t small fit =
    goes units inside.Text t (first_line n (fields (pieces t))) (first-opened n t (fields (pieces t)) refl)
next-continues n units (inside.Object unit) t small fit =
    at-line (Continues units (inside.Object unit) t) (IsRead t) n (declared n units unit)
    (decl_line (fields (pieces t)))
    (both-given (IsSpelt t) IsRight (decl_line (fields (pieces t))) (declared-spelt t small)
    (line-right (fields (pieces t))))
    (λ found h. declared-continues n units unit t found fit h)
next-continues n units (inside.Function unit body) t small fit =
    goes units (inside.Function unit body) t (and_then (code n unit body) (at_line n (code_line (pieces t))))
    (at-line (Opened (inside.Function unit body) t) (IsCode t) n (code n unit body) (code_line (pieces t))
    (code-read t) (λ found h. code-opened n unit body t found fit h))

-- Texts.

abbrev unlines : List (List ℕ) → List ℕ
unlines [] = []
unlines (t ∷ []) = t
unlines (t ∷ u ∷ us) = t ++ (codes "\n" ++ unlines (u ∷ us))

abbrev HasLine : List (List ℕ) → Type 0
HasLine [] = ⊥
HasLine (t ∷ ts) = Unit {0}

has-line : (t : List ℕ) → HasLine (lines t)
unfolding lines into_line
has-line [] = tt
has-line (b ∷ bs) = by_byte (is_inner b) (lines bs)
  where
    by_byte : (t : Bool) (ts : List (List ℕ)) → HasLine (cond t (into_line b ts) ([] ∷ ts))
    by_byte true [] = tt
    by_byte true (u ∷ us) = tt
    by_byte false ts = tt

unlines-into : (b : ℕ) (ts : List (List ℕ)) → unlines (into_line b ts) ≡ b ∷ unlines ts
unfolding into_line
unlines-into b [] = refl
unlines-into b (t ∷ []) = refl
unlines-into b (t ∷ u ∷ us) = refl

unlines-more : (ts : List (List ℕ)) → HasLine ts → unlines ([] ∷ ts) ≡ 10 ∷ unlines ts
unlines-more [] h = absurd h
unlines-more (t ∷ ts) h = refl

line-feed : (b : ℕ) → is_inner b ≡ false → b ≡ 10
line-feed b e = by_test (eqb b 10) refl e
  where
    by_test : (t : Bool) → eqb b 10 ≡ t → not t ≡ false → b ≡ 10
    by_test true h f = eqb-true b 10 h
    by_test false h f = absurd cc

unlines-lines : (t : List ℕ) → unlines (lines t) ≡ t
unfolding lines
unlines-lines [] = refl
unlines-lines (b ∷ bs) = by_byte (is_inner b) refl (unlines-lines bs)
  where
    by_byte : (t : Bool) → is_inner b ≡ t → unlines (lines bs) ≡ bs →
        unlines (cond t (into_line b (lines bs)) ([] ∷ lines bs)) ≡ b ∷ bs
    by_byte true e same = unlines-into b (lines bs) ∙ ap (λ (s : List ℕ). b ∷ s) same
    by_byte false e same =
        unlines-more (lines bs) (has-line bs)
        ∙ (ap (λ (s : List ℕ). 10 ∷ s) same ∙ ap (λ a. a ∷ bs) (sym (line-feed b e)))

-- the objects that are read are those of the text
abbrev IsText : Reading → List ℕ → List (Module AsmFun) → Type 0
IsText r rest units = objects_text units ≡ objects_before r.units (inside_text r.inside rest)

end-text : (n : ℕ) (units : List (Module AsmFun)) (now : Inside) →
    Gives (IsText (going_on units now) []) (at_end n units now)
end-text n [] inside.Text = tt
end-text n (u ∷ units) inside.Text = refl
end-text n [] (inside.Object unit) = tt
end-text n (u ∷ units) (inside.Object unit) = tt
end-text n [] (inside.Function unit body) = tt
end-text n (u ∷ units) (inside.Function unit body) = tt

last-text : (n : ℕ) (r : Reading) (t : List ℕ) → Gives (IsText r t) (last_line n r t)
last-text n r [] = end-text n r.units r.inside
last-text n r (b ∷ bs) = tt

length-line : (t s : List ℕ) (n : ℕ) → suc (length (t ++ (codes "\n" ++ s))) < n →
    (suc (length t) < n) × (suc (length s) < n)
length-line t s n h =
    let sum : length (t ++ (codes "\n" ++ s)) ≡ length t + suc (length s) = length-append t (codes "\n" ++ s) in
    (omega (arith, h, sum), omega (arith, h, sum))

from-text : (ts : List (List ℕ)) (n : ℕ) (r : Reading) → suc (length (unlines ts)) < 2 ^ 64 → IsFit r.inside →
    Gives (IsText r (unlines ts)) (read_from ts n r)
from-text [] n r small fit = last-text n r []
from-text (t ∷ []) n r small fit = last-text n r t
from-text (t ∷ u ∷ us) n r small fit =
    let lengths = length-line t (unlines (u ∷ us)) (2 ^ 64) small in
    then-gives (Continues r.units r.inside t) (IsText r (unlines (t ∷ u ∷ us))) (read_from (u ∷ us) (n + 1))
    (next n r.units r.inside (pieces t)) (next-continues n r.units r.inside t lengths.0 fit)
    (λ after h. more after h.1 (read_from (u ∷ us) (n + 1) after)
    (from-text (u ∷ us) (n + 1) after lengths.1 h.0))
  where
    more : (after : Reading) → ((rest : List ℕ) → objects_before after.units (inside_text after.inside rest)
        ≡ objects_before r.units (inside_text r.inside (t ++ (codes "\n" ++ rest)))) →
        (found : Result (List (Module AsmFun)) ObjectFault) → Gives (IsText after (unlines (u ∷ us))) found →
        Gives (IsText r (unlines (t ∷ u ∷ us))) found
    more after same (Ok units) k = k ∙ same (unlines (u ∷ us))
    more after same (Err fault) k = tt

-- a text that is read is printed of its objects
pub text-printed : (t : List ℕ) (units : List (Module AsmFun)) → suc (length t) < 2 ^ 64 → read t ≡ Ok units →
    t ≡ objects_text units
text-printed t units small e =
    let start = going_on [] inside.Text in
    let whole : unlines (lines t) ≡ t = unlines-lines t in
    let given = from-text (lines t) 1 start (subst (λ (s : List ℕ). suc (length s) < 2 ^ 64) (sym whole) small) tt in
    sym (gives-of (IsText start (unlines (lines t))) (read t) units given e ∙ whole)

pub text-only : (t u : List ℕ) (units : List (Module AsmFun)) → suc (length t) < 2 ^ 64 → suc (length u) < 2 ^ 64 →
    read t ≡ Ok units → read u ≡ Ok units → t ≡ u
text-only t u units small also e f = text-printed t units small e ∙ sym (text-printed u units also f)
