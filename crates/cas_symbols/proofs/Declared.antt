-- What names mean among items behind one more declaration.
use Rattle.std.proofs.Common.{◌≡◌, ℕ, ◌+◌, Bool, true, false, cond, ◌&&◌, ◌||◌, List, [], ◌∷◌, ◌++◌, length, Option, Some, None, is_some, ap, refl, sym, ◌∙◌, arith}
use Rattle.std.proofs.lemmas.Cmp.{nat_list_eq_equiv}
use Rattle.std.proofs.lemmas.Slice.Eq.{bytes_eq-Decides}
use Rattle.std.specs.List.{list_any}
use Rattle.std.specs.Str.{bytes_eq}
use Rattle.cas_base.specs.Decl.{definitions, is_named}
use Rattle.cas_base.specs.declared.decl.Decl.{Decl}
use Rattle.cas_base.specs.declared.decl.Form.{Form}
use Rattle.cas_symbols.specs.Meanings.{symbol_meaning, is_defined}
use Rattle.cas_symbols.specs.declared.table.Symbol.{Symbol}
use Rattle.cas_typed.specs.Scopes.{Meaning, undeclared, variable, item, item_named}

-- what a name means, or else another
abbrev pub or_item : Meaning → Meaning → Meaning
or_item undeclared other = other
or_item (variable n ty) other = variable n ty
or_item (item n form) other = item n form

chosen : (b : Bool) (n : ℕ) (form : Form) (x y other : Meaning) → x ≡ or_item y other →
    cond b (item n form) x ≡ or_item (cond b (item n form) y) other
chosen true n form x y other h = refl
chosen false n form x y other h = h

-- a declaration of another name changes nothing
pub item_named_other : (n : ℕ) (ds : List Decl) (d : Decl) (name : List ℕ) → is_named name d ≡ false →
    item_named n (ds ++ d ∷ []) name ≡ item_named n ds name
item_named_other n [] d name h = ap (λ b. cond b (item n d.form) undeclared) h
item_named_other n (e ∷ es) d name h = ap (cond (is_named name e) (item n e.form))
    (item_named_other (n + 1) es d name h)

-- a declaration of the name counts where there is none before
pub item_named_at : (n : ℕ) (ds : List Decl) (d : Decl) (name : List ℕ) → is_named name d ≡ true
    → item_named n (ds ++ d ∷ []) name ≡ or_item (item_named n ds name) (item (n + length ds) d.form)
item_named_at n [] d name h =
    let at : n ≡ n + length {A = Decl} [] = omega arith in
    ap (λ b. cond b (item n d.form) undeclared) h ∙ ap (λ k. item k d.form) at
item_named_at n (e ∷ es) d name h =
    let at : n + 1 + length es ≡ n + length (e ∷ es) = omega arith in
    chosen (is_named name e) n e.form (item_named (n + 1) (es ++ d ∷ []) name) (item_named (n + 1) es name)
    (item (n + length (e ∷ es)) d.form)
    (item_named_at (n + 1) es d name h ∙ ap (λ k. or_item (item_named (n + 1) es name) (item k d.form)) at)

or_false : (a : Bool) → (a || false) ≡ a
or_false true = refl
or_false false = refl

or_assoc : (a b c : Bool) → (a || (b || c)) ≡ ((a || b) || c)
or_assoc true b c = refl
or_assoc false b c = refl

one_defined : (b : Bool) (p : Decl → Bool) (d : Decl) → list_any p (cond b (d ∷ []) []) ≡ (b && p d)
one_defined true p d = or_false (p d)
one_defined false p d = refl

more_defined : (b : Bool) (p : Decl → Bool) (e : Decl) (xs ys : List Decl) (z : Bool) →
    list_any p xs ≡ (list_any p ys || z)
    → list_any p (cond b (e ∷ xs) xs) ≡ (list_any p (cond b (e ∷ ys) ys) || z)
more_defined true p e xs ys z h = ap (λ b. p e || b) h ∙ or_assoc (p e) (list_any p ys) z
more_defined false p e xs ys z h = h

-- the definitions, with the last declaration if it is one
pub any_definition : (p : Decl → Bool) (ds : List Decl) (d : Decl) →
    list_any p (definitions (ds ++ d ∷ [])) ≡ (list_any p (definitions ds) || (d.defined && p d))
any_definition p [] d = one_defined d.defined p d
any_definition p (e ∷ es) d = more_defined e.defined p e (definitions (es ++ d ∷ [])) (definitions es)
    (d.defined && p d) (any_definition p es d)

-- a declaration has its own name
pub named_so : (d : Decl) → is_named d.name d ≡ true
named_so d = nat_list_eq_equiv.refl d.name

-- what the first item of a declaration's name declares
pub first_item : (found : Option Symbol) (ds : List Decl) (d : Decl) → symbol_meaning found ≡ item_named 0 ds d.name
    → or_item (symbol_meaning found) (item (length ds) d.form) ≡ item_named 0 (ds ++ d ∷ []) d.name
first_item found ds d h =
    let at : length ds ≡ 0 + length ds = omega arith in
    ap (λ m. or_item m (item (length ds) d.form)) h ∙ ap (λ k. or_item (item_named 0 ds d.name) (item k d.form)) at
    ∙ sym (item_named_at 0 ds d d.name (named_so d))

and_true : (a : Bool) → (a && true) ≡ a
and_true true = refl
and_true false = refl

-- whether a declaration's name is defined
pub first_defined : (found : Option Symbol) (ds : List Decl) (d : Decl) →
    is_defined found ≡ list_any (is_named d.name) (definitions ds)
    → (is_defined found || d.defined) ≡ list_any (is_named d.name) (definitions (ds ++ d ∷ []))
first_defined found ds d h =
    ap (λ b. b || d.defined) h
    ∙ ap (λ b. list_any (is_named d.name) (definitions ds) || b)
    (sym (ap (λ b. d.defined && b) (named_so d) ∙ and_true d.defined))
    ∙ sym (any_definition (is_named d.name) ds d)

not_defined : (a b : Bool) → (a || (b && false)) ≡ a
not_defined a true = or_false a
not_defined a false = or_false a

-- what the table has of a name is so among these declarations
abbrev pub IsFound : Option Symbol → List Decl → List ℕ → Type 0
IsFound found ds name = (symbol_meaning found ≡ item_named 0 ds name)
    × (is_defined found ≡ list_any (is_named name) (definitions ds))

-- the table has a declaration's name
pub index_with : (ds : List Decl) (d : Decl) (first : Symbol) (found after : Option Symbol) (name : List ℕ)
    → after ≡ cond (bytes_eq d.name name) (Some first) found
    → symbol_meaning found ≡ item_named 0 ds name → is_defined found ≡ list_any (is_named name) (definitions ds)
    → symbol_meaning (Some first) ≡ item_named 0 (ds ++ d ∷ []) d.name →
    is_defined (Some first) ≡ list_any (is_named d.name) (definitions (ds ++ d ∷ []))
    → (b : Bool) → bytes_eq d.name name ≡ b
    → IsFound after (ds ++ d ∷ []) name
index_with ds d first found after name h item_before defined_before item_now defined_now true e =
    let same : d.name ≡ name = (bytes_eq-Decides d.name name).0 e in
    let is : after ≡ Some first = h ∙ ap (λ b. cond b (Some first) found) e in (
      ap symbol_meaning is ∙ item_now ∙ ap (item_named 0 (ds ++ d ∷ [])) same,
      ap is_defined is ∙ defined_now ∙ ap (λ at. list_any (is_named at) (definitions (ds ++ d ∷ []))) same,
    )
index_with ds d first found after name h item_before defined_before item_now defined_now false e =
    let other : is_named name d ≡ false = nat_list_eq_equiv.symm name d.name ∙ e in
    let is : after ≡ found = h ∙ ap (λ b. cond b (Some first) found) e in (
      ap symbol_meaning is ∙ item_before ∙ sym (item_named_other 0 ds d name other),
      ap is_defined is ∙ defined_before
          ∙ sym (any_definition (is_named name) ds d ∙ ap
          (λ b. list_any (is_named name) (definitions ds) || (d.defined && b)) other
          ∙ not_defined (list_any (is_named name) (definitions ds)) d.defined),
    )

-- whether a name means an item
abbrev pub is_item : Meaning → Bool
is_item undeclared = false
is_item (variable n ty) = false
is_item (item n form) = true

item_there : (b : Bool) (n : ℕ) (form : Form) (m : Meaning) (rest : Bool) → is_item m ≡ rest →
    is_item (cond b (item n form) m) ≡ (b || rest)
item_there true n form m rest h = refl
item_there false n form m rest h = h

is_declared : (n : ℕ) (ds : List Decl) (name : List ℕ) → is_item (item_named n ds name) ≡ list_any (is_named name) ds
is_declared n [] name = refl
is_declared n (d ∷ ds) name = item_there (is_named name d) n d.form (item_named (n + 1) ds name)
    (list_any (is_named name) ds) (is_declared (n + 1) ds name)

is_first : (found : Option Symbol) → is_some found ≡ is_item (symbol_meaning found)
is_first None = refl
is_first (Some first) = refl

-- a name is declared where the table has a first item of it
pub declared_there : (found : Option Symbol) (ds : List Decl) (name : List ℕ) →
    symbol_meaning found ≡ item_named 0 ds name → is_some found ≡ list_any (is_named name) ds
declared_there found ds name h = is_first found ∙ ap is_item h ∙ is_declared 0 ds name
