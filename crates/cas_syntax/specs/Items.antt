-- Which tokens spell which items of a module: from the first list on to the second.
use Rattle.std.specs.Prelude.{◌≡◌, ℕ, Bool, true, false, List, [], ◌∷◌, map, Option, Some, None}
use Rattle.cas_base.specs.Word.{word_sub, narrowed}
use Rattle.cas_base.specs.declared.decl.Decl.{Decl}
use Rattle.cas_base.specs.declared.decl.Form.{Form}
use Rattle.cas_base.specs.declared.decl.Form.TheVariants.{Lock, Shared, Table, Function}
use Rattle.cas_base.specs.declared.kind.Kind.{Kind}
use Rattle.cas_base.specs.declared.kind.Ty.{Ty}
use Rattle.cas_base.specs.declared.kind.Ty.TheVariants.{Void, Int, Ptr, Array}
use Rattle.cas_base.specs.declared.place.Place.{Place}
use Rattle.cas_lex.specs.declared.token.Token.{Token}
use Rattle.cas_lex.specs.declared.token.Word.TheVariants as w
use Rattle.cas_lex.specs.declared.token.Sign.{Sign}
use Rattle.cas_lex.specs.declared.token.Sign.TheVariants as sg
use Rattle.cas_syntax.specs.declared.tree.Ident.{Ident}
use Rattle.cas_syntax.specs.Tree.{StmtList, ItemTree, global, prototype, define}
use Rattle.cas_syntax.specs.Limits.{Limits, IsLeftOut}
use Rattle.cas_syntax.specs.Tokens.{word, sign, ident, number}
use Rattle.cas_syntax.specs.Expressions.{SpellsKind}
use Rattle.cas_syntax.specs.Statements.{SpellsStmts}

-- a declaration
abbrev pub declared : (name : List ℕ) → Form → (defined : Bool) → Decl
declared name form defined = record { name = name; form = form; defined = defined }

-- `extern`, or nothing; and whether what follows is a definition
pub data SpellsExtern : (defined : Bool) → List Token → List Token → Type 0 where
  here : (r : List Token) → SpellsExtern true r r
  elsewhere : (p : Place) (r : List Token) → SpellsExtern false (word w.Extern p ∷ r) r

-- an initial value, as a word of the kind
pub data SpellsValue (k : Kind) : (word : ℕ) → List Token → List Token → Type 0 where
  as_it_is : (n : ℕ) (j : Kind) (p : Place) (r : List Token) → SpellsValue k (narrowed n k) (number n j p ∷ r) r
  negative : (n : ℕ) (j : Kind) (p q : Place) (r : List Token) →
      SpellsValue k (narrowed (word_sub 0 n) k) (sign sg.Minus p ∷ number n j q ∷ r) r

-- initial values with commas between, and perhaps one at the end
pub data SpellsValues (k : Kind) : List ℕ → List Token → List Token → Type 0 where
  last_value : (v : ℕ) (s r : List Token) → SpellsValue k v s r → SpellsValues k (v ∷ []) s r
  last_value_and_comma : (v : ℕ) (p : Place) (s r : List Token) → SpellsValue k v s (sign sg.Comma p ∷ r) →
      SpellsValues k (v ∷ []) s r
  one_value : (v : ℕ) (vs : List ℕ) (p : Place) (s t r : List Token) → SpellsValue k v s (sign sg.Comma p ∷ t) →
      SpellsValues k vs t r →
      SpellsValues k (v ∷ vs) s r

-- the name of a shared global or a table whose cells are of this kind, its type, and its initial values; those only in
-- a definition
pub data SpellsCells (limits : Limits) (defined : Bool) (k : Kind) : Ident → Ty → (values : List ℕ) → List Token →
    List Token → Type 0 where
  one_cell : (x : Ident) (r : List Token) → SpellsCells limits defined k x (Int k) [] (ident x ∷ r) r
  one_cell_with_value : (x : Ident) (v : ℕ) (p : Place) (s r : List Token) → defined ≡ true → SpellsValue k v s r →
      SpellsCells limits defined k x (Int k) (v ∷ []) (ident x ∷ sign sg.Equal p ∷ s) r
  cells : (x : Ident) (n : ℕ) (j : Kind) (p o q : Place) (r : List Token) →
      SpellsCells limits defined k x (Array k n) []
      (ident x ∷ sign sg.OpenBracket p ∷ number n j o ∷ sign sg.CloseBracket q ∷ r) r
  cells_with_values : (x : Ident) (n : ℕ) (j : Kind) (vs : List ℕ) (p o q e f g : Place) (s r : List Token) →
      defined ≡ true →
      SpellsValues k vs s (sign sg.CloseBrace g ∷ r) →
      SpellsCells limits defined k x (Array k n) vs
      (ident x ∷ sign sg.OpenBracket p ∷ number n j o ∷ sign sg.CloseBracket q ∷ sign sg.Equal e ∷ sign sg.OpenBrace f ∷
      s) r
  -- left out: an array of arrays
  arrays : (x : Ident) (n : ℕ) (j : Kind) (p o q q' : Place) (r : List Token) → IsLeftOut limits r →
      SpellsCells limits defined k x (Array k n) []
      (ident x ∷ sign sg.OpenBracket p ∷ number n j o ∷ sign sg.CloseBracket q ∷ sign sg.OpenBracket q' ∷ r) r

-- the type of a parameter, or of what a function returns
pub data SpellsType (limits : Limits) : Ty → List Token → List Token → Type 0 where
  integer : (k : Kind) (s r : List Token) → SpellsKind k s r → SpellsType limits (Int k) s r
  pointer : (k : Kind) (p : Place) (s r : List Token) → SpellsKind k s (sign sg.Star p ∷ r) →
      SpellsType limits (Ptr k) s r
  -- left out: a pointer to a pointer
  pointer_to_pointer : (k : Kind) (p q : Place) (s r : List Token) → IsLeftOut limits r →
      SpellsKind k s (sign sg.Star p ∷ sign sg.Star q ∷ r) → SpellsType limits (Ptr k) s r

-- what a function returns
pub data SpellsReturn (limits : Limits) : Ty → List Token → List Token → Type 0 where
  no_value : (p : Place) (r : List Token) → SpellsReturn limits Void (word w.Void p ∷ r) r
  a_value : (ty : Ty) (s r : List Token) → SpellsType limits ty s r → SpellsReturn limits ty s r

-- a parameter: its type, and its name where it has one
pub data SpellsParameter (limits : Limits) : Ty → Option Ident → List Token → List Token → Type 0 where
  unnamed : (ty : Ty) (s r : List Token) → SpellsType limits ty s r → SpellsParameter limits ty None s r
  named : (ty : Ty) (x : Ident) (s r : List Token) → SpellsType limits ty s (ident x ∷ r) →
      SpellsParameter limits ty (Some x) s r
  -- left out: an array as a parameter
  unnamed_array : (ty : Ty) (p : Place) (s r : List Token) → IsLeftOut limits r →
      SpellsType limits ty s (sign sg.OpenBracket p ∷ r) →
      SpellsParameter limits ty None s r
  named_array : (ty : Ty) (x : Ident) (p : Place) (s r : List Token) → IsLeftOut limits r →
      SpellsType limits ty s (ident x ∷ sign sg.OpenBracket p ∷ r) → SpellsParameter limits ty (Some x) s r

-- parameters with commas between
pub data SpellsParameterList (limits : Limits) : List Ty → List (Option Ident) → List Token → List Token → Type 0 where
  last_parameter : (ty : Ty) (x : Option Ident) (s r : List Token) → SpellsParameter limits ty x s r →
      SpellsParameterList limits (ty ∷ []) (x ∷ []) s r
  one_parameter : (ty : Ty) (tys : List Ty) (x : Option Ident) (xs : List (Option Ident)) (p : Place)
      (s t r : List Token) →
      SpellsParameter limits ty x s (sign sg.Comma p ∷ t) → SpellsParameterList limits tys xs t r →
      SpellsParameterList limits (ty ∷ tys) (x ∷ xs) s r

-- what stands between a function's parentheses
pub data SpellsParameters (limits : Limits) : List Ty → List (Option Ident) → List Token → List Token → Type 0 where
  nothing : (r : List Token) → SpellsParameters limits [] [] r r
  void : (p : Place) (r : List Token) → SpellsParameters limits [] [] (word w.Void p ∷ r) r
  parameters : (tys : List Ty) (xs : List (Option Ident)) (s r : List Token) → SpellsParameterList limits tys xs s r →
      SpellsParameters limits tys xs s r

-- names with commas between
pub data SpellsNames : List Ident → List Token → List Token → Type 0 where
  last_name : (x : Ident) (r : List Token) → SpellsNames (x ∷ []) (ident x ∷ r) r
  one_name : (x : Ident) (xs : List Ident) (p : Place) (s r : List Token) → SpellsNames xs s r →
      SpellsNames (x ∷ xs) (ident x ∷ sign sg.Comma p ∷ s) r

-- the locks that a function's caller holds
pub data SpellsHolds : List Ident → List Token → List Token → Type 0 where
  none_held : (r : List Token) → SpellsHolds [] r r
  held : (xs : List Ident) (p q q' : Place) (s r : List Token) → SpellsNames xs s (sign sg.CloseParen q' ∷ r) →
      SpellsHolds xs (word w.Holds p ∷ sign sg.OpenParen q ∷ s) r

-- the names alone, and their places alone
abbrev pub names_alone : List Ident → List (List ℕ)
names_alone xs = map (λ x. x.name) xs

abbrev pub places_alone : List Ident → List Place
places_alone xs = map (λ x. x.place) xs

-- a function up to its body: its name, its form, its parameters' names, and the places of the locks that it holds
pub data SpellsHead (limits : Limits) : Ident → Form → List (Option Ident) → List Place → List Token → List Token →
    Type 0 where
  head : (x : Ident) (ret : Ty) (tys : List Ty) (xs : List (Option Ident)) (holds : List Ident) (p q : Place)
      (s t u r : List Token) →
      SpellsReturn limits ret s (ident x ∷ sign sg.OpenParen p ∷ t) →
      SpellsParameters limits tys xs t (sign sg.CloseParen q ∷ u) →
      SpellsHolds holds u r → SpellsHead limits x (Function ret tys (names_alone holds)) xs (places_alone holds) s r

-- a sign that follows a global's type and name, but no function's
pub data FollowsGlobal : Sign → Type 0 where
  its_length : FollowsGlobal sg.OpenBracket
  its_value : FollowsGlobal sg.Equal
  its_end : FollowsGlobal sg.Semicolon

-- an item
pub data SpellsItem (limits : Limits) : ItemTree → List Token → List Token → Type 0 where
  a_lock : (x : Ident) (d : Bool) (p q : Place) (s r : List Token) →
      SpellsExtern d s (word w.Lock p ∷ ident x ∷ sign sg.Semicolon q ∷ r) →
      SpellsItem limits (global (declared x.name Lock d) [] x.place) s r
  a_shared : (x guard : Ident) (k : Kind) (ty : Ty) (vs : List ℕ) (d : Bool) (p q q' e : Place) (s t u r : List Token) →
      SpellsExtern d s (word w.Shared p ∷ sign sg.OpenParen q ∷ ident guard ∷ sign sg.CloseParen q' ∷ t) →
      SpellsKind k t u →
      SpellsCells limits d k x ty vs u (sign sg.Semicolon e ∷ r) →
      SpellsItem limits (global (declared x.name (Shared ty guard.name) d) vs x.place) s r
  a_table : (x : Ident) (k : Kind) (ty : Ty) (vs : List ℕ) (d : Bool) (p e : Place) (s t u r : List Token) →
      SpellsExtern d s (word w.Const p ∷ t) → SpellsKind k t u →
      SpellsCells limits d k x ty vs u (sign sg.Semicolon e ∷ r) →
      SpellsItem limits (global (declared x.name (Table ty) d) vs x.place) s r
  a_prototype : (x : Ident) (form : Form) (xs : List (Option Ident)) (held : List Place) (d : Bool) (e : Place)
      (s t r : List Token) →
      SpellsExtern d s t → SpellsHead limits x form xs held t (sign sg.Semicolon e ∷ r) →
      SpellsItem limits (prototype (declared x.name form false) held x.place) s r
  a_function : (x : Ident) (form : Form) (xs : List Ident) (held : List Place) (body : StmtList) (p closing : Place)
      (s t r : List Token) →
      SpellsHead limits x form (map Some xs) held s (sign sg.OpenBrace p ∷ t) →
      SpellsStmts limits 0 body t (sign sg.CloseBrace closing ∷ r) →
      SpellsItem limits
      (define (record {
        decl = declared x.name form true;
        params = xs;
        held = held;
        body = body;
        place =
            x.place;
        closing = closing;
      })) s r
  -- left out: a global that is neither shared nor constant
  a_plain_global : (x : Ident) (ty : Ty) (d : Bool) (by : Sign) (p : Place) (s t r : List Token) → IsLeftOut limits r →
      FollowsGlobal by → SpellsExtern d s t → SpellsReturn limits ty t (ident x ∷ sign by p ∷ r) →
      SpellsItem limits (global (declared x.name (Table ty) d) [] x.place) s r

-- items, one after another
pub data SpellsItems (limits : Limits) : List ItemTree → List Token → List Token → Type 0 where
  no_item : (r : List Token) → SpellsItems limits [] r r
  an_item : (a : ItemTree) (bs : List ItemTree) (s t r : List Token) → SpellsItem limits a s t →
      SpellsItems limits bs t r →
      SpellsItems limits (a ∷ bs) s r
