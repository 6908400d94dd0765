-- The canonical tokens of the items of a module, and its canonical text. Each function puts those of a tree before the
-- tokens `rest`.
use Rattle.std.specs.Prelude.{ℕ, ◌+◌, ℤ, pos, negsuc, Bool, true, false, List, [], ◌∷◌, drop}
use Rattle.cas_base.specs.Kind.{value_of}
use Rattle.cas_base.specs.declared.decl.Form.{Form}
use Rattle.cas_base.specs.declared.decl.Form.TheVariants.{Lock, Shared, Table, Function}
use Rattle.cas_base.specs.declared.kind.Kind.{Kind}
use Rattle.cas_base.specs.declared.kind.Ty.{Ty}
use Rattle.cas_base.specs.declared.kind.Ty.TheVariants.{Void, Int, Ptr, Array}
use Rattle.cas_lex.specs.declared.token.Word.TheVariants as w
use Rattle.cas_lex.specs.declared.token.Sign.TheVariants as sg
use Rattle.cas_syntax.specs.declared.tree.Ident.{Ident}
use Rattle.cas_syntax.specs.Tree.{FunTree, ItemTree, global, prototype, define, ModuleTree}
use Rattle.cas_print.specs.Pieces.{Piece, word, sign, end_of_line, named, plain_number, text}
use Rattle.cas_print.specs.Expressions.{listed}
use Rattle.cas_print.specs.Statements.{before_name, behind_name, printed_stmts}

-- an integer
abbrev pub printed_integer : ℤ → List Piece → List Piece
printed_integer (pos n) rest = plain_number n ∷ rest
printed_integer (negsuc n) rest = sign sg.Minus ∷ plain_number (n + 1) ∷ rest

-- an initial word of a kind: the integer that it is at the kind
abbrev pub printed_value : Kind → ℕ → List Piece → List Piece
printed_value k v rest = printed_integer (value_of v k) rest

-- initial words of a type from the `=` on, an array's in braces
abbrev pub printed_values : Ty → List ℕ → List Piece → List Piece
printed_values Void vs rest = rest
printed_values (Ptr k) vs rest = rest
printed_values (Int k) vs rest = sign sg.Equal ∷ listed (printed_value k) vs rest
printed_values (Array k n) vs rest =
    sign sg.Equal ∷ sign sg.OpenBrace ∷ listed (printed_value k) vs (sign sg.CloseBrace ∷ rest)

-- the same, but nothing where there are no words
abbrev pub printed_initial : Ty → List ℕ → List Piece → List Piece
printed_initial ty [] rest = rest
printed_initial ty (v ∷ vs) rest = printed_values ty (v ∷ vs) rest

-- `extern` before what isn't defined
abbrev pub printed_extern : (defined : Bool) → List Piece → List Piece
printed_extern true rest = rest
printed_extern false rest = word w.Extern ∷ rest

-- the cells of a global: its type, its name and its initial words
abbrev pub printed_cells : Ty → (name : List ℕ) → List ℕ → List Piece → List Piece
printed_cells ty name vs rest = before_name ty (named name ∷ behind_name ty (printed_initial ty vs rest))

-- a global or a lock, without `extern`
abbrev pub printed_global : Form → (name : List ℕ) → List ℕ → List Piece → List Piece
printed_global Lock name vs rest = word w.Lock ∷ named name ∷ end_of_line sg.Semicolon ∷ rest
printed_global (Shared ty guard) name vs rest =
    word w.Shared ∷ sign sg.OpenParen ∷ named guard ∷ sign sg.CloseParen ∷
    printed_cells ty name vs (end_of_line sg.Semicolon ∷ rest)
printed_global (Table ty) name vs rest = word w.Const ∷ printed_cells ty name vs (end_of_line sg.Semicolon ∷ rest)
printed_global (Function ret tys holds) name vs rest = rest

-- the first name, if there is one
abbrev pub first_name : List Ident → List Piece → List Piece
first_name [] rest = rest
first_name (x ∷ xs) rest = named x.name ∷ rest

-- parameters with their names, as far as there are names, each behind a comma
abbrev pub more_parameters : List Ty → List Ident → List Piece → List Piece
more_parameters [] xs rest = rest
more_parameters (ty ∷ tys) xs rest = sign sg.Comma ∷ before_name ty
    (first_name xs (more_parameters tys (drop 1 xs) rest))

-- parameters with their names, as far as there are names; none are `void`
abbrev pub printed_parameters : List Ty → List Ident → List Piece → List Piece
printed_parameters [] xs rest = word w.Void ∷ rest
printed_parameters (ty ∷ tys) xs rest = before_name ty (first_name xs (more_parameters tys (drop 1 xs) rest))

-- a name
abbrev pub printed_name : List ℕ → List Piece → List Piece
printed_name x rest = named x ∷ rest

-- names with commas between
abbrev pub printed_names : List (List ℕ) → List Piece → List Piece
printed_names xs rest = listed printed_name xs rest

-- the locks that a function's caller holds, if there are any
abbrev pub printed_holds : List (List ℕ) → List Piece → List Piece
printed_holds [] rest = rest
printed_holds (x ∷ xs) rest = word w.Holds ∷ sign sg.OpenParen ∷ printed_names (x ∷ xs) (sign sg.CloseParen ∷ rest)

-- a function up to its body, with its parameters' names, as far as there are names
abbrev pub printed_head : Form → (name : List ℕ) → List Ident → List Piece → List Piece
printed_head (Function ret tys holds) name xs rest =
    before_name ret (named name ∷ sign sg.OpenParen ∷ printed_parameters tys xs
    (sign sg.CloseParen ∷ printed_holds holds rest))
printed_head _ name xs rest = rest

-- a function with its body
abbrev pub printed_fun : FunTree → List Piece → List Piece
printed_fun f rest =
    printed_head f.decl.form f.decl.name f.params
    (end_of_line sg.OpenBrace ∷ printed_stmts f.body (end_of_line sg.CloseBrace ∷ rest))

-- an item
abbrev pub printed_item : ItemTree → List Piece → List Piece
printed_item (global d vs p) rest = printed_extern d.defined (printed_global d.form d.name vs rest)
printed_item (prototype d held p) rest = printed_head d.form d.name [] (end_of_line sg.Semicolon ∷ rest)
printed_item (define f) rest = printed_fun f rest

-- items, one after another
abbrev pub printed_items : List ItemTree → List Piece → List Piece
printed_items [] rest = rest
printed_items (a ∷ bs) rest = printed_item a (printed_items bs rest)

-- the canonical text of a module
abbrev pub canonical : ModuleTree → List ℕ
canonical m = text (printed_items m.items [])
