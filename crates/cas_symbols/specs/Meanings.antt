-- What the entries of a symbol table stand for.
use Rattle.std.specs.Prelude.{◌≡◌, ℕ, Bool, false, List, Option, Some, None}
use Rattle.std.specs.List.{list_any}
use Rattle.std.specs.Borrow.{Bor}
use Rattle.std.specs.Map.{lookup}
use Rattle.std.specs.Str.{bytes_eq}
use Rattle.cas_base.specs.Decl.{definitions, is_named}
use Rattle.cas_base.specs.declared.decl.Decl.{Decl}
use Rattle.cas_symbols.specs.declared.table.Symbol.{Symbol}
use Rattle.cas_typed.specs.Scopes.{Meaning, undeclared, item, item_named}

-- what a name with this entry means
abbrev pub symbol_meaning : Option Symbol → Meaning
symbol_meaning None = undeclared
symbol_meaning (Some symbol) = item symbol.number symbol.form.now

-- whether a name with this entry is defined
abbrev pub is_defined : Option Symbol → Bool
is_defined None = false
is_defined (Some symbol) = symbol.defined

-- the table has an entry for each name that is declared
abbrev pub IsIndex : List Decl → List (Bor (List ℕ) × Symbol) → Type 0
IsIndex decls entries =
    (name : List ℕ) → (symbol_meaning (lookup (λ key. bytes_eq name key.now) entries) ≡ item_named 0 decls name)
    × (is_defined (lookup (λ key. bytes_eq name key.now) entries) ≡ list_any (is_named name) (definitions decls))
