-- What the functions that read statements tell of the machine.
use Rattle.std.specs.declared.alloc.Global.{Global}
use Rattle.std.specs.Prelude.{ℕ, Bool, Box, true, false, List, [], ◌∷◌, Option, Some, None, Err}
use Rattle.cas_base.specs.declared.place.Place.{Place}
use Rattle.cas_lex.specs.declared.code.ReadCode.TheVariants.{R6}
use Rattle.cas_lex.specs.declared.token.Token.{Token}
use Rattle.cas_lex.specs.declared.token.TokenKind.{TokenKind}
use Rattle.cas_lex.specs.declared.token.TokenKind.TheVariants as k
use Rattle.cas_lex.specs.declared.token.Sign.TheVariants as sg
use Rattle.cas_syntax.specs.declared.tree.Stmt.{Stmt}
use Rattle.cas_syntax.specs.Reading.{within}
use Rattle.cas_syntax.specs.Tree.{TargetTree, StmtList, StmtOption, absent, present, stmt_tree}
use Rattle.cas_parse.specs.Frames.{Frame, Use, AssignedTo, WantOutermost, HaveSimple}
use Rattle.cas_parse.specs.Machine.{Verdict, begins_kind, reached, simple_started, started, list_continued, nested, want_kind, stepped}
use Rattle.cas_read_expr.specs.Follow.{verdict, taken, takes}
use Rattle.cas_read_stmt.specs.declared.simple.Change.{Change}
use Rattle.cas_read_stmt.specs.declared.simple.Change.TheVariants.{Assigns, Steps}

-- the verdict where a target stands behind which these tokens are left
abbrev pub reaches : List Token → Use → TargetTree → List Frame → Verdict
reaches ts usage target st = verdict ts (reached usage target st).0 (reached usage target st).1

-- the verdict behind the sign with which a target is changed so
abbrev pub changes : Change → List Token → Place → TargetTree → List Frame → Verdict
changes (Assigns op) ts p target st = verdict ts WantOutermost (AssignedTo p target op ∷ st)
changes (Steps op) ts p target st = verdict ts (HaveSimple (stepped p target op)) st

-- the verdict where an assignment or a call has to begin
abbrev pub begins_simple : List Token → List Frame → Verdict
begins_simple ts st = takes ts (simple_started (within 0) false false st)

-- whether a token begins an assignment or a call
abbrev pub starts_simple : TokenKind → Bool
starts_simple (k.Name n) = true
starts_simple (k.Sign sg.Star) = true
starts_simple (k.Sign sg.PlusPlus) = true
starts_simple (k.Sign sg.MinusMinus) = true
starts_simple _ = false

-- the verdict where a statement begins in so many others, fewer than the limit
abbrev pub begins_stmt : List Token → (around : ℕ) → List Frame → Verdict
begins_stmt [] n st = Err (record { code = R6; left = 0 })
begins_stmt (t ∷ rest) n st = taken rest (started (within 0) false false n st t.place t.kind)

-- the verdict where a list of statements goes on behind these, in so many others
abbrev pub begins_listed : List Token → (around : ℕ) → StmtList → List Frame → Verdict
begins_listed [] n bs st = Err (record { code = R6; left = 0 })
begins_listed (t ∷ rest) n bs st =
    taken rest (list_continued (within 0) false false n bs st t.place t.kind (begins_kind t.kind))

-- the verdict where an assignment or a call, or words of a kind, have to begin in so many statements

abbrev pub nests_simple : List Token → (around : ℕ) → List Frame → Verdict
nests_simple [] n st = Err (record { code = R6; left = 0 })
nests_simple (t ∷ rest) n st =
    taken rest (nested (within 0) false false n (simple_started (within 0) false false st t.place t.kind))

abbrev pub nests_kind : List Token → (around : ℕ) → List Frame → Verdict
nests_kind [] n st = Err (record { code = R6; left = 0 })
nests_kind (t ∷ rest) n st =
    taken rest (nested (within 0) false false n (want_kind (within 0) false false None st t.kind))

-- a statement that has its own place in memory, or none, as a tree
abbrev pub boxed_tree : Option (Box Stmt Global) → StmtOption
boxed_tree None = absent
boxed_tree (Some a) = present (stmt_tree a.value)
