-- What the code adds to a graph in the making.
use Rattle.std.specs.Prelude.{ℕ, ◌+◌, List, Option, length}
use Rattle.cas_runs.specs.Label.{NameBytes}
use Rattle.cas_mid.specs.Code as mid
use Rattle.cas_mid.specs.Code.{statement_of}
use Rattle.cas_mid.specs.Trees.{no_more}
use Rattle.cas_mid.specs.declared.tree.Stmt.{Stmt}
use Rattle.cas_sel.specs.declared.tree.SelExpr.{SelExpr}
use Rattle.cas_sel.specs.declared.tree.SelAddress.{SelAddress}
use Rattle.cas_sel.specs.declared.tree.SelTest.{SelTest}
use Rattle.cas_sel.specs.Code.{expression_of, address_of, test_of}
use Rattle.cas_sel.specs.Trees.{Expr, Exprs, Test, Address, Statement, Statements}
use Rattle.cas_rtl.specs.Graph.{Node, call, out}
use Rattle.cas_rtlgen.specs.declared.draft.Draft.{Draft}
use Rattle.cas_rtlgen.specs.declared.draft.Way.{Way}
use Rattle.cas_rtlgen.specs.declared.draft.Way.TheVariants.{IsFound}
use Rattle.cas_rtlgen.specs.Making as making
use Rattle.cas_rtlgen.specs.Making.{Piece}

abbrev pub value_at : Draft → Expr → (next r : ℕ) → Way → Piece
value_at d e next r way = making.value e (length d.nodes) next d.taken r way

abbrev pub all_at : Draft → Exprs → (next first : ℕ) → Piece
all_at d es next first = making.all es (length d.nodes) next first d.taken

-- a node on operands, which have the pseudo-registers from `first` on
abbrev pub node_on : Draft → Exprs → (first : ℕ) → Node ℕ → Piece
node_on d es first node = making.then_node (making.all es (length d.nodes + 1) (length d.nodes) first d.taken) node

abbrev pub test_at : Draft → Test → (left right : ℕ) → Piece
test_at d c left right = making.decides c (length d.nodes) left right d.taken

-- a node that uses a value, which has the pseudo-register `first`
abbrev pub node_of_value : Draft → Expr → (first : ℕ) → Node ℕ → Piece
node_of_value d e first node =
    making.then_node (making.value e (length d.nodes + 1) (length d.nodes) d.taken first IsFound) node

abbrev pub returned_at : Draft → Option Expr → Piece
returned_at d o = making.returned o (length d.nodes) d.taken

abbrev pub stored_at : Draft → Address → Expr → (next : ℕ) → Piece
stored_at d a e next = making.stored a e (length d.nodes) next d.taken

abbrev pub called_at : Draft → Option ℕ → NameBytes → Exprs → (next : ℕ) → Piece
called_at d t name es next =
    making.using_all es (length d.nodes) d.taken (call name (making.registers es d.taken) t next)

abbrev pub printed_at : Draft → Expr → (next : ℕ) → Piece
printed_at d e next = making.using e (length d.nodes) d.taken (out (making.register e d.taken) next)

abbrev pub statement_at : Draft → Statement → (exits : List ℕ) → (next : ℕ) → Piece
statement_at d a exits next = making.statement a exits (length d.nodes) next d.taken

abbrev pub sequence_at : Draft → Statements → (exits : List ℕ) → (next : ℕ) → Piece
sequence_at d bs exits next = making.sequence bs exits (length d.nodes) next d.taken

-- the code's statements
abbrev pub SelStmt : Type 0
SelStmt = Stmt SelExpr SelAddress SelTest

abbrev pub sel_statement : SelStmt → Statement
sel_statement = statement_of expression_of address_of test_of

abbrev pub sel_list : List SelStmt → Statements
sel_list all = mid.list_of expression_of address_of test_of all no_more

abbrev pub zeros_at : Draft → (t count next : ℕ) → Piece
zeros_at d t count next = making.zeros t count (length d.nodes) next
