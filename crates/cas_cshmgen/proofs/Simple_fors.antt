-- In each text the first and last parts of a `for` are simple.
use Rattle.std.proofs.Common.{ℕ, List, [], ◌∷◌, map}
use Rattle.cas_base.specs.declared.kind.Kind.{Kind}
use Rattle.cas_lex.specs.declared.token.Token.{Token}
use Rattle.cas_syntax.specs.Items as i
use Rattle.cas_syntax.specs.Items.{SpellsItem, SpellsItems}
use Rattle.cas_syntax.specs.Limits.{Limits}
use Rattle.cas_syntax.specs.Reading.{IsReadAs}
use Rattle.cas_syntax.specs.Statements as y
use Rattle.cas_syntax.specs.Statements.{SpellsSimple, SpellsLocal, SpellsLocals, SpellsFirst, SpellsAfter, SpellsStmt, SpellsStmts}
use Rattle.cas_syntax.specs.Tree.{StmtTree, StmtOption, StmtList, ItemTree, global, prototype, define, ModuleTree}
use Rattle.cas_typed.specs.Modules.{filled_item, filled_module}
use Rattle.cas_cshmgen.specs.Made.{ForsAreSimpleIn, ItemForsAreSimple}
use Rattle.cas_cshmgen.specs.Match.{IsSimpleText, IsSimplePart, ForsAreSimple, AllForsAreSimple}

simple_text : {limits : Limits} {a : StmtTree} {s r : List Token} → SpellsSimple limits a s r → IsSimpleText a
    × ForsAreSimple a
simple_text (y.sets target a first p s t r st may sa) = (tt, tt)
simple_text (y.changes target op by a first p s t r is st sa) = (tt, tt)
simple_text (y.increments target first p s r st) = (tt, tt)
simple_text (y.decrements target first p s r st) = (tt, tt)
simple_text (y.increments_first target p s r st) = (tt, tt)
simple_text (y.decrements_first target p s r st) = (tt, tt)
simple_text (y.keeps_result x f bs p q q' s r sb) = (tt, tt)
simple_text (y.calls f bs p q s r sb) = (tt, tt)

local_text : {limits : Limits} {k : Kind} {a : StmtTree} {s r : List Token} → SpellsLocal limits k a s r →
    IsSimpleText a × ForsAreSimple a
local_text (y.variable x a s r sa) = (tt, tt)
local_text (y.pointer x a p s r sa) = (tt, tt)
local_text (y.array x n j p o q r) = (tt, tt)
local_text (y.pointer_to_pointer p q r out) = (tt, tt)
local_text (y.pointers x p q r out) = (tt, tt)
local_text (y.arrays x n j p o q q' r out) = (tt, tt)
local_text (y.array_values x n j p o q q' r out) = (tt, tt)

locals_text : {limits : Limits} {k : Kind} {bs rest : StmtList} {s r : List Token} → SpellsLocals limits k bs rest s r →
    AllForsAreSimple rest → AllForsAreSimple bs
locals_text (y.last_local a rest s r sa) h = ((local_text sa).1, h)
locals_text (y.one_local a bs rest p s t r sa sb) h = ((local_text sa).1, locals_text sb h)

first_text : {limits : Limits} {n : ℕ} {i : StmtOption} {s r : List Token} → SpellsFirst limits n i s r → IsSimplePart i
first_text (y.nothing_first r) = tt
first_text (y.simple_first a s r allowed sa) = (simple_text sa).0
first_text (y.local_first k a s t r allowed sk sa) = (local_text sa).0

after_text : {limits : Limits} {n : ℕ} {u : StmtOption} {s r : List Token} → SpellsAfter limits n u s r → IsSimplePart u
after_text (y.nothing_after r) = tt
after_text (y.simple_after a s r allowed sa) = (simple_text sa).0

mutual
  stmt_text : {limits : Limits} {n : ℕ} {a : StmtTree} {s r : List Token} → SpellsStmt limits n a s r → ForsAreSimple a
  stmt_text (y.skips n p r allowed) = tt
  stmt_text (y.blocks n bs p q s r allowed sb) = body_text sb
  stmt_text (y.simple n a p s r allowed sa) = (simple_text sa).1
  stmt_text (y.ifs n c a p q q' s t r allowed sc sa) = (stmt_text sa, tt)
  stmt_text (y.if_elses n c a b p q q' e s t u r allowed sc sa dangling sb) = (stmt_text sa, stmt_text sb)
  stmt_text (y.whiles n c a p q q' s t r allowed sc sa) = stmt_text sa
  stmt_text (y.dos n a c p o q q' e s t r allowed sa sc) = stmt_text sa
  stmt_text (y.fors n i c u a p q e f g s t v z r allowed si sc su sa) = (first_text si, after_text su, stmt_text sa)
  stmt_text (y.breaks n p q r allowed) = tt
  stmt_text (y.continues n p q r allowed) = tt
  stmt_text (y.returns n a p q s r allowed sa) = tt
  stmt_text (y.locks n x p q q' e r allowed) = tt
  stmt_text (y.unlocks n x p q q' e r allowed) = tt
  stmt_text (y.prints n a p q q' e s r allowed sa) = tt

  body_text : {limits : Limits} {n : ℕ} {bs : StmtList} {s r : List Token} → SpellsStmts limits n bs s r →
      AllForsAreSimple bs
  body_text (y.ended n r) = tt
  body_text (y.a_stmt n a bs s t r sa sb) = (stmt_text sa, body_text sb)
  body_text (y.locals n k bs rest p s t u r allowed sk sl sb) = locals_text sl (body_text sb)

item_text : {limits : Limits} {a : ItemTree} {s r : List Token} → SpellsItem limits a s r → ItemForsAreSimple a
item_text (i.a_lock x d p q s r se) = tt
item_text (i.a_shared x guard k ty vs d p q q' e s t u r se sk sc) = tt
item_text (i.a_table x k ty vs d p e s t u r se sk sc) = tt
item_text (i.a_prototype x form xs held d e s t r se sh) = tt
item_text (i.a_function x form xs held body p closing s t r sh sb) = body_text sb
item_text (i.a_plain_global x ty d by p s t r out follows se sr) = tt

items_text : {limits : Limits} {items : List ItemTree} {s r : List Token} → SpellsItems limits items s r →
    ForsAreSimpleIn items
items_text (i.no_item r) = tt
items_text (i.an_item a bs s t r sa sb) = (item_text sa, items_text sb)

filled_too : (items : List ItemTree) → ForsAreSimpleIn items → ForsAreSimpleIn (map filled_item items)
filled_too [] h = tt
filled_too (global d vs p ∷ items) h = (tt, filled_too items h.1)
filled_too (prototype d hs p ∷ items) h = (tt, filled_too items h.1)
filled_too (define f ∷ items) h = (h.0, filled_too items h.1)

pub texts_are_simple : (text : List ℕ) (m : ModuleTree) → IsReadAs text m → ForsAreSimpleIn (filled_module m).items
texts_are_simple text m (tokens, lexed, spelled) = filled_too m.items (items_text spelled)
