-- What tokens whose literals are words spell is formed: statements.
use Rattle.std.proofs.Common.{ℕ, ◌<◌, ◌^◌, List, Option, lit<}
use Rattle.cas_base.specs.declared.kind.Kind.{Kind}
use Rattle.cas_lex.specs.declared.token.Token.{Token}
use Rattle.cas_syntax.specs.Limits.{Limits}
use Rattle.cas_syntax.specs.Statements as y
use Rattle.cas_syntax.specs.Statements.{SpellsTarget, SpellsSimple, SpellsInit, SpellsLocal, SpellsLocals, SpellsFirst, SpellsAfter, SpellsOptional, SpellsStmt, SpellsStmts}
use Rattle.cas_syntax.specs.Tree.{ExprTree, TargetTree, InitTree, StmtTree, StmtOption, StmtList}
use Rattle.cas_typed.specs.Formed.{OptionalIsFormed, TargetIsFormed, InitIsFormed, StmtIsFormed, PartIsFormed, BodyIsFormed}
use Rattle.cas_typed.proofs.Formed_exprs.{Formed, kind_rest, expr_formed, arguments_formed}
use Rattle.cas_typed.proofs.Token_words.{HaveWords, first_of, rest_of}

target_formed : {limits : Limits} {target : TargetTree} {s r : List Token} → SpellsTarget limits target s r →
    HaveWords s → Formed (TargetIsFormed target) r
target_formed (y.a_variable x r) h = record { is = tt; rest = rest_of h }
target_formed (y.an_element x a p q s r sa) h = let b =
    expr_formed sa (rest_of (rest_of h)) in record { is = b.is; rest = rest_of b.rest }
target_formed (y.behind_name x p r) h = record { is = tt; rest = rest_of (rest_of h) }
target_formed (y.behind_parentheses a o p q s r sa) h = let b =
    expr_formed sa (rest_of (rest_of h)) in record { is = b.is; rest = rest_of b.rest }

one_is_a_word : 1 < 2 ^ 32
one_is_a_word = lit< tt

simple_formed : {limits : Limits} {a : StmtTree} {s r : List Token} → SpellsSimple limits a s r → HaveWords s →
    Formed (StmtIsFormed a) r
simple_formed (y.sets target a first p s t r st may sa) h =
    let b = target_formed st h in
    let c = expr_formed sa (rest_of b.rest) in
    record { is = (b.is, c.is); rest = c.rest }
simple_formed (y.changes target op by a first p s t r is st sa) h =
    let b = target_formed st h in
    let c = expr_formed sa (rest_of b.rest) in
    record { is = (b.is, c.is); rest = c.rest }
simple_formed (y.increments target first p s r st) h = let b =
    target_formed st h in record { is = (b.is, one_is_a_word); rest = rest_of b.rest }
simple_formed (y.decrements target first p s r st) h = let b =
    target_formed st h in record { is = (b.is, one_is_a_word); rest = rest_of b.rest }
simple_formed (y.increments_first target p s r st) h = let b =
    target_formed st (rest_of h) in record { is = (b.is, one_is_a_word); rest = b.rest }
simple_formed (y.decrements_first target p s r st) h = let b =
    target_formed st (rest_of h) in record { is = (b.is, one_is_a_word); rest = b.rest }
simple_formed (y.keeps_result x f bs p q q' s r sb) h = let b =
    arguments_formed sb (rest_of (rest_of (rest_of (rest_of h)))) in record { is = b.is; rest = rest_of b.rest }
simple_formed (y.calls f bs p q s r sb) h = let b = arguments_formed sb (rest_of (rest_of h)) in
    record { is = b.is; rest = rest_of b.rest }

init_formed : {limits : Limits} {a : InitTree} {s r : List Token} → SpellsInit limits a s r → HaveWords s →
    Formed (InitIsFormed a) r
init_formed (y.no_value r) h = record { is = tt; rest = h }
init_formed (y.a_value a p s r begins sa) h = expr_formed sa (rest_of h)
init_formed (y.a_result f bs p q q' s r sb) h = let b = arguments_formed sb (rest_of (rest_of (rest_of h))) in
    record { is = b.is; rest = rest_of b.rest }

local_formed : {limits : Limits} {k : Kind} {a : StmtTree} {s r : List Token} → SpellsLocal limits k a s r →
    HaveWords s → Formed (StmtIsFormed a) r
local_formed (y.variable x a s r sa) h = let b = init_formed sa (rest_of h) in record { is = (tt, b.is); rest = b.rest }
local_formed (y.pointer x a p s r sa) h = let b = init_formed sa (rest_of (rest_of h)) in
    record { is = (tt, b.is); rest = b.rest }
local_formed (y.array x n j p o q r) h =
    record { is = (first_of (rest_of (rest_of h)), tt); rest = rest_of (rest_of (rest_of (rest_of h))) }
local_formed (y.pointer_to_pointer p q r out) h = record { is = tt; rest = rest_of (rest_of h) }
local_formed (y.pointers x p q r out) h = record { is = (tt, tt); rest = rest_of (rest_of (rest_of h)) }
local_formed (y.arrays x n j p o q q' r out) h = record
    { is = (first_of (rest_of (rest_of h)), tt); rest = rest_of (rest_of (rest_of (rest_of (rest_of h)))) }
local_formed (y.array_values x n j p o q q' r out) h =
    record { is = (first_of (rest_of (rest_of h)), tt); rest = rest_of (rest_of (rest_of (rest_of (rest_of h)))) }

-- with formed statements behind them locals are formed
locals_formed : {limits : Limits} {k : Kind} {bs rest : StmtList} {s r : List Token} →
    SpellsLocals limits k bs rest s r → HaveWords s → Formed (BodyIsFormed rest → BodyIsFormed bs) r
locals_formed (y.last_local a rest s r sa) h = let b =
    local_formed sa h in record { is = λ w. (b.is, w); rest = b.rest }
locals_formed (y.one_local a bs rest p s t r sa sb) h =
    let b = local_formed sa h in
    let cs = locals_formed sb (rest_of b.rest) in
    record { is = λ w. (b.is, cs.is w); rest = cs.rest }

first_formed : {limits : Limits} {n : ℕ} {i : StmtOption} {s r : List Token} → SpellsFirst limits n i s r →
    HaveWords s → Formed (PartIsFormed i) r
first_formed (y.nothing_first r) h = record { is = tt; rest = h }
first_formed (y.simple_first a s r allowed sa) h = let b = simple_formed sa h in record { is = b.is; rest = b.rest }
first_formed (y.local_first k a s t r allowed sk sa) h = let b =
    local_formed sa (kind_rest sk h) in record { is = b.is; rest = b.rest }

after_formed : {limits : Limits} {n : ℕ} {u : StmtOption} {s r : List Token} → SpellsAfter limits n u s r →
    HaveWords s → Formed (PartIsFormed u) r
after_formed (y.nothing_after r) h = record { is = tt; rest = h }
after_formed (y.simple_after a s r allowed sa) h = let b = simple_formed sa h in record { is = b.is; rest = b.rest }

optional_formed : {limits : Limits} {c : Option ExprTree} {s r : List Token} → SpellsOptional limits c s r →
    HaveWords s → Formed (OptionalIsFormed c) r
optional_formed (y.no_expr r) h = record { is = tt; rest = h }
optional_formed (y.an_expr a s r sa) h = let b = expr_formed sa h in record { is = b.is; rest = b.rest }

mutual
  stmt_formed : {limits : Limits} {n : ℕ} {a : StmtTree} {s r : List Token} → SpellsStmt limits n a s r → HaveWords s →
      Formed (StmtIsFormed a) r
  stmt_formed (y.skips n p r allowed) h = record { is = tt; rest = rest_of h }
  stmt_formed (y.blocks n bs p q s r allowed sb) h = let b =
      body_formed sb (rest_of h) in record { is = b.is; rest = rest_of b.rest }
  stmt_formed (y.simple n a p s r allowed sa) h = let b =
      simple_formed sa h in record { is = b.is; rest = rest_of b.rest }
  stmt_formed (y.ifs n c a p q q' s t r allowed sc sa) h =
      let d = expr_formed sc (rest_of (rest_of h)) in
      let b = stmt_formed sa (rest_of d.rest) in
      record { is = (d.is, b.is, tt); rest = b.rest }
  stmt_formed (y.if_elses n c a b p q q' e s t u r allowed sc sa dangling sb) h =
      let d = expr_formed sc (rest_of (rest_of h)) in
      let x = stmt_formed sa (rest_of d.rest) in
      let z = stmt_formed sb (rest_of x.rest) in
      record { is = (d.is, x.is, z.is); rest = z.rest }
  stmt_formed (y.whiles n c a p q q' s t r allowed sc sa) h =
      let d = expr_formed sc (rest_of (rest_of h)) in
      let b = stmt_formed sa (rest_of d.rest) in
      record { is = (d.is, b.is); rest = b.rest }
  stmt_formed (y.dos n a c p o q q' e s t r allowed sa sc) h =
      let b = stmt_formed sa (rest_of h) in
      let d = expr_formed sc (rest_of (rest_of b.rest)) in
      record { is = (b.is, d.is); rest = rest_of (rest_of d.rest) }
  stmt_formed (y.fors n i c u a p q e f g s t v z r allowed si sc su sa) h =
      let x = first_formed si (rest_of (rest_of h)) in
      let d = optional_formed sc (rest_of x.rest) in
      let w = after_formed su (rest_of d.rest) in
      let b = stmt_formed sa (rest_of w.rest) in
      record { is = (x.is, d.is, w.is, b.is); rest = b.rest }
  stmt_formed (y.breaks n p q r allowed) h = record { is = tt; rest = rest_of (rest_of h) }
  stmt_formed (y.continues n p q r allowed) h = record { is = tt; rest = rest_of (rest_of h) }
  stmt_formed (y.returns n a p q s r allowed sa) h = let b =
      optional_formed sa (rest_of h) in record { is = b.is; rest = rest_of b.rest }
  stmt_formed (y.locks n x p q q' e r allowed) h = record
      { is = tt; rest = rest_of (rest_of (rest_of (rest_of (rest_of h)))) }
  stmt_formed (y.unlocks n x p q q' e r allowed) h = record
      { is = tt; rest = rest_of (rest_of (rest_of (rest_of (rest_of h)))) }
  stmt_formed (y.prints n a p q q' e s r allowed sa) h = let b =
      expr_formed sa (rest_of (rest_of h)) in record { is = b.is; rest = rest_of (rest_of b.rest) }

  pub body_formed : {limits : Limits} {n : ℕ} {bs : StmtList} {s r : List Token} → SpellsStmts limits n bs s r →
      HaveWords s → Formed (BodyIsFormed bs) r
  body_formed (y.ended n r) h = record { is = tt; rest = h }
  body_formed (y.a_stmt n a bs s t r sa sb) h =
      let x = stmt_formed sa h in
      let xs = body_formed sb x.rest in
      record { is = (x.is, xs.is); rest = xs.rest }
  body_formed (y.locals n k bs rest p s t u r allowed sk sl sb) h =
      let x = locals_formed sl (kind_rest sk h) in
      let xs = body_formed sb (rest_of x.rest) in
      record { is = x.is xs.is; rest = xs.rest }
