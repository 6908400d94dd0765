-- The literals of resolved trees are words.
use Rattle.std.specs.Prelude.{⊤, ◌<◌, ◌^◌, List, [], ◌∷◌, Option, Some, None, All}
use Rattle.cas_typed.specs.Resolved as t
use Rattle.cas_typed.specs.Resolved.{TypedExprTree, TypedTargetTree, to_local, to_global, to_element, to_behind, TypedStmtTree, skip, assign, call, block, if_, while_, do_, for_, break_, continue_, return_, lock, unlock, print, TypedStmtOption, absent, present, TypedStmtList, no_more, one_more, TypedModuleTree}

abbrev pub HasWords : TypedExprTree → Type 0
HasWords (t.literal n) = n < 2 ^ 32
HasWords t.null = ⊤
HasWords (t.local n) = ⊤
HasWords (t.global g at) = ⊤
HasWords (t.element g at sign a) = HasWords a
HasWords (t.place_of n) = ⊤
HasWords (t.behind k p) = HasWords p
HasWords (t.pointer_plus sign p a) = HasWords p × HasWords a
HasWords (t.plus_pointer sign a p) = HasWords a × HasWords p
HasWords (t.pointer_minus sign p a) = HasWords p × HasWords a
HasWords (t.pointer_difference p q) = HasWords p × HasWords q
HasWords (t.compare op p q) = HasWords p × HasWords q
HasWords (t.unary op a) = HasWords a
HasWords (t.binary op sign a b) = HasWords a × HasWords b
HasWords (t.narrow k a) = HasWords a
HasWords (t.and_also a b) = HasWords a × HasWords b
HasWords (t.or_else a b) = HasWords a × HasWords b
HasWords (t.choose c a b) = HasWords c × HasWords a × HasWords b

abbrev pub TargetHasWords : TypedTargetTree → Type 0
TargetHasWords (to_local n) = ⊤
TargetHasWords (to_global g at) = ⊤
TargetHasWords (to_element g at sign a) = HasWords a
TargetHasWords (to_behind k p) = HasWords p

abbrev pub AllHaveWords : List TypedExprTree → Type 0
AllHaveWords [] = ⊤
AllHaveWords (a ∷ args) = HasWords a × AllHaveWords args

abbrev pub OptionHasWords : Option TypedExprTree → Type 0
OptionHasWords None = ⊤
OptionHasWords (Some a) = HasWords a

abbrev mutual
  pub StatementHasWords : TypedStmtTree → Type 0
  StatementHasWords (skip p) = ⊤
  StatementHasWords (assign p target a) = TargetHasWords target × HasWords a
  StatementHasWords (call p kept g at args) = AllHaveWords args
  StatementHasWords (block p bs) = BodyHasWords bs
  StatementHasWords (if_ p c a otherwise) = HasWords c × StatementHasWords a × PartHasWords otherwise
  StatementHasWords (while_ p c a) = HasWords c × StatementHasWords a
  StatementHasWords (do_ p a c) = StatementHasWords a × HasWords c
  StatementHasWords (for_ p first c after a) = PartHasWords first × OptionHasWords c × PartHasWords after ×
      StatementHasWords a
  StatementHasWords (break_ p) = ⊤
  StatementHasWords (continue_ p) = ⊤
  StatementHasWords (return_ p a) = OptionHasWords a
  StatementHasWords (lock p g) = ⊤
  StatementHasWords (unlock p g) = ⊤
  StatementHasWords (print p a) = HasWords a

  pub PartHasWords : TypedStmtOption → Type 0
  PartHasWords absent = ⊤
  PartHasWords (present a) = StatementHasWords a

  pub BodyHasWords : TypedStmtList → Type 0
  BodyHasWords no_more = ⊤
  BodyHasWords (one_more a bs) = StatementHasWords a × BodyHasWords bs

-- those of each of the module's functions are
abbrev pub ModuleHasWords : TypedModuleTree → Type 0
ModuleHasWords r = All (λ f. BodyHasWords f.body) r.functions
