-- The continuation after an item, by the value of its condition alone.
use Rattle.std.specs.Prelude.{Bool, List, [], ◌∷◌, Option, Some, None}
use Rattle.cas_step.specs.Evaluate.{either}
use Rattle.cas_step.specs.Continuation.{ContItem, begin, begun, loop, next, begin_all, begin_part, after_break, after_continue}
use Rattle.cas_typed.specs.Resolved.{TypedStmtTree, skip, assign, call, block, if_, while_, do_, for_, break_, continue_, return_, lock, unlock, print, absent, present}

-- this continuation, if there is one
abbrev pub if_any : Option (List ContItem) → List ContItem
if_any None = []
if_any (Some cont) = cont

-- the continuation after a statement before this one; its condition, if it has one, has this value
abbrev pub after_statement : Bool → TypedStmtTree → List ContItem → List ContItem
after_statement is (skip p) cont = cont
after_statement is (assign p target a) cont = cont
after_statement is (call p kept g at args) cont = cont
after_statement is (block p bs) cont = begin_all bs cont
after_statement is (if_ p c a otherwise) cont = either (begin a ∷ cont) (begin_part otherwise cont) is
after_statement is (while_ p c a) cont = either (begin a ∷ begun p c a ∷ cont) cont is
after_statement is (do_ p a c) cont = begin a ∷ begun p c a ∷ cont
after_statement is (for_ p first c u a) cont = begin_part first (loop p c u a ∷ cont)
after_statement is (break_ p) cont = if_any (after_break cont)
after_statement is (continue_ p) cont = if_any (after_continue cont)
after_statement is (return_ p a) cont = cont
after_statement is (lock p g) cont = cont
after_statement is (unlock p g) cont = cont
after_statement is (print p a) cont = cont

-- the continuation after the first item of this one
abbrev pub after : Bool → List ContItem → List ContItem
after is [] = []
after is (begin a ∷ cont) = after_statement is a cont
after is (begun p c a ∷ cont) = either (begin a ∷ begun p c a ∷ cont) cont is
after is (loop p c u a ∷ cont) = either (begin a ∷ next p u ∷ loop p c u a ∷ cont) cont is
after is (next p absent ∷ cont) = cont
after is (next p (present a) ∷ cont) = after_statement is a cont
