-- The rooms of functions: no later form of a function takes more words of stack than its room.
use Rattle.std.specs.Prelude.{ℕ, ◌+◌, List, [], ◌∷◌, Option, Some, None}
use Rattle.cas_runs.specs.Bounds.{total}
use Rattle.cas_mid.specs.Trees.{Expression, word, temporary, own, global, element, load, unop, binop, if_, Target, to_global, to_element, to_pointer, Statement, skip, set, store, call, seq, if_else, loop, block, exit, return_, lock, unlock, print, Statements, no_more, one_more, Routine}

-- the values of an address, if it isn't one of own words, which needs none
abbrev pub unless_own : Expression → (count : ℕ) → ℕ
unless_own (own n) count = 0
unless_own _ count = count

-- the values of an expression, if it isn't a temporary, which needs none
abbrev pub unless_temporary : Expression → (count : ℕ) → ℕ
unless_temporary (temporary t) count = 0
unless_temporary _ count = count

-- how many values an expression has besides its own. The branches of an If give its own value
abbrev pub inner_values : Expression → ℕ
inner_values (word n) = 0
inner_values (temporary t) = 0
inner_values (own n) = 0
inner_values (global g) = 0
inner_values (element g s a) = unless_temporary a (inner_values a + 1)
inner_values (load a) = unless_own a (unless_temporary a (inner_values a + 1))
inner_values (unop o a) = unless_temporary a (inner_values a + 1)
inner_values (binop o a b) = unless_temporary a (inner_values a + 1) + unless_temporary b (inner_values b + 1)
inner_values (if_ c a b) = unless_temporary c (inner_values c + 1) + (inner_values a + inner_values b)

-- the values of an expression, and those of what a store writes
abbrev pub values : Expression → ℕ
values a = unless_temporary a (inner_values a + 1)

abbrev pub target_values : Target → ℕ
target_values (to_global g) = 0
target_values (to_element g s a) = values a
target_values (to_pointer a) = unless_own a (values a)

-- each argument has a word of its own besides its value
abbrev pub argument_values : List Expression → ℕ
argument_values [] = 0
argument_values (a ∷ args) = values a + 1 + argument_values args

abbrev pub optional_values : Option Expression → ℕ
optional_values None = 0
optional_values (Some a) = values a

abbrev mutual
  pub statement_values : Statement Expression Target Expression → ℕ
  statement_values skip = 0
  statement_values (set t a) = inner_values a
  statement_values (store to a) = target_values to + values a
  statement_values (call t f args) = argument_values args
  statement_values (seq bs) = all_values bs
  statement_values (if_else c a b) = values c + (statement_values a + statement_values b)
  statement_values (loop a) = statement_values a
  statement_values (block a) = statement_values a
  statement_values (exit n) = 0
  statement_values (return_ a) = optional_values a
  statement_values (lock l) = 0
  statement_values (unlock l) = 0
  statement_values (print a) = values a

  pub all_values : Statements Expression Target Expression → ℕ
  all_values no_more = 0
  all_values (one_more a bs) = statement_values a + all_values bs

-- what a frame has besides: four registers that it keeps, eax, the return word, and the lock object's four words
abbrev pub fixed_room : ℕ
fixed_room = 10

-- the room of a function of Csharpminor or Cminor
abbrev pub room_of : Routine Expression Target Expression → ℕ
room_of r = total r.blocks + r.temporaries + statement_values r.body + fixed_room
