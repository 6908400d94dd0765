-- A step that isn't Bad changes its thread: it leaves other items to do, or other activations.
use Rattle.std.proofs.Common.{arith, ◌≡◌, ℕ, suc, ◌+◌, ◌<◌, ◌≤◌, Bool, true, false, List, [], ◌∷◌, length, Option, Some, None, ap}
use Rattle.std.specs.Prelude.{⊤, slice_get}
use Rattle.cas_base.specs.declared.kind.Ty.{Ty}
use Rattle.cas_step.specs.Answered.{Got, got, bad, got_stuck, value_at, answered}
use Rattle.cas_step.specs.Asks.{Value, Asks, gives, and_then, word_in}
use Rattle.cas_step.specs.Env.{Entity, function, outside, shared, table, lock, Env}
use Rattle.cas_step.specs.Evaluate.{EvalContext, Cell, of_object, of_global, either, value_of, values_of, test_of, target_of}
use Rattle.cas_step.specs.Continuation.{ContItem, begin, begun, loop, next, Effect, continues, stores, writes, calls, returns, locks, unlocks, prints, begin_all, begin_part, after_break, after_continue, into, jumps, chooses, returned, statement_effect, effect_of}
use Rattle.cas_step.specs.Laws.{IsTaken}
use Rattle.cas_step.specs.Step.{Object, Activation, Block, Config, Step, StepContext, entity_in, eval_context_of, doing, cells_at, word_step, global_step, store_step, memory_without, memory_keeping, call_step, return_to, return_step, lock_step, step_with_effect, newest_step, step_of}
use Rattle.cas_typed.specs.Resolved as t
use Rattle.cas_typed.specs.Resolved.{TypedExprTree, TypedStmtTree, TypedStmtOption, absent, present, TypedStmtList, no_more, one_more}
use Rattle.cas_typed.specs.declared.tree.Destination.{Destination}
use Rattle.cas_world.proofs.Effects.{Every, every_then, GotSo, answered_so}
use Rattle.cas_world.proofs.Holding.{lands_is}
use Rattle.cas_world.proofs.Lock_flow.{Lands}

-- a number that is greater for a statement than for those that its step may begin with
abbrev mutual
  size : TypedStmtTree → ℕ
  size (t.block p bs) = suc (size_of_all bs)
  size (t.if_ p c a b) = suc (size a + size_of_part b)
  size _ = 1

  size_of_part : TypedStmtOption → ℕ
  size_of_part absent = 0
  size_of_part (present a) = size a

  size_of_all : TypedStmtList → ℕ
  size_of_all no_more = 0
  size_of_all (one_more a bs) = size a + size_of_all bs

-- a number that is another for the first items of before and after
abbrev mark : ContItem → ℕ
mark (begin a) = 2 + size a
mark (begun p c a) = 0
mark (loop p c u a) = 0
mark (next p u) = 1

abbrev first_mark : List ContItem → ℕ
first_mark [] = 0
first_mark (x ∷ cont) = mark x

differ : (xs ys : List ContItem) → (length xs ≡ length ys → first_mark xs ≡ first_mark ys → ⊥) → xs ≡ ys → ⊥
differ xs ys h e = h (ap length e) (ap first_mark e)

shorter : (x : ContItem) (xs cont : List ContItem) → length xs ≤ length cont → xs ≡ x ∷ cont → ⊥
shorter x xs cont less = differ xs (x ∷ cont) (λ l m. absurd (omega (arith, less, l)))

longer : (x y : ContItem) (xs cont : List ContItem) → length cont < length xs → y ∷ xs ≡ x ∷ cont → ⊥
longer x y xs cont more = differ (y ∷ xs) (x ∷ cont) (λ l m. absurd (omega (arith, more, l)))

all_longer : (bs : TypedStmtList) (cont : List ContItem) → length cont ≤ length (begin_all bs cont)
all_longer no_more cont = omega arith
all_longer (one_more a bs) cont = omega (arith, all_longer bs cont)

-- a jump leaves no more
abbrev AtMost : (count : ℕ) → Option (List ContItem) → Type 0
AtMost n x = Lands (λ cont. length cont ≤ n) x

at_most_more : (n : ℕ) (x : Option (List ContItem)) → AtMost n x → AtMost (suc n) x
at_most_more n None h = tt
at_most_more n (Some cont) h = omega (arith, h)

broken_fewer : (cont : List ContItem) → AtMost (length cont) (after_break cont)
broken_fewer [] = tt
broken_fewer (begin a ∷ cont) = at_most_more (length cont) (after_break cont) (broken_fewer cont)
broken_fewer (begun p c a ∷ cont) = omega arith
broken_fewer (loop p c u a ∷ cont) = omega arith
broken_fewer (next p u ∷ cont) = at_most_more (length cont) (after_break cont) (broken_fewer cont)

continued_fewer : (cont : List ContItem) → AtMost (length cont) (after_continue cont)
continued_fewer [] = tt
continued_fewer (begin a ∷ cont) = at_most_more (length cont) (after_continue cont) (continued_fewer cont)
continued_fewer (begun p c a ∷ cont) = omega arith
continued_fewer (loop p c u a ∷ cont) = at_most_more (length cont) (after_continue cont) (continued_fewer cont)
continued_fewer (next p u ∷ cont) = omega arith

-- an effect that leaves other items to do than these, or other activations
abbrev pub Moves : {O : Type 0} → (before : List ContItem) → Effect O → Type 0
Moves before (continues cont) = cont ≡ before → ⊥
Moves before (stores o i v cont) = cont ≡ before → ⊥
Moves before (writes g i n cont) = cont ≡ before → ⊥
Moves before (calls g vs target cont) = ⊤
Moves before (returns v) = ⊤
Moves before (locks g cont) = cont ≡ before → ⊥
Moves before (unlocks g cont) = cont ≡ before → ⊥
Moves before (prints n cont) = cont ≡ before → ⊥

module _ {O : Type 0} (sight : EvalContext O) (x : ContItem) (cont : List ContItem) where
  abbrev Away : Asks O (Effect O) → Type 0
  Away asks = Every (Moves (x ∷ cont)) asks

  past : cont ≡ x ∷ cont → ⊥
  past = shorter x cont cont (omega arith)

  into_moves : (c : Cell O) (v : Value O) → Away (into c v cont)
  into_moves (of_object o p) v = past
  into_moves (of_global g i) v = every_then (Moves (x ∷ cont)) (word_in v) (λ n. gives (writes g i n cont)) (λ n. past)

  jumps_move : (to : Option (List ContItem)) → AtMost (length cont) to → Away (jumps to)
  jumps_move None h = tt
  jumps_move (Some others) h = shorter x others cont h

  either_moves : (some others : List ContItem) (is : Bool) → (some ≡ x ∷ cont → ⊥) → (others ≡ x ∷ cont → ⊥) →
      Away (gives (continues (either some others is)))
  either_moves some others true h k = h
  either_moves some others false h k = k

  chooses_move : (c : Option TypedExprTree) (some others : List ContItem) → (some ≡ x ∷ cont → ⊥) →
      (others ≡ x ∷ cont → ⊥) → Away (chooses sight c some others)
  chooses_move None some others h k = h
  chooses_move (Some c) some others h k =
      every_then (Moves (x ∷ cont)) (test_of sight c) (λ is. gives (continues (either some others is)))
      (λ is. either_moves some others is h k)

  returned_moves : (a : Option TypedExprTree) → Away (returned sight a)
  returned_moves None = tt
  returned_moves (Some a) = every_then (Moves (x ∷ cont)) (value_of sight a) (λ v. gives (returns (Some v))) (λ v. tt)

  -- statements that begin instead of the item
  begins_less : (b : TypedStmtTree) (n : ℕ) → size b < n → ((m : ℕ) → m < n → 2 + m ≡ mark x → ⊥) →
      begin b ∷ cont ≡ x ∷ cont → ⊥
  begins_less b n less others = differ (begin b ∷ cont) (x ∷ cont) (λ l m. others (size b) less m)

  all_move : (bs : TypedStmtList) → ((m : ℕ) → m < suc (size_of_all bs) → 2 + m ≡ mark x → ⊥) →
      begin_all bs cont ≡ x ∷ cont → ⊥
  all_move no_more others = past
  all_move (one_more b no_more) others = begins_less b (suc (size b + 0)) (omega arith) others
  all_move (one_more b (one_more c bs)) others = longer x (begin b) (begin c ∷ begin_all bs cont) cont
      (omega (arith, all_longer bs cont))

  part_moves : (b : TypedStmtOption) (n : ℕ) → size_of_part b < n → ((m : ℕ) → m < n → 2 + m ≡ mark x → ⊥) →
      begin_part b cont ≡ x ∷ cont → ⊥
  part_moves absent n less others = past
  part_moves (present b) n less others = begins_less b n less others

  for_moves : (p : _) (i : TypedStmtOption) (c : Option TypedExprTree) (u : TypedStmtOption) (a : TypedStmtTree) →
      0 < mark x → begin_part i (loop p c u a ∷ cont) ≡ x ∷ cont → ⊥
  for_moves p absent c u a some = differ (loop p c u a ∷ cont) (x ∷ cont) (λ l m. absurd (omega (arith, some, m)))
  for_moves p (present b) c u a some = longer x (begin b) (loop p c u a ∷ cont) cont (omega arith)

  -- a statement's step, where the item is told from what the step may begin with
  statement_moves : (a : TypedStmtTree) → 0 < mark x → ((m : ℕ) → m < size a → 2 + m ≡ mark x → ⊥) →
      Away (statement_effect sight a cont)
  statement_moves (t.skip p) some others = past
  statement_moves (t.assign p target a) some others =
      every_then (Moves (x ∷ cont)) (target_of sight target) (λ c. and_then (value_of sight a) (λ v. into c v cont))
      (λ c. every_then (Moves (x ∷ cont)) (value_of sight a) (λ v. into c v cont) (λ v. into_moves c v))
  statement_moves (t.block p bs) some others = all_move bs others
  statement_moves (t.if_ p c a otherwise) some others =
      chooses_move (Some c) (begin a ∷ cont) (begin_part otherwise cont)
      (begins_less a (suc (size a + size_of_part otherwise)) (omega arith) others)
      (part_moves otherwise (suc (size a + size_of_part otherwise)) (omega arith) others)
  statement_moves (t.while_ p c a) some others = chooses_move (Some c) (begin a ∷ begun p c a ∷ cont) cont
      (longer x (begin a) (begun p c a ∷ cont) cont (omega arith)) past
  statement_moves (t.do_ p a c) some others = longer x (begin a) (begun p c a ∷ cont) cont (omega arith)
  statement_moves (t.for_ p i c u a) some others = for_moves p i c u a some
  statement_moves (t.break_ p) some others = jumps_move (after_break cont) (broken_fewer cont)
  statement_moves (t.continue_ p) some others = jumps_move (after_continue cont) (continued_fewer cont)
  statement_moves (t.call p kept g at args) some others =
      every_then (Moves (x ∷ cont)) (values_of sight args) (λ vs. gives (calls g vs kept cont)) (λ vs. tt)
  statement_moves (t.return_ p a) some others = returned_moves a
  statement_moves (t.lock p g) some others = past
  statement_moves (t.unlock p g) some others = past
  statement_moves (t.print p a) some others =
      every_then (Moves (x ∷ cont)) (value_of sight a) (λ v. and_then (word_in v) (λ n. gives (prints n cont)))
      (λ v. every_then (Moves (x ∷ cont)) (word_in v) (λ n. gives (prints n cont)) (λ n. past))

-- each item's step leaves others
effect_moves : {O : Type 0} (sight : EvalContext O) (ret : Ty) (cont : List ContItem) →
    Every (Moves cont) (effect_of sight ret cont)
effect_moves sight ret [] = tt
effect_moves sight ret (begin a ∷ cont) = statement_moves sight (begin a) cont a (omega arith)
    (λ m less e. absurd (omega (arith, less, e)))
effect_moves sight ret (begun p c a ∷ cont) =
    chooses_move sight (begun p c a) cont (Some c) (begin a ∷ begun p c a ∷ cont) cont
    (longer (begun p c a) (begin a) (begun p c a ∷ cont) cont (omega arith)) (past sight (begun p c a) cont)
effect_moves sight ret (loop p c u a ∷ cont) =
    chooses_move sight (loop p c u a) cont c (begin a ∷ next p u ∷ loop p c u a ∷ cont) cont
    (longer (loop p c u a) (begin a) (next p u ∷ loop p c u a ∷ cont) cont (omega arith))
    (past sight (loop p c u a) cont)
effect_moves sight ret (next p absent ∷ cont) = past sight (next p absent) cont
effect_moves sight ret (next p (present a) ∷ cont) = statement_moves sight (next p (present a)) cont a (omega arith)
    (λ m less e. absurd (omega (arith, e)))

-- the thread's step

abbrev newest_cont : List Activation → List ContItem
newest_cont [] = []
newest_cont (a ∷ older) = a.cont

module _ (e : Env) (h : StepContext) where
  -- a step that isn't Bad leaves other activations
  abbrev pub MovesOn : Step → Type 0
  MovesOn s = IsTaken s.act → s.next.activations ≡ h.newest ∷ h.older → ⊥

  away : (cont : List ContItem) → (cont ≡ h.newest.cont → ⊥) → doing h cont ≡ h.newest ∷ h.older → ⊥
  away cont moves same = moves (ap newest_cont same)

  global_moves : (rs : List ℕ) (it : Option Entity) (i n : ℕ) (cont : List ContItem) → (cont ≡ h.newest.cont → ⊥) →
      Lands MovesOn (global_step e h rs it i n cont)
  global_moves rs None i n cont moves = tt
  global_moves rs (Some (function f)) i n cont moves = tt
  global_moves rs (Some outside) i n cont moves = tt
  global_moves rs (Some (shared first len guard)) i n cont moves =
      word_moves (slice_get h.words (first + i)) (first + i)
    where
      word_moves : (before : Option ℕ) (number : ℕ) → Lands MovesOn (word_step e h rs before number n cont)
      word_moves None number = tt
      word_moves (Some old) number = λ taken. away cont moves
  global_moves rs (Some (table first len)) i n cont moves = tt
  global_moves rs (Some (lock w)) i n cont moves = tt

  store_moves : (rs : List ℕ) (before : Option (Value Object)) (o : Object) (i : ℕ) (v : Value Object)
      (cont : List ContItem) → (cont ≡ h.newest.cont → ⊥) →
      Lands MovesOn (store_step e h rs before o i v cont)
  store_moves rs None o i v cont moves = tt
  store_moves rs (Some old) o i v cont moves = λ taken. away cont moves

  call_moves : (rs : List ℕ) (it : Option Entity) (vs : List (Value Object)) (target : Option Destination)
      (cont : List ContItem) → Lands MovesOn (call_step e h rs it vs target cont)
  call_moves rs None vs target cont = tt
  call_moves rs (Some (function f)) vs target cont = λ taken same. let count =
      ap length same in absurd (omega (arith, count))
  call_moves rs (Some outside) vs target cont = tt
  call_moves rs (Some (shared first len guard)) vs target cont = tt
  call_moves rs (Some (table first len)) vs target cont = tt
  call_moves rs (Some (lock w)) vs target cont = tt

  return_to_moves : (rs : List ℕ) (older : List Activation) (memory : Option (List Block)) →
      length older ≤ length h.older → Lands MovesOn (return_to e h rs older memory)
  return_to_moves rs older None few = tt
  return_to_moves rs older (Some memory) few = λ taken same. let count =
      ap length same in absurd (omega (arith, few, count))

  return_moves : (rs : List ℕ) (older : List Activation) (v : Option (Value Object)) → length older ≤ length h.older →
      Lands MovesOn (return_step e h rs older v)
  return_moves rs [] v few = λ taken same. let count = ap length same in absurd (omega (arith, count))
  return_moves rs (a ∷ older) v few = return_to_moves rs (a ∷ older)
      (memory_keeping (memory_without h.config.memory h.newest.serial) a.serial h.newest.target v) few

  lock_moves : (rs : List ℕ) (it : Option Entity) (act_on : ℕ → _) (cont : List ContItem) → (cont ≡ h.newest.cont → ⊥) →
      Lands MovesOn (lock_step e h rs it act_on cont)
  lock_moves rs None act_on cont moves = tt
  lock_moves rs (Some (function f)) act_on cont moves = tt
  lock_moves rs (Some outside) act_on cont moves = tt
  lock_moves rs (Some (shared first len guard)) act_on cont moves = tt
  lock_moves rs (Some (table first len)) act_on cont moves = tt
  lock_moves rs (Some (lock w)) act_on cont moves = λ taken. away cont moves

  doing_moves : (x : Got (Effect Object)) → GotSo (Moves h.newest.cont) x → Lands MovesOn (step_with_effect e h x)
  doing_moves (got_stuck rs) so = tt
  doing_moves (bad rs why) so = λ taken. absurd taken
  doing_moves (got rs (continues cont)) so = λ taken. away cont so
  doing_moves (got rs (stores o i v cont)) so = store_moves rs (value_at (cells_at h.config.memory o) i) o i v cont so
  doing_moves (got rs (writes g i n cont)) so = global_moves rs (entity_in e h g) i n cont so
  doing_moves (got rs (calls g vs target cont)) so = call_moves rs (entity_in e h g) vs target cont
  doing_moves (got rs (returns v)) so = return_moves rs h.older v (omega arith)
  doing_moves (got rs (locks g cont)) so = lock_moves rs (entity_in e h g) _ cont so
  doing_moves (got rs (unlocks g cont)) so = lock_moves rs (entity_in e h g) _ cont so
  doing_moves (got rs (prints n cont)) so = λ taken. away cont so

  here_moves : Lands MovesOn (newest_step e h)
  here_moves =
      let asks = effect_of (eval_context_of e h) (e.function h.newest.function).ret h.newest.cont in
      doing_moves (answered (entity_in e h) (slice_get h.words) (cells_at h.config.memory) asks)
      (answered_so (Moves h.newest.cont) (entity_in e h) (slice_get h.words) (cells_at h.config.memory) asks
      (effect_moves (eval_context_of e h) (e.function h.newest.function).ret h.newest.cont))

pub moved_by : (e : Env) (ws : List ℕ) (c : Config) (s : Step) (activations : List Activation) →
    step_of e ws c activations ≡ Some s → IsTaken s.act → s.next.activations ≡ activations → ⊥
moved_by e ws c s [] is taken same = absurd (cc is)
moved_by e ws c s (a ∷ older) is taken same =
    let h : StepContext = record { config = c; newest = a; older = older; words = ws } in
    lands_is (MovesOn e h) (newest_step e h) s (here_moves e h) is taken same
