-- Moves of arguments into the registers of the convention.
use Rattle.std.proofs.Common.{◌≡◌, inl, inr, ℕ, ◌+◌, ◌≤◌, List, [], ◌∷◌, Option, Some, refl, ◌∙◌, subst, arith}
use Rattle.cas_runs.specs.Naming.{Value, Memory, usable}
use Rattle.cas_runs.specs.Bounds.{total}
use Rattle.cas_runs.specs.Access.{Fails}
use Rattle.cas_runs.specs.Held.{fails_too}
use Rattle.cas_sel.specs.declared.tree.Op.TheVariants.{Move}
use Rattle.cas_rtl.specs.Graph.{op, each_operand, each_argument}
use Rattle.cas_rtl.specs.Rtl.{rtl_prices}
use Rattle.cas_ltl.specs.declared.tree.Loc.{Loc}
use Rattle.cas_ltl.specs.Locations.{is_there}
use Rattle.cas_ltl.specs.Ltl.{ltl_prices}
use Rattle.cas_allocation.specs.Allocation.{Plan, places_of, in_registers, Moves, no_place, no_register, moves}
use Rattle.cas_allocation.proofs.Convention.{AreRegisters}
use Rattle.cas_allocation.proofs.Reading.{Values, with_place, OneMore, parts, parts_of, read_of, usable_is, set_other, differ, AreKept, moved, reads_of, reads_same, read_of_place}
use Rattle.cas_allocation.proofs.Together.{Together, target_of, SForm, there, Can, can_more, can_at, step_move}

-- what moves of so many places cost at most
abbrev pub moves_price : List Loc → ℕ
moves_price [] = 0
moves_price (p ∷ ps) = moves_price ps + 5

pub plain_paid : (plan : Plan) (rs : List ℕ) →
    total (each_operand ltl_prices (places_of plan rs)) ≤ total (each_operand rtl_prices rs)
plain_paid plan [] = omega arith
plain_paid plan (r ∷ rs) = let rest = plain_paid plan rs in omega (arith, rest)

-- an argument of RTL pays for the argument of LTL and for its move
moves_paid : (plan : Plan) (rs : List ℕ) →
    total (each_argument ltl_prices (places_of plan rs)) + moves_price (places_of plan rs)
    ≤ total (each_argument rtl_prices rs)
moves_paid plan [] = omega arith
moves_paid plan (r ∷ rs) = let rest = moves_paid plan rs in omega (arith, rest)

pub registers_paid : (plan : Plan) (ds : List Loc) (rs : List ℕ) →
    total (each_argument ltl_prices (in_registers ds (places_of plan rs))) + moves_price (places_of plan rs)
    ≤ total (each_argument rtl_prices rs)
registers_paid plan [] rs = moves_paid plan rs
registers_paid plan (d ∷ ds) [] = omega arith
registers_paid plan (d ∷ ds) (r ∷ rs) = let rest = registers_paid plan ds rs in omega (arith, rest)

module _ {F G : Type 0} (w : Together F G) (serial : ℕ) (plan : Plan) where
  abbrev MovesHere : ℕ → List Loc → List Loc → ℕ → Type 0
  MovesHere k ps rs l = Moves plan (target_of w).nodes k ps rs l

  abbrev read_all : Values → List Loc → Option (List Value)
  read_all ls ps = reads_of (target_of w) serial ls ps

  pub run_moves : (c : ℕ) (m : Memory) (k l : ℕ) (ps rs : List Loc) (y : SForm w) → MovesHere k ps rs l →
      (ls : Values) → AreRegisters (target_of w).names rs → AreKept ps → (us : List Value) →
      read_all ls ps ≡ Some us → Can w serial c m (there w serial (moved ls ps rs) l) y →
      Can w serial (c + moves_price ps) m (there w serial ls k) y
  run_moves c m k l ps rs y no_place ls regs kept us e h =
      can_more w serial c (c + 0) m (there w serial ls k) y (omega arith) h
  run_moves c m k l ps rs y (no_register {ps = rest}) ls regs kept us e h =
      can_more w serial c (c + (moves_price rest + 5)) m (there w serial ls k) y (omega arith) h
  run_moves c m k l ps rs y (moves {l = next} {p = p} {r = r} {ps = rest} {rs = more} at then) ls regs kept us e h =
      by (λ ws same. run_moves c m next l rest more y then (with_place ls r (ls p)) (λ q is. regs q (inr is))
      (λ q is. kept q (inr is)) ws same h) (parts_of _ _ us e)
    where
      now : Values
      now = with_place ls r (ls p)

      by : ((ws : List Value) → read_all now rest ≡ Some ws →
          Can w serial (c + moves_price rest) m (there w serial now next) y) →
          OneMore (read_of_place (target_of w) serial ls p) (read_all ls rest) us →
          Can w serial (c + (moves_price rest + 5)) m (there w serial ls k) y
      by again (parts v ws first others is) =
          let reg = regs r (inl refl) in
          let got = read_of (is_there (target_of w).names p) (usable (ls p)) v first in
          let value : ls p ≡ v = usable_is (ls p) v got.value in
          let same : read_all now rest ≡ Some ws =
          reads_same (target_of w) serial ls now rest
          (λ q is. set_other ls r q (ls p) (differ q r (kept q (inr is)) reg.lost)) ∙ others in
          can_more w serial (c + moves_price rest + 5) (c + (moves_price rest + 5)) m (there w serial ls k) y (omega arith)
          (step_move w serial (c + moves_price rest) m ls k next p r v y at first reg.there
          (subst (λ x. Can w serial (c + moves_price rest) m (there w serial (with_place ls r x) next) y) value
          (again ws same)))

  -- where the source fails, only the first step has to be paid
  pub fail_moves : (c : ℕ) (m : Memory) (k l : ℕ) (ps rs : List Loc) (ls : Values) → MovesHere k ps rs l →
      ((ls : Values) → Can w serial c m (there w serial ls l) Fails) →
      Can w serial (c + moves_price ps) m (there w serial ls k) Fails
  fail_moves c m k l ps rs ls no_place h =
      can_more w serial c (c + 0) m (there w serial ls k) Fails (omega arith) (h ls)
  fail_moves c m k l ps rs ls (no_register {ps = rest}) h =
      can_more w serial c (c + (moves_price rest + 5)) m (there w serial ls k) Fails (omega arith) (h ls)
  fail_moves c m k l ps rs ls (moves {l = next} {p = p} {r = r} {ps = rest} at then) h =
      can_at w serial (c + (moves_price rest + 5)) 0 m ls k (op Move (p ∷ []) r next) Fails at (omega arith) fails_too
