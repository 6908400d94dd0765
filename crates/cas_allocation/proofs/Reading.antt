-- What is read of places, after some were set.
use Rattle.std.proofs.Common.{◌≡◌, inl, inr, ℕ, List, [], ◌∷◌, Option, Some, None, Bool, true, false, refl, sym, ap, ◌∙◌, subst}
use Rattle.cas_runs.specs.Naming.{Value, Number, Pointer, Hidden, Unset, usable}
use Rattle.cas_mid.specs.Operators.{either}
use Rattle.cas_sel.specs.declared.tree.Op.{Op}
use Rattle.cas_sel.specs.declared.tree.Op.TheVariants as op
use Rattle.cas_rtl.specs.Graph.{Graph, one_more, set, left_of, left_by, read, reads}
use Rattle.cas_ltl.specs.declared.tree.Loc.{Loc}
use Rattle.cas_ltl.specs.Locations.{same_loc, is_there, is_scratched, locations}
use Rattle.cas_ltl.proofs.Locations.{same_is, same_self}
use Rattle.cas_graphs.specs.Match.{point_of}
use Rattle.cas_graphs.specs.Successors.{IsAmong}
use Rattle.cas_allocation.specs.Allocation.{in_registers}
use Rattle.cas_allocation.proofs.Convention.{AreApart, one_apart, AreRegisters}

-- what places hold
abbrev pub Values : Type 0
Values = Loc → Value

abbrev pub with_place : Values → Loc → Value → Values
with_place ls p v = set locations ls p v

pub usable_is : (v u : Value) → usable v ≡ Some u → v ≡ u
usable_is (Number n) u e = let same : Number n ≡ u = cc e in same
usable_is (Pointer home p) u e = let same : Pointer home p ≡ u = cc e in same
usable_is (Hidden what) u e = absurd (cc e)

pub usable_again : (v u : Value) → usable v ≡ Some u → usable u ≡ Some u
usable_again v u e = subst (λ x. usable x ≡ Some u) (usable_is v u e) e

-- both parts of what is read
pub record ReadOf (is : Bool) (o : Option Value) (u : Value) : Type 0 where
  pub there : is ≡ true
  pub value : o ≡ Some u

pub read_of : (is : Bool) (o : Option Value) (u : Value) → either o None is ≡ Some u → ReadOf is o u
read_of true o u e = record { there = refl; value = e }
read_of false o u e = absurd (cc e)

pub data OneMore (o : Option Value) (os : Option (List Value)) (us : List Value) : Type 0 where
  parts : (v : Value) (vs : List Value) → o ≡ Some v → os ≡ Some vs → us ≡ v ∷ vs → OneMore o os us

pub parts_of : (o : Option Value) (os : Option (List Value)) (us : List Value) → one_more o os ≡ Some us →
    OneMore o os us
parts_of None os us e = absurd (cc e)
parts_of (Some v) None us e = absurd (cc e)
parts_of (Some v) (Some vs) us e = parts v vs refl refl (let same : v ∷ vs ≡ us = cc e in sym same)

pub set_other : (ls : Values) (p q : Loc) (u : Value) → (q ≡ p → ⊥) → with_place ls p u q ≡ ls q
set_other ls p q u not = by (same_loc q p) refl
  where
    by : (b : Bool) → same_loc q p ≡ b → either u (ls q) b ≡ ls q
    by true e = absurd (not (same_is q p e))
    by false e = refl

pub set_itself : (ls : Values) (p : Loc) (u : Value) → with_place ls p u p ≡ u
set_itself ls p u = ap (λ b. either u (ls p) b) (same_self p)

-- what nodes don't lose
pub left_kept : (ls : Values) (q : Loc) → is_scratched q ≡ false → left_of locations ls q ≡ ls q
left_kept ls q e = ap (λ b. either (Hidden Unset) (ls q) b) e

pub left_by_kept : (o : Op) (ls : Values) (q : Loc) → is_scratched q ≡ false → left_by locations o ls q ≡ ls q
left_by_kept op.Move ls q e = refl
left_by_kept (op.Constant n) ls q e = left_kept ls q e
left_by_kept (op.StackAddress n) ls q e = left_kept ls q e
left_by_kept (op.Unary o) ls q e = left_kept ls q e
left_by_kept (op.Binary o) ls q e = left_kept ls q e
left_by_kept (op.WithNumber o n) ls q e = left_kept ls q e

pub differ : (q p : Loc) → is_scratched q ≡ false → is_scratched p ≡ true → q ≡ p → ⊥
differ q p kept lost e =
    let same : is_scratched q ≡ true = ap is_scratched e ∙ lost in
    let no : false ≡ true = sym kept ∙ same in
    absurd (cc no)

abbrev pub AreKept : List Loc → Type 0
AreKept ps = (p : Loc) → IsAmong ps p → is_scratched p ≡ false

-- after moves of these places into those
abbrev pub moved : Values → List Loc → List Loc → Values
moved ls [] rs = ls
moved ls (p ∷ ps) [] = ls
moved ls (p ∷ ps) (r ∷ rs) = moved (with_place ls r (ls p)) ps rs

pub moved_other : (ps rs : List Loc) (ls : Values) (q : Loc) → (IsAmong rs q → ⊥) → moved ls ps rs q ≡ ls q
moved_other [] rs ls q not = refl
moved_other (p ∷ ps) [] ls q not = refl
moved_other (p ∷ ps) (r ∷ rs) ls q not =
    moved_other ps rs (with_place ls r (ls p)) q (λ is. not (inr is))
    ∙ set_other ls r q (ls p) (λ e. not (inl (sym e)))

module _ (f : Graph Loc) (serial : ℕ) where
  -- what is read there, whatever node is next
  abbrev pub reads_of : Values → List Loc → Option (List Value)
  reads_of ls ps = reads locations (point_of f serial ls 0) ps

  pub reads_at : (ls : Values) (k : ℕ) (ps : List Loc) → reads locations (point_of f serial ls k) ps ≡ reads_of ls ps
  reads_at ls k [] = refl
  reads_at ls k (p ∷ ps) = ap (λ o. one_more (read locations (point_of f serial ls 0) p) o) (reads_at ls k ps)

  abbrev pub read_of_place : Values → Loc → Option Value
  read_of_place ls p = either (usable (ls p)) None (is_there f.names p)

  pub reads_same : (ls ms : Values) (ps : List Loc) → ((p : Loc) → IsAmong ps p → ms p ≡ ls p) →
      reads_of ms ps ≡ reads_of ls ps
  reads_same ls ms [] h = refl
  reads_same ls ms (p ∷ ps) h =
      ap (λ v. one_more (either (usable v) None (is_there f.names p)) (reads_of ms ps)) (h p (inl refl))
      ∙ ap (λ o. one_more (read_of_place ls p) o) (reads_same ls ms ps (λ q is. h q (inr is)))

  -- after the moves the registers have what the places had
  pub moved_reads : (ps rs : List Loc) (ls : Values) → AreApart rs → AreRegisters f.names rs → AreKept ps →
      (us : List Value) → reads_of ls ps ≡ Some us → reads_of (moved ls ps rs) (in_registers rs ps) ≡ Some us
  moved_reads [] [] ls apart regs kept us e = e
  moved_reads [] (r ∷ rs) ls apart regs kept us e = e
  moved_reads (p ∷ ps) [] ls apart regs kept us e = e
  moved_reads (p ∷ ps) (r ∷ rs) ls (one_apart not apart) regs kept us e =
      by (λ ws same. moved_reads ps rs (with_place ls r (ls p)) apart (λ q is. regs q (inr is))
      (λ q is. kept q (inr is)) ws same) (parts_of _ _ us e)
    where
      next : Values
      next = with_place ls r (ls p)

      others : reads_of next ps ≡ reads_of ls ps
      others =
          reads_same ls next ps
          (λ q is. let first = regs r (inl refl) in set_other ls r q (ls p) (differ q r (kept q (inr is)) first.lost))

      by : ((ws : List Value) → reads_of next ps ≡ Some ws → reads_of (moved next ps rs) (in_registers rs ps) ≡ Some ws) →
          OneMore (read_of_place ls p) (reads_of ls ps) us →
          reads_of (moved ls (p ∷ ps) (r ∷ rs)) (r ∷ in_registers rs ps) ≡ Some us
      by again (parts v ws first rest is) =
          let here = regs r (inl refl) in
          let got = read_of (is_there f.names p) (usable (ls p)) v first in
          let at : moved next ps rs r ≡ ls p = moved_other ps rs next r not ∙ set_itself ls r (ls p) in
          let one : read_of_place (moved next ps rs) r ≡ Some v =
          ap (λ b. either (usable (moved next ps rs r)) None b) here.there ∙ ap usable at ∙ got.value in
          let more : reads_of (moved next ps rs) (in_registers rs ps) ≡ Some ws = again ws (others ∙ rest) in
          ap (λ o. one_more o (reads_of (moved next ps rs) (in_registers rs ps))) one
          ∙ ap (λ o. one_more (Some v) o) more ∙ ap Some (sym is)
