-- Scopes behind statements and their parts.
use Rattle.std.proofs.Common.{◌≡◌, ◌≤◌, ℕ, suc, ◌+◌, ◌-◌, List, [], ◌∷◌, ◌++◌, length, take, drop, refl, ap, sym, ◌∙◌, arith}
use Rattle.std.proofs.lemmas.List.{length-append}
use Rattle.std.proofs.Math.Seq.{drop-append_seam, take-append_seam}
use Rattle.cas_base.specs.declared.kind.Ty.{Ty}
use Rattle.cas_syntax.specs.Tree.{StmtTree, skip, declare, assign, call, block, if_, while_, do_, for_, break_, continue_, return_, lock, unlock, print, StmtOption, absent, present, StmtList, no_more, one_more}
use Rattle.cas_typed.specs.Scopes.{Scope, Bound, declaring, inside, locals_of, locals_of_option, locals_of_list, past, past_option, after, after_option}
use Rattle.cas_type.specs.Rows.{after_list}
use Rattle.cas_type.specs.View.{outside, forgotten}

-- a scope with so many locals more that aren't visible
abbrev pub counting : Scope → ℕ → Scope
counting s n = record s { count = s.count + n }

-- of the locals no more are visible than before
forgotten-past : (s : Scope) (a : StmtTree) → forgotten (length s.block + length s.around) (past s a) ≡ past s a
forgotten-past s a =
    let none : (length s.block + length s.around) - (length s.block + length s.around) ≡ 0 = omega arith in
    λ i. record {
      block = drop (none i) s.block;
      around = s.around;
      decls = s.decls;
      count = s.count + length
          (locals_of a);
    }

pub forgotten-after : (s : Scope) (a : StmtTree) → forgotten (length s.block + length s.around) (after s a) ≡ past s a
forgotten-after s (skip p) = forgotten-past s (skip p)
forgotten-after s (declare p ty x a) =
    let one : (suc (length s.block) + length s.around) - (length s.block + length s.around) ≡ 1 = omega arith in
    λ i. record {
      block = drop (one i) (record { name = x.name; number = s.count; ty = ty } ∷ s.block);
      around =
          s.around;
      decls = s.decls;
      count = s.count + 1;
    }
forgotten-after s (assign p target op a) = forgotten-past s (assign p target op a)
forgotten-after s (call p x f args) = forgotten-past s (call p x f args)
forgotten-after s (block p bs) = forgotten-past s (block p bs)
forgotten-after s (if_ p c a o) = forgotten-past s (if_ p c a o)
forgotten-after s (while_ p c a) = forgotten-past s (while_ p c a)
forgotten-after s (do_ p a c) = forgotten-past s (do_ p a c)
forgotten-after s (for_ p i c u a) = forgotten-past s (for_ p i c u a)
forgotten-after s (break_ p) = forgotten-past s (break_ p)
forgotten-after s (continue_ p) = forgotten-past s (continue_ p)
forgotten-after s (return_ p a) = forgotten-past s (return_ p a)
forgotten-after s (lock p x) = forgotten-past s (lock p x)
forgotten-after s (unlock p x) = forgotten-past s (unlock p x)
forgotten-after s (print p a) = forgotten-past s (print p a)

-- what a statement of a block leaves of a scope
pub record Leaves (s t : Scope) (n : ℕ) : Type 0 where
  pub around : t.around ≡ s.around
  pub decls : t.decls ≡ s.decls
  pub count : t.count ≡ s.count + n
  pub more : length s.block ≤ length t.block

leaves-past : (s : Scope) (a : StmtTree) → Leaves s (past s a) (length (locals_of a))
leaves-past s a = record { around = refl; decls = refl; count = refl; more = omega arith }

pub leaves-after : (s : Scope) (a : StmtTree) → Leaves s (after s a) (length (locals_of a))
leaves-after s (skip p) = leaves-past s (skip p)
leaves-after s (declare p ty x a) = record { around = refl; decls = refl; count = refl; more = omega arith }
leaves-after s (assign p target op a) = leaves-past s (assign p target op a)
leaves-after s (call p x f args) = leaves-past s (call p x f args)
leaves-after s (block p bs) = leaves-past s (block p bs)
leaves-after s (if_ p c a o) = leaves-past s (if_ p c a o)
leaves-after s (while_ p c a) = leaves-past s (while_ p c a)
leaves-after s (do_ p a c) = leaves-past s (do_ p a c)
leaves-after s (for_ p i c u a) = leaves-past s (for_ p i c u a)
leaves-after s (break_ p) = leaves-past s (break_ p)
leaves-after s (continue_ p) = leaves-past s (continue_ p)
leaves-after s (return_ p a) = leaves-past s (return_ p a)
leaves-after s (lock p x) = leaves-past s (lock p x)
leaves-after s (unlock p x) = leaves-past s (unlock p x)
leaves-after s (print p a) = leaves-past s (print p a)

pub leaves-then : (s t u : Scope) (m n : ℕ) → Leaves s t m → Leaves t u n → Leaves s u (m + n)
leaves-then s t u m n h k =
    let first : t.count ≡ s.count + m = h.count in
    let second : u.count ≡ t.count + n = k.count in
    let block : length s.block ≤ length t.block = h.more in
    let more : length t.block ≤ length u.block = k.more in
    record { around = k.around ∙ h.around; decls = k.decls ∙ h.decls; count = omega arith; more = omega arith }

pub leaves-none : (s : Scope) → Leaves s s 0
leaves-none s = record { around = refl; decls = refl; count = omega arith; more = omega arith }

pub leaves-after_option : (s : Scope) (o : StmtOption) → Leaves s (after_option s o) (length (locals_of_option o))
leaves-after_option s absent = leaves-none s
leaves-after_option s (present a) = leaves-after s a

pub leaves-past_option : (s : Scope) (o : StmtOption) → Leaves s (past_option s o) (length (locals_of_option o))
leaves-past_option s absent = leaves-none s
leaves-past_option s (present a) = leaves-past s a

leaves-locals : (s t : Scope) (xs ys : List Ty) → Leaves s t (length xs + length ys) → Leaves s t (length (xs ++ ys))
leaves-locals s t xs ys h =
    let count : t.count ≡ s.count + (length xs + length ys) = h.count in
    let total : length (xs ++ ys) ≡ length xs + length ys = length-append xs ys in
    record { around = h.around; decls = h.decls; count = omega arith; more = h.more }

pub leaves-after_list : (s : Scope) (bs : StmtList) → Leaves s (after_list s bs) (length (locals_of_list bs))
leaves-after_list s no_more = leaves-none s
leaves-after_list s (one_more a bs) =
    leaves-locals s (after_list (after s a) bs) (locals_of a) (locals_of_list bs)
    (leaves-then s (after s a) (after_list (after s a) bs) (length (locals_of a)) (length (locals_of_list bs))
    (leaves-after s a) (leaves-after_list (after s a) bs))

-- out of a block
pub outside-inside : (s t : Scope) (n : ℕ) → Leaves (inside s) t n → outside (length s.around) t ≡ counting s n
outside-inside s t n h =
    let around : t.around ≡ s.block ++ s.around = h.around in
    let total : length (s.block ++ s.around) ≡ length s.block + length s.around = length-append s.block s.around in
    let size : length t.around ≡ length (s.block ++ s.around) = ap length around in
    let newer : length t.around - length s.around ≡ length s.block = omega arith in
    let block : take (length t.around - length s.around) t.around ≡ s.block =
    ap (λ n. take n t.around) newer ∙ ap (take (length s.block)) around ∙ take-append_seam s.block s.around in
    let older : drop (length t.around - length s.around) t.around ≡ s.around =
    ap (λ n. drop n t.around) newer ∙ ap (drop (length s.block)) around ∙ drop-append_seam s.block s.around in
    λ i. record { block = block i; around = older i; decls = h.decls i; count = h.count i }

-- a mark lies within what is around a block
pub mark_within : (s t : Scope) (n : ℕ) → Leaves (inside s) t n → length s.around ≤ length t.around
mark_within s t n h =
    let size : length t.around ≡ length (s.block ++ s.around) = ap length h.around in
    let total : length (s.block ++ s.around) ≡ length s.block + length s.around = length-append s.block s.around in
    omega arith

-- behind both branches
pub past-if : (s : Scope) (a : StmtTree) (o : StmtOption) (xs : List Ty) → xs ≡ locals_of a ++ locals_of_option o →
    past_option (past s a) o ≡ counting s (length xs)
past-if s a absent xs is =
    let size : length xs ≡ length (locals_of a ++ []) = ap length is in
    let total : length (locals_of a ++ []) ≡ length (locals_of a) + 0 = length-append (locals_of a) [] in
    let count : s.count + length (locals_of a) ≡ s.count + length xs = omega arith in
    λ i. record { block = s.block; around = s.around; decls = s.decls; count = count i }
past-if s a (present b) xs is =
    let size : length xs ≡ length (locals_of a ++ locals_of b) = ap length is in
    let total : length (locals_of a ++ locals_of b) ≡ length (locals_of a) + length (locals_of b) =
    length-append (locals_of a) (locals_of b) in
    let count : s.count + length (locals_of a) + length (locals_of b) ≡ s.count + length xs = omega arith in
    λ i. record { block = s.block; around = s.around; decls = s.decls; count = count i }

-- behind all parts of a `for`, within it
pub leaves-for : (s : Scope) (i u : StmtOption) (a : StmtTree) (xs : List Ty) →
    xs ≡ locals_of_option i ++ (locals_of_option u ++ locals_of a)
    → Leaves s (past (past_option (after_option s i) u) a) (length xs)
leaves-for s i u a xs is =
    let size : length xs ≡ length (locals_of_option i ++ (locals_of_option u ++ locals_of a)) = ap length is in
    let total : length (locals_of_option i ++ (locals_of_option u ++ locals_of a)) ≡ length (locals_of_option i)
    + length (locals_of_option u ++ locals_of a) =
    length-append (locals_of_option i) (locals_of_option u ++ locals_of a) in
    let rest : length (locals_of_option u ++ locals_of a) ≡ length (locals_of_option u) + length (locals_of a) =
    length-append (locals_of_option u) (locals_of a) in
    let t = past_option (after_option s i) u in
    let steps : Leaves s (past t a) (length (locals_of_option i) + length (locals_of_option u) + length (locals_of a)) =
    leaves-then s t (past t a) (length (locals_of_option i) + length (locals_of_option u)) (length (locals_of a))
    (leaves-then s (after_option s i) t (length (locals_of_option i)) (length (locals_of_option u))
    (leaves-after_option s i) (leaves-past_option (after_option s i) u))
    (leaves-past t a) in
    let count : (past t a).count ≡ s.count + (length (locals_of_option i) + length (locals_of_option u) + length
    (locals_of a)) = steps.count in
    record { around = steps.around; decls = steps.decls; count = omega arith; more = steps.more }
