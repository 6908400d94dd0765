-- What is made of a typed function is made so that its steps can pay, weighs no more, and has no greater room.
use Rattle.std.proofs.Common.{◌≡◌, ℕ, zero, suc, ◌+◌, ◌*◌, ◌≤◌, List, [], ◌∷◌, ◌++◌, length, map, refl, ap, sym, ◌∙◌, subst, arith}
use Rattle.std.specs.Prelude.{sum}
use Rattle.std.proofs.lemmas.List.Sums.{sum_by-cons}
use Rattle.cas_base.specs.Ty.{words_of_ty}
use Rattle.cas_base.specs.declared.decl.Decl.{Decl}
use Rattle.cas_base.specs.declared.kind.Ty.{Ty}
use Rattle.cas_base.specs.declared.kind.Ty.TheVariants.{Void, Int, Ptr, Array}
use Rattle.cas_syntax.specs.Tree as tree
use Rattle.cas_syntax.specs.Tree.{FunTree, StmtTree, StmtOption, StmtList}
use Rattle.cas_typed.specs.Counts.{parameter_types, local_types, nodes_of, nodes_of_stmt, nodes_of_option, nodes_of_stmts}
use Rattle.cas_typed.specs.Modules.{IsFunction, locals_in}
use Rattle.cas_typed.specs.Resolved.{TypedStmtList, TypedFunTree}
use Rattle.cas_typed.specs.Scopes.{locals_of, locals_of_option, locals_of_list}
use Rattle.cas_runs.specs.Bounds.{total, weight_of, frame_bound}
use Rattle.cas_mid.specs.declared.tree.CsharpFun.{CsharpFun}
use Rattle.cas_mid.specs.Trees.{Routine, Expression, Target}
use Rattle.cas_mid.specs.Code.{csharp_routine}
use Rattle.cas_mid.specs.Csharpminor.{csharpminor, csharp_parts}
use Rattle.cas_mid.specs.Language.{weight_prices, all_weight_prices}
use Rattle.cas_mid.specs.Rooms.{room_of, all_values}
use Rattle.cas_clight.specs.Clight.{ClightFun, clight, cells_of, parameters_of, result_of}
use Rattle.cas_clight.specs.Units.{function_of}
use Rattle.cas_cshmgen.specs.Makes.{Csharps, closing, stored_arguments, made_stmts, made_routine}
use Rattle.cas_cshmgen.specs.Match.{AllForsAreSimple, IsMade}
use Rattle.cas_cshmgen.proofs.Weights.{length_append, AreBounded, all_bounded}

total_sum : (xs : List ℕ) → total xs ≡ sum xs
total_sum [] = refl
total_sum (x ∷ xs) = let rest = total_sum xs in let more : sum (x ∷ xs) ≡ x + sum xs =
    sum_by-cons (λ (i : ℕ). i) x xs in omega (arith, rest, more)

types_of : (body : TypedStmtList) (n first : ℕ) (tys : List Ty) → map (λ v. v.ty) (locals_in body n first tys) ≡ tys
types_of body n first [] = refl
types_of body n first (ty ∷ tys) = ap (λ ts. ty ∷ ts) (types_of body (n + 1) (first + words_of_ty ty) tys)

length_map : {A B : Type 0} (f : A → B) (xs : List A) → length (map f xs) ≡ length xs
length_map f [] = refl
length_map f (x ∷ xs) = ap suc (length_map f xs)

mutual
  few_locals : (a : StmtTree) → length (locals_of a) ≤ nodes_of_stmt a
  few_locals (tree.skip p) = omega arith
  few_locals (tree.declare p ty x a) = omega arith
  few_locals (tree.assign p target o a) = omega arith
  few_locals (tree.call p x f args) = omega arith
  few_locals (tree.block p bs) = let h = few_in_all bs in omega (arith, h)
  few_locals (tree.if_ p c a b) = let h = few_locals a in let k = few_in_part b in let m =
      length_append (locals_of a) (locals_of_option b) in omega (arith, h, k, m)
  few_locals (tree.while_ p c a) = let h = few_locals a in omega (arith, h)
  few_locals (tree.do_ p a c) = let h = few_locals a in omega (arith, h)
  few_locals (tree.for_ p i c u a) =
      let h = few_in_part i in let k = few_in_part u in let l = few_locals a in
      let m = length_append (locals_of_option i) (locals_of_option u ++ locals_of a) in
      let n = length_append (locals_of_option u) (locals_of a) in omega (arith, h, k, l, m, n)
  few_locals (tree.break_ p) = omega arith
  few_locals (tree.continue_ p) = omega arith
  few_locals (tree.return_ p a) = omega arith
  few_locals (tree.lock p x) = omega arith
  few_locals (tree.unlock p x) = omega arith
  few_locals (tree.print p a) = omega arith

  few_in_part : (a : StmtOption) → length (locals_of_option a) ≤ nodes_of_option a
  few_in_part tree.absent = omega arith
  few_in_part (tree.present a) = few_locals a

  few_in_all : (bs : StmtList) → length (locals_of_list bs) ≤ nodes_of_stmts bs
  few_in_all tree.no_more = omega arith
  few_in_all (tree.one_more a bs) = let h = few_locals a in let k = few_in_all bs in let m =
      length_append (locals_of a) (locals_of_list bs) in omega (arith, h, k, m)

-- the stores of arguments

stores_price : (k count : ℕ) (rest : Csharps) → total (all_weight_prices csharp_parts (stored_arguments k count rest))
    ≡ count * 32 + total (all_weight_prices csharp_parts rest)
stores_price k zero rest = omega arith
stores_price k (suc count) rest = let more = stores_price (k + 1) count rest in omega (arith, more)

stores_count : (k count : ℕ) (rest : Csharps) → all_values (stored_arguments k count rest) ≡ all_values rest
stores_count k zero rest = refl
stores_count k (suc count) rest = let more = stores_count (k + 1) count rest in omega (arith, more)

closing_price : (ret : Ty) → total (all_weight_prices csharp_parts (closing ret)) ≤ 34
closing_price (Int k) = omega arith
closing_price (Ptr k) = omega arith
closing_price Void = omega arith
closing_price (Array k n) = omega arith

closing_count : (ret : Ty) → all_values (closing ret) ≤ 1
closing_count (Int k) = omega arith
closing_count (Ptr k) = omega arith
closing_count Void = omega arith
closing_count (Array k n) = omega arith

module _ (before decls : List Decl) (f : FunTree) (r : TypedFunTree) (typed : IsFunction before f r)
    (few : length (parameter_types f.decl.form) ≤ 16) (fors : AllForsAreSimple f.body) where
  abbrev G : ClightFun
  G = function_of decls f r

  bounds : AreBounded decls (parameters_of G) f.body r.body
  bounds = all_bounded decls (parameters_of G) typed.body fors

  -- how many locals there are
  count : length (map words_of_ty G.locals) ≡ parameters_of G + length (locals_of_list f.body)
  count =
      length_map words_of_ty G.locals
      ∙ ap (λ vs. length (map (λ v. v.ty) vs)) typed.locals
      ∙ ap length (types_of r.body 0 0 (local_types f))
      ∙ length_append (parameter_types f.decl.form) (locals_of_list f.body)

  pub is_made : (c : CsharpFun) → csharp_routine c ≡ made_routine G → IsMade decls c G
  is_made c same = record {
    routine = same;
    small = bounds.small (nodes_of f) (omega arith);
    cells = let e = total_sum (map words_of_ty G.locals) in omega (arith, e);
    locals = let e = count in let l = few_in_all f.body in omega (arith, e, l);
    parameters = few;
  }

  pub weighs_no_more : (c : CsharpFun) → csharp_routine c ≡ made_routine G →
      weight_of csharpminor.tariff c ≤ weight_of clight.tariff G
  weighs_no_more c same =
      subst (λ (v : Routine Expression Target Expression). total (13 ∷ weight_prices csharp_parts v.body) + 18 *
      (v.names + v.parameters + 8) ≤ weight_of clight.tariff G) (sym same)
      (let w = bounds.weighs (closing (result_of G)) in
      let s = stores_price 0 (parameters_of G) (made_stmts decls (parameters_of G) r.body (closing (result_of G))) in
      let e = closing_price (result_of G) in
      let n = count in omega (arith, w, s, e, n, few))

  pub has_no_more_room : (c : CsharpFun) → csharp_routine c ≡ made_routine G →
      room_of (csharp_routine c) ≤ frame_bound G.nodes (cells_of G)
  has_no_more_room c same =
      subst (λ (v : Routine Expression Target Expression). room_of v ≤ frame_bound G.nodes (cells_of G)) (sym same)
      (let w = bounds.counts (closing (result_of G)) in
      let s = stores_count 0 (parameters_of G) (made_stmts decls (parameters_of G) r.body (closing (result_of G))) in
      let e = closing_count (result_of G) in
      let t = total_sum (map words_of_ty G.locals) in omega (arith, w, s, e, t, few))
