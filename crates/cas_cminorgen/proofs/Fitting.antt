-- What is made of a function is made of each of its forms.
use Rattle.std.proofs.Common.{◌≡◌, ℕ, ◌+◌, ◌<◌, List, [], ◌∷◌, Some, None, Bool, true, false, ◌||◌, length, slice_get, refl, sym, ◌∙◌, subst, arith}
use Rattle.cas_runs.proofs.Tests.{eq_self}
use Rattle.cas_mid.specs.declared.tree.CsharpFun.{CsharpFun}
use Rattle.cas_mid.specs.Code.{csharp_statement}
use Rattle.cas_mid.specs.Trees.{Expression, word, temporary, own, global, element, load, unop, binop, if_, to_global, to_element, to_pointer, skip, set, store, call, seq, if_else, loop, block, exit, return_, lock, unlock, print, no_more, one_more}
use Rattle.cas_mid.specs.Translating.{IsMadeOf, skips, sets, stores, store_sets, calls, seqs, ifs, loops, blocks, exits, returns_nothing, returns, locks, unlocks, prints, AreMadeOf, no_statements, more_statements, AreExpressions, no_expressions, more_expressions}
use Rattle.cas_cminorgen.specs.Makes.{Code, Codes, Place, in_block, in_temporary, temporary_of, kept_in, stored, takes, target_takes, all_take, statement_takes, statements_take, made_expr, made_exprs, made_stmt, made_stmts}
use Rattle.cas_cminorgen.specs.Match.{IsWithin, AreWithin, IsCodeWithin, AreCodesWithin, places_of, IsInBlock, FitsLoaded, Fits, IsExpression, is_global, is_element, is_pointer, is_kept, cminorgen_makes}
use Rattle.cas_cminorgen.proofs.Addresses.{Address, is_own, is_other, address}
use Rattle.cas_cminorgen.proofs.Plans.{somewhere, taken_stays}
use Rattle.cas_cminorgen.proofs.Places.{taken_in, plan_is}

or_left : (a b : Bool) → a ≡ true → (a || b) ≡ true
or_left true b e = refl
or_left false b e = absurd (cc e)

or_right : (a b : Bool) → b ≡ true → (a || b) ≡ true
or_right true b e = refl
or_right false b e = e

module _ (g : CsharpFun) where
  abbrev ps : List Place
  ps = places_of g

  abbrev N : ℕ
  N = length g.vars

  -- each variable whose address is asked for here stays in the block
  abbrev Stay : (ℕ → Bool) → Type 0
  Stay takes_it = (v : ℕ) → takes_it v ≡ true → taken_in g v ≡ true

  left : (f h : ℕ → Bool) → Stay (λ v. f v || h v) → Stay f
  left f h s v e = s v (or_left (f v) (h v) e)

  right : (f h : ℕ → Bool) → Stay (λ v. f v || h v) → Stay h
  right f h s v e = s v (or_right (f v) (h v) e)

  in_block_so : (n : ℕ) → n < N → Stay (λ v. takes v (own n)) → IsInBlock ps n
  in_block_so n less s =
      let yes : taken_in g (0 + n) ≡ true = subst (λ k. taken_in g k ≡ true) (let same : n ≡ 0 + n = omega arith in same)
      (s n (eq_self n)) in
      taken_stays (taken_in g) (plan_is g) n less yes

  fits : (e : Expression) → IsWithin N e → Stay (λ v. takes v e) → Fits ps e
  fits (word n) w s = tt
  fits (temporary t) w s = tt
  fits (own n) w s = in_block_so n w s
  fits (global f) w s = tt
  fits (element f i a) w s = fits a w s
  fits (load a) w s = by a (address ps a) w s (λ k l. fits a k l)
    where
      by : (a : Expression) → Address ps a → IsWithin N a → Stay (λ v. takes v (load a)) →
          (IsWithin N a → Stay (λ v. takes v a) → Fits ps a) → FitsLoaded ps a (Fits ps a)
      by a (is_own {n = n}) w s more = somewhere (taken_in g) (plan_is g) n w
      by a (is_other is) w s more = is.fits_loaded (more w (λ v e. s v (is.takes (takes v a) ∙ e)))
  fits (unop o a) w s = fits a w s
  fits (binop o a b) w s = (
    fits a w.0 (left (λ v. takes v a) (λ v. takes v b) s),
    fits b w.1 (right (λ v. takes v a) (λ v. takes v b) s),
  )
  fits (if_ c a b) w s =
      let more = right (λ v. takes v c) (λ v. takes v a || takes v b) s in (
        fits c w.0 (left (λ v. takes v c) (λ v. takes v a || takes v b) s),
        fits a w.1 (left (λ v. takes v a) (λ v. takes v b) more),
        fits b w.2 (right (λ v. takes v a) (λ v. takes v b) more),
      )

  expression_is : (e : Expression) → IsWithin N e → Stay (λ v. takes v e) → IsExpression ps (made_expr ps e) e
  expression_is e w s = record { is = refl; fits = fits e w s }

  expressions_are : (es : List Expression) → AreWithin N es → Stay (λ v. all_take v es) →
      AreExpressions cminorgen_makes g (made_exprs ps es) es
  expressions_are [] w s = no_expressions
  expressions_are (e ∷ es) w s = more_expressions
      (expression_is e w.0 (left (λ v. takes v e) (λ v. all_take v es) s))
      (expressions_are es w.1 (right (λ v. takes v e) (λ v. all_take v es) s))

  store_is : (a : Expression) → Address ps a → IsWithin N a → Stay (λ v. target_takes v (to_pointer a)) →
      (e : Expression) → IsExpression ps (made_expr ps e) e →
      IsMadeOf cminorgen_makes g (stored (kept_in ps a) (made_expr ps a) (made_expr ps e)) (store (to_pointer a) e)
  store_is a (is_other is) w s e h =
      subst (λ o. IsMadeOf cminorgen_makes g (stored o (made_expr ps a) (made_expr ps e)) (store (to_pointer a) e))
      (sym is.is_not_kept)
      (stores (is_pointer (expression_is a w (λ v k. s v (is.takes (takes v a) ∙ k)))) h)
  store_is a (is_own {n = n}) w s e h =
      let there = somewhere (taken_in g) (plan_is g) n w in by there.0 there.1
    where
      by : (p : Place) → slice_get ps n ≡ Some p →
          IsMadeOf cminorgen_makes g
          (stored (temporary_of (slice_get ps n)) (made_expr ps (own n)) (made_expr ps e)) (store (to_pointer (own n)) e)
      by (in_block o) k =
          subst (λ x. IsMadeOf cminorgen_makes g (stored (temporary_of x) (made_expr ps (own n)) (made_expr ps e))
          (store (to_pointer (own n)) e)) (sym k)
          (stores (is_pointer (record { is = refl; fits = (o, k) })) h)
      by (in_temporary u) k =
          subst (λ x. IsMadeOf cminorgen_makes g (stored (temporary_of x) (made_expr ps (own n)) (made_expr ps e))
          (store (to_pointer (own n)) e)) (sym k) (store_sets (is_kept k) h)

  mutual
    statement_is : (b : Code) → IsCodeWithin N b → Stay (λ v. statement_takes v b) →
        IsMadeOf cminorgen_makes g (made_stmt ps b) b
    statement_is skip w s = skips
    statement_is (set t e) w s = sets (expression_is e w s)
    statement_is (store (to_global f) e) w s =
        stores is_global (expression_is e w.1 (right (λ v. target_takes v (to_global f)) (λ v. takes v e) s))
    statement_is (store (to_element f i a) e) w s =
        stores (is_element (expression_is a w.0 (left (λ v. target_takes v (to_element f i a)) (λ v. takes v e) s)))
        (expression_is e w.1 (right (λ v. target_takes v (to_element f i a)) (λ v. takes v e) s))
    statement_is (store (to_pointer a) e) w s =
        store_is a (address ps a) w.0 (left (λ v. target_takes v (to_pointer a)) (λ v. takes v e) s) e
        (expression_is e w.1 (right (λ v. target_takes v (to_pointer a)) (λ v. takes v e) s))
    statement_is (call t f es) w s = calls (expressions_are es w s)
    statement_is (seq bs) w s = seqs (statements_are bs w s)
    statement_is (if_else c a b) w s =
        let more = right (λ v. takes v c) (λ v. statement_takes v a || statement_takes v b) s in
        ifs (expression_is c w.0 (left (λ v. takes v c) (λ v. statement_takes v a || statement_takes v b) s))
        (statement_is a w.1 (left (λ v. statement_takes v a) (λ v. statement_takes v b) more))
        (statement_is b w.2 (right (λ v. statement_takes v a) (λ v. statement_takes v b) more))
    statement_is (loop a) w s = loops (statement_is a w s)
    statement_is (block a) w s = blocks (statement_is a w s)
    statement_is (exit n) w s = exits
    statement_is (return_ None) w s = returns_nothing
    statement_is (return_ (Some e)) w s = returns (expression_is e w s)
    statement_is (lock l) w s = locks
    statement_is (unlock l) w s = unlocks
    statement_is (print e) w s = prints (expression_is e w s)

    statements_are : (bs : Codes) → AreCodesWithin N bs → Stay (λ v. statements_take v bs) →
        AreMadeOf cminorgen_makes g (made_stmts ps bs) bs
    statements_are no_more w s = no_statements
    statements_are (one_more a bs) w s = more_statements
        (statement_is a w.0 (left (λ v. statement_takes v a) (λ v. statements_take v bs) s))
        (statements_are bs w.1 (right (λ v. statement_takes v a) (λ v. statements_take v bs) s))

-- a function's body
pub body_is : (g : CsharpFun) → IsCodeWithin (length g.vars) (csharp_statement g.body) →
    IsMadeOf cminorgen_makes g (made_stmt (places_of g) (csharp_statement g.body)) (csharp_statement g.body)
body_is g w = statement_is g (csharp_statement g.body) w (λ v e. e)
