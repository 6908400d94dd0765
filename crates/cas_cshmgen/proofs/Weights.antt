-- What is made of a text's statements: what it weighs with its locals, how many values it has, and that its steps are
-- paid for.
use Rattle.std.proofs.Common.{◌≡◌, ℕ, ◌+◌, ◌*◌, ◌≤◌, List, [], ◌∷◌, ◌++◌, length, Option, Some, None, Bool, refl, arith}
use Rattle.cas_base.specs.declared.decl.Decl.{Decl}
use Rattle.cas_base.specs.declared.kind.Ty.{Ty}
use Rattle.cas_base.specs.declared.kind.Ty.TheVariants.{Void, Int, Ptr, Array}
use Rattle.cas_base.specs.declared.place.Place.{Place}
use Rattle.cas_syntax.specs.declared.tree.BinaryOperator.{BinaryOperator}
use Rattle.cas_syntax.specs.declared.tree.Ident.{Ident}
use Rattle.cas_syntax.specs.Tree as tree
use Rattle.cas_syntax.specs.Tree.{ExprTree, TargetTree, to_name, to_index, to_deref, StmtTree, StmtOption, StmtList}
use Rattle.cas_typed.specs.declared.tree.Destination.{Destination}
use Rattle.cas_typed.specs.Counts.{nodes_of_expr, nodes_of_exprs, nodes_of_target, nodes_of_optional, nodes_of_stmt, nodes_of_option, nodes_of_stmts}
use Rattle.cas_typed.specs.Resolved.{TypedExprTree, TypedTargetTree, TypedStmtTree, TypedStmtOption, TypedStmtList}
use Rattle.cas_typed.specs.Scopes.{Scope, locals_of, locals_of_option, locals_of_list}
use Rattle.cas_typed.specs.Types.{no_value, reading}
use Rattle.cas_typed.specs.Typing as ty
use Rattle.cas_typed.specs.Typing.{HasType, Tests, Gives, Writes, Assigns, Calls, TestsOptional, IsStmt, IsPart, AreStmts, cell_of, assigned}
use Rattle.cas_runs.specs.Bounds.{total}
use Rattle.cas_mid.specs.declared.tree.Binop.TheVariants.{PointerPlus}
use Rattle.cas_mid.specs.Trees.{Target, binop, block, one_more, no_more}
use Rattle.cas_mid.specs.Expressions.{value_prices, target_prices}
use Rattle.cas_mid.specs.Language.{argument_prices, operand_prices, weight_prices, all_weight_prices}
use Rattle.cas_mid.specs.Csharpminor.{csharp_parts}
use Rattle.cas_mid.specs.Rooms.{inner_values, values, target_values, argument_values, statement_values, all_values}
use Rattle.cas_cshmgen.specs.Makes.{Csharp, Csharps, keeps, tests, one, for_loop, made_expr, made_exprs, made_condition, made_target, made_call, made_return, made_stmt, made_part, made_stmts}
use Rattle.cas_cshmgen.specs.Match.{IsSmall, AreSmall, IsTestSmall, IsPartSmall, IsStepSmall, IsSimple, IsSimpleText, IsSimplePart, ForsAreSimple, PartForsAreSimple, AllForsAreSimple}
use Rattle.cas_cshmgen.proofs.Sizes.{total_append, price_is, less_temporary, less_own, one_operand, named, sized, tests_sized, nodes_positive, given, arguments_sized}

pub length_append : {A : Type 0} (xs ys : List A) → length (xs ++ ys) ≡ length xs + length ys
length_append [] ys = omega arith
length_append (x ∷ xs) ys = let rest = length_append xs ys in omega (arith, rest)

-- the target of an assignment
record IsTarget (m : Target) (n : ℕ) : Type 0 where
  prices : total (target_prices m) ≤ 39 + 61 * n
  counts : target_values m ≤ 2 + 3 * n

cell_nodes : (target : TargetTree) → nodes_of_expr (cell_of target) ≡ 1 + nodes_of_target target
cell_nodes (to_name x) = refl
cell_nodes (to_index x a) = refl
cell_nodes (to_deref a) = refl

assigned_nodes : (target : TargetTree) (o : Option BinaryOperator) (a : ExprTree) →
    nodes_of_expr (assigned target o a) ≤ 2 + nodes_of_target target + nodes_of_expr a
assigned_nodes target None a = omega arith
assigned_nodes target (Some o) a = let c = cell_nodes target in omega (arith, c)

module _ (ds : List Decl) (r : ℕ) where
  M : TypedStmtTree → Csharp
  M a = made_stmt ds r a

  -- a statement: so much it weighs, so many values it has, and what its own expressions cost for so many nodes
  record IsWeighed (a : TypedStmtTree) (weight count cheap : ℕ) : Type 0 where
    weighs : total (weight_prices csharp_parts (made_stmt ds r a)) ≤ weight
    counts : statement_values (made_stmt ds r a) ≤ count
    small : (n : ℕ) → cheap ≤ 130 * n → IsSmall n ds a
    simple : IsSimple a

  module _ (s : Scope) where
    targets : {target : TargetTree} {m : TypedTargetTree} {ty : Ty} → Writes s target m ty →
        IsTarget (made_target ds m) (nodes_of_target target)
    targets (ty.writes_local x n k m) = record { prices = omega arith; counts = omega arith }
    targets (ty.writes_pointer x n k m) = record { prices = omega arith; counts = omega arith }
    targets (ty.writes_shared x g k guard m) = record { prices = omega arith; counts = omega arith }
    targets (ty.writes_element_behind x a p e j k h i) =
        let n = named ds s h in let n0 = n.0 in let n1 = n.1 in let y = sized ds s i in let v = y.prices in
        let w = one_operand (made_expr ds e) (nodes_of_expr a) y in
        let q = price_is (binop (PointerPlus (reading j)) (made_expr ds p) (made_expr ds e)) in
        let l = less_temporary (made_expr ds p) (inner_values (made_expr ds p) + 1) in
        record { prices = omega (arith, n0, v, q); counts = omega (arith, n1, w, l) }
    targets (ty.writes_shared_element x a e g n j k guard m h) =
        let y = sized ds s h in let v = y.prices in let w = one_operand (made_expr ds e) (nodes_of_expr a) y in let q =
        price_is (made_expr ds e) in
        record { prices = omega (arith, v, q); counts = omega (arith, w) }
    targets (ty.writes_behind a p k h) =
        let y = sized ds s h in let v = y.prices in let w = one_operand (made_expr ds p) (nodes_of_expr a) y in let q =
        price_is (made_expr ds p) in
        let l = less_own (made_expr ds p) (values (made_expr ds p)) in
        record { prices = omega (arith, v, q); counts = omega (arith, w, l) }

    assigns : {p : Place} {target : TargetTree} {o : Option BinaryOperator} {a : ExprTree} {x : TypedStmtTree} →
        Assigns s p target o a x
        → IsWeighed x (183 + 122 * nodes_of_target target + 61 * nodes_of_expr a)
        (9 + 6 * nodes_of_target target + 3 * nodes_of_expr a)
        (174 + 122 * nodes_of_target target + 61 * nodes_of_expr a)
    assigns (ty.assigns p target o a m ty e h i) =
        let l = targets h in let l0 = l.prices in let l1 = l.counts in
        let g = given ds s i in let g0 = g.prices in let g1 = g.values in
        let n = assigned_nodes target o a in
        let both = total_append (target_prices (made_target ds m)) (value_prices (made_expr ds e)) in
        record {
          weighs = omega (arith, l0, g0, n, both);
          counts = omega (arith, l1, g1, n);
          small = λ k cheap. omega
              (arith, cheap, l0, g0, n, both);
          simple = tt;
        }

    keeps_price : (d : Destination) → total (weight_prices csharp_parts (keeps d r)) ≤ 45
    keeps_price d = by d.ty
      where
        by : (ty : Ty) → total (weight_prices csharp_parts (keeps (record { local = d.local; ty = ty }) r)) ≤ 45
        by (Int k) = omega arith
        by (Ptr k) = omega arith
        by Void = omega arith
        by (Array k i) = omega arith

    keeps_count : (d : Destination) → statement_values (keeps d r) ≤ 1
    keeps_count d = by d.ty
      where
        by : (ty : Ty) → statement_values (keeps (record { local = d.local; ty = ty }) r) ≤ 1
        by (Int k) = omega arith
        by (Ptr k) = omega arith
        by Void = omega arith
        by (Array k i) = omega arith

    call_weight : (kept : Option Destination) (g : ℕ) (es : List TypedExprTree) (n : ℕ) →
        total (argument_prices csharp_parts (made_exprs ds es)) ≤ n →
        total (weight_prices csharp_parts (made_call ds r kept g es)) ≤ 59 + n
    call_weight None g es n h = omega (arith, h)
    call_weight (Some d) g es n h =
        let k = keeps_price d in
        let both = total_append (weight_prices csharp_parts (made_call ds r None g es))
        (weight_prices csharp_parts (keeps d r) ++ []) in
        let all = total_append (weight_prices csharp_parts (keeps d r)) [] in omega (arith, h, k, both, all)

    call_count : (kept : Option Destination) (g : ℕ) (es : List TypedExprTree) (n : ℕ) →
        argument_values (made_exprs ds es) ≤ n → statement_values (made_call ds r kept g es) ≤ n + 1
    call_count None g es n h = omega (arith, h)
    call_count (Some d) g es n h = let k = keeps_count d in omega (arith, h, k)

    calls : {p : Place} {x : Option Ident} {f : Ident} {args : List ExprTree} {a : TypedStmtTree} → Calls s p x f args a
        → IsWeighed a (59 + 82 * nodes_of_exprs args) (8 * nodes_of_exprs args + 1) (82 * nodes_of_exprs args)
    calls (ty.calls p result f args g ret tys holds kept es m k h) =
        let n = arguments_sized ds s h in let n0 = n.0 in
        record {
          weighs = call_weight kept g es (82 * nodes_of_exprs args) n.0;
          counts = call_count kept g es
              (8 * nodes_of_exprs args) n.1;
          small = λ i cheap. omega (arith, cheap, n0);
          simple = tt;
        }

  -- a statement of a text, with its nodes and its locals
  pub record IsBounded (a : StmtTree) (x : TypedStmtTree) : Type 0 where
    pub weighs : total (weight_prices csharp_parts (made_stmt ds r x)) + 18 * length
        (locals_of a) ≤ 256 * nodes_of_stmt a
    pub counts : statement_values (made_stmt ds r x) ≤ 8 * nodes_of_stmt a
    pub small : (n : ℕ) → nodes_of_stmt a ≤ n → IsSmall n ds x

  pub record IsPartBounded (a : StmtOption) (x : TypedStmtOption) : Type 0 where
    pub weighs : total (weight_prices csharp_parts (made_part ds r x)) + 18 * length (locals_of_option a)
        ≤ 256 * nodes_of_option a + 1
    pub counts : statement_values (made_part ds r x) ≤ 8 * nodes_of_option a
    pub small : (n : ℕ) → nodes_of_option a ≤ n → IsPartSmall n ds x

  pub record AreBounded (bs : StmtList) (xs : TypedStmtList) : Type 0 where
    pub weighs : (rest : Csharps) → total (all_weight_prices csharp_parts (made_stmts ds r xs rest)) + 18 * length
        (locals_of_list bs) ≤ 256 * nodes_of_stmts bs + total (all_weight_prices csharp_parts rest)
    pub counts : (rest : Csharps) → all_values (made_stmts ds r xs rest) ≤ 8 * nodes_of_stmts bs + all_values rest
    pub small : (n : ℕ) → nodes_of_stmts bs ≤ n → AreSmall n ds xs

  test_price : (s : Scope) {a : ExprTree} {c : TypedExprTree} → Tests s a c →
      total (weight_prices csharp_parts (tests ds (Some c))) ≤ 12 + 61 * nodes_of_expr a
  test_price s {a = a} {c = c} h = let i = tests_sized ds s h in let p = i.condition_prices in let q =
      price_is (made_condition ds c) in let both = total_append (value_prices (made_condition ds c)) (1 ∷ []) in
      let all = total_append (value_prices (made_condition ds c) ++ 1 ∷ []) (1 ∷ []) in omega (arith, p, q, both, all)

  test_count : (s : Scope) {a : ExprTree} {c : TypedExprTree} → Tests s a c →
      values (made_condition ds c) ≤ 3 * nodes_of_expr a
  test_count s {a = a} {c = c} h = let i = tests_sized ds s h in let p = i.condition_counts in let l =
      less_temporary (made_condition ds c) (inner_values (made_condition ds c) + 1) in omega (arith, p, l)

  test_small : (s : Scope) {a : ExprTree} {c : TypedExprTree} → Tests s a c → (n : ℕ) → nodes_of_expr a ≤ n →
      IsTestSmall n ds (Some c)
  test_small s {a = a} {c = c} h n le = let i = tests_sized ds s h in let p = i.condition_prices in let q =
      price_is (made_condition ds c) in omega (arith, p, q, le)

  -- a simple statement has no for in it
  simple_fors : (a : StmtTree) → IsSimpleText a → ForsAreSimple a
  simple_fors (tree.skip p) h = tt
  simple_fors (tree.declare p ty x a) h = tt
  simple_fors (tree.assign p target o a) h = tt
  simple_fors (tree.call p x f args) h = tt
  simple_fors _ h = absurd h

  -- a simple part of a for
  simple_is : {ret : Ty} {l : Bool} {s : Scope} {a : StmtTree} {x : TypedStmtTree} → IsStmt ret l s a x →
      IsSimpleText a → IsSimple x
  simple_is (ty.skips l s p) h = tt
  simple_is (ty.declares l s p ty x new some) h = tt
  simple_is (ty.declares_value l s p ty x a y new i) h = let w = assigns _ i in w.simple
  simple_is (ty.declares_result l s p ty x f args y new i) h = let w = calls _ i in w.simple
  simple_is (ty.assignment l s p target o a y i) h = let w = assigns s i in w.simple
  simple_is (ty.call_of l s p result f args y i) h = let w = calls s i in w.simple
  simple_is (ty.blocks l s p bs xs i) h = absurd h
  simple_is (ty.ifs l s p c a o c' a' o' i j k) h = absurd h
  simple_is (ty.whiles l s p c a c' a' i j) h = absurd h
  simple_is (ty.dos l s p a c a' c' i j) h = absurd h
  simple_is (ty.fors l s p i c u a i' c' u' a' j k m n) h = absurd h
  simple_is (ty.breaks s p) h = absurd h
  simple_is (ty.continues s p) h = absurd h
  simple_is (ty.returns l s p) h = absurd h
  simple_is (ty.returns_value l s p a e i) h = absurd h
  simple_is (ty.locks l s p x g m) h = absurd h
  simple_is (ty.unlocks l s p x g m) h = absurd h
  simple_is (ty.prints l s p a e i) h = absurd h

  -- what a return without a value returns
  no_value_price : (ret : Ty) → total (weight_prices csharp_parts (made_return ds (no_value ret))) ≤ 47
  no_value_price (Int k) = omega arith
  no_value_price (Ptr k) = omega arith
  no_value_price Void = omega arith
  no_value_price (Array k n) = omega arith

  no_value_count : (ret : Ty) → statement_values (made_return ds (no_value ret)) ≤ 2
  no_value_count (Int k) = omega arith
  no_value_count (Ptr k) = omega arith
  no_value_count Void = omega arith
  no_value_count (Array k n) = omega arith

  no_value_small : (ret : Ty) (n : ℕ) → 1 ≤ n → total (operand_prices csharp_parts (made_return ds (no_value ret)))
      ≤ 130 * n
  no_value_small (Int k) n le = omega (arith, le)
  no_value_small (Ptr k) n le = omega (arith, le)
  no_value_small Void n le = omega (arith, le)
  no_value_small (Array k i) n le = omega (arith, le)

  -- the price of a loop of these parts, without the price of its test and parts
  optional_test_price : (s : Scope) {a : Option ExprTree} {c : Option TypedExprTree} → TestsOptional s a c →
      total (weight_prices csharp_parts (tests ds c)) ≤ 12 + 61 * nodes_of_optional a
  optional_test_price s ty.no_condition = omega arith
  optional_test_price s (ty.a_condition a c h) = test_price s h

  optional_test_count : (s : Scope) {a : Option ExprTree} {c : Option TypedExprTree} → TestsOptional s a c →
      statement_values (tests ds c) ≤ 3 * nodes_of_optional a
  optional_test_count s ty.no_condition = omega arith
  optional_test_count s (ty.a_condition a c h) = let v = test_count s h in omega (arith, v)

  optional_test_small : (s : Scope) {a : Option ExprTree} {c : Option TypedExprTree} → TestsOptional s a c → (n : ℕ) →
      nodes_of_optional a ≤ n → IsTestSmall n ds c
  optional_test_small s ty.no_condition n le = tt
  optional_test_small s (ty.a_condition a c h) n le = test_small s h n le

  -- statements one after another
  pair_price : (a b : Csharp) → total (all_weight_prices csharp_parts (one_more a (one b))) ≡ total
      (weight_prices csharp_parts a) + total (weight_prices csharp_parts b)
  pair_price a b =
      let p = total_append (weight_prices csharp_parts a) (weight_prices csharp_parts b ++ []) in
      let q = total_append (weight_prices csharp_parts b) [] in omega (arith, p, q)

  three_price : (a b c : Csharp) → total (all_weight_prices csharp_parts (one_more a (one_more b (one c)))) ≡ total
      (weight_prices csharp_parts a) + (total (weight_prices csharp_parts b) + total (weight_prices csharp_parts c))
  three_price a b c =
      let p = total_append (weight_prices csharp_parts a) (all_weight_prices csharp_parts (one_more b (one c))) in
      let q = pair_price b c in omega (arith, p, q)

  mutual
    pub bounded : {ret : Ty} {l : Bool} {s : Scope} {a : StmtTree} {x : TypedStmtTree} → IsStmt ret l s a x →
        ForsAreSimple a → IsBounded a x
    bounded (ty.skips l s p) f = record { weighs = omega arith; counts = omega arith; small = λ n le. tt }
    bounded (ty.declares l s p ty x new some) f = record
        { weighs = omega arith; counts = omega arith; small = λ n le. tt }
    bounded (ty.declares_value l s p ty x a y new i) f =
        let w = assigns _ i in let w0 = w.weighs in let w1 = w.counts in let n0 = nodes_positive a in
        record {
          weighs = omega (arith, w0, n0);
          counts = omega (arith, w1, n0);
          small = λ n le. w.small n
              (omega (arith, le, n0));
        }
    bounded (ty.declares_result l s p ty x g args y new i) f =
        let w = calls _ i in let w0 = w.weighs in let w1 = w.counts in
        record { weighs = omega (arith, w0); counts = omega (arith, w1); small = λ n le. w.small n (omega (arith, le)) }
    bounded (ty.assignment l s p target o a y i) f =
        let w = assigns s i in let w0 = w.weighs in let w1 = w.counts in let n0 = nodes_positive a in
        record {
          weighs = omega (arith, w0, n0);
          counts = omega (arith, w1, n0);
          small = λ n le. w.small n
              (omega (arith, le, n0));
        }
    bounded (ty.call_of l s p result g args y i) f =
        let w = calls s i in let w0 = w.weighs in let w1 = w.counts in
        record { weighs = omega (arith, w0); counts = omega (arith, w1); small = λ n le. w.small n (omega (arith, le)) }
    bounded (ty.blocks l s p bs xs i) f =
        let w = all_bounded i f in let w0 = w.weighs no_more in let w1 = w.counts no_more in
        record { weighs = omega (arith, w0); counts = omega (arith, w1); small = λ n le. w.small n (omega (arith, le)) }
    bounded (ty.ifs l s p c a o c' a' o' i j k) f =
        let q = tests_sized ds s i in let q0 = q.condition_prices in let e = price_is (made_condition ds c') in let q1 =
        test_count s i in
        let w = bounded j f.0 in let w0 = w.weighs in let w1 = w.counts in
        let v = part_bounded k f.1 in let v0 = v.weighs in let v1 = v.counts in
        let m = length_append (locals_of a) (locals_of_option o) in
        let both = total_append (value_prices (made_condition ds c')) (weight_prices csharp_parts (made_stmt ds r a'))
        in
        let all = total_append (value_prices (made_condition ds c') ++ weight_prices csharp_parts (made_stmt ds r a'))
        (weight_prices csharp_parts (made_part ds r o')) in
        record {
          weighs = omega (arith, q0, e, w0, v0, m, both, all);
          counts = omega (arith, q1, w1, v1);
          small =
              λ n le. (test_small s i n (omega (arith, le)), w.small n (omega (arith, le)), v.small n (omega (arith, le)));
        }
    bounded (ty.whiles l s p c a c' a' i j) f =
        let q0 = test_price s i in let q1 = test_count s i in
        let w = bounded j f in let w0 = w.weighs in let w1 = w.counts in
        let both = pair_price (tests ds (Some c')) (block (made_stmt ds r a')) in
        record {
          weighs = omega (arith, q0, w0, both);
          counts = omega (arith, q1, w1);
          small = λ n le.
              (test_small s i n (omega (arith, le)), w.small n (omega (arith, le)));
        }
    bounded (ty.dos l s p a c a' c' i j) f =
        let q0 = test_price s j in let q1 = test_count s j in
        let w = bounded i f in let w0 = w.weighs in let w1 = w.counts in
        let both = pair_price (block (made_stmt ds r a')) (tests ds (Some c')) in
        record {
          weighs = omega (arith, q0, w0, both);
          counts = omega (arith, q1, w1);
          small = λ n le.
              (w.small n (omega (arith, le)), test_small s j n (omega (arith, le)));
        }
    bounded (ty.fors l s p i c u a i' c' u' a' j k m n) f =
        let q0 = optional_test_price _ k in let q1 = optional_test_count _ k in
        let w = bounded n f.2 in let w0 = w.weighs in let w1 = w.counts in
        let v = step_bounded j f.0 in let v0 = v.0.weighs in let v1 = v.0.counts in
        let x = step_bounded m f.1 in let x0 = x.0.weighs in let x1 = x.0.counts in
        let m0 = length_append (locals_of_option i) (locals_of_option u ++ locals_of a) in
        let m1 = length_append (locals_of_option u) (locals_of a) in
        let three = three_price (tests ds c') (block (made_stmt ds r a')) (made_part ds r u') in
        let both = pair_price (made_part ds r i') (block (for_loop ds c' (made_part ds r u') (made_stmt ds r a'))) in
        record {
          weighs = omega (arith, q0, w0, v0, x0, m0, m1, three, both);
          counts = omega (arith, q1, w1, v1, x1);
          small = λ o le. (
            v.1 o (omega (arith, le)),
            optional_test_small _ k o (omega (arith, le)),
            x.1 o
                (omega (arith, le)),
            w.small o (omega (arith, le)),
          );
        }
    bounded (ty.breaks s p) f = record { weighs = omega arith; counts = omega arith; small = λ n le. tt }
    bounded (ty.continues s p) f = record { weighs = omega arith; counts = omega arith; small = λ n le. tt }
    bounded {ret = ret} (ty.returns l s p) f =
        let w0 = no_value_price ret in let w1 = no_value_count ret in
        record {
          weighs = omega (arith, w0);
          counts = omega (arith, w1);
          small = λ n le. no_value_small ret n
              (omega (arith, le));
        }
    bounded (ty.returns_value l s p a e i) f =
        let w = given ds s i in let w0 = w.prices in let w1 = w.values in
        record { weighs = omega (arith, w0); counts = omega (arith, w1); small = λ n le. omega (arith, w0, le) }
    bounded (ty.locks l s p x g m) f = record { weighs = omega arith; counts = omega arith; small = λ n le. tt }
    bounded (ty.unlocks l s p x g m) f = record { weighs = omega arith; counts = omega arith; small = λ n le. tt }
    bounded (ty.prints l s p a e i) f =
        let w = given ds s i in let w0 = w.prices in let w1 = w.values in
        record { weighs = omega (arith, w0); counts = omega (arith, w1); small = λ n le. omega (arith, w0, le) }

    pub part_bounded : {ret : Ty} {l : Bool} {s : Scope} {a : StmtOption} {x : TypedStmtOption} → IsPart ret l s a x →
        PartForsAreSimple a → IsPartBounded a x
    part_bounded (ty.no_part l s) f = record { weighs = omega arith; counts = omega arith; small = λ n le. tt }
    part_bounded (ty.a_part l s a a' h) f = let w = bounded h f in let w0 =
        w.weighs in record { weighs = omega (arith, w0); counts = w.counts; small = w.small }

    step_bounded : {ret : Ty} {l : Bool} {s : Scope} {a : StmtOption} {x : TypedStmtOption} → IsPart ret l s a x →
        IsSimplePart a → IsPartBounded a x × ((n : ℕ) → nodes_of_option a ≤ n → IsStepSmall n ds x)
    step_bounded (ty.no_part l s) f =
        (record { weighs = omega arith; counts = omega arith; small = λ n le. tt }, λ n le. tt)
    step_bounded (ty.a_part l s a a' h) f = let w = bounded h (simple_fors a f) in let w0 =
        w.weighs in (
          record { weighs = omega (arith, w0); counts = w.counts; small = w.small },
          λ n le.
              (w.small n le, simple_is h f),
        )

    pub all_bounded : {ret : Ty} {l : Bool} {s : Scope} {bs : StmtList} {xs : TypedStmtList} → AreStmts ret l s bs xs →
        AllForsAreSimple bs → AreBounded bs xs
    all_bounded (ty.no_stmt l s) f =
        record { weighs = λ rest. omega arith; counts = λ rest. omega arith; small = λ n le. tt }
    all_bounded (ty.a_stmt l s a bs a' rs h hs) f =
        let w = bounded h f.0 in let w0 = w.weighs in let w1 = w.counts in
        let v = all_bounded hs f.1 in
        let m = length_append (locals_of a) (locals_of_list bs) in
        record {
          weighs = λ rest. (let v0 = v.weighs rest in let both = total_append
              (weight_prices csharp_parts (made_stmt ds r a'))
              (all_weight_prices csharp_parts (made_stmts ds r rs rest)) in omega (arith, w0, v0, m, both));
          counts = λ rest. (let v1 = v.counts rest in omega (arith, w1, v1));
          small = λ n le. (w.small n (omega (arith, le)), v.small n (omega (arith, le)));
        }
