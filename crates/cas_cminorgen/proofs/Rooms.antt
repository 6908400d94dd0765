-- What is made of a function weighs no more, and has no greater room.
use Rattle.std.proofs.Common.{◌≡◌, ℕ, ◌≤◌, List, [], ◌∷◌, Option, Some, None, sym, subst, arith}
use Rattle.cas_runs.specs.Bounds.{weight_of, weight}
use Rattle.cas_mid.specs.declared.tree.CsharpFun.{CsharpFun}
use Rattle.cas_mid.specs.declared.tree.CminorFun.{CminorFun}
use Rattle.cas_mid.specs.Trees.{Expression, word, temporary, own, global, element, load, unop, binop, if_, Target, to_global, to_element, to_pointer, skip, set, store, call, seq, if_else, loop, block, exit, return_, lock, unlock, print, no_more, one_more, Routine}
use Rattle.cas_mid.specs.Language.{weight_prices}
use Rattle.cas_mid.specs.Code.{csharp_routine, cminor_routine}
use Rattle.cas_mid.specs.Csharpminor.{csharpminor, csharp_parts}
use Rattle.cas_mid.specs.Cminor.{cminor, cminor_parts}
use Rattle.cas_mid.specs.Rooms.{unless_own, unless_temporary, inner_values, values, argument_values, statement_values, all_values, room_of}
use Rattle.cas_mid.proofs.Translating.{weighs_least}
use Rattle.cas_cminorgen.specs.Makes.{Code, Codes, Place, kept_in, loaded, stored, made_expr, made_exprs, made_stmt, made_stmts, made_routine}
use Rattle.cas_cminorgen.specs.Match.{IsMade, places_of, cminorgen_makes}
use Rattle.cas_cminorgen.proofs.Addresses.{Address, is_own, is_other, address}
use Rattle.cas_cminorgen.proofs.Plans.{counted, few_temporaries}
use Rattle.cas_cminorgen.proofs.Places.{plan_is, taken_in, words_of}
use Rattle.cas_cminorgen.proofs.Fitting.{body_is}
use Rattle.cas_cminorgen.proofs.Pass.{prices_alike, total_one}

-- The values between of an expression.

temporary_least : (a : Expression) (n : ℕ) → unless_temporary a n ≤ n
temporary_least (word w) n = omega arith
temporary_least (temporary t) n = omega arith
temporary_least (own v) n = omega arith
temporary_least (global g) n = omega arith
temporary_least (element g s a) n = omega arith
temporary_least (load a) n = omega arith
temporary_least (unop o a) n = omega arith
temporary_least (binop o a b) n = omega arith
temporary_least (if_ c a b) n = omega arith

own_least : (a : Expression) (n : ℕ) → unless_own a n ≤ n
own_least (word w) n = omega arith
own_least (temporary t) n = omega arith
own_least (own v) n = omega arith
own_least (global g) n = omega arith
own_least (element g s a) n = omega arith
own_least (load a) n = omega arith
own_least (unop o a) n = omega arith
own_least (binop o a b) n = omega arith
own_least (if_ c a b) n = omega arith

module _ (ps : List Place) where
  -- a load, by what its pointer has
  load_least : (a : Expression) → Address ps a → values (made_expr ps a) ≤ values a →
      inner_values (loaded (kept_in ps a) (made_expr ps a)) ≤ inner_values (load a)
  load_least a (is_own {n = n}) le = by (kept_in ps (own n))
    where
      by : (o : Option ℕ) → inner_values (loaded o (made_expr ps (own n))) ≤ inner_values (load (own n))
      by None = omega arith
      by (Some u) = omega arith
  load_least a (is_other is) le =
      let count = is.counts (values a) in
      let least = own_least (made_expr ps a) (values (made_expr ps a)) in
      subst (λ o. inner_values (loaded o (made_expr ps a)) ≤ inner_values (load a)) (sym is.is_not_kept)
      (omega (arith, count, least, le))

  loaded_values : (o : Option ℕ) (a a' : Expression) → inner_values (loaded o a) ≤ inner_values (load a') →
      values (loaded o a) ≤ values (load a')
  loaded_values None a a' le = omega (arith, le)
  loaded_values (Some u) a a' le = omega arith

  mutual
    inner_least : (e : Expression) → inner_values (made_expr ps e) ≤ inner_values e
    inner_least (word n) = omega arith
    inner_least (temporary t) = omega arith
    inner_least (own n) = omega arith
    inner_least (global g) = omega arith
    inner_least (element g s a) = values_least a
    inner_least (load a) = load_least a (address ps a) (values_least a)
    inner_least (unop o a) = values_least a
    inner_least (binop o a b) = let one = values_least a in let two = values_least b in omega (arith, one, two)
    inner_least (if_ c a b) =
        let one = values_least c in
        let two = inner_least a in
        let three = inner_least b in
        omega (arith, one, two, three)

    values_least : (e : Expression) → values (made_expr ps e) ≤ values e
    values_least (word n) = omega arith
    values_least (temporary t) = omega arith
    values_least (own n) = omega arith
    values_least (global g) = omega arith
    values_least (element g s a) = let le = values_least a in omega (arith, le)
    values_least (load a) = loaded_values (kept_in ps a) (made_expr ps a) a
        (load_least a (address ps a) (values_least a))
    values_least (unop o a) = let le = values_least a in omega (arith, le)
    values_least (binop o a b) = let one = values_least a in let two = values_least b in omega (arith, one, two)
    values_least (if_ c a b) =
        let one = values_least c in
        let two = inner_least a in
        let three = inner_least b in
        omega (arith, one, two, three)

  arguments_least : (es : List Expression) → argument_values (made_exprs ps es) ≤ argument_values es
  arguments_least [] = omega arith
  arguments_least (e ∷ es) = let one = values_least e in let rest = arguments_least es in omega (arith, one, rest)

  -- what is set has no value between besides its own
  inner_fewer : (e : Expression) → inner_values e ≤ values e
  inner_fewer (word n) = omega arith
  inner_fewer (temporary t) = omega arith
  inner_fewer (own n) = omega arith
  inner_fewer (global g) = omega arith
  inner_fewer (element g s a) = omega arith
  inner_fewer (load a) = omega arith
  inner_fewer (unop o a) = omega arith
  inner_fewer (binop o a b) = omega arith
  inner_fewer (if_ c a b) = omega arith

  stored_least : (a : Expression) → Address ps a → (e : Expression) →
      statement_values (stored (kept_in ps a) (made_expr ps a) (made_expr ps e)) ≤ statement_values (store (to_pointer a) e)
  stored_least a (is_own {n = n}) e = by (kept_in ps (own n))
    where
      by : (o : Option ℕ) → statement_values (stored o (made_expr ps (own n)) (made_expr ps e))
          ≤ statement_values (store (to_pointer (own n)) e)
      by None = let le = values_least e in omega (arith, le)
      by (Some u) = let le = values_least e in let few = inner_fewer (made_expr ps e) in omega (arith, le, few)
  stored_least a (is_other is) e =
      let count = is.counts (values a) in
      let least = own_least (made_expr ps a) (values (made_expr ps a)) in
      let one = values_least a in
      let two = values_least e in
      subst (λ o. statement_values (stored o (made_expr ps a) (made_expr ps e))
      ≤ statement_values (store (to_pointer a) e)) (sym is.is_not_kept) (omega (arith, count, least, one, two))

  mutual
    statement_least : (b : Code) → statement_values (made_stmt ps b) ≤ statement_values b
    statement_least skip = omega arith
    statement_least (set t e) = inner_least e
    statement_least (store (to_global g) e) = let le = values_least e in omega (arith, le)
    statement_least (store (to_element g s a) e) =
        let one = values_least a in let two = values_least e in omega (arith, one, two)
    statement_least (store (to_pointer a) e) = stored_least a (address ps a) e
    statement_least (call t f es) = arguments_least es
    statement_least (seq bs) = statements_least bs
    statement_least (if_else c a b) =
        let one = values_least c in
        let two = statement_least a in
        let three = statement_least b in
        omega (arith, one, two, three)
    statement_least (loop a) = statement_least a
    statement_least (block a) = statement_least a
    statement_least (exit n) = omega arith
    statement_least (return_ None) = omega arith
    statement_least (return_ (Some e)) = values_least e
    statement_least (lock l) = omega arith
    statement_least (unlock l) = omega arith
    statement_least (print e) = values_least e

    statements_least : (bs : Codes) → all_values (made_stmts ps bs) ≤ all_values bs
    statements_least no_more = omega arith
    statements_least (one_more a bs) =
        let one = statement_least a in let rest = statements_least bs in omega (arith, one, rest)

pub weighs_no_more : (f : CminorFun) (g : CsharpFun) → cminor_routine f ≡ made_routine (csharp_routine g) →
    IsMade [] f g → weight_of cminor.tariff f ≤ weight_of csharpminor.tariff g
weighs_no_more f g routine made =
    let forms = weighs_least cminor_parts csharp_parts cminorgen_makes prices_alike g (body_is g made.variables.within) in
    let few = few_temporaries (taken_in g) (plan_is g) in
    subst (λ (x : Routine Expression Target Expression). weight (13 ∷ weight_prices cminor_parts x.body) 18 x.names
    x.parameters ≤ weight_of csharpminor.tariff g) (sym routine) (omega (arith, forms, few))

-- the room doesn't rise
pub room_no_greater : (f : CminorFun) (g : CsharpFun) → cminor_routine f ≡ made_routine (csharp_routine g) →
    room_of (cminor_routine f) ≤ room_of (csharp_routine g)
room_no_greater f g routine =
    let count = counted (taken_in g) (plan_is g) in
    let whole = total_one (words_of g) in
    let body = statement_least (places_of g) (csharp_routine g).body in
    subst (λ (x : Routine Expression Target Expression). room_of x ≤ room_of (csharp_routine g)) (sym routine)
    (omega (arith, count, whole, body))
