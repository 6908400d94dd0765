-- Where the graph begins a step, the source goes on by steps without a node until it comes to one that has.
use Rattle.std.proofs.Common.{◌≡◌, ℕ, zero, suc, ◌+◌, ◌≤◌, List, [], ◌∷◌, Some, None, slice_get, refl, sym, ap, ◌∙◌, subst, arith}
use Rattle.cas_runs.specs.Bounds.{total}
use Rattle.cas_runs.specs.Calls.{Goes}
use Rattle.cas_runs.specs.Access.{Then}
use Rattle.cas_runs.specs.Held.{Leads, Alone, meets_there, steps_alone, goes_alone, fails_alone, goes_held, returns_held, at_last, fails_too}
use Rattle.cas_mid.specs.Trees as st
use Rattle.cas_mid.specs.Language as language
use Rattle.cas_mid.specs.Language.{Item, begin, end_block, begin_all, after_exit, statement, continues, jumps, statement_price, operand_prices}
use Rattle.cas_sel.specs.Trees.{Statement, Statements}
use Rattle.cas_sel.specs.CminorSel.{sel_parts}
use Rattle.cas_rtl.specs.Graph.{Point}
use Rattle.cas_rtlgen.specs.Makes.{Body, Does, skips, sets, stores, calls, in_order, branches, loops, blocks, leaves, leaves_none, returns_nothing, returns, locks, unlocks, prints, DoesAll, does_none, does_more}
use Rattle.cas_rtlgen.specs.Match.{Continuation, MatchRest, at_end, begins, ends, MatchFrame, state_of, matches}
use Rattle.cas_rtlgen.proofs.Queries.{SForm, Stage, R, held}
use Rattle.cas_rtlgen.proofs.Values as runs_of
use Rattle.cas_rtlgen.proofs.Values.{Values, Runs, runs, onto, at_node}
use Rattle.cas_rtlgen.proofs.Statements.{set_runs, store_runs, call_runs, if_runs, loop_runs, return_nothing_runs, return_runs, lock_runs, unlock_runs, print_runs}

after_all : (k : ℕ) (bs : Statements) (its : Continuation) → after_exit k (begin_all bs its) ≡ after_exit k its
after_all k st.no_more its = refl
after_all k (st.one_more a bs) its = after_all k bs its

-- where there are fewer exits, there are fewer Blocks
no_leave : (b : Body) {exits : List ℕ} {its : Continuation} {i : ℕ} → MatchRest b exits its i → (k : ℕ) →
    slice_get exits k ≡ None → after_exit k its ≡ None
no_leave b (at_end here) k e = refl
no_leave b (begins a rest) k e = no_leave b rest k e
no_leave b (ends rest) zero e = absurd (cc e)
no_leave b (ends rest) (suc k) e = no_leave b rest k e

rest_all : (b : Body) {exits : List ℕ} {bs : Statements} {i j : ℕ} → DoesAll b exits bs i j → (its : Continuation) →
    MatchRest b exits its j → MatchRest b exits (begin_all bs its) i
rest_all b does_none its rest = rest
rest_all b (does_more a others) its rest = begins a (rest_all b others its rest)

module _ {F : Type 0} (stage : Stage F) (vs : Values) (fits : MatchFrame (runs_of.B stage) stage.temps vs) where
  abbrev B : Body
  B = runs_of.B stage

  abbrev Fr : language.Frame
  Fr = runs_of.Fr stage

  abbrev P : ℕ → Point ℕ
  P i = runs_of.P stage vs i

  abbrev Made : List ℕ → Statement → ℕ → ℕ → Type 0
  Made exits a i j = Does B exits a i j

  abbrev Its : List ℕ → Continuation → ℕ → Type 0
  Its exits its i = MatchRest B exits its i

  abbrev LeadsTo : Continuation → ℕ → Type 0
  LeadsTo its i = Leads (R stage.together) (held stage.together) stage.act (P i) stage.memory
      (state_of Fr its) stage.memory

  abbrev Goal : ℕ → ℕ → SForm → Type 0
  Goal credit i y = Runs stage credit (P i) y

  abbrev price : Statement → ℕ
  price a = statement_price sel_parts a + total (operand_prices sel_parts a)

  -- leaving Blocks leads to the nodes of the exits
  record Leaves (its : Continuation) (k i : ℕ) : Type 0 where
    todo : Continuation
    after : after_exit k its ≡ Some todo
    others : List ℕ
    left : Its others todo i
    leads : LeadsTo todo i

  abbrev AllLeave : List ℕ → Continuation → Type 0
  AllLeave exits its = (k i : ℕ) → slice_get exits k ≡ Some i → Leaves its k i

  leave_all : (exits : List ℕ) (bs : Statements) (its : Continuation) → AllLeave exits its →
      AllLeave exits (begin_all bs its)
  leave_all exits bs its all k i e =
      let l = all k i e in
      record { todo = l.todo; after = after_all k bs its ∙ l.after; others = l.others; left = l.left; leads = l.leads }

  leave_block : {exits : List ℕ} {j : ℕ} (its : Continuation) → Its exits its j → LeadsTo its j → AllLeave exits its →
      AllLeave (j ∷ exits) (end_block ∷ its)
  leave_block {exits = exits} {j = j} its rest lead all zero i e =
      let same : j ≡ i = cc e in record {
        todo = its;
        after = refl;
        others = exits;
        left = subst (λ x. Its exits its x) same rest;
        leads = subst (λ x. LeadsTo its x) same lead;
      }
  leave_block its rest lead all (suc k) i e =
      let l = all k i e in
      record { todo = l.todo; after = l.after; others = l.others; left = l.left; leads = l.leads }

  leave_more : (exits : List ℕ) (a : Statement) (its : Continuation) → AllLeave exits its →
      AllLeave exits (begin a ∷ its)
  leave_more exits a its all k i e =
      let l = all k i e in
      record { todo = l.todo; after = l.after; others = l.others; left = l.left; leads = l.leads }

  -- a step with a node
  node : {i credit : ℕ} (a : Statement) (its : Continuation) → credit ≤ price a →
      Goal credit i (statement sel_parts Fr a its) → LeadsTo (begin a ∷ its) i
  node a its le (runs rest paid h) = meets_there rest (omega (arith, le, paid)) h

  -- a step without
  quiet : {i : ℕ} (its its' : Continuation) → continues sel_parts Fr its ≡ language.goes sel_parts Fr its' →
      LeadsTo its' i → LeadsTo its i
  quiet {i = i} its its' e lead =
      steps_alone
      (subst (λ y. Alone (R stage.together) (held stage.together) stage.act (P i) stage.memory stage.memory y)
      (sym e) (goes_alone lead))

  mutual
    stmt_leads : {exits : List ℕ} {a : Statement} {i j : ℕ} → Made exits a i j → (its : Continuation) →
        Its exits its j → LeadsTo its j → AllLeave exits its → LeadsTo (begin a ∷ its) i
    stmt_leads skips its rest lead all = quiet (begin st.skip ∷ its) its refl lead
    stmt_leads (sets span above into) its rest lead all =
        node _ its (omega arith) (set_runs stage into above vs fits its rest)
    stmt_leads (stores one two above ops above' found apart here) its rest lead all =
        node _ its (omega arith) (store_runs stage ops above found above' apart here vs fits its rest)
    stmt_leads (calls {es = es} span above ops here) its rest lead all =
        node _ its (omega arith) (call_runs stage es ops above here vs fits its rest)
    stmt_leads (in_order {bs = bs} h) its rest lead all =
        quiet (begin (st.seq bs) ∷ its) (begin_all bs its) refl (all_leads h its rest lead all)
    stmt_leads (branches span above decides one two) its rest lead all =
        node _ its (omega arith) (if_runs stage decides above one two vs fits its rest)
    stmt_leads (loops here a) its rest lead all = node _ its (omega arith) (loop_runs stage here a vs fits its rest)
    stmt_leads (blocks {a = a} h) its rest lead all =
        quiet (begin (st.block a) ∷ its) (begin a ∷ end_block ∷ its) refl
        (stmt_leads h (end_block ∷ its) (ends rest) (quiet (end_block ∷ its) its refl lead)
        (leave_block its rest lead all))
    stmt_leads (leaves {k = k} {n = i} e) its rest lead all =
        let l = all k i e in
        quiet (begin (st.exit k) ∷ its) l.todo (ap (λ o. jumps sel_parts Fr o) l.after) l.leads
    stmt_leads (leaves_none {k = k} {n = i} e) its rest lead all =
        steps_alone
        (subst (λ o. Alone (R stage.together) (held stage.together) stage.act (P i) stage.memory stage.memory
        (jumps sel_parts Fr o)) (sym (no_leave B rest k e)) fails_alone)
    stmt_leads (returns_nothing here) its rest lead all =
        node _ its (omega arith) (return_nothing_runs stage here vs its)
    stmt_leads (returns span above found here) its rest lead all =
        node _ its (omega arith) (return_runs stage found above here vs fits its)
    stmt_leads (locks here) its rest lead all = node _ its (omega arith) (lock_runs stage here vs fits its rest)
    stmt_leads (unlocks here) its rest lead all = node _ its (omega arith) (unlock_runs stage here vs fits its rest)
    stmt_leads (prints span above found here) its rest lead all =
        node _ its (omega arith) (print_runs stage found above here vs fits its rest)

    all_leads : {exits : List ℕ} {bs : Statements} {i j : ℕ} → DoesAll B exits bs i j → (its : Continuation) →
        Its exits its j → LeadsTo its j → AllLeave exits its → LeadsTo (begin_all bs its) i
    all_leads does_none its rest lead all = lead
    all_leads (does_more {bs = bs} a others) its rest lead all =
        stmt_leads a (begin_all bs its) (rest_all B others its rest) (all_leads others its rest lead all)
        (leave_all _ bs its all)

  mutual
    pub rest_leads : {exits : List ℕ} {its : Continuation} {i : ℕ} → Its exits its i → LeadsTo its i
    rest_leads (at_end {n = i} here) =
        by (at_node stage vs i _ here 0 13 (omega arith) (at_last (returns_held tt refl)))
      where
        by : Goal 13 i (continues sel_parts Fr []) → LeadsTo [] i
        by (runs rest paid h) = meets_there rest (omega (arith, paid)) h
    rest_leads (begins {rest = its} a rest) = stmt_leads a its rest (rest_leads rest) (rest_leave rest)
    rest_leads (ends {rest = its} rest) = quiet (end_block ∷ its) its refl (rest_leads rest)

    rest_leave : {exits : List ℕ} {its : Continuation} {i : ℕ} → Its exits its i → AllLeave exits its
    rest_leave (at_end here) k i e = absurd (cc e)
    rest_leave (begins {a = a} {rest = its} h rest) k i e = leave_more _ a its (rest_leave rest) k i e
    rest_leave (ends {rest = its} rest) k i e = leave_block its rest (rest_leads rest) (rest_leave rest) k i e

  -- a node before a statement's: what is without a node has that one
  pub goes_into : {exits : List ℕ} {a : Statement} {i j : ℕ} → Made exits a i j → (its : Continuation) →
      Its exits its j →
      runs_of.Does stage (price a) (Then (Goes (P i))) (statement sel_parts Fr a its)
  goes_into skips its rest = at_last (goes_held (matches fits rest))
  goes_into (sets span above into) its rest = onto stage (set_runs stage into above vs fits its rest)
  goes_into (stores one two above ops above' found apart here) its rest =
      onto stage (store_runs stage ops above found above' apart here vs fits its rest)
  goes_into (calls {es = es} span above ops here) its rest =
      onto stage (call_runs stage es ops above here vs fits its rest)
  goes_into (in_order {bs = bs} h) its rest = at_last (goes_held (matches fits (rest_all B h its rest)))
  goes_into (branches span above decides one two) its rest =
      onto stage (if_runs stage decides above one two vs fits its rest)
  goes_into (loops here a) its rest = onto stage (loop_runs stage here a vs fits its rest)
  goes_into (blocks {a = a} h) its rest = at_last (goes_held (matches fits (begins h (ends rest))))
  goes_into (leaves {k = k} {n = i} e) its rest =
      let l = rest_leave rest k i e in
      subst (λ o. runs_of.Does stage (1 + 0) (Then (Goes (P i))) (jumps sel_parts Fr o)) (sym l.after)
      (at_last (goes_held (matches fits l.left)))
  goes_into (leaves_none {k = k} {n = i} e) its rest =
      subst (λ o. runs_of.Does stage (1 + 0) (Then (Goes (P i))) (jumps sel_parts Fr o)) (sym (no_leave B rest k e))
      fails_too
  goes_into (returns_nothing here) its rest = onto stage (return_nothing_runs stage here vs its)
  goes_into (returns span above found here) its rest = onto stage (return_runs stage found above here vs fits its)
  goes_into (locks here) its rest = onto stage (lock_runs stage here vs fits its rest)
  goes_into (unlocks here) its rest = onto stage (unlock_runs stage here vs fits its rest)
  goes_into (prints span above found here) its rest =
      onto stage (print_runs stage found above here vs fits its rest)
