-- The steps of Csharpminor's activations do what those of Clight's do, one case a form.
use Rattle.std.proofs.Common.{◌≡◌, ℕ, ◌+◌, ◌*◌, ◌<◌, ◌≤◌, List, [], ◌∷◌, Option, Some, None, Bool, true, false, if◌then◌else◌, length, slice_get, nat_lt, nat_eq, refl, sym, ap, ◌∙◌, subst, arith, lt-ltb}
use Rattle.std.specs.Prelude.{map}
use Rattle.cas_base.specs.declared.act.Why.TheVariants.{Index}
use Rattle.cas_base.specs.declared.decl.Decl.{Decl}
use Rattle.cas_base.specs.declared.kind.Ty.{Ty}
use Rattle.cas_base.specs.declared.kind.Ty.TheVariants.{Void, Int, Ptr, Array}
use Rattle.cas_base.specs.declared.place.Place.{Place}
use Rattle.cas_typed.specs.declared.tree.Destination.{Destination}
use Rattle.cas_typed.specs.Resolved as t
use Rattle.cas_typed.specs.Resolved.{TypedExprTree, TypedTargetTree, to_local, to_global, to_element, to_behind, TypedStmtTree, TypedStmtOption, TypedStmtList}
use Rattle.cas_step.specs.Asks as asks
use Rattle.cas_step.specs.Asks.{Asks, and_then}
use Rattle.cas_step.specs.Env as env
use Rattle.cas_step.specs.Env.{Entity, length_of}
use Rattle.cas_step.specs.Operators.{number_of}
use Rattle.cas_step.specs.Pointers.{cell_behind, if_live}
use Rattle.cas_step.specs.Evaluate as ev
use Rattle.cas_step.specs.Evaluate.{value_of, values_of, test_of, condition, of_global, of_object}
use Rattle.cas_step.specs.Continuation as items
use Rattle.cas_step.specs.Continuation.{ContItem, begin_part, chooses, statement_effect, effect_of, after_break, after_continue, jumps, into}
use Rattle.cas_runs.specs.Held.{Activation, Held, MatchIf, goes_held, takes_held, gives_held, puts_held, calls_held, returns_held, Amounts, both_write, both_store, source_looks, onward, at_last, fails_too}
use Rattle.cas_runs.specs.Naming.{Own, Value, Memory}
use Rattle.cas_runs.specs.Bounds.{total, most_of}
use Rattle.cas_runs.specs.Access.{Accesses, Writes, Stores, Then, with_value, length_of as size_in}
use Rattle.cas_runs.specs.Calls.{Last, Takes, Gives, Puts, Calls}
use Rattle.cas_runs.specs.Unit.{Setting}
use Rattle.cas_runs.specs.Passing.{Relation, AllMatch}
use Rattle.cas_runs.specs.Unmoved.{Unmoved, bare, places}
use Rattle.cas_runs.proofs.Cells.{set_same, set_length}
use Rattle.cas_mid.specs.declared.tree.CsharpFun.{CsharpFun}
use Rattle.cas_mid.specs.Trees as st
use Rattle.cas_mid.specs.Trees.{skip, block, exit, one_more, no_more}
use Rattle.cas_mid.specs.Operators.{either, on_word, on_pointer, on_truth, place_at}
use Rattle.cas_mid.specs.Language as language
use Rattle.cas_mid.specs.Language.{Item, begin, end_block, begin_all, after_exit, Frame, at, goes, statement, continues, values, with_temporary, step_operands}
use Rattle.cas_mid.specs.Csharpminor.{CsharpState, csharpminor, csharp_parts, value}
use Rattle.cas_clight.specs.Clight as clight
use Rattle.cas_clight.specs.Clight.{ClightFun, ClightState, Object, encoded, asked, context_of, entity_of, entity_by, own_home, does, passing, parameters_of, result_of, cells_of}
use Rattle.cas_cshmgen.specs.Makes.{Csharp, Csharps, name_of, name_at, made_expr, made_condition, made_exprs, made_stmt, made_part, made_stmts, made_call, made_return, keeps, tests, while_loop, do_loop, for_loop, closing}
use Rattle.cas_cshmgen.specs.Match.{Rest, IsCheap, IsSmall, AreSmall, IsPartSmall, IsStepSmall, IsLoopSmall, IsForSmall, IsSimple, MatchRest, at_end, begins, in_while, in_do, in_for, MatchCont, at_rest, at_skip, at_while, at_do, at_next, at_loop, at_for, at_no_first, at_first, HasResult, frame_of, MatchStates, runs, has_result, IsMade}
use Rattle.cas_cshmgen.proofs.Asked.{asked_then, then_then}
use Rattle.cas_cshmgen.proofs.Values.{cell_of, word_amounts, element_amounts, value_amounts, tested}

-- the most nodes, and the most cells
abbrev pub nodes_in : List ClightFun → ℕ
nodes_in ss = most_of (λ f. f.nodes) ss

abbrev pub cells_in : List ClightFun → ℕ
cells_in ss = most_of cells_of ss

-- the pass, by what it makes and where both begin a step
abbrev pub cshmgen : Unmoved CsharpFun CsharpState ClightFun ClightState
cshmgen =
    record {
      target = csharpminor;
      source = clight.clight;
      made = IsMade;
      match_states =
          λ setting ts ss act x t y s. MatchStates (nodes_in ss) act x t y s;
    }

-- the relation over which steps are shown
abbrev pub R : Setting → List CsharpFun → List ClightFun → (CsharpFun → ClightFun → Type 0) →
    Relation CsharpFun CsharpState ClightFun ClightState
R setting ts ss made = bare cshmgen setting ts ss made

abbrev pub held : Setting → List CsharpFun → List ClightFun → Held CsharpFun CsharpState ClightFun ClightState
held setting ts ss = places cshmgen setting ts ss

-- what the next step costs
abbrev pub price_at : Rest → ℕ
price_at rest = language.step_price csharp_parts rest + total (step_operands csharp_parts rest)

-- an Exit leads where the source's jump does
abbrev LeadsTo : ℕ → ClightFun → Option (List ContItem) → Option Rest → Type 0
LeadsTo n fn None o = Unit {0}
LeadsTo n fn (Some cont) None = ⊥
LeadsTo n fn (Some cont) (Some rest) = MatchCont n fn cont rest

breaks : (n : ℕ) (fn : ClightFun) (cont : List ContItem) (rest : Rest) → MatchRest n fn cont rest →
    LeadsTo n fn (after_break cont) (after_exit 1 rest)
breaks n fn cont rest at_end = by (result_of fn)
  where
    by : (ret : Ty) → LeadsTo n fn None (after_exit 1 (begin_all (closing ret) []))
    by ret = tt
breaks n fn cont rest (begins {cont = cont'} {rest = rest'} small b) = breaks n fn cont' rest' b
breaks n fn cont rest (in_while h b) = at_rest b
breaks n fn cont rest (in_do h b) = at_rest b
breaks n fn cont rest (in_for h b) = at_rest b

continued : (n : ℕ) (fn : ClightFun) (cont : List ContItem) (rest : Rest) → MatchRest n fn cont rest →
    LeadsTo n fn (after_continue cont) (after_exit 0 rest)
continued n fn cont rest at_end = tt
continued n fn cont rest (begins {cont = cont'} {rest = rest'} small b) = continued n fn cont' rest' b
continued n fn cont rest (in_while h b) = at_while h b
continued n fn cont rest (in_do h b) = at_do h b
continued n fn cont rest (in_for h b) = at_next h b

-- statements one after another
pub all_begin : (n : ℕ) (fn : ClightFun) (bs : TypedStmtList) → AreSmall n fn.decls bs →
    (cont : List ContItem) (after : Csharps) (rest : Rest) → MatchRest n fn cont (begin_all after rest) →
    MatchRest n fn (items.begin_all bs cont) (begin_all (made_stmts fn.decls (parameters_of fn) bs after) rest)
all_begin n fn t.no_more small cont after rest b = b
all_begin n fn (t.one_more a bs) small cont after rest b = begins small.0 (all_begin n fn bs small.1 cont after rest b)

module _ (setting : Setting) (ts : List CsharpFun) (ss : List ClightFun) (made : CsharpFun → ClightFun → Type 0)
    (act : Activation CsharpFun ClightFun) where
  abbrev N : ℕ
  N = nodes_in ss

  abbrev pub Does : ℕ → Memory → Accesses (Last CsharpState) → Accesses (Last ClightState) → Type 0
  Does credit m x y = Amounts (R setting ts ss made) (held setting ts ss) act credit m m x y

  module _ (fn : ClightFun) (serial : ℕ) (temps : List Value) (room : HasResult fn temps) where
    abbrev pub F : Frame
    F = frame_of fn serial temps

    abbrev D : List Decl
    D = fn.decls

    abbrev M : TypedStmtTree → Csharp
    M a = made_stmt fn.decls (parameters_of fn) a

    abbrev P : TypedStmtOption → Csharp
    P u = made_part fn.decls (parameters_of fn) u

    abbrev W : TypedExprTree → TypedStmtTree → Csharp
    W c a = while_loop D c (M a)

    abbrev O : TypedExprTree → TypedStmtTree → Csharp
    O c a = do_loop D c (M a)

    abbrev L : Option TypedExprTree → TypedStmtOption → TypedStmtTree → Csharp
    L c u a = for_loop D c (P u) (M a)

    abbrev Context : ev.EvalContext Object
    Context = context_of fn serial

    abbrev Effects : items.Effect Object → Accesses (Last ClightState)
    Effects d = does fn serial d

    -- both go on there
    goes_to : {m : Memory} (cont : List ContItem) (rest : Rest) → MatchCont N fn cont rest → (credit : ℕ) →
        Does credit m (goes csharp_parts F rest) (Effects (items.continues cont))
    goes_to cont rest h credit = at_last (goes_held (runs room h))

    -- one step more of the target, which costs so much
    pub one_on : {m : Memory} {y : Accesses (Last ClightState)} (rest : Rest) (left credit : ℕ) →
        price_at rest + left ≤ credit → Does left m (continues csharp_parts F rest) y →
        Does credit m (goes csharp_parts F rest) y
    one_on rest left credit le more = onward (at csharp_parts F rest) left le more

    -- an expression, and what follows on its value
    valued : (a : TypedExprTree) → (credit : ℕ) (m : Memory) (k : Value → Accesses (Last CsharpState)) {A : Type 0}
        (next : asks.Value Object → Asks Object A) (k' : A → Accesses (Last ClightState)) →
        ((u : asks.Value Object) → Does credit m (k (encoded u)) (asked D (next u) k')) →
        Does credit m (value F (made_expr D a) k) (asked D (and_then (value_of Context a) next) k')
    valued a credit m k next k' more = subst (λ y. Does credit m (value F (made_expr D a) k) y)
        (sym (asked_then D (value_of Context a) next k'))
        (value_amounts (R setting ts ss made) (held setting ts ss) (λ i. refl) act fn serial temps a credit m k
        (λ u. asked D (next u) k') more)

    -- several, from left to right
    all_valued : (args : List TypedExprTree) → (credit : ℕ) (m : Memory) (k : List Value → Accesses (Last CsharpState))
        (k' : List (asks.Value Object) → Accesses (Last ClightState)) →
        ((us : List (asks.Value Object)) → Does credit m (k (map encoded us)) (k' us)) →
        Does credit m (values csharp_parts F (made_exprs D args) k) (asked D (values_of Context args) k')
    all_valued [] credit m k k' more = more []
    all_valued (a ∷ args) credit m k k' more =
        valued a credit m _ _ k' (λ u.
        subst (λ y. Does credit m (values csharp_parts F (made_exprs D args) (λ vs. k (encoded u ∷ vs))) y)
        (sym (asked_then D (values_of Context args) (λ us. asks.gives (u ∷ us)) k'))
        (all_valued args credit m (λ vs. k (encoded u ∷ vs)) (λ us. k' (u ∷ us)) (λ us. more (u ∷ us))))

    -- a condition, by which one or the other goes on
    chosen : (c : TypedExprTree) → (credit : ℕ) (m : Memory) (k : Bool → Accesses (Last CsharpState))
        (some others : List ContItem) →
        ((b : Bool) → Does credit m (k b) (Effects (items.continues (ev.either some others b)))) →
        Does credit m (value F (made_condition D c) (λ v. on_truth v k))
        (asked D (chooses Context (Some c) some others) Effects)
    chosen c credit m k some others more =
        subst (λ y. Does credit m (value F (made_condition D c) (λ v. on_truth v k)) y)
        (ap (λ z. asked D z Effects)
        (sym (then_then (value_of Context c) condition
        (λ b. asks.gives (items.continues (ev.either some others b))))))
        (tested (R setting ts ss made) (held setting ts ss) (λ i. refl) act fn serial temps c
        (value_amounts (R setting ts ss made) (held setting ts ss) (λ i. refl) act fn serial temps c) credit m k
        (λ b. asks.gives (items.continues (ev.either some others b))) Effects more)

    -- where both begin a step: the target's first step and those that follow cost at most this
    pub record Paid (bound : ℕ) (cont : List ContItem) (rest : Rest) : Type 0 where
      pub credit : ℕ
      pub pays : price_at rest + credit ≤ bound
      pub steps : (m : Memory) → Does credit m (continues csharp_parts F rest)
          (asked D (effect_of Context (result_of fn) cont) Effects)

    -- the turns of loops

    while_turn : (p : Place) (c : TypedExprTree) (a : TypedStmtTree) (cont : List ContItem) (rest : Rest) →
        IsLoopSmall N D c a → MatchRest N fn cont rest → (credit : ℕ) (m : Memory) → 13 + 130 * N ≤ credit →
        Does credit m (continues csharp_parts F (begin (W c a) ∷ end_block ∷ rest))
        (asked D (chooses Context (Some c) (items.begin a ∷ items.begun p c a ∷ cont) cont) Effects)
    while_turn p c a cont rest h b credit m le =
        let cheap = h.0 in
        one_on (begin (st.seq (one_more (tests D (Some c)) (one_more (block (M a)) no_more))) ∷ begin
        (W c a) ∷ end_block ∷ rest) (12 + 130 * N) credit (omega (arith, le))
        (one_on (begin (tests D (Some c)) ∷ begin (block (M a)) ∷ begin (W c a) ∷ end_block ∷ rest) 2 (12 + 130 * N)
        (omega (arith, cheap))
        (chosen c 2 m
        (λ is. goes csharp_parts F (begin (either skip (exit 0) is) ∷ begin (block (M a)) ∷ begin
        (W c a) ∷ end_block ∷ rest)) (items.begin a ∷ items.begun p c a ∷ cont) cont turn))
      where
        turn : (is : Bool) →
            Does 2 m (goes csharp_parts F (begin (either skip (exit 0) is) ∷ begin (block (M a)) ∷ begin
            (W c a) ∷ end_block ∷ rest))
            (Effects (items.continues (ev.either (items.begin a ∷ items.begun p c a ∷ cont) cont is)))
        turn true =
            one_on _ 1 2 (omega arith)
            (one_on _ 0 1 (omega arith) (goes_to (items.begin a ∷ items.begun p c a ∷ cont)
            (begin (M a) ∷ end_block ∷ begin (W c a) ∷ end_block ∷ rest) (at_rest (begins h.1 (in_while h b))) 0))
        turn false = one_on _ 1 2 (omega arith) (goes_to cont rest (at_rest b) 1)

    -- a turn of a do begins
    do_begins : (p : Place) (c : TypedExprTree) (a : TypedStmtTree) (cont : List ContItem) (rest : Rest) →
        IsLoopSmall N D c a → MatchRest N fn cont rest → (credit : ℕ) (m : Memory) → 9 ≤ credit →
        Does credit m (goes csharp_parts F (begin (O c a) ∷ end_block ∷ rest))
        (Effects (items.continues (items.begin a ∷ items.begun p c a ∷ cont)))
    do_begins p c a cont rest h b credit m le =
        one_on _ 2 credit (omega (arith, le)) (one_on _ 1 2 (omega arith) (one_on _ 0 1 (omega arith)
        (goes_to (items.begin a ∷ items.begun p c a ∷ cont)
        (begin (M a) ∷ end_block ∷ begin (tests D (Some c)) ∷ begin (O c a) ∷ end_block ∷ rest)
        (at_rest (begins h.1 (in_do h b))) 0)))

    -- and its condition
    do_turn : (p : Place) (c : TypedExprTree) (a : TypedStmtTree) (cont : List ContItem) (rest : Rest) →
        IsLoopSmall N D c a → MatchRest N fn cont rest → (credit : ℕ) (m : Memory) → 10 ≤ credit →
        Does credit m (continues csharp_parts F (begin (tests D (Some c)) ∷ begin (O c a) ∷ end_block ∷ rest))
        (asked D (chooses Context (Some c) (items.begin a ∷ items.begun p c a ∷ cont) cont) Effects)
    do_turn p c a cont rest h b credit m le = chosen c credit m
        (λ is. goes csharp_parts F (begin (either skip (exit 0) is) ∷ begin (O c a) ∷ end_block ∷ rest))
        (items.begin a ∷ items.begun p c a ∷ cont) cont turn
      where
        turn : (is : Bool) →
            Does credit m (goes csharp_parts F (begin (either skip (exit 0) is) ∷ begin (O c a) ∷ end_block ∷ rest))
            (Effects (items.continues (ev.either (items.begin a ∷ items.begun p c a ∷ cont) cont is)))
        turn true = one_on _ 9 credit (omega (arith, le)) (do_begins p c a cont rest h b 9 m (omega arith))
        turn false = one_on _ 0 credit (omega (arith, le)) (goes_to cont rest (at_rest b) 0)

    for_turn : (p : Place) (c : Option TypedExprTree) (u : TypedStmtOption) (a : TypedStmtTree) (cont : List ContItem)
        (rest : Rest) → IsForSmall N D c u a → MatchRest N fn cont rest → (credit : ℕ) (m : Memory) →
        13 + 130 * N ≤ credit → Does credit m (continues csharp_parts F (begin (L c u a) ∷ end_block ∷ rest))
        (asked D (chooses Context c (items.begin a ∷ items.next p u ∷ items.loop p c u a ∷ cont) cont) Effects)
    for_turn p c u a cont rest h b credit m le =
        one_on (begin (st.seq (one_more (tests D c) (one_more (block (M a)) (one_more (P u) no_more)))) ∷ begin
        (L c u a) ∷ end_block ∷ rest) (12 + 130 * N) credit (omega (arith, le)) (testing c h)
      where
        body : (c' : Option TypedExprTree) → IsForSmall N D c' u a → (credit : ℕ) → 1 ≤ credit →
            Does credit m
            (goes csharp_parts F (begin (block (M a)) ∷ begin (P u) ∷ begin (L c' u a) ∷ end_block ∷ rest))
            (Effects (items.continues (items.begin a ∷ items.next p u ∷ items.loop p c' u a ∷ cont)))
        body c' h' credit le = one_on _ 0 credit (omega (arith, le))
            (goes_to (items.begin a ∷ items.next p u ∷ items.loop p c' u a ∷ cont)
            (begin (M a) ∷ end_block ∷ begin (P u) ∷ begin (L c' u a) ∷ end_block ∷ rest)
            (at_rest (begins h'.2 (in_for h' b))) 0)

        turn : (c' : TypedExprTree) → IsForSmall N D (Some c') u a → (is : Bool) →
            Does 2 m (goes csharp_parts F (begin (either skip (exit 0) is) ∷ begin (block (M a)) ∷ begin (P u) ∷ begin
            (L (Some c') u a) ∷ end_block ∷ rest))
            (Effects (items.continues (ev.either (items.begin a ∷ items.next p u ∷ items.loop p (Some c') u a ∷ cont)
            cont is)))
        turn c' h' true = one_on _ 1 2 (omega arith) (body (Some c') h' 1 (omega arith))
        turn c' h' false = one_on _ 1 2 (omega arith) (goes_to cont rest (at_rest b) 1)

        testing : (c' : Option TypedExprTree) → IsForSmall N D c' u a →
            Does (12 + 130 * N) m
            (goes csharp_parts F (begin (tests D c') ∷ begin (block (M a)) ∷ begin (P u) ∷ begin
            (L c' u a) ∷ end_block ∷ rest))
            (asked D (chooses Context c' (items.begin a ∷ items.next p u ∷ items.loop p c' u a ∷ cont) cont) Effects)
        testing None h' = one_on _ 1 (12 + 130 * N) (omega arith) (body None h' 1 (omega arith))
        testing (Some c') h' = let cheap = h'.0 in one_on
            (begin (tests D (Some c')) ∷ begin (block (M a)) ∷ begin (P u) ∷ begin (L (Some c') u a) ∷ end_block ∷ rest)
            2 (12 + 130 * N) (omega (arith, cheap))
            (chosen c' 2 m
            (λ is. goes csharp_parts F (begin (either skip (exit 0) is) ∷ begin (block (M a)) ∷ begin (P u) ∷ begin
            (L (Some c') u a) ∷ end_block ∷ rest)) (items.begin a ∷ items.next p u ∷ items.loop p (Some c') u a ∷ cont)
            cont (turn c' h'))

    -- jumps
    jumps_amounts : (credit : ℕ) (m : Memory) (cont : Option (List ContItem)) (rest : Option Rest) →
        LeadsTo N fn cont rest → Does credit m (language.jumps csharp_parts F rest) (asked D (jumps cont) Effects)
    jumps_amounts credit m None rest h = fails_too
    jumps_amounts credit m (Some cont) None h = absurd h
    jumps_amounts credit m (Some cont) (Some rest) h = goes_to cont rest h credit

    -- assignments

    store_local : (i : ℕ) (credit : ℕ) (m : Memory) (cont : List ContItem) (rest : Rest) → MatchCont N fn cont rest →
        (u : asks.Value Object) →
        Does credit m (Stores (Own fn.decl.name serial i) 0 (encoded u) (goes csharp_parts F rest))
        (Stores (own_home fn serial i) 0 (encoded u) (Effects (items.continues cont)))
    store_local i credit m cont rest h u = both_store (λ there. there) tt tt (λ there. goes_to cont rest h credit)

    -- a word into a global
    write_global : (item : ℕ) (d : Decl) → slice_get D item ≡ Some d →
        (credit : ℕ) (m : Memory) (cont : List ContItem) (rest : Rest) → MatchCont N fn cont rest →
        (u : asks.Value Object) →
        Does credit m (on_word (encoded u) (λ i. Writes d.name 0 i (goes csharp_parts F rest)))
        (asked D (into (of_global item 0) u cont) Effects)
    write_global item d is credit m cont rest h (asks.word i) =
        subst (λ (o : Option Decl). Does credit m (Writes d.name 0 i (goes csharp_parts F rest))
        (with_value o (λ (e : Decl). Writes e.name 0 i (Effects (items.continues cont))))) (sym is)
        (both_write refl (at_last (goes_held (runs room h))))
    write_global item d is credit m cont rest h asks.null = fails_too
    write_global item d is credit m cont rest h (asks.pointer o p) = fails_too

    abbrev Assigned : TypedExprTree → (item : ℕ) → List ContItem → ℕ → Asks Object (items.Effect Object)
    Assigned a item cont i = and_then (value_of Context a) (λ v. into (of_global item i) v cont)

    global_assigned : (item : ℕ) (a : TypedExprTree) → (credit : ℕ) (m : Memory) (cont : List ContItem) (rest : Rest) →
        MatchCont N fn cont rest → (o : Option Decl) → slice_get D item ≡ o →
        Does credit m
        (value F (made_expr D a) (λ v. on_word v (λ i. Writes (name_of o) 0 i (goes csharp_parts F rest))))
        (asked D (and_then (ev.only_place (length_of (entity_of o))) (Assigned a item cont)) Effects)
    global_assigned item a credit m cont rest h None is = fails_too
    global_assigned item a credit m cont rest h (Some d) is = by (entity_by d.form)
      where
        writing : Does credit m
            (value F (made_expr D a) (λ v. on_word v (λ i. Writes d.name 0 i (goes csharp_parts F rest))))
            (asked D (Assigned a item cont 0) Effects)
        writing = valued a credit m _ (λ v. into (of_global item 0) v cont) Effects
            (write_global item d is credit m cont rest h)

        one : (b : Bool) →
            Does credit m (value F (made_expr D a) (λ v. on_word v (λ i. Writes d.name 0 i (goes csharp_parts F rest))))
            (asked D (and_then (if b then asks.gives 0 else asks.stuck) (Assigned a item cont)) Effects)
        one true = writing
        one false = fails_too

        by : (e : Entity) →
            Does credit m (value F (made_expr D a) (λ v. on_word v (λ i. Writes d.name 0 i (goes csharp_parts F rest))))
            (asked D (and_then (ev.only_place (length_of (Some e))) (Assigned a item cont)) Effects)
        by (env.shared first size guard) = one (nat_eq size 1)
        by (env.table first size) = one (nat_eq size 1)
        by (env.function at') = fails_too
        by env.outside = fails_too
        by (env.lock number) = fails_too

    -- a word at a place of a global
    write_at : (item q : ℕ) (d : Decl) → slice_get D item ≡ Some d →
        (credit : ℕ) (m : Memory) (cont : List ContItem) (rest : Rest) → MatchCont N fn cont rest →
        (u : asks.Value Object) →
        Does credit m (on_word (encoded u) (λ i. Writes d.name q i (goes csharp_parts F rest)))
        (asked D (into (of_global item q) u cont) Effects)
    write_at item q d is credit m cont rest h (asks.word i) =
        subst (λ (o : Option Decl). Does credit m (Writes d.name q i (goes csharp_parts F rest))
        (with_value o (λ (e : Decl). Writes e.name q i (Effects (items.continues cont))))) (sym is)
        (both_write refl (at_last (goes_held (runs room h))))
    write_at item q d is credit m cont rest h asks.null = fails_too
    write_at item q d is credit m cont rest h (asks.pointer o p) = fails_too

    -- at_rest a pointer
    behind_assigned : (a : TypedExprTree) (credit : ℕ) (m : Memory) (cont : List ContItem) (rest : Rest) →
        MatchCont N fn cont rest → (u : asks.Value Object) →
        Does credit m
        (on_pointer (encoded u) (λ home p. value F (made_expr D a) (λ v. Stores home p v (goes csharp_parts F rest))))
        (asked D (and_then
        (and_then (asks.pointed u) (λ b. and_then (cell_behind b) (λ c. asks.gives (of_object c.0 c.1))))
        (λ c. and_then (value_of Context a) (λ v. into c v cont))) Effects)
    behind_assigned a credit m cont rest h (asks.word i) = fails_too
    behind_assigned a credit m cont rest h asks.null = fails_too
    behind_assigned a credit m cont rest h (asks.pointer o p) = source_looks (by (size_in (m o.home)))
      where
        storing : Does credit m (value F (made_expr D a) (λ v. Stores o.home p v (goes csharp_parts F rest)))
            (asked D (and_then (value_of Context a) (λ v. into (of_object o p) v cont)) Effects)
        storing = valued a credit m _ (λ v. into (of_object o p) v cont) Effects
            (λ v. both_store (λ there. there) tt tt (λ there. goes_to cont rest h credit))

        within : (b : Bool) →
            Does credit m (value F (made_expr D a) (λ v. Stores o.home p v (goes csharp_parts F rest)))
            (asked D (and_then (and_then (if b then asks.gives (cell_of o p) else asks.fails Index)
            (λ c. asks.gives (of_object c.0 c.1))) (λ c. and_then (value_of Context a) (λ v. into c v cont))) Effects)
        within true = storing
        within false = fails_too

        by : (size : Option ℕ) →
            Does credit m (value F (made_expr D a) (λ v. Stores o.home p v (goes csharp_parts F rest)))
            (asked D (and_then
            (and_then (if_live (λ size. if nat_lt p size then asks.gives (cell_of o p) else asks.fails Index) size)
            (λ c. asks.gives (of_object c.0 c.1))) (λ c. and_then (value_of Context a) (λ v. into c v cont))) Effects)
        by None = fails_too
        by (Some size) = within (nat_lt p size)

    -- a target, and then what follows on rest cell
    assign_amounts : (p : Place) (target : TypedTargetTree) (a : TypedExprTree) → (cont : List ContItem) (rest : Rest) →
        MatchCont N fn cont rest → (credit : ℕ) (m : Memory) →
        Does credit m (statement csharp_parts F (M (t.assign p target a)) rest)
        (asked D (statement_effect Context (t.assign p target a) cont) Effects)
    assign_amounts p (to_local i) a cont rest h credit m =
        valued a credit m _ (λ v. into (of_object (Context.own i) 0) v cont) Effects
        (store_local i credit m cont rest h)
    assign_amounts p (to_global item at') a cont rest h credit m =
        subst (λ y. Does credit m (statement csharp_parts F (M (t.assign p (to_global item at') a)) rest) y)
        (ap (λ x. asked D x Effects)
        (sym (then_then (ev.only_place (length_of (entity_of (slice_get D item))))
        (λ i. asks.gives (of_global item i)) (λ c. and_then (value_of Context a) (λ v. into c v cont)))))
        (global_assigned item a credit m cont rest h (slice_get D item) refl)
    assign_amounts p (to_element item at' sign i) a cont rest h credit m =
        subst (λ y. Does credit m (statement csharp_parts F (M (t.assign p (to_element item at' sign i) a)) rest) y)
        (ap (λ x. asked D x Effects)
        (sym (then_then (value_of Context i) (λ v. and_then (ev.element_place Context item sign v)
        (λ q. asks.gives (of_global item q))) (λ c. and_then (value_of Context a) (λ v. into c v cont)))))
        (valued i credit m _ _ Effects (λ u.
        subst (λ y. Does credit m
        (on_word (encoded u) (λ j. with_value (place_at (number_of sign j))
        (λ q. value F (made_expr D a)
        (λ v. on_word v (λ x. Writes (name_at D item) q x (goes csharp_parts F rest)))))) y)
        (ap (λ x. asked D x Effects)
        (sym (then_then (ev.element_place Context item sign u) (λ q. asks.gives (of_global item q))
        (λ c. and_then (value_of Context a) (λ v. into c v cont)))))
        (element_amounts (R setting ts ss made) (held setting ts ss) (λ i. refl) act fn serial temps credit m item sign
        u (λ d q. value F (made_expr D a) (λ v. on_word v (λ x. Writes d.name q x (goes csharp_parts F rest))))
        (Assigned a item cont) Effects (λ d is q. valued a credit m _ (λ v. into (of_global item q) v cont) Effects
        (write_at item q d is credit m cont rest h)) (slice_get D item) refl _
        (λ d is q. ap (λ (o : Option Decl). value F (made_expr D a)
        (λ v. on_word v (λ x. Writes (name_of o) q x (goes csharp_parts F rest)))) is))))
    assign_amounts p (to_behind k q) a cont rest h credit m =
        subst (λ y. Does credit m (statement csharp_parts F (M (t.assign p (to_behind k q) a)) rest) y)
        (ap (λ x. asked D x Effects)
        (sym (then_then (value_of Context q) (λ v. and_then (asks.pointed v)
        (λ b. and_then (cell_behind b) (λ c. asks.gives (of_object c.0 c.1))))
        (λ c. and_then (value_of Context a) (λ v. into c v cont)))))
        (valued q credit m _ _ Effects (λ u. behind_assigned a credit m cont rest h u))

    -- what comes back from a call

    with_result : (d : Destination) (v : Value) (cont : List ContItem) (rest : Rest) → MatchCont N fn cont rest →
        (m : Memory) (o : Option Value) → clight.converted d.ty v ≡ o →
        MatchIf (R setting ts ss made) (held setting ts ss) act
        (if nat_lt (parameters_of fn) (length temps) then Some
        (at csharp_parts (with_temporary F (parameters_of fn) v) (begin (keeps d (parameters_of fn)) ∷ rest)) else None)
        m (passing fn serial cont d.local o) m
    with_result d v cont rest h m None is = tt
    with_result d v cont rest h m (Some u) is =
        subst (λ (b : Bool). MatchIf (R setting ts ss made) (held setting ts ss) act
        (if b then Some (at csharp_parts (with_temporary F (parameters_of fn) v)
        (begin (keeps d (parameters_of fn)) ∷ rest)) else None) m
        (Some (clight.at fn serial (record { local = d.local; value = u } ∷ []) cont)) m)
        (sym (lt-ltb (parameters_of fn) (length temps) room))
        (has_result d v (subst (λ k. (parameters_of fn) < k) (sym (set_length temps (parameters_of fn) v)) room)
        (set_same temps (parameters_of fn) v room) is h)

    goes_back : (d : Destination) (cont : List ContItem) (rest : Rest) → MatchCont N fn cont rest →
        (m : Memory) (us : List Value) → MatchIf (R setting ts ss made) (held setting ts ss) act
        (language.resumed csharp_parts F (Some (parameters_of fn)) (begin (keeps d (parameters_of fn)) ∷ rest) us) m
        (clight.resumed fn serial cont (Some d) us) m
    goes_back d cont rest h m [] = tt
    goes_back d cont rest h m (v ∷ us) = with_result d v cont rest h m (clight.converted d.ty v) refl

    pub same_values : (us xs : List Value) → AllMatch (R setting ts ss made) us xs → us ≡ xs
    same_values [] [] h = refl
    same_values [] (x ∷ xs) h = absurd h
    same_values (u ∷ us) [] h = absurd h
    same_values (u ∷ us) (x ∷ xs) h = ap (λ v. v ∷ us) h.0 ∙ ap (λ vs. x ∷ vs) (same_values us xs h.1)

    self_values : (us : List Value) → AllMatch (R setting ts ss made) us us
    self_values [] = tt
    self_values (v ∷ us) = (refl, self_values us)

    -- both call
    call_amounts : (item : ℕ) (args : List TypedExprTree) →
        (kept : Option Destination) (next : List Value → Option CsharpState) (cont : List ContItem) →
        ((m : Memory) (us : List Value) → MatchIf (R setting ts ss made) (held setting ts ss) act (next us) m
        (clight.resumed fn serial cont kept us) m) → (credit : ℕ) (m : Memory) (o : Option Decl) →
        slice_get D item ≡ o →
        Does credit m (values csharp_parts F (made_exprs D args) (λ vs. Then (Calls (name_of o) vs next)))
        (asked D (and_then (values_of Context args) (λ vs. asks.gives (items.calls item vs kept cont))) Effects)
    call_amounts item args kept next cont conts credit m o is =
        subst (λ y. Does credit m (values csharp_parts F (made_exprs D args) (λ vs. Then (Calls (name_of o) vs next)))
        y) (sym (asked_then D (values_of Context args) (λ vs. asks.gives (items.calls item vs kept cont)) Effects))
        (all_valued args credit m _ (λ vs. Effects (items.calls item vs kept cont)) (λ us. by us o is))
      where
        by : (us : List (asks.Value Object)) (o : Option Decl) → slice_get D item ≡ o →
            Does credit m (Then (Calls (name_of o) (map encoded us) next)) (Effects (items.calls item us kept cont))
        by us None e =
            subst (λ (v : Option Decl). Does credit m (Then (Calls (name_of None) (map encoded us) next))
            (with_value v (λ (x : Decl). Then (Calls x.name (map encoded us) (clight.resumed fn serial cont kept)))))
            (sym e) fails_too
        by us (Some d) e =
            subst (λ (v : Option Decl). Does credit m (Then (Calls d.name (map encoded us) next))
            (with_value v (λ (x : Decl). Then (Calls x.name (map encoded us) (clight.resumed fn serial cont kept)))))
            (sym e)
            (at_last (calls_held (self_values (map encoded us)) refl (λ vs xs same count t' s' tk sk settled.
            subst (λ (m' : Memory). MatchIf (R setting ts ss made) (held setting ts ss) act (next vs) t'
            (clight.resumed fn serial cont kept xs) m') settled
            (subst (λ us'. MatchIf (R setting ts ss made) (held setting ts ss) act (next vs) t'
            (clight.resumed fn serial cont kept us') t') (same_values vs xs same) (conts t' vs)))))

    goes_on_alone : (cont : List ContItem) (rest : Rest) → MatchCont N fn cont rest → (m : Memory) (us : List Value) →
        MatchIf (R setting ts ss made) (held setting ts ss) act (language.resumed csharp_parts F None rest us) m
        (clight.resumed fn serial cont None us) m
    goes_on_alone cont rest h m us = runs room h

    -- returns, locks and prints

    return_amounts : (a : Option TypedExprTree) → (credit : ℕ) (m : Memory) →
        Does credit m (statement csharp_parts F (made_return D a) []) (asked D (items.returned Context a) Effects)
    return_amounts None credit m = at_last (returns_held tt refl)
    return_amounts (Some a) credit m = valued a credit m _ (λ v. asks.gives (items.returns (Some v))) Effects
        (λ u. at_last (returns_held (refl, tt) refl))

    lock_amounts : (item : ℕ) (cont : List ContItem) (rest : Rest) → MatchCont N fn cont rest →
        (credit : ℕ) (m : Memory) (o : Option Decl) → slice_get D item ≡ o →
        Does credit m (Then (Takes (name_of o) (at csharp_parts F rest))) (Effects (items.locks item cont))
    lock_amounts item cont rest h credit m None e = subst
        (λ (v : Option Decl). Does credit m (Then (Takes (name_of None) (at csharp_parts F rest)))
        (with_value v (λ (x : Decl). Then (Takes x.name (clight.at fn serial [] cont))))) (sym e) fails_too
    lock_amounts item cont rest h credit m (Some d) e =
        subst (λ (v : Option Decl). Does credit m (Then (Takes d.name (at csharp_parts F rest)))
        (with_value v (λ (x : Decl). Then (Takes x.name (clight.at fn serial [] cont))))) (sym e)
        (at_last (takes_held (runs room h)))

    unlock_amounts : (item : ℕ) (cont : List ContItem) (rest : Rest) → MatchCont N fn cont rest →
        (credit : ℕ) (m : Memory) (o : Option Decl) → slice_get D item ≡ o →
        Does credit m (Then (Gives (name_of o) (at csharp_parts F rest))) (Effects (items.unlocks item cont))
    unlock_amounts item cont rest h credit m None e = subst
        (λ (v : Option Decl). Does credit m (Then (Gives (name_of None) (at csharp_parts F rest)))
        (with_value v (λ (x : Decl). Then (Gives x.name (clight.at fn serial [] cont))))) (sym e) fails_too
    unlock_amounts item cont rest h credit m (Some d) e =
        subst (λ (v : Option Decl). Does credit m (Then (Gives d.name (at csharp_parts F rest)))
        (with_value v (λ (x : Decl). Then (Gives x.name (clight.at fn serial [] cont))))) (sym e)
        (at_last (gives_held (runs room h)))

    print_amounts : (a : TypedExprTree) → (cont : List ContItem) (rest : Rest) → MatchCont N fn cont rest →
        (credit : ℕ) (m : Memory) →
        Does credit m (value F (made_expr D a) (λ v. on_word v (λ i. Then (Puts i (at csharp_parts F rest)))))
        (asked D (and_then (value_of Context a) (λ v. and_then (asks.word_in v)
        (λ i. asks.gives (items.prints i cont)))) Effects)
    print_amounts a cont rest h credit m = valued a credit m _
        (λ v. and_then (asks.word_in v) (λ i. asks.gives (items.prints i cont))) Effects
        (λ u. word_amounts (R setting ts ss made) (held setting ts ss) (λ i. refl) act fn serial temps credit m u _
        (λ i. asks.gives (items.prints i cont)) Effects (λ i. at_last (puts_held (runs room h))))

    -- a price and a credit within what is paid
    paid : {bound : ℕ} {cont : List ContItem} {rest : Rest} (credit : ℕ) → price_at rest + credit ≤ bound →
        ((m : Memory) → Does credit m (continues csharp_parts F rest)
        (asked D (effect_of Context (result_of fn) cont) Effects)) → Paid bound cont rest
    paid credit le steps = record { credit = credit; pays = le; steps = steps }

    paid_more : (bound more : ℕ) (cont : List ContItem) (rest : Rest) → bound ≤ more → Paid bound cont rest →
        Paid more cont rest
    paid_more bound more cont rest le h = let old = h.pays in
        record { credit = h.credit; pays = omega (arith, le, old); steps = h.steps }

    -- a call
    call_paid : (p : Place) (kept : Option Destination) (item : ℕ) (at' : Place) (args : List TypedExprTree) →
        IsCheap N (made_call D 0 None item args) → (cont : List ContItem) (rest : Rest) → MatchCont N fn cont rest →
        Paid (14 + 130 * N) (items.begin (t.call p kept item at' args) ∷ cont)
        (begin (M (t.call p kept item at' args)) ∷ rest)
    call_paid p None item at' args cheap cont rest h =
        paid 0 (omega (arith, cheap)) (λ m. call_amounts item args None (language.resumed csharp_parts F None rest) cont
        (goes_on_alone cont rest h) 0 m (slice_get D item) refl)
    call_paid p (Some d) item at' args cheap cont rest h =
        paid (13 + 130 * N) (omega arith) (λ m.
        one_on (begin (st.call (Some (parameters_of fn)) (name_at D item) (made_exprs D args)) ∷ begin
        (keeps d (parameters_of fn)) ∷ rest) 0 (13 + 130 * N) (omega (arith, cheap))
        (call_amounts item args (Some d) (language.resumed csharp_parts F (Some (parameters_of fn))
        (begin (keeps d (parameters_of fn)) ∷ rest)) cont (goes_back d cont rest h) 0 m (slice_get D item) refl))

    -- a statement that leads nowhere else
    simple_paid : (a : TypedStmtTree) → IsSimple a → IsSmall N D a → (cont : List ContItem) (rest : Rest) →
        MatchCont N fn cont rest → Paid (14 + 130 * N) (items.begin a ∷ cont) (begin (M a) ∷ rest)
    simple_paid (t.skip p) s small cont rest h = paid 0 (omega arith) (λ m. goes_to cont rest h 0)
    simple_paid (t.assign p target a) s small cont rest h =
        paid 0 (omega (arith, small)) (assign_amounts p target a cont rest h 0)
    simple_paid (t.call p kept item at' args) s small cont rest h = call_paid p kept item at' args small cont rest h
    simple_paid (t.block p bs) s small cont rest h = absurd s
    simple_paid (t.if_ p c a b) s small cont rest h = absurd s
    simple_paid (t.while_ p c a) s small cont rest h = absurd s
    simple_paid (t.do_ p a c) s small cont rest h = absurd s
    simple_paid (t.for_ p i c u a) s small cont rest h = absurd s
    simple_paid (t.break_ p) s small cont rest h = absurd s
    simple_paid (t.continue_ p) s small cont rest h = absurd s
    simple_paid (t.return_ p a) s small cont rest h = absurd s
    simple_paid (t.lock p item) s small cont rest h = absurd s
    simple_paid (t.unlock p item) s small cont rest h = absurd s
    simple_paid (t.print p a) s small cont rest h = absurd s

    -- where a branch is missing
    branch : (cont : List ContItem) (rest : Rest) → MatchRest N fn cont rest → (b : TypedStmtOption) →
        IsPartSmall N D b → MatchCont N fn (begin_part b cont) (begin (P b) ∷ rest)
    branch cont rest h t.absent small = at_skip h
    branch cont rest h (t.present a) small = at_rest (begins small h)

    -- the first part of a for
    first_part : (p : Place) (i : TypedStmtOption) → IsStepSmall N D i →
        (c : Option TypedExprTree) (u : TypedStmtOption) (a : TypedStmtTree) → IsForSmall N D c u a →
        (cont : List ContItem) (rest : Rest) → MatchRest N fn cont rest →
        MatchCont N fn (begin_part i (items.loop p c u a ∷ cont)) (begin (P i) ∷ begin (block (L c u a)) ∷ rest)
    first_part p t.absent small c u a h cont rest b = at_no_first h b
    first_part p (t.present i) small c u a h cont rest b = at_first small.0 small.1 h b

    -- a statement's step
    statement_paid : (a : TypedStmtTree) → IsSmall N D a → (cont : List ContItem) (rest : Rest) →
        MatchRest N fn cont rest → Paid (21 + 130 * N) (items.begin a ∷ cont) (begin (M a) ∷ rest)
    statement_paid (t.skip p) small cont rest b = paid 0 (omega arith) (λ m. goes_to cont rest (at_rest b) 0)
    statement_paid (t.assign p target a) small cont rest b =
        paid_more (14 + 130 * N) (21 + 130 * N) _ _ (omega arith)
        (simple_paid (t.assign p target a) tt small cont rest (at_rest b))
    statement_paid (t.call p kept item at' args) small cont rest b =
        paid_more (14 + 130 * N) (21 + 130 * N) _ _ (omega arith)
        (call_paid p kept item at' args small cont rest (at_rest b))
    statement_paid (t.block p bs) small cont rest b = paid 0 (omega arith)
        (λ m. goes_to (items.begin_all bs cont) (begin_all (made_stmts D (parameters_of fn) bs no_more) rest)
        (at_rest (all_begin N fn bs small cont no_more rest b)) 0)
    statement_paid (t.if_ p c a o) small cont rest b = let cheap =
        small.0 in
        paid 0 (omega (arith, cheap))
        (λ m. chosen c 0 m (λ is. goes csharp_parts F (begin (either (M a) (P o) is) ∷ rest)) (items.begin a ∷ cont)
        (begin_part o cont) (turn m))
      where
        turn : (m : Memory) (is : Bool) → Does 0 m (goes csharp_parts F (begin (either (M a) (P o) is) ∷ rest))
            (Effects (items.continues (ev.either (items.begin a ∷ cont) (begin_part o cont) is)))
        turn m true = goes_to (items.begin a ∷ cont) (begin (M a) ∷ rest) (at_rest (begins small.1 b)) 0
        turn m false = goes_to (begin_part o cont) (begin (P o) ∷ rest) (branch cont rest b o small.2) 0
    statement_paid (t.while_ p c a) small cont rest b =
        paid (20 + 130 * N) (omega arith) (λ m. one_on (begin (W c a) ∷ end_block ∷ rest) (13 + 130 * N) (20 + 130 * N)
        (omega arith) (while_turn p c a cont rest small b (13 + 130 * N) m (omega arith)))
    statement_paid (t.do_ p a c) small cont rest b = paid 9 (omega arith)
        (λ m. do_begins p c a cont rest (small.1, small.0) b 9 m (omega arith))
    statement_paid (t.for_ p i c u a) small cont rest b =
        paid 0 (omega arith) (λ m. goes_to (begin_part i (items.loop p c u a ∷ cont))
        (begin (P i) ∷ begin (block (L c u a)) ∷ rest)
        (first_part p i small.0 c u a (small.1, small.2, small.3) cont rest b) 0)
    statement_paid (t.break_ p) small cont rest b = paid 0 (omega arith)
        (λ m. jumps_amounts 0 m (after_break cont) (after_exit 1 rest) (breaks N fn cont rest b))
    statement_paid (t.continue_ p) small cont rest b =
        paid 0 (omega arith) (λ m. jumps_amounts 0 m (after_continue cont) (after_exit 0 rest)
        (continued N fn cont rest b))
    statement_paid (t.return_ p a) small cont rest b = by a small
      where
        by : (a : Option TypedExprTree) → IsCheap N (made_return D a) →
            Paid (21 + 130 * N) (items.begin (t.return_ p a) ∷ cont) (begin (made_return D a) ∷ rest)
        by None cheap = paid 0 (omega arith) (return_amounts None 0)
        by (Some a) cheap = paid 0 (omega (arith, cheap)) (return_amounts (Some a) 0)
    statement_paid (t.lock p item) small cont rest b =
        paid 0 (omega arith) (λ m. lock_amounts item cont rest (at_rest b) 0 m (slice_get D item) refl)
    statement_paid (t.unlock p item) small cont rest b =
        paid 0 (omega arith) (λ m. unlock_amounts item cont rest (at_rest b) 0 m (slice_get D item) refl)
    statement_paid (t.print p a) small cont rest b = paid 0 (omega (arith, small))
        (print_amounts a cont rest (at_rest b) 0)

    -- what is done after a turn of a for
    next_paid : (p : Place) (u : TypedStmtOption) → IsStepSmall N D u → (cont : List ContItem) (rest : Rest) →
        MatchCont N fn cont rest → Paid (14 + 130 * N) (items.next p u ∷ cont) (begin (P u) ∷ rest)
    next_paid p t.absent small cont rest h = paid 0 (omega arith) (λ m. goes_to cont rest h 0)
    next_paid p (t.present a) small cont rest h = let there =
        simple_paid a small.1 small.0 cont rest h in record
        { credit = there.credit; pays = there.pays; steps = there.steps }

    -- the end of a function
    end_paid : (ret : Ty) → (m : Memory) → Does 0 m (continues csharp_parts F (begin_all (closing ret) []))
        (asked D (asks.gives (items.returns (items.fallen ret))) Effects)
    end_paid (Int k) m = at_last (returns_held (refl, tt) refl)
    end_paid (Ptr k) m = at_last (returns_held (refl, tt) refl)
    end_paid Void m = at_last (returns_held tt refl)
    end_paid (Array k n) m = at_last (returns_held tt refl)

    end_price : (ret : Ty) → price_at (begin_all (closing ret) []) + 0 ≤ 34
    end_price (Int k) = omega arith
    end_price (Ptr k) = omega arith
    end_price Void = omega arith
    end_price (Array k n) = omega arith

    -- after a statement
    rest_paid : (cont : List ContItem) (rest : Rest) → MatchRest N fn cont rest → Paid (34 + 130 * N) cont rest
    rest_paid cont rest at_end = let cheap = end_price (result_of fn) in
        paid 0 (omega (arith, cheap)) (end_paid (result_of fn))
    rest_paid cont rest (begins {a = a} {cont = cont'} {rest = rest'} small b) =
        paid_more (21 + 130 * N) (34 + 130 * N) _ _ (omega arith) (statement_paid a small cont' rest' b)
    rest_paid cont rest (in_while {p = p} {c = c} {a = a} {cont = cont'} {rest = rest'} h b) =
        paid (20 + 130 * N) (omega arith) (λ m. one_on (begin (W c a) ∷ end_block ∷ rest') (13 + 130 * N) (20 + 130 * N)
        (omega arith) (while_turn p c a cont' rest' h b (13 + 130 * N) m (omega arith)))
    rest_paid cont rest (in_do {p = p} {c = c} {a = a} {cont = cont'} {rest = rest'} h b) = let cheap =
        h.0 in paid (20 + 130 * N) (omega arith)
        (λ m. one_on (begin (tests D (Some c)) ∷ begin (O c a) ∷ end_block ∷ rest') 10 (20 + 130 * N)
        (omega (arith, cheap)) (do_turn p c a cont' rest' h b 10 m (omega arith)))
    rest_paid cont rest (in_for {p = p} {c = c} {u = u} {a = a} {cont = cont'} {rest = rest'} h b) = let there =
        next_paid p u h.1 (items.loop p c u a ∷ cont') (begin (L c u a) ∷ end_block ∷ rest') (at_loop h b) in
        paid (14 + 130 * N) (omega arith) (λ m. one_on (begin (P u) ∷ begin (L c u a) ∷ end_block ∷ rest') there.credit
        (14 + 130 * N) there.pays (there.steps m))

    -- where both begin a step
    pub cont_paid : (cont : List ContItem) (rest : Rest) → MatchCont N fn cont rest → Paid (40 + 130 * N) cont rest
    cont_paid cont rest (at_rest b) = paid_more (34 + 130 * N) (40 + 130 * N) _ _ (omega arith) (rest_paid cont rest b)
    cont_paid cont rest (at_skip {rest = rest'} b) = let there =
        rest_paid cont rest' b in paid (34 + 130 * N) (omega arith)
        (λ m. one_on rest' there.credit (34 + 130 * N) there.pays (there.steps m))
    cont_paid cont rest (at_while {p = p} {c = c} {a = a} {cont = cont'} {rest = rest'} h b) =
        paid (13 + 130 * N) (omega arith) (λ m. while_turn p c a cont' rest' h b (13 + 130 * N) m (omega arith))
    cont_paid cont rest (at_do {p = p} {c = c} {a = a} {cont = cont'} {rest = rest'} h b) = let cheap =
        h.0 in paid 10 (omega (arith, cheap)) (λ m. do_turn p c a cont' rest' h b 10 m (omega arith))
    cont_paid cont rest (at_next {p = p} {c = c} {u = u} {a = a} {cont = cont'} {rest = rest'} h b) =
        paid_more (14 + 130 * N) (40 + 130 * N) _ _ (omega arith)
        (next_paid p u h.1 (items.loop p c u a ∷ cont') (begin (L c u a) ∷ end_block ∷ rest') (at_loop h b))
    cont_paid cont rest (at_loop {p = p} {c = c} {u = u} {a = a} {cont = cont'} {rest = rest'} h b) =
        paid (13 + 130 * N) (omega arith) (λ m. for_turn p c u a cont' rest' h b (13 + 130 * N) m (omega arith))
    cont_paid cont rest (at_for {p = p} {c = c} {u = u} {a = a} {cont = cont'} {rest = rest'} h b) =
        paid (20 + 130 * N) (omega arith) (λ m. one_on (begin (L c u a) ∷ end_block ∷ rest') (13 + 130 * N)
        (20 + 130 * N) (omega arith) (for_turn p c u a cont' rest' h b (13 + 130 * N) m (omega arith)))
    cont_paid cont rest (at_no_first {p = p} {c = c} {u = u} {a = a} {cont = cont'} {rest = rest'} h b) =
        paid (21 + 130 * N) (omega arith) (λ m. one_on (begin (block (L c u a)) ∷ rest') (20 + 130 * N) (21 + 130 * N)
        (omega arith) (one_on (begin (L c u a) ∷ end_block ∷ rest') (13 + 130 * N) (20 + 130 * N) (omega arith)
        (for_turn p c u a cont' rest' h b (13 + 130 * N) m (omega arith))))
    cont_paid cont rest (at_first {i = i} {p = p} {c = c} {u = u} {a = a} {cont = cont'} {rest = rest'} small simple h
        b) = paid_more (14 + 130 * N) (40 + 130 * N) _ _ (omega arith)
        (simple_paid i simple small (items.loop p c u a ∷ cont') (begin (block (L c u a)) ∷ rest') (at_for h b))
