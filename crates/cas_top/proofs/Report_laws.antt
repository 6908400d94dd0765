-- A module of the first form has one report: that of the machine on its code, and of an interleaving that ends.
use Rattle.std.proofs.Common.{◌≡◌, ◌↔◌, ℕ, ◌+◌, zero, suc, true, false, List, [], ◌∷◌, ◌++◌, length, Option, Some, None, slice_get, refl, sym, ap, subst, ◌∙◌, arith}
use Rattle.std.proofs.lemmas.List.Elements.{All-from_recursion}
use Rattle.cas_base.specs.Word.{narrowed}
use Rattle.cas_base.specs.declared.act.Act.TheVariants as act
use Rattle.cas_base.specs.declared.kind.Kind.TheVariants.{I32}
use Rattle.cas_base.specs.declared.place.Place.{Place}
use Rattle.cas_own.specs.Checked.{IsChecked}
use Rattle.cas_program.specs.Program.{env_of}
use Rattle.cas_step.specs.Answered.{answered}
use Rattle.cas_step.specs.Asks.{Value, word, Asks, gives, and_then, word_in}
use Rattle.cas_step.specs.Env.{Env}
use Rattle.cas_step.specs.Evaluate.{EvalContext, value_of}
use Rattle.cas_step.specs.Continuation.{ContItem, begin, begin_all, prints}
use Rattle.cas_step.specs.Step.{Object, Activation, Config, Step, StepContext, entity_in, eval_context_of, cells_at, memory_without, thread_with, step_to, goes_step, step_with_effect, locals_of}
use Rattle.cas_syntax.specs.Tree.{ExprTree, StmtList, no_more, one_more, print, FunTree, ItemTree, define, ModuleTree, module_tree}
use Rattle.cas_syntax.specs.declared.tree.Module.{Module}
use Rattle.cas_typed.specs.Formed.{IsFormed}
use Rattle.cas_typed.specs.Modules.{IsTyped, AreItems, return_type, scope_in}
use Rattle.cas_typed.specs.Resolved as t
use Rattle.cas_typed.specs.Resolved.{TypedExprTree, TypedStmtList, TypedModuleTree}
use Rattle.cas_typed.specs.Typed_as.{IsTypedAs}
use Rattle.cas_typed.specs.Typing.{AreStmts}
use Rattle.cas_typed.specs.declared.typed.Typed.{Typed}
use Rattle.cas_world.specs.Races.{RacesAbsent, program_world}
use Rattle.cas_world.specs.World.{World, MayStep, world_after, Interleaves, at_first, and_step, first_world, HasEnded}
use Rattle.cas_top.specs.First_form.{prints_sum, is_entry_named, is_first_form_of, is_first_form}
use Rattle.cas_top.specs.Machine.{State, Report, RunsTo, executed, Runs, stays, steps, start, IsExprCode, IsBodyCode, IsItemsCode}
use Rattle.cas_top.specs.Plan.{IsDone, IsFinished}
use Rattle.cas_top.specs.Printed.{report_lines}
use Rattle.cas_top.specs.View.{IsRun}
use Rattle.cas_top.specs.declared.machine.End.TheVariants.{Done}
use Rattle.cas_top.specs.declared.machine.Instr.{Instr}
use Rattle.cas_top.specs.declared.machine.Instr.TheVariants.{OutEax, Ret}
use Rattle.cas_top.proofs.Both.{left_part}
use Rattle.cas_top.proofs.One_function.{entry, one_program, one_world, one_body}
use Rattle.cas_top.proofs.Run_laws.{report_of, one_end}
use Rattle.cas_top.proofs.Sum_laws.{slice_get-append_seam, behind, typed_sum, evaluated}
use Rattle.cas_top.proofs.Sum_typing.{typed_body, body_resolved, one_function}

-- the machine

-- the second element behind a list
slice_get-append_second : {A : Type 0} (xs : List A) (x y : A) (ys : List A) →
    slice_get (xs ++ x ∷ y ∷ ys) (length xs + 1) ≡ Some y
slice_get-append_second [] x y ys = refl
slice_get-append_second (z ∷ xs) x y ys =
    let next : length (z ∷ xs) + 1 ≡ suc (length xs + 1) = omega arith in
    rw next (slice_get-append_second xs x y ys)

-- the code of a sum, with the word output and the return behind it
abbrev body_of : List Instr → List Instr
body_of sum = sum ++ OutEax ∷ Ret ∷ []

-- thread 0 has put this word out and ended
abbrev finished : List Instr → ℕ → State
finished sum n = record { thread = 0; place = length sum + 1; eax = n; end = Some Done; out = (0, n) ∷ [] }

-- the machine goes from the word in the register to the end
ends_behind : (sum : List Instr) (n : ℕ) → Runs (body_of sum) (behind sum n) (finished sum n)
ends_behind sum n =
    let code : List Instr = body_of sum in
    let put_out : State = record { thread = 0; place = length sum + 1; eax = n; end = None; out = (0, n) ∷ [] } in
    let at_out : executed (slice_get code (length sum)) (behind sum n) ≡ put_out =
    rw (slice_get-append_seam sum OutEax (Ret ∷ [])) refl in
    let at_return : executed (slice_get code (length sum + 1)) put_out ≡ finished sum n =
    rw (slice_get-append_second sum OutEax Ret []) refl in
    let P : State → Type 0 = λ s. Runs code s (finished sum n) in
    steps (behind sum n) _ refl
    (subst P (sym at_out) (steps put_out _ refl (subst P (sym at_return) (stays (finished sum n)))))

-- the program

-- in a world of one thread that has ended, exactly that thread is done
abbrev OneHasEnded : World → Type 0
OneHasEnded world = (i : ℕ) → HasEnded world i ↔ IsDone (Done ∷ []) i

one_has_ended : (c : Config) (world : World) → world.threads ≡ c ∷ [] → c.activations ≡ [] → OneHasEnded world
one_has_ended c world one over zero = (λ ended. refl, λ done. (c, ap (λ threads. slice_get threads 0) one, over))
one_has_ended c world one over (suc i) =
    (λ ended. absurd (cc (sym (ap (λ threads. slice_get threads (suc i)) one) ∙ ended.1)), λ done. absurd (cc done))

-- a call of the entry that has this left to do
abbrev call_with : List ContItem → Activation
call_with cont = record { serial = 0; function = entry; target = None; cont = cont }

-- a thread in it with these locals, and a world of this thread alone
module _ (locals : List (List (Value Object))) where
  abbrev thread_at : List ContItem → Config
  thread_at cont =
      record { activations = call_with cont ∷ []; memory = record { serial = 0; locals = locals } ∷ []; fresh = 1 }

  abbrev here_at : List ContItem → StepContext
  here_at cont = record { config = thread_at cont; newest = call_with cont; older = []; words = [] }

  abbrev world_at : List ContItem → World
  world_at cont = record { threads = thread_at cont ∷ []; words = []; holders = []; out = [] }

-- what a world comes to where one thread prints this word and ends
abbrev Prints : Env → World → ℕ → Type 0
Prints e first n = (threads : List ℕ) × (world : World) × Interleaves e first threads world × OneHasEnded world
    × (world.out ≡ (0, n) ∷ [])

-- the step that prints what was asked
abbrev print_step : Env → StepContext → Asks Object (Value Object) → Option Step
print_step e h x =
    step_with_effect e h (answered (entity_in e h) (slice_get h.words) (cells_at h.config.memory)
    (and_then (and_then x (λ u. and_then (word_in u) (λ m. gives (word (narrowed m I32)))))
    (λ v. and_then (word_in v) (λ m. gives (prints m [])))))

-- the thread prints the value of the expression, and ends
print_and_end : (e : Env) (locals : List (List (Value Object))) (p : Place) (x : TypedExprTree) (n : ℕ) →
    ((s : EvalContext Object) → value_of s x ≡ gives (word n)) →
    Prints e (world_at locals (begin (t.print p (t.narrow I32 x)) ∷ [])) n
print_and_end e locals p x n value =
    let cont : List ContItem = begin (t.print p (t.narrow I32 x)) ∷ [] in
    let first : World = world_at locals cont in
    let here : StepContext = here_at locals cont in
    let printing : Step = goes_step e here [] (act.Out n) [] in
    let may_print : MayStep e first 0 printing = record {
      next = record {
        config = thread_at locals cont;
        stands = refl;
        steps = ap (print_step e here)
            (value (eval_context_of e here));
      };
      enabled = tt;
    } in
    let second : World = world_after first 0 printing in
    let left : StepContext = here_at locals [] in
    let over : Config = thread_with left [] (memory_without left.config.memory 0) in
    let returning : Step = step_to e left [] act.Done over in
    let may_return : MayStep e second 0 returning = record
    { next = record { config = thread_at locals []; stands = refl; steps = refl }; enabled = tt } in
    let last : World = world_after second 0 returning in
    (_, last, and_step (and_step at_first 0 _ may_print) 0 _ may_return, one_has_ended over last refl refl, refl)

-- .. from the first world, where this is the body of the entry
from_first : (e : Env) (p : Place) (a : ExprTree) (n : ℕ) → (e.function entry).body ≡ typed_body p a →
    ((s : EvalContext Object) → value_of s (typed_sum a) ≡ gives (word n)) →
    Prints e (first_world e (entry ∷ []) []) n
from_first e p a n body value =
    let locals : List (List (Value Object)) = locals_of (e.function entry).locals (word 0 ∷ []) in
    let P : TypedStmtList → Type 0 = λ b. Prints e (world_at locals (begin_all b [])) n in
    subst P (sym body) (print_and_end e locals p (typed_sum a) n value)

-- both

-- a module whose one item is a function that a thread of this name may enter, and that prints one sum
pub record IsOne (name : List ℕ) (r : TypedModuleTree) (f : FunTree) (p : Place) (a : ExprTree) : Type 0 where
  pub items : r.module_tree.items ≡ define f ∷ []
  pub named : is_entry_named name f ≡ true
  pub body : f.body ≡ one_more (print p a) no_more
  pub formed : IsFormed r.module_tree
  pub typed : IsTyped r.module_tree r

-- its program prints the value of the sum
program_prints : (name : List ℕ) (r : TypedModuleTree) (f : FunTree) (p : Place) (a : ExprTree) (code : List Instr)
    (n : ℕ) → IsOne name r f p a → IsExprCode a code →
    ((s : EvalContext Object) → value_of s (typed_sum a) ≡ gives (word n)) →
    Prints (env_of (r ∷ [])) (program_world (r ∷ []) (name ∷ [])) n
program_prints name r f p a code n one is_code value =
    let P : List ItemTree → Type 0 = λ items. AreItems [] items r.functions in
    let (it, good, functions) = one_function (subst P one.items one.typed.functions) in
    let Q : StmtList → Type 0 = λ b. AreStmts (return_type f.decl.form) false (scope_in [] f) b it.body in
    let resolved : it.body ≡ typed_body p a = body_resolved p is_code (subst Q one.body good.body) in
    let body = one_body name r f one.items one.named one.formed it functions good.item ∙ resolved in
    let F : World → Type 0 = λ w. Prints (env_of (r ∷ [])) w n in
    subst F (sym (one_world name r f one.items one.named one.formed)) (from_first (env_of (r ∷ [])) p a n body value)

-- a run of the code ends, and its report is that of a finished run of the module
abbrev HasReport : TypedModuleTree → (name : List ℕ) → List Instr → Type 0
HasReport r name code = (s : State) × Runs code (start 0) s × (s.end ≡ Some Done) × IsFinished r name (report_of s Done)

one_has_report : (name : List ℕ) (r : TypedModuleTree) (f : FunTree) (p : Place) (a : ExprTree) (code sum : List Instr)
    → RacesAbsent → IsChecked r → IsOne name r f p a →
    IsItemsCode r.module_tree.items code → IsExprCode a sum → code ≡ body_of sum → HasReport r name code
one_has_report name r f p a code sum absent checked one generated is_code whole =
    let (n, value, leaves) = evaluated is_code in
    let run : Runs (body_of sum) (start 0) (finished sum n) =
    leaves (OutEax ∷ Ret ∷ []) (finished sum n) (ends_behind sum n) in
    let P : List Instr → Type 0 = λ c. Runs c (start 0) (finished sum n) in
    let ran : P code = subst P (sym whole) run in
    let program = one_program name r f one.items one.named one.formed one.typed in
    let (threads, world, interleaving, ended, source) = program_prints name r f p a sum n one is_code value in (
      finished sum n,
      ran,
      refl,
      record {
        code = code;
        generated = generated;
        machine = (finished sum n, ran, Done, refl, refl);
        done = (refl, tt);
        program = program;
        race_free = absent (r ∷ []) (name ∷ []) program (All-from_recursion IsChecked (r ∷ []) (checked, tt));
        threads = threads;
        world = world;
        interleaving = interleaving;
        ended = ended;
        source = source;
      },
    )

-- a module of the first form is one, and this is its code
record Parts (name : List ℕ) (items : List ItemTree) (code : List Instr) : Type 0 where
  f : FunTree
  p : Place
  a : ExprTree
  sum : List Instr
  one : items ≡ define f ∷ []
  named : is_entry_named name f ≡ true
  body : f.body ≡ one_more (print p a) no_more
  is_code : IsExprCode a sum
  whole : code ≡ body_of sum

parts_of_body : (name : List ℕ) (f : FunTree) (body : StmtList) (code : List Instr) → is_entry_named name f ≡ true →
    f.body ≡ body → IsBodyCode body code → Parts name (define f ∷ []) code
parts_of_body name f (one_more (print at e) no_more) code named same (sum, is_code, whole) = record {
  f = f;
  p = at;
  a = e;
  sum = sum;
  one = refl;
  named = named;
  body = same;
  is_code = is_code;
  whole = whole;
}
parts_of_body name f _ code named same is_code = absurd is_code

parts_of : (name : List ℕ) (items : List ItemTree) (code : List Instr) → is_first_form_of name items ≡ true →
    IsItemsCode items code → Parts name items code
parts_of name (define f ∷ []) code form is_code = parts_of_body name f f.body code
    (left_part (is_entry_named name f) (prints_sum f.body) form) refl is_code
parts_of name _ code form is_code = absurd is_code

-- a run of a module's code to an end leaves the report of a finished run of the module
pub runs_to_finished : (name : List ℕ) (r : TypedModuleTree) {code ran : List Instr} {report : Report} → RacesAbsent →
    IsFormed r.module_tree → IsTyped r.module_tree r → IsChecked r →
    is_first_form name r.module_tree ≡ true → IsItemsCode r.module_tree.items code → ran ≡ code → RunsTo ran report →
    IsFinished r name report
runs_to_finished name r {code} absent formed typed checked form generated same_code (s, run, e, ends, is) =
    let parts = parts_of name r.module_tree.items code form generated in
    let one : IsOne name r parts.f parts.p parts.a = record
    { items = parts.one; named = parts.named; body = parts.body; formed = formed; typed = typed } in
    let (t, t_run, done, finished) = one_has_report name r parts.f parts.p parts.a code parts.sum absent checked one
    generated parts.is_code parts.whole in
    let P : List Instr → Type 0 = λ c. Runs c (start 0) s in
    let same : t ≡ s = one_end t_run (subst P same_code run) done ends in
    let is_done : Done ≡ e = cc (ap (λ (u : State). u.end) same) in
    let Q : Report → Type 0 = λ x. IsFinished r name x in
    subst Q (ap (λ (u : State). report_of u Done) same ∙ ap (report_of s) is_done ∙ sym is) finished

-- .. and its lines are those of a run of the module
pub run_of : (name : List ℕ) (typed : Typed) (m : Module) (r : TypedModuleTree) (code ran : List Instr)
    (report : Report) (lines : List (List ℕ)) → RacesAbsent → m ≡ typed.filled → IsTypedAs typed r →
    IsChecked r → is_first_form name (module_tree m) ≡ true → IsItemsCode (module_tree m).items code → ran ≡ code →
    RunsTo ran report → lines ≡ report_lines report → IsRun r name lines
run_of name typed m r code ran report lines absent filled stands checked form generated same_code run printed =
    let same : module_tree m ≡ r.module_tree = ap module_tree filled ∙ sym stands.module_tree in
    let P : ModuleTree → Type 0 = λ x. is_first_form name x ≡ true in
    let Q : ModuleTree → Type 0 = λ x. IsItemsCode x.items code in
    let formed = subst IsFormed (sym stands.module_tree) stands.formed in
    let here = subst P same form in (
      here,
      report,
      runs_to_finished name r absent formed stands.typed checked here (subst Q same generated)
          same_code run,
      printed,
    )
