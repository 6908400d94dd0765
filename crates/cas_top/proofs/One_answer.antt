-- On given texts a command prints one list of lines, or is refused with one line.
use Rattle.std.proofs.Common.{◌≡◌, ℕ, List, [], ◌∷◌, ◌++◌, Some, refl, sym, ap, subst, ◌∙◌, inl, inr}
use Rattle.std.specs.List.{concat}
use Rattle.std.specs.Prelude.{⊤}
use Rattle.cas_command.specs.Words.{Command, Run, World, run, check, world, wanted_texts}
use Rattle.cas_own.specs.Checked.{OwnFaultTree, own_fault}
use Rattle.cas_parse.proofs.Texts.{one_module, one_read_fault, no_module_and_fault}
use Rattle.cas_program.specs.Program.{env_of, units_of}
use Rattle.cas_settle.specs.Settle.{first_refusal}
use Rattle.cas_settle.specs.declared.link.LinkFault.{LinkFault}
use Rattle.cas_syntax.specs.Tree.{ExprTree, literal, binary, StmtList, no_more, one_more, print, ItemTree, define, ModuleTree}
use Rattle.cas_typed.proofs.Modules.{one_first_fault}
use Rattle.cas_typed.specs.Resolved.{TypedModuleTree}
use Rattle.cas_typed.specs.Walk.{HasTypeFault}
use Rattle.cas_world.specs.Races.{program_world}
use Rattle.cas_top.specs.Exclusion.{CausesExclude}
use Rattle.cas_top.specs.Machine.{State, Report, RunsTo, IsExprCode, loads, adds, IsBodyCode, IsItemsCode}
use Rattle.cas_top.specs.Plan.{prints, refuses, Plans, PrintsLines, RefusesText, RefusesFirst, misread, untyped, unowned, RefusesRun, faulty, formless}
use Rattle.cas_top.specs.Printed.{report_lines, fault_line, type_fault_line, own_fault_line}
use Rattle.cas_top.specs.Worlds.{link_fault_line, turned, world_lines, PrintsWorld, RefusesProgram}
use Rattle.cas_top.specs.declared.machine.End.{End}
use Rattle.cas_top.specs.declared.machine.Instr.{Instr}
use Rattle.cas_top.specs.declared.machine.Instr.TheVariants.{MovEax, AddEax, OutEax, Ret}
use Rattle.cas_top.proofs.Excluding.{one_list, one_long, read_and_long, one_resolved, typed_and_faulty, one_checked, checked_and_refused, modules_checked, one_modules, checked_and_first, one_plan}
use Rattle.cas_top.proofs.Run_laws.{report_of, one_end}

-- what is printed

-- the code of a sum
abbrev HasCode : ExprTree → List Instr → Type 0
HasCode (literal n k) code = code ≡ MovEax n ∷ []
HasCode (binary op a (literal n k)) code = (sum : List Instr) × IsExprCode a sum × (code ≡ sum ++ AddEax n ∷ [])
HasCode a code = ⊤

has_code : {a : ExprTree} {code : List Instr} → IsExprCode a code → HasCode a code
has_code (loads n) = refl
has_code (adds a sum n is_code) = (sum, is_code, refl)

one_sum : {a : ExprTree} {code other : List Instr} → IsExprCode a code → IsExprCode a other → code ≡ other
one_sum (loads n) k = sym (has_code k)
one_sum (adds a sum n is_code) k =
    let (others, is_other, whole) = has_code k in ap (λ c. c ++ AddEax n ∷ []) (one_sum is_code is_other) ∙ sym whole

one_body : (body : StmtList) (code other : List Instr) → IsBodyCode body code → IsBodyCode body other → code ≡ other
one_body (one_more (print p a) no_more) code other (sum, is_code, whole) (others, is_other, all) =
    whole ∙ ap (λ c. c ++ OutEax ∷ Ret ∷ []) (one_sum is_code is_other) ∙ sym all
one_body _ code other h k = absurd h

-- a module has one code
one_code : (items : List ItemTree) (code other : List Instr) → IsItemsCode items code → IsItemsCode items other →
    code ≡ other
one_code (define f ∷ []) code other h k = one_body f.body code other h k
one_code _ code other h k = absurd h

same_end : (d e : End) → Some d ≡ Some e → d ≡ e
same_end d e h = cc

-- which runs to one report
one_report : (code : List Instr) (x y : Report) → RunsTo code x → RunsTo code y → x ≡ y
one_report code x y (s, left, d, ends, is) (t, right, e, over, are) =
    let same : s ≡ t = one_end left right ends over in
    let end : d ≡ e = same_end d e (sym ends ∙ ap (λ (u : State). u.end) same ∙ over) in
    is ∙ ap (λ (u : State). report_of u d) same ∙ ap (report_of t) end ∙ sym are

one_run : (text thread : List ℕ) (xs ys : List (List ℕ)) → PrintsLines text thread xs → PrintsLines text thread ys →
    xs ≡ ys
one_run text thread xs ys (m, form, report, finished, whole) (n, formed, other, over, all) =
    let same : m ≡ n = one_checked text m n form.is_module formed.is_module in
    let P : TypedModuleTree → Type 0 = λ r. IsItemsCode r.module_tree.items finished.code in
    let code : finished.code ≡ over.code = one_code n.module_tree.items finished.code over.code
    (subst P same finished.generated) over.generated in
    let Q : List Instr → Type 0 = λ c. RunsTo c report in
    whole ∙ ap report_lines (one_report over.code report other (subst Q code finished.machine) over.machine) ∙ sym all

one_world : (w : World) (texts xs ys : List (List ℕ)) → PrintsWorld w texts xs → PrintsWorld w texts ys → xs ≡ ys
one_world w texts xs ys p q =
    p.whole ∙ ap (λ ms. world_lines w.names ms (turned (env_of ms) w.turns (program_world ms w.threads)))
    (one_modules texts p.modules q.modules p.read q.read) ∙ sym q.whole

-- on the same texts a command prints the same lines, with one status
one_printing : (c : Command) (texts : List (List ℕ)) (s t : ℕ) (xs ys : List (List ℕ)) → Plans c texts (prints s xs) →
    Plans c texts (prints t ys) → (s ≡ t) × (xs ≡ ys)
one_printing (run r) [] s t xs ys h k = absurd h
one_printing (run r) (a ∷ []) s t xs ys h k = absurd h
one_printing (run r) (a ∷ b ∷ []) s t xs ys h k = (h.0 ∙ sym k.0, one_run a r.thread xs ys h.1 k.1)
one_printing (run r) (a ∷ b ∷ d ∷ rest) s t xs ys h k = absurd h
one_printing (check names) texts s t xs ys h k = (h.0 ∙ sym k.0, h.2 ∙ sym k.2)
one_printing (world w) texts s t xs ys h k = (h.0 ∙ sym k.0, one_world w texts xs ys h.1 k.1)

-- what is refused

same_fault : (f g : OwnFaultTree) → Some f ≡ Some g → f ≡ g
same_fault f g h = cc

one_refused : (name text line other : List ℕ) → RefusesText name text line → RefusesText name text other → line ≡ other
one_refused name text line other (misread c p h) (misread d q k) =
    let same = one_read_fault text c d p q h k in λ i. fault_line name (same.0 i) (same.1 i)
one_refused name text line other (misread c p h) (untyped m f read k) = absurd (no_module_and_fault text m c p read h)
one_refused name text line other (misread c p h) (unowned m r f read typed k) =
    absurd (no_module_and_fault text m c p read h)
one_refused name text line other (untyped m f read h) (misread d q k) = absurd (no_module_and_fault text m d q read k)
one_refused name text line other (untyped m f read h) (untyped n g reads k) =
    let P : ModuleTree → Type 0 = λ x. HasTypeFault x f in
    ap (type_fault_line name) (one_first_fault n f g (subst P (one_module text m n read reads) h) k)
one_refused name text line other (untyped m f read h) (unowned n r g reads typed k) =
    absurd (typed_and_faulty n m r f (one_module text n m reads read) typed h)
one_refused name text line other (unowned m r f read typed h) (misread d q k) =
    absurd (no_module_and_fault text m d q read k)
one_refused name text line other (unowned m r f read typed h) (untyped n g reads k) =
    absurd (typed_and_faulty m n r g (one_module text m n read reads) typed k)
one_refused name text line other (unowned m r f read typed h) (unowned n s g reads types k) =
    let same = one_resolved m n r s (one_module text m n read reads) typed types in
    ap (own_fault_line name) (same_fault f g (sym h ∙ ap own_fault same ∙ k))

one_refused_run : (r : Run) (text line other : List ℕ) → RefusesRun r text line → RefusesRun r text other → line ≡ other
one_refused_run r text line other (faulty a h) (faulty b k) = one_refused r.source text a b h k
one_refused_run r text line other (faulty a h) (formless m checked none) =
    absurd (checked_and_refused r.source text a (m, checked) h)
one_refused_run r text line other (formless m checked none) (faulty b k) =
    absurd (checked_and_refused r.source text b (m, checked) k)
one_refused_run r text line other (formless m checked none) (formless n is others) = refl

one_first : (names texts : List (List ℕ)) (line other : List ℕ) → RefusesFirst names texts line →
    RefusesFirst names texts other → line ≡ other
one_first [] texts line other h k = absurd h
one_first (n ∷ ns) [] line other h k = absurd h
one_first (n ∷ ns) (t ∷ ts) line other (inl h) (inl k) = one_refused n t line other h k
one_first (n ∷ ns) (t ∷ ts) line other (inl h) (inr k) = absurd (checked_and_refused n t line k.0 h)
one_first (n ∷ ns) (t ∷ ts) line other (inr h) (inl k) = absurd (checked_and_refused n t other h.0 k)
one_first (n ∷ ns) (t ∷ ts) line other (inr h) (inr k) = one_first ns ts line other h.1 k.1

same_link : (f g : LinkFault) → Some f ≡ Some g → f ≡ g
same_link f g h = cc

same_line : (line other : List ℕ) → Some line ≡ Some other → line ≡ other
same_line line other h = cc

one_unlinked : (w : World) (texts : List (List ℕ)) (line other : List ℕ) → RefusesProgram w texts line →
    RefusesProgram w texts other → line ≡ other
one_unlinked w texts line other h k =
    let same = one_modules texts h.modules k.modules h.read k.read in
    let fault = same_link h.fault k.fault (sym h.refused ∙ ap (λ ms. first_refusal (units_of ms) w.threads) same
    ∙ k.refused) in
    same_line line other (sym h.told ∙ ap link_fault_line fault ∙ k.told)

-- on the same texts a command is refused with one line and status
one_refusal : (c : Command) (texts : List (List ℕ)) (s t : ℕ) (line other : List ℕ) → Plans c texts (refuses s line) →
    Plans c texts (refuses t other) → (s ≡ t) × (line ≡ other)
one_refusal (run r) [] s t line other h k = absurd h
one_refusal (run r) (a ∷ []) s t line other h k = absurd h
one_refusal (run r) (a ∷ b ∷ []) s t line other h k = (h.0 ∙ sym k.0, one_refused_run r a line other h.1 k.1)
one_refusal (run r) (a ∷ b ∷ d ∷ rest) s t line other h k = absurd h
one_refusal (check names) texts s t line other h k = (h.0 ∙ sym k.0, one_first names texts line other h.1 k.1)
one_refusal (world w) texts s t line other (inl h) (inl k) = (h.0 ∙ sym k.0, one_first w.names texts line other h.1 k.1)
one_refusal (world w) texts s t line other (inl h) (inr k) =
    absurd (checked_and_first w.names texts line (modules_checked texts k.1.modules k.1.read) h.1)
one_refusal (world w) texts s t line other (inr h) (inl k) =
    absurd (checked_and_first w.names texts other (modules_checked texts h.1.modules h.1.read) k.1)
one_refusal (world w) texts s t line other (inr h) (inr k) = (h.0 ∙ sym k.0, one_unlinked w texts line other h.1 k.1)

pub causes_exclude : CausesExclude
causes_exclude held c = record {
  refused = λ s t text line p r.
      let P : List (List ℕ) → Type 0 = λ ts. Plans c ts (refuses t line) in
      one_plan c p.texts p.lines s t line p.plan (subst P (one_list held (wanted_texts c) r.texts p.texts r.read p.read)
      r.plan);
  printed_once = λ s t text other p r.
      let P : List (List ℕ) → Type 0 = λ ts. Plans c ts (prints t r.lines) in
      let same = one_printing c p.texts s t p.lines r.lines p.plan
      (subst P (one_list held (wanted_texts c) r.texts p.texts r.read p.read) r.plan) in
      (same.0, p.whole ∙ ap concat same.1 ∙ sym r.whole);
  refused_once = λ s t line other p r.
      let P : List (List ℕ) → Type 0 = λ ts. Plans c ts (refuses t other) in
      one_refusal c p.texts s t line other p.plan
      (subst P (one_list held (wanted_texts c) r.texts p.texts r.read p.read) r.plan);
  printed_long = λ s text name p l. read_and_long held (wanted_texts c) p.texts name p.read l;
  refused_long = λ s line name r l. read_and_long held (wanted_texts c) r.texts name r.read l;
  long_once = λ name other l k. one_long held (wanted_texts c) name other l k;
}
