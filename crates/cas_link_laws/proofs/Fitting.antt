-- Objects that aren't refused fit together.
use Rattle.std.proofs.Common.{◌≡◌, ℕ, zero, suc, ◌+◌, ◌-◌, ◌^◌, ◌≤◌, min, Bool, true, false, cond, IsTrue, ltb, List, [], ◌∷◌, Option, Some, None, ap, refl, sym, ◌∙◌}
use Rattle.std.specs.List.{slice_get}
use Rattle.std.specs.Option.{IfSome, option_or}
use Rattle.std.proofs.lemmas.Bool.{ltb-false}
use Rattle.cas_base.specs.Decl.{definitions, references}
use Rattle.cas_settle.specs.declared.link.Count.TheVariants.{Code}
use Rattle.cas_settle.specs.declared.link.LinkFault.TheVariants.{NotDefined, Limit}
use Rattle.cas_settle.specs.Settle.{all_decls, twice_fault, references_fault, entries_fault, limits_fault, limit_fault}
use Rattle.cas_settle.proofs.OptionLemmas.{both-none, none-both, cond-none, option_map-none}
use Rattle.cas_settle.proofs.SettledLemmas.{settled-none}
use Rattle.cas_asm.specs.declared.instr.Instr.{Instr}
use Rattle.cas_asm.specs.declared.line.Line.{Line}
use Rattle.cas_asm.specs.declared.line.Line.TheVariants.{Run}
use Rattle.cas_asm.specs.declared.line.AsmFun.{AsmFun}
use Rattle.cas_object_text.specs.declared.object.Object.{Object}
use Rattle.cas_link.specs.Parts.{decls_in, functions_in, sizes_of}
use Rattle.cas_link.specs.Refusal.{data_name, function_name, unless, unknown_in, unknown_in_lines, unknown_in_functions, is_data, is_function, names_fault, code_fault, link_refusal}
use Rattle.cas_link_laws.specs.Linked.{AreKnown, FitTogether}

within : (limit counted : ℕ) → limit_fault Code limit counted ≡ None → counted ≤ limit
within limit counted none = ltb-false limit counted
    (cond-none (ltb limit counted) (Limit Code (min counted (2 ^ 64 - 1))) None none).0

-- Names in code.

passed : (b : Bool) (name : List ℕ) → cond b None (Some name) ≡ None → b ≡ true
passed true name e = refl
passed false name e = cc

known : (test : List ℕ → Bool) (o : Option (List ℕ)) → unless test o ≡ None → IfSome o (λ name. IsTrue (test name))
known test None e = tt
known test (Some name) e = passed (test name) name e

module _ (cell function : List ℕ → Bool) where
  in_lines : (lines : List Line) → unknown_in_lines cell function lines ≡ None → (j : ℕ) (line : Line) →
      slice_get lines j ≡ Some line → unknown_in cell function line ≡ None
  in_lines [] none j line e = absurd (cc e)
  in_lines (l ∷ ls) none zero line e =
      let same : l ≡ line = cc e in
      ap (unknown_in cell function) (sym same)
      ∙ (both-none (unknown_in cell function l) (unknown_in_lines cell function ls) none).0
  in_lines (l ∷ ls) none (suc j) line e =
      in_lines ls (both-none (unknown_in cell function l) (unknown_in_lines cell function ls) none).1 j line e

  in_functions : (fs : List AsmFun) → unknown_in_functions cell function fs ≡ None → (k : ℕ) (f : AsmFun) →
      slice_get fs k ≡ Some f → unknown_in_lines cell function f.lines ≡ None
  in_functions [] none k f e = absurd (cc e)
  in_functions (g ∷ gs) none zero f e =
      let same : g ≡ f = cc e in
      ap (λ (h : AsmFun). unknown_in_lines cell function h.lines) (sym same)
      ∙ (both-none (unknown_in_lines cell function g.lines) (unknown_in_functions cell function gs) none).0
  in_functions (g ∷ gs) none (suc k) f e =
      in_functions gs (both-none (unknown_in_lines cell function g.lines) (unknown_in_functions cell function gs)
      none).1
      k f e

names_known : (objects : List Object) → names_fault objects ≡ None → (k j : ℕ) (f : AsmFun)
    (instr : Instr (List ℕ)) → slice_get (functions_in objects) k ≡ Some f → slice_get f.lines j ≡ Some (Run instr) →
    AreKnown objects instr
names_known objects none k j f instr e g =
    let cell = is_data objects in
    let function = is_function objects in
    let unknown = unknown_in_functions cell function (functions_in objects) in
    let all = option_map-none (λ (n : List ℕ). NotDefined n) unknown none in
    let own = in_lines cell function f.lines (in_functions cell function (functions_in objects) all k f e) j
    (Run instr) g in
    let both = both-none (unless cell (data_name instr)) (unless function (function_name instr)) own in
    record {
      cell = known cell (data_name instr) both.0;
      function = known function (function_name instr) both.1;
    }

pub fit : (lock : ℕ) (objects : List Object) (entries : List (List ℕ)) → link_refusal lock objects entries ≡ None →
    FitTogether lock objects entries
fit lock objects entries none =
    let units = decls_in objects in
    let defined = definitions (all_decls units) in
    let t = twice_fault defined in
    let r = references_fault defined (references (all_decls units)) in
    let n = names_fault objects in
    let e = entries_fault defined entries in
    let l = limits_fault defined in
    let c = code_fault lock objects in
    let one = both-none t (option_or r (option_or n (option_or e (option_or l c)))) none in
    let two = both-none r (option_or n (option_or e (option_or l c))) one.1 in
    let three = both-none n (option_or e (option_or l c)) two.1 in
    let four = both-none e (option_or l c) three.1 in
    let five = both-none l c four.1 in
    record {
      settled = settled-none units entries
          (none-both t (option_or r (option_or e l)) one.0
          (none-both r (option_or e l) two.0 (none-both e l four.0 five.0)));
      known = names_known objects three.0;
      code = within 4194304 (lock + sizes_of (functions_in objects)) five.1;
    }
