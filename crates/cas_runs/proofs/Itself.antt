-- In any language of activations units, functions and threads refine themselves.
use Rattle.std.proofs.Common.{◌≡◌, List, true, refl}
use Rattle.cas_base.specs.declared.decl.Decl.{Decl}
use Rattle.cas_base.specs.declared.decl.Unit.{Unit as UnitOf}
use Rattle.cas_runs.specs.Bounds.{IsTariff}
use Rattle.cas_runs.specs.Calls.{Activations, language}
use Rattle.cas_runs.specs.Edge.{Edge}
use Rattle.cas_runs.specs.Label.{NameBytes}
use Rattle.cas_runs.specs.Unit.{defines, AreDefined, all_functions, FitsProgram, UnitRefines, FunctionRefines, ThreadRefines}
use Rattle.cas_runs.proofs.Composing.{refines_itself}
use Rattle.cas_runs.proofs.Ruling.{unit_rules, alone_rules, program_rules}

module _ {F A : Type 0} (l : Activations F A) (prices : IsTariff l.tariff) where
  pub unit_itself : (unit : UnitOf F) → AreDefined (language l) unit.decls unit.funs →
      UnitRefines (language l) (language l) unit unit
  unit_itself unit defined = record {
    decls = refl;
    globals = refl;
    names = refl;
    defined = defined;
    naming = λ layout. layout;
    laid_out_too = λ layout laid. laid;
    refines = λ setting fits laid.
        let rules = unit_rules l setting prices unit.funs laid in
        refines_itself setting.edge ((language l).unit setting unit.funs) rules.proceeds;
  }

  pub alone_itself : (decls : List Decl) (f : F) → defines decls (l.name f) ≡ true →
      FunctionRefines (language l) (language l) decls (l.name f) f f
  alone_itself decls f defined = record {
    target_name = refl;
    source_name = refl;
    defined = defined;
    naming = λ layout. layout;
    laid_out_too = λ layout laid. laid;
    refines = λ setting fits laid.
        let rules = alone_rules l setting prices f laid in
        refines_itself setting.edge ((language l).alone setting f) rules.proceeds;
  }

  pub thread_itself : (edge : Edge) (units : List (UnitOf F)) (entry : NameBytes) →
      FitsProgram (language l) edge units entry → ThreadRefines (language l) (language l) edge units units entry
  thread_itself edge units entry fits = record {
    fits = fits;
    decls = refl;
    globals = refl;
    names = refl;
    naming = λ layout. layout;
    laid_out_too = λ layout laid. laid;
    refines = λ setting thread same is places laid word.
        let rules = program_rules l setting prices (all_functions units) entry thread laid in
        refines_itself setting.edge ((language l).thread setting (all_functions units) entry thread) rules.proceeds;
  }
