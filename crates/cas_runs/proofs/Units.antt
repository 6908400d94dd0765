-- Refinements of units, of functions and of threads compose.
use Rattle.std.proofs.Common.{List, sym, ◌∙◌, subst}
use Rattle.cas_base.specs.declared.decl.Unit.{Unit as UnitOf}
use Rattle.cas_runs.specs.Label.{NameBytes}
use Rattle.cas_runs.specs.Edge.{Edge}
use Rattle.cas_base.specs.declared.decl.Decl.{Decl}
use Rattle.cas_base.specs.declared.decl.Global.{Global}
use Rattle.cas_runs.specs.Naming.{Layout}
use Rattle.cas_runs.specs.Unit.{Setting, laid_out, all_functions, Language, FitsUnit, FitsFunction, UnitRefines, FunctionRefines, ThreadRefines}
use Rattle.cas_runs.proofs.Composing.{refines_both}

-- a layout is no matter to what a setting fits
fits_laid : (setting : Setting) (layout : Layout) (decls : List Decl) (globals : List Global) →
    FitsUnit setting decls globals → FitsUnit (laid_out setting layout) decls globals
fits_laid setting layout decls globals f =
    record {
      edge_is = f.edge_is;
      stack_is = f.stack_is;
      code_is = f.code_is;
      declared = f.declared;
      data_there =
          f.data_there;
      apart = f.apart;
      entered = f.entered;
    }

fits_alone : (setting : Setting) (layout : Layout) (decls : List Decl) (name : NameBytes) →
    FitsFunction setting decls name → FitsFunction (laid_out setting layout) decls name
fits_alone setting layout decls name f =
    record {
      edge_is = f.edge_is;
      stack_is = f.stack_is;
      code_is = f.code_is;
      declared = f.declared;
      apart =
          f.apart;
      entered = f.entered;
    }

module _ {F G H T S R : Type 0} (lt : Language F T) (ls : Language G S) (lr : Language H R) where
  pub units_both : (t : UnitOf F) (s : UnitOf G) (r : UnitOf H) → UnitRefines lt ls t s → UnitRefines ls lr s r →
      UnitRefines lt lr t r
  units_both t s r h k = record {
    decls = h.decls ∙ k.decls;
    globals = h.globals ∙ k.globals;
    names = h.names ∙ k.names;
    defined = k.defined;
    naming = λ l. h.naming (k.naming l);
    laid_out_too = λ l p. h.laid_out_too (k.naming l) (k.laid_out_too l p);
    refines = λ setting fits laid.
        let middle : FitsUnit (laid_out setting (k.naming setting.layout)) s.decls s.globals =
        fits_laid setting (k.naming setting.layout) s.decls s.globals
        (subst (λ g. FitsUnit setting s.decls g) (sym k.globals)
        (subst (λ d. FitsUnit setting d r.globals) (sym k.decls) fits)) in
        refines_both setting.edge (lt.unit (laid_out setting (h.naming (k.naming setting.layout))) t.funs)
        (ls.unit (laid_out setting (k.naming setting.layout)) s.funs) (lr.unit setting r.funs)
        (h.refines (laid_out setting (k.naming setting.layout)) middle (k.laid_out_too setting.layout laid))
        (k.refines setting fits laid);
  }

  pub functions_both : (decls : List Decl) (name : NameBytes) (t : F) (s : G) (r : H) →
      FunctionRefines lt ls decls name t s → FunctionRefines ls lr decls name s r → FunctionRefines lt lr decls name t r
  functions_both decls name t s r h k = record {
    target_name = h.target_name;
    source_name = k.source_name;
    defined = k.defined;
    naming = λ l. h.naming (k.naming l);
    laid_out_too = λ l p. h.laid_out_too (k.naming l) (k.laid_out_too l p);
    refines = λ setting fits laid.
        refines_both setting.edge (lt.alone (laid_out setting (h.naming (k.naming setting.layout))) t)
        (ls.alone (laid_out setting (k.naming setting.layout)) s) (lr.alone setting r)
        (h.refines (laid_out setting (k.naming setting.layout))
        (fits_alone setting (k.naming setting.layout) decls name fits) (k.laid_out_too setting.layout laid))
        (k.refines setting fits laid);
  }

  pub threads_both : (edge : Edge) (ts : List (UnitOf F)) (ss : List (UnitOf G)) (rs : List (UnitOf H))
      (entry : NameBytes) → ThreadRefines lt ls edge ts ss entry → ThreadRefines ls lr edge ss rs entry →
      ThreadRefines lt lr edge ts rs entry
  threads_both edge ts ss rs entry h k = record {
    fits = k.fits;
    decls = h.decls ∙ k.decls;
    globals = h.globals ∙ k.globals;
    names = h.names ∙ k.names;
    naming = λ l. h.naming (k.naming l);
    laid_out_too = λ l p. h.laid_out_too (k.naming l) (k.laid_out_too l p);
    refines = λ setting thread same is places laid word. refines_both setting.edge
        (lt.thread (laid_out setting (h.naming (k.naming setting.layout))) (all_functions ts) entry thread)
        (ls.thread (laid_out setting (k.naming setting.layout)) (all_functions ss) entry thread)
        (lr.thread setting (all_functions rs) entry thread)
        (h.refines (laid_out setting (k.naming setting.layout)) thread same is places
        (k.laid_out_too setting.layout laid) word) (k.refines setting thread same is places laid word);
  }
