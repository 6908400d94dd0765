-- The whole program fits an edge, and its thread goes on after the call.
use Rattle.std.specs.Prelude.{slice_get}
use Rattle.std.proofs.Common.{◌≡◌, ℕ, zero, suc, ◌+◌, ◌<◌, Some, None, ap, subst, sym, ◌∙◌, ⊎_elim, inr, List, [], ◌∷◌, Bool, true, false, ◌&&◌, if◌then◌else◌, refl, arith}
use Rattle.cas_base.specs.declared.decl.Decl.{Decl}
use Rattle.cas_base.specs.declared.kind.Kind.TheVariants.{U32}
use Rattle.cas_base.specs.declared.kind.Ty.TheVariants.{Int}
use Rattle.cas_runs.specs.Edge.{Edge, Cell, TableWord, Stretch}
use Rattle.cas_runs.specs.Label.{same_name, RunLabel, Out, Done}
use Rattle.cas_runs.specs.Machine.{Quiet, Machine, StepsTo, begun, onward, starts, quiet, labelled}
use Rattle.cas_runs.specs.Refines.{HasRun}
use Rattle.cas_runs.specs.Unit.{laid_out, IsCode, all_functions, IsStack, IsLayout, AreApart, first_value, IsTableCell, FitsProgram, ThreadRefines}
use Rattle.cas_runs.specs.Calls.{Thread, language}
use Rattle.cas_runs.proofs.Entered.{dropped, taken}
use Rattle.cas_runs.proofs.Composing.{follows}
use Rattle.cas_runs.proofs.Sanity.{comes_first, comes_on, has_run_to, stands_at, not_bad, no_label, bad_first}
use Rattle.cas_trial.specs.Stages.{main_name, global_name}
use Rattle.cas_trial.specs.Whole.{Routine, Point, routines, helper_name, helper_decl, main_decl, table_decl, program, edge, words, setting, labels}

-- a name without words is apart from all
no_words : (d e : Decl) → words e.name ≡ None → AreApart words d e
no_words d e none = λ s t f g. absurd (cc (none, g))

at_table : (k : ℕ) → k < 1 → (c : Cell) × (slice_get edge.cells (0 + k) ≡ Some c) × IsTableCell (Int U32) c
at_table zero less = (TableWord 1, refl, (1, refl, refl))
at_table (suc k) less = absurd (omega (arith, less))

-- the functions are the second and the third that are declared
these_two : (table helper main : Bool) → (if helper then true else if main then true else false) ≡
    (if table && false then true else if helper && true then true else if main && true then true else false)
these_two table helper main =
    taken helper (if main then true else false)
    ∙ ap (λ (x : Bool). if helper && true then true else x) (taken main false)
    ∙ sym (dropped table (if helper && true then true else if main && true then true else false))

pub routines_fit : FitsProgram (language (routines 0)) edge program main_name
routines_fit = record {
  edge_is = record { few = omega arith; kinds = (refl, tt) };
  declared = (
    (record { first = 0; size = 1 }, refl, refl, λ k less. at_table k less),
    ((_, refl, refl, refl, (tt, tt)), ((_, refl, refl, refl, (tt, tt)), tt)),
  );
  data_there = ((record { first = 0; size = 1 }, refl, ((TableWord 1, refl, refl), tt)), tt);
  apart = (
    (no_words table_decl helper_decl refl, (no_words table_decl main_decl refl, tt)),
    ((no_words helper_decl main_decl refl, tt), (tt, tt)),
  );
  defined = λ name. these_two (same_name global_name name) (same_name helper_name name) (same_name main_name name);
  there = refl;
  entry_is = record { signature = _; known = refl; ret = refl; params = refl; holds = refl };
}

pub routines_stack : IsStack edge setting.stack
routines_stack =
    record {
      words_before = 67108864;
      aligned = omega arith;
      past_words = omega arith;
      far = omega arith;
      in_reach =
          omega arith;
      least = omega arith;
      most = omega arith;
    }

pub routines_code : IsCode setting.code edge.functions
routines_code = (
  (record { past_locks = omega arith; before_end = omega arith; some = omega arith }),
  (inr (inr (omega arith)), tt),
  ((record { past_locks = omega arith; before_end = omega arith; some = omega arith }), tt, tt),
)

pub routines_laid_out : IsLayout (language (routines 0)) (all_functions program) setting.layout
routines_laid_out name f e j le = refl

-- the thread that puts out 1
abbrev m : Machine (Thread Routine Point)
m = (language (routines 0)).thread setting (all_functions program) main_name 0

abbrev on : (ls : List RunLabel) (h : HasRun edge m ls) (y : Thread Routine Point) → m.act h.to.at ≡ Quiet y →
    HasRun edge m ls
on ls h y e =
    record {
      to = record { blocks = h.to.blocks; block = onward m h.to.block y; at = y };
      run = quiet y h.run e;
      there =
          tt;
    }

abbrev by_label : (ls : List RunLabel) (l : RunLabel) (h : HasRun edge m ls) (y : Thread Routine Point) →
    StepsTo edge ls (m.act h.to.at) l y → HasRun edge m (l ∷ ls)
by_label ls l h y e =
    record {
      to = record { blocks = h.to.block ∷ h.to.blocks; block = begun m y; at = y };
      run =
          labelled l y h.run e;
      there = tt;
    }

abbrev called_helper : HasRun edge m []
called_helper =
    on [] (record { to = record { blocks = []; block = begun m m.start; at = m.start }; run = starts; there = tt })
    _ refl

abbrev came_back : HasRun edge m []
came_back = on [] called_helper _ refl

abbrev printed : HasRun edge m (Out 1 ∷ [])
printed = by_label [] (Out 1) came_back _ (refl, refl)

pub goes_on : HasRun edge m labels
goes_on = by_label (Out 1 ∷ []) Done printed _ (refl, refl)

pub another_word : ThreadRefines (language (routines 1)) (language (routines 0)) edge program program main_name → ⊥
another_word h =
    let t : Machine (Thread Routine Point) = (language (routines 1)).thread (laid_out setting (h.naming setting.layout))
    (all_functions program) main_name 0 in
    let refines = h.refines setting 0 refl routines_stack routines_code routines_laid_out refl in
    let there = comes_on edge t [] _ _ (comes_on edge t [] _ _ (comes_first edge t) refl) refl in
    let here = comes_on edge m [] _ _ (comes_on edge m [] _ _ (comes_first edge m) refl) refl in
    ⊎_elim (λ b. not_bad edge m [] _ here (λ q. q) (λ q. q) (bad_first edge m b))
    (λ has. no_label edge m [] _ here (λ q. q) (Out 2) (λ z l. let no : Out 1 ≡ Out 2 = l.0 in absurd (cc no)) has)
    (follows edge t m refines [] (stands_at edge t there) there.run (has_run_to edge m [] m.start (comes_first edge m))
    (λ c. c) (Out 2) _ (refl, refl))

-- the first cell of the table is a table's, and has this value
of_table : (edge : Edge) (n : ℕ) (c d : Cell) → IsTableCell (Int U32) c → slice_get edge.cells n ≡ Some c →
    slice_get edge.cells n ≡ Some d → first_value d ≡ 1 → slice_get edge.cells n ≡ Some (TableWord 1)
of_table edge n c d is here there value =
    let same : Some c ≡ Some d = sym here ∙ there in
    let one : c ≡ d = cc same in
    let word : first_value (TableWord is.0) ≡ 1 = ap first_value (sym is.2) ∙ ap first_value one ∙ value in
    here ∙ ap Some is.2 ∙ ap (λ w. Some (TableWord w)) word

pub table_there : (edge : Edge) → FitsProgram (language (routines 0)) edge program main_name → (s : Stretch)
    × (edge.words global_name ≡ Some s) × (slice_get edge.cells s.first ≡ Some (TableWord 1))
table_there edge fits =
    let words_there = fits.data_there.0 in
    let value = words_there.2.0 in
    let declared = fits.declared.0 in
    let stretch : Some declared.0 ≡ Some words_there.0 = sym declared.1 ∙ words_there.1 in
    let same : declared.0 ≡ words_there.0 = cc stretch in
    let cell = declared.3 0 (omega (arith, declared.2)) in
    let at : declared.0.first + 0 ≡ words_there.0.first = ap (λ (s : Stretch). s.first + 0) same ∙ omega arith in (
      words_there.0,
      words_there.1,
      of_table edge words_there.0.first cell.0 value.0 cell.2
          (subst (λ n. slice_get edge.cells n ≡ Some cell.0) at cell.1) value.1 value.2,
    )
