-- The trial's unit fits an edge, and its machine has a run in which a pointer crosses and comes back.
use Rattle.std.proofs.Common.{◌≡◌, ℕ, zero, suc, ◌+◌, ◌<◌, ◌≤◌, List, [], ◌∷◌, ◌⊎◌, Some, None, Bool, true, false, ◌&&◌, if◌then◌else◌, inl, inr, refl, sym, ap, ◌∙◌, subst, arith}
use Rattle.cas_base.specs.declared.decl.Decl.{Decl}
use Rattle.cas_base.specs.declared.kind.Kind.TheVariants.{I32}
use Rattle.cas_base.specs.declared.kind.Ty.TheVariants.{Int}
use Rattle.std.specs.Prelude.{slice_get}
use Rattle.cas_runs.specs.Label.{same_name, Place, Crossing, RunLabel, Lock, Unlock, Out, Enter, Back, Call}
use Rattle.cas_runs.specs.Edge.{LockWord, SharedWord, Cell, Stretch}
use Rattle.cas_runs.specs.Naming.{ArePlaced}
use Rattle.cas_runs.specs.Machine.{Quiet, Machine, StepsTo, begun, onward, starts, quiet, labelled}
use Rattle.cas_runs.specs.Refines.{HasRun}
use Rattle.cas_runs.specs.Rules.{KeepsRules}
use Rattle.cas_runs.proofs.Entered.{dropped, taken}
use Rattle.cas_runs.proofs.Ruling.{unit_rules}
use Rattle.cas_runs.specs.Unit.{AreDefined, FitsUnit, AreApart, IsSharedCell, Setting, IsLayout}
use Rattle.cas_runs.specs.Calls.{Thread, language}
use Rattle.cas_trial.specs.declared.joining.Apart.{Apart}
use Rattle.cas_trial.specs.Stages.{main_name, show_name, lock_name, global_name, Stage, apart}
use Rattle.cas_trial.proofs.joining.Simulation.{apart_prices}
use Rattle.cas_trial.specs.Fitting.{lock_decl, global_decl, main_decl, show_decl, decls, globals, edge, words, setting, two_words, first_object, labels, program}

-- a name without words is apart from all
no_words : (d e : Decl) → (words d.name ≡ None) ⊎ (words e.name ≡ None) → AreApart words d e
no_words d e (inl none) = λ s t f g. absurd (cc (none, f))
no_words d e (inr none) = λ s t f g. absurd (cc (none, g))

lock_and_global : AreApart words lock_decl global_decl
lock_and_global = λ s t f g. let first : record { first = 0; size = 1 } ≡ s =
    cc f in let second : record { first = 1; size = 1 } ≡ t = cc g in
    inr (inl (subst (λ (v : Stretch). v.first + v.size ≤ t.first) first
    (subst (λ (v : Stretch). 1 ≤ v.first) second (omega arith))))

at_lock : (k : ℕ) → k < 1 → (c : Cell) × (slice_get edge.cells (0 + k) ≡ Some c) × (c ≡ LockWord)
at_lock zero less = (LockWord, refl, refl)
at_lock (suc k) less = absurd (omega (arith, less))

at_global : (k : ℕ) → k < 1 → (c : Cell) × (slice_get edge.cells (1 + k) ≡ Some c) × IsSharedCell (Int I32) (Some 0) c
at_global zero less = (SharedWord I32 (Some 0) 5, refl, (5, refl, refl))
at_global (suc k) less = absurd (omega (arith, less))

pub unit_fits : FitsUnit setting decls globals
unit_fits = record {
  edge_is = record { few = omega arith; kinds = (tt, (refl, tt)) };
  stack_is =
      record {
        words_before = 67108864;
        aligned = omega arith;
        past_words = omega arith;
        far = omega arith;
        in_reach =
            omega arith;
        least = omega arith;
        most = omega arith;
      };
  code_is = (
    (record { past_locks = omega arith; before_end = omega arith; some = omega arith }),
    (inr (inl (omega arith)), tt),
    ((record { past_locks = omega arith; before_end = omega arith; some = omega arith }), tt, tt),
  );
  declared = (
    (record { first = 0; size = 1 }, refl, refl, λ k less. at_lock k less),
    (
      (record { first = 1; size = 1 }, refl, refl, λ k less. at_global k less),
      ((_, refl, refl, refl, (tt, tt)), ((_, refl, refl, refl, (tt, tt)), tt)),
    ),
  );
  data_there = (
    (record { first = 0; size = 1 }, refl, tt),
    ((record { first = 1; size = 1 }, refl, ((SharedWord I32 (Some 0) 5, refl, refl), tt)), tt),
  );
  apart = (
    (lock_and_global, (no_words lock_decl main_decl (inr refl), (no_words lock_decl show_decl (inr refl), tt))),
    (
      (no_words global_decl main_decl (inr refl), (no_words global_decl show_decl (inr refl), tt)),
      ((no_words main_decl show_decl (inr refl), tt), (tt, tt)),
    ),
  );
  entered = (refl, (refl, tt));
}

-- the function is the third that is declared
this_one : (lock global main show : Bool) → (if main then true else false) ≡
    (if lock && false then true else if global && false then true else if main && true then true else if show && false
    then true else false)
this_one lock global main show =
    taken main false
    ∙ ap (λ (x : Bool). if main && true then true else x) (sym (dropped show false))
    ∙ sym (dropped global (if main && true then true else if show && false then true else false))
    ∙ sym (dropped lock (if global && false then true else if main && true then true else if show && false then true
    else false))

pub unit_defined : AreDefined (language apart) decls (program ∷ [])
unit_defined name = this_one (same_name lock_name name) (same_name global_name name) (same_name main_name name)
    (same_name show_name name)

past_two : (j : ℕ) → 2 ≤ j → two_words j ≡ []
past_two zero le = absurd (omega (arith, le))
past_two (suc zero) le = absurd (omega (arith, le))
past_two (suc (suc j)) le = refl

one_word_placed : ArePlaced 0 1 (record { from = 0; size = 1; kind = I32 } ∷ [])
one_word_placed = (omega arith, omega arith, omega arith, tt)

pub unit_laid_out : IsLayout (language apart) (program ∷ []) setting.layout
unit_laid_out name f e = (one_word_placed, (one_word_placed, past_two))

-- the program as a unit
abbrev m : Machine (Thread Apart Stage)
m = (language apart).unit setting (program ∷ [])

-- the first labels
abbrev front : ℕ → List RunLabel → List RunLabel
front zero ls = ls
front (suc n) [] = []
front (suc n) (l ∷ ls) = front n ls

abbrev on : (ls : List RunLabel) (h : HasRun edge m ls) (y : Thread Apart Stage) → m.act h.to.at ≡ Quiet y →
    HasRun edge m ls
on ls h y e =
    record {
      to = record { blocks = h.to.blocks; block = onward m h.to.block y; at = y };
      run = quiet y h.run e;
      there =
          tt;
    }

abbrev by_label : (ls : List RunLabel) (l : RunLabel) (h : HasRun edge m ls) (y : Thread Apart Stage) →
    StepsTo edge ls (m.act h.to.at) l y → HasRun edge m (l ∷ ls)
by_label ls l h y e =
    record {
      to = record { blocks = h.to.block ∷ h.to.blocks; block = begun m y; at = y };
      run =
          labelled l y h.run e;
      there = tt;
    }

abbrev nothing_crossed : Crossing
nothing_crossed = record { values = []; share = []; objects = [] }

abbrev entered : HasRun edge m (front 6 labels)
entered = by_label [] (Enter main_name nothing_crossed)
    (record { to = record { blocks = []; block = begun m m.start; at = m.start }; run = starts; there = tt }) _ (
      record {
        signature = _;
        known = refl;
        inside = refl;
        values = tt;
        holds = tt;
        brings =
            record { share = tt; objects = tt; room = omega arith; numbers = refl };
      },
      refl,
    )

abbrev stored : HasRun edge m (front 6 labels)
stored = on (front 6 labels) entered _ refl

abbrev locked : HasRun edge m (front 5 labels)
locked = by_label (front 6 labels) (Lock 0 (5 ∷ [])) stored _
    (5 ∷ [], refl, record { is_lock = refl; kinds = (refl, tt) }, refl)

abbrev wrote : HasRun edge m (front 5 labels)
wrote = on (front 5 labels) locked _ refl

abbrev unlocked : HasRun edge m (front 4 labels)
unlocked = by_label (front 5 labels) (Unlock 0 (3 ∷ [])) wrote _ (refl, refl)

abbrev showed : HasRun edge m (front 3 labels)
showed = by_label (front 4 labels)
    (Call show_name (record { values = Place 0 1 ∷ []; share = []; objects = first_object 3 ∷ [] })) unlocked _
    (record { values = Place 0 1 ∷ []; objects = first_object 3 ∷ [] }, refl, refl)

abbrev came : HasRun edge m (front 2 labels)
came = by_label (front 3 labels) (Back (record { values = Place 0 0 ∷ []; share = []; objects = first_object 9 ∷ [] }))
    showed _ (
      record {
        function = show_name;
        older = _;
        newest = refl;
        signature = _;
        known = refl;
        values = (record { it = first_object 9; there = refl; same_kind = λ live. refl; in_reach = omega arith }, tt);
        brings = record {
          share = tt;
          objects = (
            record { owner = refl; kind = refl; size = refl; contents = record { size = refl; kinds = (refl, tt) } },
            tt,
          );
          room = omega arith;
          numbers = refl;
        };
      },
      refl,
    )

abbrev told : HasRun edge m (front 1 labels)
told = by_label (front 2 labels) (Out 9) came _ (refl, refl)

pub comes_back : HasRun edge m labels
comes_back = by_label (front 1 labels) (Out 7) told _ (refl, refl)

pub apart_rules : (setting : Setting) (fs : List Apart) → IsLayout (language apart) fs setting.layout →
    KeepsRules setting.edge ((language apart).unit setting fs)
apart_rules setting fs laid = unit_rules apart setting apart_prices fs laid
