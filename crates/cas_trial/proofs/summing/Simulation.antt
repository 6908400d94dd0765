-- The pass that drops the sum of a word and 0, one case a stage.
use Rattle.std.proofs.Common.{◌≡◌, ℕ, List, [], ◌∷◌, refl, sym, subst, arith}
use Rattle.std.proofs.lemmas.Bool.Decides.{nat_tests}
use Rattle.std.proofs.lemmas.Int.{ints}
use Rattle.cas_base.specs.Word.{word_add}
use Rattle.cas_base.specs.declared.decl.Unit.{Unit as UnitOf}
use Rattle.cas_base.specs.declared.kind.Kind.TheVariants.{U32}
use Rattle.cas_base.specs.Word.{word_add}
use Rattle.cas_runs.specs.Edge.{IsOfKind}
use Rattle.cas_runs.specs.Naming.{Value}
use Rattle.cas_runs.specs.Bounds.{IsPrice}
use Rattle.cas_runs.specs.Access.{Accesses, Then}
use Rattle.cas_runs.specs.Forms.{FormAlike, reads, last}
use Rattle.cas_runs.specs.Unit.{Setting, AreDefined, UnitRefines}
use Rattle.cas_runs.specs.Calls.{Last, Puts, language}
use Rattle.cas_runs.specs.Passing.{Relation, AllMatch, AllMade, MadeOf}
use Rattle.cas_runs.specs.Stepwise.{AtIf, LastAt, takes_at, gives_at, puts_at, returns_at, Stepwise}
use Rattle.cas_runs.specs.Worded.{SameWord, places, bare, worded, IsWorded}
use Rattle.cas_runs.proofs.Amounting.{stepwise_steps}
use Rattle.cas_runs.proofs.Matched.{units_pass}
use Rattle.cas_runs.proofs.Worded.{memory_words, words_begin, worded_is}
use Rattle.cas_trial.specs.declared.tailing.Relaying.{Relaying}
use Rattle.cas_trial.specs.Sums.{Sum, Locks, Reading, Unlocks, Ends, enters_sum, sum_form, adding, plain}
use Rattle.cas_trial.specs.Summing.Makes.{IsSame}
use Rattle.cas_trial.specs.Summing.Match.{SameSum, same_sum, summing}

abbrev SumsAt : Relaying → Relaying → Sum → Sum → Type 0
SumsAt f g = SameSum

word_and_zero : (v : ℕ) → IsOfKind v U32 → word_add v 0 ≡ v
word_and_zero v h = grind (arith, nat_tests, ints, h)

module _ (setting : Setting) (ts ss : List Relaying) where
  abbrev R : Relation Relaying Sum Relaying Sum
  R = bare summing setting ts ss (MadeOf (worded summing) setting ts ss)

  abbrev Forms : Relaying → Relaying → Accesses (Last Sum) → Accesses (Last Sum) → Type 0
  Forms f g x y = FormAlike SameWord (λ n m. n ≡ m) (LastAt R SumsAt f g) x y

  forms : (f g : Relaying) (x y : Sum) → SameSum x y → Forms f g (sum_form (λ v. v) x) (sum_form (λ v. word_add v 0) y)
  forms f g x y (same_sum {x = Locks}) = last (takes_at same_sum)
  forms f g x y (same_sum {x = Reading}) =
      reads (λ v self. subst (λ w. Forms f g (Then (Puts v Unlocks)) (Then (Puts w Unlocks)))
      (sym (word_and_zero v self.1)) (last (puts_at same_sum)))
  forms f g x y (same_sum {x = Unlocks}) = last (gives_at same_sum)
  forms f g x y (same_sum {x = Ends}) = last (returns_at tt)

  enters : (f g : Relaying) (vs ws : List Value) → AllMatch R vs ws → AtIf R SumsAt f g (enters_sum vs) (enters_sum ws)
  enters f g [] [] s = same_sum
  enters f g [] (w ∷ ws) s = absurd s
  enters f g (v ∷ vs) [] s = absurd s
  enters f g (v ∷ vs) (w ∷ ws) s = tt

  steps : Stepwise R SumsAt (λ n m. n ≡ m)
  steps = record {
    forms = λ f g made x y at. forms f g x y at;
    costs = λ f g made x y at. omega arith;
    enters = λ f g made n vs ws s. enters f g vs ws s;
    entries = λ f g made. omega arith;
  }

-- what the pass shows
summing_shows : IsWorded summing
summing_shows = record {
  names = λ decls f g m. refl;
  blocks = λ decls f g m. refl;
  prices = (
    λ a. (record { least = omega arith; most = omega arith }, tt),
    omega arith,
    λ f. let one : IsPrice 1 =
        record { least = omega arith; most = omega arith } in (one, (one, (one, (one, tt)))),
  );
  waits = λ ts ss all. omega arith;
  steps = λ setting decls ts ss run.
      stepwise_steps (R setting ts ss) SumsAt (λ n m. n ≡ m) (places summing setting ts ss) (steps setting ts ss)
      memory_words
      (λ a x t y s at. at) (λ a x t y s at. at)
      (λ n t s home home' at at' v v' p. (tt, tt))
      (words_begin plain adding setting ts ss (MadeOf (worded summing) setting ts ss) (λ f g n x y. Unit {0})
      (λ f g m. refl) (λ f g m. refl) refl refl);
}

-- units of the same programs
pub units_sum : (s t : UnitOf Relaying) → t.decls ≡ s.decls → t.globals ≡ s.globals →
    AreDefined (language adding) s.decls s.funs → AllMade IsSame t.funs s.funs →
    UnitRefines (language plain) (language adding) t s
units_sum s t d g defined h = units_pass (worded summing) (worded_is summing summing_shows) t s d g defined h
