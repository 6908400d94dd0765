-- The pass that makes tail calls: one case, the call.
use Rattle.std.proofs.Common.{◌≡◌, ℕ, List, [], ◌∷◌, Some, refl, sym, subst, arith, append-nil}
use Rattle.cas_base.specs.declared.decl.Unit.{Unit as UnitOf}
use Rattle.cas_runs.specs.Naming.{Value, Memory}
use Rattle.cas_runs.specs.Unit.{Setting, AreDefined, UnitRefines}
use Rattle.cas_runs.specs.Calls.{language}
use Rattle.cas_runs.specs.Passing.{Relation, AllMatch, AllMade, returns_first}
use Rattle.cas_runs.specs.Held.{Activation, Held, Amounts, passing_held, at_last, Leads, meets_there, begins_at_once, BeginIf}
use Rattle.cas_runs.specs.Unmoved.{places, bare, unmoved, IsUnmoved}
use Rattle.cas_runs.proofs.Unmoved.{unmoved_is}
use Rattle.cas_runs.proofs.Matched.{units_pass}
use Rattle.cas_trial.specs.declared.tailing.Relayed.{Relayed}
use Rattle.cas_trial.specs.declared.tailing.Relaying.{Relaying}
use Rattle.cas_trial.specs.Relays.{Relay, Begins, enters, calling_form, tailing_form, dropping, tailing}
use Rattle.cas_trial.specs.Tailing.Makes.{IsTailing}
use Rattle.cas_trial.specs.Tailing.Match.{AtCall, at_call, ReturnsFirst, tail_calls}

module _ (returned : List Value → List Value) (firsts : ReturnsFirst returned) (setting : Setting) (ts : List Relayed)
    (ss : List Relaying) (made : Relayed → Relaying → Type 0) where
  abbrev R : Relation Relayed Relay Relaying Relay
  R = bare (tail_calls returned) setting ts ss made

  abbrev w : Held Relayed Relay Relaying Relay
  w = places (tail_calls returned) setting ts ss

  -- the call whose result is only passed on is a tail call
  call : (a : Activation Relayed Relaying) (word : ℕ) (t s : Memory) → t ≡ s →
      Amounts R w a 0 t s (tailing_form (Begins word)) (calling_form returned (Begins word))
  call a word t s e =
      at_last (passing_held (refl, tt) refl e (
        refl,
        λ ws count. let are = firsts ws in
            returns_first (returned ws) are.0 are.1 refl (omega arith),
      ))

  forms : (a : Activation Relayed Relaying) (x : Relay) (t : Memory) (y : Relay) (s : Memory) → AtCall x y → t ≡ s →
      Leads R w a x t y s
  forms a x t y s (at_call {word = word}) e = meets_there 0 (omega arith) (call a word t s e)

  begins : (a : Activation Relayed Relaying) (v u : ℕ) → v ≡ u → (vs ws : List Value) → AllMatch R vs ws →
      (t s : Memory) → t ≡ s → BeginIf R w a (enters v vs) t (enters u ws) s
  begins a v u same [] [] all t s e = subst (λ i. BeginIf R w a (Some (Begins v)) t (Some (Begins i)) s) same
      (begins_at_once 0 (omega arith) (call a v t s e))
  begins a v u same [] (x ∷ ws) all t s e = absurd all
  begins a v u same (x ∷ vs) [] all t s e = absurd all
  begins a v u same (x ∷ vs) (y ∷ ws) all t s e = tt

-- what the pass shows, where the source returns the first of what comes
pub tail_calls_show : (returned : List Value → List Value) → ReturnsFirst returned → IsUnmoved (tail_calls returned)
tail_calls_show returned firsts = record {
  names = λ decls f g m. refl;
  blocks = λ decls f g m. refl;
  prices = (
    λ a. (record { least = omega arith; most = omega arith }, tt),
    omega arith,
    λ f.
        (record { least = omega arith; most = omega arith }, tt),
  );
  waits = λ ts ss all. omega arith;
  steps = λ setting decls ts ss run. record {
    forms = λ a made x t y s at. forms returned firsts setting ts ss _ a x t y s at.0 at.1;
    enters = λ a made t s e vs ws all. let at = made.is_made in
        begins returned firsts setting ts ss _ a a.target.word a.source.word at.is_made vs ws all t s e;
  };
}

pub all_first : ReturnsFirst (λ values. values)
all_first values = ([], sym (append-nil values))

none_first : ReturnsFirst (λ values. [])
none_first values = (values, refl)

-- units whose functions return nothing
pub units_drop : (s : UnitOf Relaying) (t : UnitOf Relayed) → t.decls ≡ s.decls → t.globals ≡ s.globals →
    AreDefined (language dropping) s.decls s.funs → AllMade IsTailing t.funs s.funs →
    UnitRefines (language tailing) (language dropping) t s
units_drop s t d g defined h = units_pass (unmoved (tail_calls (λ values. [])))
    (unmoved_is (tail_calls (λ values. [])) (tail_calls_show (λ values. []) none_first)) t s d g defined h
