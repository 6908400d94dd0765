-- The unit's call keeps what a source's keeps, and the unit that has the function may hear it.
use Rattle.std.proofs.Common.{◌≡◌, ℕ, zero, suc, ◌≤◌, [], Option, Some, refl, subst, arith}
use Rattle.std.specs.Prelude.{slice_get}
use Rattle.cas_runs.specs.Edge.{Signature, signature_of}
use Rattle.cas_runs.specs.Receiving.{IsSame, IsEmitted, IsReceivedAs, IsKnownAtBoth}
use Rattle.cas_runs.specs.Label.{Outside, Object, Call, Enter}
use Rattle.cas_runs.specs.Outside.{MayBring, Holds}
use Rattle.cas_runs.specs.Rules.{MayCross, EmitsInKind, EmitsLocks, CrossInKind}
use Rattle.cas_runs.proofs.Receiving.{calls_are_received}
use Rattle.cas_trial.specs.Fitting.{edge, first_object}
use Rattle.cas_trial.specs.Receiving.{other, before, emitted, their_object, received}
use Rattle.cas_trial.specs.Stages.{show_name}

-- each object has the same number there
abbrev same_number : ℕ → Option ℕ
same_number n = Some n

same_object : IsSame (first_object 3) their_object
same_object = record { owner = tt; kind = refl; size = refl; contents = refl }

said_there : (i j : ℕ) (o : Object) → slice_get emitted.objects i ≡ Some o → same_number i ≡ Some j → (new : Object)
    × (slice_get received.objects j ≡ Some new) × IsSame o new
said_there zero j o at number =
    let same : first_object 3 ≡ o = cc at in
    let here : 0 ≡ j = cc number in (
      their_object,
      subst (λ k. slice_get received.objects k ≡ Some their_object) here refl,
      subst
          (λ x. IsSame x their_object) same same_object,
    )
said_there (suc i) j o at number = absurd (cc at)

all_new : (j : ℕ) (new : Object) → 0 ≤ j → slice_get received.objects j ≡ Some new → (new.owner ≡ Outside)
    × IsEmitted emitted same_number j new
all_new zero new past at =
    let same : their_object ≡ new = cc at in
    subst (λ (x : Object). (x.owner ≡ Outside) × IsEmitted emitted same_number 0 x) same
    (refl, record { here = 0; object = first_object 3; shown = refl; numbers = refl; same = same_object })
all_new (suc j) new past at = absurd (cc at)

pub call_received : IsReceivedAs emitted received []
call_received = record {
  number = same_number;
  share = refl;
  values = (refl, tt);
  there = said_there;
  stays = λ j old new seen at. absurd (cc seen);
  comes = all_new;
  numbers = refl;
}

-- the function is known at both edges
abbrev known : IsKnownAtBoth edge other show_name
known = record {
  cells = refl;
  here = _;
  there = _;
  known_here = refl;
  known_there = refl;
  as_here = record { params = refl; ret = refl; holds = tt };
}

-- what is known of the function's signature
of_show : (P : Signature → Type 0) (s : Signature) → P (known.here) → signature_of edge.functions show_name ≡ Some s →
    P s
of_show P s h e = let same : known.here ≡ s = cc e in subst P same h

pub call_crosses : MayCross edge before (Some show_name) emitted
call_crosses =
    record {
      returns = tt;
      carries = record {
        share = tt;
        same_locks = refl;
        objects =
            (record { owner = refl; contents = refl }, tt);
        numbers = refl;
      };
    }

pub call_in_kind : EmitsInKind edge before (Call show_name emitted)
call_in_kind s e =
    of_show (λ (x : Signature). CrossInKind edge x.params emitted) s
    (record {
      values = (
        record { it = first_object 3; there = refl; same_kind = λ live. refl; in_reach = omega arith },
        tt,
      );
      share = tt;
      objects = ((refl, tt), tt);
      sizes = ((omega arith, omega arith), tt);
    }) e

pub call_holds : EmitsLocks edge before (Call show_name emitted)
call_holds s e = of_show (λ (x : Signature). Holds [] x.holds) s tt e

pub call_enters : MayBring other [] (Enter show_name received)
call_enters = calls_are_received edge other before [] show_name emitted received known refl call_crosses call_in_kind
    call_holds call_received (omega arith)
