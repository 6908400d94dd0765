-- A run in which some thread ended Bad, Stack, Outs or Fuel.
use Rattle.std.proofs.Common.{◌≡◌, ℕ, zero, suc, Bool, true, false, ◌||◌, if◌then◌else◌, List, [], ◌∷◌, map, Option, Some, None, slice_get, refl, subst}
use Rattle.std.specs.List.{list_any}
use Rattle.cas_tso.specs.Report.{thread_end}
use Rattle.cas_tso.specs.State.{Thread}
use Rattle.cas_tso.specs.Timed.{has_finished, has_finished_at}
use Rattle.cas_tso.specs.declared.end.End.{End}
use Rattle.cas_tso.specs.declared.end.End.TheVariants as end
use Rattle.cas_tso.specs.declared.report.Report.{Report}
use Rattle.cas_tso.specs.declared.report.ThreadEnd.{ThreadEnd}
use Rattle.cas_exec.specs.Endings.{ending_of, is_bad, is_bad_end, is_fuel, is_fuel_end, is_outs, is_outs_end, is_stack, is_stack_end}
use Rattle.cas_exec.specs.Runs.{IsExecuted}
use Rattle.cas_tso.specs.State.{Setup}
use Rattle.cas_exec.specs.declared.ending.Ending.TheVariants as ending

none_of : (a b c d : Bool) → (if a then ending.Bad else if b then ending.Stack else if c then ending.Outs
    else if d then ending.Fuel else ending.Done) ≡ ending.Done →
    (a ≡ false) × (b ≡ false) × (c ≡ false) × (d ≡ false)
none_of true b c d h = cc
none_of false true c d h = cc
none_of false false true d h = cc
none_of false false false true h = cc
none_of false false false false h = (refl, refl, refl, refl)

or_first : (a b : Bool) → (a || b) ≡ false → a ≡ false
or_first false b h = refl
or_first true b h = cc

or_second : (a b : Bool) → (a || b) ≡ false → b ≡ false
or_second false b h = h
or_second true b h = cc

none_at : (test : ThreadEnd → Bool) (ts : List ThreadEnd) → list_any test ts ≡ false → (i : ℕ) (t : ThreadEnd) →
    slice_get ts i ≡ Some t → test t ≡ false
none_at test [] h i t at = cc
none_at test (x ∷ ts) h zero t at =
    subst (λ (y : ThreadEnd). test y ≡ false) (cc) (or_first (test x) (list_any test ts) h)
none_at test (x ∷ ts) h (suc i) t at = none_at test ts (or_second (test x) (list_any test ts) h) i t at

done_end : (e : Option End) → (has : Bool) → is_bad_end e ≡ false → is_stack_end e ≡ false → is_outs_end e ≡ false →
    is_fuel_end e ≡ false → (e ≡ None → ⊥) → e ≡ Some end.Done
done_end None has b s o f some = absurd (some refl)
done_end (Some end.Done) has b s o f some = refl
done_end (Some end.Fuel) has b s o f some = cc
done_end (Some end.Stack) has b s o f some = cc
done_end (Some end.Outs) has b s o f some = cc
done_end (Some (end.Bad why)) has b s o f some = cc

-- what is reported of the thread at a place is that of the thread there
reported : (ts : List Thread) (i : ℕ) (t : ThreadEnd) → slice_get (map thread_end ts) i ≡ Some t →
    (c : Thread) × (slice_get ts i ≡ Some c) × (t ≡ thread_end c)
reported [] i t at = cc
reported (c ∷ ts) zero t at = (c, refl, cc)
reported (c ∷ ts) (suc i) t at = reported ts i t at

no_end : (c : Thread) → has_finished c ≡ true → c.ended ≡ None → ⊥
no_end c h none =
    let is : has_finished_at None c.buffer ≡ true =
    subst (λ (e : Option End). has_finished_at e c.buffer ≡ true) none h in
    cc

pub all_done : (p : Setup) (report : Report) → IsExecuted p report → ending_of report.threads ≡ ending.Done →
    (i : ℕ) (t : ThreadEnd) → slice_get report.threads i ≡ Some t → t.end ≡ Some end.Done
all_done p report (acts, s, run, ended, is) h i t at =
    let none = none_of (list_any is_bad report.threads) (list_any is_stack report.threads)
    (list_any is_outs report.threads) (list_any is_fuel report.threads) h in
    let found = reported s.threads i t (subst (λ (r : Report). slice_get r.threads i ≡ Some t) is at) in
    let finished = ended i found.0 found.1 in
    done_end t.end true (none_at is_bad report.threads none.0 i t at) (none_at is_stack report.threads none.1 i t at)
    (none_at is_outs report.threads none.2 i t at) (none_at is_fuel report.threads none.3 i t at)
    (λ none. no_end found.0 finished (subst (λ (x : ThreadEnd). x.end ≡ None) found.2 none))
