-- A unit that shows another place of its variable doesn't refine.
use Rattle.std.proofs.Common.{◌≡◌, ℕ, [], ◌∷◌, Option, Some, None, refl, subst, ⊎_elim, arith}
use Rattle.cas_base.specs.declared.kind.Kind.TheVariants.{I32}
use Rattle.cas_runs.specs.Label.{Place, Inside, RunLabel, Enter}
use Rattle.cas_runs.specs.Machine.{Act, Quiet, Crosses, Names}
use Rattle.cas_runs.specs.Outside.{MayBring}
use Rattle.cas_runs.specs.Refines.{Comes, Answered, Refines}
use Rattle.cas_runs.specs.Calls.{Thread, receives, of_unit, no_past, no_holding}
use Rattle.cas_runs.specs.Pointing.{main_name, Pointing, pointing, edge, setting, shows}
use Rattle.cas_runs.proofs.Refining.{IsQuiet, one_state}
use Rattle.cas_runs.proofs.Composing.{IsCrossing}
use Rattle.cas_runs.proofs.Sanity.{ComesTo, comes_first, comes_by, has_run_to, stands_at, not_bad, bad_first, bad_last}

-- the outside enters
abbrev entered : RunLabel
entered = Enter main_name (record { values = []; share = []; objects = [] })

-- the end of the variable is shown
abbrev shown : Names
shown = record {
  values = Place 0 1 ∷ [];
  objects = record
      { owner = Inside; kind = I32; size = 1; contents = Some (Some 0 ∷ []) } ∷ [];
}

-- where the unit stands then, at its call
abbrev after : (place : ℕ) → Thread ℕ Pointing
after place = receives pointing setting (of_unit (place ∷ [])) [] no_past no_holding entered

may_enter : MayBring edge [] entered
may_enter =
    record {
      signature = _;
      known = refl;
      inside = refl;
      values = tt;
      holds = tt;
      brings =
          record { share = tt; objects = tt; room = omega arith; numbers = refl };
    }

comes : (place : ℕ) → ComesTo edge (shows place) (entered ∷ []) (after place)
comes place = comes_by edge (shows place) [] entered (shows place).start (after place) (comes_first edge (shows place))
    (may_enter, refl)

-- the names of a Call or a Leave
abbrev pub next_of : Act (Thread ℕ Pointing) → Names → Option (Thread ℕ Pointing)
next_of (Crosses f share next) = next
next_of _ = λ n. None

-- the unit that shows the end can show it
there : (y : Thread ℕ Pointing) × (next_of ((shows 1).act (after 1)) shown ≡ Some y)
there = (_, refl)

-- an act that crosses is answered by none that is quiet, and by one whose names it has
crossing_loud : (a b : Act (Thread ℕ Pointing)) → Answered a b → IsCrossing a → IsQuiet b → ⊥
crossing_loud (Crosses f share next) (Quiet z) h c q = h
crossing_loud a (Quiet z) h c q = absurd c
crossing_loud a b h c q = absurd q

answered_next : (a b : Act (Thread ℕ Pointing)) → Answered a b → IsCrossing a → (n : Names) (y : Thread ℕ Pointing) →
    next_of b n ≡ Some y → next_of a n ≡ None → ⊥
answered_next (Crosses f share next) (Crosses g other s_next) h c n y e none = let each = h.2.each n y e in let is =
    each.1 in cc (is, none)
answered_next (Crosses f share next) b h c n y e none = absurd h
answered_next a b h c n y e none = absurd c

-- the other can't
names_too : Comes edge (shows 1) (entered ∷ []) (λ y. Answered ((shows 0).act (after 0)) ((shows 1).act y.at)) → ⊥
names_too n =
    let at : ComesTo edge (shows 1) (entered ∷ []) (after 1) = comes 1 in
    let same : n.to.at ≡ after 1 = one_state edge (shows 1) n.run at.run
    (crossing_loud ((shows 0).act (after 0)) ((shows 1).act n.to.at) n.there tt) (λ q. q) in
    answered_next ((shows 0).act (after 0)) ((shows 1).act (after 1))
    (subst (λ v. Answered ((shows 0).act (after 0)) ((shows 1).act v)) same n.there) tt shown there.0 there.1 refl

pub wrong_place : Refines edge (shows 0) (shows 1) → ⊥
wrong_place h =
    let t : ComesTo edge (shows 0) (entered ∷ []) (after 0) = comes 0 in
    let s : ComesTo edge (shows 1) (entered ∷ []) (after 1) = comes 1 in
    ⊎_elim
    (λ b. ⊎_elim (not_bad edge (shows 1) (entered ∷ []) (after 1) s (λ q. q) (λ q. q))
    (λ b. not_bad edge (shows 1) [] (shows 1).start (comes_first edge (shows 1)) (λ q. q) (λ q. q)
    (bad_first edge (shows 1) b))
    (bad_last edge (shows 1) entered [] b))
    names_too
    (h.answers (entered ∷ []) (stands_at edge (shows 0) t) t.run (has_run_to edge (shows 1) (entered ∷ []) (after 1) s))
