use Rattle.std.proofs.Common.{ℕ, ◌+◌, ◌∙◌, Bool, Option, Some, if◌then◌else◌, drop, sym, ap, eq-eqb, ne_eqb}
use Rattle.std.specs.Option.{option_copied, option_or}
use Rattle.cas_tso.specs.State.{newest}
use Rattle.cas_tso.proofs.Buffers.{passes, past}
use Rattle.cas_tso.proofs.pending.newest.Goals as goal
use Rattle.cas_tso.proofs.pending.newest.Goals.{in-Some+then-store-at, in-Some+else-store-at, in_default}

pub loop-index-preserved : goal.loop-index-preserved
loop-index-preserved c =
    let xs = c.args.buffer.now.items in
    let i = c.loop-index.index in
    let at = c.args.at in
    let was = c.loop-index.found in
    let f = λ (o : Option ℕ). option_or (newest (drop (i + 1) xs) at) o in
    elim c.match-get.branch [
      | in-Some+then-store-at w ↦ let x = w.in-Some.store.now in
          ap f (w.found-is
          ∙ sym (ap (λ (b : Bool). if b then Some x.value else was) (eq-eqb x.at at w.if-store-at.true)))
          ∙ (passes xs i x was at (sym c.get.ensures ∙ ap option_copied w.in-Some.is) ∙ c.loop-index.invariant)
      | in-Some+else-store-at w ↦ let x = w.in-Some.store.now in
          ap f (w.found-is
          ∙ sym (ap (λ (b : Bool). if b then Some x.value else was) (ne_eqb x.at at w.if-store-at.false)))
          ∙ (passes xs i x was at (sym c.get.ensures ∙ ap option_copied w.in-Some.is) ∙ c.loop-index.invariant)
      | in_default w ↦ ap f w.found-is
          ∙ (ap (λ (o : Option ℕ). option_or o was)
          (past xs i at (sym c.get.ensures ∙ ap option_copied w.in_default.is)) ∙ c.loop-index.invariant)
    ]
