use Rattle.cas_typed.proofs.typed.Typed.new.Goals as goal

pub invariant_of-result : goal.invariant_of-result
invariant_of-result c = record { typed = ∣ c.requires ∣₁ }
