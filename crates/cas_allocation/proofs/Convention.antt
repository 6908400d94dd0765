-- The registers of the convention differ, they are there, and nodes lose what is in them.
use Rattle.std.proofs.Common.{◌≡◌, inl, inr, ℕ, true, ◌&&◌, List, [], ◌∷◌, refl, ap, ◌∙◌, subst}
use Rattle.cas_base.specs.declared.reg.Reg.TheVariants.{Eax, Ecx, Edx}
use Rattle.cas_ltl.specs.declared.tree.Loc.{Loc}
use Rattle.cas_ltl.specs.declared.tree.Loc.TheVariants as loc
use Rattle.cas_ltl.specs.Locations.{is_there, is_scratched, argument_registers, begin_with}
use Rattle.cas_ltl.proofs.Locations.{same_self}
use Rattle.cas_graphs.specs.Successors.{IsAmong}
use Rattle.cas_allocation.specs.Allocation.{in_registers}

-- no place is named twice
pub data AreApart : List Loc → Type 0 where
  none_apart : AreApart []
  one_apart : {p : Loc} {ps : List Loc} → (IsAmong ps p → ⊥) → AreApart ps → AreApart (p ∷ ps)

-- nodes lose what is there, and each is there
pub record IsRegister (slots : ℕ) (p : Loc) : Type 0 where
  pub lost : is_scratched p ≡ true
  pub there : is_there slots p ≡ true

abbrev pub AreRegisters : (slots : ℕ) → List Loc → Type 0
AreRegisters slots ps = (p : Loc) → IsAmong ps p → IsRegister slots p

no_eax : IsAmong (loc.Reg Edx ∷ loc.Reg Ecx ∷ []) (loc.Reg Eax) → ⊥
no_eax (inl e) = absurd (cc e)
no_eax (inr (inl e)) = absurd (cc e)
no_eax (inr (inr e)) = e

no_edx : IsAmong (loc.Reg Ecx ∷ []) (loc.Reg Edx) → ⊥
no_edx (inl e) = absurd (cc e)
no_edx (inr e) = e

pub arguments_apart : AreApart argument_registers
arguments_apart = one_apart no_eax (one_apart no_edx (one_apart (λ e. e) none_apart))

pub arguments_are : (slots : ℕ) → AreRegisters slots argument_registers
arguments_are slots p (inl e) = subst (λ q. IsRegister slots q) e (record { lost = refl; there = refl })
arguments_are slots p (inr (inl e)) = subst (λ q. IsRegister slots q) e (record { lost = refl; there = refl })
arguments_are slots p (inr (inr (inl e))) = subst (λ q. IsRegister slots q) e (record { lost = refl; there = refl })
arguments_are slots p (inr (inr (inr e))) = absurd e

pub begins_with : (rs ps : List Loc) → begin_with rs (in_registers rs ps) ≡ true
begins_with [] ps = refl
begins_with (r ∷ rs) [] = refl
begins_with (r ∷ rs) (p ∷ ps) =
    ap (λ b. b && begin_with rs (in_registers rs ps)) (same_self r) ∙ begins_with rs ps
