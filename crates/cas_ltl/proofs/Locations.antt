-- The convention of LTL: its registers differ, are there, and are lost at nodes.
use Rattle.std.proofs.Common.{◌≡◌, ℕ, zero, suc, true, refl, sym, ap, ◌∙◌, eqb-true}
use Rattle.cas_base.specs.declared.reg.Reg.{Reg}
use Rattle.cas_base.specs.declared.reg.Reg.TheVariants.{Eax, Ecx, Edx, Ebx, Esp, Ebp, Esi, Edi}
use Rattle.cas_runs.proofs.Tests.{eq_self}
use Rattle.cas_ltl.specs.declared.tree.Loc.{Loc}
use Rattle.cas_ltl.specs.declared.tree.Loc.TheVariants as loc
use Rattle.cas_ltl.specs.Locations.{reg_number, same_loc}

abbrev reg_of : ℕ → Reg
reg_of zero = Eax
reg_of (suc zero) = Ecx
reg_of (suc (suc zero)) = Edx
reg_of (suc (suc (suc zero))) = Ebx
reg_of (suc (suc (suc (suc zero)))) = Esp
reg_of (suc (suc (suc (suc (suc zero))))) = Ebp
reg_of (suc (suc (suc (suc (suc (suc zero)))))) = Esi
reg_of (suc (suc (suc (suc (suc (suc (suc n))))))) = Edi

of_number : (a : Reg) → reg_of (reg_number a) ≡ a
of_number Eax = refl
of_number Ecx = refl
of_number Edx = refl
of_number Ebx = refl
of_number Esp = refl
of_number Ebp = refl
of_number Esi = refl
of_number Edi = refl

pub same_is : (a b : Loc) → same_loc a b ≡ true → a ≡ b
same_is (loc.Slot i) (loc.Slot j) e = ap loc.Slot (eqb-true i j e)
same_is (loc.Slot i) (loc.Reg b) e = absurd (cc e)
same_is (loc.Reg a) (loc.Slot j) e = absurd (cc e)
same_is (loc.Reg a) (loc.Reg b) e =
    ap loc.Reg (sym (of_number a) ∙ ap reg_of (eqb-true (reg_number a) (reg_number b) e) ∙ of_number b)

pub same_self : (a : Loc) → same_loc a a ≡ true
same_self (loc.Slot i) = eq_self i
same_self (loc.Reg a) = eq_self (reg_number a)
