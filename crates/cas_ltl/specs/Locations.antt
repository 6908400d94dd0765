-- The places of LTL: registers and slots, with the calling convention.
use Rattle.std.specs.Prelude.{ℕ, Bool, true, false, ◌&&◌, nat_eq, nat_lt, List, [], ◌∷◌}
use Rattle.cas_base.specs.declared.reg.Reg.{Reg}
use Rattle.cas_base.specs.declared.reg.Reg.TheVariants.{Eax, Ecx, Edx, Ebx, Esp, Ebp, Esi, Edi}
use Rattle.cas_runs.specs.Naming.{Hidden, Unset}
use Rattle.cas_rtl.specs.Graph.{Places}
use Rattle.cas_ltl.specs.declared.tree.Loc.{Loc}
use Rattle.cas_ltl.specs.declared.tree.Loc.TheVariants as loc

abbrev pub reg_number : Reg → ℕ
reg_number Eax = 0
reg_number Ecx = 1
reg_number Edx = 2
reg_number Ebx = 3
reg_number Esp = 4
reg_number Ebp = 5
reg_number Esi = 6
reg_number Edi = 7

abbrev pub same_loc : Loc → Loc → Bool
same_loc (loc.Slot i) (loc.Slot j) = nat_eq i j
same_loc (loc.Reg a) (loc.Reg b) = nat_eq (reg_number a) (reg_number b)
same_loc _ _ = false

-- esp is no place
abbrev pub is_there : (slots : ℕ) → Loc → Bool
is_there slots (loc.Slot i) = nat_lt i slots
is_there slots (loc.Reg Esp) = false
is_there slots (loc.Reg _) = true

-- what machine instructions need is lost
abbrev pub is_scratched : Loc → Bool
is_scratched (loc.Reg Eax) = true
is_scratched (loc.Reg Ecx) = true
is_scratched (loc.Reg Edx) = true
is_scratched _ = false

-- where the first arguments are, and what is returned
abbrev pub argument_registers : List Loc
argument_registers = loc.Reg Eax ∷ loc.Reg Edx ∷ loc.Reg Ecx ∷ []

abbrev pub result_register : Loc
result_register = loc.Reg Eax

-- the places begin with these registers, as far as they go
abbrev pub begin_with : (registers places : List Loc) → Bool
begin_with [] ps = true
begin_with (r ∷ rs) [] = true
begin_with (r ∷ rs) (p ∷ ps) = same_loc p r && begin_with rs ps

abbrev pub locations : Places Loc
locations = record {
  equal = same_loc;
  has = is_there;
  scratched = is_scratched;
  first = λ p. Hidden Unset;
  passes = begin_with argument_registers;
  returns = λ p. same_loc p result_register;
}
