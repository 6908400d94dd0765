-- Registers as they are printed are words, are no numbers, and are read as themselves.
use Rattle.std.proofs.Common.{◌≡◌, ℕ, List, true, false, Option, Some, None, refl, sym, ◌∙◌, ap}
use Rattle.cas_base.specs.declared.reg.Reg.{Reg}
use Rattle.cas_base.specs.declared.reg.Reg.TheVariants.{Eax, Ecx, Edx, Ebx, Esp, Ebp, Esi, Edi}
use Rattle.cas_pieces.specs.Words.{is_word}
use Rattle.cas_pieces.specs.Numbers.{is_numeral}
use Rattle.cas_pieces.proofs.Tables.{find-spelt}
use Rattle.cas_object_line.specs.Tables.{register_of, register_text, registers}
use Rattle.cas_object_print.specs.Words.{register}

pub is_word-register : (r : Reg) → is_word (register r) ≡ true
is_word-register Eax = refl
is_word-register Ecx = refl
is_word-register Edx = refl
is_word-register Ebx = refl
is_word-register Esp = refl
is_word-register Ebp = refl
is_word-register Esi = refl
is_word-register Edi = refl

pub is_numeral-register : (r : Reg) → is_numeral (register r) ≡ false
is_numeral-register Eax = refl
is_numeral-register Ecx = refl
is_numeral-register Edx = refl
is_numeral-register Ebx = refl
is_numeral-register Esp = refl
is_numeral-register Ebp = refl
is_numeral-register Esi = refl
is_numeral-register Edi = refl

pub register_of-register : (r : Reg) → register_of (register r) ≡ Some r
register_of-register Eax = refl
register_of-register Ecx = refl
register_of-register Edx = refl
register_of-register Ebx = refl
register_of-register Esp = refl
register_of-register Ebp = refl
register_of-register Esi = refl
register_of-register Edi = refl

same_text : (r : Reg) → register_text r ≡ register r
same_text Eax = refl
same_text Ecx = refl
same_text Edx = refl
same_text Ebx = refl
same_text Esp = refl
same_text Ebp = refl
same_text Esi = refl
same_text Edi = refl

clash : true ≡ false → ⊥
clash e = cc

-- a number is no register
pub register_of-numeral : (x : List ℕ) → is_numeral x ≡ true → register_of x ≡ None
register_of-numeral x h = by_found (register_of x) refl
  where
    by_found : (o : Option Reg) → register_of x ≡ o → o ≡ None
    by_found None e = refl
    by_found (Some r) e =
        let spelt : x ≡ register r = find-spelt register_text registers x r e ∙ same_text r in
        absurd (clash (sym h ∙ (ap is_numeral spelt ∙ is_numeral-register r)))
