-- Objects that are read have few functions.
use Rattle.std.proofs.Common.{◌≡◌, ◌<◌, ◌^◌, List, [], ◌∷◌, length, All, ap, arith}
use Rattle.std.proofs.lemmas.List.{length-map}
use Rattle.std.proofs.lemmas.List.Elements.{All-nil, All-cons}
use Rattle.cas_asm.specs.declared.line.AsmFun.{AsmFun}
use Rattle.cas_base.specs.Decl.{functions_of}
use Rattle.cas_base.specs.declared.decl.Decl.{Decl}
use Rattle.cas_base.specs.declared.decl.Unit.{Unit as Module}
use Rattle.cas_link.specs.Parts.{decls_in, units_of}
use Rattle.cas_object_laws.specs.Counts.{IsSmall, AreSmall}
use Rattle.cas_object_text.specs.Values.{IsWhole, AreWhole}
use Rattle.cas_object_text.specs.declared.object.Object.{Object}

abbrev pub IsFew : List Decl → Type 0
IsFew unit = length (functions_of unit) < 2 ^ 32

-- a unit's functions are its defined declarations of functions
few : (unit : Module AsmFun) → IsWhole unit → IsSmall unit → IsFew unit.decls
few unit whole small =
    omega (
      arith,
      small,
      ap length whole.definitions.functions,
      length-map unit.funs (λ (f : AsmFun). f.name),
      length-map (functions_of unit.decls) (λ (decl : Decl). decl.name),
    )

pub few_functions : (objects : List Object) → AreWhole (units_of objects) → AreSmall (units_of objects) →
    All IsFew (decls_in objects)
few_functions [] whole small = All-nil IsFew
few_functions (o ∷ os) whole small =
    All-cons IsFew o.unit.decls (decls_in os) (few o.unit whole.0 small.0) (few_functions os whole.1 small.1)
