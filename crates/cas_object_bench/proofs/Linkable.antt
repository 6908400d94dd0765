-- Objects that are read may be linked: they are whole, and they and their functions are few.
use Rattle.std.proofs.Common.{ℕ, ◌≡◌, ◌<◌, ◌≤◌, ◌^◌, List, [], ◌∷◌, ◌++◌, All, length, Ok, refl, ap, sym, subst, arith}
use Rattle.std.proofs.lemmas.List.{length-map}
use Rattle.std.proofs.lemmas.List.Elements.{All-nil, All-cons, All-append}
use Rattle.cas_asm.specs.declared.line.AsmFun.{AsmFun}
use Rattle.cas_base.specs.Decl.{functions_of}
use Rattle.cas_base.specs.declared.decl.Decl.{Decl}
use Rattle.cas_base.specs.declared.decl.Unit.{Unit as Module}
use Rattle.cas_link.specs.Parts.{decls_in, units_of}
use Rattle.cas_object.specs.Texts.{read}
use Rattle.cas_object_laws.proofs.Counts.{read-few}
use Rattle.cas_object_laws.proofs.Wholes.{read-whole}
use Rattle.cas_object_laws.specs.Counts.{IsSmall, AreSmall}
use Rattle.cas_object_text.specs.Values.{IsWhole, AreWhole}
use Rattle.cas_object_text.specs.declared.object.Object.{Object}

abbrev pub IsFew : List Decl → Type 0
IsFew unit = length (functions_of unit) < 2 ^ 32

few-in : (unit : Module AsmFun) → IsWhole unit → IsSmall unit → IsFew unit.decls
few-in unit whole small =
    omega (
      arith,
      small,
      ap length whole.definitions.functions,
      length-map unit.funs (λ (f : AsmFun). f.name),
      length-map (functions_of unit.decls) (λ (decl : Decl). decl.name),
    )

-- the functions of each object that is read
few-functions : (objects : List Object) → AreWhole (units_of objects) → AreSmall (units_of objects) →
    All IsFew (decls_in objects)
few-functions [] whole small = All-nil IsFew
few-functions (o ∷ os) whole small =
    All-cons IsFew o.unit.decls (decls_in os) (few-in o.unit whole.0 small.0) (few-functions os whole.1 small.1)

units-length : (objects : List Object) → length (units_of objects) ≡ length objects
units-length objects = length-map objects (λ (o : Object). o.unit)

pub whole_of_read : (text : List ℕ) (objects : List Object) → read text ≡ Ok (units_of objects) →
    AreWhole (units_of objects)
whole_of_read text objects e = read-whole text (units_of objects) e

pub few_of_read : (text : List ℕ) (objects : List Object) → read text ≡ Ok (units_of objects) →
    length text ≤ 16777216 → length objects ≤ 16777216
few_of_read text objects e small =
    omega (arith, small, (read-few text (units_of objects) e).1, units-length objects)

pub functions_of_read : (text : List ℕ) (objects : List Object) → read text ≡ Ok (units_of objects) →
    All (λ unit. length (functions_of unit) < 2 ^ 32) (decls_in objects)
functions_of_read text objects e =
    few-functions objects (read-whole text (units_of objects) e) (read-few text (units_of objects) e).0

decls-append : (os ps : List Object) → decls_in (os ++ ps) ≡ decls_in os ++ decls_in ps
decls-append [] ps = refl
decls-append (o ∷ os) ps = ap (λ ds. o.unit.decls ∷ ds) (decls-append os ps)

-- of two lists of objects
pub few_append : (os ps : List Object) → All IsFew (decls_in os) → All IsFew (decls_in ps) →
    All IsFew (decls_in (os ++ ps))
few_append os ps few also =
    subst (All IsFew) (sym (decls-append os ps)) (All-append IsFew (decls_in os) (decls_in ps) few also)

whole-append : (us vs : List (Module AsmFun)) → AreWhole us → AreWhole vs → AreWhole (us ++ vs)
whole-append [] vs whole also = also
whole-append (u ∷ us) vs whole also = (whole.0, whole-append us vs whole.1 also)

units-append : (os ps : List Object) → units_of (os ++ ps) ≡ units_of os ++ units_of ps
units-append [] ps = refl
units-append (o ∷ os) ps = ap (λ us. o.unit ∷ us) (units-append os ps)

pub whole_append : (os ps : List Object) → AreWhole (units_of os) → AreWhole (units_of ps) →
    AreWhole (units_of (os ++ ps))
whole_append os ps whole also =
    subst AreWhole (sym (units-append os ps)) (whole-append (units_of os) (units_of ps) whole also)
