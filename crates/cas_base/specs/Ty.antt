-- Kinds and types: which are the same, and how many words a global of a type has.
use Rattle.std.specs.Prelude.{ℕ, Bool, true, false, ◌&&◌, ◌==◌}
use Rattle.cas_base.specs.declared.kind.Kind.{Kind}
use Rattle.cas_base.specs.declared.kind.Kind.TheVariants.{I8, U8, I16, U16, I32, U32}
use Rattle.cas_base.specs.declared.kind.Ty.{Ty}
use Rattle.cas_base.specs.declared.kind.Ty.TheVariants.{Void, Int, Ptr, Array}

-- whether two kinds are the same
abbrev pub same_kind : Kind → Kind → Bool
same_kind I8 I8 = true
same_kind U8 U8 = true
same_kind I16 I16 = true
same_kind U16 U16 = true
same_kind I32 I32 = true
same_kind U32 U32 = true
same_kind _ _ = false

-- whether two types are the same
abbrev pub same_ty : Ty → Ty → Bool
same_ty Void Void = true
same_ty (Int kind) (Int other) = same_kind kind other
same_ty (Ptr kind) (Ptr other) = same_kind kind other
same_ty (Array kind len) (Array other count) = same_kind kind other && (len == count)
same_ty _ _ = false

-- the words of a global of this type: one, or one for each element of an array
abbrev pub words_of_ty : Ty → ℕ
words_of_ty Void = 0
words_of_ty (Int kind) = 1
words_of_ty (Ptr kind) = 1
words_of_ty (Array kind len) = len
