-- A unit of the trial's languages, an edge at which it may run, and labels of a run in which a pointer crosses and
-- comes back.
use Rattle.std.specs.Prelude.{ℕ, zero, suc, true, false, List, [], ◌∷◌, Some, None, if◌then◌else◌}
use Rattle.cas_base.specs.declared.kind.Kind.TheVariants.{I32}
use Rattle.cas_base.specs.declared.kind.Ty.TheVariants.{Void, Int, Ptr}
use Rattle.cas_base.specs.declared.decl.Decl.{Decl}
use Rattle.cas_base.specs.declared.decl.Form.TheVariants as forms
use Rattle.cas_base.specs.declared.decl.Global.{Global}
use Rattle.cas_runs.specs.Label.{same_name, Place, Inside, Object, RunLabel, Lock, Unlock, Out, Enter, Back, Call}
use Rattle.cas_runs.specs.Edge.{Edge, LockWord, SharedWord, Words}
use Rattle.cas_runs.specs.Naming.{Part, Layout}
use Rattle.cas_runs.specs.Unit.{Setting}
use Rattle.cas_trial.specs.declared.joining.Apart.{Apart}
use Rattle.cas_trial.specs.Stages.{main_name, show_name, lock_name, global_name}

-- `lock l; shared(l) int g = 5; void main(void) { .. }` and the declaration of `int *show(int *);`
abbrev pub lock_decl : Decl
lock_decl = record { name = lock_name; form = forms.Lock; defined = true }

abbrev pub global_decl : Decl
global_decl = record { name = global_name; form = forms.Shared (Int I32) lock_name; defined = true }

abbrev pub main_decl : Decl
main_decl = record { name = main_name; form = forms.Function Void [] []; defined = true }

abbrev pub show_decl : Decl
show_decl = record { name = show_name; form = forms.Function (Ptr I32) (Ptr I32 ∷ []) []; defined = false }

abbrev pub decls : List Decl
decls = lock_decl ∷ global_decl ∷ main_decl ∷ show_decl ∷ []

abbrev pub globals : List Global
globals = record { decl = lock_decl; values = [] } ∷ record { decl = global_decl; values = 5 ∷ [] } ∷ []

-- the lock is word 0, and it guards word 1
abbrev pub words : Words
words = λ name. if same_name name lock_name then Some (record { first = 0; size = 1 })
    else if same_name name global_name then Some (record { first = 1; size = 1 }) else None

abbrev pub edge : Edge
edge = record {
  cells = LockWord ∷ SharedWord I32 (Some 0) 5 ∷ [];
  words = words;
  functions = record { name = main_name; ret = Void; params = []; holds = []; inside = true }
      ∷ record { name = show_name; ret = Ptr I32; params = Ptr I32 ∷ []; holds = []; inside = false } ∷ [];
}

-- the first two blocks are one word each
abbrev pub two_words : ℕ → List Part
two_words zero = record { from = 0; size = 1; kind = I32 } ∷ []
two_words (suc zero) = record { from = 0; size = 1; kind = I32 } ∷ []
two_words (suc (suc block)) = []

-- each variable is an object
abbrev pub one_word_each : Layout
one_word_each = λ function. two_words

abbrev pub setting : Setting
setting =
    record {
      edge = edge;
      layout = one_word_each;
      stack = record { address = 268435456; size = 16 };
      code =
          λ name. if same_name name main_name then record { first = 8; size = 16 }
          else record { first = 24; size = 16 };
      unknown = λ occasion place. 0;
    }

-- the first variable with this word
abbrev pub first_object : ℕ → Object
first_object w = record { owner = Inside; kind = I32; size = 1; contents = Some (Some w ∷ []) }

-- the outside enters, and gets the place after the variable whose word is 3. It leaves 9 there, and comes back with its
-- place: 9 is put out, and then the second variable's 7
abbrev pub labels : List RunLabel
labels =
    Out 7 ∷ Out 9 ∷ Back (record { values = Place 0 0 ∷ []; share = []; objects = first_object 9 ∷ [] })
    ∷ Call show_name (record { values = Place 0 1 ∷ []; share = []; objects = first_object 3 ∷ [] })
    ∷ Unlock 0 (3 ∷ []) ∷ Lock 0 (5 ∷ []) ∷ Enter main_name (record { values = []; share = []; objects = [] }) ∷ []

-- the program with the variables 3 and 7
abbrev pub program : Apart
program = record { first = 3; second = 7 }
