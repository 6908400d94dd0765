-- Names in code, by the rows of tables and by the objects.
use Rattle.std.proofs.Common.{◌≡◌, ℕ, Bool, true, false, cond, ◌||◌, List, [], ◌∷◌, Option, Some, is_some, ap, refl, ◌∙◌}
use Rattle.std.specs.List.{list_any}
use Rattle.std.specs.Option.{option_map}
use Rattle.std.specs.Str.{bytes_eq}
use Rattle.cas_base.specs.declared.decl.Global.{Global}
use Rattle.cas_settle.specs.declared.link.LinkFault.TheVariants.{NotDefined}
use Rattle.cas_asm.specs.declared.line.AsmFun.{AsmFun}
use Rattle.cas_object_text.specs.declared.object.Object.{Object}
use Rattle.cas_link.specs.Parts.{functions_in, globals_in}
use Rattle.cas_link.specs.Rows.{found}
use Rattle.cas_link.specs.Known.{data_rows, function_rows}
use Rattle.cas_link.specs.Refusal.{unknown_in_functions, names_fault}

is_some-cond : (b : Bool) (n : ℕ) (o : Option ℕ) → is_some (cond b (Some n) o) ≡ (b || is_some o)
is_some-cond true n o = refl
is_some-cond false n o = refl

data_found : (globals : List Global) (name : List ℕ) →
    is_some (found (data_rows globals) name) ≡ list_any (λ global. bytes_eq name global.decl.name) globals
data_found [] name = refl
data_found (g ∷ gs) name =
    is_some-cond (bytes_eq name g.decl.name) 0 (found (data_rows gs) name)
    ∙ ap (λ b. bytes_eq name g.decl.name || b) (data_found gs name)

function_found : (funs : List AsmFun) (name : List ℕ) →
    is_some (found (function_rows funs) name) ≡ list_any (λ f. bytes_eq name f.name) funs
function_found [] name = refl
function_found (f ∷ fs) name =
    is_some-cond (bytes_eq name f.name) 0 (found (function_rows fs) name)
    ∙ ap (λ b. bytes_eq name f.name || b) (function_found fs name)

-- the first unknown name by the tables is that of the objects
pub names_are : (objects : List Object) (globals : List Global) (funs : List AsmFun) → globals ≡ globals_in objects →
    funs ≡ functions_in objects
    → option_map (λ (n : List ℕ). NotDefined n) (unknown_in_functions (λ name. is_some (found (data_rows globals) name))
    (λ name. is_some (found (function_rows funs) name)) funs)
    ≡ names_fault objects
names_are objects globals funs p q =
    (λ i. option_map (λ (n : List ℕ). NotDefined n) (unknown_in_functions (λ name. data_found globals name i)
    (λ name. function_found funs name i) funs))
    ∙ (λ i. option_map (λ (n : List ℕ). NotDefined n)
    (unknown_in_functions (λ name. list_any (λ global. bytes_eq name global.decl.name) (p i))
    (λ name. list_any (λ f. bytes_eq name f.name) (q i)) (q i)))
