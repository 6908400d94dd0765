-- Functions of the code are those that stand there.
use Rattle.std.proofs.Common.{◌≡◌, ℕ, zero, suc, List, [], ◌∷◌, map, Option, Some, None, refl, sym, ap, subst, ◌∙◌}
use Rattle.std.specs.Prelude.{slice_get, IsSome, IfSome}
use Rattle.std.specs.Option.{option_map}
use Rattle.std.proofs.lemmas.Option.{slice_get-map}
use Rattle.cas_base.specs.declared.kind.Ty.{Ty}
use Rattle.cas_base.specs.declared.place.Place.{Place}
use Rattle.cas_syntax.specs.Tree.{FunTree, ItemTree, define, item_tree, fun_tree}
use Rattle.cas_syntax.specs.declared.tree.Item.{Item}
use Rattle.cas_syntax.specs.declared.tree.Item.TheVariants.{Global, Prototype, Define}
use Rattle.cas_typed.specs.Modules.{return_type}
use Rattle.cas_typed.specs.Numbered.{IsFunctionOf}
use Rattle.cas_typed.specs.Resolved.{TypedFunTree, TypedModuleTree}
use Rattle.cas_typed.specs.Typed_as.{IsTypedAs}
use Rattle.cas_typed.specs.Whole.{AreFunctionsOf}
use Rattle.cas_typed.specs.declared.rows.TypedFun.{TypedFun}
use Rattle.cas_typed.specs.declared.typed.Typed.{Typed}
use Rattle.cas_typed.proofs.Bodied.{IsTyped-bodies}
use Rattle.cas_step.specs.Env.{FunctionAt}
use Rattle.cas_step.specs.Well_formed.{IsAt}
use Rattle.cas_program.specs.Program.{body_item, env_of, function_with, function_of, function_in}
use Rattle.cas_whole.specs.Bodies.{IsBodyIn, IsBodyOf, body_of, told, typed_at, typed_in}
use Rattle.cas_whole.specs.Program_of.{IsProgramOf}
use Rattle.cas_whole.specs.declared.body.Body.{Body}
use Rattle.cas_whole.specs.declared.program.Program.{Program}
use Rattle.cas_whole.proofs.Units.{module_at, resolved_at}

-- a function of the code is a resolved one, and the other way round

fun_at : (rs : List TypedFunTree) (fs : List TypedFun) (n : ℕ) (f : TypedFun) → AreFunctionsOf rs fs →
    slice_get fs n ≡ Some f → (r : TypedFunTree) × (slice_get rs n ≡ Some r) × IsFunctionOf r f
fun_at rs [] n f are is = absurd (cc is)
fun_at [] (g ∷ fs) n f are is = absurd are
fun_at (r ∷ rs) (g ∷ fs) zero f are is = let same : g ≡ f = cc is in (r, refl, subst (IsFunctionOf r) same are.0)
fun_at (r ∷ rs) (g ∷ fs) (suc n) f are is = fun_at rs fs n f are.1 is

tree_at : (rs : List TypedFunTree) (fs : List TypedFun) (n : ℕ) (r : TypedFunTree) → AreFunctionsOf rs fs →
    slice_get rs n ≡ Some r → (f : TypedFun) × (slice_get fs n ≡ Some f) × IsFunctionOf r f
tree_at [] fs n r are is = absurd (cc is)
tree_at (s ∷ rs) [] n r are is = absurd are
tree_at (s ∷ rs) (f ∷ fs) zero r are is = let same : s ≡ r =
    cc is in (f, refl, subst (λ s. IsFunctionOf s f) same are.0)
tree_at (s ∷ rs) (f ∷ fs) (suc n) r are is = tree_at rs fs n r are.1 is

-- what an item of the code says of a function

pub record Says (f : TypedFun) (o : Option ItemTree) (b : Body) : Type 0 where
  pub tree : FunTree
  pub item : o ≡ Some (define tree)
  pub typed : b.typed.now ≡ f
  pub ret : return_type tree.decl.form ≡ b.ret
  pub closing : tree.closing ≡ b.closing

says_of : (f : TypedFun) (o : Option Item) (b : Body) → Some (told b) ≡ body_of f o → Says f (option_map item_tree o) b
says_of f None b is = absurd (cc is)
says_of f (Some (Global d vs p)) b is = absurd (cc is)
says_of f (Some (Prototype d hs p)) b is = absurd (cc is)
says_of f (Some (Define g)) b is =
    let both : told b ≡ (f, return_type g.decl.form, g.closing) = cc is in record {
      tree = fun_tree g;
      item = refl;
      typed = λ i. (both i).0;
      ret = λ i. (sym both i).1;
      closing = λ i. (sym both i).2;
    }

-- the item of a resolved function has a body
has_item : (f : TypedFun) (o : Option Item) (tree : FunTree) → option_map item_tree o ≡ Some (define tree) →
    IsSome (body_of f o)
has_item f None tree is = absurd (cc is)
has_item f (Some (Global d vs p)) tree is = absurd (cc is)
has_item f (Some (Prototype d hs p)) tree is = absurd (cc is)
has_item f (Some (Define g)) tree is = refl

some_told : (o : Option Body) (p : Option (TypedFun × Ty × Place)) → option_map told o ≡ p → IsSome p → IsSome o
some_told None None is some = some
some_told None (Some p) is some = absurd (cc is)
some_told (Some b) p is some = refl

-- of one module
module _ (t : Typed) (r : TypedModuleTree) (is : IsTypedAs t r) where
  item_is : (g : ℕ) → option_map item_tree (slice_get t.filled.items g) ≡ slice_get r.module_tree.items g
  item_is g = sym (slice_get-map item_tree t.filled.items g) ∙ ap (λ tree. slice_get tree.items g) (sym is.module_tree)

  pub body_found : (place : ℕ) (f : TypedFun) (b : Body) → slice_get t.functions place ≡ Some f →
      Some (told b) ≡ body_of f (slice_get t.filled.items f.item) → IsBodyIn r place b
  body_found place f b there body =
      let (it, it_is, rows) = fun_at r.functions t.functions place f is.functions there in
      let says = says_of f (slice_get t.filled.items f.item) b body in record {
        it = it;
        there = it_is;
        rows = subst (IsFunctionOf it) (sym says.typed) rows;
        tree = says.tree;
        item = ap (slice_get r.module_tree.items) (sym rows.item) ∙ sym (item_is f.item) ∙ says.item;
        ret = says.ret;
        closing = says.closing;
      }

  pub body_there : (place : ℕ) (it : TypedFunTree) → slice_get r.functions place ≡ Some it →
      (f : TypedFun) × (slice_get t.functions place ≡ Some f) × IsSome (body_of f (slice_get t.filled.items f.item))
  body_there place it there =
      let (f, f_is, rows) = tree_at r.functions t.functions place it is.functions there in
      let (tree, tree_is, is_of) = (IsTyped-bodies r.module_tree r is.typed).each place it there in (
        f,
        f_is,
        has_item f (slice_get t.filled.items f.item) tree
            (item_is f.item ∙ ap (slice_get r.module_tree.items) rows.item ∙ is_of.item),
      )

-- as the code answers it

pub found_if : (o : Option Body) (t : Typed) (place : ℕ) (f : TypedFun) → slice_get t.functions place ≡ Some f →
    option_map told o ≡ body_of f (slice_get t.filled.items f.item) →
    IfSome o (λ b. (r : TypedModuleTree) → IsTypedAs t r → IsBodyIn r place b)
found_if None t place f there is = tt
found_if (Some b) t place f there is = λ r typed. body_found t r typed place f b there is

pub same_if : (o : Option Body) (t : Typed) (place : ℕ) (f : TypedFun) → slice_get t.functions place ≡ Some f →
    option_map told o ≡ body_of f (slice_get t.filled.items f.item) →
    IfSome o (λ b. slice_get t.functions place ≡ Some b.typed.now)
same_if None t place f there is = tt
same_if (Some b) t place f there is =
    let says = says_of f (slice_get t.filled.items f.item) b is in there
    ∙ ap (λ (f : TypedFun). Some f) (sym says.typed)

pub there_if : (o : Option Body) (t : Typed) (place : ℕ) (f : TypedFun) → slice_get t.functions place ≡ Some f →
    option_map told o ≡ body_of f (slice_get t.filled.items f.item) →
    (r : TypedModuleTree) (it : TypedFunTree) → IsTypedAs t r → slice_get r.functions place ≡ Some it → IsSome o
there_if o t place f there is r it typed at =
    let (g, g_is, some) = body_there t r typed place it at in
    let same : f ≡ g = cc (there, g_is) in
    some_told o (body_of f (slice_get t.filled.items f.item)) is
    (subst (λ (g : TypedFun). IsSome (body_of g (slice_get t.filled.items g.item))) (sym same) some)

-- a place past the functions of a module
pub none_past : {C : Type 0} (t : Typed) (place : ℕ) (r : TypedModuleTree) (it : TypedFunTree) →
    slice_get t.functions place ≡ None → IsTypedAs t r → slice_get r.functions place ≡ Some it → C
none_past t place r it past typed at =
    let (g, g_is, some) = body_there t r typed place it at in absurd (cc (past, g_is))

-- in a program

-- the function of a module is what the environment says
stands_so : (ms : List TypedModuleTree) (f : FunctionAt) (m : TypedModuleTree) (b : Body) →
    slice_get ms f.unit ≡ Some m → IsBodyIn m f.place b → IsBodyOf ms f b
stands_so ms f m b unit_is body =
    let is : (env_of ms).function f ≡ function_with body.it (Some body.tree) =
    ap (function_in f.place) unit_is ∙ ap (function_of m.module_tree.items) body.there
    ∙ ap (λ o. function_with body.it (body_item o)) body.item in record {
      unit = m;
      it = body.it;
      at = record { unit_is = unit_is; function_is = body.there };
      rows = body.rows;
      ret = ap (λ g. g.ret) is ∙ body.ret;
      closing = ap (λ g. g.closing) is ∙ body.closing;
      locals = ap (λ g. g.locals) is ∙ ap (map (λ v. v.ty)) (sym body.rows.locals);
      body = ap (λ g. g.body) is;
    }

pub program_found : (o : Option Body) (p : Program) (f : FunctionAt) (t : Typed) → slice_get p.modules f.unit ≡ Some t →
    IfSome o (λ b. (r : TypedModuleTree) → IsTypedAs t r → IsBodyIn r f.place b) →
    IfSome o (λ b. (ms : List TypedModuleTree) (names : List (List ℕ)) → IsProgramOf p ms names → IsBodyOf ms f b)
program_found None p f t at found = tt
program_found (Some b) p f t at found = λ ms names is.
    let (m, m_is, typed) = module_at p.modules ms f.unit t is.typed at in stands_so ms f m b m_is (found m typed)

pub program_same : (o : Option Body) (ts : List Typed) (n place : ℕ) (t : Typed) → slice_get ts n ≡ Some t →
    IfSome o (λ b. slice_get t.functions place ≡ Some b.typed.now) →
    IfSome o (λ b. typed_at ts n place ≡ Some b.typed.now)
program_same None ts n place t at same = tt
program_same (Some b) ts n place t at same = ap (λ (o : Option Typed). typed_in o place) at ∙ same

pub program_there : (o : Option Body) (p : Program) (f : FunctionAt) (t : Typed) → slice_get p.modules f.unit ≡ Some t →
    ((r : TypedModuleTree) (it : TypedFunTree) → IsTypedAs t r → slice_get r.functions f.place ≡ Some it → IsSome o) →
    (ms : List TypedModuleTree) (names : List (List ℕ)) (m : TypedModuleTree) (it : TypedFunTree) →
    IsProgramOf p ms names → IsAt ms f m it → IsSome o
program_there o p f t at there ms names m it is stands =
    let (n, n_is, typed) = module_at p.modules ms f.unit t is.typed at in
    let same : m ≡ n = cc (n_is, stands.unit_is) in
    there m it (subst (IsTypedAs t) (sym same) typed) stands.function_is

pub no_module : {C : Type 0} (p : Program) (f : FunctionAt) → slice_get p.modules f.unit ≡ None →
    (ms : List TypedModuleTree) (names : List (List ℕ)) (m : TypedModuleTree) (it : TypedFunTree) →
    IsProgramOf p ms names → IsAt ms f m it → C
no_module p f past ms names m it is stands =
    let (t, t_is, typed) = resolved_at p.modules ms f.unit m is.typed stands.unit_is in absurd (cc (past, t_is))
