-- Declarations of one name in several modules stand for the same: functions hold the same locks, globals have one
-- guard.
use Rattle.std.proofs.Common.{arith, ◌≡◌, inl, inr, ℕ, suc, Bool, true, false, List, [], ◌∷◌, Option, Some, None, refl, sym, ap, subst, ◌∙◌}
use Rattle.std.specs.Prelude.{slice_get, Contains}
use Rattle.std.specs.Option.{option_map}
use Rattle.std.proofs.lemmas.Option.{slice_get-get_or, slice_get-map}
use Rattle.cas_base.specs.Decl.{is_function, definition_of}
use Rattle.cas_base.specs.declared.decl.Decl.{Decl}
use Rattle.cas_base.specs.declared.decl.Form.{Form}
use Rattle.cas_base.specs.declared.decl.Form.TheVariants.{Lock, Shared, Table, Function as AFunction}
use Rattle.cas_base.specs.declared.kind.Ty.{Ty}
use Rattle.cas_own.specs.Locks.{lock_named, lock_and, locks_named, holds_of, holds_of_form, of_declared}
use Rattle.cas_settle.specs.Settle.{place_of as place_named}
use Rattle.cas_settle.specs.declared.link.CellRow.{CellRow}
use Rattle.cas_step.specs.Env.{FunctionAt, Entity, function, shared, lock}
use Rattle.cas_step.specs.Well_formed.{IsAt}
use Rattle.cas_typed.specs.Modules.{decl_of, held_by, decls_of}
use Rattle.cas_typed.specs.Resolved.{TypedFunTree, TypedModuleTree}
use Rattle.cas_program.specs.Laws.{Declares, DeclarationsAgree, HoldsWord, AreSameFunctions, FunctionsAgree, GuardsAgree}
use Rattle.cas_program.specs.Program.{IsProgram, units_of, cell_entity, entity_of_cell, cell_named, function_entity, stands_for, env_of}
use Rattle.cas_program.proofs.Agreeing.{AreAlike, AreSameNames, alike_back, alike_through, alike_agrees, alike_functions, IsIn, in_at}
use Rattle.cas_program.proofs.Locking.{holds_lock, lock_named_is}
use Rattle.cas_program.proofs.Meanings.{unmapped, declared_is, is_declared, definition_is, module_typed, IsFound, found_at, found_is_at, stands_alike}
use Rattle.cas_program.proofs.Meanings as meant
use Rattle.cas_program.proofs.Environments.{words_apart}

-- elements

pub contains_in : {X : Type 0} (xs : List X) (x : X) → Contains xs x → IsIn xs x
contains_in xs x (k, less, is) = in_at xs k x (slice_get-get_or xs k x less ∙ ap Some is)

pub in_contains : {X : Type 0} (xs : List X) (x : X) → IsIn xs x → Contains xs x
in_contains [] x h = absurd h
in_contains (y ∷ ys) x (inl is) = (0, omega arith, is)
in_contains (y ∷ ys) x (inr h) = let (k, less, is) = in_contains ys x h in (suc k, omega (arith, less), is)

-- the locks that names mean

meant_by : (o : Option ℕ) (ls : List ℕ) (l : ℕ) → IsIn (lock_and o ls) l → (IsIn ls l → ⊥) → o ≡ Some l
meant_by None ls l h other = absurd (other h)
meant_by (Some m) ls l (inl is) other = ap Some is
meant_by (Some m) ls l (inr h) other = absurd (other h)

in_and : (o : Option ℕ) (ls : List ℕ) (l : ℕ) → IsIn ls l → IsIn (lock_and o ls) l
in_and None ls l h = h
in_and (Some m) ls l h = inr h

first_and : (o : Option ℕ) (ls : List ℕ) (l : ℕ) → o ≡ Some l → IsIn (lock_and o ls) l
first_and None ls l is = absurd (cc is)
first_and (Some m) ls l is = inl (cc is)

-- a lock that is among those that names mean is meant by one of them
one_of : (decls : List Decl) (name : List ℕ) (names : List (List ℕ)) (o : Option ℕ) (ls : List ℕ) (l : ℕ) →
    lock_named decls name ≡ o → IsIn (lock_and o ls) l →
    (IsIn ls l → (n : List ℕ) × IsIn names n × (lock_named decls n ≡ Some l)) → (n : List ℕ) × IsIn (name ∷ names) n
    × (lock_named decls n ≡ Some l)
one_of decls name names None ls l is h rest = let (n, within, named) = rest h in (n, inr within, named)
one_of decls name names (Some m) ls l is (inl same) rest = (name, inl refl, is ∙ ap Some same)
one_of decls name names (Some m) ls l is (inr h) rest = let (n, within, named) = rest h in (n, inr within, named)

named_in : (decls : List Decl) (names : List (List ℕ)) (l : ℕ) → IsIn (locks_named decls names) l → (name : List ℕ)
    × IsIn names name × (lock_named decls name ≡ Some l)
named_in decls [] l h = absurd h
named_in decls (name ∷ names) l h = one_of decls name names (lock_named decls name) (locks_named decls names) l refl h
    (named_in decls names l)

in_named : (decls : List Decl) (names : List (List ℕ)) (name : List ℕ) (l : ℕ) → IsIn names name →
    lock_named decls name ≡ Some l → IsIn (locks_named decls names) l
in_named decls [] name l h is = absurd h
in_named decls (n ∷ ns) name l (inl same) is = first_and (lock_named decls n) (locks_named decls ns) l
    (ap (lock_named decls) same ∙ is)
in_named decls (n ∷ ns) name l (inr h) is = in_and (lock_named decls n) (locks_named decls ns) l
    (in_named decls ns name l h is)

-- what stands for a function is declared as one

no_cell_function : (row : CellRow) (l t : Bool) (f : FunctionAt) → cell_entity row l t ≡ function f → ⊥
no_cell_function row true t f is = cc is
no_cell_function row false true f is = cc is
no_cell_function row false false f is = cc is

no_named_function : (o : Option CellRow) (f : FunctionAt) → option_map entity_of_cell o ≡ Some (function f) → ⊥
no_named_function None f is = cc is
no_named_function (Some row) f is = let same : entity_of_cell row ≡ function f =
    cc is in no_cell_function row row.lock row.constant f same

function_form : (units : List (List Decl)) (name : List ℕ) (form : Form) (f : FunctionAt) →
    stands_for units name form ≡ Some (function f) → is_function form ≡ true
function_form units name Lock f is = absurd (no_named_function (cell_named units name) f is)
function_form units name (Shared t l) f is = absurd (no_named_function (cell_named units name) f is)
function_form units name (Table t) f is = absurd (no_named_function (cell_named units name) f is)
function_form units name (AFunction ret params holds) f is = refl

function_place : (units : List (List Decl)) (name : List ℕ) (form : Form) (f : FunctionAt) → is_function form ≡ true →
    stands_for units name form ≡ option_map function_entity (place_named units name)
function_place units name Lock f is = absurd (cc is)
function_place units name (Shared t l) f is = absurd (cc is)
function_place units name (Table t) f is = absurd (cc is)
function_place units name (AFunction ret params holds) f is = refl

-- locks of one name have one word
one_word : (there here : Option Entity) (named : Option ℕ) (u v w : ℕ) → there ≡ Some (lock u) → named ≡ Some u →
    here ≡ Some (lock v) → named ≡ Some v → here ≡ Some (lock w) → there ≡ Some (lock w)
one_word there here named u v w is_there is_u is_here is_v is_w = cc

-- functions that are alike
pub record AreFunctions (f g : Form) : Type 0 where
  pub ret : Ty
  pub params : List Ty
  pub holds : List (List ℕ)
  pub held : List (List ℕ)
  pub first_is : f ≡ AFunction ret params holds
  pub second_is : g ≡ AFunction ret params held
  pub same : AreSameNames holds held

pub are_functions : (f g : Form) → AreAlike f g → is_function g ≡ true → AreFunctions f g
are_functions _ _ AreAlike.locks is = absurd (cc is)
are_functions _ _ (AreAlike.shared_ones t l) is = absurd (cc is)
are_functions _ _ (AreAlike.tables t) is = absurd (cc is)
are_functions _ _ (AreAlike.functions ret params holds held same) is =
    record { ret = ret; params = params; holds = holds; held = held; first_is = refl; second_is = refl; same = same }

module _ (modules : List TypedModuleTree) (names : List (List ℕ)) (program : IsProgram modules names) where
  -- the locks that a function holds
  holds_is : (n g : ℕ) (decls : List Decl) (ret : Ty) (params : List Ty) (holds : List (List ℕ)) →
      ((d : Decl) × (slice_get decls g ≡ Some d) × (d.form ≡ AFunction ret params holds)) →
      holds_of decls g ≡ locks_named decls holds
  holds_is n g decls ret params holds (d, there, form) = ap (of_declared (holds_of_form decls) []) there
      ∙ ap (holds_of_form decls) form

  -- a name in a `holds` means a lock of its module
  held_lock : (n g : ℕ) (d : Decl) (decls : List Decl) (ret : Ty) (params : List Ty) (holds : List (List ℕ))
      (name : List ℕ) → slice_get (units_of modules) n ≡ Some decls → slice_get decls g ≡ Some d →
      d.form ≡ AFunction ret params holds → IsIn holds name →
      (l : ℕ) × (lock_named decls name ≡ Some l)
  held_lock n g d decls ret params holds name at there form h =
      let (unit, unit_is, declares) = unmapped decls_of modules n decls at in
      let (l, is) = holds_lock (module_typed modules names program n unit unit_is).functions g d name
      (ap (λ ds. slice_get ds g) declares ∙ there) (subst (λ f. IsIn (held_by f) name) (sym form) h) in
      (l, ap (λ ds. lock_named ds name) (sym declares) ∙ is)

  words_go : (n g m h : ℕ) (d e : Decl) (ret other : Ty) (params others : List Ty) (holds held : List (List ℕ)) →
      Declares modules n g d → d.form ≡ AFunction ret params holds → Declares modules m h e →
      e.form ≡ AFunction other others held →
      ((name : List ℕ) → IsIn holds name → IsIn held name) → (w : ℕ) → HoldsWord modules n g w → HoldsWord modules m h w
  words_go n g m h d e ret other params others holds held (decls, at, there) form (es, also, here) same within w
      (ds, l, is, contains, entity) =
      let both : Some ds ≡ Some decls = sym is ∙ at in
      let decls_is : ds ≡ decls = cc both in
      let lock_in = subst (λ ls. IsIn ls l) (ap (λ ds. holds_of ds g) decls_is
      ∙ holds_is n g decls ret params holds (d, there, form)) (contains_in (holds_of ds g) l contains) in
      let (name, name_in, named) = named_in decls holds l lock_in in
      let (v, lock_is, word) = lock_named_is modules names program n l decls name at named in
      let (k, named_there) = held_lock m h e es other others held name also here same (within name name_in) in
      let (u, lock_there, word_there) = lock_named_is modules names program m k es name also named_there in (
        es,
        k,
        also,
        in_contains (holds_of es h) k (subst (λ ls. IsIn ls k) (sym (holds_is m h es other others held (e, here, same)))
            (in_named es held name k (within name name_in) named_there)),
        one_word ((env_of modules).entity m k) ((env_of modules).entity n l) (meant.word_of modules names program name)
            u v w lock_there word_there lock_is word entity,
      )

  alike_by_name : (n g m h : ℕ) (d e : Decl) → Declares modules n g d → Declares modules m h e → d.name ≡ e.name →
      AreAlike d.form e.form
  alike_by_name n g m h d e here there same =
      let of = definition_is modules names program n g d here in
      let also = definition_is modules names program m h e there in
      let both : Some of.definition ≡ Some also.definition =
      sym of.found ∙ ap (definition_of (meant.defined modules names program)) same ∙ also.found in
      let one : of.definition ≡ also.definition = cc both in
      alike_through d.form of.definition.form e.form (alike_back of.definition.form d.form of.alike)
      (subst (λ (x : Decl). AreAlike x.form e.form) (sym one) also.alike)

  -- the function at a place, by the item that stands for it
  function_at : (n g : ℕ) (d : Decl) → Declares modules n g d →
      (definition : Decl) (found : IsFound modules names program d.name definition) →
      AreFunctions definition.form d.form →
      (unit : TypedModuleTree) × (it : TypedFunTree) × IsAt modules found.f unit it
      × AreSameFunctions modules n g found.f.unit it.item
  function_at n g d declares definition found forms =
      let there = found.defined_there in
      let item : Declares modules found.f.unit there.it.item there.tree.decl = (
        decls_of found.unit,
        slice_get-map decls_of modules found.f.unit
            ∙ ap (option_map decls_of) found.unit_is,
        slice_get-map decl_of found.unit.module_tree.items there.it.item
            ∙ ap (option_map decl_of) there.is_of.item,
      ) in
      let form = ap (λ (x : Decl). x.form) there.decl ∙ forms.first_is in (
        found.unit,
        there.it,
        found_is_at modules names program d.name definition found,
        record {
          here = d;
          there = there.tree.decl;
          ret = forms.ret;
          params = forms.params;
          holds = forms.held;
          held = forms.holds;
          declared_here = declares;
          declared_there = item;
          form_here = forms.second_is;
          form_there = form;
          words = λ w. (
            words_go n g found.f.unit there.it.item d there.tree.decl forms.ret forms.ret forms.params forms.params
                forms.held forms.holds declares forms.second_is item form forms.same.1 w,
            words_go found.f.unit there.it.item n g there.tree.decl d forms.ret forms.ret forms.params forms.params
                forms.holds forms.held item form declares forms.second_is forms.same.0 w,
          );
        },
      )

  agreeing : (n g : ℕ) (f : FunctionAt) → (env_of modules).entity n g ≡ Some (function f) → (unit : TypedModuleTree)
      × (it : TypedFunTree) × IsAt modules f unit it × AreSameFunctions modules n g f.unit it.item
  agreeing n g f entity =
      let (d, declares, stands) = is_declared modules names program n g (function f) entity in
      let is = function_form (units_of modules) d.name d.form f stands in
      let of = definition_is modules names program n g d declares in
      let found = found_at modules names program d.name of.definition of.found
      (alike_functions of.definition.form d.form of.alike ∙ is) in
      let both : Some (function found.f) ≡ Some (function f) = sym (ap (option_map function_entity) found.place)
      ∙ sym (function_place (units_of modules) d.name d.form f is) ∙ stands in
      let same : found.f ≡ f = cc both in
      subst (λ x. (unit : TypedModuleTree) × (it : TypedFunTree) × IsAt modules x unit it
      × AreSameFunctions modules n g x.unit it.item) same
      (function_at n g d declares of.definition found (are_functions of.definition.form d.form of.alike is))

pub declarations_agree : DeclarationsAgree
declarations_agree modules names program n g m h d e here there same =
    let alike = alike_by_name modules names program n g m h d e here there same in (
      declared_is modules names program n g d here ∙ stands_alike (units_of modules) d.name d.form e.form alike
          ∙ ap (λ name. stands_for (units_of modules) name e.form) same
          ∙ sym (declared_is modules names program m h e there),
      alike_agrees d.form e.form alike,
    )

pub functions_agree : FunctionsAgree
functions_agree modules names program n g f entity = agreeing modules names program n g f entity

pub guards_agree : GuardsAgree
guards_agree modules names program n g first len m h start count w guard other is also has holds =
    let same : shared first len guard ≡ shared start count other =
    words_apart modules names program n g m h w (shared first len guard) (shared start count other)
    is also has holds in cc same
