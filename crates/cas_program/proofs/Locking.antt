-- The locks of a program: what names mean in modules, and which words locks have.
use Rattle.std.proofs.Common.{arith, ◌≡◌, inl, inr, ℕ, zero, suc, ◌+◌, Bool, true, false, List, [], ◌∷◌, ◌++◌, map, Option, Some, None, refl, sym, ap, subst, ◌∙◌, if◌then◌else◌}
use Rattle.std.specs.Prelude.{◌↔◌, slice_get}
use Rattle.std.specs.Option.{option_map}
use Rattle.std.proofs.lemmas.List.{append_assoc}
use Rattle.cas_base.specs.Decl.{is_function, is_lock, is_named, words_of_form}
use Rattle.cas_base.specs.Ty.{words_of_ty}
use Rattle.cas_base.specs.declared.decl.Decl.{Decl}
use Rattle.cas_base.specs.declared.decl.Form.{Form}
use Rattle.cas_base.specs.declared.decl.Form.TheVariants.{Lock, Shared, Table, Function as AFunction}
use Rattle.cas_base.specs.declared.kind.Ty.{Ty}
use Rattle.cas_base.specs.declared.place.Place.{Place}
use Rattle.cas_own.specs.Locks.{lock_meant, lock_named, guard_of, guard_of_form, of_declared}
use Rattle.cas_settle.specs.Settle.{cell_of}
use Rattle.cas_step.specs.Env.{Entity, function, shared, lock}
use Rattle.cas_syntax.specs.Tree.{ItemTree, global, prototype, define}
use Rattle.cas_typed.specs.Modules.{decl_of, place_of, placed, held_by, held_places, means_lock, are_locks, IsItem, AreItems, no_item, a_global, a_prototype, a_function}
use Rattle.cas_typed.specs.Resolved.{TypedFunTree, TypedModuleTree}
use Rattle.cas_typed.specs.Scopes.{Meaning, undeclared, variable, item, item_named}
use Rattle.cas_program.specs.Laws.{Declares, GuardsAreLocks, SharedAreDeclared, LocksAreDeclared, LocksAreByName}
use Rattle.cas_program.specs.Program.{IsProgram, units_of, entity_of_cell, function_entity, stands_for, env_of}
use Rattle.cas_program.proofs.Agreeing.{AreAlike, both_true, same_name, IsIn, found_name}
use Rattle.cas_program.proofs.Laid_out.{Begins, begin_apart}
use Rattle.cas_program.proofs.Meanings.{declared_is, is_declared, definition_is, cell_is}
use Rattle.cas_program.proofs.Meanings as meant

-- what a name means in a module

-- the item of a name, among declarations that are counted from this number on
pub record IsNamed (k : ℕ) (ds : List Decl) (name : List ℕ) (g : ℕ) (form : Form) : Type 0 where
  pub behind : ℕ
  pub decl : Decl
  pub number : g ≡ k + behind
  pub is : slice_get ds behind ≡ Some decl
  pub form_is : decl.form ≡ form
  pub name_is : name ≡ decl.name

named_by : (k : ℕ) (d : Decl) (ds : List Decl) (name : List ℕ) (g : ℕ) (form : Form) (b : Bool) → is_named name d ≡ b →
    (if b then item k d.form else item_named (k + 1) ds name) ≡ item g form →
    (item_named (k + 1) ds name ≡ item g form → IsNamed (k + 1) ds name g form) → IsNamed k (d ∷ ds) name g form
named_by k d ds name g form true named is rest =
    let number : k ≡ g = cc is in
    let same : d.form ≡ form = cc is in
    record {
      behind = 0;
      decl = d;
      number = omega (arith, number);
      is = refl;
      form_is = same;
      name_is =
          same_name name d.name named;
    }
named_by k d ds name g form false named is rest =
    let later = rest is in
    record {
      behind = suc later.behind;
      decl = later.decl;
      number = omega (arith, later.number);
      is =
          later.is;
      form_is = later.form_is;
      name_is = later.name_is;
    }

named_at : (k : ℕ) (ds : List Decl) (name : List ℕ) (g : ℕ) (form : Form) → item_named k ds name ≡ item g form →
    IsNamed k ds name g form
named_at k [] name g form is = absurd (cc is)
named_at k (d ∷ ds) name g form is = named_by k d ds name g form (is_named name d) refl is
    (named_at (k + 1) ds name g form)

lock_is_item : (m : Meaning) (l : ℕ) → lock_meant m ≡ Some l → m ≡ item l Lock
lock_is_item undeclared l is = absurd (cc is)
lock_is_item (variable n ty) l is = absurd (cc is)
lock_is_item (item g Lock) l is = let same : g ≡ l = cc is in ap (λ n. item n Lock) same
lock_is_item (item g (Shared ty name)) l is = absurd (cc is)
lock_is_item (item g (Table ty)) l is = absurd (cc is)
lock_is_item (item g (AFunction ret params holds)) l is = absurd (cc is)

-- the item of a lock's name is a lock of that name
pub lock_there : (decls : List Decl) (name : List ℕ) (l : ℕ) → lock_named decls name ≡ Some l → (d : Decl)
    × (slice_get decls l ≡ Some d) × (d.form ≡ Lock) × (name ≡ d.name)
lock_there decls name l is =
    let named = named_at 0 decls name l Lock (lock_is_item (item_named 0 decls name) l is) in
    let number : l ≡ named.behind = named.number ∙ omega arith in
    (named.decl, ap (slice_get decls) number ∙ named.is, named.form_is, named.name_is)

-- a name that means a lock means it behind further declarations too
further_by : (k : ℕ) (d : Decl) (ds more : List Decl) (name : List ℕ) (l : ℕ) (b : Bool) →
    lock_meant (if b then item k d.form else item_named (k + 1) ds name) ≡ Some l →
    (lock_meant (item_named (k + 1) ds name) ≡ Some l → lock_meant (item_named (k + 1) (ds ++ more) name) ≡ Some l) →
    lock_meant (if b then item k d.form else item_named (k + 1) (ds ++ more) name) ≡ Some l
further_by k d ds more name l true is rest = is
further_by k d ds more name l false is rest = rest is

further : (k : ℕ) (ds more : List Decl) (name : List ℕ) (l : ℕ) → lock_meant (item_named k ds name) ≡ Some l →
    lock_meant (item_named k (ds ++ more) name) ≡ Some l
further k [] more name l is = absurd (cc is)
further k (d ∷ ds) more name l is = further_by k d ds more name l (is_named name d) is (further (k + 1) ds more name l)

pub lock_further : (ds more : List Decl) (name : List ℕ) (l : ℕ) → lock_named ds name ≡ Some l →
    lock_named (ds ++ more) name ≡ Some l
lock_further ds more name l is = further 0 ds more name l is

-- locks that are held

some_lock : (m : Meaning) → means_lock m ≡ true → (l : ℕ) × (lock_meant m ≡ Some l)
some_lock undeclared is = absurd (cc is)
some_lock (variable n ty) is = absurd (cc is)
some_lock (item g Lock) is = (g, refl)
some_lock (item g (Shared ty name)) is = absurd (cc is)
some_lock (item g (Table ty)) is = absurd (cc is)
some_lock (item g (AFunction ret params holds)) is = absurd (cc is)

placed_lock : (before : List Decl) (last : Place) (names : List (List ℕ)) (ps : List Place) (name : List ℕ) →
    are_locks before (placed last names ps) ≡ true → IsIn names name → means_lock (item_named 0 before name) ≡ true
placed_lock before last [] ps name locks h = absurd h
placed_lock before last (n ∷ ns) [] name locks (inl same) =
    subst (λ x. means_lock (item_named 0 before x) ≡ true) same
    (both_true (means_lock (item_named 0 before n)) (are_locks before (placed last ns [])) locks).0
placed_lock before last (n ∷ ns) [] name locks (inr h) =
    placed_lock before last ns [] name (both_true (means_lock (item_named 0 before n))
    (are_locks before (placed last ns [])) locks).1 h
placed_lock before last (n ∷ ns) (p ∷ ps) name locks (inl same) =
    subst (λ x. means_lock (item_named 0 before x) ≡ true) same
    (both_true (means_lock (item_named 0 before n)) (are_locks before (placed last ns ps)) locks).0
placed_lock before last (n ∷ ns) (p ∷ ps) name locks (inr h) =
    placed_lock before last ns ps name (both_true (means_lock (item_named 0 before n))
    (are_locks before (placed last ns ps)) locks).1 h

item_lock : (before : List Decl) (a : ItemTree) (more : List Decl) (name : List ℕ) → IsItem before a →
    IsIn (held_by (decl_of a).form) name → (l : ℕ) × (lock_named (before ++ more) name ≡ Some l)
item_lock before a more name good h =
    let (l, is) = some_lock (item_named 0 before name)
    (placed_lock before (place_of a) (held_by (decl_of a).form) (held_places a) name good.locks h) in
    (l, lock_further before more name l is)

-- each name in a `holds` of a typed module means a lock of the module
holds_here : (before : List Decl) (a : ItemTree) (items : List ItemTree) (d : Decl) (name : List ℕ) → IsItem before a →
    Some (decl_of a) ≡ Some d → IsIn (held_by d.form) name → (l : ℕ)
    × (lock_named (before ++ map decl_of (a ∷ items)) name ≡ Some l)
holds_here before a items d name good is h =
    let same : decl_of a ≡ d = cc is in item_lock before a (map decl_of (a ∷ items)) name good
    (subst (λ (x : Decl). IsIn (held_by x.form) name) (sym same) h)

holds_later : (before : List Decl) (a : ItemTree) (items : List ItemTree) (name : List ℕ) → (l : ℕ)
    × (lock_named ((before ++ decl_of a ∷ []) ++ map decl_of items) name ≡ Some l) → (l : ℕ)
    × (lock_named (before ++ map decl_of (a ∷ items)) name ≡ Some l)
holds_later before a items name (l, is) =
    (l, ap (λ ds. lock_named ds name) (sym (append_assoc before (decl_of a ∷ []) (map decl_of items))) ∙ is)

pub holds_lock : {before : List Decl} {items : List ItemTree} {rs : List TypedFunTree} → AreItems before items rs →
    (g : ℕ) (d : Decl) (name : List ℕ) → slice_get (map decl_of items) g ≡ Some d → IsIn (held_by d.form) name →
    (l : ℕ) × (lock_named (before ++ map decl_of items) name ≡ Some l)
holds_lock (no_item before) g d name is h = absurd (cc is)
holds_lock (a_global before e vs p rest rs good more) zero d name is h =
    holds_here before (global e vs p) rest d name good is h
holds_lock (a_global before e vs p rest rs good more) (suc g) d name is h =
    holds_later before (global e vs p) rest name (holds_lock more g d name is h)
holds_lock (a_prototype before e hs p rest rs good more) zero d name is h =
    holds_here before (prototype e hs p) rest d name good is h
holds_lock (a_prototype before e hs p rest rs good more) (suc g) d name is h =
    holds_later before (prototype e hs p) rest name (holds_lock more g d name is h)
holds_lock (a_function before f rest r rs good fun more) zero d name is h =
    holds_here before (define f) rest d name good is h
holds_lock (a_function before f rest r rs good fun more) (suc g) d name is h =
    holds_later before (define f) rest name (holds_lock more g d name is h)

-- words of locks

is_lock_form : (f g : Form) → AreAlike f g → g ≡ Lock → f ≡ Lock
is_lock_form _ _ AreAlike.locks is = refl
is_lock_form _ _ (AreAlike.shared_ones t l) is = absurd (cc is)
is_lock_form _ _ (AreAlike.tables t) is = absurd (cc is)
is_lock_form _ _ (AreAlike.functions ret params holds held same) is = absurd (cc is)

-- what stands for words of a shared global is declared as one
shared_form : (word_of : List ℕ → Option ℕ) (own : List ℕ) (f g : Form) (w first len : ℕ) (guard : Option ℕ) →
    AreAlike f g → option_map entity_of_cell (cell_of word_of w own f) ≡ Some (shared first len guard) →
    (ty : Ty) × (name : List ℕ) × (g ≡ Shared ty name) × (word_of name ≡ guard)
shared_form word_of own _ _ w first len guard AreAlike.locks is = absurd (cc is)
shared_form word_of own _ _ w first len guard (AreAlike.shared_ones t l) is = (t, l, refl, cc is)
shared_form word_of own _ _ w first len guard (AreAlike.tables t) is = absurd (cc is)
shared_form word_of own _ _ w first len guard (AreAlike.functions ret params holds held same) is = absurd (cc is)

lock_form : (word_of : List ℕ → Option ℕ) (own : List ℕ) (f g : Form) (w v : ℕ) → AreAlike f g →
    option_map entity_of_cell (cell_of word_of w own f) ≡ Some (lock v) → g ≡ Lock
lock_form word_of own _ _ w v AreAlike.locks is = refl
lock_form word_of own _ _ w v (AreAlike.shared_ones t l) is = absurd (cc is)
lock_form word_of own _ _ w v (AreAlike.tables t) is = absurd (cc is)
lock_form word_of own _ _ w v (AreAlike.functions ret params holds held same) is = absurd (cc is)

-- what is a function stands for nothing else
function_named : (o : Option (ℕ × ℕ)) (it : Entity) → option_map function_entity o ≡ Some it →
    ((f : _) → function f ≡ it → ⊥) → ⊥
function_named None it is none = cc is
function_named (Some at) it is none = let same : function (record { unit = at.0; place = at.1 }) ≡ it =
    cc is in none (record { unit = at.0; place = at.1 }) same

pub no_function_form : (units : List (List Decl)) (name : List ℕ) (form : Form) (it : Entity) →
    stands_for units name form ≡ Some it → ((f : _) → function f ≡ it → ⊥) → is_function form ≡ false
no_function_form units name Lock it is none = refl
no_function_form units name (Shared t l) it is none = refl
no_function_form units name (Table t) it is none = refl
no_function_form units name (AFunction ret params holds) it is none = absurd (function_named _ it is none)

module _ (modules : List TypedModuleTree) (names : List (List ℕ)) (program : IsProgram modules names) where
  -- the word of a lock
  pub record HasLockWord (n l : ℕ) (d : Decl) : Type 0 where
    pub word : ℕ
    pub entity : (env_of modules).entity n l ≡ Some (lock word)
    pub named : meant.word_of modules names program d.name ≡ Some word
    pub definition : Decl
    pub name_is : d.name ≡ definition.name
    pub begins : Begins 0 (meant.defined modules names program) definition word
    pub size : words_of_form definition.form ≡ 1

  pub lock_word_is : (n l : ℕ) (d : Decl) → Declares modules n l d → d.form ≡ Lock → HasLockWord n l d
  lock_word_is n l d declares is =
      let of = definition_is modules names program n l d declares in
      let (laid, stands) = cell_is modules names program d of (ap is_function is) in
      let form : of.definition.form ≡ Lock = is_lock_form of.definition.form d.form of.alike is in
      record {
        word = laid.word;
        entity = declared_is modules names program n l d declares ∙ stands
            ∙ ap (λ f. option_map entity_of_cell
            (cell_of (meant.word_of modules names program) laid.word of.definition.name f)) form;
        named = laid.locked (ap is_lock form);
        definition = of.definition;
        name_is = found_name d.name (meant.defined modules names program) of.definition of.found;
        begins = laid.begins;
        size = ap words_of_form form;
      }

  -- a name that means a lock in a module has its word
  pub lock_named_is : (n l : ℕ) (decls : List Decl) (name : List ℕ) → slice_get (units_of modules) n ≡ Some decls →
      lock_named decls name ≡ Some l →
      (w : ℕ) × ((env_of modules).entity n l ≡ Some (lock w)) × (meant.word_of modules names program name ≡ Some w)
  lock_named_is n l decls name at is =
      let (d, there, form, same) = lock_there decls name l is in
      let word = lock_word_is n l d (decls, at, there) form in
      (word.word, word.entity, ap (meant.word_of modules names program) same ∙ word.named)

  pub shared_is : (n g first len : ℕ) (guard : Option ℕ) → (env_of modules).entity n g ≡ Some (shared first len guard) →
      (d : Decl) × Declares modules n g d × (ty : Ty) × (name : List ℕ) × (d.form ≡ Shared ty name)
      × (meant.word_of modules names program name ≡ guard)
  shared_is n g first len guard entity =
      let (d, declares, stands) = is_declared modules names program n g (shared first len guard) entity in
      let of = definition_is modules names program n g d declares in
      let (laid, same) = cell_is modules names program d of
      (no_function_form (units_of modules) d.name d.form (shared first len guard) stands (λ f e. cc e)) in
      let (ty, name, form, guarded) = shared_form (meant.word_of modules names program)
      of.definition.name of.definition.form d.form laid.word first len guard of.alike (sym same ∙ stands) in
      (d, declares, ty, name, form, guarded)

  lock_is : (n l w : ℕ) → (env_of modules).entity n l ≡ Some (lock w) → (d : Decl) × Declares modules n l d
      × (d.form ≡ Lock)
  lock_is n l w entity =
      let (d, declares, stands) = is_declared modules names program n l (lock w) entity in
      let of = definition_is modules names program n l d declares in
      let (laid, same) = cell_is modules names program d of
      (no_function_form (units_of modules) d.name d.form (lock w) stands (λ f e. cc e)) in (
        d,
        declares,
        lock_form (meant.word_of modules names program) of.definition.name of.definition.form d.form
            laid.word w of.alike (sym same ∙ stands),
      )

  -- the entity of a shared global
  shared_stands : (own : List ℕ) (f g : Form) (ty : Ty) (name : List ℕ) (w : ℕ) → AreAlike f g → g ≡ Shared ty name →
      option_map entity_of_cell (cell_of (meant.word_of modules names program) w own f) ≡ Some
      (shared w (words_of_ty ty) (meant.word_of modules names program name))
  shared_stands own _ _ ty name w AreAlike.locks is = absurd (cc is)
  shared_stands own _ _ ty name w (AreAlike.shared_ones t l) is = let t_is : t ≡ ty = cc is in let l_is : l ≡ name =
      cc is in λ i. Some (shared w (words_of_ty (t_is i)) (meant.word_of modules names program (l_is i)))
  shared_stands own _ _ ty name w (AreAlike.tables t) is = absurd (cc is)
  shared_stands own _ _ ty name w (AreAlike.functions ret params holds held same) is = absurd (cc is)

  guarded_form : (decls : List Decl) (form : Form) (l : ℕ) → guard_of_form decls form ≡ Some l → (ty : Ty)
      × (name : List ℕ) × (form ≡ Shared ty name) × (lock_named decls name ≡ Some l)
  guarded_form decls Lock l is = absurd (cc is)
  guarded_form decls (Shared t name) l is = (t, name, refl, is)
  guarded_form decls (Table t) l is = absurd (cc is)
  guarded_form decls (AFunction ret params holds) l is = absurd (cc is)

  guarded_by : (decls : List Decl) (o : Option Decl) (l : ℕ) → of_declared (guard_of_form decls) None o ≡ Some l →
      (d : Decl) × (o ≡ Some d) × (ty : Ty) × (name : List ℕ) × (d.form ≡ Shared ty name)
      × (lock_named decls name ≡ Some l)
  guarded_by decls None l is = absurd (cc is)
  guarded_by decls (Some d) l is = let (ty, name, form, named) =
      guarded_form decls d.form l is in (d, refl, ty, name, form, named)

  guard_is : (n g l : ℕ) (decls : List Decl) → slice_get (units_of modules) n ≡ Some decls → guard_of decls g ≡ Some l →
      (first len w : ℕ) × ((env_of modules).entity n g ≡ Some (shared first len (Some w)))
      × ((env_of modules).entity n l ≡ Some (lock w))
  guard_is n g l decls at is =
      let (d, there, ty, name, form, named) = guarded_by decls (slice_get decls g) l is in
      let (w, entity, word) = lock_named_is n l decls name at named in
      let declares : Declares modules n g d = (decls, at, there) in
      let of = definition_is modules names program n g d declares in
      let (laid, same) = cell_is modules names program d of (ap is_function form) in (
        laid.word,
        words_of_ty ty,
        w,
        declared_is modules names program n g d declares ∙ same
            ∙ shared_stands of.definition.name of.definition.form d.form ty name laid.word of.alike form
            ∙ ap (λ o. Some (shared laid.word (words_of_ty ty) o)) word,
        entity,
      )

  by_name : (n l m k : ℕ) (d e : Decl) → Declares modules n l d → d.form ≡ Lock → Declares modules m k e →
      e.form ≡ Lock →
      (w v : ℕ) × ((env_of modules).entity n l ≡ Some (lock w)) × ((env_of modules).entity m k ≡ Some (lock v))
      × ((w ≡ v) ↔ (d.name ≡ e.name))
  by_name n l m k d e here is there also =
      let one = lock_word_is n l d here is in
      let two = lock_word_is m k e there also in (
        one.word,
        two.word,
        one.entity,
        two.entity,
        (
          λ same. one.name_is ∙ ap (λ (x : Decl). x.name)
              (begin_apart 0 (meant.defined modules names program) one.definition two.definition one.word two.word
              one.word one.begins two.begins
              (omega arith) (omega (arith, one.size)) (omega (arith, same)) (omega (arith, two.size, same))).0
              ∙ sym two.name_is,
          λ same. let both : Some one.word ≡ Some two.word =
              sym one.named ∙ ap (meant.word_of modules names program) same ∙ two.named in cc both,
        ),
      )

pub guards_are_locks : GuardsAreLocks
guards_are_locks modules names program n g l decls at is = guard_is modules names program n g l decls at is

pub shared_are_declared : SharedAreDeclared
shared_are_declared modules names program n g first len guard entity =
    let (d, declares, ty, name, form, _) = shared_is modules names program n g first len guard entity in
    (d, declares, ty, name, form)

pub locks_are_declared : LocksAreDeclared
locks_are_declared modules names program n l w entity = lock_is modules names program n l w entity

pub locks_are_by_name : LocksAreByName
locks_are_by_name modules names program n l m k d e here is there also =
    by_name modules names program n l m k d e here is there also
