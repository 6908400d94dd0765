-- The number of the lock of a name: by definitions, and by globals whose names are distinct.
use Rattle.std.proofs.Common.{◌≡◌, ℕ, ◌+◌, Bool, true, false, not, ◌&&◌, cond, List, [], ◌∷◌, map, filter, Option, Some, None, ap, refl, sym, ◌∙◌, subst, arith}
use Rattle.std.specs.List.{AllByRecursion, IsDistinct}
use Rattle.std.specs.Str.{bytes_eq}
use Rattle.std.proofs.lemmas.Slice.Eq.{bytes_eq-Decides}
use Rattle.std.proofs.lemmas.Map.Keys.{IsDistinct-head, IsDistinct-tail}
use Rattle.cas_base.specs.declared.decl.Form.{Form}
use Rattle.cas_base.specs.declared.decl.Form.TheVariants.{Lock, Shared, Table, Function}
use Rattle.cas_base.specs.declared.decl.Decl.{Decl}
use Rattle.cas_base.specs.declared.decl.Global.{Global}
use Rattle.cas_base.specs.Decl.{is_function, is_lock, is_named, words_of_form}
use Rattle.cas_settle.specs.Settle.{lock_word, names_of}
use Rattle.cas_runs.specs.Label.{same_name}
use Rattle.cas_runs.proofs.Tests.{same_name_self, same_name_from, true_or_false}
use Rattle.cas_edge.specs.Edges.{lock_from, lock_if}

-- functions are no locks
pub lock-data : (decls : List Decl) (first : ℕ) (name : List ℕ) →
    lock_word first decls name ≡ lock_word first (filter (λ d. not (is_function d.form)) decls) name
lock-data [] first name = refl
lock-data (d ∷ ds) first name = by d.form refl (λ n. lock-data ds n name)
  where
    next : Form → List Decl → Option ℕ
    next form rest =
        cond (is_lock form && is_named name d) (Some first) (lock_word (first + words_of_form form) rest name)

    by : (form : Form) → d.form ≡ form →
        ((n : ℕ) → lock_word n ds name ≡ lock_word n (filter (λ d. not (is_function d.form)) ds) name) →
        next form ds ≡ lock_word first (cond (not (is_function form)) (d ∷ filter (λ d. not (is_function d.form)) ds)
        (filter (λ d. not (is_function d.form)) ds)) name
    by Lock e rest =
        ap (λ o. cond (is_named name d) (Some first) o) (rest (first + 1))
        ∙ ap (λ f. next f (filter (λ d. not (is_function d.form)) ds)) (sym e)
    by (Shared ty lock) e rest =
        rest (first + words_of_form (Shared ty lock))
        ∙ ap (λ f. next f (filter (λ d. not (is_function d.form)) ds)) (sym e)
    by (Table ty) e rest =
        rest (first + words_of_form (Table ty))
        ∙ ap (λ f. next f (filter (λ d. not (is_function d.form)) ds)) (sym e)
    by (Function ret params holds) e rest =
        let same : first + 0 ≡ first = omega arith in
        ap (λ n. lock_word n ds name) same ∙ rest first

and-false : (a b : Bool) → b ≡ false → (a && b) ≡ false
and-false true b e = e
and-false false b e = refl

-- no lock has a name that none of them has
lock-none : (decls : List Decl) (first : ℕ) (name : List ℕ) →
    AllByRecursion (λ other. bytes_eq name other ≡ false) (names_of decls) → lock_word first decls name ≡ None
lock-none [] first name h = refl
lock-none (d ∷ ds) first name h =
    ap (λ b. cond b (Some first) (lock_word (first + words_of_form d.form) ds name))
    (and-false (is_lock d.form) (bytes_eq name d.name) h.0)
    ∙ lock-none ds (first + words_of_form d.form) name h.1

renamed : (name other : List ℕ) (names : List (List ℕ)) → name ≡ other →
    AllByRecursion (λ n. bytes_eq name n ≡ false) names → AllByRecursion (λ n. bytes_eq other n ≡ false) names
renamed name other names e h = subst (λ (x : List ℕ). AllByRecursion (λ n. bytes_eq x n ≡ false) names) e h

pub locks-agree : (gs : List Global) → IsDistinct bytes_eq (names_of (map (λ g. g.decl) gs)) → (first : ℕ)
    (name : List ℕ) → lock_word first (map (λ g. g.decl) gs) name ≡ lock_from first gs name
locks-agree [] d first name = refl
locks-agree (g ∷ gs) d first name =
    by (bytes_eq name g.decl.name) refl
    (locks-agree gs (IsDistinct-tail bytes_eq g.decl.name (names_of (map (λ g. g.decl) gs)) d)
    (first + words_of_form g.decl.form) name)
  where
    rest : Option ℕ
    rest = lock_word (first + words_of_form g.decl.form) (map (λ g. g.decl) gs) name

    later : Option ℕ
    later = lock_from (first + words_of_form g.decl.form) gs name

    lock_or : (form : Form) (o : Option ℕ) → o ≡ None → cond (is_lock form && true) (Some first) o ≡ lock_if form first
    lock_or Lock o e = refl
    lock_or (Shared ty lock) o e = e
    lock_or (Table ty) o e = e
    lock_or (Function ret params holds) o e = e

    by : (b : Bool) → bytes_eq name g.decl.name ≡ b → rest ≡ later →
        cond (is_lock g.decl.form && bytes_eq name g.decl.name) (Some first) rest
        ≡ cond (same_name g.decl.name name) (lock_if g.decl.form first) later
    by true e same =
        let is : name ≡ g.decl.name = (bytes_eq-Decides name g.decl.name).0 e in
        let head = IsDistinct-head bytes_eq g.decl.name (names_of (map (λ g. g.decl) gs)) d in
        let none = lock-none (map (λ g. g.decl) gs) (first + words_of_form g.decl.form) name
        (renamed g.decl.name name (names_of (map (λ g. g.decl) gs)) (sym is) head) in
        let self : same_name g.decl.name name ≡ true =
        ap (same_name g.decl.name) is ∙ same_name_self g.decl.name in
        ap (λ b. cond (is_lock g.decl.form && b) (Some first) rest) e
        ∙ lock_or g.decl.form rest none
        ∙ ap (λ b. cond b (lock_if g.decl.form first) later) (sym self)
    by false e same =
        let differ : same_name g.decl.name name ≡ false = true_or_false (same_name g.decl.name name) (λ h.
        let is : g.decl.name ≡ name = same_name_from g.decl.name name h in
        let yes : bytes_eq name g.decl.name ≡ true = (bytes_eq-Decides name g.decl.name).1 (sym is) in
        cc (e, yes)) in
        ap (λ b. cond b (Some first) rest) (and-false (is_lock g.decl.form) (bytes_eq name g.decl.name) e)
        ∙ same ∙ ap (λ b. cond b (lock_if g.decl.form first) later) (sym differ)
