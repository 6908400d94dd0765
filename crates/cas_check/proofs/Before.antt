-- Which locks are declared before an item.
use Rattle.std.proofs.Common.{arith, ◌≡◌, ◌<◌, ◌≤◌, ℕ, suc, ◌+◌, Bool, true, false, cond, List, [], ◌∷◌, ◌++◌, length, Option, Some, None, is_some, refl, sym, ap, ◌∙◌, inl, inr}
use Rattle.std.specs.Prelude.{nat_lt}
use Rattle.std.proofs.lemmas.Bool.Decides.{leb_tells}
use Rattle.cas_base.specs.Decl.{is_named}
use Rattle.cas_base.specs.declared.decl.Decl.{Decl}
use Rattle.cas_base.specs.declared.decl.Form.{Form}
use Rattle.cas_base.specs.declared.decl.Form.TheVariants.{Lock, Shared, Table, Function}
use Rattle.cas_own.specs.Locks.{lock_meant, lock_named}
use Rattle.cas_typed.specs.Scopes.{Meaning, item, item_named}

-- whether this is a lock whose number is less
abbrev below : (end : ℕ) → Option ℕ → Bool
below end None = false
below end (Some l) = nat_lt l end

less_or_not : {C : Type 0} (l m : ℕ) → (nat_lt l m ≡ true → l < m → C) → (nat_lt l m ≡ false → m ≤ l → C) → C
less_or_not l m less other = elim (leb_tells (suc l) m)
    [ inl h ↦ less h.0 h.1 | inr h ↦ other h.0 (omega (arith, h.1)) ]

is_less : (n end : ℕ) → n < end → nat_lt n end ≡ true
is_less n end h = less_or_not n end (λ e k. e) (λ e k. absurd (omega (arith, h, k)))

is_not : (end n : ℕ) → end ≤ n → nat_lt n end ≡ false
is_not end n h = less_or_not n end (λ e k. absurd (omega (arith, h, k))) (λ e k. e)

here : (n end : ℕ) (form : Form) → n < end → is_some (lock_meant (item n form)) ≡ below end (lock_meant (item n form))
here n end Lock h = sym (is_less n end h)
here n end (Shared ty l) h = refl
here n end (Table ty) h = refl
here n end (Function ret params holds) h = refl

not_here : (end n : ℕ) (form : Form) → end ≤ n → below end (lock_meant (item n form)) ≡ false
not_here end n Lock h = is_not end n h
not_here end n (Shared ty l) h = refl
not_here end n (Table ty) h = refl
not_here end n (Function ret params holds) h = refl

either : (b : Bool) (end n : ℕ) (form : Form) (m : Meaning) → below end (lock_meant (item n form)) ≡ false →
    below end (lock_meant m) ≡ false
    → below end (lock_meant (cond b (item n form) m)) ≡ false
either true end n form m h k = h
either false end n form m h k = k

later : (end n : ℕ) (ds : List Decl) (name : List ℕ) → end ≤ n → below end (lock_meant (item_named n ds name)) ≡ false
later end n [] name h = refl
later end n (d ∷ ds) name h =
    either (is_named name d) end n d.form (item_named (n + 1) ds name) (not_here end n d.form h)
    (later end (n + 1) ds name (omega (arith, h)))

both : (b : Bool) (end n : ℕ) (form : Form) (x y : Meaning) → n < end →
    is_some (lock_meant x) ≡ below end (lock_meant y)
    → is_some (lock_meant (cond b (item n form) x)) ≡ below end (lock_meant (cond b (item n form) y))
both true end n form x y h k = here n end form h
both false end n form x y h k = k

before_at : (n : ℕ) (before behind : List Decl) (name : List ℕ)
    → is_some (lock_meant (item_named n before name)) ≡ below (n + length before)
    (lock_meant (item_named n (before ++ behind) name))
before_at n [] behind name =
    let none : n + length {A = Decl} [] ≤ n = omega arith in
    sym (later (n + length {A = Decl} []) n behind name none)
before_at n (d ∷ before) behind name =
    let more : n + 1 + length before ≡ n + length (d ∷ before) = omega arith in
    both (is_named name d) (n + length (d ∷ before)) n d.form (item_named (n + 1) before name)
    (item_named (n + 1) (before ++ behind) name) (omega arith)
    (before_at (n + 1) before behind name
    ∙ ap (λ end. below end (lock_meant (item_named (n + 1) (before ++ behind) name))) more)

before_law : (before behind : List Decl) (name : List ℕ) →
    is_some (lock_named before name) ≡ below (length before) (lock_named (before ++ behind) name)
before_law before behind name =
    let all : 0 + length before ≡ length before = omega arith in
    before_at 0 before behind name ∙ ap (λ end. below end (lock_named (before ++ behind) name)) all

-- a lock is declared before where its number is less
pub is_before : (ds before behind : List Decl) (number : ℕ) (name : List ℕ) (l : ℕ) → ds ≡ before ++ behind →
    number ≡ length before → lock_named ds name ≡ Some l
    → nat_lt l number ≡ is_some (lock_named before name)
is_before ds before behind number name l whole count is =
    ap (nat_lt l) count ∙ ap (below (length before)) (sym is ∙ ap (λ all. lock_named all name) whole)
    ∙ sym (before_law before behind name)

-- what is no lock is none before
pub not_named : (ds before behind : List Decl) (name : List ℕ) → ds ≡ before ++ behind → lock_named ds name ≡ None →
    false ≡ is_some (lock_named before name)
not_named ds before behind name whole is =
    ap (below (length before)) (sym is ∙ ap (λ all. lock_named all name) whole) ∙ sym (before_law before behind name)
