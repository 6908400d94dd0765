-- An edge that fits a whole program fits each of its units, with the unit's functions inside.
use Rattle.std.specs.Prelude.{map}
use Rattle.std.proofs.Common.{◌≡◌, ℕ, zero, suc, ◌+◌, List, [], ◌∷◌, ◌++◌, slice_get, Bool, true, false, if◌then◌else◌, Some, refl, sym, ap, subst}
use Rattle.cas_base.specs.declared.decl.Decl.{Decl}
use Rattle.cas_base.specs.declared.decl.Form.{Form}
use Rattle.cas_base.specs.declared.decl.Form.TheVariants.{Lock, Shared, Table, Function}
use Rattle.cas_base.specs.declared.decl.Global.{Global}
use Rattle.cas_base.specs.declared.decl.Unit.{Unit as UnitOf}
use Rattle.cas_runs.specs.Label.{Each, NameBytes, same_name}
use Rattle.cas_runs.specs.Edge.{Signature, Stretch, Words, Edge, signature_of}
use Rattle.cas_runs.specs.Unit.{Setting, IsStack, Code, ArePlacesApart, IsCode, Language, guard_of, and_number, lock_numbers, AreSameLocks, IsDeclared, AreDeclared, AreApart, AllApart, HaveData, HaveValues, defines, OnlyInside, IsEdge, entered_by, at_unit, FitsUnit, all_decls, all_globals, FitsProgram}

-- Flags.

module _ (test : NameBytes → Bool) where
  abbrev flag : Signature → Signature
  flag f = record f { inside = test f.name }

  flagged : (fs : List Signature) (name : NameBytes) (f : Signature) → signature_of fs name ≡ Some f →
      signature_of (map flag fs) name ≡ Some (flag f)
  flagged [] name f e = absurd (cc e)
  flagged (g ∷ fs) name f e = by (same_name g.name name) (λ k. flagged fs name f k) e
    where
      by : (t : Bool) → (signature_of fs name ≡ Some f → signature_of (map flag fs) name ≡ Some (flag f)) →
          (if t then Some g else signature_of fs name) ≡ Some f →
          (if t then Some (flag g) else signature_of (map flag fs) name) ≡ Some (flag f)
      by true more k = let same : g ≡ f = cc k in ap (λ v. Some (flag v)) same
      by false more k = more k

  only_flagged : (fs : List Signature) → OnlyInside test (map flag fs)
  only_flagged [] = tt
  only_flagged (f ∷ fs) = (refl, only_flagged fs)

  same_locks : (edge : Edge) (ns : List NameBytes) → lock_numbers (entered_by test edge) ns ≡ lock_numbers edge ns
  same_locks edge [] = refl
  same_locks edge (n ∷ ns) = ap (and_number (guard_of edge n)) (same_locks edge ns)

  declared_so : (edge : Edge) (name : NameBytes) (form : Form) → IsDeclared edge name form →
      IsDeclared (entered_by test edge) name form
  declared_so edge name Lock h = h
  declared_so edge name (Shared ty lock) h = h
  declared_so edge name (Table ty) h = h
  declared_so edge name (Function ret params holds) h = (
    flag h.0,
    flagged edge.functions name h.0 h.1,
    h.2,
    h.3,
    subst (λ ns. AreSameLocks h.0.holds ns) (sym (same_locks edge holds)) h.4,
  )

  all_declared : (edge : Edge) (ds : List Decl) → AreDeclared edge ds → AreDeclared (entered_by test edge) ds
  all_declared edge [] h = tt
  all_declared edge (d ∷ ds) h = (declared_so edge d.name d.form h.0, all_declared edge ds h.1)

  values_so : (edge : Edge) (n : ℕ) (vs : List ℕ) → HaveValues edge n vs → HaveValues (entered_by test edge) n vs
  values_so edge n [] h = tt
  values_so edge n (v ∷ vs) h = (h.0, values_so edge (n + 1) vs h.1)

  data_so : (edge : Edge) (gs : List Global) → HaveData edge gs → HaveData (entered_by test edge) gs
  data_so edge [] h = tt
  data_so edge (g ∷ gs) h = let at = h.0 in
      ((at.0, at.1, values_so edge at.0.first g.values at.2), data_so edge gs h.1)

  each_apart : (code : Code) (name : NameBytes) (fs : List Signature) →
      Each (λ (g : Signature). ArePlacesApart code name g.name) fs →
      Each (λ (g : Signature). ArePlacesApart code name g.name) (map flag fs)
  each_apart code name [] h = tt
  each_apart code name (f ∷ fs) h = (h.0, each_apart code name fs h.1)

  code_so : (code : Code) (fs : List Signature) → IsCode code fs → IsCode code (map flag fs)
  code_so code [] h = tt
  code_so code (f ∷ fs) h = (h.0, each_apart code f.name fs h.1, code_so code fs h.2)

-- A unit's part.

each_front : {X : Type 0} (P : X → Type 0) (xs ys : List X) → Each P (xs ++ ys) → Each P xs
each_front P [] ys h = tt
each_front P (x ∷ xs) ys h = (h.0, each_front P xs ys h.1)

each_back : {X : Type 0} (P : X → Type 0) (xs ys : List X) → Each P (xs ++ ys) → Each P ys
each_back P [] ys h = h
each_back P (x ∷ xs) ys h = each_back P xs ys h.1

apart_front : (words : Words) (xs ys : List Decl) → AllApart words (xs ++ ys) → AllApart words xs
apart_front words [] ys h = tt
apart_front words (x ∷ xs) ys h = (each_front (AreApart words x) xs ys h.0, apart_front words xs ys h.1)

apart_back : (words : Words) (xs ys : List Decl) → AllApart words (xs ++ ys) → AllApart words ys
apart_back words [] ys h = h
apart_back words (x ∷ xs) ys h = apart_back words xs ys h.1

module _ {F : Type 0} where
  decls_of : (P : Decl → Type 0) (us : List (UnitOf F)) (i : ℕ) (u : UnitOf F) → slice_get us i ≡ Some u →
      Each P (all_decls us) → Each P u.decls
  decls_of P [] i u e h = absurd (cc e)
  decls_of P (x ∷ us) zero u e h = let same : x ≡ u = cc e in
      subst (λ (v : UnitOf F). Each P v.decls) same (each_front P x.decls (all_decls us) h)
  decls_of P (x ∷ us) (suc i) u e h = decls_of P us i u e (each_back P x.decls (all_decls us) h)

  globals_of : (P : Global → Type 0) (us : List (UnitOf F)) (i : ℕ) (u : UnitOf F) → slice_get us i ≡ Some u →
      Each P (all_globals us) → Each P u.globals
  globals_of P [] i u e h = absurd (cc e)
  globals_of P (x ∷ us) zero u e h = let same : x ≡ u = cc e in
      subst (λ (v : UnitOf F). Each P v.globals) same (each_front P x.globals (all_globals us) h)
  globals_of P (x ∷ us) (suc i) u e h = globals_of P us i u e (each_back P x.globals (all_globals us) h)

  apart_of : (words : Words) (us : List (UnitOf F)) (i : ℕ) (u : UnitOf F) → slice_get us i ≡ Some u →
      AllApart words (all_decls us) → AllApart words u.decls
  apart_of words [] i u e h = absurd (cc e)
  apart_of words (x ∷ us) zero u e h = let same : x ≡ u = cc e in
      subst (λ (v : UnitOf F). AllApart words v.decls) same (apart_front words x.decls (all_decls us) h)
  apart_of words (x ∷ us) (suc i) u e h = apart_of words us i u e (apart_back words x.decls (all_decls us) h)

pub parts_fit : {F : Type 0} (setting : Setting) (us : List (UnitOf F)) → IsEdge setting.edge →
    AreDeclared setting.edge (all_decls us) → HaveData setting.edge (all_globals us) →
    AllApart setting.edge.words (all_decls us) → IsStack setting.edge setting.stack →
    IsCode setting.code setting.edge.functions → (i : ℕ) (u : UnitOf F) → slice_get us i ≡ Some u →
    FitsUnit (at_unit setting u.decls) u.decls u.globals
parts_fit setting us edge_is declared data_there apart stack code i u e =
    let test = defines u.decls in
    let edge = setting.edge in
    record {
      edge_is = record { few = edge_is.few; kinds = edge_is.kinds };
      stack_is = record {
        words_before = stack.words_before;
        aligned = stack.aligned;
        past_words = stack.past_words;
        far = stack.far;
        in_reach = stack.in_reach;
        least = stack.least;
        most = stack.most;
      };
      code_is = code_so test setting.code edge.functions code;
      declared = all_declared test edge u.decls (decls_of (λ d. IsDeclared edge d.name d.form) us i u e declared);
      data_there = data_so test edge u.globals (globals_of (λ g. (s : Stretch) × (edge.words g.decl.name ≡ Some s)
          × HaveValues edge s.first g.values) us i u e data_there);
      apart = apart_of edge.words us i u e apart;
      entered = only_flagged test edge.functions;
    }

pub unit_fits : {F S : Type 0} (l : Language F S) (setting : Setting) (us : List (UnitOf F)) (entry : NameBytes) →
    FitsProgram l setting.edge us entry → IsStack setting.edge setting.stack →
    IsCode setting.code setting.edge.functions → (i : ℕ) (u : UnitOf F) → slice_get us i ≡ Some u →
    FitsUnit (at_unit setting u.decls) u.decls u.globals
unit_fits l setting us entry fits stack code i u e =
    parts_fit setting us fits.edge_is fits.declared fits.data_there fits.apart stack code i u e
