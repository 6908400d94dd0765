-- At an edge that fits a program it is known of each of its functions how many values it returns.
use Rattle.std.proofs.Common.{◌≡◌, ℕ, List, [], ◌∷◌, length, Bool, true, false, ◌&&◌, if◌then◌else◌, Some, refl, sym, ap, ◌∙◌, subst}
use Rattle.cas_base.specs.declared.decl.Decl.{Decl}
use Rattle.cas_base.specs.declared.decl.Unit.{Unit as UnitOf}
use Rattle.cas_base.specs.declared.decl.Form.{Form}
use Rattle.cas_base.specs.declared.decl.Form.TheVariants.{Lock, Shared, Table, Function}
use Rattle.cas_runs.specs.Label.{NameBytes, same_name}
use Rattle.cas_runs.specs.Edge.{Edge, Signature, signature_of, returned, count_of, results_of}
use Rattle.cas_runs.specs.Unit.{Language, IsDeclared, AreDeclared, defined_as, defines, has_function, all_decls, all_functions, FitsProgram}
use Rattle.cas_runs.proofs.Tests.{and_both, same_name_from}

-- a declaration that defines a function of this name makes it known
known_by : (edge : Edge) (declared : NameBytes) (form : Form) (defined : Bool) (name : NameBytes) →
    IsDeclared edge declared form → (same_name declared name && defined_as form defined) ≡ true → (f : Signature)
    × (signature_of edge.functions name ≡ Some f)
known_by edge declared Lock defined name h e = let no : false ≡ true = (and_both (same_name declared name) false e).1 in
    absurd (cc no)
known_by edge declared (Shared ty lock) defined name h e = let no : false ≡ true =
    (and_both (same_name declared name) false e).1 in absurd (cc no)
known_by edge declared (Table ty) defined name h e = let no : false ≡ true =
    (and_both (same_name declared name) false e).1 in absurd (cc no)
known_by edge declared (Function ret params holds) defined name h e =
    let same : declared ≡ name = same_name_from declared name (and_both (same_name declared name) defined e).0 in
    (h.0, subst (λ n. signature_of edge.functions n ≡ Some h.0) same h.1)

-- so does a list of declarations
declared_known : (edge : Edge) (decls : List Decl) (name : NameBytes) → AreDeclared edge decls →
    defines decls name ≡ true → (f : Signature) × (signature_of edge.functions name ≡ Some f)
declared_known edge [] name h e = absurd (cc e)
declared_known edge (d ∷ ds) name h e = by (same_name d.name name && defined_as d.form d.defined) refl
    (λ k. declared_known edge ds name h.1 k) e
  where
    by : (t : Bool) → (same_name d.name name && defined_as d.form d.defined) ≡ t →
        (defines ds name ≡ true → (f : Signature) × (signature_of edge.functions name ≡ Some f)) →
        (if t then true else defines ds name) ≡ true → (f : Signature) × (signature_of edge.functions name ≡ Some f)
    by true is rest k = known_by edge d.name d.form d.defined name h.0 is
    by false is rest k = rest k

module _ {F S : Type 0} (l : Language F S) where
  pub results_known : (edge : Edge) (units : List (UnitOf F)) (entry : NameBytes) → FitsProgram l edge units entry →
      (name : NameBytes) → has_function l (all_functions units) name ≡ true → (n : ℕ) × (results_of edge name ≡ Some n)
  results_known edge units entry fits name there =
      let known = declared_known edge (all_decls units) name fits.declared (sym (fits.defined name) ∙ there) in
      (length (returned known.0.ret), ap count_of known.1)
