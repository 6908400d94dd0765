-- What a pass names and shows refines functions, units and threads.
use Rattle.std.proofs.Common.{◌≡◌, List, [], ◌∷◌, ◌++◌, Bool, true, false, if◌then◌else◌, refl, sym, ap, ◌∙◌, subst, Option, Some, None}
use Rattle.cas_base.specs.declared.decl.Decl.{Decl}
use Rattle.cas_base.specs.declared.decl.Unit.{Unit as UnitOf}
use Rattle.cas_runs.specs.Label.{NameBytes, same_name, Each, Both}
use Rattle.cas_runs.specs.Edge.{Edge}
use Rattle.cas_runs.specs.Unit.{Setting, names_of, all_decls, all_globals, all_functions, has_function, defines, AreDeclared, AreDefined, FitsProgram, UnitRefines, FunctionRefines, ThreadRefines}
use Rattle.cas_runs.specs.Calls.{language, find}
use Rattle.cas_runs.specs.Passing.{AllMade, UnitsMade, MadeSo, MadeAt, Matching, MadeOf, relation, RunTogether, IsMatching}
use Rattle.cas_runs.proofs.Found.{FoundAlike, AllFound, find_alike}
use Rattle.cas_runs.proofs.Lifted.{outward_refines, thread_refines}
use Rattle.cas_runs.proofs.Tests.{same_name_from}

-- what holds of all of a list and of another holds of both
each_front : {D : Type 0} (P : D → Type 0) (xs ys : List D) → Each P (xs ++ ys) → Each P xs
each_front P [] ys h = tt
each_front P (x ∷ xs) ys h = (h.0, each_front P xs ys h.1)

each_back : {D : Type 0} (P : D → Type 0) (xs ys : List D) → Each P (xs ++ ys) → Each P ys
each_back P [] ys h = h
each_back P (x ∷ xs) ys h = each_back P xs ys h.1

both_weaker : {A B : Type 0} (P Q : A → B → Type 0) → ((x : A) (y : B) → P x y → Q x y) → (xs : List A) (ys : List B) →
    Both P xs ys → Both Q xs ys
both_weaker P Q f [] [] h = tt
both_weaker P Q f [] (y ∷ ys) h = absurd h
both_weaker P Q f (x ∷ xs) [] h = absurd h
both_weaker P Q f (x ∷ xs) (y ∷ ys) h = (f x y h.0, both_weaker P Q f xs ys h.1)

both_joined : {A B : Type 0} (P : A → B → Type 0) (xs : List A) (ys : List B) (us : List A) (vs : List B) →
    Both P xs ys → Both P us vs → Both P (xs ++ us) (ys ++ vs)
both_joined P [] [] us vs h k = k
both_joined P [] (y ∷ ys) us vs h k = absurd h
both_joined P (x ∷ xs) [] us vs h k = absurd h
both_joined P (x ∷ xs) (y ∷ ys) us vs h k = (h.0, both_joined P xs ys us vs h.1 k)

module _ {F A G B : Type 0} (m : Matching F A G B) (is : IsMatching m) where
  -- functions made among declarations that the edge has
  made_at : (edge : Edge) (decls : List Decl) → AreDeclared edge decls → (ts : List F) (ss : List G) →
      AllMade (m.made decls) ts ss → AllMade (MadeAt edge m.made) ts ss
  made_at edge decls declared ts ss all = both_weaker (m.made decls) (MadeAt edge m.made)
      (λ f g h. record { decls = decls; declared = declared; is_made = h }) ts ss all

  made_so : (edge : Edge) (ts : List F) (ss : List G) → AllMade (MadeAt edge m.made) ts ss →
      AllMade (MadeSo m.made) ts ss
  made_so edge ts ss all = both_weaker (MadeAt edge m.made) (MadeSo m.made) (λ f g h. (h.decls, h.is_made)) ts ss all

  some_decls : (decls : List Decl) (ts : List F) (ss : List G) → AllMade (m.made decls) ts ss →
      AllMade (MadeSo m.made) ts ss
  some_decls decls ts ss all = both_weaker (m.made decls) (MadeSo m.made) (λ f g h. (decls, h)) ts ss all

  names_at : (edge : Edge) (f : F) (g : G) → MadeAt edge m.made f g → m.target.name f ≡ m.source.name g
  names_at edge f g h = is.names h.decls f g h.is_made

  names_made : (ts : List F) (ss : List G) → AllMade (MadeSo m.made) ts ss →
      names_of (language m.target) ts ≡ names_of (language m.source) ss
  names_made [] [] h = refl
  names_made [] (g ∷ gs) h = absurd h
  names_made (f ∷ fs) [] h = absurd h
  names_made (f ∷ fs) (g ∷ gs) h = ap (λ n. n ∷ names_of (language m.target) fs) (is.names h.0.0 f g h.0.1)
      ∙ ap (λ ns. m.source.name g ∷ ns) (names_made fs gs h.1)

  found_all : (setting : Setting) (ts : List F) (ss : List G) → AllMade (MadeAt setting.edge m.made) ts ss →
      AllFound m.target m.source (MadeOf m setting ts ss) ts ss
  found_all setting ts ss all name =
      by (find m.target ts name) (find m.source ss name) refl refl
      (find_alike m.target m.source (MadeAt setting.edge m.made) (names_at setting.edge) ts ss all name)
    where
      by : (o : Option F) (p : Option G) → find m.target ts name ≡ o → find m.source ss name ≡ p →
          FoundAlike (MadeAt setting.edge m.made) o p → FoundAlike (MadeOf m setting ts ss) o p
      by None None e d made = tt
      by None (Some g) e d made = absurd made
      by (Some f) None e d made = absurd made
      by (Some f) (Some g) e d made = record { is_made = made; name = name; target_found = e; source_found = d }

  pub units_pass : (t : UnitOf F) (s : UnitOf G) → t.decls ≡ s.decls → t.globals ≡ s.globals →
      AreDefined (language m.source) s.decls s.funs → AllMade (m.made s.decls) t.funs s.funs →
      UnitRefines (language m.target) (language m.source) t s
  units_pass t s d g defined all = record {
    decls = d;
    globals = g;
    names = names_made t.funs s.funs (some_decls s.decls t.funs s.funs all);
    defined = defined;
    naming = m.naming s.funs;
    laid_out_too = is.laid_out_too t.funs s.funs (some_decls s.decls t.funs s.funs all);
    refines = λ setting fits laid.
        let at = made_at setting.edge s.decls fits.declared t.funs s.funs all in
        let together : RunTogether m setting s.decls t.funs s.funs =
        record {
          all = at;
          edge_is = fits.edge_is;
          known =
              record {
                declared = fits.declared;
                apart = fits.apart;
                defined = λ name there. sym (defined name)
                    ∙ there;
              };
          laid_out = laid;
        } in
        outward_refines (relation m setting t.funs s.funs) (is.passes setting s.decls t.funs s.funs together)
        (found_all setting t.funs s.funs at) t.funs s.funs (found_all setting t.funs s.funs at);
  }

  -- a function alone is declared as defined, where its name is
  alone_defined : (decls : List Decl) (g : G) → defines decls (m.source.name g) ≡ true → (name : NameBytes) →
      has_function (language m.source) (g ∷ []) name ≡ true → defines decls name ≡ true
  alone_defined decls g defined name there = by (same_name (m.source.name g) name) refl there
    where
      by : (t : Bool) → same_name (m.source.name g) name ≡ t → (if t then true else false) ≡ true →
          defines decls name ≡ true
      by true same k = subst (λ n. defines decls n ≡ true) (same_name_from (m.source.name g) name same) defined
      by false same k = absurd (cc k)

  pub functions_pass : (decls : List Decl) (f : F) (g : G) → defines decls (m.source.name g) ≡ true → m.made decls f g →
      FunctionRefines (language m.target) (language m.source) decls (m.source.name g) f g
  functions_pass decls f g defined h = record {
    target_name = is.names decls f g h;
    source_name = refl;
    defined = defined;
    naming = m.naming (g ∷ []);
    laid_out_too = is.laid_out_too (f ∷ []) (g ∷ []) ((decls, h), tt);
    refines = λ setting fits laid.
        let at : AllMade (MadeAt setting.edge m.made) (f ∷ []) (g ∷ []) =
        (record { decls = decls; declared = fits.declared; is_made = h }, tt) in
        let together : RunTogether m setting decls (f ∷ []) (g ∷ []) =
        record {
          all = at;
          edge_is = fits.edge_is;
          known =
              record { declared = fits.declared; apart = fits.apart; defined = alone_defined decls g defined };
          laid_out =
              laid;
        } in
        outward_refines (relation m setting (f ∷ []) (g ∷ [])) (is.passes setting decls (f ∷ []) (g ∷ []) together)
        (found_all setting (f ∷ []) (g ∷ []) at) [] [] (λ name. tt);
  }

  -- functions of units, each made among the declarations of its own, which the edge has
  units_at : (edge : Edge) (ts : List (UnitOf F)) (ss : List (UnitOf G)) → UnitsMade m.made ts ss →
      AreDeclared edge (all_decls ss) → AllMade (MadeAt edge m.made) (all_functions ts) (all_functions ss)
  units_at edge [] [] h declared = tt
  units_at edge [] (s ∷ ss) h declared = absurd h
  units_at edge (t ∷ ts) [] h declared = absurd h
  units_at edge (t ∷ ts) (s ∷ ss) h declared =
      both_joined (MadeAt edge m.made) t.funs s.funs (all_functions ts) (all_functions ss)
      (made_at edge s.decls (each_front _ s.decls (all_decls ss) declared) t.funs s.funs h.0)
      (units_at edge ts ss h.1 (each_back _ s.decls (all_decls ss) declared))

  pub threads_pass : (edge : Edge) (ts : List (UnitOf F)) (ss : List (UnitOf G)) (entry : NameBytes) →
      FitsProgram (language m.source) edge ss entry → all_decls ts ≡ all_decls ss → all_globals ts ≡ all_globals ss →
      UnitsMade m.made ts ss → ThreadRefines (language m.target) (language m.source) edge ts ss entry
  threads_pass edge ts ss entry fits d v made = record {
    fits = fits;
    decls = d;
    globals = v;
    names = names_made fs gs so;
    naming = m.naming gs;
    laid_out_too = is.laid_out_too fs gs so;
    refines = λ setting thread same stack code laid word.
        let here : FitsProgram (language m.source) setting.edge ss entry =
        subst (λ e. FitsProgram (language m.source) e ss entry) (sym same) fits in
        let at = units_at setting.edge ts ss made here.declared in
        let together : RunTogether m setting (all_decls ss) fs gs =
        record {
          all = at;
          edge_is = here.edge_is;
          known =
              record {
                declared = here.declared;
                apart = here.apart;
                defined = λ name there. sym (here.defined name)
                    ∙ there;
              };
          laid_out = laid;
        } in
        thread_refines (relation m setting fs gs) (is.passes setting (all_decls ss) fs gs together)
        (found_all setting fs gs at) entry thread word;
  }
    where
      fs : List F
      fs = all_functions ts

      gs : List G
      gs = all_functions ss

      so : AllMade (MadeSo m.made) fs gs
      so = made_so edge fs gs (units_at edge ts ss made fits.declared)
