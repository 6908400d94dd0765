use Rattle.std.proofs.Common.{◌≡◌, ℕ, suc, ◌+◌, ◌-◌, ◌^◌, ◌<◌, min, List, [], ◌∷◌, length, map, Some, None, ap, refl, sym, ◌∙◌, arith}
use Rattle.cas_base.specs.declared.decl.Decl.{Decl}
use Rattle.cas_settle.specs.Settle.{first_refusal}
use Rattle.cas_settle.proofs.RefusalLemmas.{passed_on}
use Rattle.cas_object_text.specs.declared.object.Object.{Object}
use Rattle.cas_link.specs.Parts.{decls_in, functions_in, sizes_of}
use Rattle.cas_link.specs.Refusal.{link_refusal}
use Rattle.cas_link.proofs.Naming.{names_are}
use Rattle.cas_link.proofs.Order.{declared_fault, at-names, at-settle, at-code}
use Rattle.cas_link.proofs.linking.planned.Goals as goal

length-decls_in : (objects : List Object) → length (decls_in objects) ≡ length objects
length-decls_in [] = refl
length-decls_in (o ∷ os) = ap suc (length-decls_in os)

few : (units : List (List Decl)) (objects : List Object) → units ≡ decls_in objects → length objects < 2 ^ 32 →
    length units < 2 ^ 32
few units objects is h = let same : length units ≡ length objects =
    ap length is ∙ length-decls_in objects in omega arith

pub check_declarations-requires-clause-few_units : goal.check_declarations-requires-clause-few_units
check_declarations-requires-clause-few_units c = few c.in_ok-units.units c.args.objects.now c.in_ok-units.ensures
    c.requires.few_units

pub settle-requires-clause-few_units : goal.settle-requires-clause-few_units
settle-requires-clause-few_units c = few c.in_ok-units.units c.args.objects.now c.in_ok-units.ensures
    c.requires.few_units

pub returns-in_err-check_names-clause-refused : goal.returns-in_err-check_names-clause-refused
returns-in_err-check_names-clause-refused c =
    let objects = c.args.objects.now in
    let declared = sym (ap declared_fault c.in_ok-units.ensures) ∙ c.in_ok-check_declarations.ensures in
    let globals = ap (map (λ g. g.now)) c.deref.ensures.value ∙ c.in_ok-globals.ensures in
    let funs = ap (map (λ f. f.now)) c.deref-2.ensures.value ∙ c.in_ok-functions.ensures in
    passed_on c.from_residual-in_err-check_names.result c.in_err-check_names.field-0.0
    (link_refusal c.args.lock objects c.args.entries.now)
    c.from_residual-in_err-check_names.ensures.1
    (λ other. at-names objects c.args.lock c.args.entries.now declared c.in_err-check_names.field-0.0
    (sym (names_are objects (map (λ g. g.now) c.deref.result.now) (map (λ f. f.now) c.deref-2.result.now) globals funs)
    ∙ c.in_err-check_names.ensures other))

pub returns-in_err-settled-clause-refused : goal.returns-in_err-settled-clause-refused
returns-in_err-settled-clause-refused c =
    let objects = c.args.objects.now in
    let declared = sym (ap declared_fault c.in_ok-units.ensures) ∙ c.in_ok-check_declarations.ensures in
    let globals = ap (map (λ g. g.now)) c.deref.ensures.value ∙ c.in_ok-globals.ensures in
    let funs = ap (map (λ f. f.now)) c.deref-2.ensures.value ∙ c.in_ok-functions.ensures in
    let named =
    sym (names_are objects (map (λ g. g.now) c.deref.result.now) (map (λ f. f.now) c.deref-2.result.now)
    globals funs) ∙ c.in_ok-check_names.ensures in
    passed_on c.from_residual-in_err-settled.result c.in_err-settled.field-0.0
    (link_refusal c.args.lock objects c.args.entries.now)
    c.from_residual-in_err-settled.ensures.1
    (λ other. at-settle objects c.args.lock c.args.entries.now declared named c.in_err-settled.field-0.0
    (sym (ap (λ units. first_refusal units c.args.entries.now) c.in_ok-units.ensures)
    ∙ c.in_err-settled.ensures.refused other))

-- the instructions, as they are counted
counted : (lock sizes : ℕ) (funs all : ℕ) → sizes ≡ min (lock + funs) (2 ^ 64 - 1) → funs ≡ all →
    sizes ≡ min (lock + all) (2 ^ 64 - 1)
counted lock sizes funs all e f = e ∙ ap (λ n. min (lock + n) (2 ^ 64 - 1)) f

pub returns-in_err-check_limit-clause-refused : goal.returns-in_err-check_limit-clause-refused
returns-in_err-check_limit-clause-refused c =
    let objects = c.args.objects.now in
    let declared = sym (ap declared_fault c.in_ok-units.ensures) ∙ c.in_ok-check_declarations.ensures in
    let globals = ap (map (λ g. g.now)) c.deref.ensures.value ∙ c.in_ok-globals.ensures in
    let funs = ap (map (λ f. f.now)) c.deref-2.ensures.value ∙ c.in_ok-functions.ensures in
    let named =
    sym (names_are objects (map (λ g. g.now) c.deref.result.now) (map (λ f. f.now) c.deref-2.result.now)
    globals funs) ∙ c.in_ok-check_names.ensures in
    let first = sym (ap (λ units. first_refusal units c.args.entries.now) c.in_ok-units.ensures)
    ∙ c.in_ok-settled.ensures.refused in
    let sizes = ap sizes_of (ap (map (λ f. f.now)) c.deref-3.ensures.value ∙ c.in_ok-functions.ensures) in
    passed_on c.from_residual-in_err-check_limit.result c.in_err-check_limit.field-0.0
    (link_refusal c.args.lock objects c.args.entries.now)
    c.from_residual-in_err-check_limit.ensures.1
    (λ other. at-code objects c.args.lock c.args.entries.now declared named (Some c.in_err-check_limit.field-0.0) first
    (c.in_err-check_limit.ensures (c.args.lock + sizes_of (functions_in objects))
    (counted c.args.lock c.sizes_after.result _ _ c.sizes_after.ensures sizes) other))

pub returns-clause-refused : goal.returns-clause-refused
returns-clause-refused c =
    let objects = c.args.objects.now in
    let declared = sym (ap declared_fault c.in_ok-units.ensures) ∙ c.in_ok-check_declarations.ensures in
    let globals = ap (map (λ g. g.now)) c.deref.ensures.value ∙ c.in_ok-globals.ensures in
    let funs = ap (map (λ f. f.now)) c.deref-2.ensures.value ∙ c.in_ok-functions.ensures in
    let named =
    sym (names_are objects (map (λ g. g.now) c.deref.result.now) (map (λ f. f.now) c.deref-2.result.now)
    globals funs) ∙ c.in_ok-check_names.ensures in
    let first = sym (ap (λ units. first_refusal units c.args.entries.now) c.in_ok-units.ensures)
    ∙ c.in_ok-settled.ensures.refused in
    let sizes = ap sizes_of (ap (map (λ f. f.now)) c.deref-3.ensures.value ∙ c.in_ok-functions.ensures) in
    at-code objects c.args.lock c.args.entries.now declared named None first
    (c.in_ok-check_limit.ensures (c.args.lock + sizes_of (functions_in objects))
    (counted c.args.lock c.sizes_after.result _ _ c.sizes_after.ensures sizes))
