-- Modules that are the same but for places have the same canonical text.
use Rattle.std.proofs.Common.{◌≡◌, ◌∙◌, ℕ, List, [], ◌∷◌, map, refl, ap, sym, subst}
use Rattle.std.proofs.Math.Path.{fun_ext}
use Rattle.std.specs.Prelude.{Option, Some, None}
use Rattle.cas_base.specs.declared.decl.Form.{Form}
use Rattle.cas_base.specs.declared.decl.Form.TheVariants.{Lock, Shared, Table, Function}
use Rattle.cas_base.specs.declared.kind.Ty.{Ty}
use Rattle.cas_syntax.specs.declared.tree.Ident.{Ident}
use Rattle.cas_syntax.specs.Alike.{bare_ident, bare_expr, bare_target, bare_init, bare_option, bare_stmt, bare_stmt_option, bare_stmts, bare_item, bare_module, IsAlike}
use Rattle.cas_syntax.specs.Reading.{IsReadAs}
use Rattle.cas_syntax.specs.Tree.{ExprTree, literal, name, index, deref, address, address_index, unary, cast, binary, and_also, or_else, conditional, TargetTree, to_name, to_index, to_deref, InitTree, nothing, value, called, StmtTree, skip, declare, assign, call, block, if_, while_, do_, for_, break_, continue_, return_, lock, unlock, print, StmtOption, absent, present, StmtList, no_more, one_more, ItemTree, global, prototype, define, ModuleTree}
use Rattle.cas_print.specs.Expressions.{behind_commas, listed, outermost, printed_expr}
use Rattle.cas_print.specs.Items.{canonical, more_parameters, printed_head, printed_item, printed_items}
use Rattle.cas_print.specs.Statements.{is_name_alone, printed_else, printed_init, printed_optional, printed_part, printed_part_option, printed_result, printed_stmt, printed_stmts, printed_target}
use Rattle.cas_print.proofs.Law.{canonical_is_read}

outermost-bare : (a : ExprTree) → outermost (bare_expr a) ≡ outermost a
outermost-bare (literal n k) = refl
outermost-bare (name x) = refl
outermost-bare (index x a) = refl
outermost-bare (deref a) = refl
outermost-bare (address x) = refl
outermost-bare (address_index x a) = refl
outermost-bare (unary op a) = refl
outermost-bare (cast k a) = refl
outermost-bare (binary op a b) = refl
outermost-bare (and_also a b) = refl
outermost-bare (or_else a b) = refl
outermost-bare (conditional c a b) = refl

is_name_alone-bare : (a : ExprTree) → is_name_alone (bare_expr a) ≡ is_name_alone a
is_name_alone-bare (literal n k) = refl
is_name_alone-bare (name x) = refl
is_name_alone-bare (index x a) = refl
is_name_alone-bare (deref a) = refl
is_name_alone-bare (address x) = refl
is_name_alone-bare (address_index x a) = refl
is_name_alone-bare (unary op a) = refl
is_name_alone-bare (cast k a) = refl
is_name_alone-bare (binary op a b) = refl
is_name_alone-bare (and_also a b) = refl
is_name_alone-bare (or_else a b) = refl
is_name_alone-bare (conditional c a b) = refl

printed_expr-bare : (a : ExprTree) → printed_expr (bare_expr a) ≡ printed_expr a
printed_expr-bare (literal n k) = fun_ext (λ rest. refl)
printed_expr-bare (name x) = fun_ext (λ rest. refl)
printed_expr-bare (index x a) = fun_ext (λ rest. rw (printed_expr-bare a) refl)
printed_expr-bare (deref a) = fun_ext (λ rest. rw (outermost-bare a, printed_expr-bare a) refl)
printed_expr-bare (address x) = fun_ext (λ rest. refl)
printed_expr-bare (address_index x a) = fun_ext (λ rest. rw (printed_expr-bare a) refl)
printed_expr-bare (unary op a) = fun_ext (λ rest. rw (outermost-bare a, printed_expr-bare a) refl)
printed_expr-bare (cast k a) = fun_ext (λ rest. rw (outermost-bare a, printed_expr-bare a) refl)
printed_expr-bare (binary op a b) =
    fun_ext (λ rest. rw (outermost-bare a, printed_expr-bare a, outermost-bare b, printed_expr-bare b) refl)
printed_expr-bare (and_also a b) =
    fun_ext (λ rest. rw (outermost-bare a, printed_expr-bare a, outermost-bare b, printed_expr-bare b) refl)
printed_expr-bare (or_else a b) =
    fun_ext (λ rest. rw (outermost-bare a, printed_expr-bare a, outermost-bare b, printed_expr-bare b) refl)
printed_expr-bare (conditional c a b) =
    fun_ext (λ rest. rw (outermost-bare c, printed_expr-bare c, printed_expr-bare a, printed_expr-bare b) refl)

behind_commas-bare : (bs : List ExprTree) → behind_commas printed_expr (map bare_expr bs)
    ≡ behind_commas printed_expr bs
behind_commas-bare [] = fun_ext (λ rest. refl)
behind_commas-bare (b ∷ bs) = fun_ext (λ rest. rw (printed_expr-bare b, behind_commas-bare bs) refl)

listed-bare : (bs : List ExprTree) → listed printed_expr (map bare_expr bs) ≡ listed printed_expr bs
listed-bare [] = fun_ext (λ rest. refl)
listed-bare (b ∷ bs) = fun_ext (λ rest. rw (printed_expr-bare b, behind_commas-bare bs) refl)

printed_target-bare : (t : TargetTree) → printed_target (bare_target t) ≡ printed_target t
printed_target-bare (to_name x) = fun_ext (λ rest. refl)
printed_target-bare (to_index x a) = fun_ext (λ rest. rw (printed_expr-bare a) refl)
printed_target-bare (to_deref a) = fun_ext (λ rest. rw (is_name_alone-bare a, printed_expr-bare a) refl)

printed_init-bare : (a : InitTree) → printed_init (bare_init a) ≡ printed_init a
printed_init-bare nothing = fun_ext (λ rest. refl)
printed_init-bare (value a) = fun_ext (λ rest. rw (printed_expr-bare a) refl)
printed_init-bare (called f bs) = fun_ext (λ rest. rw (listed-bare bs) refl)

printed_result-bare : (x : Option Ident) → printed_result (bare_option bare_ident x) ≡ printed_result x
printed_result-bare None = fun_ext (λ rest. refl)
printed_result-bare (Some x) = fun_ext (λ rest. refl)

printed_optional-bare : (a : Option ExprTree) → printed_optional (bare_option bare_expr a) ≡ printed_optional a
printed_optional-bare None = fun_ext (λ rest. refl)
printed_optional-bare (Some a) = fun_ext (λ rest. rw (printed_expr-bare a) refl)

printed_part-bare : (a : StmtTree) → printed_part (bare_stmt a) ≡ printed_part a
printed_part-bare (skip p) = fun_ext (λ rest. refl)
printed_part-bare (declare p ty x a) = fun_ext (λ rest. rw (printed_init-bare a) refl)
printed_part-bare (assign p t op a) = fun_ext (λ rest. rw (printed_target-bare t, printed_expr-bare a) refl)
printed_part-bare (call p x f bs) = fun_ext (λ rest. rw (printed_result-bare x, listed-bare bs) refl)
printed_part-bare (block p bs) = fun_ext (λ rest. refl)
printed_part-bare (if_ p c a b) = fun_ext (λ rest. refl)
printed_part-bare (while_ p c a) = fun_ext (λ rest. refl)
printed_part-bare (do_ p a c) = fun_ext (λ rest. refl)
printed_part-bare (for_ p i c u a) = fun_ext (λ rest. refl)
printed_part-bare (break_ p) = fun_ext (λ rest. refl)
printed_part-bare (continue_ p) = fun_ext (λ rest. refl)
printed_part-bare (return_ p a) = fun_ext (λ rest. refl)
printed_part-bare (lock p x) = fun_ext (λ rest. refl)
printed_part-bare (unlock p x) = fun_ext (λ rest. refl)
printed_part-bare (print p a) = fun_ext (λ rest. refl)

printed_part_option-bare : (a : StmtOption) → printed_part_option (bare_stmt_option a) ≡ printed_part_option a
printed_part_option-bare absent = fun_ext (λ rest. refl)
printed_part_option-bare (present a) = fun_ext (λ rest. rw (printed_part-bare a) refl)

mutual
  printed_stmt-bare : (a : StmtTree) → printed_stmt (bare_stmt a) ≡ printed_stmt a
  printed_stmt-bare (skip p) = fun_ext (λ rest. refl)
  printed_stmt-bare (declare p ty x a) = fun_ext (λ rest. rw (printed_init-bare a) refl)
  printed_stmt-bare (assign p t op a) = fun_ext (λ rest. rw (printed_target-bare t, printed_expr-bare a) refl)
  printed_stmt-bare (call p x f bs) = fun_ext (λ rest. rw (printed_result-bare x, listed-bare bs) refl)
  printed_stmt-bare (block p bs) = fun_ext (λ rest. rw (printed_stmts-bare bs) refl)
  printed_stmt-bare (if_ p c a b) =
      fun_ext (λ rest. rw (printed_expr-bare c, printed_stmt-bare a, printed_else-bare b) refl)
  printed_stmt-bare (while_ p c a) = fun_ext (λ rest. rw (printed_expr-bare c, printed_stmt-bare a) refl)
  printed_stmt-bare (do_ p a c) = fun_ext (λ rest. rw (printed_expr-bare c, printed_stmt-bare a) refl)
  printed_stmt-bare (for_ p i c u a) =
      fun_ext (λ rest. rw (
        printed_part_option-bare i,
        printed_optional-bare c,
        printed_part_option-bare u,
        printed_stmt-bare a,
      ) refl)
  printed_stmt-bare (break_ p) = fun_ext (λ rest. refl)
  printed_stmt-bare (continue_ p) = fun_ext (λ rest. refl)
  printed_stmt-bare (return_ p a) = fun_ext (λ rest. rw (printed_optional-bare a) refl)
  printed_stmt-bare (lock p x) = fun_ext (λ rest. refl)
  printed_stmt-bare (unlock p x) = fun_ext (λ rest. refl)
  printed_stmt-bare (print p a) = fun_ext (λ rest. rw (printed_expr-bare a) refl)

  printed_else-bare : (a : StmtOption) → printed_else (bare_stmt_option a) ≡ printed_else a
  printed_else-bare absent = fun_ext (λ rest. refl)
  printed_else-bare (present a) = fun_ext (λ rest. rw (printed_stmt-bare a) refl)

  printed_stmts-bare : (bs : StmtList) → printed_stmts (bare_stmts bs) ≡ printed_stmts bs
  printed_stmts-bare no_more = fun_ext (λ rest. refl)
  printed_stmts-bare (one_more a bs) = fun_ext (λ rest. rw (printed_stmt-bare a, printed_stmts-bare bs) refl)

more_parameters-bare : (tys : List Ty) (xs : List Ident) →
    more_parameters tys (map bare_ident xs) ≡ more_parameters tys xs
more_parameters-bare [] xs = fun_ext (λ rest. refl)
more_parameters-bare (ty ∷ tys) [] = fun_ext (λ rest. refl)
more_parameters-bare (ty ∷ tys) (x ∷ xs) = fun_ext (λ rest. rw (more_parameters-bare tys xs) refl)

printed_head-bare : (form : Form) (x : List ℕ) (xs : List Ident) →
    printed_head form x (map bare_ident xs) ≡ printed_head form x xs
printed_head-bare Lock x xs = fun_ext (λ rest. refl)
printed_head-bare (Shared ty guard) x xs = fun_ext (λ rest. refl)
printed_head-bare (Table ty) x xs = fun_ext (λ rest. refl)
printed_head-bare (Function ret [] holds) x xs = fun_ext (λ rest. refl)
printed_head-bare (Function ret (ty ∷ tys) holds) x [] = fun_ext (λ rest. refl)
printed_head-bare (Function ret (ty ∷ tys) holds) x (y ∷ ys) = fun_ext (λ rest. rw (more_parameters-bare tys ys) refl)

printed_item-bare : (a : ItemTree) → printed_item (bare_item a) ≡ printed_item a
printed_item-bare (global d vs p) = fun_ext (λ rest. refl)
printed_item-bare (prototype d hs p) = fun_ext (λ rest. refl)
printed_item-bare (define f) =
    fun_ext (λ rest. rw (printed_head-bare f.decl.form f.decl.name f.params, printed_stmts-bare f.body) refl)

printed_items-bare : (bs : List ItemTree) → printed_items (map bare_item bs) ≡ printed_items bs
printed_items-bare [] = fun_ext (λ rest. refl)
printed_items-bare (b ∷ bs) = fun_ext (λ rest. rw (printed_item-bare b, printed_items-bare bs) refl)

canonical-bare : (m : ModuleTree) → canonical (bare_module m) ≡ canonical m
canonical-bare m = rw (printed_items-bare m.items) refl

canonical-alike : (m other : ModuleTree) → IsAlike m other → canonical m ≡ canonical other
canonical-alike m other alike = sym (canonical-bare m) ∙ ap canonical alike ∙ canonical-bare other

-- the canonical text of a module that is the same but for places as one that some text is read as
pub alike_is_read : (bytes : List ℕ) (m alike : ModuleTree) → IsReadAs bytes m → IsAlike m alike →
    (other : ModuleTree) × IsReadAs (canonical alike) other × IsAlike other alike
alike_is_read bytes m alike read same =
    let again = canonical_is_read bytes m read in (
      again.0,
      subst (λ (printed : List ℕ). IsReadAs printed again.0) (canonical-alike m alike same) again.1,
      again.2
          ∙ same,
    )
