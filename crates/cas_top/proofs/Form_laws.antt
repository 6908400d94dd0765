-- Which modules are of the first form, as the generator looks at them.
use Rattle.std.proofs.Common.{◌≡◌, ℕ, true, false, List, [], ◌∷◌, ◌++◌, length, Option, Some, None, Result, Ok, Err, refl, sym, ap, subst, ◌∙◌}
use Rattle.std.specs.Prelude.{IfOk, IfSome, IfNone}
use Rattle.std.specs.declared.alloc.Global.{Global}
use Rattle.std.specs.declared.vec.Vec.{Vec}
use Rattle.cas_base.specs.declared.kind.Kind.TheVariants.{I32}
use Rattle.cas_base.specs.declared.memory.NoMemory.{NoMemory}
use Rattle.cas_base.specs.declared.place.Place.{Place}
use Rattle.cas_syntax.specs.Tree.{ExprTree, literal, binary, StmtTree, StmtList, no_more, one_more, print, FunTree, ItemTree, define, expr_tree, form_tree, stmt_trees, item_tree}
use Rattle.cas_syntax.specs.declared.tree.BinaryOperator.TheVariants.{Add}
use Rattle.cas_syntax.specs.declared.tree.Expr.{Expr}
use Rattle.cas_syntax.specs.declared.tree.Fun.{Fun}
use Rattle.cas_syntax.specs.declared.tree.Item.{Item}
use Rattle.cas_syntax.specs.declared.tree.Item.TheVariants as item
use Rattle.cas_syntax.specs.declared.tree.Stmt.{Stmt}
use Rattle.cas_syntax.specs.declared.tree.StmtForm.{StmtForm, Print}
use Rattle.cas_top.specs.First_form.{prints_sum, is_entry_named, is_first_form_of}
use Rattle.cas_top.specs.Machine.{loads, adds, IsBodyCode, IsItemsCode}
use Rattle.cas_top.specs.View.{IsPrintCode, IsSumCode}
use Rattle.cas_top.specs.declared.machine.Instr.{Instr}
use Rattle.cas_top.specs.declared.machine.Instr.TheVariants.{MovEax, AddEax}

-- a statement of another form prints nothing
pub not_printing : (p : Place) (f : StmtForm) (rest : StmtList) → ((a : Expr) → f ≡ Print a → ⊥) →
    prints_sum (one_more (form_tree p f) rest) ≡ false
not_printing p (Print a) rest h = absurd (h a refl)
not_printing p _ rest h = refl

-- two statements are no body of the first form
pub two_statements : (a b : StmtTree) (bs : StmtList) → prints_sum (one_more a (one_more b bs)) ≡ false
two_statements (print p a) b bs = refl
two_statements _ b bs = refl

-- two items are no module of the first form
pub two_items : (name : List ℕ) (a b : ItemTree) (bs : List ItemTree) → is_first_form_of name (a ∷ b ∷ bs) ≡ false
two_items name (define f) b bs = refl
two_items name _ b bs = refl

-- nor is an item that is no function with a body
pub no_function : (name : List ℕ) (a : Item) → ((f : Fun) → a ≡ item.Define f → ⊥) →
    is_first_form_of name (item_tree a ∷ []) ≡ false
no_function name (item.Define f) h = absurd (h f refl)
no_function name _ h = refl

-- the module of a function that no thread of this name may enter
pub other_entry : (name : List ℕ) (items : List ItemTree) (f : FunTree) → items ≡ define f ∷ [] →
    is_entry_named name f ≡ false → is_first_form_of name items ≡ false
other_entry name items f e h = rw (e, h) refl

-- the module of a function that a thread may enter
pub of_function : (name : List ℕ) (items : List ItemTree) (f : FunTree) → items ≡ define f ∷ [] →
    is_entry_named name f ≡ true →
    is_first_form_of name items ≡ prints_sum f.body
of_function name items f e h = rw (e, h) refl

-- the code of a literal of `int`
pub literal_code : (a : ExprTree) (n : ℕ) (code : Vec Instr Global) → a ≡ literal n I32 → code.items ≡ MovEax n ∷ [] →
    IsSumCode a (Some code)
literal_code a n code is items = rw (is, items) (refl, loads n)

-- the code of a sum and a literal of `int`
pub with_more : (a : ExprTree) (o : Option (Vec Instr Global)) (code more : Vec Instr Global) (n : ℕ) → o ≡ Some code →
    more.items ≡ code.items ++ AddEax n ∷ [] → IsSumCode a o →
    IsSumCode (binary Add a (literal n I32)) (Some more)
with_more a o code more n there items is =
    let P : Option (Vec Instr Global) → Type 0 = λ x. IsSumCode a x in
    let sum = subst P there is in
    (sum.0, rw items (adds a code.items n sum.1))

-- a body of one statement, which prints this
pub one_print : (body rest : List Stmt) (s : Stmt) (a : Expr) → body ≡ s ∷ rest → length rest ≡ 0 → s.form ≡ Print a →
    (p : Place) × (stmt_trees body ≡ one_more (print p (expr_tree a)) no_more)
one_print body [] s a cons none form = (s.place, rw (cons, form) refl)
one_print body (t ∷ rest) s a cons none form = absurd (cc none)

-- what is generated of a module: the code, where it is of the first form
abbrev IsGenerated : (name : List ℕ) → List ItemTree → Option (Vec Instr Global) → Type 0
IsGenerated name items None = is_first_form_of name items ≡ false
IsGenerated name items (Some code) = (is_first_form_of name items ≡ true) × IsItemsCode items code.items

generated : (name : List ℕ) (items : List ItemTree) (f : FunTree) (a : ExprTree) (p : Place)
    (o : Option (Vec Instr Global)) → items ≡ define f ∷ [] → is_entry_named name f ≡ true →
    f.body ≡ one_more (print p a) no_more → IsPrintCode a o → IsGenerated name items o
generated name items f a p None e h b is = of_function name items f e h ∙ ap prints_sum b ∙ is
generated name items f a p (Some code) e h b is =
    let P : StmtList → Type 0 = λ body. IsBodyCode body code.items in
    let Q : List ItemTree → Type 0 = λ xs. IsItemsCode xs code.items in
    (of_function name items f e h ∙ ap prints_sum b ∙ is.0, subst Q (sym e) (subst P (sym b) (is.1, is.2, is.3)))

pub all_generated : (name : List ℕ) (items : List ItemTree) (f : FunTree) (a : ExprTree) (p : Place)
    (r : Result (Option (Vec Instr Global)) NoMemory) → items ≡ define f ∷ [] → is_entry_named name f ≡ true →
    f.body ≡ one_more (print p a) no_more → IfOk r (λ o. IsPrintCode a o) → IfOk r (λ o. IsGenerated name items o)
all_generated name items f a p (Ok o) e h b is = generated name items f a p o e h b is
all_generated name items f a p (Err why) e h b is = tt

module _ (name : List ℕ) (items : List ItemTree) where
  pub form_generated : (r : Result (Option (Vec Instr Global)) NoMemory) → IfOk r (λ o. IsGenerated name items o) →
      IfOk r (λ o. IfSome o (λ code. is_first_form_of name items ≡ true))
  form_generated (Ok (Some code)) is = is.0
  form_generated (Ok None) is = tt
  form_generated (Err why) is = tt

  pub code_generated : (r : Result (Option (Vec Instr Global)) NoMemory) → IfOk r (λ o. IsGenerated name items o) →
      IfOk r (λ o. IfSome o (λ code. IsItemsCode items code.items))
  code_generated (Ok (Some code)) is = is.1
  code_generated (Ok None) is = tt
  code_generated (Err why) is = tt

  pub none_generated : (r : Result (Option (Vec Instr Global)) NoMemory) → IfOk r (λ o. IsGenerated name items o) →
      IfOk r (λ o. IfNone o (is_first_form_of name items ≡ false))
  none_generated (Ok (Some code)) is = tt
  none_generated (Ok None) is = is
  none_generated (Err why) is = tt
