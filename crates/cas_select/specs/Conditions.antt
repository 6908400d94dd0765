-- The conditions that Selection picks: for a test that something is true, or, where that is meant, that it is false.
use Rattle.std.specs.Prelude.{ℕ, zero, Bool, true, false, not, Option, Some, None, if◌then◌else◌}
use Rattle.cas_syntax.specs.declared.tree.BinaryOperator.{BinaryOperator}
use Rattle.cas_syntax.specs.declared.tree.BinaryOperator.TheVariants as bin
use Rattle.cas_syntax.specs.declared.tree.UnaryOperator.TheVariants.{Not}
use Rattle.cas_typed.specs.declared.tree.Signedness.{Signedness}
use Rattle.cas_step.specs.Operators.{is_true}
use Rattle.cas_mid.specs.declared.tree.Unop.TheVariants.{OnWord}
use Rattle.cas_mid.specs.declared.tree.Binop.{Binop}
use Rattle.cas_mid.specs.declared.tree.Binop.TheVariants.{OnWords, Compare}
use Rattle.cas_mid.specs.Operators.{binary_word, either}
use Rattle.cas_mid.specs.Trees as cminor
use Rattle.cas_sel.specs.declared.tree.Cond.{Cond}
use Rattle.cas_sel.specs.declared.tree.Cond.TheVariants as cond
use Rattle.cas_sel.specs.Trees.{Expr, if_, Test, holds, always, if_test}
use Rattle.cas_select.specs.Operators.{one, two, known, exchanged, made_binop}

-- the same, or the opposite where falsehood is meant
abbrev pub agreeing : (is meant : Bool) → Bool
agreeing is true = is
agreeing is false = not is

-- the comparison that holds exactly where the other doesn't
abbrev pub opposite : BinaryOperator → BinaryOperator
opposite bin.Eq = bin.Ne
opposite bin.Ne = bin.Eq
opposite bin.Lt = bin.Ge
opposite bin.Le = bin.Gt
opposite bin.Gt = bin.Le
opposite bin.Ge = bin.Lt
opposite o = o

abbrev pub is_comparison : BinaryOperator → Bool
is_comparison bin.Eq = true
is_comparison bin.Ne = true
is_comparison bin.Lt = true
is_comparison bin.Le = true
is_comparison bin.Gt = true
is_comparison bin.Ge = true
is_comparison _ = false

abbrev pub turned : BinaryOperator → (meant : Bool) → BinaryOperator
turned o true = o
turned o false = opposite o

-- whether a value is true, or false, by what is known of it
abbrev pub truth_cond : (meant : Bool) → Cond
truth_cond true = cond.IsTrue
truth_cond false = cond.IsFalse

abbrev pub value_test_by : (meant : Bool) → Expr → Option ℕ → Test
value_test_by meant a (Some n) = always (agreeing (is_true n) meant)
value_test_by meant a None = holds (truth_cond meant) (one a)

abbrev pub value_test : (meant : Bool) → Expr → Test
value_test meant a = value_test_by meant a (known a)

-- a condition, or whether the word that decides it is true
abbrev pub folded_test : Test → Option ℕ → Test
folded_test c (Some n) = always (is_true n)
folded_test c None = c

-- a comparison of words whose first operand is this number
abbrev pub number_first_test :
    BinaryOperator → Signedness → (a b : Expr) → (number : ℕ) → Option BinaryOperator → Test
number_first_test o s a b n (Some other) = holds (cond.WithNumber other s n) (one b)
number_first_test o s a b n None = holds (cond.Words o s) (two a b)

-- a comparison of words, by what is known of its operands
abbrev pub words_test : BinaryOperator → Signedness → (a b : Expr) → (known_a known_b : Option ℕ) → Test
words_test o s a b (Some m) (Some n) = folded_test (holds (cond.WithNumber o s n) (one a)) (binary_word o s m n)
words_test o s a b None (Some n) = holds (cond.WithNumber o s n) (one a)
words_test o s a b (Some m) None = number_first_test o s a b m (exchanged o)
words_test o s a b None None = holds (cond.Words o s) (two a b)

-- a comparison with null is whether a value is false, or true
abbrev pub null_cond : BinaryOperator → (known_b : Option ℕ) → Option Cond
null_cond bin.Eq (Some zero) = Some cond.IsFalse
null_cond bin.Ne (Some zero) = Some cond.IsTrue
null_cond o n = None

abbrev pub pointers_test_by : BinaryOperator → (a b : Expr) → Option Cond → Test
pointers_test_by o a b (Some c) = holds c (one a)
pointers_test_by o a b None = holds (cond.Values o) (two a b)

-- a comparison of pointers
abbrev pub pointers_test : BinaryOperator → (a b : Expr) → Test
pointers_test o a b = pointers_test_by o a b (null_cond o (known b))

-- whether an operator gives a true value, or a false one: a comparison gives none between
abbrev pub on_words_test : (meant : Bool) → BinaryOperator → Signedness → (a b : Expr) → (compares : Bool) → Test
on_words_test meant o s a b true = words_test (turned o meant) s a b (known a) (known b)
on_words_test meant o s a b false = value_test meant (made_binop (OnWords o s) a b)

abbrev pub binop_test : (meant : Bool) → Binop → (a b : Expr) → Test
binop_test meant (OnWords o s) a b = on_words_test meant o s a b (is_comparison o)
binop_test meant (Compare o) a b = pointers_test (turned o meant) a b
binop_test meant o a b = value_test meant (made_binop o a b)

-- an If, of values and of conditions
abbrev pub made_if : Test → (a b : Expr) → Expr
made_if (always true) a b = a
made_if (always false) a b = b
made_if c a b = if_ c a b

abbrev pub made_if_test : (c a b : Test) → Test
made_if_test (always true) a b = a
made_if_test (always false) a b = b
made_if_test c a b = if_test c a b

-- what an If among conditions may have as a branch: a condition that costs less than a value and the test of it
abbrev pub is_condition : cminor.Expression → Bool
is_condition (cminor.word n) = true
is_condition (cminor.unop (OnWord Not) a) = true
is_condition (cminor.binop (OnWords o s) a b) = is_comparison o
is_condition (cminor.binop (Compare o) a b) = true
is_condition _ = false

-- where the branches are a true and a false word, an If is true where its condition is, or where that is false
abbrev pub agrees_by : (a b : Bool) → Option Bool
agrees_by true false = Some true
agrees_by false true = Some false
agrees_by _ _ = None

abbrev pub agrees : (a b : cminor.Expression) → Option Bool
agrees (cminor.word m) (cminor.word n) = agrees_by (is_true m) (is_true n)
agrees _ _ = None
