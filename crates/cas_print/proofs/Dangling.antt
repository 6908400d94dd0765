-- An `else` belongs to the same `if`, whatever the places are.
use Rattle.std.proofs.Common.{◌≡◌, refl}
use Rattle.cas_syntax.specs.Alike.{bare_stmt, bare_stmt_option}
use Rattle.cas_syntax.specs.Statements.{dangles, dangles_option}
use Rattle.cas_syntax.specs.Tree.{StmtTree, if_, while_, for_, StmtOption, absent, present}

mutual
  pub dangles-bare : (a : StmtTree) → dangles (bare_stmt a) ≡ dangles a
  dangles-bare (if_ p c a b) = dangles_option-bare b
  dangles-bare (while_ p c a) = dangles-bare a
  dangles-bare (for_ p i c u a) = dangles-bare a
  dangles-bare _ = refl

  pub dangles_option-bare : (a : StmtOption) → dangles_option (bare_stmt_option a) ≡ dangles_option a
  dangles_option-bare absent = refl
  dangles_option-bare (present a) = dangles-bare a
