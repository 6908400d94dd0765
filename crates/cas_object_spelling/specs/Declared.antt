-- The text of a line outside functions, without its line feed.
use Rattle.std.specs.Prelude.{ℕ, List, [], ◌++◌, codes}
use Rattle.cas_base.specs.Print.{decl_text}
use Rattle.cas_object_decl.specs.declared.line.DeclLine.{DeclLine}
use Rattle.cas_object_decl.specs.declared.line.DeclLine.TheVariants.{Extern, Data, Function, End}
use Rattle.cas_object_print.specs.Objects.{values}

abbrev pub decl_line_text : DeclLine → List ℕ
decl_line_text (Extern decl) = codes "extern " ++ decl_text decl
decl_line_text (Data global) = decl_text global.decl ++ values global.values []
decl_line_text (Function decl) = decl_text decl
decl_line_text End = codes "end object"
