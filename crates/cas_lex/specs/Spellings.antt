-- How words and signs are spelt.
use Rattle.std.specs.Prelude.{ℕ, Bool, nat_eq, List, [], ◌∷◌, ◌++◌, map, find, codes, bytes_eq, Option}
use Rattle.std.specs.List.{starts_with, list_any}
use Rattle.cas_lex.specs.declared.token.Word.{Word}
use Rattle.cas_lex.specs.declared.token.Word.TheVariants as w
use Rattle.cas_lex.specs.declared.token.Sign.{Sign}
use Rattle.cas_lex.specs.declared.token.Sign.TheVariants as s

-- the bytes of a word
abbrev pub word_spelling : Word → List ℕ
word_spelling w.Void = codes "void"
word_spelling w.Char = codes "char"
word_spelling w.Short = codes "short"
word_spelling w.Int = codes "int"
word_spelling w.Unsigned = codes "unsigned"
word_spelling w.Signed = codes "signed"
word_spelling w.Const = codes "const"
word_spelling w.Extern = codes "extern"
word_spelling w.If = codes "if"
word_spelling w.Else = codes "else"
word_spelling w.While = codes "while"
word_spelling w.Do = codes "do"
word_spelling w.For = codes "for"
word_spelling w.Break = codes "break"
word_spelling w.Continue = codes "continue"
word_spelling w.Return = codes "return"
word_spelling w.Lock = codes "lock"
word_spelling w.Unlock = codes "unlock"
word_spelling w.Shared = codes "shared"
word_spelling w.Holds = codes "holds"
word_spelling w.Print = codes "print"

-- all words
abbrev pub words : List Word
words =
    w.Void ∷ w.Char ∷ w.Short ∷ w.Int ∷ w.Unsigned ∷ w.Signed ∷ w.Const ∷ w.Extern ∷ w.If ∷ w.Else ∷ w.While
    ∷ w.Do ∷ w.For ∷ w.Break ∷ w.Continue ∷ w.Return ∷ w.Lock ∷ w.Unlock ∷ w.Shared ∷ w.Holds ∷ w.Print ∷ []

-- the word that these bytes spell
abbrev pub word_of : List ℕ → Option Word
word_of text = find (λ w. bytes_eq (word_spelling w) text) words

-- the words of C that are left out, and a word that is reserved
abbrev pub left_out_words : List (List ℕ)
left_out_words =
    codes "float" ∷ codes "double" ∷ codes "long" ∷ codes "struct" ∷ codes "union" ∷ codes "enum" ∷ codes "typedef"
    ∷ codes "goto" ∷ codes "switch" ∷ codes "case" ∷ codes "default" ∷ codes "sizeof" ∷ codes "static"
    ∷ codes "volatile" ∷ codes "register" ∷ codes "auto" ∷ codes "inline" ∷ codes "restrict" ∷ codes "trylock" ∷ []

-- whether these bytes are a word that is left out
abbrev pub is_left_out : List ℕ → Bool
is_left_out text = list_any (λ word. bytes_eq word text) left_out_words

-- all words, and then those that are left out
abbrev pub reserved : List (List ℕ)
reserved = map word_spelling words ++ left_out_words

-- the bytes of a sign
abbrev pub sign_spelling : Sign → List ℕ
sign_spelling s.ShiftLeftEqual = codes "<<="
sign_spelling s.ShiftRightEqual = codes ">>="
sign_spelling s.ShiftLeft = codes "<<"
sign_spelling s.ShiftRight = codes ">>"
sign_spelling s.AndAnd = codes "&&"
sign_spelling s.OrOr = codes "||"
sign_spelling s.EqualEqual = codes "=="
sign_spelling s.NotEqual = codes "!="
sign_spelling s.LessEqual = codes "<="
sign_spelling s.GreaterEqual = codes ">="
sign_spelling s.PlusEqual = codes "+="
sign_spelling s.MinusEqual = codes "-="
sign_spelling s.StarEqual = codes "*="
sign_spelling s.SlashEqual = codes "/="
sign_spelling s.PercentEqual = codes "%="
sign_spelling s.AndEqual = codes "&="
sign_spelling s.OrEqual = codes "|="
sign_spelling s.CaretEqual = codes "^="
sign_spelling s.PlusPlus = codes "++"
sign_spelling s.MinusMinus = codes "--"
sign_spelling s.Plus = codes "+"
sign_spelling s.Minus = codes "-"
sign_spelling s.Star = codes "*"
sign_spelling s.Slash = codes "/"
sign_spelling s.Percent = codes "%"
sign_spelling s.And = codes "&"
sign_spelling s.Or = codes "|"
sign_spelling s.Caret = codes "^"
sign_spelling s.Tilde = codes "~"
sign_spelling s.Not = codes "!"
sign_spelling s.Less = codes "<"
sign_spelling s.Greater = codes ">"
sign_spelling s.Equal = codes "="
sign_spelling s.Question = codes "?"
sign_spelling s.Colon = codes ":"
sign_spelling s.Semicolon = codes ";"
sign_spelling s.Comma = codes ","
sign_spelling s.OpenParen = codes "("
sign_spelling s.CloseParen = codes ")"
sign_spelling s.OpenBracket = codes "["
sign_spelling s.CloseBracket = codes "]"
sign_spelling s.OpenBrace = codes "{"
sign_spelling s.CloseBrace = codes "}"

-- all signs, the longest first
abbrev pub signs : List Sign
signs =
    s.ShiftLeftEqual ∷ s.ShiftRightEqual
    ∷ s.PlusPlus ∷ s.MinusMinus ∷ s.AndAnd ∷ s.OrOr ∷ s.ShiftLeft ∷ s.ShiftRight ∷ s.EqualEqual ∷ s.NotEqual
    ∷ s.LessEqual ∷ s.GreaterEqual ∷ s.PlusEqual ∷ s.MinusEqual ∷ s.StarEqual ∷ s.SlashEqual ∷ s.PercentEqual
    ∷ s.AndEqual ∷ s.OrEqual ∷ s.CaretEqual
    ∷ s.Plus ∷ s.Minus ∷ s.Star ∷ s.Slash ∷ s.Percent ∷ s.And ∷ s.Or ∷ s.Caret ∷ s.Tilde ∷ s.Not ∷ s.Less
    ∷ s.Greater ∷ s.Equal ∷ s.Question ∷ s.Colon ∷ s.Semicolon ∷ s.Comma ∷ s.OpenParen ∷ s.CloseParen
    ∷ s.OpenBracket ∷ s.CloseBracket ∷ s.OpenBrace ∷ s.CloseBrace ∷ []

-- the longest sign that begins a text
abbrev pub sign_at : List ℕ → Option Sign
sign_at text = find (λ s. starts_with nat_eq text (sign_spelling s)) signs
