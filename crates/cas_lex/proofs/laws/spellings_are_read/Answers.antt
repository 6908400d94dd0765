use Rattle.std.proofs.Common.{◌≡◌, Some, refl}
use Rattle.cas_lex.specs.declared.token.Sign.{Sign}
use Rattle.cas_lex.specs.declared.token.Sign.TheVariants as s
use Rattle.cas_lex.specs.declared.token.Word.{Word}
use Rattle.cas_lex.specs.declared.token.Word.TheVariants as w
use Rattle.cas_lex.specs.Spellings.{sign_at, sign_spelling, word_of, word_spelling}
use Rattle.cas_lex.proofs.laws.spellings_are_read.Goals as goal

word_is_read : (word : Word) → word_of (word_spelling word) ≡ Some word
word_is_read w.Void = refl
word_is_read w.Char = refl
word_is_read w.Short = refl
word_is_read w.Int = refl
word_is_read w.Unsigned = refl
word_is_read w.Signed = refl
word_is_read w.Const = refl
word_is_read w.Extern = refl
word_is_read w.If = refl
word_is_read w.Else = refl
word_is_read w.While = refl
word_is_read w.Do = refl
word_is_read w.For = refl
word_is_read w.Break = refl
word_is_read w.Continue = refl
word_is_read w.Return = refl
word_is_read w.Lock = refl
word_is_read w.Unlock = refl
word_is_read w.Shared = refl
word_is_read w.Holds = refl
word_is_read w.Print = refl

sign_is_read : (sign : Sign) → sign_at (sign_spelling sign) ≡ Some sign
sign_is_read s.ShiftLeftEqual = refl
sign_is_read s.ShiftRightEqual = refl
sign_is_read s.ShiftLeft = refl
sign_is_read s.ShiftRight = refl
sign_is_read s.AndAnd = refl
sign_is_read s.OrOr = refl
sign_is_read s.EqualEqual = refl
sign_is_read s.NotEqual = refl
sign_is_read s.LessEqual = refl
sign_is_read s.GreaterEqual = refl
sign_is_read s.PlusEqual = refl
sign_is_read s.MinusEqual = refl
sign_is_read s.StarEqual = refl
sign_is_read s.SlashEqual = refl
sign_is_read s.PercentEqual = refl
sign_is_read s.AndEqual = refl
sign_is_read s.OrEqual = refl
sign_is_read s.CaretEqual = refl
sign_is_read s.PlusPlus = refl
sign_is_read s.MinusMinus = refl
sign_is_read s.Plus = refl
sign_is_read s.Minus = refl
sign_is_read s.Star = refl
sign_is_read s.Slash = refl
sign_is_read s.Percent = refl
sign_is_read s.And = refl
sign_is_read s.Or = refl
sign_is_read s.Caret = refl
sign_is_read s.Tilde = refl
sign_is_read s.Not = refl
sign_is_read s.Less = refl
sign_is_read s.Greater = refl
sign_is_read s.Equal = refl
sign_is_read s.Question = refl
sign_is_read s.Colon = refl
sign_is_read s.Semicolon = refl
sign_is_read s.Comma = refl
sign_is_read s.OpenParen = refl
sign_is_read s.CloseParen = refl
sign_is_read s.OpenBracket = refl
sign_is_read s.CloseBracket = refl
sign_is_read s.OpenBrace = refl
sign_is_read s.CloseBrace = refl

pub returns : goal.returns
returns c = record { words = word_is_read; signs = sign_is_read }
