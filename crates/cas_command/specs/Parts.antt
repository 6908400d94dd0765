-- Words apart, as they are gathered.
use Rattle.std.specs.Prelude.{ℕ, List, ◌++◌, map, Option}
use Rattle.std.specs.Borrow.{Bor}
use Rattle.std.specs.Option.{option_map}
use Rattle.cas_command.specs.declared.command.Item.{Item}
use Rattle.cas_command.specs.declared.parts.Given.{Given}
use Rattle.cas_command.specs.Words as words

-- the texts that are borrowed
abbrev pub texts : List (Bor (List ℕ)) → List (List ℕ)
texts borrowed = map (λ text. text.now) borrowed

-- the text that is borrowed, where there is one
abbrev pub text_of : Option (Bor (List ℕ)) → Option (List ℕ)
text_of borrowed = option_map (λ text. text.now) borrowed

-- an option of the code
abbrev pub given_view : Given → words.Given
given_view g = record { option = g.option.now; value = g.value.now }

-- an item of the code's schedule
abbrev pub item_view : Item → ℕ × ℕ
item_view item = (item.thread, item.count)

-- these parts, and behind them those of the words to come, where these have parts
abbrev pub followed_by : words.Parts → Option words.Parts → Option words.Parts
followed_by parts rest =
    option_map (λ more. record { names = parts.names ++ more.names; options = parts.options ++ more.options }) rest
