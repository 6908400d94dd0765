-- The words of the command line, and the command that they give.
use Rattle.std.specs.Prelude.{ℕ, Bool, true, false, not, ◌&&◌, ◌||◌, ◌==◌, nat_le, nat_lt, if◌then◌else◌, List, [], ◌∷◌, length, map, Option, Some, None, codes}
use Rattle.std.specs.List.{find, list_all, list_any, position_or_len, before_first, after_first, slice_split, sum_by}
use Rattle.std.specs.Option.{option_and_then, option_map, option_map_or}
use Rattle.std.specs.Str.{all_ascii_digits, bytes_eq}
use Rattle.std.specs.Str.Parse.{digits_value}
use Rattle.cas_command.specs.declared.command.TheConstants.{SOURCE_LIMIT}
use Rattle.cas_command.specs.declared.values.TheConstants.{NAME_COUNT_LIMIT, THREAD_LIMIT, DIGIT_LIMIT, TURN_LIMIT, ROUND_LIMIT, DEFAULT_ROUNDS}
use Rattle.cas_base.specs.Name.{is_name}

-- what `run` is given: the names of the module's text and of the lock's text, and the thread's function
pub record Run : Type 0 where
  pub source : List ℕ
  pub lock : List ℕ
  pub thread : List ℕ

-- the turns that `world` makes: an item of a schedule is a thread's number and how many turns it has there; or rounds
pub data Turns : Type 0 where
  schedule : (items : List (ℕ × ℕ)) → Turns
  rounds : (count : ℕ) → Turns

-- what `world` is given: the names of modules, the functions of the threads, and the turns
pub record World : Type 0 where
  pub names : List (List ℕ)
  pub threads : List (List ℕ)
  pub turns : Turns

-- a command
pub data Command : Type 0 where
  run : Run → Command
  check : (names : List (List ℕ)) → Command
  world : World → Command

-- an option as it is written, with its dashes, and its value
pub record Given : Type 0 where
  pub option : List ℕ
  pub value : List ℕ

-- words apart: the names, and the options
pub record Parts : Type 0 where
  pub names : List (List ℕ)
  pub options : List Given

-- the word begins with `-`
abbrev pub has_dash : List ℕ → Bool
has_dash [] = false
has_dash (b ∷ bs) = b == 45

-- what is before the first such byte of a text and what is behind it, where the byte is there
abbrev pub cut_at : (byte : ℕ) → List ℕ → Option (List ℕ × List ℕ)
cut_at byte text =
    if nat_lt (position_or_len (λ b. b == byte) text) (length text)
    then Some (before_first (λ b. b == byte) text, after_first (λ b. b == byte) text)
    else None

abbrev pub with_name : List ℕ → Parts → Parts
with_name name parts = record { names = name ∷ parts.names; options = parts.options }

abbrev pub with_option : (option value : List ℕ) → Parts → Parts
with_option option value parts =
    record { names = parts.names; options = record { option = option; value = value } ∷ parts.options }

-- The words apart, where the first of them is the value of the option that waits for one. A word that begins with `-`
-- is
-- no such value. Behind `--` all words are names; before it a word that begins with `-` is an option, whose value is
-- behind its first `=`, or else the next word; each other word is a name.
abbrev pub parts_of : (waiting : Option (List ℕ)) → (words : List (List ℕ)) → Option Parts
parts_of (Some option) [] = None
parts_of (Some option) (word ∷ words) = if has_dash word then None else option_map (with_option option word)
    (parts_of None words)
parts_of None [] = Some (record { names = []; options = [] })
parts_of None (word ∷ words) =
    if bytes_eq word (codes "--") then Some (record { names = words; options = [] })
    else if has_dash word
    then option_map_or (λ cut. option_map (with_option cut.0 cut.1) (parts_of None words)) (cut_at 61 word)
    (parts_of (Some word) words)
    else option_map (with_name word) (parts_of None words)

-- a text may have this name: it isn't empty, nor `-` alone
abbrev pub is_text_name : List ℕ → Bool
is_text_name name = not ((length name == 0) || bytes_eq name (codes "-"))

-- one name or more, at most 64, and each may be a text's
abbrev pub are_text_names : List (List ℕ) → Bool
are_text_names names = nat_lt 0 (length names) && nat_le (length names) NAME_COUNT_LIMIT && list_all is_text_name names

-- no option stands twice
abbrev pub stand_once : List Given → Bool
stand_once [] = true
stand_once (given ∷ others) = not (list_any (λ other. bytes_eq other.option given.option) others) && stand_once others

-- each option is one of these, and stands once
abbrev pub are_options : (known : List (List ℕ)) → List Given → Bool
are_options known options = list_all (λ given. list_any (bytes_eq given.option) known) options && stand_once options

-- the value of an option, where it is given
abbrev pub value_of : (option : List ℕ) → List Given → Option (List ℕ)
value_of option options = option_map (λ given. given.value) (find (λ given. bytes_eq given.option option) options)

-- a number, of one to ten decimal digits
abbrev pub number_of : List ℕ → Option ℕ
number_of text =
    if nat_lt 0 (length text) && nat_le (length text) DIGIT_LIMIT && all_ascii_digits text then Some
    (digits_value 10 text) else None

-- the parts of a text that commas join
abbrev pub listed : List ℕ → List (List ℕ)
listed text = slice_split (λ b. b == 44) text

-- the functions of the threads: names of the source language, at most 64
abbrev pub threads_of : List ℕ → Option (List (List ℕ))
threads_of text = if nat_le (length (listed text)) THREAD_LIMIT && list_all is_name (listed text) then Some
    (listed text) else None

-- the number of one of so many threads
abbrev pub thread_of : (threads : ℕ) → List ℕ → Option ℕ
thread_of threads text = option_and_then (λ i. if nat_lt i threads then Some i else None) (number_of text)

-- how many turns an item of a schedule has: one or more, and not more than a whole schedule has
abbrev pub count_of : List ℕ → Option ℕ
count_of text = option_and_then (λ n. if nat_lt 0 n && nat_le n TURN_LIMIT then Some n else None) (number_of text)

-- an item of a schedule: `i` or `i*n`
abbrev pub item_of : (threads : ℕ) → List ℕ → Option (ℕ × ℕ)
item_of threads text =
    option_map_or (λ cut. option_and_then (λ i. option_map (λ n. (i, n)) (count_of cut.1)) (thread_of threads cut.0))
    (cut_at 42 text)
    (option_map (λ i. (i, 1)) (thread_of threads text))

-- the items of these texts, where each has one
abbrev pub items_of : (threads : ℕ) → List (List ℕ) → Option (List (ℕ × ℕ))
items_of threads [] = Some []
items_of threads (text ∷ texts) =
    option_and_then (λ item. option_map (λ items. item ∷ items) (items_of threads texts)) (item_of threads text)

-- a schedule of at most 10,000,000 turns
abbrev pub schedule_of : (threads : ℕ) → List ℕ → Option (List (ℕ × ℕ))
schedule_of threads text =
    option_and_then (λ items. if nat_le (sum_by (λ item. item.1) items) TURN_LIMIT then Some items else None)
    (items_of threads (listed text))

-- at most 1,000,000 rounds
abbrev pub rounds_of : List ℕ → Option ℕ
rounds_of text = option_and_then (λ n. if nat_le n ROUND_LIMIT then Some n else None) (number_of text)

-- the turns that the options give: a schedule or rounds, not both; 100,000 rounds where neither is given
abbrev pub turns_of : (threads : ℕ) → (plan count : Option (List ℕ)) → Option Turns
turns_of threads None None = Some (rounds DEFAULT_ROUNDS)
turns_of threads (Some plan) None = option_map schedule (schedule_of threads plan)
turns_of threads None (Some count) = option_map rounds (rounds_of count)
turns_of threads (Some plan) (Some count) = None

-- `run NAME --lock NAME --threads NAME`, in this order alone, with names of texts that don't begin with `-`
abbrev pub run_of : (words : List (List ℕ)) → Option Command
run_of (source ∷ first ∷ lock ∷ second ∷ thread ∷ []) =
    if is_text_name source && not (has_dash source)
    && bytes_eq first (codes "--lock") && is_text_name lock && not (has_dash lock)
    && bytes_eq second (codes "--threads") && is_name thread
    then Some (run (record { source = source; lock = lock; thread = thread }))
    else None
run_of words = None

-- `check NAME..`
abbrev pub check_of : Parts → Option Command
check_of parts = if are_text_names parts.names && (length parts.options == 0) then Some (check parts.names) else None

-- the options of `world`
abbrev pub world_options : List (List ℕ)
world_options = codes "--threads" ∷ codes "--schedule" ∷ codes "--rounds" ∷ []

-- what the values of these options say
abbrev pub world_from : Parts → Option Command
world_from parts =
    option_and_then (λ threads.
    option_map (λ turns. world (record { names = parts.names; threads = threads; turns = turns }))
    (turns_of (length threads) (value_of (codes "--schedule") parts.options)
    (value_of (codes "--rounds") parts.options)))
    (option_and_then threads_of (value_of (codes "--threads") parts.options))

-- `world NAME.. --threads LIST [--schedule S] [--rounds N]`
abbrev pub world_of : Parts → Option Command
world_of parts =
    if are_text_names parts.names && are_options world_options parts.options then world_from parts else None

-- the command of these words, where they are one's
abbrev pub command_of : (words : List (List ℕ)) → Option Command
command_of [] = None
command_of (command ∷ words) =
    if bytes_eq command (codes "run") then run_of words
    else if bytes_eq command (codes "check") then option_and_then check_of (parts_of None words)
    else if bytes_eq command (codes "world") then option_and_then world_of (parts_of None words)
    else None

-- the bytes that a module's or a lock's text has at most
abbrev pub source_limit : ℕ
source_limit = SOURCE_LIMIT

-- a text that a command reads: its name, and how many bytes it has at most
pub record Wanted : Type 0 where
  pub name : List ℕ
  pub limit : ℕ

-- the text of a module or a lock
abbrev pub source_text : (name : List ℕ) → Wanted
source_text name = record { name = name; limit = source_limit }

-- the texts that a command reads, in that order
abbrev pub wanted_texts : Command → List Wanted
wanted_texts (run r) = source_text r.source ∷ source_text r.lock ∷ []
wanted_texts (check names) = map source_text names
wanted_texts (world w) = map source_text w.names
