-- How the top call answers: its status, what `out` and `err` took, and the cause of each.
use Rattle.std.specs.Prelude.{◌≡◌, ◌<◌, ◌≤◌, ◌⊎◌, ℕ, List, [], ◌∷◌, ◌++◌, length, Option, Some, None, codes}
use Rattle.std.specs.List.{concat}
use Rattle.cas_outside.specs.Shelf.{Texts, Tells, TellsLonger}
use Rattle.cas_outside.specs.Sink.{TakesAll, TakesPrefix}
use Rattle.cas_top.specs.Plan.{prints, refuses, Plans}
use Rattle.cas_top.specs.Printed.{line_of}
use Rattle.cas_command.specs.Words.{Command, Wanted, wanted_texts}
use Rattle.cas_top.specs.Status.{faulty_status, memory_status, printed_status, too_long_status, unlinked_status, unread_status, unwritten_status, usage_status}

-- the texts of a shelf, if it reports them
abbrev pub Told : Type 0
Told = Option Texts

-- the bytes that a sink has taken, if it reports them
abbrev pub Taken : Type 0
Taken = Option (List ℕ)

-- this is the wanted text as far as the shelf reports it, and within its limit
pub record IsRead (told : Told) (wanted : Wanted) (text : List ℕ) : Type 0 where
  pub tells : Tells told wanted.name text
  pub within : length text ≤ wanted.limit

-- these are the wanted texts
abbrev pub AreRead : Told → List Wanted → (texts : List (List ℕ)) → Type 0
AreRead told [] [] = Unit {0}
AreRead told (w ∷ ws) (t ∷ ts) = IsRead told w t × AreRead told ws ts
AreRead told _ _ = ⊥

-- of the wanted texts, in their order, the first that is longer than its limit has this name
abbrev pub IsFirstLong : Told → List Wanted → (long : List ℕ) → Type 0
IsFirstLong told [] long = ⊥
IsFirstLong told (w ∷ ws) long =
    ((long ≡ w.name) × TellsLonger told w.name w.limit)
    ⊎ ((text : List ℕ) × IsRead told w text × IsFirstLong told ws long)

-- the command prints lines with this status, and this is their text
pub record IsText (told : Told) (c : Command) (status : ℕ) (text : List ℕ) : Type 0 where
  pub texts : List (List ℕ)
  pub read : AreRead told (wanted_texts c) texts
  pub lines : List (List ℕ)
  pub plan : Plans c texts (prints status lines)
  pub whole : text ≡ concat lines

-- the command is refused with this status, and this is the line of the refusal
pub record IsRefusal (told : Told) (c : Command) (status : ℕ) (line : List ℕ) : Type 0 where
  pub texts : List (List ℕ)
  pub read : AreRead told (wanted_texts c) texts
  pub plan : Plans c texts (refuses status line)

-- `out` took all that the command prints with this status
abbrev pub IsPrinted : Told → Option Command → (status : ℕ) → (old new : Taken) → Type 0
IsPrinted told None status old new = ⊥
IsPrinted told (Some c) status old new = (text : List ℕ) × IsText told c status text × TakesAll old text new

-- `out` took a first part of the text that the command prints
abbrev pub IsPartly : Told → Option Command → (old new : Taken) → Type 0
IsPartly told None old new = ⊥
IsPartly told (Some c) old new = (status : ℕ) × (text : List ℕ) × IsText told c status text × TakesPrefix old text new

-- `out` took a first part of the text, or nothing
abbrev pub IsCut : Told → Option Command → (old new : Taken) → Type 0
IsCut told c old new = (new ≡ old) ⊎ IsPartly told c old new

-- the command is refused with this status, and `err` took the line of the refusal
abbrev pub IsRefused : Told → Option Command → (status : ℕ) → (old new : Taken) → Type 0
IsRefused told None status old new = ⊥
IsRefused told (Some c) status old new = (line : List ℕ) × IsRefusal told c status line × TakesAll old line new

-- the words give no command, and `err` took the line that says so
abbrev pub IsMisused : Option Command → (old new : Taken) → Type 0
IsMisused None old new = TakesAll old (line_of (codes "cascc: usage")) new
IsMisused (Some c) old new = ⊥

-- a text is too long, the first of the command's names, and `err` took the line that says so
abbrev pub IsTooLong : Told → Option Command → (old new : Taken) → Type 0
IsTooLong told None old new = ⊥
IsTooLong told (Some c) old new =
    (name : List ℕ) × IsFirstLong told (wanted_texts c) name ×
    TakesAll old (line_of (codes "cascc: too long " ++ name)) new

-- a wanted text has this name, and those before it are read
abbrev pub IsFirstUnread : Told → List Wanted → (unread : List ℕ) → Type 0
IsFirstUnread told [] unread = ⊥
IsFirstUnread told (w ∷ ws) unread =
    (unread ≡ w.name) ⊎ ((text : List ℕ) × IsRead told w text × IsFirstUnread told ws unread)

-- this name of the command's, before which the others were read, is new on the shelf's list of failed names
pub record IsFailed (told : Told) (c : Command) (before after : List (List ℕ)) (name : List ℕ) : Type 0 where
  pub first : IsFirstUnread told (wanted_texts c) name
  pub noted : after ≡ before ++ name ∷ []

-- the reading of a name failed, and `err` took the line that says so
abbrev pub IsUnread : Told → Option Command → (before after : List (List ℕ)) → (old new : Taken) → Type 0
IsUnread told None before after old new = ⊥
IsUnread told (Some c) before after old new =
    (name : List ℕ) × IsFailed told c before after name ×
    TakesAll old (line_of (codes "cascc: cannot read " ++ name)) new

-- the list of failed names is as before; or it grew by one name of the command, and the status says that a read
-- failed, that a put failed, or that it ran out of memory
abbrev pub GrowsBy : Told → Option Command → (before after : List (List ℕ)) → (status : ℕ) → Type 0
GrowsBy told None before after status = after ≡ before
GrowsBy told (Some c) before after status =
    (after ≡ before)
    ⊎ ((name : List ℕ) × IsFailed told c before after name ×
    ((status ≡ unread_status) ⊎ (status ≡ unwritten_status) ⊎ (status ≡ memory_status)))

-- the line of a refusal that is put on `err`
pub data IsLine (told : Told) (before after : List (List ℕ)) : Option Command → List ℕ → Type 0 where
  usage : IsLine told before after None (line_of (codes "cascc: usage"))
  cannot_read : (c : Command) (name : List ℕ) → IsFailed told c before after name →
      IsLine told before after (Some c) (line_of (codes "cascc: cannot read " ++ name))
  too_long : (c : Command) (name : List ℕ) → IsFirstLong told (wanted_texts c) name →
      IsLine told before after (Some c) (line_of (codes "cascc: too long " ++ name))
  refused : (c : Command) (status : ℕ) (line : List ℕ) → IsRefusal told c status line →
      IsLine told before after (Some c) line

-- how a line was tried: it was taken; or the put failed, which is counted, and a first part was taken; or there was
-- no memory for it
abbrev pub IsTried : (line : List ℕ) → (count now : ℕ) → (old new : Taken) → Type 0
IsTried line count now old new =
    ((now ≡ count) × TakesAll old line new)
    ⊎ ((count < now) × TakesPrefix old line new)
    ⊎ ((now ≡ count) × (new ≡ old))

-- the put of a refusal's line failed, which is counted, and a first part was taken
abbrev pub IsUntold : Told → Option Command → (before after : List (List ℕ)) → (count now : ℕ) → (old new : Taken) →
    Type 0
IsUntold told c before after count now old new =
    (count < now) × (line : List ℕ) × IsLine told before after c line × TakesPrefix old line new

-- the statuses of a command that printed its text
abbrev pub IsPrinting : ℕ → Type 0
IsPrinting status = status ≡ printed_status

-- the statuses of a command that its texts refused: each by itself, or together as a program
abbrev pub IsRefusing : ℕ → Type 0
IsRefusing status = (status ≡ faulty_status) ⊎ (status ≡ unlinked_status)

-- the statuses of a refusal whose line `err` took
abbrev pub IsRefusalStatus : ℕ → Type 0
IsRefusalStatus status = IsRefusing status ⊎ (status ≡ usage_status) ⊎ (status ≡ unread_status) ⊎
    (status ≡ too_long_status)

-- all statuses
abbrev pub IsStatus : ℕ → Type 0
IsStatus status = IsPrinting status ⊎ IsRefusalStatus status ⊎ (status ≡ unwritten_status) ⊎ (status ≡ memory_status)
