-- What the next instruction may ask, by the table of instructions.
use Rattle.std.specs.Prelude.{◌≡◌, ⊤, ℕ, ◌<◌}
use Rattle.cas_asm.specs.declared.ask.Ask.{Ask}
use Rattle.cas_asm.specs.declared.ask.Ask.TheVariants as ask

-- a shared word that is asked for is one of so many
abbrev pub IsAmongWords : (words : ℕ) → Ask → Type 0
IsAmongWords n (ask.Load k) = k < n
IsAmongWords n (ask.Store k v) = k < n
IsAmongWords n (ask.LockedDec k) = k < n
IsAmongWords n _ = ⊤

-- nothing more is asked of memory or output
abbrev pub IsSettled : Ask → Type 0
IsSettled ask.Plain = ⊤
IsSettled ask.Finish = ⊤
IsSettled ask.Stack = ⊤
IsSettled (ask.Bad why) = ⊤
IsSettled _ = ⊥

-- how the answer with a word follows from that without one: after a load nothing more is asked, and all else stays
abbrev pub Follows : (without given : Ask) → Type 0
Follows (ask.Load k) b = IsSettled b
Follows a b = b ≡ a
