-- The statuses of `cascc`.
use Rattle.std.specs.Prelude.{ℕ}

-- the text of the command was printed
abbrev pub printed_status : ℕ
printed_status = 0

-- a module is refused
abbrev pub faulty_status : ℕ
faulty_status = 1

-- the words give no command
abbrev pub usage_status : ℕ
usage_status = 2

-- a read failed
abbrev pub unread_status : ℕ
unread_status = 3

-- a put failed
abbrev pub unwritten_status : ℕ
unwritten_status = 4

-- the modules and threads are no program
abbrev pub unlinked_status : ℕ
unlinked_status = 5

-- it ran out of memory
abbrev pub memory_status : ℕ
memory_status = 9

-- a text is too long
abbrev pub too_long_status : ℕ
too_long_status = 12
