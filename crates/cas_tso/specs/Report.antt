-- Reports of a machine, and how they are printed.
use Rattle.std.specs.Prelude.{ℕ, ◌+◌, Bool, true, false, List, [], ◌∷◌, ◌++◌, map, Option, Some, None, codes}
use Rattle.std.specs.Fmt.{decimal, signed_decimal}
use Rattle.cas_base.specs.Word.{signed}
use Rattle.cas_asm.specs.declared.ask.BadWhy.{BadWhy}
use Rattle.cas_asm.specs.declared.ask.BadWhy.TheVariants.{Divide, Address, ConstWrite, CodePlace}
use Rattle.cas_tso.specs.State.{State, Thread}
use Rattle.cas_tso.specs.declared.end.End.{End}
use Rattle.cas_tso.specs.declared.end.End.TheVariants as end
use Rattle.cas_tso.specs.declared.report.Report.{Report}
use Rattle.cas_tso.specs.declared.report.ThreadEnd.{ThreadEnd}

-- what is reported of a thread
abbrev pub thread_end : Thread → ThreadEnd
thread_end c = record {
  end = c.ended;
  executed = c.counts.executed;
  loads = c.counts.loads;
  forwarded = c.counts.forwarded;
  drains = c.counts.drains;
}

-- the report of a state
abbrev pub report_of : State → Report
report_of s = record { out = s.output; threads = map thread_end s.threads }

-- why a thread ended Bad, in a word
abbrev pub bad_word : BadWhy → List ℕ
bad_word Divide = codes "divide"
bad_word Address = codes "address"
bad_word ConstWrite = codes "const"
bad_word CodePlace = codes "place"

-- how a thread ended, or that it hasn't
abbrev pub end_words : Option End → List ℕ
end_words None = codes "running"
end_words (Some end.Done) = codes "done"
end_words (Some end.Fuel) = codes "fuel"
end_words (Some end.Stack) = codes "stack"
end_words (Some end.Outs) = codes "outs"
end_words (Some (end.Bad why)) = codes "bad " ++ bad_word why

-- `THREAD VALUE` of an output, the value in its signed reading
abbrev pub out_line : ℕ × ℕ → List ℕ
out_line p = decimal p.0 ++ codes " " ++ signed_decimal (signed p.1) ++ codes "\n"

-- a line for each output
abbrev pub out_lines : List (ℕ × ℕ) → List ℕ
out_lines [] = []
out_lines (p ∷ ps) = out_line p ++ out_lines ps

-- ` executed A loads B forwarded C drains D`, where the counts are asked for
abbrev pub count_words : (counts : Bool) → ThreadEnd → List ℕ
count_words true t = codes " executed " ++ decimal t.executed ++ codes " loads " ++ decimal t.loads
    ++ codes " forwarded " ++ decimal t.forwarded ++ codes " drains " ++ decimal t.drains
count_words false t = []

-- `thread K END`
abbrev pub end_line : (thread : ℕ) → Option End → List ℕ
end_line k end = codes "thread " ++ decimal k ++ codes " " ++ end_words end

-- `thread K END` and the counts, where they are asked for, as a line
abbrev pub thread_line : (counts : Bool) (thread : ℕ) → ThreadEnd → List ℕ
thread_line counts k t = end_line k t.end ++ count_words counts t ++ codes "\n"

-- a line for each thread from this one on
abbrev pub thread_lines : (counts : Bool) (thread : ℕ) → List ThreadEnd → List ℕ
thread_lines counts k [] = []
thread_lines counts k (t ∷ ts) = thread_line counts k t ++ thread_lines counts (k + 1) ts

-- the text of a report: its outputs in order, and then its threads
abbrev pub report_text : Report → (counts : Bool) → List ℕ
report_text r counts = out_lines r.out ++ thread_lines counts 0 r.threads
