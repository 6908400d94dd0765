-- How the threads of an ended run ended together.
use Rattle.std.specs.Prelude.{Bool, true, false, if◌then◌else◌, List, Option, Some}
use Rattle.std.specs.List.{list_any}
use Rattle.cas_tso.specs.declared.end.End.{End}
use Rattle.cas_tso.specs.declared.end.End.TheVariants as end
use Rattle.cas_tso.specs.declared.report.ThreadEnd.{ThreadEnd}
use Rattle.cas_exec.specs.declared.ending.Ending.{Ending}
use Rattle.cas_exec.specs.declared.ending.Ending.TheVariants as ending

abbrev pub is_bad_end : Option End → Bool
is_bad_end (Some (end.Bad why)) = true
is_bad_end _ = false

abbrev pub is_stack_end : Option End → Bool
is_stack_end (Some end.Stack) = true
is_stack_end _ = false

abbrev pub is_outs_end : Option End → Bool
is_outs_end (Some end.Outs) = true
is_outs_end _ = false

abbrev pub is_fuel_end : Option End → Bool
is_fuel_end (Some end.Fuel) = true
is_fuel_end _ = false

-- the thread ended so
abbrev pub is_bad : ThreadEnd → Bool
is_bad t = is_bad_end t.end

abbrev pub is_stack : ThreadEnd → Bool
is_stack t = is_stack_end t.end

abbrev pub is_outs : ThreadEnd → Bool
is_outs t = is_outs_end t.end

abbrev pub is_fuel : ThreadEnd → Bool
is_fuel t = is_fuel_end t.end

-- how threads ended together: Bad before Stack before Outs before Fuel, where one of them did
abbrev pub ending_of : List ThreadEnd → Ending
ending_of ts =
    if list_any is_bad ts then ending.Bad
    else if list_any is_stack ts then ending.Stack
    else if list_any is_outs ts then ending.Outs
    else if list_any is_fuel ts then ending.Fuel
    else ending.Done
