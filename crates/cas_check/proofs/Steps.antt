-- One step after another of a walk.
use Rattle.std.proofs.Common.{◌≡◌, List, [], ◌∷◌, ◌++◌, refl, ap}
use Rattle.cas_base.specs.declared.decl.Decl.{Decl}
use Rattle.cas_own.specs.Flow.{Flow, guarded, wanting}
use Rattle.cas_own.specs.Locks.{Locks, guard_of}
use Rattle.cas_own.specs.Uses.{Use}
use Rattle.cas_own.specs.declared.fault.OwnCode.TheVariants.{O1}

pub guarded_append : (ds : List Decl) (s : Locks) (us vs : List Use) (next : Flow) →
    guarded ds s (us ++ vs) next ≡ guarded ds s us (guarded ds s vs next)
guarded_append ds s [] vs next = refl
guarded_append ds s (u ∷ us) vs next = ap (wanting O1 u.at s (guard_of ds u.item)) (guarded_append ds s us vs next)
