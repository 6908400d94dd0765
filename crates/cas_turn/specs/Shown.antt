-- The world of a program that the parts of a world of the code stand for.
use Rattle.std.specs.Prelude.{◌≡◌, ⊤, ℕ, List, [], ◌∷◌, Option}
use Rattle.cas_step.specs.Step as step
use Rattle.cas_thread.specs.Thread.{IsThread}
use Rattle.cas_thread.specs.declared.config.Config.{Config}
use Rattle.cas_typed.specs.Resolved.{TypedModuleTree}
use Rattle.cas_whole.specs.Program_of.{IsProgramOf}
use Rattle.cas_whole.specs.declared.program.Program.{Program}
use Rattle.cas_world.specs.World.{World}

-- the threads of the code are these, one by one
abbrev pub AreThreads : Program → List Config → List step.Config → Type 0
AreThreads p [] [] = ⊤
AreThreads p (k ∷ ks) (c ∷ cs) = IsThread p k c × AreThreads p ks cs
AreThreads p _ _ = ⊥

-- These threads, words, holders and this output of the code are this world of the program with these modules and
-- entries.
pub record AreWorldOf (p : Program) (threads : List Config) (words : List ℕ) (holders : List (Option ℕ))
    (out : List (ℕ × ℕ))
    (modules : List TypedModuleTree) (names : List (List ℕ)) (w : World) : Type 0 where
  pub program : IsProgramOf p modules names
  pub threads_are : AreThreads p threads w.threads
  pub words_are : words ≡ w.words
  pub holders_are : holders ≡ w.holders
  pub out_is : out ≡ w.out
