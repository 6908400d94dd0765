-- Where CminorSel's activations stand for Cminor's: each step of the one is a step of the other, with the same frame
-- and the same memory, and what is left to do is made of what is left to do there.
use Rattle.std.specs.Prelude.{◌≡◌, ℕ, List}
use Rattle.cas_base.specs.declared.decl.Decl.{Decl}
use Rattle.cas_runs.specs.Held.{Activation}
use Rattle.cas_runs.specs.Naming.{Memory}
use Rattle.cas_mid.specs.declared.tree.CminorFun.{CminorFun}
use Rattle.cas_mid.specs.Trees.{Expression, Target}
use Rattle.cas_mid.specs.Language.{Continuation, Frame}
use Rattle.cas_mid.specs.Cminor.{CminorState}
use Rattle.cas_mid.specs.Code.{cminor_routine}
use Rattle.cas_mid.specs.Translating.{Makes, RestIsMade}
use Rattle.cas_sel.specs.declared.tree.SelFun.{SelFun}
use Rattle.cas_sel.specs.Trees.{Expr, Test, Address}
use Rattle.cas_sel.specs.CminorSel.{SelState}
use Rattle.cas_sel.specs.Code.{sel_routine}
use Rattle.cas_select.specs.Makes.{made, made_condition, made_address, made_routine}

-- no store becomes a set
pub data NoneSet (temporary : ℕ) : Target → Type 0 where

-- what is made of the parts of functions
abbrev pub selection : Makes CminorFun Expr Address Test Expression Target Expression
selection = record {
  expression = λ g e a. e ≡ made a;
  address = λ g m a. m ≡ made_address a;
  condition = λ g c a. c ≡ made_condition a;
  in_temporary = λ g t m. NoneSet t m;
}

-- the same frame and the same memory
pub data SameFrames (act : Activation SelFun CminorFun) : Frame → Memory → Frame → Memory → Type 0 where
  same_frames : {f : Frame} {m : Memory} → SameFrames act f m f m

abbrev pub sel_state : Frame → Continuation Expr Address Test → SelState
sel_state f rest = record { frame = f; continuation = rest }

abbrev pub cminor_state : Frame → Continuation Expression Target Expression → CminorState
cminor_state f rest = record { frame = f; continuation = rest }

-- where both begin a step
pub data MatchStates (act : Activation SelFun CminorFun) : SelState → Memory → CminorState → Memory → Type 0 where
  matches :
      {f : Frame} {m : Memory} {rest : Continuation Expr Address Test}
      {rest' : Continuation Expression Target Expression}
      → RestIsMade selection act.source rest rest'
      → MatchStates act (sel_state f rest) m (cminor_state f rest') m

-- what is made of a function of Cminor, among these declarations
abbrev pub IsMade : List Decl → SelFun → CminorFun → Type 0
IsMade decls f g = sel_routine f ≡ made_routine (cminor_routine g)
