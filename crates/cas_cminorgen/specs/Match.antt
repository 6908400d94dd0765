-- Where Cminor's activations stand for Csharpminor's. The continuations match statement by statement; the memories
-- match where the variables that stay are stretches of the block.
--
--     Cminor:       x ── step ──► x'      temporaries: the function's own │ t      memory: │ a │ a[1] │ b │
--                   │             │                                      │                  │           │
--              match_states  match_states                       what is in variable c     variables a and b
--                   │             │                                      │                  │           │
--     Csharpminor:  y ── step ──► y'      temporaries: the function's own   memory: │ c │  │ a │ a[1] │  │ b │
use Rattle.std.specs.Prelude.{◌≡◌, ⊤, ℕ, zero, suc, ◌+◌, ◌<◌, ◌≤◌, List, [], ◌∷◌, ◌++◌, length, Option, Some, None, slice_get}
use Rattle.cas_base.specs.declared.decl.Decl.{Decl}
use Rattle.cas_runs.specs.Label.{NameBytes}
use Rattle.cas_runs.specs.Naming.{Own, Value, Memory, Part, Layout}
use Rattle.cas_runs.specs.Unit.{found}
use Rattle.cas_runs.specs.Held.{Activation}
use Rattle.cas_runs.specs.Placing.{Spot, Placing, SameMoved, MemoryMoved, moved_part, Moved}
use Rattle.cas_mid.specs.declared.tree.CsharpFun.{CsharpFun}
use Rattle.cas_mid.specs.declared.tree.CminorFun.{CminorFun}
use Rattle.cas_mid.specs.Trees.{Expression, word, temporary, own, global, element, load, unop, binop, if_, Target, to_global, to_element, to_pointer, skip, set, store, call, seq, if_else, loop, block, exit, return_, lock, unlock, print, no_more, one_more, Routine}
use Rattle.cas_mid.specs.Language.{Frame, Continuation, at}
use Rattle.cas_mid.specs.Code.{csharp_routine, cminor_routine}
use Rattle.cas_mid.specs.Csharpminor.{CsharpState, csharpminor, csharp_parts}
use Rattle.cas_mid.specs.Cminor.{CminorState, cminor, cminor_parts}
use Rattle.cas_mid.specs.Translating.{Makes, RestIsMade}
use Rattle.cas_cminorgen.specs.Makes.{Code, Codes, Place, in_block, in_temporary, plan_of, made_expr, made_routine}

-- What each function of a typed module meets: a variable has a word at least, and each address is that of a variable.

abbrev pub ArePositive : List ℕ → Type 0
ArePositive [] = ⊤
ArePositive (n ∷ ns) = (1 ≤ n) × ArePositive ns

-- each address in an expression is that of one of so many variables
abbrev pub IsWithin : (variables : ℕ) → Expression → Type 0
IsWithin n (word w) = ⊤
IsWithin n (temporary t) = ⊤
IsWithin n (own v) = v < n
IsWithin n (global g) = ⊤
IsWithin n (element g s a) = IsWithin n a
IsWithin n (load a) = IsWithin n a
IsWithin n (unop o a) = IsWithin n a
IsWithin n (binop o a b) = IsWithin n a × IsWithin n b
IsWithin n (if_ c a b) = IsWithin n c × IsWithin n a × IsWithin n b

abbrev pub IsTargetWithin : (variables : ℕ) → Target → Type 0
IsTargetWithin n (to_global g) = ⊤
IsTargetWithin n (to_element g s a) = IsWithin n a
IsTargetWithin n (to_pointer a) = IsWithin n a

abbrev pub AreWithin : (variables : ℕ) → List Expression → Type 0
AreWithin n [] = ⊤
AreWithin n (a ∷ args) = IsWithin n a × AreWithin n args

abbrev pub IsOptionalWithin : (variables : ℕ) → Option Expression → Type 0
IsOptionalWithin n None = ⊤
IsOptionalWithin n (Some a) = IsWithin n a

abbrev mutual
  pub IsCodeWithin : (variables : ℕ) → Code → Type 0
  IsCodeWithin n skip = ⊤
  IsCodeWithin n (set t a) = IsWithin n a
  IsCodeWithin n (store to a) = IsTargetWithin n to × IsWithin n a
  IsCodeWithin n (call t f args) = AreWithin n args
  IsCodeWithin n (seq bs) = AreCodesWithin n bs
  IsCodeWithin n (if_else c a b) = IsWithin n c × IsCodeWithin n a × IsCodeWithin n b
  IsCodeWithin n (loop a) = IsCodeWithin n a
  IsCodeWithin n (block a) = IsCodeWithin n a
  IsCodeWithin n (exit k) = ⊤
  IsCodeWithin n (return_ a) = IsOptionalWithin n a
  IsCodeWithin n (lock l) = ⊤
  IsCodeWithin n (unlock l) = ⊤
  IsCodeWithin n (print a) = IsWithin n a

  pub AreCodesWithin : (variables : ℕ) → Codes → Type 0
  AreCodesWithin n no_more = ⊤
  AreCodesWithin n (one_more a bs) = IsCodeWithin n a × AreCodesWithin n bs

pub record HasVariables (r : Routine Expression Target Expression) : Type 0 where
  pub sizes : ArePositive r.blocks
  pub within : IsCodeWithin (length r.blocks) r.body

-- the function is what is made of the other, which has its variables
pub record IsMade (decls : List Decl) (f : CminorFun) (g : CsharpFun) : Type 0 where
  pub routine : cminor_routine f ≡ made_routine (csharp_routine g)
  pub variables : HasVariables (csharp_routine g)

-- Where blocks lie.

abbrev pub places_of : CsharpFun → List Place
places_of g = (plan_of (csharp_routine g)).places

abbrev pub spot_of : Option Place → Option Spot
spot_of (Some (in_block offset)) = Some (record { block = 0; offset = offset })
spot_of _ = None

abbrev pub places_in : Option CsharpFun → List Place
places_in None = []
places_in (Some g) = places_of g

abbrev pub sizes_in : Option CsharpFun → List ℕ
sizes_in None = []
sizes_in (Some g) = g.vars

abbrev pub function_at : List CsharpFun → NameBytes → Option CsharpFun
function_at ss name = found csharpminor.name ss name

abbrev pub placing : List CsharpFun → Placing
placing ss name variable = spot_of (slice_get (places_in (function_at ss name)) variable)

abbrev pub or_none : Option ℕ → ℕ
or_none None = 0
or_none (Some n) = n

abbrev pub sizes : List CsharpFun → NameBytes → ℕ → ℕ
sizes ss name variable = or_none (slice_get (sizes_in (function_at ss name)) variable)

abbrev pub moved_parts : ℕ → List Part → List Part
moved_parts offset [] = []
moved_parts offset (p ∷ ps) = moved_part offset p ∷ moved_parts offset ps

-- the objects of variables with these places, from this one on, go with them
abbrev pub joined_parts : (ℕ → List Part) → (variable : ℕ) → List Place → List Part
joined_parts parts v [] = []
joined_parts parts v (in_block offset ∷ places) = moved_parts offset (parts v) ++ joined_parts parts (v + 1) places
joined_parts parts v (in_temporary t ∷ places) = joined_parts parts (v + 1) places

abbrev pub only_first : List Part → ℕ → List Part
only_first parts zero = parts
only_first parts (suc n) = []

abbrev pub joined : List CsharpFun → Layout → Layout
joined ss layout name n = only_first (joined_parts (layout name) 0 (places_in (function_at ss name))) n

-- What is made of each part of a function.

-- the variable is in the block
abbrev pub IsInBlock : List Place → ℕ → Type 0
IsInBlock places v = (offset : ℕ) × (slice_get places v ≡ Some (in_block offset))

abbrev pub IsSomewhere : List Place → ℕ → Type 0
IsSomewhere places v = (place : Place) × (slice_get places v ≡ Some place)

-- a variable that is loaded at once may be anywhere
abbrev pub FitsLoaded : List Place → Expression → Type 0 → Type 0
FitsLoaded places (own v) fits = IsSomewhere places v
FitsLoaded places _ fits = fits

-- the variables of an expression are there, and in the block where their address is asked for
abbrev pub Fits : List Place → Expression → Type 0
Fits places (word n) = ⊤
Fits places (temporary t) = ⊤
Fits places (own v) = IsInBlock places v
Fits places (global g) = ⊤
Fits places (element g s a) = Fits places a
Fits places (load a) = FitsLoaded places a (Fits places a)
Fits places (unop o a) = Fits places a
Fits places (binop o a b) = Fits places a × Fits places b
Fits places (if_ c a b) = Fits places c × Fits places a × Fits places b

pub record IsExpression (places : List Place) (e e' : Expression) : Type 0 where
  pub is : e ≡ made_expr places e'
  pub fits : Fits places e'

-- what a store writes, where it isn't a temporary
pub data IsTarget (places : List Place) : Target → Target → Type 0 where
  is_global : {g : NameBytes} → IsTarget places (to_global g) (to_global g)
  is_element : {g : NameBytes} {s : _} {e e' : Expression} → IsExpression places e e' →
      IsTarget places (to_element g s e) (to_element g s e')
  is_pointer : {e e' : Expression} → IsExpression places e e' → IsTarget places (to_pointer e) (to_pointer e')

-- a variable that is this temporary
pub data IsInTemporary (places : List Place) (t : ℕ) : Target → Type 0 where
  is_kept : {v : ℕ} → slice_get places v ≡ Some (in_temporary t) → IsInTemporary places t (to_pointer (own v))

abbrev pub cminorgen_makes : Makes CsharpFun Expression Target Expression Expression Target Expression
cminorgen_makes = record {
  expression = λ g e e'. IsExpression (places_of g) e e';
  address = λ g m m'. IsTarget (places_of g) m m';
  condition = λ g e e'. IsExpression (places_of g) e e';
  in_temporary = λ g t m'. IsInTemporary (places_of g) t m';
}

-- Where activations match.

-- what is in the variable of an activation is in the temporary
pub record IsKept (place : Placing) (g : CsharpFun) (serial : ℕ) (vs : List Value) (s : Memory) (v t : ℕ) : Type 0 where
  pub value : Value
  pub other : Value
  pub in_variable : s (Own g.decl.name serial v) ≡ Some (other ∷ [])
  pub in_temporary : slice_get vs t ≡ Some value
  pub same : SameMoved place value other

-- the temporaries of both are the same but for pointers, and others have what variables have
pub record ValuesMatch (ss : List CsharpFun) (g : CsharpFun) (serial : ℕ) (vs : List Value) (t : Memory)
    (vs' : List Value) (s : Memory) : Type 0 where
  pub is_found : function_at ss g.decl.name ≡ Some g
  pub variables : HasVariables (csharp_routine g)
  pub count : length vs' ≡ g.temps
  pub old : (i : ℕ) (x : Value) → slice_get vs' i ≡ Some x →
      (v : Value) × (slice_get vs i ≡ Some v) × SameMoved (placing ss) v x
  pub kept : (v u : ℕ) → slice_get (places_of g) v ≡ Some (in_temporary u) → IsKept (placing ss) g serial vs s v u
  pub memory : MemoryMoved (placing ss) (sizes ss) t s

abbrev pub frame_of : CsharpFun → (serial : ℕ) → List Value → Frame
frame_of g serial vs = record { function = g.decl.name; serial = serial; temporaries = vs }

pub data MatchFrames (ss : List CsharpFun) (a : Activation CminorFun CsharpFun) :
    Frame → Memory → Frame → Memory → Type 0 where
  frames_match : {vs vs' : List Value} {t s : Memory} → ValuesMatch ss a.source a.serial vs t vs' s →
      MatchFrames ss a (frame_of a.source a.serial vs) t (frame_of a.source a.serial vs') s

pub data MatchStates (ss : List CsharpFun) (a : Activation CminorFun CsharpFun) :
    CminorState → Memory → CsharpState → Memory → Type 0 where
  states_match :
      {fr fr' : Frame} {t s : Memory} {rest rest' : Continuation Expression Target Expression}
      → MatchFrames ss a fr t fr' s
      → RestIsMade cminorgen_makes a.source rest rest'
      → MatchStates ss a (at cminor_parts fr rest) t (at csharp_parts fr' rest') s

-- the pass
abbrev pub cminorgen : Moved CminorFun CminorState CsharpFun CsharpState
cminorgen = record {
  target = cminor;
  source = csharpminor;
  made = IsMade;
  naming = joined;
  place = placing;
  sizes = sizes;
  match_states = λ setting ts ss. MatchStates ss;
}
