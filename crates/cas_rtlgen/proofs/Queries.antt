-- What an operator, an address or a condition asks for is the same in both languages, and so is what follows.
use Rattle.std.proofs.Common.{ℕ, ◌≤◌, List}
use Rattle.cas_runs.specs.Naming.{Value, Number, Pointer, Hidden, Memory}
use Rattle.cas_runs.specs.Access.{Accesses, length_of}
use Rattle.cas_runs.specs.Calls.{Last}
use Rattle.cas_runs.specs.Held.{Activation, Held, Amounts, both_read, both_load, source_looks, target_looks, fails_too}
use Rattle.cas_runs.specs.Unit.{Setting}
use Rattle.cas_runs.specs.Passing.{Relation}
use Rattle.cas_runs.specs.Unmoved.{Unmoved, bare, places}
use Rattle.cas_mid.specs.Operators.{on_word}
use Rattle.cas_sel.specs.declared.tree.SelFun.{SelFun}
use Rattle.cas_sel.specs.Query.{Query, asks_word, asks_place, asks_length, answers, no_answer, asking}
use Rattle.cas_sel.specs.Code.{sel_routine}
use Rattle.cas_sel.specs.CminorSel.{SelState, cminorsel}
use Rattle.cas_rtl.specs.Graph.{Graph, Point}
use Rattle.cas_rtl.specs.Rtl.{rtl}
use Rattle.cas_rtlgen.specs.Makes.{IsMadeGraph}
use Rattle.cas_rtlgen.specs.Match.{MatchStates}
use Rattle.cas_rtlgen.proofs.Usable.{IsUsable, AnswersUsable}

-- the pass, by what it makes and where both begin a step
abbrev pub rtlgen : {F : Type 0} → (F → Graph ℕ) → Unmoved F (Point ℕ) SelFun SelState
rtlgen graph_of = record {
  target = rtl graph_of;
  source = cminorsel;
  made = λ decls f g. IsMadeGraph (graph_of f) (sel_routine g);
  match_states = λ setting ts ss act x t y s. MatchStates graph_of act x t y s;
}

abbrev pub TForm : Type 0
TForm = Accesses (Last (Point ℕ))

abbrev pub SForm : Type 0
SForm = Accesses (Last SelState)

-- the functions that run together, and what stands for what among them
pub record Together (F : Type 0) : Type 1 where
  pub graph_of : F → Graph ℕ
  pub setting : Setting
  pub targets : List F
  pub sources : List SelFun
  pub made : F → SelFun → Type 0

module _ {F : Type 0} (w : Together F) where
  abbrev pub R : Relation F (Point ℕ) SelFun SelState
  R = bare (rtlgen w.graph_of) w.setting w.targets w.sources w.made

  abbrev pub held : Held F (Point ℕ) SelFun SelState
  held = places (rtlgen w.graph_of) w.setting w.targets w.sources

-- an activation that stands for one of the source: its number there, the source's temporaries, and the memory of both
pub record Stage (F : Type 0) : Type 1 where
  pub together : Together F
  pub act : Activation F SelFun
  pub serial : ℕ
  pub temps : List Value
  pub memory : Memory
  pub room : (sel_routine act.source).temporaries ≤ (together.graph_of act.target).names

module _ {F : Type 0} (stage : Stage F) where
  -- both do the same, and the target's steps cost at most so much
  abbrev pub Does : ℕ → TForm → SForm → Type 0
  Does credit x y = Amounts (R stage.together) (held stage.together) stage.act credit stage.memory stage.memory x y

  pub asks_too : {V : Type 0} (credit : ℕ) (q : Query V) (next : V → TForm) (next' : V → SForm) →
      ((v : V) → Does credit (next v) (next' v)) → Does credit (asking q next) (asking q next')
  asks_too credit (asks_word g offset more) next next' h = both_read (λ n same. asks_too credit (more n) next next' h)
  asks_too credit (asks_place home place more) next next' h =
      both_load (λ v. v) (λ v e. e) (λ v e. asks_too credit (more v) next next' h)
  asks_too credit (asks_length home more) next next' h =
      target_looks (source_looks (asks_too credit (more (length_of (stage.memory home))) next next' h))
  asks_too credit (answers v) next next' h = h v
  asks_too credit no_answer next next' h = fails_too

  -- of what gives usable answers
  pub usable_asks : (credit : ℕ) (q : Query Value) (next : Value → TForm) (next' : Value → SForm) → AnswersUsable q →
      ((v : Value) → IsUsable v → Does credit (next v) (next' v)) → Does credit (asking q next) (asking q next')
  usable_asks credit (asks_word g offset more) next next' all h =
      both_read (λ n same. usable_asks credit (more n) next next' (all n) h)
  usable_asks credit (asks_place home place more) next next' all h =
      both_load (λ v. v) (λ v e. e) (λ v e. usable_asks credit (more v) next next' (all v) h)
  usable_asks credit (asks_length home more) next next' all h =
      target_looks (source_looks (usable_asks credit (more (length_of (stage.memory home))) next next'
      (all (length_of (stage.memory home))) h))
  usable_asks credit (answers v) next next' all h = h v all
  usable_asks credit no_answer next next' all h = fails_too

  pub word_too : (credit : ℕ) (v : Value) (next : ℕ → TForm) (next' : ℕ → SForm) →
      ((n : ℕ) → Does credit (next n) (next' n)) → Does credit (on_word v next) (on_word v next')
  word_too credit (Number n) next next' h = h n
  word_too credit (Pointer home p) next next' h = fails_too
  word_too credit (Hidden what) next next' h = fails_too
