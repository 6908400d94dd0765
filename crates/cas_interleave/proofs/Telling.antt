-- What an act of a thread over label runs tells of the step of the same thread in a world.
use Rattle.std.proofs.Common.{◌≡◌, ℕ, List, Option, Some, refl, sym, subst}
use Rattle.cas_base.specs.declared.act.Act.TheVariants as act
use Rattle.cas_step.specs.Step.{Step}
use Rattle.cas_runs.specs.Label.{Share}
use Rattle.cas_runs.specs.Edge.{Cell, AreUnder}
use Rattle.cas_runs.specs.Machine.{Act, Quiet, Emits, Locks, Bad, Footprint, Unlocks, Prints, Ends}
use Rattle.cas_runs.specs.Calls.{Thread}
use Rattle.cas_clight.specs.Clight.{ClightFun, ClightState}
use Rattle.cas_bridge.specs.Matching.{DifferUnder}
use Rattle.cas_bridge.specs.Threads.{Program, MatchThreads, AreWordsOf, GoesWrongToo, Leaves, ActsAgree, quiet, prints, ends, gives, takes, taken, fails, ended}

module _ (p : Program) (words : List ℕ) (share : Share) (foot : Footprint) where
  abbrev S : Type 0
  S = Thread ClightFun ClightState

  abbrev C : List Cell
  C = p.setting.edge.cells

  abbrev A : Option Step → Act S → Type 0
  A o a = ActsAgree p words share foot o a

  abbrev L : Step → S → Type 0
  L s y = Leaves p words share foot s y

  pub record IsQuiet (o : Option Step) (y : S) : Type 0 where
    pub step : Step
    pub is : o ≡ Some step
    pub quietly : step.act ≡ act.Quiet
    pub differ : DifferUnder C share words step.words
    pub alike : MatchThreads p step.next step.words y

  pub is_quiet : (o : Option Step) (a : Act S) → A o a → (y : S) → a ≡ Quiet y → IsQuiet o y
  is_quiet _ _ (quiet s next q f d m) y e = record {
    step = s;
    is = refl;
    quietly = q;
    differ = d;
    alike = subst (λ v. MatchThreads p s.next s.words v) (cc e) m;
  }
  is_quiet _ _ (prints n s next q m) y e = absurd (cc e)
  is_quiet _ _ (ends s q m) y e = absurd (cc e)
  is_quiet _ _ (gives n held s next q w m) y e = absurd (cc e)
  is_quiet _ _ (takes n s next q m) y e = absurd (cc e)
  is_quiet _ _ (taken n held s q w) y e = absurd (cc e)
  is_quiet _ _ (fails s w) y e = absurd (cc e)
  is_quiet _ _ ended y e = absurd (cc e)

  pub record IsPrint (o : Option Step) (n : ℕ) (y : S) : Type 0 where
    pub step : Step
    pub is : o ≡ Some step
    pub out : step.act ≡ act.Out n
    pub leaves : L step y

  pub is_print : (o : Option Step) (a : Act S) → A o a → (n : ℕ) (y : S) → a ≡ Emits (Prints n) y → IsPrint o n y
  is_print _ _ (prints k s next q m) n y e =
      let same : k ≡ n = cc e in
      record {
        step = s;
        is = refl;
        out = subst (λ v. s.act ≡ act.Out v) same q;
        leaves = subst (λ v. L s v) (cc e) m;
      }
  is_print _ _ (quiet s next q f d m) n y e = absurd (cc e)
  is_print _ _ (ends s q m) n y e = absurd (cc e)
  is_print _ _ (gives k held s next q w m) n y e = absurd (cc e)
  is_print _ _ (takes k s next q m) n y e = absurd (cc e)
  is_print _ _ (taken k held s q w) n y e = absurd (cc e)
  is_print _ _ (fails s w) n y e = absurd (cc e)
  is_print _ _ ended n y e = absurd (cc e)

  pub record IsEnd (o : Option Step) (y : S) : Type 0 where
    pub step : Step
    pub is : o ≡ Some step
    pub done : step.act ≡ act.Done
    pub leaves : L step y

  pub is_end : (o : Option Step) (a : Act S) → A o a → (y : S) → a ≡ Emits Ends y → IsEnd o y
  is_end _ _ (ends s q m) y e = record { step = s; is = refl; done = q; leaves = subst (λ v. L s v) (cc e) m }
  is_end _ _ (quiet s next q f d m) y e = absurd (cc e)
  is_end _ _ (prints n s next q m) y e = absurd (cc e)
  is_end _ _ (gives n held s next q w m) y e = absurd (cc e)
  is_end _ _ (takes n s next q m) y e = absurd (cc e)
  is_end _ _ (taken n held s q w) y e = absurd (cc e)
  is_end _ _ (fails s w) y e = absurd (cc e)
  is_end _ _ ended y e = absurd (cc e)

  pub record IsGiving (o : Option Step) (n : ℕ) (held : List ℕ) (y : S) : Type 0 where
    pub step : Step
    pub is : o ≡ Some step
    pub unlock : step.act ≡ act.Unlock n
    pub words_are : AreWordsOf C n held words
    pub leaves : L step y

  pub is_giving : (o : Option Step) (a : Act S) → A o a → (n : ℕ) (held : List ℕ) (y : S) →
      a ≡ Emits (Unlocks n held) y → IsGiving o n held y
  is_giving _ _ (gives k ws s next q w m) n held y e =
      let same : k ≡ n = cc e in
      let same_words : ws ≡ held = cc e in
      record {
        step = s;
        is = refl;
        unlock = subst (λ v. s.act ≡ act.Unlock v) same q;
        words_are = subst (λ v. AreWordsOf C v held words) same (subst (λ v. AreWordsOf C k v words) same_words w);
        leaves = subst (λ v. L s v) (cc e) m;
      }
  is_giving _ _ (quiet s next q f d m) n held y e = absurd (cc e)
  is_giving _ _ (prints k s next q m) n held y e = absurd (cc e)
  is_giving _ _ (ends s q m) n held y e = absurd (cc e)
  is_giving _ _ (takes k s next q m) n held y e = absurd (cc e)
  is_giving _ _ (taken k ws s q w) n held y e = absurd (cc e)
  is_giving _ _ (fails s w) n held y e = absurd (cc e)
  is_giving _ _ ended n held y e = absurd (cc e)

  pub record IsTaking (o : Option Step) (n : ℕ) (next : List ℕ → S) : Type 0 where
    pub step : Step
    pub is : o ≡ Some step
    pub lock : step.act ≡ act.Lock n
    pub leaves : (held : List ℕ) → AreUnder p.setting.edge n held → AreWordsOf C n held words → L step (next held)

  pub is_taking : (o : Option Step) (a : Act S) → A o a → (n : ℕ) (next : List ℕ → S) → a ≡ Locks n next →
      IsTaking o n next
  is_taking _ _ (takes k s go q m) n next e =
      let same : k ≡ n = cc e in
      let same_next : go ≡ next = cc e in
      record {
        step = s;
        is = refl;
        lock = subst (λ v. s.act ≡ act.Lock v) same q;
        leaves = λ held u w. subst (λ (v : List ℕ → S). L s (v held)) same_next
            (m held (subst (λ v. AreUnder p.setting.edge v held) (sym same) u)
            (subst (λ v. AreWordsOf C v held words) (sym same) w));
      }
  is_taking _ _ (quiet s go q f d m) n next e = absurd (cc e)
  is_taking _ _ (prints k s go q m) n next e = absurd (cc e)
  is_taking _ _ (ends s q m) n next e = absurd (cc e)
  is_taking _ _ (gives k held s go q w m) n next e = absurd (cc e)
  is_taking _ _ (taken k held s q w) n next e = absurd (cc e)
  is_taking _ _ (fails s w) n next e = absurd (cc e)
  is_taking _ _ ended n next e = absurd (cc e)

  pub record IsWrong (o : Option Step) : Type 0 where
    pub step : Step
    pub is : o ≡ Some step
    pub wrong : GoesWrongToo C share step

  pub is_wrong : (o : Option Step) (a : Act S) → A o a → a ≡ Bad → IsWrong o
  is_wrong _ _ (fails s w) e = record { step = s; is = refl; wrong = w }
  is_wrong _ _ (quiet s go q f d m) e = absurd (cc e)
  is_wrong _ _ (prints k s go q m) e = absurd (cc e)
  is_wrong _ _ (ends s q m) e = absurd (cc e)
  is_wrong _ _ (gives k held s go q w m) e = absurd (cc e)
  is_wrong _ _ (takes k s go q m) e = absurd (cc e)
  is_wrong _ _ (taken k held s q w) e = absurd (cc e)
  is_wrong _ _ ended e = absurd (cc e)
