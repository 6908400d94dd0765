-- A pass that shows chains refines.
use Rattle.std.proofs.Common.{List, [], ◌∷◌, ◌⊎◌, sym, subst}
use Rattle.cas_runs.specs.Label.{RunLabel, Lock}
use Rattle.cas_runs.specs.Edge.{Edge}
use Rattle.cas_runs.specs.Machine.{Act, Quiet, Emits, Crosses, Locks, Receives, Bad, Stops, Ended, Taken, Full, Machine, label_of, crossing_by, Block, begun, onward}
use Rattle.cas_runs.specs.Refines.{Fine, Refines}
use Rattle.cas_runs.specs.Simulation.{here, GoesWrong, After, Meets, Answers}
use Rattle.cas_runs.specs.Chains.{Chain, last, more, IsChained}
use Rattle.cas_runs.proofs.Refining.{quietly_also, steps_refine}

module _ {T S : Type 0} (edge : Edge) (t : Machine T) (s : Machine S)
    (P Q : List RunLabel → T → Block → S → Block → Type 0)
    (into : (ls : List RunLabel) (x : T) (b : Block) (y : S) (c : Block) → P ls x b y c → Q ls x b y c) where
  pub after_into : (ls : List RunLabel) (x : T) (y : S) → After edge t s P ls x y → After edge t s Q ls x y
  after_into ls x y h = quietly_also s.act (onward s) h (λ z d m. into ls x (begun t x) z d m)

  meets_into : (ls : List RunLabel) (a : Act T) (k : Act S) → Meets edge t s P ls a k → Meets edge t s Q ls a k
  meets_into ls (Emits e x) (Emits f y) m = (m.0, after_into (label_of e ∷ ls) x y m.1)
  meets_into ls (Crosses f share next) (Crosses g other s_next) m = (
    m.0,
    m.1,
    record {
      names = m.2.names;
      to = m.2.to;
      has_names = m.2.has_names;
      each = λ n y e. let h = m.2.each n y e in (h.0, h.1, after_into (crossing_by g other n ∷ ls) h.0 y h.2);
    },
  )
  meets_into ls (Locks lock next) (Locks other s_next) m =
      (m.0, λ words guarded. after_into (Lock lock words ∷ ls) (next words) (s_next words) (m.1 words guarded))
  meets_into ls (Receives next) (Receives s_next) m = λ l may. after_into (l ∷ ls) (next l) (s_next l) (m l may)
  meets_into ls (Stops Full) k m = tt
  meets_into ls (Stops Ended) (Stops other) m = m
  meets_into ls (Stops (Taken lock)) (Stops other) m = m
  meets_into ls a k m = absurd m

  pub answers_into : (ls : List RunLabel) (a : Act T) (b : Block) (y : S) (c : Block) → Answers edge t s P ls a b y c →
      Answers edge t s Q ls a b y c
  answers_into ls (Quiet x) b y c h = quietly_also s.act (onward s) h (λ z d m. into ls x (onward t b x) z d m)
  answers_into ls (Emits e x) b y c h = quietly_also s.act (onward s) h (λ z d m. meets_into ls (Emits e x) (s.act z) m)
  answers_into ls (Crosses f share next) b y c h = quietly_also s.act (onward s) h
      (λ z d m. meets_into ls (Crosses f share next) (s.act z) m)
  answers_into ls (Locks lock next) b y c h = quietly_also s.act (onward s) h
      (λ z d m. meets_into ls (Locks lock next) (s.act z) m)
  answers_into ls (Receives next) b y c h = quietly_also s.act (onward s) h
      (λ z d m. meets_into ls (Receives next) (s.act z) m)
  answers_into ls Bad b y c h = h
  answers_into ls (Stops why) b y c h = quietly_also s.act (onward s) h (λ z d m. meets_into ls (Stops why) (s.act z) m)

module _ {T S : Type 0} (edge : Edge) (t : Machine T) (s : Machine S)
    (Met : List RunLabel → T → Block → S → Block → Type 0) (is : IsChained edge t s Met) where
  abbrev C : List RunLabel → T → Block → S → Block → Type 0
  C ls x b y c = Chain edge t s Met ls x b y c

  fine_of : (ls : List RunLabel) (x : T) (b : Block) (y : S) (c : Block) → C ls x b y c → GoesWrong s y c
      ⊎ Fine t s x b y c
  fine_of ls x b y c (last f a) = f
  fine_of ls x b y c (more x' e f k) = f

  answered : (ls : List RunLabel) (x : T) (b : Block) (y : S) (c : Block) → C ls x b y c →
      Answers edge t s C ls (t.act x) b y c
  answered ls x b y c (last f a) = answers_into edge t s Met C is.goes_on ls (t.act x) b y c a
  answered ls x b y c (more x' e f k) = let P : Act T → Type 0 =
      λ v. Answers edge t s C ls v b y c in subst P (sym e) (here k)

  pub chains_refine : Refines edge t s
  chains_refine = steps_refine edge t s C (record {
    starts = after_into edge t s Met C is.goes_on [] t.start s.start is.starts;
    fine = λ ls x y q r m. fine_of ls x.at x.block y.at y.block m;
    answers = λ ls x y q r m. answered ls x.at x.block y.at y.block m;
  })
