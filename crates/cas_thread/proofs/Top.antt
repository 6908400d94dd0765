-- The definition's step, by the newest activation.
use Rattle.std.proofs.Common.{◌≡◌, ℕ, List, [], ◌∷◌, Some, refl, subst}
use Rattle.cas_step.specs.Env.{Env}
use Rattle.cas_step.specs.Step.{Activation, Config, Step, step, newest_step, step_of}

-- a thread that has a step has a newest activation
stepping : (e : Env) (ws : List ℕ) (c : Config) (all : List Activation) (s : Step) → step_of e ws c all ≡ Some s →
    (a : Activation) × (older : List Activation) × (all ≡ a ∷ older)
stepping e ws c [] s is = absurd (cc is)
stepping e ws c (a ∷ older) s is = (a, older, refl)

pub newest_of : (e : Env) (ws : List ℕ) (c : Config) (s : Step) → step e ws c ≡ Some s → (a : Activation)
    × (older : List Activation) × (c.activations ≡ a ∷ older)
newest_of e ws c s is = stepping e ws c c.activations s is

pub step_at : (e : Env) (ws : List ℕ) (c : Config) (a : Activation) (older : List Activation) (s : Step) →
    c.activations ≡ a ∷ older → step e ws c ≡ Some s →
    newest_step e (record { config = c; newest = a; older = older; words = ws }) ≡ Some s
step_at e ws c a older s going is = subst (λ (all : List Activation). step_of e ws c all ≡ Some s) going is
