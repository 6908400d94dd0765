-- What is asked first, and then what follows.
use Rattle.std.proofs.Common.{◌≡◌, List, Option, Some, None, refl, ap}
use Rattle.std.specs.Prelude.{slice_get}
use Rattle.cas_base.specs.declared.decl.Decl.{Decl}
use Rattle.cas_step.specs.Asks as asks
use Rattle.cas_step.specs.Asks.{Asks}
use Rattle.cas_runs.specs.Access.{Accesses, Reads, Loads, Looks, with_value}
use Rattle.cas_clight.specs.Clight.{Object, decoded, asked}

-- functions that are equal at each argument
pub fun_ext : {A B : Type 0} {f g : A → B} → ((a : A) → f a ≡ g a) → f ≡ g
fun_ext h = λ i a. h a i

with_same : {V L : Type 0} (o : Option V) (k k' : V → Accesses L) → ((v : V) → k v ≡ k' v) →
    with_value o k ≡ with_value o k'
with_same None k k' e = refl
with_same (Some v) k k' e = e v

pub asked_then : {A B L : Type 0} (ds : List Decl) (x : Asks Object A) (next : A → Asks Object B) (k : B → Accesses L) →
    asked ds (asks.and_then x next) k ≡ asked ds x (λ a. asked ds (next a) k)
asked_then ds (asks.gives a) next k = refl
asked_then ds (asks.fails why) next k = refl
asked_then ds asks.stuck next k = refl
asked_then ds (asks.reads g i more) next k = with_same (slice_get ds g) _ _
    (λ d. ap (λ h. Reads d.name i h) (fun_ext (λ n. asked_then ds (more n) next k)))
asked_then ds (asks.looks o more) next k = ap (λ h. Looks o.home h) (fun_ext (λ s. asked_then ds (more s) next k))
asked_then ds (asks.loads o p more) next k = ap (λ h. Loads o.home p h)
    (fun_ext (λ v. with_same (decoded o.has_pointer v) _ _ (λ u. asked_then ds (more u) next k)))

pub then_then : {O A B C : Type 0} (x : Asks O A) (next : A → Asks O B) (last : B → Asks O C) →
    asks.and_then (asks.and_then x next) last ≡ asks.and_then x (λ a. asks.and_then (next a) last)
then_then (asks.gives a) next last = refl
then_then (asks.fails why) next last = refl
then_then asks.stuck next last = refl
then_then (asks.reads g i more) next last = ap (λ h. asks.reads g i h) (fun_ext (λ n. then_then (more n) next last))
then_then (asks.looks o more) next last = ap (λ h. asks.looks o h) (fun_ext (λ s. then_then (more s) next last))
then_then (asks.loads o p more) next last = ap (λ h. asks.loads o p h) (fun_ext (λ v. then_then (more v) next last))
