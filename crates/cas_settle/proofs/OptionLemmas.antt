-- Options: what a reference points to, and a value or else another option.
use Rattle.std.proofs.Common.{◌≡◌, Bool, true, false, cond, ◌||◌, Option, Some, None, is_some, ap, refl, ◌∙◌}
use Rattle.std.specs.Borrow.{Bor}
use Rattle.std.specs.Option.{option_and_then, option_copied, option_map, option_or}

pub option_map-copied : {X Y : Type 0} (f : X → Y) (r : Option (Bor X)) →
    option_map (λ (x : Bor X). f x.now) r ≡ option_map f (option_copied r)
option_map-copied f None = refl
option_map-copied f (Some x) = refl

pub option_map-cond : {X Y : Type 0} (f : X → Y) (b : Bool) (x : X) (o : Option X) →
    option_map f (cond b (Some x) o) ≡ cond b (Some (f x)) (option_map f o)
option_map-cond f true x o = refl
option_map-cond f false x o = refl

pub is_some-cond : {X : Type 0} (b : Bool) (x : X) (o : Option X) → is_some (cond b (Some x) o) ≡ (b || is_some o)
is_some-cond true x o = refl
is_some-cond false x o = refl

pub is_some-option_map : {X Y : Type 0} (f : X → Y) (o : Option X) → is_some (option_map f o) ≡ is_some o
is_some-option_map f None = refl
is_some-option_map f (Some x) = refl

pub none-is_some : {X : Type 0} (o : Option X) → is_some o ≡ false → o ≡ None
none-is_some None e = refl
none-is_some (Some x) e = cc

pub option_map-none : {X Y : Type 0} (f : X → Y) (o : Option X) → option_map f o ≡ None → o ≡ None
option_map-none f None e = refl
option_map-none f (Some x) e = cc

pub option_map-some : {X Y : Type 0} (f : X → Y) (o p : Option X) (y : Y) → ((x : X) → o ≡ Some x → p ≡ Some x) →
    option_map f o ≡ Some y → option_map f p ≡ Some y
option_map-some f None p y go e = cc
option_map-some f (Some x) p y go e = ap (option_map f) (go x refl) ∙ e

pub option_map-option_map : {X Y Z : Type 0} (f : X → Y) (g : Y → Z) (o : Option X) →
    option_map g (option_map f o) ≡ option_map (λ x. g (f x)) o
option_map-option_map f g None = refl
option_map-option_map f g (Some x) = refl

pub option_and_then-cond : {X Y : Type 0} (f : X → Option Y) (b : Bool) (x : X) (o : Option X) →
    option_and_then f (cond b (Some x) o) ≡ cond b (f x) (option_and_then f o)
option_and_then-cond f true x o = refl
option_and_then-cond f false x o = refl

-- neither of two options has a value
pub both-none : {X : Type 0} (o p : Option X) → option_or o p ≡ None → (o ≡ None) × (p ≡ None)
both-none None p e = (refl, e)
both-none (Some x) p e = cc

pub none-both : {X : Type 0} (o p : Option X) → o ≡ None → p ≡ None → option_or o p ≡ None
none-both o p first second = ap (λ o. option_or o p) first ∙ second

pub cond-none : {X : Type 0} (b : Bool) (x : X) (o : Option X) → cond b (Some x) o ≡ None → (b ≡ false) × (o ≡ None)
cond-none true x o e = cc
cond-none false x o e = (refl, e)

pub pass-none : {X : Type 0} (b : Bool) (x : X) → cond b None (Some x) ≡ None → b ≡ true
pass-none true x e = refl
pass-none false x e = cc
