-- Clight is portable.
use Rattle.std.proofs.Common.{◌≡◌, ℕ, zero, suc, ◌+◌, ◌≤◌, List, [], ◌∷◌, Option, Some, None, Bool, true, false, map, slice_get, refl, sym, ap, ◌∙◌, subst, arith}
use Rattle.std.specs.Prelude.{⊤}
use Rattle.cas_base.specs.Word.{narrowed}
use Rattle.cas_base.specs.declared.decl.Decl.{Decl}
use Rattle.cas_base.specs.declared.kind.Ty.{Ty}
use Rattle.cas_base.specs.declared.kind.Ty.TheVariants.{Void, Int, Ptr, Array}
use Rattle.cas_typed.specs.declared.tree.Destination.{Destination}
use Rattle.cas_typed.specs.Resolved as t
use Rattle.cas_typed.specs.Resolved.{TypedExprTree, TypedTargetTree, to_local, to_global, to_element, to_behind, TypedStmtTree}
use Rattle.cas_step.specs.Asks as asks
use Rattle.cas_step.specs.Asks.{Asks}
use Rattle.cas_step.specs.Continuation as items
use Rattle.cas_step.specs.Continuation.{ContItem, Effect, begin_all}
use Rattle.cas_step.specs.Env.{length_of}
use Rattle.cas_runs.specs.Naming.{Home, Value, Number, Pointer, Hidden, same_home, usable}
use Rattle.cas_runs.specs.Access.{Accesses, with_value}
use Rattle.cas_runs.specs.Calls.{Last, nothing_touched}
use Rattle.cas_runs.proofs.Tests.{same_home_self, same_home_from}
use Rattle.cas_portable.specs.Renaming as rn
use Rattle.cas_portable.specs.Renaming.{Renaming, IsRenaming, Extends, SameValue, SameValues, SameForm}
use Rattle.cas_portable.specs.Portable.{SameIf, SameNext, SameLast}
use Rattle.cas_portable.proofs.Performing.{performed_same}
use Rattle.cas_clight.specs.Clight as clight
use Rattle.cas_clight.specs.Clight.{ClightFun, ClightState, Passed, at, own_home, decoded, encoded, asked, does, resumed, passing, converted, also_passed, arguments, begun, storing, keeps_pointer, context_of, entity_of, result_of}
use Rattle.cas_bridge.specs.Alike.{ValuesAlike, numbers, nulls, pointers, AllValuesAlike, ResultsAlike, QueriesAlike, gives, fails, stuck, reads, looks, loads, EffectsAlike, continues, stores, writes, calls, returns, locks, unlocks, prints}
use Rattle.cas_bridge.specs.Matching.{IsAddressable, AreAddressable, IsAddressableTarget, IsAddressableOption, IsAddressableStatement, IsAddressableNext}
use Rattle.cas_bridge.specs.Ported.{OwnBlocks, SamePassed, SameState, ClightIsPortable, ClightStepsAreSame}
use Rattle.cas_bridge.proofs.Evaluating.{effect_same}

-- where no local is known to keep a pointer, all is addressable

any_expression : (e : TypedExprTree) → IsAddressable [] e
any_expression (t.literal n) = tt
any_expression t.null = tt
any_expression (t.local n) = tt
any_expression (t.global g at) = tt
any_expression (t.element g at s a) = any_expression a
any_expression (t.place_of n) = refl
any_expression (t.behind k p) = any_expression p
any_expression (t.pointer_plus s p a) = (any_expression p, any_expression a)
any_expression (t.plus_pointer s a p) = (any_expression a, any_expression p)
any_expression (t.pointer_minus s p a) = (any_expression p, any_expression a)
any_expression (t.pointer_difference p q) = (any_expression p, any_expression q)
any_expression (t.compare op p q) = (any_expression p, any_expression q)
any_expression (t.unary op a) = any_expression a
any_expression (t.binary op s a b) = (any_expression a, any_expression b)
any_expression (t.narrow k a) = any_expression a
any_expression (t.and_also a b) = (any_expression a, any_expression b)
any_expression (t.or_else a b) = (any_expression a, any_expression b)
any_expression (t.choose c a b) = (any_expression c, any_expression a, any_expression b)

any_arguments : (args : List TypedExprTree) → AreAddressable [] args
any_arguments [] = tt
any_arguments (a ∷ args) = (any_expression a, any_arguments args)

any_target : (target : TypedTargetTree) → IsAddressableTarget [] target
any_target (to_local n) = tt
any_target (to_global g at) = tt
any_target (to_element g at s a) = any_expression a
any_target (to_behind k p) = any_expression p

any_option : (a : Option TypedExprTree) → IsAddressableOption [] a
any_option None = tt
any_option (Some a) = any_expression a

any_statement : (a : TypedStmtTree) → IsAddressableStatement [] a
any_statement (t.skip p) = tt
any_statement (t.assign p target a) = (any_target target, any_expression a)
any_statement (t.call p kept g at args) = any_arguments args
any_statement (t.block p bs) = tt
any_statement (t.if_ p c a b) = any_expression c
any_statement (t.while_ p c a) = any_expression c
any_statement (t.do_ p a c) = tt
any_statement (t.for_ p i c u a) = tt
any_statement (t.break_ p) = tt
any_statement (t.continue_ p) = tt
any_statement (t.return_ p a) = any_option a
any_statement (t.lock p g) = tt
any_statement (t.unlock p g) = tt
any_statement (t.print p a) = any_expression a

any_next : (cont : List ContItem) → IsAddressableNext [] cont
any_next [] = tt
any_next (items.begin a ∷ cont) = any_statement a
any_next (items.begun p c a ∷ cont) = any_expression c
any_next (items.loop p c u a ∷ cont) = any_option c
any_next (items.next p t.absent ∷ cont) = tt
any_next (items.next p (t.present a) ∷ cont) = any_statement a

abbrev O : Type 0
O = clight.Object

-- values that are the same stay so once more is renamed
value_extends : (size : Home → ℕ) (r r' : Renaming) → Extends r r' → (v w : Value) → SameValue size r v w →
    SameValue size r' v w
value_extends size r r' more (Number a) (Number b) s = s
value_extends size r r' more (Number a) (Pointer h p) s = absurd s
value_extends size r r' more (Number a) (Hidden u) s = absurd s
value_extends size r r' more (Pointer h p) (Pointer h' p') s = (more h h' s.0, s.1, s.2)
value_extends size r r' more (Pointer h p) (Number b) s = absurd s
value_extends size r r' more (Pointer h p) (Hidden u) s = absurd s
value_extends size r r' more (Hidden u) w s = absurd s

passed_extends : (size : Home → ℕ) (r r' : Renaming) → Extends r r' → (xs ys : List Passed) →
    SamePassed size r xs ys → SamePassed size r' xs ys
passed_extends size r r' more [] [] s = tt
passed_extends size r r' more [] (y ∷ ys) s = absurd s
passed_extends size r r' more (x ∷ xs) [] s = absurd s
passed_extends size r r' more (x ∷ xs) (y ∷ ys) s =
    (s.0, value_extends size r r' more x.value y.value s.1, passed_extends size r r' more xs ys s.2)

module _ (size : Home → ℕ) (r : Renaming) where
  -- an activation at this continuation, in both
  state_same : (f : ClightFun) (n m : ℕ) → OwnBlocks r f n m → (cont : List ContItem) (xs ys : List Passed) →
      SamePassed size r xs ys → SameState size r f (at f n xs cont) (at f m ys cont)
  state_same f n m own cont xs ys s =
      record { function = refl; function_there = refl; own = own; passed = s; continuation = refl }

  abbrev SameOption : Option Value → Option Value → Type 0
  SameOption None None = ⊤
  SameOption (Some v) (Some w) = SameValue size r v w
  SameOption _ _ = ⊥

  converted_same : (ty : Ty) (v w : Value) → SameValue size r v w → SameOption (converted ty v) (converted ty w)
  converted_same (Int k) (Number a) (Number b) s = ap (λ n. narrowed n k) s
  converted_same (Int k) (Pointer h p) (Pointer h' p') s = tt
  converted_same (Ptr k) (Number a) (Number b) s = s
  converted_same (Ptr k) (Pointer h p) (Pointer h' p') s = s
  converted_same Void (Number a) (Number b) s = tt
  converted_same Void (Pointer h p) (Pointer h' p') s = tt
  converted_same (Array k n) (Number a) (Number b) s = tt
  converted_same (Array k n) (Pointer h p) (Pointer h' p') s = tt
  converted_same ty (Number a) (Pointer h p) s = absurd s
  converted_same ty (Number a) (Hidden u) s = absurd s
  converted_same ty (Pointer h p) (Number b) s = absurd s
  converted_same ty (Pointer h p) (Hidden u) s = absurd s
  converted_same ty (Hidden u) w s = absurd s

  passing_same : (f : ClightFun) (n m : ℕ) → OwnBlocks r f n m → (cont : List ContItem) (local : ℕ)
      (v w : Option Value) → SameOption v w →
      SameIf clight.clight size (SameState size) r f (passing f n cont local v) (passing f m cont local w)
  passing_same f n m own cont local None None s = tt
  passing_same f n m own cont local None (Some w) s = absurd s
  passing_same f n m own cont local (Some v) None s = absurd s
  passing_same f n m own cont local (Some v) (Some w) s = state_same f n m own cont _ _ (refl, s, tt)

  resumed_now : (f : ClightFun) (n m : ℕ) → OwnBlocks r f n m → (cont : List ContItem) (target : Option Destination)
      (vs ws : List Value) → SameValues size r vs ws →
      SameIf clight.clight size (SameState size) r f (resumed f n cont target vs) (resumed f m cont target ws)
  resumed_now f n m own cont None vs ws s = state_same f n m own cont [] [] tt
  resumed_now f n m own cont (Some d) [] [] s = tt
  resumed_now f n m own cont (Some d) [] (w ∷ ws) s = absurd s
  resumed_now f n m own cont (Some d) (v ∷ vs) [] s = absurd s
  resumed_now f n m own cont (Some d) (v ∷ vs) (w ∷ ws) s =
      passing_same f n m own cont d.local (converted d.ty v) (converted d.ty w) (converted_same d.ty v w s.0)

  -- entries

  abbrev SameArguments : Option (List Passed) → Option (List Passed) → Type 0
  SameArguments None None = ⊤
  SameArguments (Some xs) (Some ys) = SamePassed size r xs ys
  SameArguments _ _ = ⊥

  also_same : (k : ℕ) (v w : Value) → SameValue size r v w → (o o' : Option (List Passed)) → SameArguments o o' →
      SameArguments (also_passed k (usable v) o) (also_passed k (usable w) o')
  also_same k (Number a) (Number b) s None None h = tt
  also_same k (Number a) (Number b) s (Some xs) (Some ys) h = (refl, s, h)
  also_same k (Pointer p i) (Pointer q j) s None None h = tt
  also_same k (Pointer p i) (Pointer q j) s (Some xs) (Some ys) h = (refl, s, h)
  also_same k v w s None (Some ys) h = absurd h
  also_same k v w s (Some xs) None h = absurd h
  also_same k (Number a) (Pointer h p) s o o' g = absurd s
  also_same k (Number a) (Hidden u) s o o' g = absurd s
  also_same k (Pointer h p) (Number b) s o o' g = absurd s
  also_same k (Pointer h p) (Hidden u) s o o' g = absurd s
  also_same k (Hidden u) w s o o' g = absurd s

  arguments_same : (k count : ℕ) (vs ws : List Value) → SameValues size r vs ws →
      SameArguments (arguments k count vs) (arguments k count ws)
  arguments_same k zero [] [] s = tt
  arguments_same k zero [] (w ∷ ws) s = absurd s
  arguments_same k zero (v ∷ vs) [] s = absurd s
  arguments_same k zero (v ∷ vs) (w ∷ ws) s = tt
  arguments_same k (suc count) [] [] s = tt
  arguments_same k (suc count) [] (w ∷ ws) s = absurd s
  arguments_same k (suc count) (v ∷ vs) [] s = absurd s
  arguments_same k (suc count) (v ∷ vs) (w ∷ ws) s =
      also_same k v w s.0 (arguments (k + 1) count vs) (arguments (k + 1) count ws)
      (arguments_same (k + 1) count vs ws s.1)

  begun_same : (f : ClightFun) (n m : ℕ) → OwnBlocks r f n m → (o o' : Option (List Passed)) → SameArguments o o' →
      SameIf clight.clight size (SameState size) r f (begun f n o) (begun f m o')
  begun_same f n m own None None s = tt
  begun_same f n m own None (Some ys) s = absurd s
  begun_same f n m own (Some xs) None s = absurd s
  begun_same f n m own (Some xs) (Some ys) s = state_same f n m own (begin_all f.body []) xs ys s

resumed_same : (size : Home → ℕ) (r : Renaming) (f : ClightFun) (n m : ℕ) → OwnBlocks r f n m →
    (cont : List ContItem) (target : Option Destination) →
    SameNext clight.clight size (SameState size) r f (resumed f n cont target) (resumed f m cont target)
resumed_same size r f n m own cont target r' more is vs ws s =
    resumed_now size r' f n m (λ b. more _ _ (own b)) cont target vs ws s

-- A step.

module _ (size : Home → ℕ) (r : Renaming) (is : IsRenaming r) (f : ClightFun) (n m : ℕ) (own : OwnBlocks r f n m) where
  abbrev Objects : O → O → Type 0
  Objects o o' = (r o.home ≡ Some o'.home) × (o.has_pointer ≡ o'.has_pointer)

  abbrev Points : O → O → ℕ → Type 0
  Points o o' p = p ≤ size o'.home

  abbrev Sizes : O → O → ℕ → Type 0
  Sizes o o' k = k ≡ size o'.home

  abbrev len : ℕ → Option ℕ
  len g = length_of (entity_of (slice_get f.decls g))

  abbrev LastSame : Last ClightState → Last ClightState → Type 0
  LastSame = SameLast clight.clight size (SameState size) r f

  abbrev Form : Accesses (Last ClightState) → Accesses (Last ClightState) → Type 0
  Form x y = SameForm size r LastSame x y

  same_in : (a b a' b' : O) → Objects a a' → Objects b b' → clight.same_object a b ≡ clight.same_object a' b'
  same_in a b a' b' h k = by (same_home a.home b.home) refl (same_home a'.home b'.home) refl
    where
      by : (x : Bool) → same_home a.home b.home ≡ x → (y : Bool) → same_home a'.home b'.home ≡ y → x ≡ y
      by true d true e = refl
      by false d false e = refl
      by true d false e =
          let one : a.home ≡ b.home = same_home_from a.home b.home d in
          let both : Some a'.home ≡ Some b'.home = sym h.0 ∙ ap r one ∙ k.0 in
          let same : a'.home ≡ b'.home = cc both in
          let yes : same_home a'.home b'.home ≡ true =
          subst (λ x. same_home a'.home x ≡ true) same (same_home_self a'.home) in
          absurd (let no : ⊥ = cc (yes, e) in no)
      by false d true e =
          let same : a'.home ≡ b'.home = same_home_from a'.home b'.home e in
          let one : a.home ≡ b.home = is.injective a.home b.home a'.home h.0 (k.0 ∙ ap Some (sym same)) in
          let yes : same_home a.home b.home ≡ true =
          subst (λ x. same_home a.home x ≡ true) one (same_home_self a.home) in
          absurd (let no : ⊥ = cc (yes, d) in no)

  encoded_same : (v v' : asks.Value O) → ValuesAlike Objects Points v v' → SameValue size r (encoded v) (encoded v')
  encoded_same v v' (numbers k) = refl
  encoded_same v v' nulls = refl
  encoded_same v v' (pointers p o reach) = (o.0, refl, reach)

  all_encoded : (vs vs' : List (asks.Value O)) → AllValuesAlike Objects Points vs vs' →
      SameValues size r (map encoded vs) (map encoded vs')
  all_encoded [] [] s = tt
  all_encoded [] (v' ∷ vs') s = absurd s
  all_encoded (v ∷ vs) [] s = absurd s
  all_encoded (v ∷ vs) (v' ∷ vs') s = (encoded_same v v' s.0, all_encoded vs vs' s.1)

  returned_same : (v v' : Option (asks.Value O)) → ResultsAlike Objects Points v v' →
      SameValues size r (clight.returned v) (clight.returned v')
  returned_same None None s = tt
  returned_same None (Some v') s = absurd s
  returned_same (Some v) None s = absurd s
  returned_same (Some v) (Some v') s = (encoded_same v v' s, tt)

  abbrev SameDecoded : Option (asks.Value O) → Option (asks.Value O) → Type 0
  SameDecoded None None = ⊤
  SameDecoded (Some v) (Some v') = ValuesAlike Objects Points v v'
  SameDecoded _ _ = ⊥

  decoded_same : (b : Bool) (v w : Value) → SameValue size r v w → SameDecoded (decoded b v) (decoded b w)
  decoded_same b (Number i) (Number j) s = subst (λ k. SameDecoded (decoded b (Number i)) (decoded b (Number k))) s
      (by b i)
    where
      by : (b : Bool) (i : ℕ) → SameDecoded (decoded b (Number i)) (decoded b (Number i))
      by false i = numbers i
      by true zero = nulls
      by true (suc i) = tt
  decoded_same false (Pointer h p) (Pointer h' p') s = tt
  decoded_same true (Pointer h p) (Pointer h' p') s =
      subst (λ k. SameDecoded (decoded true (Pointer h p)) (decoded true (Pointer h' k))) s.1
      (pointers p (s.0, refl) (subst (λ k. k ≤ size h') (sym s.1) s.2))
  decoded_same b (Number i) (Pointer h p) s = absurd s
  decoded_same b (Number i) (Hidden u) s = absurd s
  decoded_same b (Pointer h p) (Number j) s = absurd s
  decoded_same b (Pointer h p) (Hidden u) s = absurd s
  decoded_same b (Hidden u) w s = absurd s

  value_same : (o o' : Option (asks.Value O)) → SameDecoded o o' →
      (go go' : asks.Value O → Accesses (Last ClightState)) →
      ((v v' : asks.Value O) → ValuesAlike Objects Points v v' → Form (go v) (go' v')) →
      Form (with_value o go) (with_value o' go')
  value_same None None s go go' more = rn.fails
  value_same None (Some v') s go go' more = absurd s
  value_same (Some v) None s go go' more = absurd s
  value_same (Some v) (Some v') s go go' more = more v v' s

  item_same : (o : Option Decl) (go go' : Decl → Accesses (Last ClightState)) → ((d : Decl) → Form (go d) (go' d)) →
      Form (with_value o go) (with_value o go')
  item_same None go go' more = rn.fails
  item_same (Some d) go go' more = more d

  asked_same : {A B : Type 0} {R : A → B → Type 0} {x : Asks O A} {y : Asks O B} →
      QueriesAlike Objects Points Sizes len R x y → (go : A → Accesses (Last ClightState))
      (go' : B → Accesses (Last ClightState)) → ((a : A) (b : B) → R a b → Form (go a) (go' b)) →
      Form (asked f.decls x go) (asked f.decls y go')
  asked_same (gives {a = a} {b = b} h) go go' more = more a b h
  asked_same fails go go' more = rn.fails
  asked_same stuck go go' more = rn.fails
  asked_same (reads {g = g} {i = i} below h) go go' more = item_same (slice_get f.decls g) _ _
      (λ d. rn.reads (λ v. asked_same (h v) go go' more))
  asked_same (looks {o' = o'} same none h) go go' more =
      rn.looks same.0 (asked_same none go go' more) (asked_same (h (size o'.home) refl) go go' more)
  asked_same (loads {o = o} {o' = o'} same h) go go' more = rn.loads same.0
      (λ v w s. value_same (decoded o.has_pointer v) (decoded o'.has_pointer w)
      (subst (λ b. SameDecoded (decoded o.has_pointer v) (decoded b w)) same.1 (decoded_same o.has_pointer v w s)) _ _
      (λ u u' a. asked_same (h u u' a) go go' more))

  goes_same : (cont : List ContItem) → Form (clight.goes f n cont) (clight.goes f m cont)
  goes_same cont = rn.last (state_same size r f n m own cont [] [] tt)

  does_same : (d d' : Effect O) → EffectsAlike Objects Points Sizes len d d' → Form (does f n d) (does f m d')
  does_same d d' (continues cont) = goes_same cont
  does_same d d' (stores {v = v} {v' = v'} p cont o s) = rn.stores o.0 (encoded_same v v' s) (goes_same cont)
  does_same d d' (writes g i k cont below) = item_same (slice_get f.decls g) _ _ (λ d. rn.writes (goes_same cont))
  does_same d d' (calls g {vs = vs} {vs' = vs'} target cont s) = item_same (slice_get f.decls g) _ _
      (λ d. rn.last (refl, all_encoded vs vs' s, resumed_same size r f n m own cont target))
  does_same d d' (returns {v = v} {v' = v'} s) = rn.last (returned_same v v' s)
  does_same d d' (locks g cont) = item_same (slice_get f.decls g) _ _
      (λ d. rn.last (refl, state_same size r f n m own cont [] [] tt))
  does_same d d' (unlocks g cont) = item_same (slice_get f.decls g) _ _
      (λ d. rn.last (refl, state_same size r f n m own cont [] [] tt))
  does_same d d' (prints k cont) = rn.last (refl, state_same size r f n m own cont [] [] tt)

  storing_same : (xs ys : List Passed) → SamePassed size r xs ys → (x y : Accesses (Last ClightState)) → Form x y →
      Form (storing f n xs x) (storing f m ys y)
  storing_same [] [] s x y h = h
  storing_same [] (b ∷ ys) s x y h = absurd s
  storing_same (a ∷ xs) [] s x y h = absurd s
  storing_same (a ∷ xs) (b ∷ ys) s x y h =
      rn.stores (own a.local ∙ ap (λ k. Some (own_home f m k)) s.0) s.1 (storing_same xs ys s.2 x y h)

  form_same : (cont : List ContItem) (xs ys : List Passed) → SamePassed size r xs ys →
      Form (clight.step (at f n xs cont)) (clight.step (at f m ys cont))
  form_same cont xs ys s = storing_same xs ys s _ _ (asked_same
      (effect_same O O Objects Points Sizes len
      (λ o o' p q k reach sized less. omega (arith, sized, less)) (context_of f n) (context_of f m) (λ g. refl)
      (λ g. refl) (λ b. (own b, refl)) same_in [] (λ b e. omega arith) (result_of f) cont (any_next cont))
      (does f n) (does f m) does_same)

pub clight_is_portable : ClightIsPortable
clight_is_portable size = record {
  forms = λ r is f x y s.
      subst (λ g. SameForm size r (SameLast clight.clight size (SameState size) r f)
      (clight.step (at g x.serial x.passed x.continuation)) (clight.step y)) (sym s.function)
      (subst (λ g. SameForm size r (SameLast clight.clight size (SameState size) r f)
      (clight.step (at f x.serial x.passed x.continuation)) (clight.step (at g y.serial y.passed y.continuation)))
      (sym s.function_there)
      (subst (λ cont. SameForm size r (SameLast clight.clight size (SameState size) r f)
      (clight.step (at f x.serial x.passed x.continuation)) (clight.step (at f y.serial y.passed cont)))
      s.continuation (form_same size r is f x.serial y.serial s.own x.continuation x.passed y.passed s.passed)));
  enters = λ r is f n m vs ws s own. begun_same size r f n m own (arguments 0 (clight.parameters_of f) vs)
      (arguments 0 (clight.parameters_of f) ws) (arguments_same size r 0 (clight.parameters_of f) vs ws s);
  first = λ r. refl;
  extends = λ r r' more f x y s. record {
    function = s.function;
    function_there = s.function_there;
    own = λ b. more _ _ (s.own b);
    passed = passed_extends size r r' more x.passed y.passed s.passed;
    continuation = s.continuation;
  };
}

pub clight_steps_are_same : ClightStepsAreSame
clight_steps_are_same size r is f x y s edge share m t same sized =
    performed_same size r is (SameLast clight.clight size (SameState size) r f) edge t
    ((clight_is_portable size).forms r is f x y s) share m t nothing_touched
    (record { memory = same; elsewhere = λ h far. refl; sized = sized })
