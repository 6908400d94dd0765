-- What the next instruction may ask, through the functions that define it.
use Rattle.std.proofs.Common.{◌≡◌, ℕ, ◌+◌, ◌-◌, ◌*◌, ◌/◌, ◌%◌, ◌<◌, ◌≤◌, Bool, true, false, ◌&&◌, ◌==◌, nat_le, nat_lt, if◌then◌else◌, Option, Some, None, length, slice_get, slice_index, refl, sym, subst, arith}
use Rattle.std.proofs.lemmas.Bool.{leb-true, ltb-true}
use Rattle.cas_asm.specs.After.{read_at, write_of, after, faults, is_locked, is_output, is_return}
use Rattle.cas_asm.specs.Ask.{ask_at, ask_instr, ask_locked, ask_of, ask_quiet, ask_read, ask_spot, ask_store, ask_stored, is_constant, spot_of}
use Rattle.cas_asm.specs.Effect.{effect_of}
use Rattle.cas_asm.specs.Links.{in_image}
use Rattle.cas_asm.specs.State.{State as Cpu}
use Rattle.cas_asm.specs.declared.ask.Ask.{Ask}
use Rattle.cas_asm.specs.declared.ask.Ask.TheVariants as ask
use Rattle.cas_asm.specs.declared.ask.BadWhy.{BadWhy}
use Rattle.cas_asm.specs.declared.ask.BadWhy.TheVariants.{Divide, Address, ConstWrite}
use Rattle.cas_asm.specs.declared.ask.Spot.{Spot}
use Rattle.cas_asm.specs.declared.ask.Spot.TheVariants.{Own, Shared, Nowhere}
use Rattle.cas_asm.specs.declared.effect.Effect.{Effect}
use Rattle.cas_asm.specs.declared.image.Image.{Image}
use Rattle.cas_asm.specs.declared.instr.Instr.{Instr}
use Rattle.cas_asm.specs.declared.instr.Instr.TheVariants as instr
use Rattle.cas_asm.specs.declared.instr.Value.TheVariants as value
use Rattle.cas_asm.specs.declared.regs.Core.{Core}
use Rattle.cas_asm.specs.declared.regs.Regs.{Regs}
use Rattle.cas_asm.specs.declared.regs.Write.{Write}
use Rattle.cas_tso.specs.Asking.{IsAmongWords, IsSettled, Follows}

-- what holds in both cases of a test holds
both : (P : Ask → Type 0) (b : Bool) (x y : Ask) → P x → P y → P (if b then x else y)
both P true x y h k = h
both P false x y h k = k

shared_inner : (b : Bool) (j k : ℕ) → (if b then Shared j else Nowhere) ≡ Shared k → (b ≡ true) × (j ≡ k)
shared_inner true j k e = (refl, cc)
shared_inner false j k e = cc

shared_outer : (a b c : Bool) (o j k : ℕ) →
    (if a then (if b then Own o else (if c then Shared j else Nowhere)) else Nowhere) ≡ Shared k → (c ≡ true) × (j ≡ k)
shared_outer true true c o j k e = cc
shared_outer true false c o j k e = shared_inner c j k e
shared_outer false b c o j k e = cc

and_left : (a b : Bool) → (a && b) ≡ true → a ≡ true
and_left true b e = refl
and_left false b e = cc

and_right : (a b : Bool) → (a && b) ≡ true → b ≡ true
and_right true b e = e
and_right false b e = cc

-- the place of a shared word is one of the words
pub spot_within : (m : Image) (c : Cpu) (at k : ℕ) → spot_of m c at ≡ Shared k → k < length m.words
spot_within m c at k e =
    let words = length m.words in
    let low = nat_le 4096 at in
    let high = nat_lt at (4096 + 4 * words) in
    let own = nat_le c.bottom at && nat_lt at (c.bottom + 4 * length c.stack) in
    let s = shared_outer (at % 4 == 0) own (low && high) ((at - c.bottom) / 4) ((at - 4096) / 4) k e in
    let above : 4096 ≤ at = leb-true 4096 at (and_left low high s.0) in
    let below : at < 4096 + 4 * words = ltb-true at (4096 + 4 * words) (and_right low high s.0) in
    let is = s.1 in
    omega arith

-- Answers without a load.

-- a fact of answers that holds of each that an instruction can give once its word is known, where there are so many
-- words
record Holds (n : ℕ) (P : Ask → Type 0) : Type 0 where
  plain : P ask.Plain
  store : (k v : ℕ) → k < n → P (ask.Store k v)
  decrement : (k : ℕ) → k < n → P (ask.LockedDec k)
  out : (v : ℕ) → P (ask.Out v)
  finish : P ask.Finish
  stack : P ask.Stack
  bad : (why : BadWhy) → P (ask.Bad why)

module _ (m : Image) (c : Cpu) (P : Ask → Type 0) (h : Holds (length m.words) P) where
  stored_holds : (s : Spot) (v : ℕ) → ((k : ℕ) → s ≡ Shared k → k < length m.words) → P (ask_stored m s v)
  stored_holds (Own k) v w = h.plain
  stored_holds (Shared k) v w = both P (is_constant m k) (ask.Bad ConstWrite) (ask.Store k v) (h.bad ConstWrite)
      (h.store k v (w k refl))
  stored_holds Nowhere v w = h.bad Address

  quiet_holds : (e : Effect) (read : ℕ) → P (ask_quiet e c.core read)
  quiet_holds e read =
      let returns = is_return e && (read == 4294967295) in
      both P (is_output e) (ask.Out c.core.regs.eax) (if returns then ask.Finish else ask.Plain) (h.out c.core.regs.eax)
      (both P returns ask.Finish ask.Plain h.finish h.plain)

  store_holds : (e : Effect) (read : ℕ) (w : Option Write) → P (ask_store m c e read w)
  store_holds e read None = quiet_holds e read
  store_holds e read (Some w) = stored_holds (spot_of m c w.at) w.value (λ k. spot_within m c w.at k)

  read_holds : (e : Effect) (read : ℕ) → P (ask_read m c e read)
  read_holds e read =
      let full = nat_lt (after e c.core read).regs.esp c.bottom in
      let store = ask_store m c e read (write_of e c.core read) in
      both P (faults e c.core) (ask.Bad Divide) (if full then ask.Stack else store) (h.bad Divide)
      (both P full ask.Stack store h.stack (store_holds e read (write_of e c.core read)))

  locked_holds : (s : Spot) → ((k : ℕ) → s ≡ Shared k → k < length m.words) → P (ask_locked m s)
  locked_holds (Own k) w = h.bad Address
  locked_holds (Shared k) w = both P (is_constant m k) (ask.Bad ConstWrite) (ask.LockedDec k) (h.bad ConstWrite)
      (h.decrement k (w k refl))
  locked_holds Nowhere w = h.bad Address

-- Places.

are_among : (n : ℕ) → Holds n (IsAmongWords n)
are_among n = record {
  plain = tt;
  store = λ k v w. w;
  decrement = λ k w. w;
  out = λ v. tt;
  finish = tt;
  stack = tt;
  bad = λ why. tt;
}

spot_asks : (m : Image) (c : Cpu) (e : Effect) (o : Option ℕ) (s : Spot) →
    ((k : ℕ) → s ≡ Shared k → k < length m.words) →
    IsAmongWords (length m.words) (ask_spot m c e o s)
spot_asks m c e o (Own k) w = read_holds m c (IsAmongWords (length m.words)) (are_among (length m.words)) e
    (slice_index c.stack k)
spot_asks m c e None (Shared k) w = w k refl
spot_asks m c e (Some v) (Shared k) w = read_holds m c (IsAmongWords (length m.words)) (are_among (length m.words)) e v
spot_asks m c e o Nowhere w = tt

at_asks : (m : Image) (c : Cpu) (e : Effect) (o at : Option ℕ) → IsAmongWords (length m.words) (ask_at m c e o at)
at_asks m c e o None = read_holds m c (IsAmongWords (length m.words)) (are_among (length m.words)) e 0
at_asks m c e o (Some at) =
    let n = length m.words in
    let s = spot_of m c at in
    both (IsAmongWords n) (is_locked e) (ask_locked m s) (ask_spot m c e o s)
    (locked_holds m c (IsAmongWords n) (are_among n) s (λ k. spot_within m c at k))
    (spot_asks m c e o s (λ k. spot_within m c at k))

instr_asks : (m : Image) (c : Cpu) (o : Option ℕ) (i : Option (Instr ℕ)) →
    IsAmongWords (length m.words) (ask_instr m c o i)
instr_asks m c o None = tt
instr_asks m c o (Some i) = at_asks m c (effect_of in_image i) o (read_at (effect_of in_image i) c.core.regs)

-- a shared word that is asked for is one of the image's
pub asks_among : (m : Image) (c : Cpu) (o : Option ℕ) → IsAmongWords (length m.words) (ask_of m c o)
asks_among m c o = instr_asks m c o (slice_get m.code c.core.place)

-- Loads.

-- an instruction that reads memory, but for a locked one, makes no store and no output
abbrev IsQuietAfter : Effect → Type 0
IsQuietAfter e = ((c : Core) (read : ℕ) → write_of e c read ≡ None) × (is_output e ≡ false)

reads_only : (i : Instr ℕ) (r : Regs) (at : ℕ) → read_at (effect_of in_image i) r ≡ Some at →
    is_locked (effect_of in_image i) ≡ false → IsQuietAfter (effect_of in_image i)
reads_only (instr.Mov k from) r at e l = (λ c read. refl, refl)
reads_only (instr.Store m (value.Reg k)) r at e l = cc
reads_only (instr.Store m (value.Num n)) r at e l = cc
reads_only (instr.Extend how k from) r at e l = (λ c read. refl, refl)
reads_only (instr.Lea k m) r at e l = (λ c read. refl, refl)
reads_only (instr.Operate what k from) r at e l = (λ c read. refl, refl)
reads_only (instr.Cmp k from) r at e l = (λ c read. refl, refl)
reads_only (instr.CmpMem m n) r at e l = (λ c read. refl, refl)
reads_only (instr.Test k from) r at e l = (λ c read. refl, refl)
reads_only (instr.Neg k) r at e l = (λ c read. refl, refl)
reads_only (instr.Not k) r at e l = (λ c read. refl, refl)
reads_only (instr.Shift how k by) r at e l = (λ c read. refl, refl)
reads_only instr.Cdq r at e l = (λ c read. refl, refl)
reads_only (instr.Idiv k) r at e l = (λ c read. refl, refl)
reads_only (instr.Div k) r at e l = (λ c read. refl, refl)
reads_only (instr.Push k) r at e l = cc
reads_only (instr.Pop k) r at e l = (λ c read. refl, refl)
reads_only (instr.Jmp t) r at e l = (λ c read. refl, refl)
reads_only (instr.JumpIf on to) r at e l = (λ c read. refl, refl)
reads_only (instr.Call f) r at e l = cc
reads_only instr.Ret r at e l = (λ c read. refl, refl)
reads_only instr.Out r at e l = cc
reads_only (instr.LockDec m) r at e l = cc
reads_only (instr.Set on k) r at e l = (λ c read. refl, refl)

read_settles : (m : Image) (c : Cpu) (e : Effect) (read : ℕ) → IsQuietAfter e → IsSettled (ask_read m c e read)
read_settles m c e read q =
    let full = nat_lt (after e c.core read).regs.esp c.bottom in
    let store = ask_store m c e read (write_of e c.core read) in
    let returns = is_return e && (read == 4294967295) in
    let quiet : IsSettled (ask_quiet e c.core read) =
    subst (λ (b : Bool). IsSettled (if b then ask.Out c.core.regs.eax else (if returns then ask.Finish else ask.Plain)))
    (sym q.1)
    (both IsSettled returns ask.Finish ask.Plain tt tt) in
    both IsSettled (faults e c.core) (ask.Bad Divide) (if full then ask.Stack else store) tt
    (both IsSettled full ask.Stack store tt (subst (λ (w : Option Write). IsSettled (ask_store m c e read w))
    (sym (q.0 c.core read)) quiet))

-- an answer that isn't a load is the same with a word
abbrev Keeps : Ask → Type 0
Keeps a = Follows a a

are_kept : (n : ℕ) → Holds n Keeps
are_kept n = record {
  plain = refl;
  store = λ k v w. refl;
  decrement = λ k w. refl;
  out = λ v. refl;
  finish = refl;
  stack = refl;
  bad = λ why. refl;
}

spot_follows : (m : Image) (c : Cpu) (e : Effect) (v : ℕ) (s : Spot) → IsQuietAfter e →
    Follows (ask_spot m c e None s) (ask_spot m c e (Some v) s)
spot_follows m c e v (Own k) q = read_holds m c Keeps (are_kept (length m.words)) e (slice_index c.stack k)
spot_follows m c e v (Shared k) q = read_settles m c e v q
spot_follows m c e v Nowhere q = refl

test_follows : (b : Bool) (x y z : Ask) → (b ≡ true → Keeps x) → (b ≡ false → Follows y z) →
    Follows (if b then x else y) (if b then x else z)
test_follows true x y z h k = h refl
test_follows false x y z h k = k refl

at_follows : (m : Image) (c : Cpu) (i : Instr ℕ) (v : ℕ) (at : Option ℕ) →
    read_at (effect_of in_image i) c.core.regs ≡ at →
    Follows (ask_at m c (effect_of in_image i) None at) (ask_at m c (effect_of in_image i) (Some v) at)
at_follows m c i v None is = read_holds m c Keeps (are_kept (length m.words)) (effect_of in_image i) 0
at_follows m c i v (Some at) is =
    let e = effect_of in_image i in
    let s = spot_of m c at in
    test_follows (is_locked e) (ask_locked m s) (ask_spot m c e None s) (ask_spot m c e (Some v) s)
    (λ locked. locked_holds m c Keeps (are_kept (length m.words)) s (λ k. spot_within m c at k))
    (λ free. spot_follows m c e v s (reads_only i c.core.regs at is free))

instr_follows : (m : Image) (c : Cpu) (v : ℕ) (i : Option (Instr ℕ)) →
    Follows (ask_instr m c None i) (ask_instr m c (Some v) i)
instr_follows m c v None = refl
instr_follows m c v (Some i) = at_follows m c i v (read_at (effect_of in_image i) c.core.regs) refl

-- after a load nothing more is asked, and any other answer is the same with a word
pub asks_follow : (m : Image) (c : Cpu) (v : ℕ) → Follows (ask_of m c None) (ask_of m c (Some v))
asks_follow m c v = instr_follows m c v (slice_get m.code c.core.place)
