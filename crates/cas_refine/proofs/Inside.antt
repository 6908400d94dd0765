-- The eight instructions of the lock object, as the processor takes them, are those of the abstract lock object.
use Rattle.std.proofs.Common.{◌≡◌, ℕ, zero, suc, ◌+◌, ◌<◌, nat_eq, nat_lt, Bool, true, false, not, cond, List, [], ◌∷◌, ◌++◌, Option, Some, None, slice_get, if◌then◌else◌, sym, refl, ap, ◌∙◌, subst, inl, inr, arith}
use Rattle.std.specs.Prelude.{slice_index, slice_index_or}
use Rattle.cas_asm.specs.declared.image.Image.{Image}
use Rattle.cas_asm.specs.declared.ask.Ask.{Ask}
use Rattle.cas_asm.specs.declared.ask.Ask.TheVariants as ask
use Rattle.cas_asm.specs.declared.ask.BadWhy.TheVariants.{ConstWrite}
use Rattle.cas_asm.specs.declared.ask.Spot.{Spot}
use Rattle.cas_asm.specs.declared.ask.Spot.TheVariants.{Shared}
use Rattle.cas_asm.specs.declared.flags.Flags.{Flags}
use Rattle.cas_asm.specs.declared.cond.Cond.TheVariants.{Ns, Le}
use Rattle.cas_asm.specs.declared.instr.Instr.{Instr}
use Rattle.cas_asm.specs.declared.instr.Instr.TheVariants as instr
use Rattle.cas_asm.specs.declared.instr.Value.TheVariants as value
use Rattle.cas_asm.specs.declared.instr.Target.TheVariants as target
use Rattle.cas_asm.specs.State.{State}
use Rattle.cas_base.specs.Word.{word_add, word_sub}
use Rattle.cas_asm.specs.Flags.{sub_flags}
use Rattle.cas_asm.specs.Flags as flag
use Rattle.cas_asm.specs.After.{address, read_at}
use Rattle.cas_asm.specs.Links.{in_image}
use Rattle.cas_asm.specs.Effect.{effect_of}
use Rattle.cas_asm.specs.Ask.{ask_of, ask_instr, ask_at, ask_spot, ask_locked, ask_stored, stepped, stepped_by, stack_set, word_at, spot_of}
use Rattle.cas_atomic.specs.Leftover.{Leftover, one_less, after_decrement, after_compare, less_or_equal}
use Rattle.cas_atomic.specs.Buffer.{Store, store, view, put}
use Rattle.cas_atomic.specs.Buffered.{Point, Outside, Inside, End, Running, IsDone, OutOfFuel, IsFull, HasFailed, OutOfOuts, if_zero}
use Rattle.cas_atomic.specs.Cells.{under, values}
use Rattle.cas_runs.specs.Label.{RunLabel, Lock, Unlock}
use Rattle.cas_atomic.specs.Buffered as tso
use Rattle.cas_atomic.specs.Object as object
use Rattle.cas_lock.specs.Accepted.{word, accepted_code}
use Rattle.cas_refine.specs.Object.{at_eax, HasObject}
use Rattle.cas_refine.specs.Cpu.{Program, unfixed}
use Rattle.cas_refine.specs.Machine.{moment, Core, core, World, world, Linked, setup, counted, lock_listed, unlock_listed, Takes, WouldAsk, outright, by_load, IsStack, IsBad, IsOut, MayEnd}
use Rattle.cas_refine.specs.Matching.{cpu, IsInside, Matches, lifted}
use Rattle.cas_refine.proofs.Landing.{Taken, Result, finish}

module _ (p : Linked) (s : World) (ats : ℕ → Point Program) (h : Matches p.image s ats) (i : ℕ)
    (live : (s.threads i).ended ≡ Running) where
  abbrev r : Core
  r = s.threads i

  abbrev c : State
  c = r.cpu

  abbrev m : Image
  m = p.image

  module _ (place : ℕ) (f : Leftover) (l : ℕ) (k : Leftover → Program) (here : ats i ≡ Inside place f l k)
      (n : IsInside p.image c place f l k) (t : World) (o : Option RunLabel) where
    count_kept : counted c r.executed ≡ r.executed
    count_kept =
        by (nat_lt c.core.place 8) (subst (λ (j : ℕ). nat_lt j 8 ≡ true) (sym n.place_is) (within_true place n.within))
      where
        by : (b : Bool) → b ≡ true → (if b then r.executed else suc r.executed) ≡ r.executed
        by true e = refl
        by false e = absurd (cc e)

        within_true : (j : ℕ) → j < 8 → nat_lt j 8 ≡ true
        within_true j less = elim (Rattle.cas_refine.proofs.Stacks.lt_or_not j 8)
            [ inl q ↦ q.0 | inr q ↦ let z = q.1 in absurd (omega arith) ]

    spot_is : spot_of m c (address c.core.regs at_eax) ≡ Shared l
    spot_is = n.object.lock_is c.core.flags c.core.place

    asks_for : (j : Instr ℕ) → slice_get m.code c.core.place ≡ Some j → Takes (moment p s i) r (ask_of m c None) t o →
        Takes (moment p s i) r (ask_at m c (effect_of in_image j) None (read_at (effect_of in_image j) c.core.regs)) t o
    asks_for j q x = subst (λ (a : Option (Instr ℕ)). Takes (moment p s i) r (ask_instr m c None a) t o) q x

    -- the processor stays in the lock object, with new flags at a new place
    stays : (x' : Leftover) (place' : ℕ) (g : Flags) (pl : ℕ) (d : State) (mem : ℕ → ℕ) (b : List Store)
        (y : Option RunLabel) → d ≡ cpu c.core.regs g pl c.stack c.bottom → pl ≡ place' → place' < 8 →
        x' ≡ unfixed g c.stack
        → t ≡ world mem s.output (put i (core d b r.ended (counted c r.executed)) s.threads) → o ≡ y
        → Taken p s ats h i 1
        (tso.state_with mem s.output (put i (tso.thread (Inside place' x' l k) b r.ended r.executed)
        (λ j. lifted (ats j) (s.threads j)))) y → Result p s ats h i 1 t o
    stays x' place' g pl d mem b y q at less fl z e step =
        finish p s ats h i 1 mem s.output (Inside place' x' l k)
        (core (cpu c.core.regs g pl c.stack c.bottom) b r.ended r.executed)
        (tso.thread (Inside place' x' l k) b r.ended r.executed) t o y
        (z ∙ ap (λ (a : State). world mem s.output (put i (core a b r.ended (counted c r.executed)) s.threads)) q
        ∙ ap (λ (a : ℕ). world mem s.output (put i (core (cpu c.core.regs g pl c.stack c.bottom) b r.ended a)
        s.threads)) count_kept)
        e refl step (record { place_is = at; within = less; flags_are = fl; object = n.object })
        (record { room = (h.rooms i).room })

    -- the processor returns from the lock object
    returns : slice_get m.code c.core.place ≡ Some instr.Ret →
        slice_get object.accepted.code place ≡ Some object.Return →
        Takes (moment p s i) r (ask_of m c None) t o → Result p s ats h i 1 t o
    returns q oq x =
        let read = slice_index c.stack n.object.slot in
        let own = n.object.slot_is c.core.flags c.core.place in
        let y = subst (λ (a : Spot). Takes (moment p s i) r (ask_spot m c (effect_of in_image instr.Ret) None a) t o)
        own (asks_for instr.Ret q x) in
        let y2 = subst (λ (b : Bool). Takes (moment p s i) r
        (cond b ask.Stack (cond (nat_eq read 4294967295) ask.Finish ask.Plain)) t o) n.object.above y in
        let y3 = subst (λ (b : Bool). Takes (moment p s i) r (cond b ask.Finish ask.Plain) t o) n.object.not_end y2 in
        let d = cpu (record c.core.regs { esp = word_add c.core.regs.esp 4 }) c.core.flags read c.stack c.bottom in
        let is : stepped m c 0 ≡ d = ap (stepped_by m c 0) q
        ∙ ap (λ (a : Spot). cpu (record c.core.regs { esp = word_add c.core.regs.esp 4 }) c.core.flags
        (word_at c a 0) c.stack c.bottom) own in
        let back : k f ≡ Some d = ap k n.flags_are ∙ n.object.back c.core.flags in
        finish p s ats h i 1 s.memory s.output (Outside (Some d)) (core d r.buffer r.ended r.executed)
        (tso.thread (Outside (k f)) r.buffer r.ended r.executed) t o None
        (y3.0 ∙ ap (λ (a : State). world s.memory s.output
        (put i (core a r.buffer r.ended (counted c r.executed)) s.threads)) is
        ∙ ap (λ (a : ℕ). world s.memory s.output (put i (core d r.buffer r.ended a) s.threads)) count_kept)
        y3.1 (ap (λ (x : Program). tso.thread (Outside x) r.buffer r.ended r.executed) back)
        (tso.inside place f l k object.Return _ _ here oq (refl, refl), live, refl) refl (record { room = (h.rooms i).room })

    -- an instruction without an operand in memory
    plainly : (low : Bool) (d : State) → Takes (moment p s i) r (cond low ask.Stack ask.Plain) t o →
        Takes (moment p s i) r ask.Plain t o
    plainly true d x = absurd x
    plainly false d x = x

    decrements : (const : Bool) → Takes (moment p s i) r (cond const (ask.Bad ConstWrite) (ask.LockedDec l)) t o →
        Takes (moment p s i) r (ask.LockedDec l) t o
    decrements true x = absurd x
    decrements false x = x

    stores_one : (low const : Bool) → Takes (moment p s i) r
        (cond low ask.Stack (cond const (ask.Bad ConstWrite) (ask.Store l 1))) t o →
        Takes (moment p s i) r (ask.Store l 1) t o
    stores_one true b x = absurd x
    stores_one false true x = absurd x
    stores_one false false x = x

  module _ (obj : HasObject p.image) where
    code_at : (j : ℕ) → c.core.place ≡ j → j < 8 → slice_get m.code c.core.place ≡ slice_get accepted_code j
    code_at j e less = ap (slice_get m.code) e ∙ obj.each j less

    pub executes : (place : ℕ) (f : Leftover) (l : ℕ) (k : Leftover → Program) → ats i ≡ Inside place f l k →
        IsInside p.image c place f l k → (t : World) (o : Option RunLabel) →
        Takes (moment p s i) r (ask_of m c None) t o → Result p s ats h i 1 t o
    executes zero f l k here n t o x =
        let q = code_at 0 n.place_is n.within in
        let sp = spot_is 0 f l k here n t o in
        let y = decrements 0 f l k here n t o (slice_index_or m.constant l false)
        (subst (λ (a : Spot). Takes (moment p s i) r (ask_locked m a) t o) sp
        (asks_for 0 f l k here n t o (instr.LockDec word) q x)) in
        let v : ℕ = one_less (s.memory l) in
        let is : stepped m c (s.memory l) ≡ cpu c.core.regs
        (flag.decrement_flags c.core.flags.carry (word_sub (s.memory l) 1)) (c.core.place + 1) c.stack c.bottom =
        ap (stepped_by m c (s.memory l)) q
        ∙ ap (λ (a : Spot). cpu c.core.regs (flag.decrement_flags c.core.flags.carry
        (word_sub (word_at c a (s.memory l)) 1)) (c.core.place + 1)
        (stack_set c.stack a (word_sub (word_at c a (s.memory l)) 1)) c.bottom) sp in
        let e = n.place_is in
        let lab = Lock l (values s.memory (under p.edge.cells 0 l)) in
        stays 0 f l k here n t o (after_decrement f v) 1
        (flag.decrement_flags c.core.flags.carry (word_sub (s.memory l) 1)) (c.core.place + 1)
        (stepped m c (s.memory l)) (put l v s.memory) r.buffer (if_zero v lab)
        is (omega arith) (omega arith) (ap (λ (g : Leftover). after_decrement g v) n.flags_are) y.1
        (y.2 ∙ ap (λ (j : ℕ). lock_listed j v lab) e)
        (tso.inside 0 f l k object.LockDec _ _ here refl (y.0, refl, refl), live, refl)
    executes (suc zero) f l k here n t o x =
        let q = code_at 1 n.place_is n.within in
        let y = plainly 1 f l k here n t o (nat_lt c.core.regs.esp c.bottom) c
        (asks_for 1 f l k here n t o (instr.JumpIf Ns 5) q x) in
        let e = n.place_is in
        let fl : f.flags.sign ≡ c.core.flags.sign = ap (λ (g : Leftover). g.flags.sign) n.flags_are in
        stays 1 f l k here n t o f (if f.flags.sign then 2 else 5) c.core.flags
        (cond (not c.core.flags.sign) 5 (c.core.place + 1)) (stepped m c 0) s.memory r.buffer None
        (ap (stepped_by m c 0) q) (by f.flags.sign c.core.flags.sign fl (c.core.place + 1) (omega arith))
        (low f.flags.sign) n.flags_are y.0 y.1
        (tso.inside 1 f l k (object.JumpNotSign 5) _ _ here refl (refl, refl), live, refl)
      where
        by : (a b : Bool) → a ≡ b → (pl : ℕ) → pl ≡ 2 → cond (not b) 5 pl ≡ (if a then 2 else 5)
        by true true g pl z = z
        by true false g pl z = absurd (cc g)
        by false true g pl z = absurd (cc g)
        by false false g pl z = refl

        low : (a : Bool) → (if a then 2 else 5) < 8
        low true = omega arith
        low false = omega arith
    executes (suc (suc zero)) f l k here n t o x =
        let q = code_at 2 n.place_is n.within in
        let sp = spot_is 2 f l k here n t o in
        let y = subst (λ (a : Spot). Takes (moment p s i) r
        (ask_spot m c (effect_of in_image (instr.CmpMem word 0)) None a) t o) sp
        (asks_for 2 f l k here n t o (instr.CmpMem word 0) q x) in
        let v : ℕ = view r.buffer s.memory l in
        let is : stepped m c v ≡ cpu c.core.regs (sub_flags v 0) (c.core.place + 1) c.stack c.bottom =
        ap (stepped_by m c v) q
        ∙ ap (λ (a : Spot). cpu c.core.regs (sub_flags (word_at c a v) 0) (c.core.place + 1) c.stack c.bottom) sp in
        let e = n.place_is in
        stays 2 f l k here n t o (after_compare f v) 3 (sub_flags v 0) (c.core.place + 1) (stepped m c v)
        s.memory r.buffer None
        is (omega arith) (omega arith) (ap (λ (g : Leftover). after_compare g v) n.flags_are) y.1 y.2
        (tso.inside 2 f l k object.CompareZero _ _ here refl (refl, refl), live, refl)
    executes (suc (suc (suc zero))) f l k here n t o x =
        let q = code_at 3 n.place_is n.within in
        let y = plainly 3 f l k here n t o (nat_lt c.core.regs.esp c.bottom) c
        (asks_for 3 f l k here n t o (instr.JumpIf Le 2) q x) in
        let e = n.place_is in
        let fl : less_or_equal f ≡ flag.holds Le c.core.flags = ap less_or_equal n.flags_are in
        stays 3 f l k here n t o f (if less_or_equal f then 2 else 4) c.core.flags
        (cond (flag.holds Le c.core.flags) 2 (c.core.place + 1)) (stepped m c 0) s.memory r.buffer None
        (ap (stepped_by m c 0) q) (by (less_or_equal f) (flag.holds Le c.core.flags) fl (c.core.place + 1)
        (omega arith)) (low (less_or_equal f)) n.flags_are y.0 y.1
        (tso.inside 3 f l k (object.JumpLessEqual 2) _ _ here refl (refl, refl), live, refl)
      where
        by : (a b : Bool) → a ≡ b → (pl : ℕ) → pl ≡ 4 → cond b 2 pl ≡ (if a then 2 else 4)
        by true true g pl z = refl
        by true false g pl z = absurd (cc g)
        by false true g pl z = absurd (cc g)
        by false false g pl z = z

        low : (a : Bool) → (if a then 2 else 4) < 8
        low true = omega arith
        low false = omega arith
    executes (suc (suc (suc (suc zero)))) f l k here n t o x =
        let q = code_at 4 n.place_is n.within in
        let y = plainly 4 f l k here n t o (nat_lt c.core.regs.esp c.bottom) c
        (asks_for 4 f l k here n t o (instr.Jmp (target.Label 0)) q x) in
        stays 4 f l k here n t o f 0 c.core.flags 0 (stepped m c 0) s.memory r.buffer None
        (ap (stepped_by m c 0) q) refl (omega arith) n.flags_are y.0 y.1
        (tso.inside 4 f l k (object.Jump 0) _ _ here refl (refl, refl), live, refl)
    executes (suc (suc (suc (suc (suc zero))))) f l k here n t o x =
        returns 5 f l k here n t o (code_at 5 n.place_is n.within) refl x
    executes (suc (suc (suc (suc (suc (suc zero)))))) f l k here n t o x =
        let q = code_at 6 n.place_is n.within in
        let sp = spot_is 6 f l k here n t o in
        let z = asks_for 6 f l k here n t o (instr.Store word (value.Num 1)) q x in
        let y = stores_one 6 f l k here n t o (nat_lt c.core.regs.esp c.bottom) (slice_index_or m.constant l false)
        (subst (λ (a : Spot). Takes (moment p s i) r (cond (nat_lt c.core.regs.esp c.bottom) ask.Stack
        (ask_stored m a 1)) t o) sp z) in
        let is : stepped m c 0 ≡ cpu c.core.regs c.core.flags (c.core.place + 1) c.stack c.bottom =
        ap (stepped_by m c 0) q
        ∙ ap (λ (a : Spot). cpu c.core.regs c.core.flags (c.core.place + 1) (stack_set c.stack a 1) c.bottom) sp in
        let e = n.place_is in
        let lab = Unlock l (values (view r.buffer s.memory) (under p.edge.cells 0 l)) in
        stays 6 f l k here n t o f 7 c.core.flags (c.core.place + 1) (stepped m c 0) s.memory
        (r.buffer ++ store l 1 ∷ []) (Some lab)
        is (omega arith) (omega arith) n.flags_are y.0 (y.1 ∙ ap (λ (j : ℕ). unlock_listed j lab) e)
        (tso.inside 6 f l k (object.StoreWord 1) _ _ here refl (refl, refl), live, refl)
    executes (suc (suc (suc (suc (suc (suc (suc zero))))))) f l k here n t o x =
        returns 7 f l k here n t o (code_at 7 n.place_is n.within) refl x
    executes (suc (suc (suc (suc (suc (suc (suc (suc j)))))))) f l k here n t o x = let z =
        n.within in absurd (omega arith)

    -- what each instruction of the lock object asks for
    abbrev asked : ℕ → ℕ → Ask
    asked l zero = ask.LockedDec l
    asked l (suc zero) = ask.Plain
    asked l (suc (suc zero)) = ask.Load l
    asked l (suc (suc (suc zero))) = ask.Plain
    asked l (suc (suc (suc (suc zero)))) = ask.Plain
    asked l (suc (suc (suc (suc (suc zero))))) = ask.Plain
    asked l (suc (suc (suc (suc (suc (suc zero)))))) = ask.Store l 1
    asked l (suc (suc (suc (suc (suc (suc (suc n))))))) = ask.Plain

    asks_plain : (j : Instr ℕ) → (loaded : Option ℕ) → slice_get m.code c.core.place ≡ Some j →
        ask_at m c (effect_of in_image j) loaded (read_at (effect_of in_image j) c.core.regs) ≡ cond
        (nat_lt c.core.regs.esp c.bottom) ask.Stack ask.Plain → nat_lt c.core.regs.esp c.bottom ≡ false →
        ask_of m c loaded ≡ ask.Plain
    asks_plain j loaded q e low = ap (ask_instr m c loaded) q ∙ e ∙ ap (λ (b : Bool). cond b ask.Stack ask.Plain) low

    asks_return : (place : ℕ) (f : Leftover) (l : ℕ) (k : Leftover → Program) → IsInside p.image c place f l k →
        slice_get m.code c.core.place ≡ Some instr.Ret → ask_of m c None ≡ ask.Plain
    asks_return place f l k n q =
        let read = slice_index c.stack n.object.slot in
        ap (ask_instr m c None) q ∙ ap (ask_spot m c (effect_of in_image instr.Ret) None)
        (n.object.slot_is c.core.flags c.core.place)
        ∙ ap (λ (b : Bool). cond b ask.Stack (cond (nat_eq read 4294967295) ask.Finish ask.Plain)) n.object.above
        ∙ ap (λ (b : Bool). cond b ask.Finish ask.Plain) n.object.not_end

    asks_it : (place : ℕ) (f : Leftover) (l : ℕ) (k : Leftover → Program) → IsInside p.image c place f l k →
        ask_of m c None ≡ asked l place
    asks_it zero f l k n =
        ap (ask_instr m c None) (code_at 0 n.place_is n.within)
        ∙ ap (ask_locked m) (n.object.lock_is c.core.flags c.core.place)
        ∙ ap (λ (b : Bool). cond b (ask.Bad ConstWrite) (ask.LockedDec l)) n.object.changing
    asks_it (suc zero) f l k n = asks_plain (instr.JumpIf Ns 5) None (code_at 1 n.place_is n.within)
        refl n.object.in_stack
    asks_it (suc (suc zero)) f l k n = ap (ask_instr m c None) (code_at 2 n.place_is n.within)
        ∙ ap (ask_spot m c (effect_of in_image (instr.CmpMem word 0)) None) (n.object.lock_is c.core.flags c.core.place)
    asks_it (suc (suc (suc zero))) f l k n = asks_plain (instr.JumpIf Le 2) None (code_at 3 n.place_is n.within)
        refl n.object.in_stack
    asks_it (suc (suc (suc (suc zero)))) f l k n = asks_plain (instr.Jmp (target.Label 0)) None
        (code_at 4 n.place_is n.within) refl n.object.in_stack
    asks_it (suc (suc (suc (suc (suc zero))))) f l k n = asks_return 5 f l k n (code_at 5 n.place_is n.within)
    asks_it (suc (suc (suc (suc (suc (suc zero)))))) f l k n =
        ap (ask_instr m c None) (code_at 6 n.place_is n.within)
        ∙ ap (λ (b : Bool). cond b ask.Stack (ask_stored m (spot_of m c (address c.core.regs at_eax)) 1))
        n.object.in_stack
        ∙ ap (λ (a : Spot). ask_stored m a 1) (n.object.lock_is c.core.flags c.core.place)
        ∙ ap (λ (b : Bool). cond b (ask.Bad ConstWrite) (ask.Store l 1)) n.object.changing
    asks_it (suc (suc (suc (suc (suc (suc (suc zero))))))) f l k n =
        asks_return 7 f l k n (code_at 7 n.place_is n.within)
    asks_it (suc (suc (suc (suc (suc (suc (suc (suc j)))))))) f l k n = let z = n.within in absurd (omega arith)

    -- a word that is loaded in the lock object ends nothing
    loads_on : (place : ℕ) (f : Leftover) (l : ℕ) (k : Leftover → Program) → IsInside p.image c place f l k →
        (j v : ℕ) → asked l place ≡ ask.Load j → ask_of m c (Some v) ≡ ask.Plain
    loads_on zero f l k n j v e = absurd (cc e)
    loads_on (suc zero) f l k n j v e = absurd (cc e)
    loads_on (suc (suc zero)) f l k n j v e =
        ap (ask_instr m c (Some v)) (code_at 2 n.place_is n.within)
        ∙ ap (ask_spot m c (effect_of in_image (instr.CmpMem word 0)) (Some v))
        (n.object.lock_is c.core.flags c.core.place)
        ∙ ap (λ (b : Bool). cond b ask.Stack ask.Plain) n.object.in_stack
    loads_on (suc (suc (suc zero))) f l k n j v e = absurd (cc e)
    loads_on (suc (suc (suc (suc zero)))) f l k n j v e = absurd (cc e)
    loads_on (suc (suc (suc (suc (suc zero))))) f l k n j v e = absurd (cc e)
    loads_on (suc (suc (suc (suc (suc (suc zero)))))) f l k n j v e = absurd (cc e)
    loads_on (suc (suc (suc (suc (suc (suc (suc i))))))) f l k n j v e = absurd (cc e)

    asked_on : (l place : ℕ) → (IsStack (asked l place) → ⊥) × (IsBad (asked l place) → ⊥) × (IsOut (asked l place) → ⊥)
    asked_on l zero = (λ h. h, λ h. h, λ h. h)
    asked_on l (suc zero) = (λ h. h, λ h. h, λ h. h)
    asked_on l (suc (suc zero)) = (λ h. h, λ h. h, λ h. h)
    asked_on l (suc (suc (suc zero))) = (λ h. h, λ h. h, λ h. h)
    asked_on l (suc (suc (suc (suc zero)))) = (λ h. h, λ h. h, λ h. h)
    asked_on l (suc (suc (suc (suc (suc zero))))) = (λ h. h, λ h. h, λ h. h)
    asked_on l (suc (suc (suc (suc (suc (suc zero)))))) = (λ h. h, λ h. h, λ h. h)
    asked_on l (suc (suc (suc (suc (suc (suc (suc n))))))) = (λ h. h, λ h. h, λ h. h)

    never : (place : ℕ) (f : Leftover) (l : ℕ) (k : Leftover → Program) → IsInside p.image c place f l k →
        (P : Ask → Type 0) → (P (asked l place) → ⊥) → (P ask.Plain → ⊥) → WouldAsk m s.memory r P → ⊥
    never place f l k n P no_ fine (outright a e h) = no_ (subst P (sym e ∙ asks_it place f l k n) h)
    never place f l k n P no_ fine (by_load j a e g h) =
        fine (subst P (sym g ∙ loads_on place f l k n j (view r.buffer s.memory j) (sym (asks_it place f l k n) ∙ e)) h)

    -- in the lock object a thread may run out of fuel alone
    pub ends : (place : ℕ) (f : Leftover) (l : ℕ) (k : Leftover → Program) → ats i ≡ Inside place f l k →
        IsInside p.image c place f l k → (why : End) → MayEnd p s r why →
        tso.MayEnd (setup p) s.memory (lifted (ats i) r) why
    ends place f l k here n Running e = e
    ends place f l k here n IsDone e = e
    ends place f l k here n OutOfFuel e = tt
    ends place f l k here n IsFull e = absurd (never place f l k n IsStack (asked_on l place).0 (λ h. h) e)
    ends place f l k here n HasFailed e = absurd (never place f l k n IsBad (asked_on l place).1 (λ h. h) e)
    ends place f l k here n OutOfOuts e =
        absurd ((asked_on l place).2 (subst IsOut (sym e.1 ∙ asks_it place f l k n) e.2))
