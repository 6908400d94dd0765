-- An instruction that loads a shared word isn't the outermost return: the stacks are above the shared words.
use Rattle.std.proofs.Common.{◌≡◌, ℕ, ◌+◌, ◌-◌, ◌*◌, ◌/◌, ◌%◌, ◌<◌, ◌≤◌, nat_lt, nat_le, Bool, true, false, ◌&&◌, ◌==◌, length, Option, Some, None, slice_get, if◌then◌else◌, sym, refl, ap, ◌∙◌, subst, inl, inr, ◌⊎◌, arith, ltb-true}
use Rattle.std.specs.Prelude.{slice_index_or}
use Rattle.cas_base.specs.Word.{word_add}
use Rattle.cas_asm.specs.declared.image.Image.{Image}
use Rattle.cas_asm.specs.declared.ask.Ask.{Ask}
use Rattle.cas_asm.specs.declared.ask.Ask.TheVariants as ask
use Rattle.cas_asm.specs.declared.ask.BadWhy.TheVariants.{Divide, ConstWrite}
use Rattle.cas_asm.specs.declared.ask.Spot.{Spot}
use Rattle.cas_asm.specs.declared.ask.Spot.TheVariants.{Own, Shared, Nowhere}
use Rattle.cas_asm.specs.declared.effect.Effect.{Effect}
use Rattle.cas_asm.specs.declared.instr.Instr.{Instr}
use Rattle.cas_asm.specs.declared.instr.Instr.TheVariants as instr
use Rattle.cas_asm.specs.declared.regs.Write.{Write}
use Rattle.cas_asm.specs.State.{State}
use Rattle.cas_asm.specs.Links.{in_image}
use Rattle.cas_asm.specs.Effect.{effect_of}
use Rattle.cas_asm.specs.After.{after, write_of, read_at, faults, is_locked, is_output, is_return}
use Rattle.cas_asm.specs.Ask.{ask_of, ask_instr, ask_at, ask_read, ask_store, ask_stored, ask_spot, ask_locked, spot_of}
use Rattle.cas_refine.proofs.Stacks.{lt_or_not}

-- `ret`, or an instruction that is no return
return_or_not : (i : Instr ℕ) → (i ≡ instr.Ret) ⊎ (is_return (effect_of in_image i) ≡ false)
return_or_not (instr.Mov k from) = inr refl
return_or_not (instr.Store m from) = inr refl
return_or_not (instr.Extend how k from) = inr refl
return_or_not (instr.Lea k m) = inr refl
return_or_not (instr.Operate what k from) = inr refl
return_or_not (instr.Cmp k from) = inr refl
return_or_not (instr.CmpMem m n) = inr refl
return_or_not (instr.Test k from) = inr refl
return_or_not (instr.Neg k) = inr refl
return_or_not (instr.Not k) = inr refl
return_or_not (instr.Shift how k by) = inr refl
return_or_not instr.Cdq = inr refl
return_or_not (instr.Idiv k) = inr refl
return_or_not (instr.Div k) = inr refl
return_or_not (instr.Push k) = inr refl
return_or_not (instr.Pop k) = inr refl
return_or_not (instr.Jmp t) = inr refl
return_or_not (instr.JumpIf on to) = inr refl
return_or_not (instr.Call f) = inr refl
return_or_not instr.Ret = inl refl
return_or_not instr.Out = inr refl
return_or_not (instr.LockDec m) = inr refl
return_or_not (instr.Set on k) = inr refl

abbrev IsNoFinish : Ask → Type 0
IsNoFinish a = a ≡ ask.Finish → ⊥

choose : (P : Ask → Type 0) (b : Bool) (x y : Ask) → P x → P y → P (if b then x else y)
choose P true x y p q = p
choose P false x y p q = q

module _ (m : Image) (c : State) where
  stored_no : (w : Spot) (v : ℕ) → IsNoFinish (ask_stored m w v)
  stored_no (Own k) v = λ e. absurd (cc e)
  stored_no (Shared k) v = choose IsNoFinish (slice_index_or m.constant k false) (ask.Bad ConstWrite) (ask.Store k v)
      (λ e. absurd (cc e)) (λ e. absurd (cc e))
  stored_no Nowhere v = λ e. absurd (cc e)

  store_no : (e : Effect) (v : ℕ) (w : Option Write) → is_return e ≡ false → IsNoFinish (ask_store m c e v w)
  store_no e v (Some w) r = stored_no (spot_of m c w.at) w.value
  store_no e v None r = subst (λ (b : Bool). IsNoFinish
      (if is_output e then ask.Out c.core.regs.eax else (if b && (v == 4294967295) then ask.Finish else ask.Plain)))
      (sym r)
      (choose IsNoFinish (is_output e) (ask.Out c.core.regs.eax) ask.Plain (λ q. absurd (cc q)) (λ q. absurd (cc q)))

  -- no return finishes nothing
  read_no : (e : Effect) (v : ℕ) → is_return e ≡ false → IsNoFinish (ask_read m c e v)
  read_no e v r =
      let low = nat_lt (after e c.core v).regs.esp c.bottom in
      let rest = ask_store m c e v (write_of e c.core v) in
      choose IsNoFinish (faults e c.core) (ask.Bad Divide) (if low then ask.Stack else rest) (λ q. absurd (cc q))
      (choose IsNoFinish low ask.Stack rest (λ q. absurd (cc q)) (store_no e v (write_of e c.core v) r))

  and_right : (a b : Bool) → (a && b) ≡ true → b ≡ true
  and_right true b e = e
  and_right false b e = absurd (cc e)

  shared_by : (slot place k : ℕ) (t own shared : Bool) →
      (if t then (if own then Own slot else (if shared then Shared place else Nowhere)) else Nowhere) ≡ Shared k →
      shared ≡ true
  shared_by slot place k true true shared e = absurd (cc e)
  shared_by slot place k true false true e = refl
  shared_by slot place k true false false e = absurd (cc e)
  shared_by slot place k false own shared e = absurd (cc e)

  -- a shared word is at a low address
  low_address : (at k : ℕ) → spot_of m c at ≡ Shared k → length m.words ≤ 65536 → at < 270000
  low_address at k e few =
      let words = length m.words in
      let own = nat_le c.bottom at && nat_lt at (c.bottom + 4 * length c.stack) in
      let s = shared_by ((at - c.bottom) / 4) ((at - 4096) / 4) k (at % 4 == 0) own
      (nat_le 4096 at && nat_lt at (4096 + 4 * words)) e in
      let below : at < 4096 + 4 * words = ltb-true at (4096 + 4 * words)
      (and_right (nat_le 4096 at) (nat_lt at (4096 + 4 * words)) s) in
      omega arith

  module _ (few : length m.words ≤ 65536) (high : 268435456 ≤ c.bottom) where
    return_no : (k v : ℕ) → spot_of m c c.core.regs.esp ≡ Shared k →
        IsNoFinish (ask_read m c (effect_of in_image instr.Ret) v)
    return_no k v spot q =
        let esp = c.core.regs.esp in
        let low : esp < 270000 = low_address esp k spot few in
        let up : word_add esp 4 < c.bottom = omega arith in
        let full : nat_lt (word_add esp 4) c.bottom ≡ true =
        elim (lt_or_not (word_add esp 4) c.bottom) [ inl h ↦ h.0 | inr h ↦ let z = h.1 in absurd (omega arith) ] in
        let rest = if (v == 4294967295) then ask.Finish else ask.Plain in
        let stack : (if nat_lt (word_add esp 4) c.bottom then ask.Stack else rest) ≡ ask.Stack =
        ap (λ (b : Bool). if b then ask.Stack else rest) full in
        absurd (cc (stack, q))

    spot_no : (i : Instr ℕ) (at k v : ℕ) (w : Spot) → read_at (effect_of in_image i) c.core.regs ≡ Some at →
        spot_of m c at ≡ w →
        ask_spot m c (effect_of in_image i) None w ≡ ask.Load k →
        IsNoFinish (ask_spot m c (effect_of in_image i) (Some v) w)
    spot_no i at k v (Own j) is spot load q = absurd (cc (load, q))
    spot_no i at k v Nowhere is spot load q = absurd (cc (load, q))
    spot_no i at k v (Shared j) is spot load q = elim (return_or_not i) [
      | inr never ↦ absurd (read_no (effect_of in_image i) v never q)
      | inl ret ↦ by ret is q
    ]
      where
        by : i ≡ instr.Ret → read_at (effect_of in_image i) c.core.regs ≡ Some at →
            ask_read m c (effect_of in_image i) v ≡ ask.Finish → ⊥
        by ret is q =
            let top : Some c.core.regs.esp ≡ Some at =
            subst (λ (j : Instr ℕ). read_at (effect_of in_image j) c.core.regs ≡ Some at) ret is in
            let same : c.core.regs.esp ≡ at = cc top in
            return_no j v (ap (spot_of m c) same ∙ spot)
            (subst (λ (j : Instr ℕ). ask_read m c (effect_of in_image j) v ≡ ask.Finish) ret q)

    at_no : (i : Instr ℕ) (k v : ℕ) (at : Option ℕ) → read_at (effect_of in_image i) c.core.regs ≡ at →
        ask_at m c (effect_of in_image i) None at ≡ ask.Load k →
        IsNoFinish (ask_at m c (effect_of in_image i) (Some v) at)
    at_no i k v None is load q = absurd (cc (load, q))
    at_no i k v (Some at) is load q = by (is_locked (effect_of in_image i)) load q
      where
        by : (b : Bool) →
            (if b then ask_locked m (spot_of m c at) else ask_spot m c (effect_of in_image i) None (spot_of m c at))
            ≡ ask.Load k →
            (if b then ask_locked m (spot_of m c at) else ask_spot m c (effect_of in_image i) (Some v) (spot_of m c at))
            ≡ ask.Finish → ⊥
        by true load q = absurd (cc (load, q))
        by false load q = spot_no i at k v (spot_of m c at) is refl load q

    instr_no : (k v : ℕ) (o : Option (Instr ℕ)) → ask_instr m c None o ≡ ask.Load k →
        IsNoFinish (ask_instr m c (Some v) o)
    instr_no k v None load q = absurd (cc (load, q))
    instr_no k v (Some i) load q = at_no i k v (read_at (effect_of in_image i) c.core.regs) refl load q

    pub load_no_finish : (k v : ℕ) → ask_of m c None ≡ ask.Load k → IsNoFinish (ask_of m c (Some v))
    load_no_finish k v load q = instr_no k v (slice_get m.code c.core.place) load q
