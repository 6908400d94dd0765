-- A step of one processor, and the abstract step that it stands for.
use Rattle.std.proofs.Common.{◌≡◌, ℕ, List, length, Option, Some, None, slice_get, sym, refl, ap, ◌∙◌, subst, inl, inr, ◌⊎◌, arith, length-set}
use Rattle.cas_asm.specs.declared.image.Image.{Image}
use Rattle.cas_asm.specs.declared.ask.Spot.{Spot}
use Rattle.cas_asm.specs.declared.ask.Spot.TheVariants.{Own, Shared, Nowhere}
use Rattle.cas_asm.specs.declared.regs.Write.{Write}
use Rattle.cas_asm.specs.declared.instr.Instr.{Instr}
use Rattle.cas_asm.specs.State.{State}
use Rattle.cas_asm.specs.After.{write_of, read_at}
use Rattle.cas_asm.specs.Links.{in_image}
use Rattle.cas_asm.specs.Effect.{effect_of}
use Rattle.cas_asm.specs.Ask.{stepped, stepped_by, stack_set, stack_after, spot_of, word_read}
use Rattle.cas_atomic.specs.Buffer.{put}
use Rattle.cas_atomic.specs.Buffered.{Point, Outside, Inside}
use Rattle.cas_atomic.specs.Program.{Wrong}
use Rattle.cas_runs.specs.Label.{RunLabel}
use Rattle.cas_atomic.specs.Buffered as tso
use Rattle.cas_atomic.specs.Sound.{one_inside}
use Rattle.cas_atomic.proofs.Basic.{same_or_not, put_here, put_else, each_put}
use Rattle.cas_refine.specs.Cpu.{Program, event_of}
use Rattle.cas_refine.specs.Machine.{Core, World, world, Linked, setup}
use Rattle.cas_refine.specs.Matching.{Stands, HasRoom, Matches, lifted, lift}

module _ (p : Linked) (s : World) (ats : ℕ → Point Program) (h : Matches p.image s ats) (i : ℕ) where
  -- the changed thread of the abstract state is that of the changed processor
  threads_same : (w : Point Program) (r : Core) (t : tso.Thread Program) → t ≡ lifted w r → (j : ℕ) →
      put i t (λ k. lifted (ats k) (s.threads k)) j ≡ lifted (put i w ats j) (put i r s.threads j)
  threads_same w r t e j = elim (same_or_not j i) [
    | inl q ↦ put_here i t (λ k. lifted (ats k) (s.threads k)) j q ∙ e
        ∙ sym (ap (λ (v : Point Program). lifted v (put i r s.threads j)) (put_here i w ats j q)
        ∙ ap (lifted w) (put_here i r s.threads j q))
    | inr d ↦ put_else i t (λ k. lifted (ats k) (s.threads k)) j d
        ∙ sym (ap (λ (v : Point Program). lifted v (put i r s.threads j)) (put_else i w ats j d)
        ∙ ap (lifted (ats j)) (put_else i r s.threads j d))
  ]

  lands : (m : ℕ → ℕ) (o : List (ℕ × ℕ)) (w : Point Program) (r : Core) (t : tso.Thread Program) → t ≡ lifted w r →
      tso.state_with m o (put i t (λ k. lifted (ats k) (s.threads k))) ≡ lift (world m o (put i r s.threads))
      (put i w ats)
  lands m o w r t e = λ x. tso.state_with m o (λ j. threads_same w r t e j x)

  -- an abstract step that may be taken, with so many instructions of the lock object
  abbrev pub Taken : ℕ → tso.State Program → Option RunLabel → Type 0
  Taken n v y = (step : tso.Step (setup p) (lift s ats) i v y) × tso.MayStep step × (one_inside step ≡ n)

  pub record Goes (n : ℕ) (t : World) (o : Option RunLabel) : Type 0 where
    pub at : Point Program
    pub step : tso.Step (setup p) (lift s ats) i (lift t (put i at ats)) o
    pub may : tso.MayStep step
    pub inside : one_inside step ≡ n
    pub matches : Matches p.image t (put i at ats)

  pub record IsWrong : Type 0 where
    pub at : Program
    pub outside : ats i ≡ Outside at
    pub wrong : event_of p.image at ≡ Wrong

  abbrev pub Result : ℕ → World → Option RunLabel → Type 0
  Result n t o = Goes n t o ⊎ IsWrong

  -- an abstract step, and where the processor is then
  pub finish : (n : ℕ) (m : ℕ → ℕ) (out : List (ℕ × ℕ)) (w : Point Program) (r : Core) (t : tso.Thread Program) (z : World)
      (o y : Option RunLabel) → z ≡ world m out (put i r s.threads) → o ≡ y → t ≡ lifted w r
      → Taken n (tso.state_with m out (put i t (λ k. lifted (ats k) (s.threads k)))) y → Stands p.image r w →
      HasRoom r.cpu → Result n z o
  finish n m out w r t z o y q l e step stands room =
      let taken : Taken n (lift (world m out (put i r s.threads)) (put i w ats)) y =
      subst (λ (v : tso.State Program). Taken n v y) (lands m out w r t e) step in
      inl (subst (λ (v : World). Goes n v o) (sym q)
      (subst (λ (k : Option RunLabel). Goes n (world m out (put i r s.threads)) k) (sym l) (record {
        at = w;
        step = taken.0;
        may = taken.1;
        inside = taken.2;
        matches = record {
          stands = λ j. elim (same_or_not j i) [
            | inl same ↦ subst (λ (c : Core). Stands p.image c (put i w ats j)) (sym (put_here i r s.threads j same))
                (subst (λ (v : Point Program). Stands p.image r v) (sym (put_here i w ats j same)) stands)
            | inr d ↦ subst (λ (c : Core). Stands p.image c (put i w ats j)) (sym (put_else i r s.threads j d))
                (subst (λ (v : Point Program). Stands p.image (s.threads j) v) (sym (put_else i w ats j d))
                (h.stands j))
          ];
          rooms = each_put (λ j c. HasRoom c.cpu) i r s.threads room (λ j d. h.rooms j);
        };
      })))

set_length : (xs : List ℕ) (w : Spot) (v : ℕ) → length (stack_set xs w v) ≡ length xs
set_length xs (Own k) v = length-set xs k v
set_length xs (Shared k) v = refl
set_length xs Nowhere v = refl

write_length : (m : Image) (c : State) (w : Option Write) → length (stack_after m c w) ≡ length c.stack
write_length m c None = refl
write_length m c (Some w) = set_length c.stack (spot_of m c w.at) w.value

step_length : (m : Image) (c : State) (v : ℕ) (o : Option (Instr ℕ)) →
    length (stepped_by m c v o).stack ≡ length c.stack
step_length m c v None = refl
step_length m c v (Some instr) =
    let e = effect_of in_image instr in
    write_length m c (write_of e c.core (word_read m c (read_at e c.core.regs) v))

step_bottom : (m : Image) (c : State) (v : ℕ) (o : Option (Instr ℕ)) → (stepped_by m c v o).bottom ≡ c.bottom
step_bottom m c v None = refl
step_bottom m c v (Some instr) = refl

-- a step leaves the stack's place and length
pub room_after : (m : Image) (c : State) (v : ℕ) → HasRoom c → HasRoom (stepped m c v)
room_after m c v h = let a = h.room in let b = step_length m c v (slice_get m.code c.core.place) in
    let d = step_bottom m c v (slice_get m.code c.core.place) in record { room = omega arith }

pub bottom_stays : (m : Image) (c : State) (v : ℕ) → (stepped m c v).bottom ≡ c.bottom
bottom_stays m c v = step_bottom m c v (slice_get m.code c.core.place)
