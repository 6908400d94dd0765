-- Blocks that are put together.
use Rattle.std.proofs.Common.{ℕ, ◌+◌, ◌≤◌, List, [], ◌∷◌, ◌++◌, ◌⊎◌, inl, inr, ⊎_elim, arith}
use Rattle.cas_runs.specs.Outside.{IsAmong, first, later}
use Rattle.cas_runs.specs.Machine.{Block, Footprint, and_step, nothing}
use Rattle.cas_runs.specs.Refines.{Within}
use Rattle.cas_runs.specs.Forms.{FootIn}
use Rattle.cas_runs.proofs.Refining.{among_front}

-- two blocks as one
abbrev pub plus : Block → Block → Block
plus a b = record { price = a.price + b.price; reads = a.reads ++ b.reads; writes = a.writes ++ b.writes }

pub among_back : (w : ℕ) (xs ys : List ℕ) → IsAmong w ys → IsAmong w (xs ++ ys)
among_back w [] ys h = h
among_back w (x ∷ xs) ys h = later (among_back w xs ys h)

pub among_either : (w : ℕ) (xs ys : List ℕ) → IsAmong w (xs ++ ys) → IsAmong w xs ⊎ IsAmong w ys
among_either w [] ys h = inr h
among_either w (x ∷ xs) ys first = inl first
among_either w (x ∷ xs) ys (later h) = ⊎_elim (λ a. inl (later a)) inr (among_either w xs ys h)

module _ (a b c d : Block) (h : Within a c) (k : Within b d) where
  both_writes : (w : ℕ) → IsAmong w (a.writes ++ b.writes) → IsAmong w (c.writes ++ d.writes)
  both_writes w m = ⊎_elim (λ x. among_front w c.writes d.writes (h.writes w x))
      (λ x. among_back w c.writes d.writes (k.writes w x)) (among_either w a.writes b.writes m)

  front_reads : (w : ℕ) → IsAmong w c.reads ⊎ IsAmong w c.writes → IsAmong w (c.reads ++ d.reads)
      ⊎ IsAmong w (c.writes ++ d.writes)
  front_reads w e = ⊎_elim (λ x. inl (among_front w c.reads d.reads x)) (λ x. inr (among_front w c.writes d.writes x)) e

  back_reads : (w : ℕ) → IsAmong w d.reads ⊎ IsAmong w d.writes → IsAmong w (c.reads ++ d.reads)
      ⊎ IsAmong w (c.writes ++ d.writes)
  back_reads w e = ⊎_elim (λ x. inl (among_back w c.reads d.reads x)) (λ x. inr (among_back w c.writes d.writes x)) e

  pub plus_within : Within (plus a b) (plus c d)
  plus_within = record {
    price = omega (arith, h.price, k.price);
    writes = both_writes;
    reads = λ w m. ⊎_elim (λ x. front_reads w (h.reads w x)) (λ x. back_reads w (k.reads w x))
        (among_either w a.reads b.reads m);
  }

-- a step more on both sides
pub step_within : (b c : Block) (p q : ℕ) (f g : Footprint) → Within b c → p ≤ q → FootIn f g →
    Within (and_step b p f) (and_step c q g)
step_within b c p q f g h n k = plus_within b (record { price = p; reads = f.reads; writes = f.writes }) c
    (record { price = q; reads = g.reads; writes = g.writes }) h
    (record { price = n; writes = k.writes; reads = k.reads })

among_left : (w : ℕ) (xs ys zs : List ℕ) → IsAmong w ((xs ++ ys) ++ zs) → IsAmong w (xs ++ (ys ++ zs))
among_left w xs ys zs m =
    ⊎_elim (λ h. ⊎_elim (λ x. among_front w xs (ys ++ zs) x) (λ y. among_back w xs (ys ++ zs) (among_front w ys zs y))
    (among_either w xs ys h)) (λ z. among_back w xs (ys ++ zs) (among_back w ys zs z)) (among_either w (xs ++ ys) zs m)

among_right : (w : ℕ) (xs ys zs : List ℕ) → IsAmong w (xs ++ (ys ++ zs)) → IsAmong w ((xs ++ ys) ++ zs)
among_right w xs ys zs m = ⊎_elim (λ x. among_front w (xs ++ ys) zs (among_front w xs ys x))
    (λ h. ⊎_elim (λ y. among_front w (xs ++ ys) zs (among_back w xs ys y)) (λ z. among_back w (xs ++ ys) zs z)
    (among_either w ys zs h)) (among_either w xs (ys ++ zs) m)

-- and the step may stand in either
pub step_inside : (a b : Block) (p : ℕ) (f : Footprint) → Within (and_step (plus a b) p f) (plus a (and_step b p f))
step_inside a b p f =
    record {
      price = omega arith;
      writes = λ w m. among_left w a.writes b.writes f.writes m;
      reads = λ w m. inl
          (among_left w a.reads b.reads f.reads m);
    }

pub step_outside : (a b : Block) (p : ℕ) (f : Footprint) → Within (plus a (and_step b p f)) (and_step (plus a b) p f)
step_outside a b p f =
    record {
      price = omega arith;
      writes = λ w m. among_right w a.writes b.writes f.writes m;
      reads = λ w m. inl
          (among_right w a.reads b.reads f.reads m);
    }

pub plus_nothing : (a : Block) → Within a (plus a nothing)
plus_nothing a =
    record {
      price = omega arith;
      writes = λ w m. among_front w a.writes [] m;
      reads = λ w m. inl
          (among_front w a.reads [] m);
    }

pub nothing_plus : (a : Block) → Within (plus nothing a) a
nothing_plus a = record { price = omega arith; writes = λ w m. m; reads = λ w m. inl m }

pub plus_front : (a : Block) → Within a (plus nothing a)
plus_front a = record { price = omega arith; writes = λ w m. m; reads = λ w m. inl m }

pub nothing_within : (a : Block) → Within nothing a
nothing_within a = record { price = omega arith; writes = λ w m. absurd (none m); reads = λ w m. absurd (none m) }
  where
    none : {w : ℕ} → IsAmong w [] → ⊥
    none h = elim h [ ]

pub plus_of_nothing : (a : Block) → Within (plus a nothing) a
plus_of_nothing a =
    record {
      price = omega arith;
      writes = λ w m. ⊎_elim (λ x. x) (λ x. absurd (none x))
          (among_either w a.writes [] m);
      reads = λ w m. inl
          (⊎_elim (λ x. x) (λ x. absurd (none x)) (among_either w a.reads [] m));
    }
  where
    none : {w : ℕ} → IsAmong w [] → ⊥
    none h = elim h [ ]
