-- The labels of a run and the number of its quiet steps determine it.
use Rattle.std.proofs.Common.{◌≡◌, ℕ, ◌+◌, List, [], ◌∷◌, ◌++◌, length, refl, sym, ap, ◌∙◌, subst, arith, append_assoc, length-append}
use Rattle.cas_runs.specs.Label.{RunLabel}
use Rattle.cas_runs.specs.Edge.{Edge}
use Rattle.cas_runs.specs.Machine.{Quiet, Machine, StepsTo, Block, begun, onward, Run, starts, quiet, labelled, quiet_steps}
use Rattle.cas_runs.specs.Determined.{Same}
use Rattle.cas_runs.proofs.Refining.{IsQuiet, leads_not_quiet, leads_to_one}

same_front : (xs ys : List RunLabel) (k l : RunLabel) (ls : List RunLabel) → xs ++ k ∷ ls ≡ ys ++ l ∷ ls →
    length xs ≡ length ys → k ≡ l
same_front [] [] k l ls e n = cc e
same_front [] (y ∷ ys) k l ls e n = absurd (omega (arith, n))
same_front (x ∷ xs) [] k l ls e n = absurd (omega (arith, n))
same_front (x ∷ xs) (y ∷ ys) k l ls e n = same_front xs ys k l ls (cc e) (omega (arith, n))

-- the last label is the same, where both lists begin one list
same_label : (all xs ys : List RunLabel) (k l : RunLabel) (ls : List RunLabel) → all ≡ xs ++ k ∷ ls →
    all ≡ ys ++ l ∷ ls → k ≡ l
same_label all xs ys k l ls e f =
    let one : length all ≡ length xs + length (k ∷ ls) = ap length e ∙ length-append xs (k ∷ ls) in
    let two : length all ≡ length ys + length (l ∷ ls) = ap length f ∙ length-append ys (l ∷ ls) in
    same_front xs ys k l ls (sym e ∙ f) (omega (arith, one, two))

module _ {S : Type 0} (edge : Edge) (m : Machine S) where
  abbrev steps : {ls : List RunLabel} {bs : List Block} {b : Block} {x : S} → Run edge m ls bs b x → ℕ
  steps starts = 0
  steps (quiet y r e) = steps r + 1
  steps (labelled l y r e) = steps r + 1

  -- the same run but for its index of labels
  record Alike (ls ks : List RunLabel) (bs cs : List Block) (b c : Block) (x y : S) : Type 0 where
    labels : ls ≡ ks
    blocks : bs ≡ cs
    block : b ≡ c
    state : x ≡ y

  quiet_alike : (ls ks : List RunLabel) (bs cs : List Block) (b c : Block) (x y x' y' : S) → Alike ls ks bs cs b c x y →
      m.act x ≡ Quiet x' → m.act y ≡ Quiet y' → Alike ls ks bs cs (onward m b x') (onward m c y') x' y'
  quiet_alike ls ks bs cs b c x y x' y' a e f =
      let same : x' ≡ y' = let one = ap m.act a.state in cc (e, f, one) in
      record {
        labels = a.labels;
        blocks = a.blocks;
        block = ap (λ v. onward m v x') a.block
            ∙ ap (λ v. onward m c v) same;
        state = same;
      }

  label_alike : (ls ks : List RunLabel) (bs cs : List Block) (b c : Block) (x y x' y' : S) (l k : RunLabel) →
      Alike ls ks bs cs b c x y → l ≡ k → StepsTo edge ls (m.act x) l x' → StepsTo edge ks (m.act y) k y' →
      Alike (l ∷ ls) (k ∷ ks) (b ∷ bs) (c ∷ cs) (begun m x') (begun m y') x' y'
  label_alike ls ks bs cs b c x y x' y' l k a e h i =
      let one : StepsTo edge ks (m.act x) k y' = subst (λ v. StepsTo edge ks (m.act v) k y') (sym a.state) i in
      let two : StepsTo edge ls (m.act x) k y' = subst (λ v. StepsTo edge v (m.act x) k y') (sym a.labels) one in
      let three : StepsTo edge ls (m.act x) l y' = subst (λ v. StepsTo edge ls (m.act x) v y') (sym e) two in
      let same : x' ≡ y' = leads_to_one edge ls (m.act x) l x' y' h three in
      record {
        labels = ap (λ v. l ∷ v) a.labels ∙ ap (λ v. v ∷ ks) e;
        blocks = ap (λ v. b ∷ v) a.blocks
            ∙ ap (λ v. v ∷ cs) a.block;
        block = ap (λ v. begun m v) same;
        state = same;
      }

  clash : (ls ks : List RunLabel) (x y x' y' : S) (l : RunLabel) → x ≡ y → m.act x ≡ Quiet x' →
      StepsTo edge ks (m.act y) l y' → ⊥
  clash ls ks x y x' y' l a e h = leads_not_quiet edge ks (m.act y) l y' h
      (subst (λ v. IsQuiet (m.act v)) a (subst IsQuiet (sym e) tt))

  front : (all xs : List RunLabel) (l : RunLabel) (ls : List RunLabel) → all ≡ xs ++ l ∷ ls → all ≡ (xs ++ l ∷ []) ++ ls
  front all xs l ls e = e ∙ sym (append_assoc xs (l ∷ []) ls)

  -- two runs of as many steps whose labels begin one list
  alike : (all : List RunLabel) {ls : List RunLabel} {bs : List Block} {b : Block} {x : S} (r : Run edge m ls bs b x)
      {ks : List RunLabel} {cs : List Block} {c : Block} {y : S} (k : Run edge m ks cs c y) (xs ys : List RunLabel) →
      all ≡ xs ++ ls → all ≡ ys ++ ks → steps r ≡ steps k → Alike ls ks bs cs b c x y
  alike all starts starts xs ys e f n = record { labels = refl; blocks = refl; block = refl; state = refl }
  alike all starts (quiet y k q) xs ys e f n = absurd (omega (arith, n))
  alike all starts (labelled l y k q) xs ys e f n = absurd (omega (arith, n))
  alike all (quiet y r q) starts xs ys e f n = absurd (omega (arith, n))
  alike all (labelled l y r q) starts xs ys e f n = absurd (omega (arith, n))
  alike all (quiet y r q) (quiet y' k q') xs ys e f n =
      quiet_alike _ _ _ _ _ _ _ _ y y' (alike all r k xs ys e f (omega (arith, n))) q q'
  alike all (labelled {ls = ls} l y r q) (labelled {ls = ks} l' y' k q') xs ys e f n =
      let a = alike all r k (xs ++ l ∷ []) (ys ++ l' ∷ []) (front all xs l ls e) (front all ys l' ks f)
      (omega (arith, n)) in
      let same : l ≡ l' = same_label all xs ys l l' ks (e ∙ ap (λ v. xs ++ l ∷ v) a.labels) f in
      label_alike _ _ _ _ _ _ _ _ y y' l l' a same q q'
  alike all (quiet {ls = ls} y r q) (labelled {ls = ks} l' y' k q') xs ys e f n =
      let a = alike all r k xs (ys ++ l' ∷ []) e (front all ys l' ks f) (omega (arith, n)) in
      absurd (clash ls ks _ _ y y' l' a.state q q')
  alike all (labelled {ls = ls} l y r q) (quiet {ls = ks} y' k q') xs ys e f n =
      let a = alike all r k (xs ++ l ∷ []) ys (front all xs l ls e) f (omega (arith, n)) in
      absurd (clash ks ls _ _ y' y l (sym a.state) q' q)

  count : {ls : List RunLabel} {bs : List Block} {b : Block} {x : S} (r : Run edge m ls bs b x) →
      steps r ≡ quiet_steps r + length ls
  count starts = refl
  count (quiet y r e) = let h = count r in omega (arith, h)
  count (labelled l y r e) = let h = count r in omega (arith, h)

  pub determined : (ls : List RunLabel) (bs cs : List Block) (b c : Block) (x y : S) (r : Run edge m ls bs b x)
      (k : Run edge m ls cs c y) → quiet_steps r ≡ quiet_steps k → Same bs cs b c x y
  determined ls bs cs b c x y r k n =
      let one = count r in
      let two = count k in
      let a = alike ls r k [] [] refl refl (omega (arith, one, two, n)) in
      record { blocks = a.blocks; block = a.block; state = a.state }
