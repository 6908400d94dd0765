use Rattle.std.proofs.Common.{◌≡◌, ◌≤◌, ◌∙◌, ℕ, ◌+◌, ◌-◌, arith, List, ◌++◌, length, take, drop, Option, sym, ap, append_assoc, take-append-drop}
use Rattle.std.proofs.lemmas.List.{length-append, take_rest}
use Rattle.std.proofs.KnownBytes.{Appends-trans, Consumes-trans}
use Rattle.std.specs.Io.KnownBytes.{Appends, Consumes}
use Rattle.cas_outside.specs.Streams.{TakesAtMost}

-- after n bytes more, what was written is still a first part of all the bytes
pub more_written : (old now new : Option (List ℕ)) (bytes written rest : List ℕ) (n : ℕ) → bytes ≡ written ++ rest
    → Appends old now written → Appends now new (take n rest)
    → (x : List ℕ) × (bytes ≡ x ++ take (length rest - n) (drop n rest)) × Appends old new x
more_written old now new bytes written rest n parts before after =
    let whole = ap (λ l. take n rest ++ l) (take_rest rest n) ∙ take-append-drop n rest in
    let moved = append_assoc written (take n rest) (take (length rest - n) (drop n rest))
    ∙ ap (λ l. written ++ l) whole in
    (written ++ take n rest, parts ∙ sym moved, Appends-trans old now new written (take n rest) before after)

-- after n bytes more, the reader gave no more than this
pub gave_more : (old now new : Option (List ℕ)) (text buffer : List ℕ) (n most : ℕ) → Consumes old now text →
    Consumes now new (take n buffer)
    → n ≡ length (take n buffer) → length text + n ≤ most → TakesAtMost old new most
gave_more old now new text buffer n most before after whole few =
    let long : length (text ++ take n buffer) ≡ length text + length (take n buffer) =
    length-append text (take n buffer) in (
      text ++ take n buffer,
      Consumes-trans old now new text (take n buffer) before after,
      omega
          (arith, long, whole, few),
    )
