-- What sinks take, put after put.
use Rattle.std.proofs.Common.{◌≡◌, ℕ, ◌+◌, zero, suc, List, [], ◌∷◌, ◌++◌, length, take, Some, None, refl, ap, sym, ◌∙◌, subst, append_assoc, append-nil}
use Rattle.std.proofs.Math.Seq.{take-append-add, take-length}
use Rattle.cas_outside.specs.Sink.{TakesAll, TakesPrefix}
use Rattle.std.specs.List.{concat}
use Rattle.cas_top.specs.Answer.{Taken}

-- a first part of a text is a first part of a longer one
pub prefix_of_longer : (k : ℕ) (xs ys : List ℕ) → (j : ℕ) × (take j (xs ++ ys) ≡ take k xs)
prefix_of_longer zero xs ys = (0, refl)
prefix_of_longer (suc k) [] ys = (0, refl)
prefix_of_longer (suc k) (x ∷ xs) ys = let h = prefix_of_longer k xs ys in (suc h.0, ap (λ t. x ∷ t) h.1)

pub takes_nothing : (old new : Taken) (text : List ℕ) → new ≡ old → TakesPrefix old text new
takes_nothing None new text h = h
takes_nothing (Some bytes) new text h = (0, h ∙ ap (λ t. Some t) (sym (append-nil bytes)))

-- nothing is all of no text
pub takes_none : (now : Taken) → TakesAll now [] now
takes_none None = refl
takes_none (Some bytes) = ap (λ t. Some t) (sym (append-nil bytes))

pub takes_prefix : (old new : Taken) (text : List ℕ) → TakesAll old text new → TakesPrefix old text new
takes_prefix None new text h = h
takes_prefix (Some bytes) new text h = (length text, h ∙ ap (λ t. Some (bytes ++ t)) (sym (take-length text)))

-- a first part of the front is a first part of the whole
pub takes_prefix_of_longer : (old new : Taken) (front text : List ℕ) → TakesPrefix old front new →
    TakesPrefix old (front ++ text) new
takes_prefix_of_longer None new front text h = h
takes_prefix_of_longer (Some bytes) new front text h =
    let p = prefix_of_longer h.0 front text in (p.0, h.1 ∙ ap (λ t. Some (bytes ++ t)) (sym p.1))

-- what is put after the front was put is put after it
pub takes_all_after : (old mid new : Taken) (front text : List ℕ) → TakesAll old front mid → TakesAll mid text new →
    TakesAll old (front ++ text) new
takes_all_after None mid new front text h k = let P : Taken → Type 0 = λ m. TakesAll m text new in subst P h k
takes_all_after (Some bytes) mid new front text h k =
    let P : Taken → Type 0 = λ m. TakesAll m text new in subst P h k ∙ ap (λ t. Some t) (append_assoc bytes front text)

pub takes_prefix_after : (old mid new : Taken) (front text : List ℕ) → TakesAll old front mid →
    TakesPrefix mid text new → TakesPrefix old (front ++ text) new
takes_prefix_after None mid new front text h k = let P : Taken → Type 0 = λ m. TakesPrefix m text new in subst P h k
takes_prefix_after (Some bytes) mid new front text h k =
    let P : Taken → Type 0 = λ m. TakesPrefix m text new in
    let p = subst P h k in (
      length front + p.0,
      p.1 ∙ ap (λ t. Some t) (append_assoc bytes front (take p.0 text))
          ∙ ap (λ t. Some (bytes ++ t)) (sym (take-append-add front text p.0)),
    )

-- putting the rest from here on ends as putting the whole from the start on
pub record GoesOn (old : Taken) (whole : List ℕ) (now : Taken) (rest : List ℕ) : Type 0 where
  pub all : (new : Taken) → TakesAll now rest new → TakesAll old whole new
  pub part : (new : Taken) → TakesPrefix now rest new → TakesPrefix old whole new

pub goes_on_start : (old : Taken) (whole : List ℕ) → GoesOn old whole old whole
goes_on_start old whole = record { all = λ new h. h; part = λ new h. h }

-- one line was put
pub goes_on_line : (old now next : Taken) (whole line : List ℕ) (rest : List (List ℕ)) →
    GoesOn old whole now (concat (line ∷ rest)) → TakesAll now line next → GoesOn old whole next (concat rest)
goes_on_line old now next whole line rest h put = record {
  all = λ new k. h.all new (takes_all_after now next new line (concat rest) put k);
  part = λ new k. h.part new (takes_prefix_after now next new line (concat rest) put k);
}

-- putting a line failed
pub goes_on_cut : (old now next : Taken) (whole line : List ℕ) (rest : List (List ℕ)) →
    GoesOn old whole now (concat (line ∷ rest)) → TakesPrefix now line next → TakesPrefix old whole next
goes_on_cut old now next whole line rest h put = h.part next (takes_prefix_of_longer now next line (concat rest) put)

-- there was no memory for putting a line
pub goes_on_kept : (old now next : Taken) (whole rest : List ℕ) → GoesOn old whole now rest → next ≡ now →
    TakesPrefix old whole next
goes_on_kept old now next whole rest h put = h.part next (takes_nothing now next rest put)

-- all was put
pub goes_on_end : (old now : Taken) (whole : List ℕ) → GoesOn old whole now [] → TakesAll old whole now
goes_on_end old now whole h = h.all now (takes_none now)

-- the first of the lines that are left was put
pub next_line : (old now next : Taken) (whole bytes line : List ℕ) (rest after : List (List ℕ)) →
    GoesOn old whole now (concat rest) → rest ≡ line ∷ after → bytes ≡ line → TakesAll now bytes next →
    GoesOn old whole next (concat after)
next_line old now next whole bytes line rest after h cons same put =
    let P : List (List ℕ) → Type 0 = λ ls. GoesOn old whole now (concat ls) in
    let Q : List ℕ → Type 0 = λ t. TakesAll now t next in
    goes_on_line old now next whole line after (subst P cons h) (subst Q same put)

-- putting it failed
pub cut_line : (old now next : Taken) (whole bytes line : List ℕ) (rest after : List (List ℕ)) →
    GoesOn old whole now (concat rest) → rest ≡ line ∷ after → bytes ≡ line → TakesPrefix now bytes next →
    TakesPrefix old whole next
cut_line old now next whole bytes line rest after h cons same put =
    let P : List (List ℕ) → Type 0 = λ ls. GoesOn old whole now (concat ls) in
    let Q : List ℕ → Type 0 = λ t. TakesPrefix now t next in
    goes_on_cut old now next whole line after (subst P cons h) (subst Q same put)
