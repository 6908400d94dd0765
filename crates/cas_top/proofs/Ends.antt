-- How the work of a command ends, from how its parts ended.
use Rattle.std.proofs.Common.{◌≡◌, ◌<◌, ◌⊎◌, ℕ, List, [], ◌∷◌, ◌++◌, map, Option, Some, None, Result, Ok, Err, refl, ◌∙◌, inl, inr, subst, codes, arith}
use Rattle.cas_command.specs.Words.{Run, Command, Wanted, run, check, source_text}
use Rattle.cas_top.specs.declared.refusal.Refusal.{Refusal}
use Rattle.cas_top.specs.declared.refusal.Refusal.TheVariants as refusal
use Rattle.cas_top.specs.declared.source.Source.{Source}
use Rattle.std.specs.List.{concat}
use Rattle.cas_top.specs.Answer.{Told, Taken, IsRead, AreRead, GrowsBy, IsText, IsRefusal, IsCut, IsPartly, IsUntold, usage, cannot_read, too_long, refused}
use Rattle.cas_top.specs.Plan.{PrintsLines, RefusesRun, AreChecked}
use Rattle.cas_top.specs.Printed.{line_of, ok_line}
use Rattle.cas_outside.specs.Sink.{TakesPrefix}
use Rattle.cas_top.specs.View.{module_line, names_of, texts_of, IsEnd, IsPutLines, IsTold, IsSaid, IsCause, IsShown, AreSources, AreOkLines, Counts}

-- the lines of a module that was read are the text of the command
pub text_of_lines : (told : Told) (r : Run) (source lock : List ℕ) (lines : List (List ℕ)) →
    IsRead told (source_text r.source) source → IsRead told (source_text r.lock) lock →
    PrintsLines source r.thread lines → IsText told (run r) 0 (concat lines)
text_of_lines told r source lock lines first second prints = record {
  texts = source ∷ lock ∷ [];
  read = (first, (second, tt));
  lines = lines;
  plan = (refl, prints);
  whole = refl;
}

-- putting the text of a command ends its work
pub end_of_put : (told : Told) (c : Command) (text : List ℕ) (before after : List (List ℕ)) (old new : Taken)
    (answer : Result (Unit {0}) Refusal) →
    IsText told c 0 text → IsPutLines old text new answer → after ≡ before → IsEnd told c before after old new answer
end_of_put told c text before after old new (Ok done) is_text put same = ((text, is_text, put), same)
end_of_put told c text before after old new (Err refusal.Unwritten) is_text put same = ((0, text, is_text, put), same)
end_of_put told c text before after old new (Err refusal.Memory) is_text put same = (inr (0, text, is_text, put), same)
end_of_put told c text before after old new (Err refusal.Usage) is_text put same = absurd put
end_of_put told c text before after old new (Err (refusal.Unlinked line)) is_text put same = absurd put
end_of_put told c text before after old new (Err (refusal.Unread n)) is_text put same = absurd put
end_of_put told c text before after old new (Err (refusal.TooLong n)) is_text put same = absurd put
end_of_put told c text before after old new (Err (refusal.Faulty n f)) is_text put same = absurd put

-- a module text that is refused
pub refusal_of_text : (told : Told) (r : Run) (source lock line : List ℕ) →
    IsRead told (source_text r.source) source → IsRead told (source_text r.lock) lock → RefusesRun r source line →
    IsRefusal told (run r) 1 line
refusal_of_text told r source lock line first second refuses = record {
  texts = source ∷ lock ∷ [];
  read = (first, (second, tt));
  plan = (refl, refuses);
}

-- both texts were read, the shelf telling the same all along, and the lines were put
pub run_end : (told told' : Told) (r : Run) (w v : Wanted) (source text lock : List ℕ) (lines shown : List (List ℕ))
    (before mid after : List (List ℕ)) (old new : Taken) (answer : Result (Unit {0}) Refusal) →
    w ≡ source_text r.source → v ≡ source_text r.lock → IsRead told w source × mid ≡ before → told' ≡ told →
    IsRead told' v lock × after ≡ mid →
    text ≡ source → PrintsLines text r.thread lines → shown ≡ lines → IsPutLines old (concat shown) new answer →
    IsEnd told (run r) before after old new answer
run_end told told' r w v source text lock lines shown before mid after old new answer at_first at_second first same
    second texts prints whole put =
    let P : Told → Type 0 = λ t. IsRead t v lock in
    let S : Wanted → Type 0 = λ u. IsRead told u source in
    let L : Wanted → Type 0 = λ u. IsRead told u lock in
    let Q : List ℕ → Type 0 = λ t. PrintsLines t r.thread lines in
    let R : List (List ℕ) → Type 0 = λ l. IsPutLines old (concat l) new answer in
    let is_text = text_of_lines told r source lock lines (subst S at_first first.0)
    (subst L at_second (subst P same second.0)) (subst Q texts prints) in
    end_of_put told (run r) (concat lines) before after old new answer is_text (subst R whole put) (second.1 ∙ first.1)

-- why a module text prints no lines ends the work
cause_of_shown : (told : Told) (r : Run) (source lock : List ℕ) (before after : List (List ℕ)) (now : Taken)
    (why : Refusal) →
    IsRead told (source_text r.source) source → IsRead told (source_text r.lock) lock → after ≡ before →
    IsShown r source (Err why) →
    IsCause told (run r) before after now now why
cause_of_shown told r source lock before after now (refusal.Faulty n f) first second same shown =
    (refusal_of_text told r source lock (module_line n.now f) first second shown, same, refl)
cause_of_shown told r source lock before after now refusal.Memory first second same shown = (inl refl, same)
cause_of_shown told r source lock before after now refusal.Usage first second same shown = absurd shown
cause_of_shown told r source lock before after now (refusal.Unlinked line) first second same shown = absurd shown
cause_of_shown told r source lock before after now (refusal.Unread n) first second same shown = absurd shown
cause_of_shown told r source lock before after now (refusal.TooLong n) first second same shown = absurd shown
cause_of_shown told r source lock before after now refusal.Unwritten first second same shown = absurd shown

-- both texts were read, and the first prints no lines
pub run_refused : (told told' : Told) (r : Run) (w v : Wanted) (source text lock : List ℕ)
    (before mid after : List (List ℕ)) (now : Taken) (why : Refusal) →
    w ≡ source_text r.source → v ≡ source_text r.lock → IsRead told w source × mid ≡ before → told' ≡ told →
    IsRead told' v lock × after ≡ mid →
    text ≡ source → IsShown r text (Err why) → IsCause told (run r) before after now now why
run_refused told told' r w v source text lock before mid after now why at_first at_second first same second texts shown
    =
    let P : Told → Type 0 = λ t. IsRead t v lock in
    let S : Wanted → Type 0 = λ u. IsRead told u source in
    let L : Wanted → Type 0 = λ u. IsRead told u lock in
    let Q : List ℕ → Type 0 = λ t. IsShown r t (Err why) in
    cause_of_shown told r source lock before after now why (subst S at_first first.0)
    (subst L at_second (subst P same second.0)) (second.1 ∙ first.1) (subst Q texts shown)

-- why the texts of modules weren't all read ends the work
pub cause_of_sources : (told : Told) (names before after : List (List ℕ)) (now : Taken) (why : Refusal) →
    AreSources told names before after (Err why) → IsCause told (check names) before after now now why
cause_of_sources told names before after now (refusal.Unread n) h = (record { first = h.0; noted = h.1 }, refl)
cause_of_sources told names before after now (refusal.TooLong n) h = (h.0, h.1, refl)
cause_of_sources told names before after now refusal.Memory h = (inl refl, h)
cause_of_sources told names before after now refusal.Usage h = absurd h
cause_of_sources told names before after now (refusal.Unlinked line) h = absurd h
cause_of_sources told names before after now (refusal.Faulty n f) h = absurd h
cause_of_sources told names before after now refusal.Unwritten h = absurd h

-- what is said of sources, of the same sources
pub of_sources : (P : (names texts : List (List ℕ)) → Type 0) (names : List (List ℕ)) (sources slice : List Source) →
    slice ≡ sources → names_of sources ≡ names → P (names_of slice) (texts_of slice) → P names (texts_of sources)
of_sources P names sources slice same named h =
    let Q : List Source → Type 0 = λ s. P (names_of s) (texts_of s) in
    let R : List (List ℕ) → Type 0 = λ ns. P ns (texts_of sources) in
    subst R named (subst Q same h)

-- the texts of modules were read and all are checked, and the lines were put
pub check_end : (told : Told) (names : List (List ℕ)) (sources slice : List Source)
    (lines shown before after : List (List ℕ)) (old new : Taken) (answer : Result (Unit {0}) Refusal) →
    (names_of sources ≡ names) × AreRead told (map source_text names) (texts_of sources) × (after ≡ before) →
    slice ≡ sources →
    AreChecked (texts_of slice) × (lines ≡ map ok_line (names_of slice)) → shown ≡ lines →
    IsPutLines old (concat shown) new answer →
    IsEnd told (check names) before after old new answer
check_end told names sources slice lines shown before after old new answer (named, read, kept) same checked whole put =
    let P : List (List ℕ) → List (List ℕ) → Type 0 = λ ns ts. AreChecked ts × (lines ≡ map ok_line ns) in
    let R : List (List ℕ) → Type 0 = λ l. IsPutLines old (concat l) new answer in
    let good = of_sources P names sources slice same named checked in
    let is_text : IsText told (check names) 0 (concat lines) =
    record { texts = texts_of sources; read = read; lines = lines; plan = (refl, good.0, good.1); whole = refl } in
    end_of_put told (check names) (concat lines) before after old new answer is_text (subst R whole put) kept

-- why the check of modules has no lines ends the work
cause_of_checked : (told : Told) (names texts before after : List (List ℕ)) (now : Taken) (why : Refusal) →
    AreRead told (map source_text names) texts → after ≡ before → AreOkLines names texts (Err why) →
    IsCause told (check names) before after now now why
cause_of_checked told names texts before after now (refusal.Faulty n f) read same h =
    (record { texts = texts; read = read; plan = (refl, h) }, same, refl)
cause_of_checked told names texts before after now refusal.Memory read same h = (inl refl, same)
cause_of_checked told names texts before after now refusal.Usage read same h = absurd h
cause_of_checked told names texts before after now (refusal.Unlinked line) read same h = absurd h
cause_of_checked told names texts before after now (refusal.Unread n) read same h = absurd h
cause_of_checked told names texts before after now (refusal.TooLong n) read same h = absurd h
cause_of_checked told names texts before after now refusal.Unwritten read same h = absurd h

-- the texts of modules were read, and one of them is refused
pub check_refused : (told : Told) (names : List (List ℕ)) (sources slice : List Source) (before after : List (List ℕ))
    (now : Taken) (why : Refusal) →
    (names_of sources ≡ names) × AreRead told (map source_text names) (texts_of sources) × (after ≡ before) →
    slice ≡ sources →
    AreOkLines (names_of slice) (texts_of slice) (Err why) → IsCause told (check names) before after now now why
check_refused told names sources slice before after now why (named, read, kept) same h =
    let P : List (List ℕ) → List (List ℕ) → Type 0 = λ ns ts. AreOkLines ns ts (Err why) in
    cause_of_checked told names (texts_of sources) before after now why read kept
    (of_sources P names sources slice same named h)

-- no name was read
pub grows_by_none : (told : Told) (c : Option Command) (failed : List (List ℕ)) (status : ℕ) →
    GrowsBy told c failed failed status
grows_by_none told None failed status = refl
grows_by_none told (Some c) failed status = inl refl

pub other_status : (status answer : ℕ) → status < 4 ⊎ 4 < status → answer ≡ status → answer ≡ 4 → ⊥
other_status status answer (inl h) e f = omega arith
other_status status answer (inr h) e f = omega arith

pub four_nine : (answer : ℕ) → answer ≡ 9 → answer ≡ 4 → ⊥
four_nine answer e f = omega arith

-- the put of a refusal's line failed, and a first part of the line was taken
pub untold : (status : ℕ) (line : List ℕ) (count now : ℕ) (old new : Taken) (answer : ℕ) →
    status < 4 ⊎ 4 < status → IsTold status line count now old new answer → answer ≡ 4 → (count < now)
    × TakesPrefix old line new
untold status line count now old new answer other (inl h) four = absurd (other_status status answer other h.0 four)
untold status line count now old new answer other (inr (inl h)) four = (h.1, h.2)
untold status line count now old new answer other (inr (inr h)) four = absurd (four_nine answer h.0 four)

-- the usage line failed
pub untold_usage : (told : Told) (before after : List (List ℕ)) (count now : ℕ) (old new : Taken) (answer : ℕ) →
    IsSaid refusal.Usage count now old new answer → answer ≡ 4 → IsUntold told None before after count now old new
untold_usage told before after count now old new answer said four =
    let h = untold 2 _ count now old new answer (inl (omega arith)) said four in
    (h.0, line_of (codes "cascc: usage"), usage, h.1)

-- status 4 after a command: a put of `out` failed, or that of the refusal's line, and then `out` is as before
pub unwritten_command : (told : Told) (c : Command) (before after : List (List ℕ)) (out_old out_new : Taken)
    (puts puts_now : ℕ) (r : Refusal) (count now : ℕ) (old new : Taken) (answer : ℕ) →
    IsCause told c before after out_old out_new r → Counts puts puts_now (Err r) → IsSaid r count now old new answer →
    answer ≡ 4 →
    (puts < puts_now) ⊎ ((out_new ≡ out_old) × (puts_now ≡ puts)
    × IsUntold told (Some c) before after count now old new)
unwritten_command told c before after out_old out_new puts puts_now refusal.Usage count now old new answer cause counts
    said four = absurd cause
unwritten_command told c before after out_old out_new puts puts_now (refusal.Unread name)
    count now old new answer cause counts said four =
    let h = untold 3 _ count now old new answer (inl (omega arith)) said four in
    inr (cause.1, counts, (h.0, line_of (codes "cascc: cannot read " ++ name.now), cannot_read c name.now cause.0, h.1))
unwritten_command told c before after out_old out_new puts puts_now (refusal.TooLong name)
    count now old new answer cause counts said four =
    let h = untold 12 _ count now old new answer (inr (omega arith)) said four in
    inr (cause.2, counts, (h.0, line_of (codes "cascc: too long " ++ name.now), too_long c name.now cause.0, h.1))
unwritten_command told c before after out_old out_new puts puts_now (refusal.Faulty name f)
    count now old new answer cause counts said four =
    let h = untold 1 _ count now old new answer (inl (omega arith)) said four in
    inr (cause.2, counts, (h.0, module_line name.now f, refused c 1 (module_line name.now f) cause.0, h.1))
unwritten_command told c before after out_old out_new puts puts_now (refusal.Unlinked line)
    count now old new answer cause counts said four =
    let h = untold 5 _ count now old new answer (inr (omega arith)) said four in
    inr (cause.2, counts, (h.0, line, refused c 5 line cause.0, h.1))
unwritten_command told c before after out_old out_new puts puts_now refusal.Unwritten count now old new answer cause
    counts said four = inl counts
unwritten_command told c before after out_old out_new puts puts_now refusal.Memory count now old new answer cause counts
    said four = absurd (four_nine answer said.0 four)

-- where the list of failed names grew, `out` and its count are as before
pub unread_or_kept : (told : Told) (c : Command) (before after : List (List ℕ)) (old new : Taken) (puts puts_now : ℕ)
    (r : Refusal) →
    IsCause told c before after old new r → Counts puts puts_now (Err r) → (after ≡ before)
    ⊎ ((new ≡ old) × (puts_now ≡ puts))
unread_or_kept told c before after old new puts puts_now refusal.Usage cause counts = absurd cause
unread_or_kept told c before after old new puts puts_now (refusal.Unread name) cause counts = inr (cause.1, counts)
unread_or_kept told c before after old new puts puts_now (refusal.TooLong name) cause counts = inl cause.1
unread_or_kept told c before after old new puts puts_now (refusal.Faulty name f) cause counts = inl cause.1
unread_or_kept told c before after old new puts puts_now (refusal.Unlinked line) cause counts = inl cause.1
unread_or_kept told c before after old new puts puts_now refusal.Unwritten cause counts = inl cause.1
unread_or_kept told c before after old new puts puts_now refusal.Memory cause counts = inl cause.1

pub not_risen : (puts puts_now : ℕ) → puts_now ≡ puts → puts < puts_now → ⊥
not_risen puts puts_now e h = omega arith

-- whatever refused a command, `out` took a first part of its text
pub cut_of_cause : (told : Told) (c : Command) (before after : List (List ℕ)) (old new : Taken) (r : Refusal) →
    IsCause told c before after old new r → IsCut told (Some c) old new
cut_of_cause told c before after old new refusal.Usage cause = absurd cause
cut_of_cause told c before after old new (refusal.Unread name) cause = inl cause.1
cut_of_cause told c before after old new (refusal.TooLong name) cause = inl cause.2
cut_of_cause told c before after old new (refusal.Faulty name f) cause = inl cause.2
cut_of_cause told c before after old new (refusal.Unlinked line) cause = inl cause.2
cut_of_cause told c before after old new refusal.Unwritten cause = inr cause.0
cut_of_cause told c before after old new refusal.Memory cause = cause.0

-- a put of `out` fails only after it took a first part of the text
pub partly_of_cause : (told : Told) (c : Command) (before after : List (List ℕ)) (old new : Taken) (puts puts_now : ℕ)
    (r : Refusal) →
    IsCause told c before after old new r → Counts puts puts_now (Err r) → puts < puts_now →
    IsPartly told (Some c) old new
partly_of_cause told c before after old new puts puts_now refusal.Usage cause counts risen = absurd cause
partly_of_cause told c before after old new puts puts_now (refusal.Unread name) cause counts risen =
    absurd (not_risen puts puts_now counts risen)
partly_of_cause told c before after old new puts puts_now (refusal.TooLong name) cause counts risen =
    absurd (not_risen puts puts_now counts risen)
partly_of_cause told c before after old new puts puts_now (refusal.Faulty name f) cause counts risen =
    absurd (not_risen puts puts_now counts risen)
partly_of_cause told c before after old new puts puts_now (refusal.Unlinked line) cause counts risen =
    absurd (not_risen puts puts_now counts risen)
partly_of_cause told c before after old new puts puts_now refusal.Unwritten cause counts risen = cause.0
partly_of_cause told c before after old new puts puts_now refusal.Memory cause counts risen =
    absurd (not_risen puts puts_now counts risen)
