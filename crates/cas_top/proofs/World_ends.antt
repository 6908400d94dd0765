-- How the work of `world` ends, from how its parts ended.
use Rattle.std.proofs.Common.{◌≡◌, ℕ, List, map, Result, Err, refl, inl, inr, subst}
use Rattle.std.specs.List.{concat}
use Rattle.cas_command.specs.Words.{World, world, source_text}
use Rattle.cas_top.proofs.Ends.{end_of_put, of_sources}
use Rattle.cas_top.specs.Answer.{Told, Taken, AreRead, IsText}
use Rattle.cas_top.specs.View.{names_of, texts_of, AreSources, IsCause, IsEnd, IsPutLines, IsWorldShown}
use Rattle.cas_top.specs.Worlds.{PrintsWorld}
use Rattle.cas_top.specs.declared.refusal.Refusal.{Refusal}
use Rattle.cas_top.specs.declared.refusal.Refusal.TheVariants as refusal
use Rattle.cas_top.specs.declared.source.Source.{Source}

-- why the texts of modules weren't all read ends the work
pub world_unread : (told : Told) (w : World) (before after : List (List ℕ)) (now : Taken) (why : Refusal) →
    AreSources told w.names before after (Err why) → IsCause told (world w) before after now now why
world_unread told w before after now (refusal.Unread n) h = (record { first = h.0; noted = h.1 }, refl)
world_unread told w before after now (refusal.TooLong n) h = (h.0, h.1, refl)
world_unread told w before after now refusal.Memory h = (inl refl, h)
world_unread told w before after now refusal.Usage h = absurd h
world_unread told w before after now (refusal.Unlinked line) h = absurd h
world_unread told w before after now (refusal.Faulty n f) h = absurd h
world_unread told w before after now refusal.Unwritten h = absurd h

-- the texts were read, turns were taken, and the lines were put
pub world_end : (told : Told) (w : World) (sources slice : List Source) (lines shown before after : List (List ℕ))
    (old new : Taken) (answer : Result (Unit {0}) Refusal) →
    (names_of sources ≡ w.names) × AreRead told (map source_text w.names) (texts_of sources) × (after ≡ before) →
    slice ≡ sources →
    PrintsWorld w (texts_of slice) lines → shown ≡ lines → IsPutLines old (concat shown) new answer →
    IsEnd told (world w) before after old new answer
world_end told w sources slice lines shown before after old new answer (named, read, kept) same prints whole put =
    let P : List Source → Type 0 = λ s. PrintsWorld w (texts_of s) lines in
    let R : List (List ℕ) → Type 0 = λ l. IsPutLines old (concat l) new answer in
    let is_text : IsText told (world w) 0 (concat lines) =
    record {
      texts = texts_of sources;
      read = read;
      lines = lines;
      plan = (refl, subst P same prints);
      whole =
          refl;
    } in
    end_of_put told (world w) (concat lines) before after old new answer is_text (subst R whole put) kept

-- why there are no lines ends the work
cause_of_shown : (told : Told) (w : World) (texts before after : List (List ℕ)) (now : Taken) (why : Refusal) →
    AreRead told (map source_text w.names) texts → after ≡ before → IsWorldShown w w.names texts (Err why) →
    IsCause told (world w) before after now now why
cause_of_shown told w texts before after now (refusal.Faulty n f) read same h =
    (record { texts = texts; read = read; plan = inl (refl, h) }, same, refl)
cause_of_shown told w texts before after now (refusal.Unlinked line) read same h =
    (record { texts = texts; read = read; plan = inr (refl, h) }, same, refl)
cause_of_shown told w texts before after now refusal.Memory read same h = (inl refl, same)
cause_of_shown told w texts before after now refusal.Usage read same h = absurd h
cause_of_shown told w texts before after now (refusal.Unread n) read same h = absurd h
cause_of_shown told w texts before after now (refusal.TooLong n) read same h = absurd h
cause_of_shown told w texts before after now refusal.Unwritten read same h = absurd h

-- the texts were read, and they are refused
pub world_refused : (told : Told) (w : World) (sources slice : List Source) (before after : List (List ℕ)) (now : Taken)
    (why : Refusal) →
    (names_of sources ≡ w.names) × AreRead told (map source_text w.names) (texts_of sources) × (after ≡ before) →
    slice ≡ sources →
    IsWorldShown w (names_of slice) (texts_of slice) (Err why) → IsCause told (world w) before after now now why
world_refused told w sources slice before after now why (named, read, kept) same h =
    let P : List (List ℕ) → List (List ℕ) → Type 0 = λ ns ts. IsWorldShown w ns ts (Err why) in
    cause_of_shown told w (texts_of sources) before after now why read kept
    (of_sources P w.names sources slice same named h)
