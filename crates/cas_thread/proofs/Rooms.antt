-- The room that is taken at a call serves for all items that the activation can have to do at once.
use Rattle.std.proofs.Common.{arith, ◌≡◌, ℕ, ◌+◌, ◌*◌, ◌≤◌, Bool, true, false, List, [], ◌∷◌, ◌++◌, length, reverse, Option, Some, None, refl, ap, subst, ◌∙◌}
use Rattle.std.proofs.lemmas.List.{length-reverse, reverse-append}
use Rattle.std.proofs.Math.Logic.{∥∥₁_elim}
use Rattle.std.specs.Coded.{le_prop}
use Rattle.std.specs.Prelude.{slice_get}
use Rattle.cas_base.specs.declared.place.Place.{Place}
use Rattle.cas_step.specs.Evaluate.{either}
use Rattle.cas_step.specs.Continuation as items
use Rattle.cas_step.specs.Continuation.{begin, begun, loop, next, begin_all, begin_part, after_break, after_continue}
use Rattle.cas_thread.specs.Control.{after, after_statement, if_any}
use Rattle.cas_thread.specs.Room.{Fits, HasRoom, IsNextAt, IsNextForm, room_for}
use Rattle.cas_thread.proofs.Reading.{at_this}
use Rattle.cas_thread.specs.Continuations.{IsAt, IsNextRow, IsPart, IsContinuation}
use Rattle.cas_thread.specs.declared.continuation.ContItem.{ContItem}
use Rattle.cas_thread.specs.declared.continuation.ContItem.TheVariants.{Begin, Begun, Loop, Next}
use Rattle.cas_typed.specs.declared.rows.StmtRow.{StmtRow}
use Rattle.cas_typed.specs.declared.rows.StmtRowForm.{StmtRowForm}
use Rattle.cas_typed.specs.declared.rows.StmtRowForm.TheVariants as row
use Rattle.cas_typed.specs.Numbered.{At, IsRow, AreRows, size_of, size_of_option, size_of_list}
use Rattle.cas_typed.specs.Resolved.{TypedStmtTree, skip, assign, call, block, if_, while_, do_, for_, break_, continue_, return_, lock, unlock, print, TypedStmtOption, absent, present, TypedStmtList, no_more, one_more}

pub some_size : (a : TypedStmtTree) → 1 ≤ size_of a
some_size (skip p) = omega arith
some_size (assign p target a) = omega arith
some_size (call p kept g at args) = omega arith
some_size (block p bs) = omega arith
some_size (if_ p c a o) = omega arith
some_size (while_ p c a) = omega arith
some_size (do_ p a c) = omega arith
some_size (for_ p i c u a) = omega arith
some_size (break_ p) = omega arith
some_size (continue_ p) = omega arith
some_size (return_ p a) = omega arith
some_size (lock p g) = omega arith
some_size (unlock p g) = omega arith
some_size (print p a) = omega arith

-- items fit that are put before fitting ones

all_length : (bs : TypedStmtList) (cont : List items.ContItem) →
    length (begin_all bs cont) ≤ size_of_list bs + length cont
all_length no_more cont = omega arith
all_length (one_more a bs) cont = omega (arith, all_length bs cont, some_size a)

pub all_fit : (room : ℕ) (bs : TypedStmtList) (cont : List items.ContItem) → 2 * size_of_list bs + length cont ≤ room →
    Fits room cont → Fits room (begin_all bs cont)
all_fit room no_more cont enough fits = fits
all_fit room (one_more a bs) cont enough fits =
    (omega (arith, all_length bs cont, some_size a), all_fit room bs cont (omega (arith, some_size a)) fits)

part_fits : (room : ℕ) (o : TypedStmtOption) (cont : List items.ContItem) → 2 * size_of_option o + length cont ≤ room →
    Fits room cont → Fits room (begin_part o cont)
part_fits room absent cont enough fits = fits
part_fits room (present a) cont enough fits = (enough, fits)

either_fits : (room : ℕ) (is : Bool) (some others : List items.ContItem) → Fits room some → Fits room others →
    Fits room (either some others is)
either_fits room true some others fit fits = fit
either_fits room false some others fit fits = fits

-- jumps

break_fits : (room : ℕ) (cont : List items.ContItem) → Fits room cont → Fits room (if_any (after_break cont))
break_fits room [] fits = tt
break_fits room (begin a ∷ cont) fits = break_fits room cont fits.1
break_fits room (begun p c a ∷ cont) fits = fits.1
break_fits room (loop p c u a ∷ cont) fits = fits.1
break_fits room (next p u ∷ cont) fits = break_fits room cont fits.1

continue_fits : (room : ℕ) (cont : List items.ContItem) → Fits room cont → Fits room (if_any (after_continue cont))
continue_fits room [] fits = tt
continue_fits room (begin a ∷ cont) fits = continue_fits room cont fits.1
continue_fits room (begun p c a ∷ cont) fits = fits
continue_fits room (loop p c u a ∷ cont) fits = continue_fits room cont fits.1
continue_fits room (next p u ∷ cont) fits = fits

-- steps

statement_fits : (room : ℕ) (is : Bool) (a : TypedStmtTree) (cont : List items.ContItem) →
    2 * size_of a + length cont ≤ room → Fits room cont → Fits room (after_statement is a cont)
statement_fits room is (skip p) cont enough fits = fits
statement_fits room is (assign p target a) cont enough fits = fits
statement_fits room is (call p kept g at args) cont enough fits = fits
statement_fits room is (block p bs) cont enough fits = all_fit room bs cont (omega arith) fits
statement_fits room is (if_ p c a o) cont enough fits =
    either_fits room is (begin a ∷ cont) (begin_part o cont) (omega arith, fits)
    (part_fits room o cont (omega arith) fits)
statement_fits room is (while_ p c a) cont enough fits =
    either_fits room is (begin a ∷ begun p c a ∷ cont) cont (omega arith, (omega arith, fits)) fits
statement_fits room is (do_ p a c) cont enough fits = (omega arith, (omega arith, fits))
statement_fits room is (for_ p i c u a) cont enough fits =
    part_fits room i (loop p c u a ∷ cont) (omega arith) (omega arith, fits)
statement_fits room is (break_ p) cont enough fits = break_fits room cont fits
statement_fits room is (continue_ p) cont enough fits = continue_fits room cont fits
statement_fits room is (return_ p a) cont enough fits = fits
statement_fits room is (lock p g) cont enough fits = fits
statement_fits room is (unlock p g) cont enough fits = fits
statement_fits room is (print p a) cont enough fits = fits

-- Where items fit, those fit that are left after the first.
pub after_fits : (room : ℕ) (is : Bool) (cont : List items.ContItem) → Fits room cont → Fits room (after is cont)
after_fits room is [] fits = tt
after_fits room is (begin a ∷ cont) fits = statement_fits room is a cont fits.0 fits.1
after_fits room is (begun p c a ∷ cont) fits = either_fits room is (begin a ∷ begun p c a ∷ cont) cont
    (omega arith, fits) fits.1
after_fits room is (loop p c u a ∷ cont) fits =
    either_fits room is (begin a ∷ next p u ∷ loop p c u a ∷ cont) cont (omega arith, (omega arith, fits)) fits.1
after_fits room is (next p absent ∷ cont) fits = fits.1
after_fits room is (next p (present a) ∷ cont) fits = statement_fits room is a cont (omega arith) fits.1

-- the room that the code asks for

rows_length : (rows : List StmtRow) (n : ℕ) (bs : TypedStmtList) (is : List ℕ) → AreRows rows n bs is →
    length is ≤ size_of_list bs
rows_length rows n no_more [] h = omega arith
rows_length rows n no_more (i ∷ is) h = absurd h
rows_length rows n (one_more a bs) [] h = absurd h
rows_length rows n (one_more a bs) (i ∷ is) h = omega (arith, rows_length rows (n + size_of a) bs is h.2, some_size a)

pub IsContinuation-length : (rows : List StmtRow) (xs : List ContItem) (cont : List items.ContItem) →
    IsContinuation rows xs cont → length xs ≡ length cont
IsContinuation-length rows [] [] h = refl
IsContinuation-length rows (Begin n ∷ xs) (begin a ∷ cont) h = omega (arith, IsContinuation-length rows xs cont h.1)
IsContinuation-length rows (Begun n ∷ xs) (begun p c a ∷ cont) h = omega (arith, IsContinuation-length rows xs cont h.1)
IsContinuation-length rows (Loop n ∷ xs) (loop p c u a ∷ cont) h = omega (arith, IsContinuation-length rows xs cont h.1)
IsContinuation-length rows (Next n ∷ xs) (next p u ∷ cont) h = omega (arith, IsContinuation-length rows xs cont h.1)
IsContinuation-length rows _ _ h = absurd h

row_room : (rows : List StmtRow) (n : ℕ) (a : TypedStmtTree) (p : Place) (form : StmtRowForm) → IsRow rows n a p form →
    room_for form ≤ 2 * size_of a
row_room rows n (skip q) p row.Skip h = omega arith
row_room rows n (assign q t a) p (row.Assign t' a') h = omega arith
row_room rows n (call q kept g at args) p (row.Call kept' g' at' args') h = omega arith
row_room rows n (block q bs) p (row.Block is) h = omega (arith, rows_length rows (n + 1) bs is h.1)
row_room rows n (if_ q c a o) p (row.If c' i j) h = omega arith
row_room rows n (while_ q c a) p (row.While c' i) h = omega arith
row_room rows n (do_ q a c) p (row.Do i c') h = omega arith
row_room rows n (for_ q i c u a) p (row.For h' c' j k) h = omega arith
row_room rows n (break_ q) p row.Break h = omega arith
row_room rows n (continue_ q) p row.Continue h = omega arith
row_room rows n (return_ q a) p (row.Return a') h = omega arith
row_room rows n (lock q g) p (row.Lock g') h = omega arith
row_room rows n (unlock q g) p (row.Unlock g') h = omega arith
row_room rows n (print q a) p (row.Print a') h = omega arith
row_room rows n _ p _ h = absurd h

at_room : (rows : List StmtRow) (n : ℕ) (a : TypedStmtTree) (r : StmtRow) → IsAt rows n a → slice_get rows n ≡ Some r →
    room_for r.form ≤ 2 * size_of a
at_room rows n a r at found = row_room rows n a r.place r.form (at_this rows n r (IsRow rows n a) found at)

-- the room that is asked for where the first item has been removed

pub begin_asks : (rows : List StmtRow) (room n : ℕ) (xs : List ContItem) → HasRoom rows room (Begin n ∷ xs) →
    (r : StmtRow) → slice_get rows n ≡ Some r → length xs + room_for r.form ≤ room
begin_asks rows room n xs ([], shows, fits) r found = absurd shows
begin_asks rows room n xs (begin a ∷ cont, shows, fits) r found =
    omega (arith, IsContinuation-length rows xs cont shows.1, at_room rows n a r shows.0 found)
begin_asks rows room n xs (_ ∷ cont, shows, fits) r found = absurd shows

pub turn_asks : (rows : List StmtRow) (room n : ℕ) (xs : List ContItem) → HasRoom rows room (Begun n ∷ xs) →
    length xs + 2 ≤ room
turn_asks rows room n xs ([], shows, fits) = absurd shows
turn_asks rows room n xs (begun p c a ∷ cont, shows, fits) =
    omega (arith, IsContinuation-length rows xs cont shows.1, some_size a)
turn_asks rows room n xs (_ ∷ cont, shows, fits) = absurd shows

pub loop_asks : (rows : List StmtRow) (room n : ℕ) (xs : List ContItem) → HasRoom rows room (Loop n ∷ xs) →
    length xs + 3 ≤ room
loop_asks rows room n xs ([], shows, fits) = absurd shows
loop_asks rows room n xs (loop p c u a ∷ cont, shows, fits) =
    omega (arith, IsContinuation-length rows xs cont shows.1, some_size a)
loop_asks rows room n xs (_ ∷ cont, shows, fits) = absurd shows

-- what a `for` does after a turn
part_room : (rows : List StmtRow) (u : TypedStmtOption) (j : Option ℕ) (i : ℕ) (r : StmtRow) → IsPart rows u j →
    j ≡ Some i → slice_get rows i ≡ Some r → room_for r.form ≤ 2 * size_of_option u
part_room rows absent None i r part is found = absurd (cc is)
part_room rows absent (Some k) i r part is found = absurd part
part_room rows (present a) None i r part is found = absurd part
part_room rows (present a) (Some k) i r part is found = let same : k ≡ i =
    cc is in at_room rows i a r (subst (λ m. IsAt rows m a) same part) found

form_room : (rows : List StmtRow) (p q : Place) (u : TypedStmtOption) (form : StmtRowForm) (i : ℕ) (r : StmtRow) →
    IsNextRow rows p u q form → IsNextForm i form → slice_get rows i ≡ Some r → room_for r.form ≤ 2 * size_of_option u
form_room rows p q u (row.For h c j k) i r part is found = part_room rows u j i r part.1 is found
form_room rows p q u _ i r part is found = absurd part

next_room : (rows : List StmtRow) (n : ℕ) (p : Place) (u : TypedStmtOption) (i : ℕ) (r : StmtRow) →
    At rows n (IsNextRow rows p u) → IsNextAt rows n i → slice_get rows i ≡ Some r →
    room_for r.form ≤ 2 * size_of_option u
next_room rows n p u i r at part found = form_room rows p part.0.place u part.0.form i r
    (at_this rows n part.0 (IsNextRow rows p u) part.1 at) part.2 found

pub next_asks : (rows : List StmtRow) (room n : ℕ) (xs : List ContItem) → HasRoom rows room (Next n ∷ xs) →
    (r : StmtRow) (i : ℕ) → IsNextAt rows n i → slice_get rows i ≡ Some r → length xs + room_for r.form ≤ room
next_asks rows room n xs ([], shows, fits) r i at found = absurd shows
next_asks rows room n xs (next p u ∷ cont, shows, fits) r i at found =
    omega (arith, IsContinuation-length rows xs cont shows.1, next_room rows n p u i r shows.0 at found)
next_asks rows room n xs (_ ∷ cont, shows, fits) r i at found = absurd shows

-- the same of vectors, whose last item has been removed

pub HasRoom-popped : (rows : List StmtRow) (room : ℕ) (old new : List ContItem) (item : ContItem) →
    old ≡ new ++ item ∷ [] → HasRoom rows room (reverse old) → HasRoom rows room (item ∷ reverse new)
HasRoom-popped rows room old new item popped has = subst (HasRoom rows room)
    (ap reverse popped ∙ reverse-append new (item ∷ [])) has

-- what is known of all items that these show is known where there are such
with_room : (rows : List StmtRow) (room : ℕ) (old new : List ContItem) (item : ContItem) (n : ℕ) →
    old ≡ new ++ item ∷ [] → ∥ HasRoom rows room (reverse old) ∥₁ →
    (HasRoom rows room (item ∷ reverse new) → length (reverse new) + n ≤ room) → length new + n ≤ room
with_room rows room old new item n popped has asked =
    let all : length (reverse new) + n ≤ room = ∥∥₁_elim has le_prop
    (λ (w : HasRoom rows room (reverse old)). asked (HasRoom-popped rows room old new item popped w)) in
    omega (arith, length-reverse new)

pub begin_asked : (rows : List StmtRow) (room n : ℕ) (old new : List ContItem) → old ≡ new ++ Begin n ∷ [] →
    ∥ HasRoom rows room (reverse old) ∥₁ → (r : StmtRow) → slice_get rows n ≡ Some r →
    length new + room_for r.form ≤ room
begin_asked rows room n old new popped has r found = with_room rows room old new (Begin n) (room_for r.form) popped has
    (λ w. begin_asks rows room n (reverse new) w r found)

pub turn_asked : (rows : List StmtRow) (room n : ℕ) (old new : List ContItem) → old ≡ new ++ Begun n ∷ [] →
    ∥ HasRoom rows room (reverse old) ∥₁ → length new + 2 ≤ room
turn_asked rows room n old new popped has = with_room rows room old new (Begun n) 2 popped has
    (turn_asks rows room n (reverse new))

pub loop_asked : (rows : List StmtRow) (room n : ℕ) (old new : List ContItem) → old ≡ new ++ Loop n ∷ [] →
    ∥ HasRoom rows room (reverse old) ∥₁ → length new + 3 ≤ room
loop_asked rows room n old new popped has = with_room rows room old new (Loop n) 3 popped has
    (loop_asks rows room n (reverse new))

pub next_asked : (rows : List StmtRow) (room n : ℕ) (old new : List ContItem) → old ≡ new ++ Next n ∷ [] →
    ∥ HasRoom rows room (reverse old) ∥₁ → (r : StmtRow) (i : ℕ) → IsNextAt rows n i → slice_get rows i ≡ Some r →
    length new + room_for r.form ≤ room
next_asked rows room n old new popped has r i at found =
    with_room rows room old new (Next n) (room_for r.form) popped has
    (λ w. next_asks rows room n (reverse new) w r i at found)

-- what a `for` does after a turn, as the first item

next_first : (rows : List StmtRow) (n : ℕ) (xs ys : List ContItem) (is : Bool) →
    ((p : Place) (u : TypedStmtOption) (cont : List items.ContItem) → At rows n (IsNextRow rows p u) →
    IsContinuation rows xs cont → IsContinuation rows ys (after is (next p u ∷ cont))) →
    (cont : List items.ContItem) → IsContinuation rows (Next n ∷ xs) cont → IsContinuation rows ys (after is cont)
next_first rows n xs ys is goes [] shows = absurd shows
next_first rows n xs ys is goes (next p u ∷ cont) shows = goes p u cont shows.0 shows.1
next_first rows n xs ys is goes (_ ∷ cont) shows = absurd shows

pub next_shown : (rows : List StmtRow) (n : ℕ) (old new ys : List ContItem) (is : Bool) → old ≡ new ++ Next n ∷ [] →
    ((p : Place) (u : TypedStmtOption) (cont : List items.ContItem) → At rows n (IsNextRow rows p u) →
    IsContinuation rows (reverse new) cont → IsContinuation rows ys (after is (next p u ∷ cont))) →
    (cont : List items.ContItem) → IsContinuation rows (reverse old) cont → IsContinuation rows ys (after is cont)
next_shown rows n old new ys is popped goes cont shows =
    next_first rows n (reverse new) ys is goes cont (subst (λ xs. IsContinuation rows xs cont)
    (ap reverse popped ∙ reverse-append new (Next n ∷ [])) shows)
