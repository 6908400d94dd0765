-- How the texts of modules are read and checked one after another.
use Rattle.std.proofs.Common.{◌≡◌, ℕ, List, [], ◌∷◌, ◌++◌, ◌+◌, ◌<◌, false, length, drop, get_or, map, Ok, Err, refl, sym, ap, ◌∙◌, inl, inr, subst, append-nil}
use Rattle.std.proofs.lemmas.List.{drop_more}
use Rattle.std.specs.Borrow.{Bor}
use Rattle.std.specs.declared.alloc.Global.{Global}
use Rattle.std.specs.declared.vec.Vec.{Vec}
use Rattle.cas_command.specs.Parts.{texts}
use Rattle.cas_command.specs.Words.{Run, source_text}
use Rattle.cas_own.specs.Checked.{IsChecked}
use Rattle.cas_own.specs.declared.checked.Checked.{Checked}
use Rattle.cas_syntax.specs.Tree.{ModuleTree, module_tree}
use Rattle.cas_typed.specs.Resolved.{TypedModuleTree}
use Rattle.cas_typed.specs.Typed_as.{IsTypedAs}
use Rattle.cas_typed.specs.declared.typed.Typed.{Typed}
use Rattle.cas_top.specs.Answer.{Told, AreRead, IsFirstLong, IsFirstUnread, IsRead}
use Rattle.cas_top.specs.Checked_module.{IsCheckedText}
use Rattle.cas_top.specs.First_form.{is_first_form}
use Rattle.cas_top.specs.Plan.{AreChecked, RefusesFirst, RefusesRun, faulty, formless}
use Rattle.cas_top.specs.Printed.{form_line}
use Rattle.cas_top.specs.View.{module_line, names_of, texts_of, IsSource, AreSources, IsCheckedAs, IsCheckedSource, IsRun, IsShown, AreAllChecked, AreOkLines}
use Rattle.cas_top.specs.declared.refusal.Refusal.{Refusal}
use Rattle.cas_top.specs.declared.refusal.Refusal.TheVariants as refusal
use Rattle.cas_top.specs.declared.source.Source.{Source}

-- the item at which a loop is, and those after it
pub drop-item : {X : Type 0} (xs : List X) (i : ℕ) (x : X) → i < length xs → x ≡ get_or xs i x →
    drop i xs ≡ x ∷ drop (i + 1) xs
drop-item xs i x below is = drop_more xs i x below ∙ ap (λ y. y ∷ drop (i + 1) xs) (sym is)

-- the name at which a loop is, and those after it
pub texts_item : (names : List (Bor (List ℕ))) (i : ℕ) (d : Bor (List ℕ)) → i < length names →
    texts (drop i names) ≡ (get_or names i d).now ∷ texts (drop (i + 1) names)
texts_item names i d below = ap texts (drop_more names i d below)

-- a text that is read as a checked module
pub checked_text : (name text : List ℕ) (checked : Checked) → IsCheckedAs name text (Ok checked) → IsCheckedText text
checked_text name text checked (m, t, read, stands, typed, good) =
    (t, record { read_module = m; read = read; typed = typed; checked = good })

-- why a text isn't of a checked module
pub refused_source : (name text : List ℕ) (why : Refusal) → IsCheckedAs name text (Err why) →
    IsCheckedSource name text (Err why)
refused_source name text (refusal.Faulty n f) h = h
refused_source name text refusal.Memory h = tt
refused_source name text refusal.Usage h = absurd h
refused_source name text (refusal.Unlinked line) h = absurd h
refused_source name text (refusal.Unread n) h = absurd h
refused_source name text (refusal.TooLong n) h = absurd h
refused_source name text refusal.Unwritten h = absurd h

-- .. nor does its run print
pub refused_run : (r : Run) (text : List ℕ) (why : Refusal) → IsCheckedAs r.source text (Err why) →
    IsShown r text (Err why)
refused_run r text (refusal.Faulty n f) h = faulty (module_line n.now f) h
refused_run r text refusal.Memory h = tt
refused_run r text refusal.Usage h = absurd h
refused_run r text (refusal.Unlinked line) h = absurd h
refused_run r text (refusal.Unread n) h = absurd h
refused_run r text (refusal.TooLong n) h = absurd h
refused_run r text refusal.Unwritten h = absurd h

-- the lines of a checked module's run, where there are some
pub shown_run : (r : Run) (name text : List ℕ) (checked : Checked) (typed : Typed) (lines : Vec (List ℕ) Global) →
    IsCheckedAs name text (Ok checked) → typed ≡ checked.typed →
    ((t : TypedModuleTree) → IsTypedAs typed t → IsChecked t → IsRun t r.thread lines.items) → IsShown r text (Ok lines)
shown_run r name text checked typed lines (m, t, read, stands, good, is_checked) same run =
    let P : Typed → Type 0 = λ x. IsTypedAs x t in
    let (form, report, finished, printed) = run t (subst P (sym same) stands) is_checked in (
      t,
      record { is_module = record { read_module = m; read = read; typed = good; checked = is_checked }; form = form },
      report,
      finished,
      printed,
    )

-- .. and where there are none, since it isn't of the first form
pub formless_run : (r : Run) (name text : List ℕ) (checked : Checked) (typed : Typed) →
    IsCheckedAs name text (Ok checked) → typed ≡ checked.typed →
    is_first_form r.thread (module_tree typed.filled) ≡ false → RefusesRun r text (form_line r.source)
formless_run r name text checked typed (m, t, read, stands, good, is_checked) same none =
    let P : ModuleTree → Type 0 = λ x. is_first_form r.thread x ≡ false in
    let filled : module_tree typed.filled ≡ t.module_tree = ap (λ (x : Typed). module_tree x.filled) same
    ∙ sym stands.module_tree in
    formless t (record { read_module = m; read = read; typed = good; checked = is_checked }) (subst P filled none)

-- why some of the texts aren't of checked modules
pub refused_lines : (names texts : List (List ℕ)) (why : Refusal) → AreAllChecked names texts (Err why) →
    AreOkLines names texts (Err why)
refused_lines names texts (refusal.Faulty n f) h = h
refused_lines names texts refusal.Memory h = tt
refused_lines names texts refusal.Usage h = absurd h
refused_lines names texts (refusal.Unlinked line) h = absurd h
refused_lines names texts (refusal.Unread n) h = absurd h
refused_lines names texts (refusal.TooLong n) h = absurd h
refused_lines names texts refusal.Unwritten h = absurd h

-- checking the texts that are left ends as checking all
pub record ChecksOn (whole left : List Source) : Type 0 where
  pub all : AreChecked (texts_of left) → AreChecked (texts_of whole)
  pub first : (line : List ℕ) → RefusesFirst (names_of left) (texts_of left) line →
      RefusesFirst (names_of whole) (texts_of whole) line

pub checks_start : (whole : List Source) → ChecksOn whole whole
checks_start whole = record { all = λ h. h; first = λ line h. h }

-- the first of the texts that are left is of a checked module
pub checks_next : (whole left after : List Source) (source : Source) → ChecksOn whole left → left ≡ source ∷ after →
    IsCheckedText source.text.items →
    ChecksOn whole after
checks_next whole left after source h cons checked =
    let P : List Source → Type 0 = λ ss. ChecksOn whole ss in
    let on = subst P cons h in
    record { all = λ k. on.all (checked, k); first = λ line k. on.first line (inr (checked, k)) }

-- the first of them is refused
pub checks_refused : (whole left after : List Source) (source : Source) (why : Refusal) → ChecksOn whole left →
    left ≡ source ∷ after →
    IsCheckedSource source.name.now source.text.items (Err why) →
    AreAllChecked (names_of whole) (texts_of whole) (Err why)
checks_refused whole left after source (refusal.Faulty n f) h cons refused =
    let P : List Source → Type 0 = λ ss. ChecksOn whole ss in
    (subst P cons h).first _ (inl refused)
checks_refused whole left after source refusal.Memory h cons refused = tt
checks_refused whole left after source refusal.Usage h cons refused = absurd refused
checks_refused whole left after source (refusal.Unlinked line) h cons refused = absurd refused
checks_refused whole left after source (refusal.Unread n) h cons refused = absurd refused
checks_refused whole left after source (refusal.TooLong n) h cons refused = absurd refused
checks_refused whole left after source refusal.Unwritten h cons refused = absurd refused

-- reading the texts of the names that are left, after these sources, ends as reading all
pub record ReadsOn (told : Told) (names : List (List ℕ)) (sources : List Source) (left : List (List ℕ)) : Type 0 where
  pub named : names_of sources ++ left ≡ names
  pub read : (texts : List (List ℕ)) → AreRead told (map source_text left) texts →
      AreRead told (map source_text names) (texts_of sources ++ texts)
  pub unread : (name : List ℕ) → IsFirstUnread told (map source_text left) name →
      IsFirstUnread told (map source_text names) name
  pub long : (name : List ℕ) → IsFirstLong told (map source_text left) name →
      IsFirstLong told (map source_text names) name

pub reads_start : (told : Told) (names : List (List ℕ)) → ReadsOn told names [] names
reads_start told names = record { named = refl; read = λ texts h. h; unread = λ name h. h; long = λ name h. h }

-- the names and texts of sources and one more, with others behind
names_behind : (sources : List Source) (source : Source) (left : List (List ℕ)) →
    names_of (sources ++ source ∷ []) ++ left ≡ names_of sources ++ source.name.now ∷ left
names_behind [] source left = refl
names_behind (s ∷ ss) source left = ap (λ ns. s.name.now ∷ ns) (names_behind ss source left)

texts_behind : (sources : List Source) (source : Source) (left : List (List ℕ)) →
    texts_of (sources ++ source ∷ []) ++ left ≡ texts_of sources ++ source.text.items ∷ left
texts_behind [] source left = refl
texts_behind (s ∷ ss) source left = ap (λ ts. s.text.items ∷ ts) (texts_behind ss source left)

-- the text of the first name was read
reads_one : (told : Told) (names : List (List ℕ)) (sources : List Source) (name : List ℕ) (left : List (List ℕ))
    (source : Source) →
    ReadsOn told names sources (name ∷ left) → source.name.now ≡ name →
    IsRead told (source_text name) source.text.items →
    ReadsOn told names (sources ++ source ∷ []) left
reads_one told names sources name left source on named read = record {
  named = names_behind sources source left ∙ ap (λ n. names_of sources ++ n ∷ left) named ∙ on.named;
  read = λ texts h.
      let P : List (List ℕ) → Type 0 = λ ts. AreRead told (map source_text names) ts in
      subst P (sym (texts_behind sources source texts)) (on.read (source.text.items ∷ texts) (read, h));
  unread = λ n h. on.unread n (inr (source.text.items, read, h));
  long = λ n h. on.long n (inr (source.text.items, read, h));
}

-- .. by a shelf that tells the same all along
pub reads_next : (told told' : Told) (names : List (List ℕ)) (sources : List Source) (left after : List (List ℕ))
    (name : List ℕ) (source : Source) (failed failed' : List (List ℕ)) →
    ReadsOn told names sources left → left ≡ name ∷ after → told' ≡ told →
    IsSource told' name failed failed' (Ok source) →
    ReadsOn told names (sources ++ source ∷ []) after
reads_next told told' names sources left after name source failed failed' on cons same h =
    let P : List (List ℕ) → Type 0 = λ l. ReadsOn told names sources l in
    let Q : Told → Type 0 = λ t. IsRead t (source_text name) source.text.items in
    reads_one told names sources name after source (subst P cons on) h.0 (subst Q same h.1)

-- the text of the first name wasn't read
unread_one : (told : Told) (names : List (List ℕ)) (sources : List Source) (name : List ℕ) (left : List (List ℕ))
    (before after : List (List ℕ)) (why : Refusal) →
    ReadsOn told names sources (name ∷ left) → IsSource told name before after (Err why) →
    AreSources told names before after (Err why)
unread_one told names sources name left before after (refusal.Unread n) on h =
    (on.unread n.now (inl h.0), h.1 ∙ ap (λ x. before ++ x ∷ []) (sym h.0))
unread_one told names sources name left before after (refusal.TooLong n) on h = (on.long n.now (inl (h.0, h.1)), h.2)
unread_one told names sources name left before after refusal.Memory on h = h
unread_one told names sources name left before after refusal.Usage on h = absurd h
unread_one told names sources name left before after (refusal.Unlinked line) on h = absurd h
unread_one told names sources name left before after (refusal.Faulty n f) on h = absurd h
unread_one told names sources name left before after refusal.Unwritten on h = absurd h

pub reads_cut : (told told' : Told) (names : List (List ℕ)) (sources : List Source) (left rest : List (List ℕ))
    (name : List ℕ) (start before after : List (List ℕ)) (why : Refusal) →
    ReadsOn told names sources left → left ≡ name ∷ rest → told' ≡ told → before ≡ start →
    IsSource told' name before after (Err why) →
    AreSources told names start after (Err why)
reads_cut told told' names sources left rest name start before after why on cons same kept h =
    let P : List (List ℕ) → Type 0 = λ l. ReadsOn told names sources l in
    let Q : Told → Type 0 = λ t. IsSource t name before after (Err why) in
    let R : List (List ℕ) → Type 0 = λ b. IsSource told name b after (Err why) in
    unread_one told names sources name rest start after why (subst P cons on) (subst R kept (subst Q same h))

-- all texts were read
pub reads_end : (told : Told) (names : List (List ℕ)) (sources : List Source) → ReadsOn told names sources [] →
    (names_of sources ≡ names) × AreRead told (map source_text names) (texts_of sources)
reads_end told names sources on =
    let P : List (List ℕ) → Type 0 = λ ts. AreRead told (map source_text names) ts in
    (sym (append-nil (names_of sources)) ∙ on.named, subst P (append-nil (texts_of sources)) (on.read [] tt))
