-- How modules are checked and joined, and how threads take turns.
use Rattle.std.proofs.Common.{◌≡◌, ℕ, zero, suc, ◌+◌, ◌<◌, true, List, [], ◌∷◌, ◌++◌, length, map, get_or, None, Some, Ok, Err, ◌≢◌, refl, sym, ap, ◌∙◌, inl, inr, subst, append-nil, append_assoc, arith}
use Rattle.std.specs.Borrow.{Bor}
use Rattle.std.specs.List.{list_all}
use Rattle.cas_base.specs.Name.{is_name}
use Rattle.cas_command.specs.Parts.{texts}
use Rattle.cas_command.specs.Words.{Turns, schedule, rounds, World}
use Rattle.cas_own.specs.declared.checked.Checked.{Checked}
use Rattle.cas_program.specs.Program.{IsProgram, env_of, units_of}
use Rattle.cas_settle.specs.Settle.{first_refusal}
use Rattle.cas_settle.specs.declared.link.LinkFault.{LinkFault}
use Rattle.cas_settle.specs.declared.link.LinkFault.TheVariants as link
use Rattle.cas_top.specs.Plan.{RefusesFirst}
use Rattle.cas_top.specs.View.{names_of, texts_of, AreModules, IsCheckedAs, IsJoined, IsUnlinked, IsWorldShown}
use Rattle.cas_top.specs.Checked_module.{AreCheckedModules}
use Rattle.cas_top.specs.Worlds.{PrintsWorld, link_fault_line, turned, turns_of, world_lines}
use Rattle.cas_top.proofs.Both.{left_part, right_part}
use Rattle.cas_top.proofs.One_by_one.{checked_text}
use Rattle.cas_top.specs.declared.refusal.Refusal.{Refusal}
use Rattle.cas_top.specs.declared.refusal.Refusal.TheVariants as refusal
use Rattle.cas_top.specs.declared.source.Source.{Source}
use Rattle.cas_step.specs.Env.{Env}
use Rattle.cas_turn.proofs.Rounds_lemmas.{threads_more}
use Rattle.cas_turn.specs.Joined.{typed_of}
use Rattle.cas_typed.specs.Resolved.{TypedModuleTree}
use Rattle.cas_whole.specs.Whole.{AreTyped}
use Rattle.cas_world.specs.Races.{IsRaceFree, program_world}
use Rattle.cas_world.specs.Turns.{threads_from}
use Rattle.cas_world.specs.World as definition
use Rattle.cas_world.specs.World.{Reaches, at_first}
use Rattle.cas_world.proofs.Turns.{turns_interleave, rounds_interleave}

-- the modules of texts one by one

typed_behind : (checked : List Checked) (ms : List TypedModuleTree) (c : Checked) (m : TypedModuleTree) →
    AreTyped (typed_of checked) ms → AreTyped (typed_of (c ∷ [])) (m ∷ []) →
    AreTyped (typed_of (checked ++ c ∷ [])) (ms ++ m ∷ [])
typed_behind [] [] c m h one = one
typed_behind [] (n ∷ ns) c m h one = absurd h
typed_behind (d ∷ ds) [] c m h one = absurd h
typed_behind (d ∷ ds) (n ∷ ns) c m h one = (h.0, typed_behind ds ns c m h.1 one)

-- after these modules, reading the texts that are left ends as reading all
pub record ModulesOn (whole left : List Source) (checked : List Checked) : Type 0 where
  pub modules : List TypedModuleTree
  pub typed : AreTyped (typed_of checked) modules
  pub all : (rest : List TypedModuleTree) → AreCheckedModules (texts_of left) rest →
      AreCheckedModules (texts_of whole) (modules ++ rest)
  pub first : (line : List ℕ) → RefusesFirst (names_of left) (texts_of left) line →
      RefusesFirst (names_of whole) (texts_of whole) line

pub modules_start : (whole : List Source) → ModulesOn whole whole []
modules_start whole = record { modules = []; typed = tt; all = λ rest h. h; first = λ line h. h }

-- the first of the texts that are left is of a checked module
pub modules_next : (whole left after : List Source) (source : Source) (checked : List Checked) (c : Checked)
    (slice : List ℕ) → ModulesOn whole left checked → left ≡ source ∷ after →
    slice ≡ source.text.items → IsCheckedAs source.name.now slice (Ok c) → ModulesOn whole after (checked ++ c ∷ [])
modules_next whole left after source checked c slice h cons same here =
    let P : List Source → Type 0 = λ ss. ModulesOn whole ss checked in
    let R : List ℕ → Type 0 = λ text. IsCheckedAs source.name.now text (Ok c) in
    let on = subst P cons h in
    let is = subst R same here in
    let (m, t, read, stands, typed, good) = is in
    let text = checked_text source.name.now source.text.items c is in
    record {
      modules = on.modules ++ t ∷ [];
      typed = typed_behind checked on.modules c t on.typed (stands, tt);
      all = λ rest k.
          let Q : List TypedModuleTree → Type 0 = λ ms. AreCheckedModules (texts_of whole) ms in
          subst Q (sym (append_assoc on.modules (t ∷ []) rest))
          (on.all (t ∷ rest) (record { read_module = m; read = read; typed = typed; checked = good }, k));
      first = λ line k. on.first line (inr (text, k));
    }

-- the first of them is refused
pub modules_refused : (whole left after : List Source) (source : Source) (checked : List Checked) (why : Refusal) →
    ModulesOn whole left checked → left ≡ source ∷ after →
    IsCheckedAs source.name.now source.text.items (Err why) → AreModules (names_of whole) (texts_of whole) (Err why)
modules_refused whole left after source checked (refusal.Faulty n f) h cons refused =
    let P : List Source → Type 0 = λ ss. ModulesOn whole ss checked in
    (subst P cons h).first _ (inl refused)
modules_refused whole left after source checked refusal.Memory h cons refused = tt
modules_refused whole left after source checked refusal.Usage h cons refused = absurd refused
modules_refused whole left after source checked (refusal.Unlinked line) h cons refused = absurd refused
modules_refused whole left after source checked (refusal.Unread n) h cons refused = absurd refused
modules_refused whole left after source checked (refusal.TooLong n) h cons refused = absurd refused
modules_refused whole left after source checked refusal.Unwritten h cons refused = absurd refused

-- all are read
pub modules_end : (whole : List Source) (checked : List Checked) → ModulesOn whole [] checked →
    (ms : List TypedModuleTree) × AreCheckedModules (texts_of whole) ms × AreTyped (typed_of checked) ms
modules_end whole checked on =
    let P : List TypedModuleTree → Type 0 = λ ms. AreCheckedModules (texts_of whole) ms in
    (on.modules, subst P (append-nil on.modules) (on.all [] tt), on.typed)

-- names of threads' functions

-- the name at which a loop is
pub name_at : (names : List (Bor (List ℕ))) (i : ℕ) (d : Bor (List ℕ)) → i < length names →
    list_all is_name (texts names) ≡ true → is_name (get_or names i d).now ≡ true
name_at [] i d within all = absurd (omega (arith, within))
name_at (n ∷ ns) zero d within all = left_part (is_name n.now) (list_all is_name (texts ns)) all
name_at (n ∷ ns) (suc i) d within all = name_at ns i d (omega (arith, within))
    (right_part (is_name n.now) (list_all is_name (texts ns)) all)

-- the lines of one more thread
map_behind : {X : Type 0} (f : ℕ → X) (xs : List ℕ) (x : ℕ) → map f (xs ++ x ∷ []) ≡ map f xs ++ f x ∷ []
map_behind f [] x = refl
map_behind f (y ∷ ys) x = ap (λ zs. f y ∷ zs) (map_behind f ys x)

pub line_more : {X : Type 0} (f : ℕ → X) (old : List X) (n : ℕ) →
    (old ++ map f (threads_from 0 n)) ++ f n ∷ [] ≡ old ++ map f (threads_from 0 (n + 1))
line_more f old n =
    let number : n + 1 ≡ suc n = omega (arith) in
    let from : 0 + n ≡ n = omega (arith) in
    append_assoc old (map f (threads_from 0 n)) (f n ∷ [])
    ∙ ap (λ xs. old ++ xs) (sym (map_behind f (threads_from 0 n) n)
    ∙ ap (λ k. map f (threads_from 0 n ++ k ∷ [])) (sym from) ∙ ap (map f) (sym (threads_more 0 n))
    ∙ ap (λ k. map f (threads_from 0 k)) (sym number))

-- why modules have no lines
pub shown_unread : (w : World) (names texts : List (List ℕ)) (why : Refusal) → AreModules names texts (Err why) →
    IsWorldShown w names texts (Err why)
shown_unread w names texts (refusal.Faulty n f) h = h
shown_unread w names texts refusal.Memory h = tt
shown_unread w names texts refusal.Usage h = absurd h
shown_unread w names texts (refusal.Unlinked line) h = absurd h
shown_unread w names texts (refusal.Unread n) h = absurd h
shown_unread w names texts (refusal.TooLong n) h = absurd h
shown_unread w names texts refusal.Unwritten h = absurd h

-- one more item
pub length_behind : {X : Type 0} (xs : List X) (x : X) → length (xs ++ x ∷ []) ≡ length xs + 1
length_behind [] x = refl
length_behind (y ∷ ys) x = let more = length_behind ys x in omega (arith, more)

-- running out of memory has no line
line_not_memory : (f : LinkFault) (line : List ℕ) → link_fault_line f ≡ Some line → f ≢ link.Memory
line_not_memory f line h same =
    let P : LinkFault → Type 0 = λ g. link_fault_line g ≡ Some line in
    let no : None ≡ Some line = subst P same h in
    absurd (cc no)

-- why modules are no program
pub joined_refused : (ms : List TypedModuleTree) (names : List (List ℕ)) (f : LinkFault) (why : Refusal) →
    (f ≢ link.Memory → first_refusal (units_of ms) names ≡ Some f) → IsUnlinked f why →
    IsJoined ms names (Err why)
joined_refused ms names f (refusal.Unlinked line) known h = (f, known (line_not_memory f line h), h)
joined_refused ms names f refusal.Memory known h = tt
joined_refused ms names f refusal.Usage known h = absurd h
joined_refused ms names f (refusal.Unread n) known h = absurd h
joined_refused ms names f (refusal.TooLong n) known h = absurd h
joined_refused ms names f (refusal.Faulty n fault) known h = absurd h
joined_refused ms names f refusal.Unwritten known h = absurd h

-- the world that turns come to is reached
turned_reaches : (e : Env) (first : definition.World) (ts : Turns) → Reaches e first (turned e ts first)
turned_reaches e first (schedule items) = (_, turns_interleave e first first [] (turns_of items) at_first)
turned_reaches e first (rounds count) = (_, rounds_interleave e first first [] count at_first)

-- the lines of a program's world are what `world` prints
pub prints : (w : World) (names threads texts lines : List (List ℕ)) (ms : List TypedModuleTree) → names ≡ w.names →
    threads ≡ w.threads → AreCheckedModules texts ms →
    IsProgram ms threads → IsRaceFree (env_of ms) (program_world ms threads) →
    lines ≡ world_lines names ms (turned (env_of ms) w.turns (program_world ms threads)) →
    PrintsWorld w texts lines
prints w names threads texts lines ms same_names same_threads read program free whole =
    let P : List (List ℕ) → Type 0 = λ ts. IsProgram ms ts in
    let F : List (List ℕ) → Type 0 = λ ts. IsRaceFree (env_of ms) (program_world ms ts) in
    record {
      modules = ms;
      read = read;
      program = subst P same_threads program;
      race_free = subst F same_threads free;
      reached = turned_reaches (env_of ms) (program_world ms w.threads) w.turns;
      whole = whole ∙ ap (λ ns. world_lines ns ms (turned (env_of ms) w.turns (program_world ms threads))) same_names
          ∙ ap (λ ts. world_lines w.names ms (turned (env_of ms) w.turns (program_world ms ts))) same_threads;
    }
