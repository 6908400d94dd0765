-- A shelf that tells its texts tells one of each name, so a command comes to one thing.
use Rattle.std.proofs.Common.{◌≡◌, ◌<◌, ◌≤◌, ℕ, true, false, List, [], ◌∷◌, length, Option, Some, None, refl, sym, ◌∙◌, ap, subst, inl, inr, arith}
use Rattle.cas_outside.specs.Shelf.{Texts, TellsLonger, text_of}
use Rattle.cas_top.specs.Answer.{IsRead, AreRead, IsFirstLong}
use Rattle.cas_parse.proofs.Texts.{one_module, no_module_and_fault}
use Rattle.cas_command.specs.Words.{Command, Run, World, Wanted, run, check, world}
use Rattle.cas_program.specs.Program.{units_of}
use Rattle.cas_settle.proofs.SettledLemmas.{none-settled}
use Rattle.cas_settle.specs.Settle.{first_refusal}
use Rattle.cas_settle.specs.declared.link.LinkFault.{LinkFault}
use Rattle.cas_own.specs.Checked.{OwnFaultTree, own_fault, IsChecked, HasOwnFault}
use Rattle.cas_syntax.specs.Tree.{ModuleTree}
use Rattle.cas_top.specs.Checked_module.{IsCheckedModule, AreCheckedModules, IsCheckedText}
use Rattle.cas_top.specs.First_form.{is_first_form}
use Rattle.cas_typed.proofs.Modules.{typed_in_one_way, typed_without_fault}
use Rattle.cas_typed.specs.Faults.{Fault}
use Rattle.cas_typed.specs.Modules.{IsTyped}
use Rattle.cas_typed.specs.Resolved.{TypedModuleTree}
use Rattle.cas_typed.specs.Walk.{HasTypeFault}
use Rattle.cas_top.specs.Worlds.{PrintsWorld, RefusesProgram}
use Rattle.cas_top.specs.Plan.{prints, refuses, Plans, PrintsLines, AreChecked, RefusesText, RefusesFirst, misread, untyped, unowned, RefusesRun, faulty, formless}

some_injective : (x y : List ℕ) → Some x ≡ Some y → x ≡ y
some_injective x y h = cc

one_text : (o : Option (List ℕ)) (x y : List ℕ) → o ≡ Some x → o ≡ Some y → x ≡ y
one_text o x y h k = some_injective x y (sym h ∙ k)

one_read : (held : Texts) (w : Wanted) (x y : List ℕ) → IsRead (Some held) w x → IsRead (Some held) w y → x ≡ y
one_read held w x y h k = one_text (text_of held w.name) x y h.tells k.tells

pub one_list : (held : Texts) (ws : List Wanted) (xs ys : List (List ℕ)) → AreRead (Some held) ws xs →
    AreRead (Some held) ws ys → xs ≡ ys
one_list held [] [] [] h k = refl
one_list held [] [] (y ∷ ys) h k = absurd k
one_list held [] (x ∷ xs) ys h k = absurd h
one_list held (w ∷ ws) [] ys h k = absurd h
one_list held (w ∷ ws) (x ∷ xs) [] h k = absurd k
one_list held (w ∷ ws) (x ∷ xs) (y ∷ ys) h k =
    let first = one_read held w x y h.0 k.0 in
    let others = one_list held ws xs ys h.1 k.1 in
    ap (λ t. t ∷ xs) first ∙ ap (λ ts. y ∷ ts) others

within_and_longer : (limit : ℕ) (x y : List ℕ) → x ≡ y → length x ≤ limit → limit < length y → ⊥
within_and_longer limit x y e h k = let l = ap (λ (t : List ℕ). length t) e in omega arith

pub read_and_long : (held : Texts) (ws : List Wanted) (xs : List (List ℕ)) (name : List ℕ) → AreRead (Some held) ws xs →
    IsFirstLong (Some held) ws name → ⊥
read_and_long held [] xs name h k = k
read_and_long held (w ∷ ws) [] name h k = absurd h
read_and_long held (w ∷ ws) (x ∷ xs) name h (inl k) =
    within_and_longer w.limit x k.1.0 (one_text (text_of held w.name) x k.1.0 h.0.tells k.1.1) h.0.within k.1.2
read_and_long held (w ∷ ws) (x ∷ xs) name h (inr k) = read_and_long held ws xs name h.1 k.2

-- a text that is read is within its limit
read_longer : (held : Texts) (w : Wanted) (x : List ℕ) → TellsLonger (Some held) w.name w.limit →
    IsRead (Some held) w x → ⊥
read_longer held w x long read = within_and_longer w.limit x long.0
    (one_text (text_of held w.name) x long.0 read.tells long.1) read.within long.2

-- the first text that is too long is one
pub one_long : (held : Texts) (ws : List Wanted) (name other : List ℕ) → IsFirstLong (Some held) ws name →
    IsFirstLong (Some held) ws other → name ≡ other
one_long held [] name other h k = absurd h
one_long held (w ∷ ws) name other (inl h) (inl k) = h.0 ∙ sym k.0
one_long held (w ∷ ws) name other (inl h) (inr k) = absurd (read_longer held w k.0 h.1 k.1)
one_long held (w ∷ ws) name other (inr h) (inl k) = absurd (read_longer held w h.0 k.1 h.1)
one_long held (w ∷ ws) name other (inr h) (inr k) = one_long held ws name other h.2 k.2

-- a typed module has no fault of typing
pub typed_and_faulty : (m n : ModuleTree) (r : TypedModuleTree) (f : Fault) → m ≡ n → IsTyped m r → HasTypeFault n f → ⊥
typed_and_faulty m n r f same typed fault =
    let P : ModuleTree → Type 0 = λ x. IsTyped x r in
    typed_without_fault n r f (subst P same typed) fault

-- a module is resolved in one way
pub one_resolved : (m n : ModuleTree) (r s : TypedModuleTree) → m ≡ n → IsTyped m r → IsTyped n s → r ≡ s
one_resolved m n r s same h k =
    let P : ModuleTree → Type 0 = λ x. IsTyped x r in
    typed_in_one_way n r s (subst P same h) k

-- a checked module has no fault of ownership
checked_and_unowned : (r s : TypedModuleTree) (f : OwnFaultTree) → r ≡ s → IsChecked r → HasOwnFault s f → ⊥
checked_and_unowned r s f same checked fault =
    let P : TypedModuleTree → Type 0 = λ x. own_fault x ≡ None in
    let none : own_fault s ≡ None = subst P same checked in
    cc

-- a text is read as one checked module
pub one_checked : (text : List ℕ) (r s : TypedModuleTree) → IsCheckedModule text r → IsCheckedModule text s → r ≡ s
one_checked text r s h k = one_resolved h.read_module k.read_module r s
    (one_module text h.read_module k.read_module h.read k.read) h.typed k.typed

-- a text of a checked module isn't refused
pub checked_and_refused : (name text line : List ℕ) → IsCheckedText text → RefusesText name text line → ⊥
checked_and_refused name text line (r, h) (misread code p fault) =
    no_module_and_fault text h.read_module code p h.read fault
checked_and_refused name text line (r, h) (untyped m f read fault) =
    typed_and_faulty h.read_module m r f (one_module text h.read_module m h.read read) h.typed fault
checked_and_refused name text line (r, h) (unowned m s f read typed fault) =
    let same = one_module text h.read_module m h.read read in
    checked_and_unowned r s f (one_resolved h.read_module m r s same h.typed typed) h.checked fault

-- a module is of the first form or it isn't
one_form : (name : List ℕ) (r s : TypedModuleTree) → r ≡ s → is_first_form name r.module_tree ≡ true →
    is_first_form name s.module_tree ≡ false → ⊥
one_form name r s same is not =
    let P : TypedModuleTree → Type 0 = λ x. is_first_form name x.module_tree ≡ true in
    let kept : is_first_form name s.module_tree ≡ true = subst P same is in
    cc

-- a text that prints lines isn't refused
shown_and_refused : (r : Run) (text : List ℕ) (lines : List (List ℕ)) (line : List ℕ) →
    PrintsLines text r.thread lines → RefusesRun r text line → ⊥
shown_and_refused r text lines line (m, form, report, finished, whole) (faulty why refused) =
    checked_and_refused r.source text why (m, form.is_module) refused
shown_and_refused r text lines line (m, form, report, finished, whole) (formless n checked none) =
    one_form r.thread m n (one_checked text m n form.is_module checked) form.form none

-- where all texts are of checked modules, none is refused
pub checked_and_first : (names texts : List (List ℕ)) (line : List ℕ) → AreChecked texts →
    RefusesFirst names texts line → ⊥
checked_and_first [] texts line h k = absurd k
checked_and_first (n ∷ ns) [] line h k = absurd k
checked_and_first (n ∷ ns) (t ∷ ts) line h (inl refused) = checked_and_refused n t line h.0 refused
checked_and_first (n ∷ ns) (t ∷ ts) line h (inr later) = checked_and_first ns ts line h.1 later.1

-- checked texts are of checked modules
pub modules_checked : (texts : List (List ℕ)) (ms : List TypedModuleTree) → AreCheckedModules texts ms →
    AreChecked texts
modules_checked [] ms h = tt
modules_checked (t ∷ ts) [] h = absurd h
modules_checked (t ∷ ts) (m ∷ ms) h = ((m, h.0), modules_checked ts ms h.1)

-- and their modules are one
pub one_modules : (texts : List (List ℕ)) (ms ns : List TypedModuleTree) → AreCheckedModules texts ms →
    AreCheckedModules texts ns → ms ≡ ns
one_modules [] [] [] h k = refl
one_modules [] [] (n ∷ ns) h k = absurd k
one_modules [] (m ∷ ms) ns h k = absurd h
one_modules (t ∷ ts) [] ns h k = absurd h
one_modules (t ∷ ts) (m ∷ ms) [] h k = absurd k
one_modules (t ∷ ts) (m ∷ ms) (n ∷ ns) h k =
    let first = one_checked t m n h.0 k.0 in
    let others = one_modules ts ms ns h.1 k.1 in
    ap (λ x. x ∷ ms) first ∙ ap (λ xs. n ∷ xs) others

no_refusal : (o : Option LinkFault) (f : LinkFault) → o ≡ None → o ≡ Some f → ⊥
no_refusal None f h k = cc
no_refusal (Some g) f h k = cc

-- a program isn't refused
program_and_refused : (w : World) (texts lines : List (List ℕ)) (line : List ℕ) → PrintsWorld w texts lines →
    RefusesProgram w texts line → ⊥
program_and_refused w texts lines line p r =
    let P : List TypedModuleTree → Type 0 = λ ms. first_refusal (units_of ms) w.threads ≡ Some r.fault in
    let there = subst P (one_modules texts r.modules p.modules r.read p.read) r.refused in
    no_refusal (first_refusal (units_of p.modules) w.threads) r.fault
    (none-settled (units_of p.modules) w.threads p.program.settled) there

-- on the same texts a command doesn't come to both
pub one_plan : (c : Command) (texts lines : List (List ℕ)) (s t : ℕ) (line : List ℕ) → Plans c texts (prints s lines) →
    Plans c texts (refuses t line) → ⊥
one_plan (run r) [] lines s t line h k = absurd h
one_plan (run r) (a ∷ []) lines s t line h k = absurd h
one_plan (run r) (a ∷ b ∷ []) lines s t line h k = shown_and_refused r a lines line h.1 k.1
one_plan (run r) (a ∷ b ∷ d ∷ rest) lines s t line h k = absurd h
one_plan (check names) texts lines s t line h k = checked_and_first names texts line h.1 k.1
one_plan (world w) texts lines s t line h (inl k) = checked_and_first w.names texts line
    (modules_checked texts h.1.modules h.1.read) k.1
one_plan (world w) texts lines s t line h (inr k) = program_and_refused w texts lines line h.1 k.1
