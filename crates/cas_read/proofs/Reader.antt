-- What the reader answers, from the machine's verdict.
use Rattle.std.proofs.Common.{◌≡◌, ℕ, suc, ◌+◌, ◌-◌, ◌<◌, ◌≤◌, Bool, true, if◌then◌else◌, nat_eq, get_or, inl, inr, List, [], ◌∷◌, length, ◌∙◌, ap, refl, arith, Ok, Err, IfOk, IfErr, map, false}
use Rattle.cas_base.specs.declared.place.Place.{Place}
use Rattle.cas_lex.specs.declared.code.ReadCode.{ReadCode}
use Rattle.cas_lex.specs.declared.token.Token.{Token}
use Rattle.cas_lex.specs.declared.fault.LexFault.{LexFault}
use Rattle.cas_lex.specs.declared.fault.LexFault.TheVariants as lexing
use Rattle.cas_lex.specs.Answers as lex
use Rattle.cas_lex.specs.Lexed.{HasTokens, HasFault}
use Rattle.cas_lex.specs.Places.{start, behind}
use Rattle.cas_syntax.specs.declared.tree.Module.{Module}
use Rattle.cas_syntax.specs.Reading.{within, IsModule, IsReadAs, HasSyntaxFault, HasReadFault, lexical, syntactic}
use Rattle.cas_syntax.specs.Tree.{ItemTree, ModuleTree, item_tree, module_tree}
use Rattle.cas_parse.specs.Frames.{Control, Frame, InItems}
use Rattle.cas_parse.specs.Machine.{Outcome, Fault, run, go, shift}
use Rattle.cas_read.specs.Answers.{Answer, lexical_fault, IfAt, IsAnswer, IsRead, IsFault}
use Rattle.cas_read.specs.declared.read.ReadFault.TheVariants.{Memory, At}
use Rattle.cas_parse.specs.Left.{place_left}
use Rattle.cas_read_expr.specs.Follow.{verdict}
use Rattle.cas_parse.proofs.ViableWalks.{plain_step}
use Rattle.cas_parse.proofs.Faults.{accepted, faulty, ends_unfinished}
use Rattle.cas_parse.proofs.Texts.{one_module, one_read_fault, no_module_and_fault}

-- the run of the machine, where the limits are asked of every token, is that which the code follows
pub same_verdict : (ts : List Token) (c : Control) (st : List Frame) → run (within 0) ts c st ≡ verdict ts c st
same_verdict [] c st = refl
same_verdict (t ∷ ts) c st = plain_step t ts c st ∙ by_step (shift (within 0) false false t c st) (same_verdict ts)
  where
    by_step : (o : Outcome) → ((c : Control) (st : List Frame) → run (within 0) ts c st ≡ verdict ts c st) →
        go (run (within 0) ts) (length ts) o ≡ go (verdict ts) (length ts) o
    by_step (Ok n) recur = recur n.0 n.1
    by_step (Err code) recur = refl

pub told_items : (ts : List Token) (items : List ItemTree) → verdict ts (InItems []) [] ≡ Ok items → IsModule items ts
told_items ts items h = accepted items ts (same_verdict ts (InItems []) [] ∙ h)

pub told_fault : (ts : List Token) (end : Place) (f : Fault) → verdict ts (InItems []) [] ≡ Err f →
    HasSyntaxFault ts end f.code (place_left ts end f.left)
told_fault ts end f h = faulty ts end f (same_verdict ts (InItems []) [] ∙ h)

-- no more tokens are left than there are
pub left_within : (ts : List Token) (c : Control) (st : List Frame) (f : Fault) → verdict ts c st ≡ Err f →
    f.left ≤ length ts
left_within [] c st f h = let e : 0 ≡ f.left = ap (λ (g : Fault). g.left) (ends_unfinished c f h) in omega arith
left_within (t ∷ ts) c st f h = let le = by_step (shift (within 0) false false t c st) h (left_within ts) in omega arith
  where
    by_step : (o : Outcome) → go (verdict ts) (length ts) o ≡ Err f →
        ((c : Control) (st : List Frame) (f : Fault) → verdict ts c st ≡ Err f → f.left ≤ length ts) →
        f.left ≤ length ts + 1
    by_step (Ok n) h recur = let le = recur n.0 n.1 f h in omega arith
    by_step (Err code) h recur =
        let e : record { code = code; left = length ts + 1 } ≡ f = cc in
        let same : length ts + 1 ≡ f.left = ap (λ (g : Fault). g.left) e in
        omega arith

-- an answer is the only one, but for want of memory

pub only_module : (text : List ℕ) (answer : Answer) → IsAnswer text answer → (m : ModuleTree) → IsReadAs text m →
    IsRead m answer
only_module text (Ok found) h m k = one_module text (module_tree found) m h k
only_module text (Err Memory) h m k = refl
only_module text (Err (At code p)) h m k = absurd (no_module_and_fault text m code p k h)

pub only_fault : (text : List ℕ) (answer : Answer) → IsAnswer text answer → (code : ReadCode) (p : Place) →
    HasReadFault text code p → IsFault code p answer
only_fault text (Ok found) h code p k = absurd (no_module_and_fault text (module_tree found) code p h k)
only_fault text (Err Memory) h code p k = inl refl
only_fault text (Err (At code' p')) h code p k = let same = one_read_fault text code' code p' p h k in let e =
    same.0 in let q = same.1 in inr cc

pub answered_module : (text : List ℕ) (answer : Answer) → IsAnswer text answer →
    IfOk answer (λ m. IsReadAs text (module_tree m))
answered_module text (Ok m) h = h
answered_module text (Err fault) h = tt

pub answered_fault : (text : List ℕ) (answer : Answer) → IsAnswer text answer →
    IfErr answer (λ e. IfAt (HasReadFault text) e)
answered_fault text (Ok m) h = tt
answered_fault text (Err fault) h = h

-- the answers behind the tokens

pub reads_items : (text : List ℕ) (ts : List Token) (m : Module) → HasTokens text ts →
    verdict ts (InItems []) [] ≡ Ok (map item_tree m.items) → IsReadAs text (module_tree m)
reads_items text ts m h told = (ts, h, told_items ts (map item_tree m.items) told)

pub reads_fault : (text : List ℕ) (ts : List Token) (code : ReadCode) (left : ℕ) → HasTokens text ts →
    verdict ts (InItems []) [] ≡ Err (record { code = code; left = left }) →
    HasReadFault text code (place_left ts (behind start text) left)
reads_fault text ts code left h told = syntactic ts code (place_left ts (behind start text) left) h
    (told_fault ts (behind start text) (record { code = code; left = left }) told)

-- the token where so many are left
pub place_left_or : (ts : List Token) (end : Place) (left : ℕ) (t d : Token) → 0 < left → left ≤ length ts →
    t ≡ get_or ts (length ts - left) d → t.place ≡ place_left ts end left
place_left_or [] end left t d more le found = absurd (omega arith)
place_left_or (u ∷ us) end left t d more le found = by_test (nat_eq left (length us + 1)) refl
    (place_left_or us end left t d more)
  where
    by_test : (b : Bool) → nat_eq left (length us + 1) ≡ b →
        (left ≤ length us → t ≡ get_or us (length us - left) d → t.place ≡ place_left us end left) →
        t.place ≡ (if b then u.place else place_left us end left)
    by_test true e recur =
        let first : length (u ∷ us) - left ≡ 0 = grind arith in
        let same : get_or (u ∷ us) (length (u ∷ us) - left) d ≡ u = rw first refl in
        cc
    by_test false e recur =
        let fewer : left ≤ length us = grind arith in
        let later : length (u ∷ us) - left ≡ suc (length us - left) = omega (arith, fewer) in
        recur fewer (found ∙ ap (λ (i : ℕ). get_or (u ∷ us) i d) later)

pub reads_lexical : (text : List ℕ) (fault : LexFault) → lex.IfAt (HasFault text) fault →
    IfAt (HasReadFault text) (lexical_fault fault)
reads_lexical text lexing.Memory h = tt
reads_lexical text (lexing.At code p) h = lexical code p h
