-- What the words of a command say of it.
use Rattle.std.proofs.Common.{◌≡◌, ℕ, ◌≤◌, Bool, true, false, ◌&&◌, if◌then◌else◌, nat_le, nat_lt, List, [], ◌∷◌, length, Option, Some, None, Result, Ok, Err, codes, refl, sym, subst, arith}
use Rattle.std.proofs.lemmas.Bool.Decides.{nat_tests}
use Rattle.std.specs.List.{list_all}
use Rattle.std.specs.Option.{option_and_then, option_map}
use Rattle.std.specs.Prelude.{⊤, IfOk, IfSome}
use Rattle.std.specs.Str.{bytes_eq}
use Rattle.cas_base.specs.Name.{is_name}
use Rattle.cas_command.specs.declared.command.Command.{Command as ACommand}
use Rattle.cas_command.specs.View.{command_view}
use Rattle.cas_command.specs.Words.{Command, Parts, Turns, check, world, command_of, run_of, check_of, world_of, world_from, world_options, are_options, are_text_names, is_text_name, listed, parts_of, threads_of, turns_of, value_of}
use Rattle.cas_top.specs.View.{IsGiven}

-- of the command, if there is one
abbrev Said : Option Command → Type 0
Said None = ⊤
Said (Some c) = IsGiven c

either : (b : Bool) (x y : Option Command) → Said x → Said y → Said (if b then x else y)
either true x y h k = h
either false x y h k = k

where_so : (b : Bool) (x : Option Command) → (b ≡ true → Said x) → Said (if b then x else None)
where_so true x h = h refl
where_so false x h = tt

then_said : {X : Type 0} (f : X → Option Command) (o : Option X) → ((x : X) → Said (f x)) → Said (option_and_then f o)
then_said f None h = tt
then_said f (Some x) h = h x

if_some : {X : Type 0} (b : Bool) (x y : X) → (if b then Some x else None) ≡ Some y → (b ≡ true) × (x ≡ y)
if_some true x y h = let same : x ≡ y = cc in (refl, same)
if_some false x y h = absurd (cc h)

both_left : (a b : Bool) → a && b ≡ true → a ≡ true
both_left true b h = refl
both_left false b h = cc

both_right : (a b : Bool) → a && b ≡ true → b ≡ true
both_right true b h = h
both_right false b h = absurd (cc h)

at_most : (n m : ℕ) → nat_le n m ≡ true → n ≤ m
at_most n m h = grind (arith, nat_tests)

-- the functions of threads are names, and few
abbrev AreNames : List (List ℕ) → Type 0
AreNames threads = (list_all is_name threads ≡ true) × (length threads ≤ 64)

threads_named : (o : Option (List ℕ)) (threads : List (List ℕ)) → option_and_then threads_of o ≡ Some threads →
    AreNames threads
threads_named None threads h = absurd (cc h)
threads_named (Some text) threads h =
    let few = nat_le (length (listed text)) 64 in
    let named = list_all is_name (listed text) in
    let (is, same) = if_some (few && named) (listed text) threads h in
    subst AreNames same (both_right few named is, at_most (length (listed text)) 64 (both_left few named is))

text_names_few : (names : List (List ℕ)) → are_text_names names ≡ true → length names ≤ 64
text_names_few names h =
    let more = nat_lt 0 (length names) in
    let few = nat_le (length names) 64 in
    at_most (length names) 64 (both_right more few (both_left (more && few) (list_all is_text_name names) h))

turns_said : (names threads : List (List ℕ)) (o : Option Turns) → length names ≤ 64 → AreNames threads →
    Said (option_map (λ turns. world (record { names = names; threads = threads; turns = turns })) o)
turns_said names threads None few named = tt
turns_said names threads (Some turns) few named = record { named = named.0; few_threads = named.1; few_names = few }

threads_said : (names : List (List ℕ)) (turns : List (List ℕ) → Option Turns) (o : Option (List (List ℕ))) →
    length names ≤ 64 → ((threads : List (List ℕ)) → o ≡ Some threads → AreNames threads) →
    Said (option_and_then (λ threads. option_map (λ t. world (record { names = names; threads = threads; turns = t }))
    (turns threads)) o)
threads_said names turns None few named = tt
threads_said names turns (Some threads) few named = turns_said names threads (turns threads) few (named threads refl)

world_said : (parts : Parts) → Said (world_of parts)
world_said parts =
    let named = are_text_names parts.names in
    let options = are_options world_options parts.options in
    where_so (named && options) (world_from parts) (λ is.
    threads_said parts.names (λ threads. turns_of (length threads) (value_of (codes "--schedule") parts.options)
    (value_of (codes "--rounds") parts.options))
    (option_and_then threads_of (value_of (codes "--threads") parts.options))
    (text_names_few parts.names (both_left named options is))
    (threads_named (value_of (codes "--threads") parts.options)))

check_said : (parts : Parts) → Said (check_of parts)
check_said parts = either _ (Some (check parts.names)) None tt tt

run_said : (words : List (List ℕ)) → Said (run_of words)
run_said [] = tt
run_said (a ∷ []) = tt
run_said (a ∷ b ∷ []) = tt
run_said (a ∷ b ∷ d ∷ []) = tt
run_said (a ∷ b ∷ d ∷ e ∷ []) = tt
run_said (a ∷ b ∷ d ∷ e ∷ f ∷ []) = either _ (Some _) None tt tt
run_said (a ∷ b ∷ d ∷ e ∷ f ∷ g ∷ more) = tt

words_said : (words : List (List ℕ)) → Said (command_of words)
words_said [] = tt
words_said (command ∷ words) =
    either (bytes_eq command (codes "run")) (run_of words) _ (run_said words)
    (either (bytes_eq command (codes "check")) (option_and_then check_of (parts_of None words)) _
    (then_said check_of (parts_of None words) check_said)
    (either (bytes_eq command (codes "world")) (option_and_then world_of (parts_of None words)) None
    (then_said world_of (parts_of None words) world_said) tt))

-- the command that words give is given
pub given_said : (o : Option ACommand) (words : List (List ℕ)) → option_map command_view o ≡ command_of words →
    IfSome o (λ c. IsGiven (command_view c))
given_said None words h = tt
given_said (Some c) words h = subst Said (sym h) (words_said words)

pub given_ok : {E : Type 0} (r : Result (Option ACommand) E) (words : List (List ℕ)) →
    IfOk r (λ o. option_map command_view o ≡ command_of words) →
    IfOk r (λ o. IfSome o (λ c. IsGiven (command_view c)))
given_ok (Ok o) words h = given_said o words h
given_ok (Err e) words h = tt
