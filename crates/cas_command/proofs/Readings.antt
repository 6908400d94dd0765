-- What numbers and lists of texts are read as.
use Rattle.std.proofs.Common.{◌≡◌, ◌<◌, ℕ, Bool, true, false, cond, not, ◌&&◌, ◌||◌, ltb, leb, List, [], ◌∷◌, length, map, take, drop, get_or, ◌+◌, ◌-◌, Option, Some, None, Result, Ok, ap, refl, sym, ◌∙◌, add-one, length-drop, arith}
use Rattle.std.specs.List.{list_all, find}
use Rattle.std.specs.Option.{option_map}
use Rattle.std.specs.Str.{all_ascii_digits}
use Rattle.std.specs.Char.{is_ascii_digit}
use Rattle.std.specs.Str.Parse.{ParsesUnsigned, digits_value}
use Rattle.std.proofs.lemmas.Bool.{false≢true, ltb-true, leb-true}
use Rattle.std.proofs.lemmas.List.Recursion.{same_from_clauses}
use Rattle.std.proofs.lemmas.Str.Parse.{IsNumeralModel, numerals_by_value, tells_all_ascii_digits, parse_gives, digits_value_short}
use Rattle.std.specs.Borrow.{Bor}
use Rattle.std.specs.List.{list_any}
use Rattle.std.specs.Option.{is_some}
use Rattle.std.specs.Str.{bytes_eq}
use Rattle.std.proofs.Math.Seq.{drop-cons}
use Rattle.std.proofs.lemmas.List.{take_all}
use Rattle.cas_command.specs.declared.parts.Given.{Given}
use Rattle.cas_command.specs.Parts.{given_view, text_of}
use Rattle.cas_command.specs.Words as w

-- a test of all elements is one of all that they stand for
pub list_all-map : {X Y : Type 0} (test : Y → Bool) (f : X → Y) (xs : List X) →
    list_all (λ x. test (f x)) xs ≡ list_all test (map f xs)
list_all-map test f [] = refl
list_all-map test f (x ∷ xs) = ap (λ b. test (f x) && b) (list_all-map test f xs)

-- the first element that passes, by what the elements stand for
pub find-map : {X Y : Type 0} (test : Y → Bool) (f : X → Y) (xs : List X) →
    option_map f (find (λ x. test (f x)) xs) ≡ find test (map f xs)
find-map test f [] = refl
find-map test f (x ∷ xs) = by (test (f x)) (find-map test f xs)
  where
    by : (b : Bool) → option_map f (find (λ x. test (f x)) xs) ≡ find test (map f xs)
        → option_map f (cond b (Some x) (find (λ x. test (f x)) xs)) ≡ cond b (Some (f x)) (find test (map f xs))
    by true rest = refl
    by false rest = rest

pub list_all-digits : (text : List ℕ) → list_all is_ascii_digit text ≡ all_ascii_digits text
list_all-digits text = same_from_clauses (list_all is_ascii_digit) all_ascii_digits
    (λ c digits. is_ascii_digit c && digits) refl (λ _ _. refl) (λ _ _. refl) text

both : (a b : Bool) → (a && b) ≡ true → (a ≡ true) × (b ≡ true)
both true b e = (refl, e)
both false b e = (e, absurd (false≢true e))

numerals : IsNumeralModel (λ ds. all_ascii_digits ds ≡ true) (digits_value 10)
numerals = numerals_by_value _ tells_all_ascii_digits

abbrev is_number : List ℕ → Bool
is_number text = ltb 0 (length text) && leb (length text) 10 && all_ascii_digits text

-- a number is read by `parse`
pub number_of-parsed : {E : Type 0} (text : List ℕ) (r : Result ℕ E) → ParsesUnsigned 64 10 text r →
    is_number text ≡ true
    → r ≡ Ok (digits_value 10 text)
number_of-parsed text r parsed e =
    let all = both (ltb 0 (length text) && leb (length text) 10) (all_ascii_digits text) e in
    let some = both (ltb 0 (length text)) (leb (length text) 10) all.0 in
    let short = digits_value_short numerals text 10 all.1 (leb-true (length text) 10 some.1) in
    parse_gives numerals 64 text r parsed all.1 (ltb-true 0 (length text) some.0) (omega (arith, short))

-- the value of the option that is found first
pub value_of-found : (option : List ℕ) (options : List Given) (r : Option (Bor Given))
    → option_map (λ g. g.now) r ≡ find (λ g. bytes_eq g.option.now option) options
    → option_map (λ g. g.now.value.now) r ≡ w.value_of option (map given_view options)
value_of-found option options None found =
    ap (λ o. option_map (λ (g : w.Given). g.value) (option_map given_view o)) found
    ∙ ap (option_map (λ (g : w.Given). g.value)) (find-map (λ (g : w.Given). bytes_eq g.option option)
    given_view options)
value_of-found option options (Some g) found =
    ap (λ o. option_map (λ (g : w.Given). g.value) (option_map given_view o)) found
    ∙ ap (option_map (λ (g : w.Given). g.value)) (find-map (λ (g : w.Given). bytes_eq g.option option)
    given_view options)

-- an option that stands among others has a value there
is_some-value_of : (option : List ℕ) (others : List w.Given) →
    list_any (λ other. bytes_eq other.option option) others ≡ is_some (w.value_of option others)
is_some-value_of option [] = refl
is_some-value_of option (g ∷ others) = by (bytes_eq g.option option) (is_some-value_of option others)
  where
    by : (b : Bool) → list_any (λ other. bytes_eq other.option option) others ≡ is_some (w.value_of option others)
        → (b || list_any (λ other. bytes_eq other.option option) others) ≡ is_some
        (option_map (λ (g : w.Given). g.value)
        (cond b (Some g) (find (λ other. bytes_eq other.option option) others)))
    by true rest = refl
    by false rest = rest

-- the options from one on stand once just where those behind it do, and it isn't among them
stand_once-from : (g : w.Given) (others : List w.Given) (value : Option (List ℕ)) → value ≡ w.value_of g.option others
    → w.stand_once (g ∷ others) ≡ (not (is_some value) && w.stand_once others)
stand_once-from g others value e =
    ap (λ b. not b && w.stand_once others) (is_some-value_of g.option others ∙ ap is_some (sym e))

at_place : (options : List Given) (place : ℕ) (d : Given) → place < length options
    → drop place options ≡ get_or options place d ∷ drop (place + 1) options
at_place options place d within = drop-cons options place d within
    ∙ ap (λ n. get_or options place d ∷ drop n options) (sym (add-one place))

behind : (options : List Given) (place : ℕ) → take (length options - (place + 1)) (drop (place + 1) options) ≡ drop
    (place + 1) options
behind options place = take_all (length options - (place + 1)) (drop (place + 1) options)
    (omega (arith, length-drop (place + 1) options))

pub stand_once-place : (options : List Given) (place : ℕ) (d : Given) (value : Option (Bor (List ℕ))) →
    place < length options
    → text_of value ≡ w.value_of (get_or options place d).option.now
    (map given_view (take (length options - (place + 1)) (drop (place + 1) options)))
    → w.stand_once (map given_view (drop place options)) ≡
    (not (is_some value) && w.stand_once (map given_view (drop (place + 1) options)))
stand_once-place options place d value within e =
    ap (λ os. w.stand_once (map given_view os)) (at_place options place d within)
    ∙ stand_once-from (given_view (get_or options place d)) (map given_view (drop (place + 1) options)) (text_of value)
    (e ∙ ap (λ os. w.value_of (get_or options place d).option.now (map given_view os)) (behind options place))
    ∙ some value
  where
    some : (value : Option (Bor (List ℕ))) →
        (not (is_some (text_of value)) && w.stand_once (map given_view (drop (place + 1) options)))
        ≡ (not (is_some value) && w.stand_once (map given_view (drop (place + 1) options)))
    some None = refl
    some (Some v) = refl
