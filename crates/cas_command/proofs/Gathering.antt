-- Words apart, one word after another.
use Rattle.std.proofs.Common.{◌≡◌, ℕ, Bool, true, false, cond, List, [], ◌∷◌, ◌++◌, Option, Some, None, codes, append_assoc, append-nil, ap, refl, sym, ◌∙◌}
use Rattle.std.specs.Option.{option_map, option_map_or}
use Rattle.std.specs.Str.{bytes_eq}
use Rattle.cas_command.specs.Parts.{followed_by}
use Rattle.cas_command.specs.Words.{Parts, cut_at, has_dash, parts_of, with_name, with_option}

abbrev named : Parts → List ℕ → Parts
named p name = record { names = p.names ++ name ∷ []; options = p.options }

abbrev given : Parts → (option value : List ℕ) → Parts
given p option value = record { names = p.names; options = p.options ++ record { option = option; value = value } ∷ [] }

pub followed_by_nothing : (o : Option Parts) → followed_by (record { names = []; options = [] }) o ≡ o
followed_by_nothing None = refl
followed_by_nothing (Some more) = refl

followed_by-named : (p : Parts) (name : List ℕ) (o : Option Parts) →
    followed_by (named p name) o ≡ followed_by p (option_map (with_name name) o)
followed_by-named p name None = refl
followed_by-named p name (Some more) =
    ap (λ names. Some (record { names = names; options = p.options ++ more.options }))
    (append_assoc p.names (name ∷ []) more.names)

followed_by-given : (p : Parts) (option value : List ℕ) (o : Option Parts)
    → followed_by (given p option value) o ≡ followed_by p (option_map (with_option option value) o)
followed_by-given p option value None = refl
followed_by-given p option value (Some more) =
    ap (λ options. Some (record { names = p.names ++ more.names; options = options }))
    (append_assoc p.options (record { option = option; value = value } ∷ []) more.options)

-- the word after an option that waits for its value
pub step_value : (p : Parts) (option word : List ℕ) (words : List (List ℕ)) → has_dash word ≡ false
    → followed_by (given p option word) (parts_of None words) ≡ followed_by p (parts_of (Some option) (word ∷ words))
step_value p option word words plain =
    followed_by-given p option word (parts_of None words)
    ∙ ap (λ dash. followed_by p (cond dash None (option_map (with_option option word) (parts_of None words))))
    (sym plain)

pub value_missing : (p : Parts) (option word : List ℕ) (words : List (List ℕ)) → has_dash word ≡ true
    → None ≡ followed_by p (parts_of (Some option) (word ∷ words))
value_missing p option word words dash =
    ap (λ dash. followed_by p (cond dash None (option_map (with_option option word) (parts_of None words)))) (sym dash)

abbrev behind_dash : (word : List ℕ) → (words : List (List ℕ)) → Option (List ℕ × List ℕ) → Option Parts
behind_dash word words cut =
    option_map_or (λ cut. option_map (with_option cut.0 cut.1) (parts_of None words)) cut (parts_of (Some word) words)

abbrev by_tests : (word : List ℕ) → (words : List (List ℕ)) → (dashes dash : Bool) → Option (List ℕ × List ℕ) →
    Option Parts
by_tests word words dashes dash cut =
    cond dashes (Some (record { names = words; options = [] }))
    (cond dash (behind_dash word words cut) (option_map (with_name word) (parts_of None words)))

same_by_tests : (word : List ℕ) (words : List (List ℕ)) (dashes dash : Bool) (cut : Option (List ℕ × List ℕ))
    → bytes_eq word (codes "--") ≡ dashes → has_dash word ≡ dash → cut_at 61 word ≡ cut
    → parts_of None (word ∷ words) ≡ by_tests word words dashes dash cut
same_by_tests word words dashes dash cut e f g =
    ap (λ b. by_tests word words b (has_dash word) (cut_at 61 word)) e
    ∙ ap (λ b. by_tests word words dashes b (cut_at 61 word)) f
    ∙ ap (λ c. by_tests word words dashes dash c) g

-- a name
pub step_name : (p : Parts) (word : List ℕ) (words : List (List ℕ)) → bytes_eq word (codes "--") ≡ false →
    has_dash word ≡ false
    → followed_by (named p word) (parts_of None words) ≡ followed_by p (parts_of None (word ∷ words))
step_name p word words e plain =
    followed_by-named p word (parts_of None words)
    ∙ ap (followed_by p) (sym (same_by_tests word words false false (cut_at 61 word) e plain refl))

-- an option with its value behind `=`
pub step_option : (p : Parts) (word option value : List ℕ) (words : List (List ℕ))
    → bytes_eq word (codes "--") ≡ false → has_dash word ≡ true → cut_at 61 word ≡ Some (option, value)
    → followed_by (given p option value) (parts_of None words) ≡ followed_by p (parts_of None (word ∷ words))
step_option p word option value words e dash cut =
    followed_by-given p option value (parts_of None words)
    ∙ ap (followed_by p) (sym (same_by_tests word words false true (Some (option, value)) e dash cut))

-- an option that waits for its value
pub step_waiting : (p : Parts) (word : List ℕ) (words : List (List ℕ))
    → bytes_eq word (codes "--") ≡ false → has_dash word ≡ true → cut_at 61 word ≡ None
    → followed_by p (parts_of (Some word) words) ≡ followed_by p (parts_of None (word ∷ words))
step_waiting p word words e dash cut = ap (followed_by p) (sym (same_by_tests word words false true None e dash cut))

-- `--`, behind which all words are names
pub step_dashes : (p : Parts) (word : List ℕ) (words : List (List ℕ)) → bytes_eq word (codes "--") ≡ true
    → Some (record { names = p.names ++ words; options = p.options }) ≡ followed_by p (parts_of None (word ∷ words))
step_dashes p word words e =
    ap (λ options. Some (record { names = p.names ++ words; options = options })) (sym (append-nil p.options))
    ∙ ap (followed_by p) (sym (same_by_tests word words true (has_dash word) (cut_at 61 word) e refl refl))
