use Rattle.std.proofs.Common.{◌≡◌, ◌≢◌, ℕ, ◌<◌, ◌≤◌, ◌++◌, ◌∷◌, [], List, take, drop, length, append_assoc, append-nil, refl, sym, ap, ◌∙◌, arith, rules}
use Rattle.std.proofs.lemmas.Grind.{common_steps}
use Rattle.cas_lex.specs.declared.token.Token.{Token}
use Rattle.cas_lex.specs.declared.token.TokenKind.{TokenKind}
use Rattle.cas_lex.specs.declared.front.Front.TheVariants as f
use Rattle.cas_lex.specs.Front.{front}
use Rattle.cas_lex.specs.Lexed.{Lexed, Stop, at_end, at_fault, ends, skips, takes, fails, met}
use Rattle.cas_lex.specs.Places.{behind}
use Rattle.cas_lex.proofs.Within.{front-within}
use Rattle.cas_lex.proofs.lexing.tokens_of.Goals as goal
use Rattle.cas_lex.proofs.lexing.tokens_of.Goals.{in-Blank, in-Token+in_ok-push-in-Token}

is_nil : (xs : List ℕ) → length xs ≡ 0 → xs ≡ []
is_nil [] h = refl
is_nil (x ∷ xs) h = absurd (omega arith)

pub returns-in-Fault : goal.returns-in-Fault
returns-in-Fault c =
    let place = c.fronts.place in
    let rest = c.fronts.rest.now in
    let some : (rest ≡ [] → ⊥) = search rules in
    met c.args.text.now (c.fronts.tokens.items ++ []) c.in-Fault.code place c.requires.utf8
    (c.fronts.invariant.lexed [] (at_fault c.in-Fault.code place)
    (fails place rest c.in-Fault.code some (sym c.in_ok-len.ensures ∙ c.in-Fault.is)))

-- what a front goes past is within the text
blank-within : (text : List ℕ) (n : ℕ) → text ≢ [] → front text ≡ f.Blank n → (0 < n) × (n ≤ length text)
blank-within text n some is = rw is at (front-within text some)

token-within : (text : List ℕ) (kind : TokenKind) (n : ℕ) → text ≢ [] → front text ≡ f.Token kind n → (0 < n)
    × (n ≤ length text)
token-within text kind n some is = rw is at (front-within text some)

pub split_at-requires : goal.split_at-requires
split_at-requires c =
    let rest = c.fronts.rest.now in
    let some : (rest ≡ [] → ⊥) = search rules in
    elim c.match-branch-2.branch [
      | in-Blank w ↦ (blank-within rest c.match-branch-2.len some
          (sym c.in_ok-len.ensures ∙ (w.in-Blank.is ∙ ap f.Blank (sym w.len-is)))).1
      | in-Token+in_ok-push-in-Token w ↦ (token-within rest w.in-Token.kind c.match-branch-2.len some
          (sym c.in_ok-len.ensures ∙ (w.in-Token.is ∙ ap (f.Token w.in-Token.kind) (sym w.len-is)))).1
    ]

pub fronts-smaller : goal.fronts-smaller
fronts-smaller c =
    let rest = c.fronts.rest.now in
    let some : (rest ≡ [] → ⊥) = search rules in
    let positive : 0 < c.match-branch-2.len = elim c.match-branch-2.branch [
      | in-Blank w ↦ (blank-within rest c.match-branch-2.len some
          (sym c.in_ok-len.ensures ∙ (w.in-Blank.is ∙ ap f.Blank (sym w.len-is)))).0
      | in-Token+in_ok-push-in-Token w ↦ (token-within rest w.in-Token.kind c.match-branch-2.len some
          (sym c.in_ok-len.ensures ∙ (w.in-Token.is ∙ ap (f.Token w.in-Token.kind) (sym w.len-is)))).0
    ] in
    grind (arith, common_steps)

pub fronts-preserved : goal.fronts-preserved
fronts-preserved c =
    let place = c.fronts.place in
    let rest = c.fronts.rest.now in
    let n = c.match-branch-2.len in
    let some : (rest ≡ [] → ⊥) = search rules in
    let on : (tokens : List Token) (stop : Stop) → Lexed c.behind-place.result c.split_at.result.1.now tokens stop →
    Lexed (behind place (take n rest)) (drop n rest) tokens stop = λ tokens stop h.
    rw (sym c.split_at.ensures.front, sym c.split_at.ensures.back, sym c.behind-place.ensures.value) h
    in
    record {
      lexed = λ tokens stop h. elim c.match-branch-2.branch [
        | in-Blank w ↦ rw w.tokens-is (c.fronts.invariant.lexed tokens stop
            (skips place rest n tokens stop some (sym c.in_ok-len.ensures ∙ (w.in-Blank.is ∙ ap f.Blank (sym w.len-is)))
            (on tokens stop h)))
        | in-Token+in_ok-push-in-Token w ↦
            let token : Token = record { kind = w.in-Token.kind; place = place } in
            rw (w.tokens-is, w.in_ok-push-in-Token.ensures.items, append_assoc)
            (c.fronts.invariant.lexed (token ∷ tokens) stop
            (takes place rest w.in-Token.kind n tokens stop some
            (sym c.in_ok-len.ensures ∙ (w.in-Token.is ∙ ap (f.Token w.in-Token.kind) (sym w.len-is)))
            (on tokens stop h)))
      ];
      lines = grind (arith, common_steps);
      columns = grind (arith, common_steps);
    }

pub returns : goal.returns
returns c =
    let none : c.fronts.rest.now ≡ [] = is_nil _ (grind arith) in (
      c.requires.utf8,
      rw (sym (append-nil c.fronts.tokens.items))
          (c.fronts.invariant.lexed [] at_end (rw none (ends c.fronts.place))),
    )
