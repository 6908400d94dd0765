-- A text of a module is read as one module or has one first fault, and not both.
use Rattle.std.proofs.Common.{◌≡◌, ℕ, ◌⊎◌, inl, inr, List, ap, subst}
use Rattle.cas_base.specs.declared.place.Place.{Place}
use Rattle.cas_lex.specs.declared.code.ReadCode.{ReadCode}
use Rattle.cas_lex.specs.declared.token.Token.{Token}
use Rattle.cas_lex.specs.Lexed.{HasTokens, IsLexed}
use Rattle.cas_lex.specs.Places.{start, behind}
use Rattle.cas_lex.proofs.Once.{HasTokens-once, HasTokens-no_fault, HasFault-once}
use Rattle.cas_lex.proofs.Total.{lexed-total}
use Rattle.cas_syntax.specs.Reading.{IsModule, IsReadAs, HasSyntaxFault, HasReadFault, lexical, syntactic}
use Rattle.cas_syntax.specs.Tree.{ItemTree, ModuleTree}
use Rattle.cas_parse.proofs.Faults.{one_tree, one_fault, not_both, tree_or_fault}

pub one_module : (text : List ℕ) (m n : ModuleTree) → IsReadAs text m → IsReadAs text n → m ≡ n
one_module text m n (ts, h, a) (us, k, b) =
    let same : us ≡ ts = HasTokens-once text us ts k h in
    let items : m.items ≡ n.items = one_tree ts m.items n.items a
    (subst (λ (us : List Token). IsModule n.items us) same b) in
    ap (λ (items : List ItemTree). record { items = items }) items

pub one_read_fault : (text : List ℕ) (c d : ReadCode) (p q : Place) → HasReadFault text c p → HasReadFault text d q →
    (c ≡ d) × (p ≡ q)
one_read_fault text c d p q (lexical _ _ a) (lexical _ _ b) = HasFault-once text c d p q a b
one_read_fault text c d p q (lexical _ _ a) (syntactic us _ _ k b) = absurd (HasTokens-no_fault text us c p k a)
one_read_fault text c d p q (syntactic ts _ _ h a) (lexical _ _ b) = absurd (HasTokens-no_fault text ts d q h b)
one_read_fault text c d p q (syntactic ts _ _ h a) (syntactic us _ _ k b) =
    let same : us ≡ ts = HasTokens-once text us ts k h in
    one_fault ts (behind start text) c d p q a (subst (λ (us : List Token). HasSyntaxFault us (behind start text) d q)
    same b)

pub no_module_and_fault : (text : List ℕ) (m : ModuleTree) (c : ReadCode) (p : Place) → IsReadAs text m →
    HasReadFault text c p → ⊥
no_module_and_fault text m c p (ts, h, a) (lexical _ _ b) = HasTokens-no_fault text ts c p h b
no_module_and_fault text m c p (ts, h, a) (syntactic us _ _ k b) =
    let same : us ≡ ts = HasTokens-once text us ts k h in
    not_both ts m.items (behind start text) c p a
    (subst (λ (us : List Token). HasSyntaxFault us (behind start text) c p) same b)

pub module_or_fault : (text : List ℕ) → ((m : ModuleTree) × IsReadAs text m)
    ⊎ ((c : ReadCode) × (p : Place) × HasReadFault text c p)
module_or_fault text = by_lexed (lexed-total text)
  where
    by_tokens : (ts : List Token) → HasTokens text ts → ((items : List ItemTree) × IsModule items ts)
        ⊎ ((c : ReadCode) × (p : Place) × HasSyntaxFault ts (behind start text) c p) →
        ((m : ModuleTree) × IsReadAs text m) ⊎ ((c : ReadCode) × (p : Place) × HasReadFault text c p)
    by_tokens ts h (inl (items, a)) = inl (record { items = items }, (ts, h, a))
    by_tokens ts h (inr (c, p, b)) = inr (c, p, syntactic ts c p h b)

    by_lexed : IsLexed text → ((m : ModuleTree) × IsReadAs text m)
        ⊎ ((c : ReadCode) × (p : Place) × HasReadFault text c p)
    by_lexed (inl (ts, h)) = by_tokens ts h (tree_or_fault ts (behind start text))
    by_lexed (inr (c, p, b)) = inr (c, p, lexical c p b)
