-- What a token does among the words of a kind, or behind them, keeps what the frames hold.
use Rattle.std.proofs.Common.{ℕ, List, ◌∷◌, Option, Some, None}
use Rattle.cas_base.specs.declared.kind.Kind.{Kind}
use Rattle.cas_base.specs.declared.kind.Kind.TheVariants.{I32, U32}
use Rattle.cas_base.specs.declared.place.Place.{Place}
use Rattle.cas_lex.specs.declared.token.Token.{Token}
use Rattle.cas_lex.specs.declared.token.TokenKind.{TokenKind}
use Rattle.cas_lex.specs.declared.token.TokenKind.TheVariants as k
use Rattle.cas_lex.specs.declared.token.Word.TheVariants as w
use Rattle.cas_lex.specs.declared.token.Sign.TheVariants as sg
use Rattle.cas_syntax.specs.Expressions as ex
use Rattle.cas_syntax.specs.Expressions.{Perhaps, SpellsKind}
use Rattle.cas_syntax.specs.Statements as s
use Rattle.cas_syntax.specs.Limits.{Limits}
use Rattle.cas_syntax.specs.Tokens.{word}
use Rattle.cas_syntax.specs.Tree.{no_more}
use Rattle.cas_parse.specs.Machine as m
use Rattle.cas_parse.specs.Frames.{Frame}
use Rattle.cas_parse.proofs.Holds as h
use Rattle.cas_parse.proofs.Holds.{LocalAt, KindAt, BudgetOf, Holds, HoldsAfter}
use Rattle.cas_parse.proofs.SoundSimple.{token, near, leaves, join-stmts, require_holds, counted_holds, counted_in_holds}
use Rattle.cas_parse.proofs.SoundItems.{return_kind_holds, parameter_kind_holds}
use Rattle.cas_parse.proofs.SoundCells.{cells_kind_holds}

module _ (limits : Limits) (all : List Token) where
  pub local_started_holds : (kd : Kind) (st : List Frame) (kind : TokenKind) (p : Place) (ts : List Token) →
      LocalAt limits all st kd (token kind p ∷ ts) →
      HoldsAfter limits all ts (m.local_started kd st p kind)
  local_started_holds kd st (k.Name n) p ts hl = hl
  local_started_holds kd st (k.Sign sg.Star) p ts hl = (p, hl)
  local_started_holds kd st _ p ts hl = tt

  -- a token behind the words of a kind
  pub down_kind_holds : {st : List Frame} {start : Option (List Token)} {from : List Token} →
      KindAt limits all st start from → (b : Option ℕ) (kd : Kind) (kind : TokenKind) (p : Place) (ts : List Token) →
      BudgetOf limits b start (token kind p ∷ ts) → SpellsKind kd from (token kind p ∷ ts) →
      HoldsAfter limits all ts (m.down_kind limits (near limits ts) (leaves limits ts) b kd st p kind)
  down_kind_holds (h.cast_at {start} hx) (Some b) kd kind p ts budget hk =
      require_holds limits all sg.CloseParen kind ts _
      (λ e. counted_holds limits all b start (token kind p) ts _ budget
      (λ budget'. (start, budget', h.before_at hx (λ j x r hr. ex.a_cast j kd x _ p _ ts r (rw e at hk) hr))))
  down_kind_holds (h.cast_at hx) None kd kind p ts budget hk = absurd budget
  down_kind_holds (h.locals_at {n} hl hs al) b kd kind p ts budget hk =
      local_started_holds kd _ kind p ts
      (h.of_list hl (λ cs q u hc. join-stmts hs cs u (s.locals n kd cs no_more q _ _ _ _ al hk hc (s.ended n u))))
  down_kind_holds (h.first_kind_at hf al) b kd kind p ts budget hk =
      local_started_holds kd _ kind p ts (h.of_for hf al hk)
  down_kind_holds (h.return_at {d} {items} {st} {s = t} hi) b kd kind p ts budget hk =
      return_kind_holds limits all d kd items st t kind p ts hi hk
  down_kind_holds (h.parameter_kind_at {o} {tys} {xs} {items} {st} {s = t} hp) b kd kind p ts budget hk =
      parameter_kind_holds limits all o tys xs kd items st t kind p ts hp hk
  down_kind_holds (h.cells_kind_at {sort} {d} {items} {st} {s = t} hs) b kd kind p ts budget hk =
      cells_kind_holds limits all (record { sort = sort; defined = d; kind = kd }) items st t kind p ts hs hk

  pub want_kind_holds : (b : Option ℕ) (st : List Frame) (start : Option (List Token)) (kind : TokenKind) (p : Place)
      (ts : List Token) → BudgetOf limits b start (token kind p ∷ ts) →
      KindAt limits all st start (token kind p ∷ ts) →
      HoldsAfter limits all ts (m.want_kind limits (near limits ts) (leaves limits ts) b st kind)
  want_kind_holds b st start (k.Word w.Char) p ts budget hk =
      counted_in_holds limits all b start _ ts _ budget
      (λ budget'. (start, token (k.Word w.Char) p ∷ ts, budget', hk, ex.char p _ ts (ex.without _)))
  want_kind_holds b st start (k.Word w.Short) p ts budget hk =
      counted_in_holds limits all b start _ ts _ budget
      (λ budget'. (start, token (k.Word w.Short) p ∷ ts, budget', hk, λ r hi. ex.short p _ ts r (ex.without _) hi))
  want_kind_holds b st start (k.Word w.Int) p ts budget hk =
      counted_in_holds limits all b start _ ts _ budget
      (λ budget'. (start, token (k.Word w.Int) p ∷ ts, budget', hk, ex.int p ts))
  want_kind_holds b st start (k.Word w.Unsigned) p ts budget hk =
      counted_in_holds limits all b start _ ts _ budget (λ budget'. (start, p, budget', hk))
  want_kind_holds b st start (k.Word w.Signed) p ts budget hk =
      counted_in_holds limits all b start _ ts _ budget (λ budget'. (start, p, budget', hk))
  want_kind_holds b st start _ p ts budget hk = tt

  pub after_signed_holds : (b : Option ℕ) (st : List Frame) (start : Option (List Token)) (q : Place) (kind : TokenKind)
      (p : Place) (ts : List Token) → BudgetOf limits b start (token kind p ∷ ts) →
      KindAt limits all st start (word w.Signed q ∷ token kind p ∷ ts) →
      HoldsAfter limits all ts (m.after_signed limits (near limits ts) (leaves limits ts) b st p kind)
  after_signed_holds b st start q (k.Word w.Char) p ts budget hk =
      counted_in_holds limits all b start _ ts _ budget
      (λ budget'. (start, _, budget', hk, ex.char p _ ts (ex.with_it q _)))
  after_signed_holds b st start q (k.Word w.Short) p ts budget hk =
      counted_in_holds limits all b start _ ts _ budget
      (λ budget'. (start, _, budget', hk, λ r hi. ex.short p _ ts r (ex.with_it q _) hi))
  after_signed_holds b st start q (k.Word w.Int) p ts budget hk =
      counted_in_holds limits all b start _ ts _ budget
      (λ budget'. (start, _, budget', hk, ex.signed q _ ts (ex.with_it p ts)))
  after_signed_holds b st start q kind p ts budget hk =
      down_kind_holds hk b I32 kind p ts budget (ex.signed q _ _ (ex.without _))

  pub after_unsigned_holds : (b : Option ℕ) (st : List Frame) (start : Option (List Token)) (q : Place)
      (kind : TokenKind) (p : Place) (ts : List Token) → BudgetOf limits b start (token kind p ∷ ts) →
      KindAt limits all st start (word w.Unsigned q ∷ token kind p ∷ ts) →
      HoldsAfter limits all ts (m.after_unsigned limits (near limits ts) (leaves limits ts) b st p kind)
  after_unsigned_holds b st start q (k.Word w.Char) p ts budget hk =
      counted_in_holds limits all b start _ ts _ budget (λ budget'. (start, _, budget', hk, ex.unsigned_char q p ts))
  after_unsigned_holds b st start q (k.Word w.Short) p ts budget hk =
      counted_in_holds limits all b start _ ts _ budget
      (λ budget'. (start, _, budget', hk, λ r hi. ex.unsigned_short q p ts r hi))
  after_unsigned_holds b st start q (k.Word w.Int) p ts budget hk =
      counted_in_holds limits all b start _ ts _ budget
      (λ budget'. (start, _, budget', hk, ex.unsigned q _ ts (ex.with_it p ts)))
  after_unsigned_holds b st start q kind p ts budget hk =
      down_kind_holds hk b U32 kind p ts budget (ex.unsigned q _ _ (ex.without _))

  pub may_end_int_holds : (b : Option ℕ) (kd : Kind) (st : List Frame) (start : Option (List Token)) (from : List Token)
      (kind : TokenKind) (p : Place) (ts : List Token) →
      BudgetOf limits b start (token kind p ∷ ts) → KindAt limits all st start from →
      ((r : List Token) → Perhaps w.Int (token kind p ∷ ts) r → SpellsKind kd from r) →
      HoldsAfter limits all ts (m.may_end_int limits (near limits ts) (leaves limits ts) b kd st p kind)
  may_end_int_holds b kd st start from (k.Word w.Int) p ts budget hk more =
      counted_in_holds limits all b start _ ts _ budget
      (λ budget'. (start, from, budget', hk, more ts (ex.with_it p ts)))
  may_end_int_holds b kd st start from kind p ts budget hk more =
      down_kind_holds hk b kd kind p ts budget (more _ (ex.without _))
