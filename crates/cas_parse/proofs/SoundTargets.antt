-- What a token of an assignment, a call or a local does keeps what the frames hold.
use Rattle.std.proofs.Common.{◌≡◌, ℕ, List, ◌∷◌, Option, Some, None, refl, sym}
use Rattle.cas_base.specs.declared.kind.Kind.{Kind}
use Rattle.cas_base.specs.declared.kind.Ty.TheVariants.{Ptr, Array}
use Rattle.cas_base.specs.declared.place.Place.{Place}
use Rattle.cas_lex.specs.declared.token.Token.{Token}
use Rattle.cas_lex.specs.declared.token.TokenKind.{TokenKind}
use Rattle.cas_lex.specs.declared.token.TokenKind.TheVariants as k
use Rattle.cas_lex.specs.declared.token.Sign.{Sign}
use Rattle.cas_lex.specs.declared.token.Sign.TheVariants as sg
use Rattle.cas_syntax.specs.declared.tree.Ident.{Ident}
use Rattle.cas_syntax.specs.declared.tree.BinaryOperator.{BinaryOperator}
use Rattle.cas_syntax.specs.declared.tree.BinaryOperator.TheVariants.{Add, Sub, Mul, Div, Mod, Shl, Shr, BitAnd, BitOr, BitXor}
use Rattle.cas_syntax.specs.Operators.{assigning_sign}
use Rattle.cas_syntax.specs.Statements as s
use Rattle.cas_syntax.specs.Statements.{SpellsTarget}
use Rattle.cas_syntax.specs.Limits.{Limits}
use Rattle.cas_syntax.specs.Tokens.{sign, ident, number}
use Rattle.cas_syntax.specs.Tree.{TargetTree, to_name, to_deref, name, nothing, declare, skip}
use Rattle.cas_parse.specs.Machine as m
use Rattle.cas_parse.specs.Machine.{assigning, at, stepped}
use Rattle.cas_parse.specs.Frames.{Use, Written, Stepped, Frame, HaveLocal}
use Rattle.cas_parse.proofs.Holds as h
use Rattle.cas_parse.proofs.Holds.{SimpleAt, LocalAt, UseAt, TakesCalls, Holds, HoldsAfter}
use Rattle.cas_parse.proofs.SoundSimple.{token, near, leaves, leave_holds, ended_holds, local_ended_holds, reached_holds}

abbrev pub Assigns : TokenKind → BinaryOperator → Type 0
Assigns kind op = (by : Sign) × (kind ≡ k.Sign by) × (assigning_sign op ≡ Some by)

same-assigns : (kind : TokenKind) (a op : BinaryOperator) → Some a ≡ Some op → Assigns kind a → Assigns kind op
same-assigns kind a op e given = let same : a ≡ op = cc in rw (sym same) given

assigning-kind : (kind : TokenKind) (op : BinaryOperator) → assigning kind ≡ Some op → Assigns kind op
assigning-kind (k.Sign sg.PlusEqual) op e = same-assigns _ Add op e (sg.PlusEqual, refl, refl)
assigning-kind (k.Sign sg.MinusEqual) op e = same-assigns _ Sub op e (sg.MinusEqual, refl, refl)
assigning-kind (k.Sign sg.StarEqual) op e = same-assigns _ Mul op e (sg.StarEqual, refl, refl)
assigning-kind (k.Sign sg.SlashEqual) op e = same-assigns _ Div op e (sg.SlashEqual, refl, refl)
assigning-kind (k.Sign sg.PercentEqual) op e = same-assigns _ Mod op e (sg.PercentEqual, refl, refl)
assigning-kind (k.Sign sg.ShiftLeftEqual) op e = same-assigns _ Shl op e (sg.ShiftLeftEqual, refl, refl)
assigning-kind (k.Sign sg.ShiftRightEqual) op e = same-assigns _ Shr op e (sg.ShiftRightEqual, refl, refl)
assigning-kind (k.Sign sg.AndEqual) op e = same-assigns _ BitAnd op e (sg.AndEqual, refl, refl)
assigning-kind (k.Sign sg.OrEqual) op e = same-assigns _ BitOr op e (sg.OrEqual, refl, refl)
assigning-kind (k.Sign sg.CaretEqual) op e = same-assigns _ BitXor op e (sg.CaretEqual, refl, refl)
assigning-kind _ op e = absurd (cc)

module _ (limits : Limits) (all : List Token) where
  -- targets

  changed_by_holds : (first : Token) (u : List Token) (target : TargetTree) (st : List Frame) (kind : TokenKind)
      (o : Option BinaryOperator) (p : Place) (ts : List Token) →
      assigning kind ≡ o → SimpleAt limits all st (first ∷ u) →
      SpellsTarget limits target (first ∷ u) (token kind p ∷ ts) →
      HoldsAfter limits all ts (m.changed_by limits (near limits ts) (leaves limits ts) first.place target st kind o)
  changed_by_holds first u target st kind None p ts e hs ht = tt
  changed_by_holds first u target st kind (Some op) p ts e hs ht = by_sign (assigning-kind kind op e)
    where
      by_sign : Assigns kind op → HoldsAfter limits all ts
          (m.changed_by limits (near limits ts) (leaves limits ts) first.place target st kind (Some op))
      by_sign (by, e', e'') = h.as_assigned hs (λ a r ha. s.changes target op by a first p u ts r e'' (rw e' at ht) ha)

  after_target_holds : (first : Token) (u : List Token) (target : TargetTree) (st : List Frame) (kind : TokenKind)
      (p : Place) (ts : List Token) →
      SimpleAt limits all st (first ∷ u) → SpellsTarget limits target (first ∷ u) (token kind p ∷ ts) →
      (kind ≡ k.Sign sg.Equal → TakesCalls target) →
      HoldsAfter limits all ts (m.after_target limits (near limits ts) (leaves limits ts) first.place target st kind)
  after_target_holds first u target st (k.Sign sg.Equal) p ts hs ht takes =
      h.as_assigned hs (λ a r ha. s.sets target a first p u ts r ht (takes refl ts) ha)
  after_target_holds first u target st (k.Sign sg.PlusPlus) p ts hs ht takes =
      (first ∷ u, hs, s.increments target first p u ts ht)
  after_target_holds first u target st (k.Sign sg.MinusMinus) p ts hs ht takes =
      (first ∷ u, hs, s.decrements target first p u ts ht)
  after_target_holds first u target st kind p ts hs ht takes =
      changed_by_holds first u target st kind (assigning kind) p ts refl hs ht

  pub target_taken_holds : {q : Place} {st : List Frame} {from : List Token} → UseAt limits all (Written q) st from →
      (target : TargetTree) (kind : TokenKind) (p : Place) (ts : List Token) →
      SpellsTarget limits target from (token kind p ∷ ts) → TakesCalls target →
      HoldsAfter limits all ts (m.after_target limits (near limits ts) (leaves limits ts) q target st kind)
  target_taken_holds (h.written {first} {st} {s = u} hs) target kind p ts ht takes =
      after_target_holds first u target st kind p ts hs ht (λ e. takes)

  pub after_name_holds : (x : Ident) (st : List Frame) (kind : TokenKind) (p : Place) (ts : List Token) →
      SimpleAt limits all st (ident x ∷ token kind p ∷ ts) →
      HoldsAfter limits all ts (m.after_name limits (near limits ts) (leaves limits ts) x st kind)
  after_name_holds x st (k.Sign sg.OpenBracket) p ts hs = h.in_target (h.written hs)
  after_name_holds x st (k.Sign sg.OpenParen) p ts hs = h.alone hs
  after_name_holds x st (k.Sign sg.Equal) p ts hs = h.assigned hs
  after_name_holds x st kind p ts hs = after_target_holds (ident x) _ (to_name x) st kind p ts hs (s.a_variable x _)
      (λ e. absurd (cc))

  pub after_star_holds : (usage : Use) (st : List Frame) (q : Place) (kind : TokenKind) (p : Place) (ts : List Token) →
      UseAt limits all usage st (sign sg.Star q ∷ token kind p ∷ ts) →
      HoldsAfter limits all ts (m.after_star limits (near limits ts) (leaves limits ts) usage st p kind)
  after_star_holds usage st q (k.Name n) p ts hu = reached_holds limits all hu (to_deref (name (at n p))) ts
      (s.behind_name (at n p) q ts) (λ tokens. tt)
  after_star_holds usage st q (k.Sign sg.OpenParen) p ts hu = h.behind_star hu
  after_star_holds usage st q _ p ts hu = tt

  pub want_target_holds : (q : Place) (op : BinaryOperator) (st : List Frame) (kind : TokenKind) (p : Place)
      (ts : List Token) → UseAt limits all (Stepped q op) st (token kind p ∷ ts) →
      HoldsAfter limits all ts (m.want_target limits (near limits ts) (leaves limits ts) q op st p kind)
  want_target_holds q op st (k.Name n) p ts hu = hu
  want_target_holds q op st (k.Sign sg.Star) p ts hu = (p, hu)
  want_target_holds q op st _ p ts hu = tt

  stepped_done : {q : Place} {op : BinaryOperator} {st : List Frame} {from : List Token} →
      UseAt limits all (Stepped q op) st from → (target : TargetTree) (kind : TokenKind) (p : Place) (ts : List Token) →
      SpellsTarget limits target from (token kind p ∷ ts) →
      HoldsAfter limits all ts (m.ended (stepped q target op) st kind)
  stepped_done (h.increased hs) target kind p ts ht = ended_holds limits all hs _ kind p ts
      (s.increments_first target _ _ _ ht)
  stepped_done (h.decreased hs) target kind p ts ht = ended_holds limits all hs _ kind p ts
      (s.decrements_first target _ _ _ ht)

  pub stepped_name_holds : (q : Place) (op : BinaryOperator) (x : Ident) (st : List Frame) (kind : TokenKind)
      (p : Place) (ts : List Token) →
      UseAt limits all (Stepped q op) st (ident x ∷ token kind p ∷ ts) →
      HoldsAfter limits all ts (m.stepped_name limits (near limits ts) (leaves limits ts) q op x st kind)
  stepped_name_holds q op x st (k.Sign sg.OpenBracket) p ts hu = h.in_target hu
  stepped_name_holds q op x st kind p ts hu = stepped_done hu (to_name x) kind p ts (s.a_variable x _)

  pub simple_started_holds : (st : List Frame) (kind : TokenKind) (p : Place) (ts : List Token) →
      SimpleAt limits all st (token kind p ∷ ts) →
      HoldsAfter limits all ts (m.simple_started limits (near limits ts) (leaves limits ts) st p kind)
  simple_started_holds st (k.Name n) p ts hs = hs
  simple_started_holds st (k.Sign sg.Star) p ts hs = (p, h.written hs)
  simple_started_holds st (k.Sign sg.PlusPlus) p ts hs = h.increased hs
  simple_started_holds st (k.Sign sg.MinusMinus) p ts hs = h.decreased hs
  simple_started_holds st _ p ts hs = tt

  -- locals

  pub local_name_holds : (kd : Kind) (x : Ident) (st : List Frame) (kind : TokenKind) (p : Place) (ts : List Token) →
      LocalAt limits all st kd (ident x ∷ token kind p ∷ ts) →
      HoldsAfter limits all ts (m.local_name limits (near limits ts) (leaves limits ts) kd x st kind)
  local_name_holds kd x st (k.Sign sg.OpenBracket) p ts hl = (p, hl)
  local_name_holds kd x st (k.Sign sg.Equal) p ts hl = h.begun hl
  local_name_holds kd x st kind p ts hl = local_ended_holds limits all hl _ kind p ts
      (s.variable x nothing _ _ (s.no_value _))

  pub local_star_holds : (kd : Kind) (st : List Frame) (q : Place) (kind : TokenKind) (p : Place) (ts : List Token) →
      LocalAt limits all st kd (sign sg.Star q ∷ token kind p ∷ ts) →
      HoldsAfter limits all ts (m.local_star limits (near limits ts) (leaves limits ts) kd st p kind)
  local_star_holds kd st q (k.Name n) p ts hl = (q, hl)
  local_star_holds kd st q (k.Sign sg.Star) p ts hl = leave_holds limits all (HaveLocal (skip p)) st ts
      (λ lo. (kd, _, hl, s.pointer_to_pointer q p ts lo))
  local_star_holds kd st q _ p ts hl = tt

  pub local_pointer_holds : (kd : Kind) (x : Ident) (st : List Frame) (q : Place) (kind : TokenKind) (p : Place)
      (ts : List Token) →
      LocalAt limits all st kd (sign sg.Star q ∷ ident x ∷ token kind p ∷ ts) →
      HoldsAfter limits all ts (m.local_pointer limits (near limits ts) (leaves limits ts) kd x st kind)
  local_pointer_holds kd x st q (k.Sign sg.Equal) p ts hl = h.begun_pointer hl
  local_pointer_holds kd x st q (k.Sign sg.OpenBracket) p ts hl =
      leave_holds limits all (HaveLocal (declare x.place (Ptr kd) x nothing)) st ts
      (λ lo. (kd, _, hl, s.pointers x q p ts lo))
  local_pointer_holds kd x st q kind p ts hl = local_ended_holds limits all hl _ kind p ts
      (s.pointer x nothing _ _ _ (s.no_value _))

  pub local_length_holds : (kd : Kind) (x : Ident) (st : List Frame) (o : Place) (kind : TokenKind) (p : Place)
      (ts : List Token) →
      LocalAt limits all st kd (ident x ∷ sign sg.OpenBracket o ∷ token kind p ∷ ts) →
      HoldsAfter limits all ts (m.local_length limits (near limits ts) (leaves limits ts) kd x st kind)
  local_length_holds kd x st o (k.Literal n j) p ts hl = λ q us e. (j, o, p, q, rw e at hl)
  local_length_holds kd x st o _ p ts hl = tt

  pub local_array_holds : (kd : Kind) (x : Ident) (n : ℕ) (st : List Frame) (j : Kind) (a b c : Place)
      (kind : TokenKind) (p : Place) (ts : List Token) →
      LocalAt limits all st kd (ident x ∷ sign sg.OpenBracket a ∷ number n j b ∷ sign sg.CloseBracket c ∷ token kind p ∷
      ts) →
      HoldsAfter limits all ts (m.local_array limits (near limits ts) (leaves limits ts) kd x n st kind)
  local_array_holds kd x n st j a b c (k.Sign sg.OpenBracket) p ts hl =
      leave_holds limits all (HaveLocal (declare x.place (Array kd n) x nothing)) st ts
      (λ lo. (kd, _, hl, s.arrays x n j a b c p ts lo))
  local_array_holds kd x n st j a b c (k.Sign sg.Equal) p ts hl =
      leave_holds limits all (HaveLocal (declare x.place (Array kd n) x nothing)) st ts
      (λ lo. (kd, _, hl, s.array_values x n j a b c p ts lo))
  local_array_holds kd x n st j a b c kind p ts hl = local_ended_holds limits all hl _ kind p ts (s.array x n j a b c _)
