-- What one unit says another may hear, however many units there are; and what is known stays right.
use Rattle.std.proofs.Common.{◌≡◌, ℕ, zero, suc, ◌≤◌, ◌<◌, nat_eq, Bool, true, false, List, [], ◌∷◌, length, ◌⊎◌, Option, Some, None, slice_get, inl, inr, refl, sym, ap, ◌∙◌, subst, ⊎_elim, arith, eqb-true}
use Rattle.std.proofs.lemmas.Bool.{eqb-false}
use Rattle.cas_runs.specs.Label.{Each, Inside, Outside, Object, Crossing}
use Rattle.cas_base.specs.declared.kind.Kind.{Kind}
use Rattle.cas_runs.specs.Edge.{most_cells}
use Rattle.cas_runs.specs.Outside.{Fills, AreWordsOf, Changes, ChangesTo}
use Rattle.cas_runs.specs.Rules.{Leaves, LeavesContents, LeavesAll, IsOwn, OwnContents, ShowsWords, AllShowWords, AreSized}
use Rattle.cas_runs.specs.Receiving.{IsSame, IsAgain, Lasts, IsEmitted, IsReceivedAs}
use Rattle.cas_runs.specs.Known.{set, AreNumbers, Known, OwnerFits, WasSeen, AllSeen, OnlySeen, UpToDate, IsObject, IsKnown, at_unit, renumber, Exchanged, nothing_known}
use Rattle.cas_runs.proofs.Families.{set_all, set_one}

pub not_none : {X : Type 0} {x : X} {o : Option X} → o ≡ Some x → o ≡ None → ⊥
not_none e f = let no : ⊥ = cc (e, f) in no

pub inside_outside : Inside ≡ Outside → ⊥
inside_outside e = let no : ⊥ = cc e in no

pub some_or_none : {X : Type 0} (o : Option X) → ((x : X) × (o ≡ Some x)) ⊎ (o ≡ None)
some_or_none None = inr refl
some_or_none (Some x) = inl (x, refl)

pub same_or_not : (i j : ℕ) → (i ≡ j) ⊎ (i ≡ j → ⊥)
same_or_not i j = by (nat_eq i j) refl
  where
    by : (e : Bool) → nat_eq i j ≡ e → (i ≡ j) ⊎ (i ≡ j → ⊥)
    by true e = inl (eqb-true i j e)
    by false e = inr (eqb-false i j e)

pub got_short : {X : Type 0} (xs : List X) (n : ℕ) (x : X) → slice_get xs n ≡ Some x → n < length xs
got_short [] n x e = absurd (cc e)
got_short (y ∷ xs) zero x e = omega arith
got_short (y ∷ xs) (suc n) x e = omega (arith, got_short xs n x e)

leaves_at : (os news : List Object) → LeavesAll os news → (n : ℕ) (o p : Object) → slice_get os n ≡ Some o →
    slice_get news n ≡ Some p → Leaves o p
leaves_at [] news h n o p e f = absurd (cc e)
leaves_at (q ∷ os) [] h n o p e f = absurd (cc f)
leaves_at (q ∷ os) (r ∷ news) h zero o p e f = let one : q ≡ o = cc e in let two : r ≡ p =
    cc f in subst (λ v. Leaves v p) one (subst (λ v. Leaves q v) two h.0)
leaves_at (q ∷ os) (r ∷ news) h (suc n) o p e f = leaves_at os news h.1 n o p e f

own_at : (news : List Object) → Each IsOwn news → (n : ℕ) (p : Object) → slice_get news n ≡ Some p → IsOwn p
own_at [] h n p e = absurd (cc e)
own_at (r ∷ news) h zero p e = let one : r ≡ p = cc e in subst IsOwn one h.0
own_at (r ∷ news) h (suc n) p e = own_at news h.1 n p e

own_past : (os news : List Object) → LeavesAll os news → (n : ℕ) (p : Object) → length os ≤ n →
    slice_get news n ≡ Some p → IsOwn p
own_past [] news h n p past e = own_at news h n p e
own_past (q ∷ os) [] h n p past e = absurd (cc e)
own_past (q ∷ os) (r ∷ news) h zero p past e = absurd (omega (arith, past))
own_past (q ∷ os) (r ∷ news) h (suc n) p past e = own_past os news h.1 n p (omega (arith, past)) e

pub words_at : (os : List Object) → AllShowWords os → (n : ℕ) (o : Object) → slice_get os n ≡ Some o →
    ShowsWords o o.contents
words_at [] h n o e = absurd (cc e)
words_at (q ∷ os) h zero o e = let one : q ≡ o = cc e in subst (λ v. ShowsWords v v.contents) one h.0
words_at (q ∷ os) h (suc n) o e = words_at os h.1 n o e

sized_at : (os : List Object) → AreSized os → (n : ℕ) (o : Object) → slice_get os n ≡ Some o → (1 ≤ o.size)
    × (o.size ≤ most_cells)
sized_at [] h n o e = absurd (cc e)
sized_at (q ∷ os) h zero o e = let one : q ≡ o = cc e in
    subst (λ (v : Object). (1 ≤ v.size) × (v.size ≤ most_cells)) one h.0
sized_at (q ∷ os) h (suc n) o e = sized_at os h.1 n o e

-- how many words an object shows, as the unit may leave it
left_length : (o p : Object) (old : Option (List (Option ℕ))) → LeavesContents o old p.contents → p.size ≡ o.size →
    (ws : List (Option ℕ)) → p.contents ≡ Some ws → length ws ≡ p.size
left_length o p (Some old) h size ws e = let k : LeavesContents o (Some old) (Some ws) =
    subst (λ v. LeavesContents o (Some old) v) e h in k ∙ sym size
left_length o p None h size ws e = absurd (subst (λ v. LeavesContents o None v) e h)

own_length : (p : Object) → OwnContents p p.contents → (ws : List (Option ℕ)) → p.contents ≡ Some ws →
    length ws ≡ p.size
own_length p h ws e = subst (λ v. OwnContents p v) e h

emitted_length : (os news : List Object) → LeavesAll os news → (n : ℕ) (p : Object) → slice_get news n ≡ Some p →
    (ws : List (Option ℕ)) → p.contents ≡ Some ws → length ws ≡ p.size
emitted_length [] news h n p e ws f = own_length p (own_at news h n p e).contents ws f
emitted_length (q ∷ os) [] h n p e ws f = absurd (cc e)
emitted_length (q ∷ os) (r ∷ news) h zero p e ws f = let one : r ≡ p = cc e in let k : Leaves q p =
    subst (λ v. Leaves q v) one h.0 in left_length q p q.contents k.contents k.size ws f
emitted_length (q ∷ os) (r ∷ news) h (suc n) p e ws f = emitted_length os news h.1 n p e ws f

-- an object that is said in kind
emitted_object : (os news : List Object) → LeavesAll os news → AllShowWords news → AreSized news →
    (n : ℕ) (p : Object) → slice_get news n ≡ Some p → IsObject p
emitted_object os news leaves words sizes n p e =
    let sized = sized_at news sizes n p e in
    record {
      fills = λ ws f. record {
        size = emitted_length os news leaves n p e ws f;
        kinds = subst (λ v. ShowsWords p v) f
            (words_at news words n p e);
      };
      least = sized.0;
      most = sized.1;
    }

pub same_object : (o p : Object) → IsSame o p → IsObject o → IsObject p
same_object o p s h = record {
  fills = λ ws e. let f = h.fills ws (sym s.contents ∙ e) in
      record { size = f.size ∙ sym s.size; kinds = subst (λ (v : Kind). AreWordsOf v ws) (sym s.kind) f.kinds };
  least = subst (λ v. 1 ≤ v) (sym s.size) h.least;
  most = subst (λ v. v ≤ most_cells) (sym s.size) h.most;
}

pub same_both : (o p q : Object) → IsSame o p → IsSame p q → IsSame o q
same_both o p q h k = record {
  owner = tt;
  kind = k.kind ∙ h.kind;
  size = k.size ∙ h.size;
  contents = k.contents
      ∙ h.contents;
}

changes_by : (o : Object) (old new : Option (List (Option ℕ))) → (old ≡ None → new ≡ None) →
    (new ≡ None → (old ≡ None → ⊥) → o.owner ≡ Outside) → ((ws : List (Option ℕ)) → new ≡ Some ws → Fills o ws) →
    ChangesTo o old new
changes_by o (Some old) (Some new) dead dies fills = fills new refl
changes_by o (Some old) None dead dies fills = dies refl (λ e. let no : ⊥ = cc e in no)
changes_by o None None dead dies fills = tt
changes_by o None (Some new) dead dies fills = let e = dead refl in let no : ⊥ = cc e in absurd no

lasts_by : (o : Object) (old new : Option (List (Option ℕ))) → (old ≡ None → new ≡ None) →
    (new ≡ None → (old ≡ None → ⊥) → o.owner ≡ Outside) → Lasts o old new
lasts_by o (Some old) (Some new) dead dies = tt
lasts_by o (Some old) None dead dies = dies refl (λ e. let no : ⊥ = cc e in no)
lasts_by o None None dead dies = tt
lasts_by o None (Some new) dead dies = let e = dead refl in let no : ⊥ = cc e in absurd no

-- a dead object stays dead, and the unit that leaves objects lets none of the outside's die
leaves_dead : (o : Object) (old new : Option (List (Option ℕ))) → LeavesContents o old new → old ≡ None → new ≡ None
leaves_dead o (Some old) new h e = let no : ⊥ = cc e in absurd no
leaves_dead o None None h e = refl
leaves_dead o None (Some new) h e = absurd h

leaves_live : (o : Object) (old new : Option (List (Option ℕ))) → LeavesContents o old new → o.owner ≡ Outside →
    new ≡ None → old ≡ None
leaves_live o None new h owner e = refl
leaves_live o (Some old) (Some new) h owner e = let no : ⊥ = cc e in absurd no
leaves_live o (Some old) None h owner e = absurd (inside_outside (sym h ∙ owner))

module _ (k : Known) (now : ℕ) (seen : ℕ → List Object) (sound : IsKnown k now seen) (emitted : Crossing)
    (leaves : LeavesAll (seen now) emitted.objects) (words : AllShowWords emitted.objects)
    (sizes : AreSized emitted.objects) (other : ℕ) (received : Crossing) (k' : Known)
    (x : Exchanged k seen (record { from = now; to = other; emitted = emitted; received = received }) k') where
  -- an object that somebody knew and the running unit says it knew
  knew : (i m g n : ℕ) → k.id i m ≡ Some g → k'.id now n ≡ Some g → k.id now n ≡ Some g
  knew i m g n e f = ⊎_elim (λ (y, h). let same : Some y ≡ Some g = sym (x.grows.keeps now n y h) ∙ f in h ∙ same)
      (λ h. absurd (not_none (sound.numbers.there i m g e) ((x.emits.news n g h f).1 i))) (some_or_none (k.id now n))

  -- it leaves it as it may
  record Left (g : ℕ) : Type 0 where
    kind : (k'.object g).kind ≡ (k.object g).kind
    size : (k'.object g).size ≡ (k.object g).size
    stays_dead : (k.object g).contents ≡ None → (k'.object g).contents ≡ None
    stays_live : (now ≡ k.owner g → ⊥) → (k'.object g).contents ≡ None → (k.object g).contents ≡ None

  left_same : (g : ℕ) → k'.object g ≡ k.object g → Left g
  left_same g e =
      record {
        kind = ap (λ (v : Object). v.kind) e;
        size = ap (λ (v : Object). v.size) e;
        stays_dead = λ d. ap
            (λ (v : Object). v.contents) e ∙ d;
        stays_live = λ n d. sym (ap (λ (v : Object). v.contents) e) ∙ d;
      }

  left_emitted : (i m g n : ℕ) → k.id i m ≡ Some g → k'.number now g ≡ Some n → Left g
  left_emitted i m g n e f =
      let there : k'.id now n ≡ Some g = x.grows.numbers.back now n g f in
      let before : k.id now n ≡ Some g = knew i m g n e there in
      let old = sound.only_seen now n g before in
      let seen_so = sound.all_seen now n old.0 old.1 in
      let one : Some seen_so.0 ≡ Some g = sym seen_so.1 ∙ before in
      let is : seen_so.0 ≡ g = cc one in
      let was : WasSeen k now old.0 g = subst (λ v. WasSeen k now old.0 v) is seen_so.2 in
      let now_so = sound.up_to_date n g old.0 old.1 before in
      let new = x.emits.only n g there in
      let known = x.emits.known n new.0 new.1 in
      let two : Some known.0 ≡ Some g = sym known.1 ∙ there in
      let is2 : known.0 ≡ g = cc two in
      let same : IsSame new.0 (k'.object g) = subst (λ v. IsSame new.0 (k'.object v)) is2 known.2 in
      let l = leaves_at (seen now) emitted.objects leaves n old.0 new.0 old.1 new.1 in
      record {
        kind = same.kind ∙ l.kind ∙ now_so.kind;
        size = same.size ∙ l.size ∙ now_so.size;
        stays_dead = λ d. same.contents ∙ leaves_dead old.0 old.0.contents new.0.contents l.contents
            (now_so.contents ∙ d);
        stays_live = λ no d. sym now_so.contents ∙ leaves_live old.0 old.0.contents new.0.contents l.contents
            (was.owner.outside no) (sym same.contents ∙ d);
      }

  left : (i m g : ℕ) → k.id i m ≡ Some g → Left g
  left i m g e = ⊎_elim (λ (n, f). left_emitted i m g n e f) (λ f. left_same g (x.emits.unsaid i m g e f))
      (some_or_none (k'.number now g))

  -- what a unit has seen that doesn't run
  still_seen : (i : ℕ) → (i ≡ now → ⊥) → (o : Object) (n g : ℕ) → k.id i n ≡ Some g → WasSeen k i o g → WasSeen k' i o g
  still_seen i away o n g e w =
      let l = left i n g e in
      let owner : k'.owner g ≡ k.owner g = x.grows.same_owner i n g e in
      record {
        kind = w.kind ∙ sym l.kind;
        size = w.size ∙ sym l.size;
        owner = subst (λ v. OwnerFits i v o.owner) (sym owner) w.owner;
        stays_dead = λ d. l.stays_dead (w.stays_dead d);
        stays_live = λ own d. let mine : i ≡ k.owner g =
            own ∙ owner in w.stays_live mine (l.stays_live (λ s. away (mine ∙ sym s)) d);
      }

  emitted_here : (n g : ℕ) → k'.id now n ≡ Some g → (m : ℕ) (new : Object) → k'.id other m ≡ Some g →
      IsSame (k'.object g) new → IsEmitted emitted (renumber k' now other) m new
  emitted_here n g there m new theirs same =
      let o = x.emits.only n g there in
      let known = x.emits.known n o.0 o.1 in
      let two : Some known.0 ≡ Some g = sym known.1 ∙ there in
      let is2 : known.0 ≡ g = cc two in
      let one : IsSame o.0 (k'.object g) = subst (λ v. IsSame o.0 (k'.object v)) is2 known.2 in
      record {
        here = n;
        object = o.0;
        shown = o.1;
        numbers = ap (at_unit k' other) there ∙ x.grows.numbers.there other m g theirs;
        same = same_both o.0 (k'.object g) new one same;
      }

  received_again : (m : ℕ) (old new : Object) → slice_get (seen other) m ≡ Some old →
      slice_get received.objects m ≡ Some new → Changes old new
      ⊎ (IsAgain old new × IsEmitted emitted (renumber k' now other) m new)
  received_again m old new before at =
      let s = sound.all_seen other m old before in
      let h = x.receives.known m new at in
      let same : Some h.0 ≡ Some s.0 = sym h.1 ∙ x.grows.keeps other m s.0 s.1 in
      let is : h.0 ≡ s.0 = cc same in
      let w = still_seen other x.another old m s.0 s.1 s.2 in
      let object : IsSame (k'.object s.0) new = subst (λ v. IsSame (k'.object v) new) is h.2 in
      let owner : OwnerFits other (k'.owner s.0) new.owner =
      subst (λ v. OwnerFits other (k'.owner v) new.owner) is h.3 in
      let theirs : k'.id other m ≡ Some s.0 = x.grows.keeps other m s.0 s.1 in
      let same_owner : new.owner ≡ old.owner = ⊎_elim (λ e. owner.inside e ∙ sym (w.owner.inside e))
      (λ e. owner.outside e ∙ sym (w.owner.outside e)) (same_or_not other (k'.owner s.0)) in
      let dead : old.contents ≡ None → new.contents ≡ None = λ d. object.contents ∙ w.stays_dead d in
      let dies : new.contents ≡ None → (old.contents ≡ None → ⊥) → old.owner ≡ Outside =
      λ d live. ⊎_elim (λ e. absurd (live (w.stays_live e (sym object.contents ∙ d)))) (λ e. w.owner.outside e)
      (same_or_not other (k'.owner s.0)) in
      ⊎_elim
      (λ (n, f). inr (
        record {
          owner = same_owner;
          kind = object.kind ∙ sym w.kind;
          size = object.size
              ∙ sym w.size;
          contents = lasts_by old old.contents new.contents dead dies;
        },
        emitted_here n s.0
            (x.grows.numbers.back now n s.0 f) m new theirs object,
      ))
      (λ f.
      let unsaid : k'.object s.0 ≡ k.object s.0 = x.emits.unsaid other m s.0 s.1 f in
      let is_object : IsObject (k'.object s.0) = subst IsObject (sym unsaid) (sound.objects other m s.0 s.1) in
      let fills : (ws : List (Option ℕ)) → new.contents ≡ Some ws → Fills old ws = λ ws e. let q =
      is_object.fills ws (sym object.contents ∙ e) in
      record { size = q.size ∙ sym w.size; kinds = subst (λ (v : Kind). AreWordsOf v ws) (sym w.kind) q.kinds } in
      inl (record {
        owner = same_owner;
        kind = object.kind ∙ sym w.kind;
        size = object.size
            ∙ sym w.size;
        contents = changes_by old old.contents new.contents dead dies fills;
      }))
      (some_or_none (k'.number now s.0))

  not_known : (m : ℕ) → length (seen other) ≤ m → k.id other m ≡ None
  not_known m past =
      ⊎_elim (λ (g, e). let o = sound.only_seen other m g e in let short = got_short (seen other) m o.0 o.1 in
      absurd (omega (arith, past, short))) (λ e. e) (some_or_none (k.id other m))

  -- an object that is new to the hearing unit isn't its own
  pub not_own : (m g : ℕ) → k.id other m ≡ None → k'.id other m ≡ Some g → other ≡ k'.owner g → ⊥
  not_own m g none theirs own =
      let c = x.receives.news m g none theirs in
      ⊎_elim
      (λ (y, h).
      let same : Some y ≡ Some g = sym (x.grows.keeps now c.0 y h) ∙ c.1 in
      let before : k.id now c.0 ≡ Some g = h ∙ same in
      let o = sound.owners now c.0 g before in
      let mine : k.id other o.0 ≡ Some g = subst (λ v. k.id v o.0 ≡ Some g)
      (sym (x.grows.same_owner now c.0 g before) ∙ sym own) o.1 in
      let one : Some o.0 ≡ Some m = sym (x.grows.numbers.there other o.0 g (x.grows.keeps other o.0 g mine))
      ∙ x.grows.numbers.there other m g theirs in
      let is : o.0 ≡ m = cc one in
      not_none (subst (λ v. k.id other v ≡ Some g) is mine) none)
      (λ h. x.another (own ∙ (x.emits.news c.0 g h c.1).0))
      (some_or_none (k.id now c.0))

  received_first : (m : ℕ) (new : Object) → length (seen other) ≤ m → slice_get received.objects m ≡ Some new →
      (new.owner ≡ Outside) × IsEmitted emitted (renumber k' now other) m new
  received_first m new past at =
      let h = x.receives.known m new at in
      let none = not_known m past in
      let c = x.receives.news m h.0 none h.1 in
      (h.3.outside (not_own m h.0 none h.1), emitted_here c.0 h.0 c.1 m new h.1 h.2)

  received_there : (n m : ℕ) (o : Object) → slice_get emitted.objects n ≡ Some o → renumber k' now other n ≡ Some m →
      (new : Object) × (slice_get received.objects m ≡ Some new) × IsSame o new
  received_there n m o e f =
      let known = x.emits.known n o e in
      let number : k'.number other known.0 ≡ Some m = sym (ap (at_unit k' other) known.1) ∙ f in
      let theirs : k'.id other m ≡ Some known.0 = x.grows.numbers.back other m known.0 number in
      let new = x.receives.only m known.0 theirs in
      let h = x.receives.known m new.0 new.1 in
      let same : Some h.0 ≡ Some known.0 = sym h.1 ∙ theirs in
      let is : h.0 ≡ known.0 = cc same in
      (new.0, new.1, same_both o (k'.object known.0) new.0 known.2 (subst (λ v. IsSame (k'.object v) new.0) is h.2))

  -- so it is heard
  pub is_received : IsReceivedAs emitted received (seen other)
  is_received = record {
    number = renumber k' now other;
    share = x.share;
    values = x.values;
    there = received_there;
    stays = received_again;
    comes = received_first;
    numbers = x.counted;
  }

  -- and what is known stays right

  abbrev pub exchanged : ℕ → List Object
  exchanged = set (set seen now emitted.objects) other received.objects

  all_by : (i : ℕ) → AllSeen k' i (exchanged i)
  all_by = set_all (λ i (u : ℕ) os. AllSeen k' i os) (λ i. i) (set seen now emitted.objects)
      other other received.objects middle there
    where
      -- units that neither say nor hear
      outer : (i : ℕ) → (i ≡ now → ⊥) → AllSeen k' i (seen i)
      outer i away n o e = let s = sound.all_seen i n o e in
          (s.0, x.grows.keeps i n s.0 s.1, still_seen i away o n s.0 s.1 s.2)

      own : AllSeen k' now emitted.objects
      own n o e =
          let s = x.emits.known n o e in (
            s.0,
            s.1,
            record {
              kind = sym s.2.kind;
              size = sym s.2.size;
              owner = emitted_owner n o e s.0 s.1;
              stays_dead = λ d. s.2.contents ∙ d;
              stays_live = λ mine d. sym s.2.contents ∙ d;
            },
          )
        where
          emitted_owner : (n : ℕ) (o : Object) → slice_get emitted.objects n ≡ Some o → (g : ℕ) → k'.id now n ≡ Some g →
              OwnerFits now (k'.owner g) o.owner
          emitted_owner n o e g there = ⊎_elim
              (λ (y, h).
              let same : Some y ≡ Some g = sym (x.grows.keeps now n y h) ∙ there in
              let before : k.id now n ≡ Some g = h ∙ same in
              let old = sound.only_seen now n g before in
              let s = sound.all_seen now n old.0 old.1 in
              let one : Some s.0 ≡ Some g = sym s.1 ∙ before in
              let is : s.0 ≡ g = cc one in
              let was : WasSeen k now old.0 g = subst (λ v. WasSeen k now old.0 v) is s.2 in
              let l = leaves_at (seen now) emitted.objects leaves n old.0 o old.1 e in
              subst (λ v. OwnerFits now v o.owner) (sym (x.grows.same_owner now n g before))
              (subst (λ v. OwnerFits now (k.owner g) v) (sym l.owner) was.owner))
              (λ h.
              let mine : k'.owner g ≡ now = (x.emits.news n g h there).0 in
              let past : length (seen now) ≤ n = not_seen n h in
              let own_so = own_past (seen now) emitted.objects leaves n o past e in
              record { inside = λ s. own_so.owner; outside = λ s. absurd (s (sym mine)) })
              (some_or_none (k.id now n))
            where
              past_by : (n : ℕ) (r : Option Object) → slice_get (seen now) n ≡ r → k.id now n ≡ None →
                  length (seen now) ≤ n
              past_by n None e h = none_past (seen now) n e
                where
                  none_past : (os : List Object) (n : ℕ) → slice_get os n ≡ None → length os ≤ n
                  none_past [] n e = omega arith
                  none_past (o ∷ os) zero e = absurd (cc e)
                  none_past (o ∷ os) (suc n) e = omega (arith, none_past os n e)
              past_by n (Some o) e h = let s = sound.all_seen now n o e in absurd (not_none s.1 h)

              not_seen : (n : ℕ) → k.id now n ≡ None → length (seen now) ≤ n
              not_seen n h = past_by n (slice_get (seen now) n) refl h

      middle : (i : ℕ) → (i ≡ other → ⊥) → AllSeen k' i (set seen now emitted.objects i)
      middle i b = set_all (λ i (u : ℕ) os. AllSeen k' i os) (λ i. i) seen now now emitted.objects
          (λ i away. outer i away) own i

      there : AllSeen k' other received.objects
      there n o e =
          let h = x.receives.known n o e in (
            h.0,
            h.1,
            record {
              kind = h.2.kind;
              size = h.2.size;
              owner = h.3;
              stays_dead = λ d. sym h.2.contents
                  ∙ d;
              stays_live = λ mine d. h.2.contents ∙ d;
            },
          )

  only_by : (i : ℕ) → OnlySeen k' i (exchanged i)
  only_by = set_all (λ i (u : ℕ) os. OnlySeen k' i os) (λ i. i) (set seen now emitted.objects)
      other other received.objects by (λ n g e. x.receives.only n g e)
    where
      by : (i : ℕ) → (i ≡ other → ⊥) → OnlySeen k' i (set seen now emitted.objects i)
      by i b = set_all (λ i (u : ℕ) os. (i ≡ other → ⊥) → OnlySeen k' i os) (λ i. i) seen now now emitted.objects
          (λ i f b n g e. sound.only_seen i n g (sym (x.grows.others i n f b) ∙ e)) (λ b n g e. x.emits.only n g e) i b

  -- an object that somebody knows then, somebody knew, or it is said
  knows_by : (i n g : ℕ) → k'.id i n ≡ Some g → ((m : ℕ) × (k'.id now m ≡ Some g))
      ⊎ ((j : ℕ) × (m : ℕ) × (k.id j m ≡ Some g))
  knows_by i n g e = ⊎_elim
      (λ f. inl (n, subst (λ v. k'.id v n ≡ Some g) f e))
      (λ f. ⊎_elim
      (λ h. ⊎_elim
      (λ (y, b). let same : Some y ≡ Some g = sym (x.grows.keeps i n y b) ∙ e in inr (i, n, b ∙ same))
      (λ b. let c = x.receives.news n g (subst (λ v. k.id v n ≡ None) h b) (subst (λ v. k'.id v n ≡ Some g) h e) in
      inl (c.0, c.1))
      (some_or_none (k.id i n)))
      (λ h. inr (i, n, sym (x.grows.others i n f h) ∙ e))
      (same_or_not i other))
      (same_or_not i now)

  objects_by : (i n g : ℕ) → k'.id i n ≡ Some g → IsObject (k'.object g)
  objects_by i n g e = ⊎_elim
      (λ (m, f). emitted_so m g f)
      (λ (j, m, f). ⊎_elim (λ (q, h). emitted_so q g (x.grows.numbers.back now q g h))
      (λ h. subst IsObject (sym (x.emits.unsaid j m g f h)) (sound.objects j m g f))
      (some_or_none (k'.number now g)))
      (knows_by i n g e)
    where
      emitted_so : (m g : ℕ) → k'.id now m ≡ Some g → IsObject (k'.object g)
      emitted_so m g f =
          let o = x.emits.only m g f in
          let s = x.emits.known m o.0 o.1 in
          let same : Some s.0 ≡ Some g = sym s.1 ∙ f in
          let is : s.0 ≡ g = cc same in
          same_object o.0 (k'.object g) (subst (λ v. IsSame o.0 (k'.object v)) is s.2)
          (emitted_object (seen now) emitted.objects leaves words sizes m o.0 o.1)

  owners_by : (i n g : ℕ) → k'.id i n ≡ Some g → (m : ℕ) × (k'.id (k'.owner g) m ≡ Some g)
  owners_by i n g e = ⊎_elim
      (λ (m, f). ⊎_elim
      (λ (y, h). let same : Some y ≡ Some g = sym (x.grows.keeps now m y h) ∙ f in old now m g (h ∙ same))
      (λ h. (m, subst (λ v. k'.id v m ≡ Some g) (sym (x.emits.news m g h f).0) f))
      (some_or_none (k.id now m)))
      (λ (j, m, f). old j m g f)
      (knows_by i n g e)
    where
      old : (j m g : ℕ) → k.id j m ≡ Some g → (q : ℕ) × (k'.id (k'.owner g) q ≡ Some g)
      old j m g f =
          let o = sound.owners j m g f in (
            o.0,
            subst (λ v. k'.id v o.0 ≡ Some g) (sym (x.grows.same_owner j m g f))
                (x.grows.keeps (k.owner g) o.0 g o.1),
          )

  pub stays_known : IsKnown k' other exchanged
  stays_known = record {
    numbers = x.grows.numbers;
    all_seen = all_by;
    only_seen = only_by;
    up_to_date = set_one (λ (u : ℕ) os. UpToDate k' other os) (λ i. i) (set seen now emitted.objects)
        other other received.objects (λ n g o e f. let h = x.receives.known n o e in
        let same : Some h.0 ≡ Some g = sym h.1 ∙ f in let is : h.0 ≡ g =
        cc same in subst (λ v. IsSame (k'.object v) o) is h.2);
    objects = objects_by;
    owners = owners_by;
    below = x.grows.below;
  }

-- the number that two numbers of a unit have in another is that of one object
by_ids : (k : Known) → AreNumbers k → (unit other n m place : ℕ) (a b : Option ℕ) → k.id unit n ≡ a → k.id unit m ≡ b →
    at_unit k other a ≡ Some place → at_unit k other b ≡ Some place → n ≡ m
by_ids k are unit other n m place None b p q e f = absurd (cc e)
by_ids k are unit other n m place (Some g) None p q e f = absurd (cc f)
by_ids k are unit other n m place (Some g) (Some h) p q e f =
    let one : Some g ≡ Some h = sym (are.back other place g e) ∙ are.back other place h f in
    let same : g ≡ h = cc one in
    let last : Some n ≡ Some m = sym (are.there unit n g p) ∙ ap (λ v. k.number unit v) same ∙ are.there unit m h q in
    cc last

pub numbered_once : (k : Known) → AreNumbers k → (unit other n m place : ℕ) → renumber k unit other n ≡ Some place →
    renumber k unit other m ≡ Some place → n ≡ m
numbered_once k are unit other n m place e f = by_ids k are unit other n m place (k.id unit n)
    (k.id unit m) refl refl e f

pub first_known : (unit : ℕ) → IsKnown nothing_known unit (λ i. [])
first_known unit = record {
  numbers = record { there = λ i n g e. absurd (cc e); back = λ i n g e. absurd (cc e) };
  all_seen = λ i n o e. absurd (cc e);
  only_seen = λ i n g e. absurd (cc e);
  up_to_date = λ n g o e. absurd (cc e);
  objects = λ i n g e. absurd (cc e);
  owners = λ i n g e. absurd (cc e);
  below = λ i n g e. absurd (cc e);
}
