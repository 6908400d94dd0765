-- The pointer of a load or a store: an own address, or another expression.
use Rattle.std.proofs.Common.{◌≡◌, ℕ, List, None, Bool, refl}
use Rattle.cas_mid.specs.Trees.{Expression, word, temporary, own, global, element, load, unop, binop, if_}
use Rattle.cas_mid.specs.Rooms as rooms
use Rattle.cas_cminorgen.specs.Makes.{Place, unless_own, kept_in}
use Rattle.cas_cminorgen.specs.Match.{FitsLoaded, Fits}

-- it is no own address
pub record IsOther (ps : List Place) (a : Expression) : Type 0 where
  pub is_not_kept : kept_in ps a ≡ None
  pub fits : FitsLoaded ps a (Fits ps a) → Fits ps a
  pub fits_loaded : Fits ps a → FitsLoaded ps a (Fits ps a)
  pub takes : (b : Bool) → unless_own a b ≡ b
  pub counts : (n : ℕ) → rooms.unless_own a n ≡ n

pub data Address (ps : List Place) : Expression → Type 0 where
  is_own : {n : ℕ} → Address ps (own n)
  is_other : {a : Expression} → IsOther ps a → Address ps a

pub address : (ps : List Place) (a : Expression) → Address ps a
address ps (own n) = is_own
address ps (word n) = is_other (record {
  is_not_kept = refl;
  fits = λ h. h;
  fits_loaded = λ h. h;
  takes = λ b. refl;
  counts = λ n. refl;
})
address ps (temporary t) = is_other (record {
  is_not_kept = refl;
  fits = λ h. h;
  fits_loaded = λ h. h;
  takes = λ b. refl;
  counts = λ n. refl;
})
address ps (global g) = is_other (record {
  is_not_kept = refl;
  fits = λ h. h;
  fits_loaded = λ h. h;
  takes = λ b. refl;
  counts = λ n. refl;
})
address ps (element g s a) = is_other (record {
  is_not_kept = refl;
  fits = λ h. h;
  fits_loaded = λ h. h;
  takes = λ b. refl;
  counts = λ n. refl;
})
address ps (load a) = is_other (record {
  is_not_kept = refl;
  fits = λ h. h;
  fits_loaded = λ h. h;
  takes = λ b. refl;
  counts = λ n. refl;
})
address ps (unop o a) = is_other (record {
  is_not_kept = refl;
  fits = λ h. h;
  fits_loaded = λ h. h;
  takes = λ b. refl;
  counts = λ n. refl;
})
address ps (binop o a b) = is_other (record {
  is_not_kept = refl;
  fits = λ h. h;
  fits_loaded = λ h. h;
  takes = λ b. refl;
  counts = λ n. refl;
})
address ps (if_ c a b) = is_other (record {
  is_not_kept = refl;
  fits = λ h. h;
  fits_loaded = λ h. h;
  takes = λ b. refl;
  counts = λ n. refl;
})
