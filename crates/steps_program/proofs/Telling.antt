-- What is written, one piece after the other.
use Rattle.std.proofs.Common.{ℕ, List, [], ◌++◌, sym, append-nil}
use Rattle.std.specs.Prelude.{Option, Result, Ok, Err, OnOk, OnErr}
use Rattle.std.specs.Io.KnownBytes.{Appends, Keeps}
use Rattle.exact_write.specs.Sent.{SentSome}
use Rattle.exact_write.proofs.SendLemmas.{appends_join, appends_kept}

-- ---- what goes out has a fact

-- these octets went out, of which this holds
abbrev pub Goes : (List ℕ → Type 0) → Option (List ℕ) → Option (List ℕ) → Type 0
Goes P a b = (out : List ℕ) × P out × Appends a b out

-- what holds where a call failed
pub failed : {A E P : Type 0} (r : Result A E) → P → OnErr r P
failed (Ok x) h = tt
failed (Err e) h = h

module _ {E : Type 0} where
  -- it is a fact of all octets that the call writes
  pub told : (P : List ℕ → Type 0) (a b : Option (List ℕ)) (xs : List ℕ) (r : Result (Unit {0}) E) → P xs → OnOk r (Appends a b xs) → OnOk r (Goes P a b)
  told P a b xs (Ok u) p h = (xs, p, h)
  told P a b xs (Err e) p h = tt

  pub told_some : (P : List ℕ → Type 0) (a b : Option (List ℕ)) (xs : List ℕ) (r : Result (Unit {0}) E) → P xs → OnErr r (SentSome a b xs) →
      OnErr r ((out : List ℕ) × P out × SentSome a b out)
  told_some P a b xs (Ok u) p h = tt
  told_some P a b xs (Err e) p h = (xs, p, h)

  pub more : (P Q : List ℕ → Type 0) (a b : Option (List ℕ)) (r : Result (Unit {0}) E) → ((xs : List ℕ) → P xs → Q xs) →
      OnOk r (Goes P a b) → OnOk r (Goes Q a b)
  more P Q a b (Ok u) f (xs, p, h) = (xs, f xs p, h)
  more P Q a b (Err e) f h = tt

  -- behind octets that went out before
  pub behind : (P Q : List ℕ → Type 0) (a b c : Option (List ℕ)) (before : List ℕ) (r : Result (Unit {0}) E) → ((xs : List ℕ) → P xs → Q (before ++ xs)) →
      Appends a b before → OnOk r (Goes P b c) → OnOk r (Goes Q a c)
  behind P Q a b c before (Ok u) f p (xs, q, h) = (before ++ xs, f xs q, appends_join a b c before xs p h)
  behind P Q a b c before (Err e) f p h = tt

  -- two pieces
  pub both : (P : List ℕ → Type 0) (a b c : Option (List ℕ)) (xs ys : List ℕ) (r : Result (Unit {0}) E) → P (xs ++ ys) → Appends a b xs →
      OnOk r (Appends b c ys) → OnOk r (Goes P a c)
  both P a b c xs ys (Ok u) p h k = (xs ++ ys, p, appends_join a b c xs ys h k)
  both P a b c xs ys (Err e) p h k = tt

-- ---- all is written that was held back

module _ {E : Type 0} (P : List ℕ → Type 0) (a b c : Option (List ℕ)) where
  pub flushed : (r : Result (Unit {0}) E) → Goes P a b → Keeps b c → OnOk r (Goes P a c)
  flushed (Ok u) (xs, p, h) k = (xs, p, appends_kept a b c xs h k)
  flushed (Err e) h k = tt

  pub not_flushed : (r : Result (Unit {0}) E) → Goes P a b → Keeps b c → OnErr r ((out : List ℕ) × P out × SentSome a c out)
  not_flushed (Ok u) h k = tt
  not_flushed (Err e) (xs, p, h) k = (xs, p, (xs, [], sym (append-nil xs), appends_kept a b c xs h k))
