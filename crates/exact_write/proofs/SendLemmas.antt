-- What is written one after the other is written together.
use Rattle.std.proofs.Common.{◌≡◌, ℕ, List, [], ◌++◌, Option, Some, None, sym, ap, ◌∙◌, subst, append_assoc, append-nil, ◌+◌, take, drop, length, ◌-◌}
use Rattle.std.proofs.Math.Seq.{take-add}
use Rattle.std.specs.Prelude.{Result, Ok, Err, OnOk, OnErr}
use Rattle.std.specs.Io.KnownBytes.{Appends, Keeps}
use Rattle.std.proofs.lemmas.List.{take-append-drop, take_rest}
use Rattle.exact_write.specs.Sent.{SentSome}

pub appends_none : (a : Option (List ℕ)) → Appends a a []
appends_none None = tt
appends_none (Some x) = sym (append-nil x)

pub appends_join : (a b c : Option (List ℕ)) (xs ys : List ℕ) → Appends a b xs → Appends b c ys → Appends a c (xs ++ ys)
appends_join None b c xs ys p q = tt
appends_join (Some x) None c xs ys p q = absurd p
appends_join (Some x) (Some y) None xs ys p q = absurd q
appends_join (Some x) (Some y) (Some z) xs ys p q = q ∙ ap (λ l. l ++ ys) p ∙ append_assoc x xs ys

pub appends_kept : (a b c : Option (List ℕ)) (xs : List ℕ) → Appends a b xs → Keeps b c → Appends a c xs
appends_kept None b c xs p q = tt
appends_kept (Some x) None c xs p q = absurd p
appends_kept (Some x) (Some y) None xs p q = absurd q
appends_kept (Some x) (Some y) (Some z) xs p q = q ∙ p

-- a write of some of what was left
pub appends_more : (a b c : Option (List ℕ)) (xs : List ℕ) (at n : ℕ) → Appends a b (take at xs) → Appends b c (take n (take (length xs - at) (drop at xs)))
    → Appends a c (take (at + n) xs)
appends_more a b c xs at n p q =
    let e : take at xs ++ take n (take (length xs - at) (drop at xs)) ≡ take (at + n) xs =
    ap (λ t. take at xs ++ take n t) (take_rest xs at) ∙ sym (take-add at n xs) in
    subst (Appends a c) e (appends_join a b c _ _ p q)

pub sent_some : (a b : Option (List ℕ)) (xs : List ℕ) (at : ℕ) → Appends a b (take at xs) → SentSome a b xs
sent_some a b xs at p = (take at xs, drop at xs, sym (take-append-drop at xs), p)

-- a beginning is a beginning of more
pub sent_first : (a b : Option (List ℕ)) (xs ys : List ℕ) → SentSome a b xs → SentSome a b (xs ++ ys)
sent_first a b xs ys (part, rest, e, p) = (part, rest ++ ys, ap (λ l. l ++ ys) e ∙ append_assoc part rest ys, p)

-- all of the first octets, and a beginning of those behind them
pub sent_then : (a b c : Option (List ℕ)) (xs ys : List ℕ) → Appends a b xs → SentSome b c ys → SentSome a c (xs ++ ys)
sent_then a b c xs ys p (part, rest, e, q) =
    (xs ++ part, rest, ap (λ l. xs ++ l) e ∙ sym (append_assoc xs part rest), appends_join a b c xs part p q)

-- the same by the answer of the second write
pub some_then : {E : Type 0} (a b c : Option (List ℕ)) (xs ys zs : List ℕ) (r : Result (Unit {0}) E) → zs ≡ xs ++ ys → Appends a b xs →
    OnErr r (SentSome b c ys) → OnErr r (SentSome a c zs)
some_then a b c xs ys zs (Ok x) e p q = tt
some_then a b c xs ys zs (Err f) e p q = subst (SentSome a c) (sym e) (sent_then a b c xs ys p q)

pub all_then : {E : Type 0} (a b c : Option (List ℕ)) (xs ys zs : List ℕ) (r : Result (Unit {0}) E) → zs ≡ xs ++ ys → Appends a b xs → OnOk r (Appends b c ys) →
    OnOk r (Appends a c zs)
all_then a b c xs ys zs (Ok x) e p q = subst (Appends a c) (sym e) (appends_join a b c xs ys p q)
all_then a b c xs ys zs (Err f) e p q = tt

-- the same of a first write that failed
pub some_first : {E : Type 0} (a b : Option (List ℕ)) (xs ys zs : List ℕ) (r : Result (Unit {0}) E) → zs ≡ xs ++ ys → SentSome a b xs →
    OnErr r (SentSome a b zs)
some_first a b xs ys zs (Ok x) e p = tt
some_first a b xs ys zs (Err f) e p = subst (SentSome a b) (sym e) (sent_first a b xs ys p)

-- the same of what is known to have gone out
pub some_now : {E : Type 0} (a b : Option (List ℕ)) (xs : List ℕ) (r : Result (Unit {0}) E) → SentSome a b xs → OnErr r (SentSome a b xs)
some_now a b xs (Ok x) p = tt
some_now a b xs (Err f) p = p
