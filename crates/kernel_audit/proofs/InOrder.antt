-- In legal minutes each end has the number that it has among the ends.
use Rattle.std.proofs.Common.{◌≡◌, ℕ, ◌+◌, ◌<◌, ◌≤◌, List, [], ◌∷◌, ap, arith, length, length-append, slice_get, sym, subst, suc, Some, take, zero}
use Rattle.kernel_ask.specs.Request.{Request}
use Rattle.kernel_ask.specs.Minutes.{Entry, Posted, Ended, posted_in, ended_in}
use Rattle.kernel_ask.specs.Runs.{Machine}
use Rattle.kernel_ask.specs.LegalMinutes.{Account, new_account, EndsFirst, Tells, Give, HasLegalMinutes}
use Rattle.kernel_ask.specs.outcome.Outcome.{Outcome}
use Rattle.kernel_audit.specs.Marks.{EndsInOrder}

one_end : (a : Account) (waiting : List Request) (number : ℕ) (o : Outcome) (count node : ℕ) (b : Account) → EndsFirst a waiting number o count node b →
    (number ≡ suc a.ended) × (b.ended ≡ number)
one_end a [] number o count node b h = absurd h
one_end a (job ∷ rest) number o count node b h = (h.2, ap (λ (x : Account). x.ended) h.5)

from_there : (a b : Account) (entries : List Entry) → Give a entries b → (at number : ℕ) (o : Outcome) (count node : ℕ) →
    slice_get entries at ≡ Some (Ended number o count node) → number ≡ suc (a.ended + ended_in (take at entries))
from_there a b [] g at number o count node h = absurd (cc)
from_there a b (e ∷ entries) g zero number o count node h =
    let is : e ≡ Ended number o count node = cc in
    let one = one_end a a.waiting number o count node g.0 (subst (λ (x : Entry). Tells a x g.0) is g.1) in
    let first = one.0 in
    omega arith
from_there a b (Posted lane job ∷ entries) g (suc at) number o count node h =
    let same = ap (λ (x : Account). x.ended) g.1 in
    let rest = from_there g.0 b entries g.2 at number o count node h in
    omega arith
from_there a b (Ended n p c m ∷ entries) g (suc at) number o count node h =
    let one = one_end a a.waiting n p c m g.0 g.1 in
    let first = one.0 in
    let then = one.1 in
    let rest = from_there g.0 b entries g.2 at number o count node h in
    omega arith

pub in_order : (m : Machine) → HasLegalMinutes m → EndsInOrder m.minutes
in_order m k = λ at number o count node h. let there = from_there new_account k.account m.minutes k.given at number o count node h in omega arith

-- ---- how many have ended

-- what waits behind an end is what waited before it, without the first
one_left : (a : Account) (waiting : List Request) (number : ℕ) (o : Outcome) (count node : ℕ) (b : Account) → EndsFirst a waiting number o count node b →
    length waiting ≡ suc (length b.waiting)
one_left a [] number o count node b h = absurd h
one_left a (job ∷ rest) number o count node b h = ap (λ (n : ℕ). suc n) (sym (ap (λ (x : Account). length x.waiting) h.5))

-- what was posted has ended or waits
balance : (a b : Account) (entries : List Entry) → Give a entries b →
    (b.ended ≡ a.ended + ended_in entries) × (length b.waiting + b.ended ≡ length a.waiting + a.ended + posted_in entries)
balance a b [] g =
    let same = ap (λ (x : Account). x.ended) g in
    let left = ap (λ (x : Account). length x.waiting) g in
    (omega arith, omega arith)
balance a b (Posted lane job ∷ entries) g =
    let same = ap (λ (x : Account). x.ended) g.1 in
    let left = ap (λ (x : Account). length x.waiting) g.1 in
    let more = length-append a.waiting (job ∷ []) in
    let rest = balance g.0 b entries g.2 in
    let ended = rest.0 in
    let whole = rest.1 in
    (omega arith, omega arith)
balance a b (Ended n o count node ∷ entries) g =
    let one = one_end a a.waiting n o count node g.0 g.1 in
    let first = one.0 in
    let then = one.1 in
    let left = one_left a a.waiting n o count node g.0 g.1 in
    let rest = balance g.0 b entries g.2 in
    let ended = rest.0 in
    let whole = rest.1 in
    (omega arith, omega arith)

-- no more jobs have ended than were posted
pub no_more_end : (m : Machine) → HasLegalMinutes m → ended_in m.minutes ≤ posted_in m.minutes
no_more_end m k =
    let all = balance new_account k.account m.minutes k.given in
    let ended = all.0 in
    let whole = all.1 in
    omega arith

-- before an end fewer have ended
pub fewer_before : (entries : List Entry) (at number : ℕ) (o : Outcome) (count node : ℕ) → slice_get entries at ≡ Some (Ended number o count node) →
    ended_in (take at entries) < ended_in entries
fewer_before [] at number o count node h = absurd (cc)
fewer_before (Posted lane job ∷ entries) zero number o count node h = absurd (cc)
fewer_before (Ended n p c m ∷ entries) zero number o count node h = omega arith
fewer_before (Posted lane job ∷ entries) (suc at) number o count node h = fewer_before entries at number o count node h
fewer_before (Ended n p c m ∷ entries) (suc at) number o count node h = let rest = fewer_before entries at number o count node h in omega arith
