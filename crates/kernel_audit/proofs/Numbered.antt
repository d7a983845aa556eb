-- Entries by their numbers, as the machine's minutes have them.
use Rattle.std.proofs.Common.{◌≡◌, ℕ, true, List, [], ◌∷◌, ◌++◌, map, take, length, zero, suc, refl, ap, sym, ◌∙◌, arith, slice_get, Some, None, Bool, false}
use Rattle.std.proofs.Common.{IsTrue, ◌↔◌}
use Rattle.std.proofs.Common.{◌==◌}
use Rattle.std.proofs.lemmas.Bool.Decides.{nat_tests}
use Rattle.kernel_ask.specs.minutes.Entry.{Entry}
use Rattle.kernel_ask.specs.minutes.Entry.TheVariants.{Posted, Ended}
use Rattle.kernel_ask.specs.outcome.Outcome.{Outcome}
use Rattle.kernel_ask.specs.Request.{Request, request_of}
use Rattle.kernel_ask.specs.Minutes as minutes
use Rattle.kernel_ask.specs.Minutes.{Post, posts_of, ended_in, IsNumberOf}
use Rattle.kernel_ask.specs.Written.{entry_of}
use Rattle.kernel_audit.specs.declared.mark.Kind.TheVariants as kind
use Rattle.kernel_audit.specs.Marks.{is_of, of_kind, nth_of, EndsInOrder}
use Rattle.kernel_audit.proofs.Filtered.{filter_at, filter_from}
use Rattle.kernel_audit.proofs.Ends.{told_there}

-- ---- posts

post_at : (es : List Entry) (before after : List Post) (post : Post) → posts_of (map entry_of es) ≡ before ++ post ∷ after → (e : Entry) ×
    (slice_get (of_kind kind.Post es) (length before) ≡ Some e) × (entry_of e ≡ minutes.Posted post.lane post.job)
post_at [] [] after post h = absurd (cc)
post_at [] (b ∷ before) after post h = absurd (cc)
post_at (Posted lane job ∷ es) [] after post h =
    let same : record { lane = lane; job = request_of job } ≡ post = cc in
    (Posted lane job, refl, ap (λ (p : Post). minutes.Posted p.lane p.job) same)
post_at (Posted lane job ∷ es) (b ∷ before) after post h = post_at es before after post (cc)
post_at (Ended n o count node ∷ es) before after post h = post_at es before after post h

abbrev post_in : minutes.Entry → Post
post_in (minutes.Posted lane job) = record { lane = lane; job = job }
post_in (minutes.Ended n o count node) = record { lane = 0; job = Request.Undo 0 }

number_here : (es : List Entry) (k : ℕ) (e : Entry) (lane : ℕ) (job : Request) → slice_get (of_kind kind.Post es) k ≡ Some e →
    entry_of e ≡ minutes.Posted lane job → IsNumberOf (map entry_of es) (suc k) (record { lane = lane; job = job })
number_here [] k e lane job h is = absurd (cc)
number_here (Posted l j ∷ es) zero e lane job h is =
    let here : Posted l j ≡ e = cc in
    let same = ap post_in (ap entry_of here ∙ is) in
    ([], posts_of (map entry_of es), ap (λ (p : Post). p ∷ posts_of (map entry_of es)) same, refl)
number_here (Posted l j ∷ es) (suc k) e lane job h is =
    let r = number_here es k e lane job h is in
    let p : Post = record { lane = l; job = request_of j } in
    (p ∷ r.0, r.1, ap (λ (ps : List Post). p ∷ ps) r.2, ap suc r.3)
number_here (Ended n o count node ∷ es) k e lane job h is = number_here es k e lane job h is

pub posted_then : (es : List Entry) (n : ℕ) (e : Entry) (lane : ℕ) (job : Request) → nth_of kind.Post es n ≡ Some e → entry_of e ≡ minutes.Posted lane job →
    IsNumberOf (map entry_of es) n (record { lane = lane; job = job })
posted_then es zero e lane job h is = absurd (cc)
posted_then es (suc k) e lane job h is = number_here es k e lane job h is

pub posted_at : (es : List Entry) (n lane : ℕ) (job : Request) → IsNumberOf (map entry_of es) n (record { lane = lane; job = job }) → (e : Entry) ×
    (nth_of kind.Post es n ≡ Some e) × (entry_of e ≡ minutes.Posted lane job)
posted_at es n lane job h =
    let r = post_at es h.0 h.1 (record { lane = lane; job = job }) h.2 in
    (r.0, ap (nth_of kind.Post es) h.3 ∙ r.1, r.2)

-- so the number's entry tells
pub posted_iff : (es : List Entry) (n : ℕ) (e : Entry) (lane : ℕ) (job : Request) (r : Bool) → nth_of kind.Post es n ≡ Some e →
    (IsTrue r ↔ (entry_of e ≡ minutes.Posted lane job)) → IsTrue r ↔ IsNumberOf (map entry_of es) n (record { lane = lane; job = job })
posted_iff es n e lane job r h t = (
  λ y. posted_then es n e lane job h (t.0 y),
  λ s. let q = posted_at es n lane job s in let same : e ≡ q.0 = let at = q.1 in cc in t.1 (ap entry_of same ∙ q.2),
)

pub posted_none : (es : List Entry) (n lane : ℕ) (job : Request) → nth_of kind.Post es n ≡ None →
    IsTrue false ↔ IsNumberOf (map entry_of es) n (record { lane = lane; job = job })
posted_none es n lane job h = (λ y. absurd (cc), λ s. let q = posted_at es n lane job s in let at = q.1 in absurd (cc))

-- ---- ends

told_from : (es : List Entry) (at : ℕ) (x : minutes.Entry) → slice_get (map entry_of es) at ≡ Some x → (e : Entry) × (slice_get es at ≡ Some e) ×
    (entry_of e ≡ x)
told_from [] at x h = absurd (cc)
told_from (e ∷ es) zero x h = (e, refl, cc)
told_from (e ∷ es) (suc at) x h = told_from es at x h

is_end : (e : Entry) (n : ℕ) (o : Outcome) (count node : ℕ) → entry_of e ≡ minutes.Ended n o count node → is_of kind.End e ≡ true
is_end (Posted lane job) n o count node h = absurd (cc)
is_end (Ended n' o' count' node') n o count node h = refl

ends_before : (es : List Entry) (at : ℕ) → length (of_kind kind.End (take at es)) ≡ ended_in (take at (map entry_of es))
ends_before [] zero = refl
ends_before [] (suc at) = refl
ends_before (e ∷ es) zero = refl
ends_before (Posted lane job ∷ es) (suc at) = ends_before es at
ends_before (Ended n o count node ∷ es) (suc at) = ap suc (ends_before es at)

pub ended_then : (es : List Entry) (n : ℕ) (e : Entry) (x : minutes.Entry) → nth_of kind.End es n ≡ Some e → entry_of e ≡ x → (at : ℕ) ×
    (slice_get (map entry_of es) at ≡ Some x)
ended_then es zero e x h is = absurd (cc)
ended_then es (suc k) e x h is =
    let r = filter_from (is_of kind.End) es k e h in
    (r.0, told_there es r.0 e r.1 ∙ ap (λ (y : minutes.Entry). Some y) is)

pub ended_at : (es : List Entry) (at n : ℕ) (o : Outcome) (count node : ℕ) → EndsInOrder (map entry_of es) →
    slice_get (map entry_of es) at ≡ Some (minutes.Ended n o count node) → (e : Entry) × (nth_of kind.End es n ≡ Some e) ×
    (entry_of e ≡ minutes.Ended n o count node)
ended_at es at n o count node order h =
    let r = told_from es at (minutes.Ended n o count node) h in
    let here = filter_at (is_of kind.End) es at r.0 r.1 (is_end r.0 n o count node r.2) in
    let number : n ≡ suc (length (of_kind kind.End (take at es))) = order at n o count node h ∙ ap suc (sym (ends_before es at)) in
    (r.0, ap (nth_of kind.End es) number ∙ here, r.2)

pub ended_iff : (es : List Entry) (n : ℕ) (e : Entry) (o : Outcome) (count node : ℕ) (r : Bool) → EndsInOrder (map entry_of es) →
    nth_of kind.End es n ≡ Some e → (IsTrue r ↔ (entry_of e ≡ minutes.Ended n o count node)) →
    IsTrue r ↔ ((at : ℕ) × (slice_get (map entry_of es) at ≡ Some (minutes.Ended n o count node)))
ended_iff es n e o count node r order h t = (
  λ y. ended_then es n e (minutes.Ended n o count node) h (t.0 y),
  λ s. let q = ended_at es s.0 n o count node order s.1 in let same : e ≡ q.0 = let at = q.1 in cc in t.1 (ap entry_of same ∙ q.2),
)

pub ended_none : (es : List Entry) (n : ℕ) (o : Outcome) (count node : ℕ) → EndsInOrder (map entry_of es) → nth_of kind.End es n ≡ None →
    IsTrue false ↔ ((at : ℕ) × (slice_get (map entry_of es) at ≡ Some (minutes.Ended n o count node)))
ended_none es n o count node order h = (λ y. absurd (cc), λ s. let q = ended_at es s.0 n o count node order s.1 in let at = q.1 in absurd (cc))

-- what a test denies is not so
pub not_so : {A : Type 0} (b : Bool) → b ≡ false → (IsTrue b ↔ A) → A → ⊥
not_so b e t a = let yes = t.1 a in cc

abbrev node_of : minutes.Entry → ℕ
node_of (minutes.Posted lane job) = 0
node_of (minutes.Ended n o count node) = node

-- an end with the same number, outcome and count is that end where the node is the same
pub end_iff : (e : Entry) (n m : ℕ) (o p : Outcome) (c d k l : ℕ) → e ≡ Ended n o c k → n ≡ m → o ≡ p → c ≡ d →
    IsTrue (k == l) ↔ (entry_of e ≡ minutes.Ended m p d l)
end_iff e n m o p c d k l is number outcome count = (
  λ y. let node : k ≡ l = grind (arith, nat_tests) in ap entry_of is ∙ all node,
  λ y. let node : k ≡ l = ap node_of (sym (ap entry_of is) ∙ y) in grind (arith, nat_tests),
)
  where
    all : k ≡ l → minutes.Ended n o c k ≡ minutes.Ended m p d l
    all node = cc

pub no_both : {A : Type 0} (b : Bool) → b ≡ false → b ≡ true → A
no_both b e t = absurd (cc)
