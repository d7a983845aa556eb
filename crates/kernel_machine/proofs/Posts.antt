-- The posts that stand in the minutes: what each step makes of them, and their numbers.
use Rattle.std.specs.Prelude.{nat_lt}
use Rattle.std.proofs.lemmas.Bool.Decides.{nat_tests}
use Rattle.std.proofs.Common.{◌≡◌, ℕ, ◌+◌, ◌*◌, ◌<◌, ◌≤◌, Bool, true, false, List, [], ◌∷◌, ◌++◌, length, get_or, drop, suc, refl, sym, ap, ◌∙◌, arith}
use Rattle.std.proofs.Common.{append_assoc, append-nil, length-append, Option, None, Some, Ok, Err}
use Rattle.kernel_machine.specs.State.{Job as Open, Idle, Border, Inside}
use Rattle.kernel_machine.specs.Request.{Request}
use Rattle.kernel_machine.specs.Minutes.{Entry, Posted, Ended, Post, posts_of, posted_in, ended_in, IsNumberOf, HavePlaces, minutes_limit}
use Rattle.kernel_machine.specs.Runs.{Machine, queue_limit, IsRefusal, IsPost, BeginsAt, IsBegin, IsSliceOf, noted, shut, end_of_begun, end_of_sliced}
use Rattle.kernel_machine.specs.declared.outcome.Outcome.{Outcome}
use Rattle.kernel_machine.specs.declared.outcome.Begun.{Begun}
use Rattle.kernel_machine.specs.declared.outcome.Sliced.{Sliced}
use Rattle.kernel_machine.specs.declared.post.PostFault.{PostFault}
use Rattle.kernel_machine.specs.declared.post.PostFault.TheVariants.{Closing, MinutesFull, QueueFull, Memory}

-- ---- entries

pub posts-append : (xs ys : List Entry) → posts_of (xs ++ ys) ≡ posts_of xs ++ posts_of ys
posts-append [] ys = refl
posts-append (Posted lane job ∷ xs) ys = ap (λ (posts : List Post). record { lane = lane; job = job } ∷ posts) (posts-append xs ys)
posts-append (Ended number o count node ∷ xs) ys = posts-append xs ys

pub posted-append : (xs ys : List Entry) → posted_in (xs ++ ys) ≡ posted_in xs + posted_in ys
posted-append xs ys = ap length (posts-append xs ys) ∙ length-append (posts_of xs) (posts_of ys)

pub ended-append : (xs ys : List Entry) → ended_in (xs ++ ys) ≡ ended_in xs + ended_in ys
ended-append [] ys = omega arith
ended-append (Posted lane job ∷ xs) ys = ended-append xs ys
ended-append (Ended number o count node ∷ xs) ys = let rest = ended-append xs ys in omega arith

-- each entry is a post or an end
pub entry_count : (xs : List Entry) → length xs ≡ posted_in xs + ended_in xs
entry_count [] = refl
entry_count (Posted lane job ∷ xs) = let rest = entry_count xs in omega arith
entry_count (Ended number o count node ∷ xs) = let rest = entry_count xs in omega arith

-- a post keeps its number
pub number_stays : (entries more : List Entry) (number : ℕ) (post : Post) → IsNumberOf entries number post → IsNumberOf (entries ++ more) number post
number_stays entries more number post h = (
  h.0,
  h.1 ++ posts_of more,
  posts-append entries more ∙ ap (λ (posts : List Post). posts ++ posts_of more) h.2
      ∙ append_assoc h.0 (post ∷ h.1) (posts_of more),
  h.3,
)

same_place : (xs zs ys ws : List Post) (p q : Post) → xs ++ p ∷ ys ≡ zs ++ q ∷ ws → length xs ≡ length zs → p ≡ q
same_place [] [] ys ws p q e l = ap (λ (posts : List Post). get_or posts 0 p) e
same_place [] (z ∷ zs) ys ws p q e l = absurd (omega arith)
same_place (x ∷ xs) [] ys ws p q e l = absurd (omega arith)
same_place (x ∷ xs) (z ∷ zs) ys ws p q e l = same_place xs zs ys ws p q (ap (λ (posts : List Post). drop 1 posts) e) (omega arith)

-- a number is that of one post
pub one_post : (entries : List Entry) (number : ℕ) (p q : Post) → IsNumberOf entries number p → IsNumberOf entries number q → p ≡ q
one_post entries number p q a b =
    let first = a.3 in
    let second = b.3 in
    same_place a.0 b.0 a.1 b.1 p q (sym a.2 ∙ b.2) (omega arith)

-- ---- steps

-- a post is one more, and has its number
pub post_adds : (old : Machine) (lane : ℕ) (job : Request) (number : ℕ) (new : Machine) → IsPost old lane job (Ok number) new →
    posts_of new.minutes ≡ posts_of old.minutes ++ record { lane = lane; job = job } ∷ []
post_adds old lane job number new p = ap (λ (m : Machine). posts_of m.minutes) p.2 ∙ posts-append old.minutes (Posted lane job ∷ [])

pub post_has_number : (old : Machine) (lane : ℕ) (job : Request) (number : ℕ) (new : Machine) → IsPost old lane job (Ok number) new →
    IsNumberOf new.minutes number (record { lane = lane; job = job })
post_has_number old lane job number new p = (posts_of old.minutes, [], post_adds old lane job number new p, p.1)

-- a refused post changes nothing
pub refused_same : (old : Machine) (lane : ℕ) (job : Request) (fault : PostFault) (new : Machine) → IsPost old lane job (Err fault) new → new ≡ old
refused_same old lane job fault new p = p.1

noted_posts : (m : Machine) (end : Option Outcome) → posts_of (noted m end).minutes ≡ posts_of m.minutes
noted_posts m None = ap posts_of (append-nil m.minutes)
noted_posts m (Some o) = posts-append m.minutes _ ∙ append-nil (posts_of m.minutes)

-- a begin writes nothing down but ends, and shuts nothing
pub begins_minutes : (old : Machine) (at : Open) (queue : List Request) (answer : Begun) (mid : Machine) → BeginsAt old at queue answer mid →
    (mid.minutes ≡ old.minutes) × (mid.closing ≡ old.closing)
begins_minutes old Idle [] answer mid b = (ap (λ (m : Machine). m.minutes) b.1, ap (λ (m : Machine). m.closing) b.1)
begins_minutes old Idle (first ∷ rest) answer mid b = (ap (λ (m : Machine). m.minutes) b.2, ap (λ (m : Machine). m.closing) b.2)
begins_minutes old (Border t) queue answer mid b = (ap (λ (m : Machine). m.minutes) b.2, ap (λ (m : Machine). m.closing) b.2)
begins_minutes old (Inside e) queue answer mid b = (ap (λ (m : Machine). m.minutes) b.1, ap (λ (m : Machine). m.closing) b.1)

-- a begin, a slice and a shutdown post nothing
pub begin_keeps_posts : (old : Machine) (answer : Begun) (new : Machine) → IsBegin old answer new → posts_of new.minutes ≡ posts_of old.minutes
begin_keeps_posts old answer new b =
    ap (λ (m : Machine). posts_of m.minutes) b.2 ∙ noted_posts b.0 (end_of_begun answer)
    ∙ ap posts_of (begins_minutes old old.state.job old.queue answer b.0 b.1).0

pub slice_keeps_posts : (old : Machine) (m : ℕ) (asked : Bool) (answer : Sliced) (new : Machine) → IsSliceOf old m asked answer new →
    posts_of new.minutes ≡ posts_of old.minutes
slice_keeps_posts old m asked answer new s =
    ap (λ (x : Machine). posts_of x.minutes) s.2 ∙ noted_posts (record old { state = s.0 }) (end_of_sliced answer)

pub shut_keeps_posts : (old new : Machine) → new ≡ shut old → posts_of new.minutes ≡ posts_of old.minutes
shut_keeps_posts old new s = ap (λ (m : Machine). posts_of m.minutes) s

pub begin_closing : (old : Machine) (answer : Begun) (new : Machine) → IsBegin old answer new → new.closing ≡ old.closing
begin_closing old answer new b = ap (λ (m : Machine). m.closing) b.2 ∙ (begins_minutes old old.state.job old.queue answer b.0 b.1).1

-- ---- a post is always refused for want of memory, if for nothing else

full_queue : (m : Machine) (full : Bool) → nat_lt (length m.queue) queue_limit ≡ full → m.closing ≡ false → HavePlaces m.minutes → (fault : PostFault) ×
    IsRefusal m fault
full_queue m true e serves places = (Memory, record { serves = serves; places = places; room = grind (arith, nat_tests) })
full_queue m false e serves places = (QueueFull, (serves, places, grind (arith, nat_tests)))

full_minutes : (m : Machine) (full : Bool) → nat_lt minutes_limit (2 * suc (posted_in m.minutes)) ≡ full → m.closing ≡ false → (fault : PostFault) ×
    IsRefusal m fault
full_minutes m true e serves = (MinutesFull, (serves, λ h. absurd (full (2 * suc (posted_in m.minutes)) e h)))
  where
    full : (n : ℕ) → nat_lt minutes_limit n ≡ true → n ≤ minutes_limit → ⊥
    full n e h = (let l : minutes_limit < n = grind (arith, nat_tests) in omega arith)
full_minutes m false e serves = full_queue m (nat_lt (length m.queue) queue_limit) refl serves (fits (2 * suc (posted_in m.minutes)) e)
  where
    fits : (n : ℕ) → nat_lt minutes_limit n ≡ false → n ≤ minutes_limit
    fits n e = grind (arith, nat_tests)

pub some_refusal : (m : Machine) → (fault : PostFault) × IsRefusal m fault
some_refusal m = by_closing m.closing refl
  where
    by_closing : (closing : Bool) → m.closing ≡ closing → (fault : PostFault) × IsRefusal m fault
    by_closing true e = (Closing, e)
    by_closing false e = full_minutes m (nat_lt minutes_limit (2 * suc (posted_in m.minutes))) refl e
