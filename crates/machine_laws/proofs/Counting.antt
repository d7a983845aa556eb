-- What legal minutes tell of the execution counter.
use Rattle.std.specs.Prelude.{if◌then◌else◌, IsTrue}
use Rattle.std.proofs.Common.{◌≡◌, ℕ, ◌+◌, ◌-◌, ◌<◌, ◌≤◌, Bool, true, false, List, [], ◌∷◌, ◌++◌, length, map, zero, suc, refl, sym, ap, ◌∙◌, subst, arith, inl}
use Rattle.std.proofs.Common.{inr, append_assoc, append-nil, length-append}
use Rattle.std.proofs.lemmas.Bool.{cases_lt}
use Rattle.std.proofs.lemmas.List.{length-map, map-append}
use Rattle.kernel_machine.specs.State.{Job as Open, Idle, Border, Inside}
use Rattle.kernel_machine.specs.Request.{Request, is_counted, raised}
use Rattle.kernel_machine.specs.Minutes.{Entry, Posted, Ended, Post, posts_of}
use Rattle.kernel_machine.specs.Runs.{Machine}
use Rattle.kernel_machine.specs.LegalMinutes.{Account, new_account, EndsFirst, Give, IsOpen, Agrees, HasLegalMinutes}
use Rattle.machine_laws.specs.Counters.{counted_to, HasCountedEnd, EndTellsCounted, CounterNeverFalls, CountedIsNext, NoCounterTwice, CounterIsOfBegun}
use Rattle.machine_laws.specs.Counters.{EndsWithinCounter}
use Rattle.kernel_machine.specs.declared.outcome.Outcome.{Outcome}
use Rattle.kernel_machine.proofs.Posts.{posts-append}
use Rattle.kernel_machine.proofs.Noted.{give_ended}

-- ---- how jobs raise the counter

raised_swap : (n : ℕ) (a b : Request) → raised (raised n a) b ≡ raised (raised n b) a
raised_swap n a b = by_test (is_counted a) (is_counted b)
  where
    by_test : (x y : Bool) →
        (if y then (if x then n + 1 else n) + 1 else (if x then n + 1 else n)) ≡ (if x then (if y then n + 1 else n) + 1 else (if y then n + 1 else n))
    by_test true true = refl
    by_test true false = refl
    by_test false true = refl
    by_test false false = refl

raised_rises : (n : ℕ) (a : Request) → n ≤ raised n a
raised_rises n a = by_test (is_counted a)
  where
    by_test : (x : Bool) → n ≤ (if x then n + 1 else n)
    by_test true = omega arith
    by_test false = omega arith

raised_keeps : (n k : ℕ) (a : Request) → n ≤ k → raised n a ≤ raised k a
raised_keeps n k a l = by_test (is_counted a)
  where
    by_test : (x : Bool) → (if x then n + 1 else n) ≤ (if x then k + 1 else k)
    by_test true = omega arith
    by_test false = omega arith

-- a counted one raises it by one
raised_one : (n : ℕ) (a : Request) → IsTrue (is_counted a) → raised n a ≡ n + 1
raised_one n a e = by_test (is_counted a) e
  where
    by_test : (x : Bool) → IsTrue x → (if x then n + 1 else n) ≡ n + 1
    by_test true e = refl
    by_test false e = absurd (let f : false ≡ true = e in cc)

-- ---- how many of the first posts are counted

-- later posts are none of them
pub counted_before : (n : ℕ) (posts more : List Post) → n ≤ length posts → counted_to n (posts ++ more) ≡ counted_to n posts
counted_before zero posts more l = refl
counted_before (suc n) [] more l = absurd (omega arith)
counted_before (suc n) (post ∷ posts) more l = ap (λ (k : ℕ). raised k post.job) (counted_before n posts more (omega arith))

-- with the next post
counted_next : (posts more : List Post) (post : Post) → counted_to (suc (length posts)) (posts ++ post ∷ more) ≡ raised
    (counted_to (length posts) (posts ++ post ∷ more)) post.job
counted_next [] more post = refl
counted_next (p ∷ posts) more post =
    ap (λ (k : ℕ). raised k p.job) (counted_next posts more post) ∙ raised_swap (counted_to (length posts) (posts ++ post ∷ more)) post.job p.job

pub counted_rises : (n k : ℕ) (posts : List Post) → n ≤ k → counted_to n posts ≤ counted_to k posts
counted_rises zero k posts l = omega arith
counted_rises (suc n) zero posts l = absurd (omega arith)
counted_rises (suc n) (suc k) [] l = omega arith
counted_rises (suc n) (suc k) (post ∷ posts) l = raised_keeps (counted_to n posts) (counted_to k posts) post.job (counted_rises n k posts (omega arith))

-- ---- accounts and posts

abbrev job_of_post : Post → Request
job_of_post post = post.job

-- the posts so far: those of the jobs that have ended, which the counter counts, and those of the jobs that wait
record Fits (posts : List Post) (a : Account) : Type 0 where
  done : List Post
  left : List Post
  all : posts ≡ done ++ left
  ended : a.ended ≡ length done
  waits : a.waiting ≡ map job_of_post left
  counter : a.counter ≡ counted_to (length done) done

fits_new : Fits [] new_account
fits_new = record { done = []; left = []; all = refl; ended = refl; waits = refl; counter = refl }

fits_posted : (posts : List Post) (a b : Account) (post : Post) → Fits posts a → b ≡ record a { waiting = a.waiting ++ post.job ∷ [] } →
    Fits (posts ++ post ∷ []) b
fits_posted posts a b post f e = record {
  done = f.done;
  left = f.left ++ post ∷ [];
  all = ap (λ (ps : List Post). ps ++ post ∷ []) f.all ∙ append_assoc f.done f.left (post ∷ []);
  ended = ap (λ (x : Account). x.ended) e ∙ f.ended;
  waits = ap (λ (x : Account). x.waiting) e ∙ ap (λ (jobs : List Request). jobs ++ post.job ∷ []) f.waits ∙ sym (map-append job_of_post f.left (post ∷ []));
  counter = ap (λ (x : Account). x.counter) e ∙ f.counter;
}

-- the end of the earliest that waits
record EndFits (posts : List Post) (number count : ℕ) (b : Account) : Type 0 where
  fits : Fits posts b
  counter : count ≡ counted_to number posts
  within : number ≤ length posts
  is : (b.ended ≡ number) × (b.counter ≡ count)

ends_at : (posts : List Post) (a b : Account) (f : Fits posts a) (post : Post) (left : List Post) (job : Request) (rest : List Request) (number : ℕ)
    (o : Outcome) (count node : ℕ) → f.left ≡ post ∷ left → a.waiting ≡ job ∷ rest →
    job ≡ post.job → rest ≡ map job_of_post left → EndsFirst a (job ∷ rest) number o count node b → EndFits posts number count b
ends_at posts a b f post left job rest number o count node e w same others h =
    let all : posts ≡ f.done ++ post ∷ left = f.all ∙ ap (λ (ps : List Post). f.done ++ ps) e in
    let longer = length-append f.done (post ∷ []) in
    let size : length (f.done ++ post ∷ []) ≡ suc (length f.done) = omega arith in
    let next : number ≡ suc (length f.done) = h.2 ∙ ap suc f.ended in
    let before : counted_to (length f.done) (f.done ++ post ∷ left) ≡ a.counter = counted_before (length f.done) f.done (post ∷ left) (omega arith)
    ∙ sym f.counter in
    let count_is : count ≡ counted_to (suc (length f.done)) (f.done ++ post ∷ left) =
    h.3 ∙ ap (λ (j : Request). raised a.counter j) same ∙ ap (λ (k : ℕ). raised k post.job) (sym before) ∙ sym (counted_next f.done left post) in
    let split : posts ≡ (f.done ++ post ∷ []) ++ left = all ∙ sym (append_assoc f.done (post ∷ []) left) in
    let shorter : counted_to (suc (length f.done)) (f.done ++ post ∷ left) ≡ counted_to (length (f.done ++ post ∷ [])) (f.done ++ post ∷ []) =
    ap (λ (ps : List Post). counted_to (suc (length f.done)) ps) (sym (append_assoc f.done (post ∷ []) left))
    ∙ counted_before (suc (length f.done)) (f.done ++ post ∷ []) left (omega arith)
    ∙ ap (λ (n : ℕ). counted_to n (f.done ++ post ∷ [])) (sym size) in
    let long : length posts ≡ length f.done + length (post ∷ left) = ap length all ∙ length-append f.done (post ∷ left) in
    record {
      fits = record {
        done = f.done ++ post ∷ [];
        left = left;
        all = split;
        ended = ap (λ (x : Account). x.ended) h.5 ∙ next ∙ sym size;
        waits = ap (λ (x : Account). x.waiting) h.5 ∙ others;
        counter = ap (λ (x : Account). x.counter) h.5 ∙ count_is ∙ shorter;
      };
      counter = count_is ∙ ap (λ (n : ℕ). counted_to n (f.done ++ post ∷ left)) (sym next) ∙ ap (λ (ps : List Post). counted_to number ps) (sym all);
      within = omega arith;
      is = (ap (λ (x : Account). x.ended) h.5, ap (λ (x : Account). x.counter) h.5);
    }

first_of : (job first : Request) (rest others : List Request) → job ∷ rest ≡ first ∷ others → (job ≡ first) × (rest ≡ others)
first_of job first rest others e = (let f = e in cc, let f = e in cc)

fits_ended : (posts : List Post) (a b : Account) (number : ℕ) (o : Outcome) (count node : ℕ) → Fits posts a → EndsFirst a a.waiting number o count node b →
    EndFits posts number count b
fits_ended posts a b number o count node f h = by_parts f.left a.waiting refl refl h
  where
    by_parts : (left : List Post) (waiting : List Request) → f.left ≡ left → a.waiting ≡ waiting → EndsFirst a waiting number o count node b →
        EndFits posts number count b
    by_parts left [] e w h = absurd h
    by_parts [] (job ∷ rest) e w h = absurd (let none : job ∷ rest ≡ [] = sym w ∙ f.waits ∙ ap (λ (ps : List Post). map job_of_post ps) e in cc)
    by_parts (post ∷ left) (job ∷ rest) e w h =
        let same = first_of job post.job rest (map job_of_post left) (sym w ∙ f.waits ∙ ap (λ (ps : List Post). map job_of_post ps) e) in
        ends_at posts a b f post left job rest number o count node e w same.0 same.1 h

give_fits : (posts : List Post) (a b : Account) (entries : List Entry) → Fits posts a → Give a entries b → Fits (posts ++ posts_of entries) b
give_fits posts a b [] f g = subst (λ (x : Account). Fits (posts ++ []) x) (sym g) (subst (λ (ps : List Post). Fits ps a) (sym (append-nil posts)) f)
give_fits posts a b (Posted lane job ∷ entries) f g =
    let post : Post = record { lane = lane; job = job } in
    subst (λ (ps : List Post). Fits ps b) (append_assoc posts (post ∷ []) (posts_of entries))
    (give_fits (posts ++ post ∷ []) g.0 b entries (fits_posted posts a g.0 post f g.1) g.2)
give_fits posts a b (Ended number o count node ∷ entries) f g = give_fits posts g.0 b entries (fits_ended posts a g.0 number o count node f g.1).fits g.2

-- the fold, cut in two
give_cut : (a c : Account) (xs ys : List Entry) → Give a (xs ++ ys) c → (b : Account) × Give a xs b × Give b ys c
give_cut a c [] ys g = (a, refl, g)
give_cut a c (x ∷ xs) ys g = let cut = give_cut g.0 c xs ys g.2 in (cut.0, (g.0, g.1, cut.1), cut.2)

-- ---- one end

-- where an end stands: the accounts before and after it, and what it tells
record EndIn (entries before after : List Entry) (number count : ℕ) (last : Account) : Type 0 where
  here : Account
  ended : here.ended ≡ number
  counter : here.counter ≡ count
  rest : Give here after last
  tells : count ≡ counted_to number (posts_of entries)
  within : number ≤ length (posts_of entries)

end_in : (entries before after : List Entry) (number : ℕ) (o : Outcome) (count node : ℕ) (last : Account) →
    entries ≡ before ++ Ended number o count node ∷ after → Give new_account entries last → EndIn entries before after number count last
end_in entries before after number o count node last e g =
    let cut = give_cut new_account last before (Ended number o count node ∷ after) (subst (λ (es : List Entry). Give new_account es last) e g) in
    let end = fits_ended (posts_of before) cut.0 cut.2.0 number o count node (give_fits [] new_account cut.0 before fits_new cut.1) cut.2.1 in
    let posts : posts_of entries ≡ posts_of before ++ posts_of after = ap posts_of e ∙ posts-append before (Ended number o count node ∷ after) in
    let size : length (posts_of entries) ≡ length (posts_of before) + length (posts_of after) =
    ap length posts ∙ length-append (posts_of before) (posts_of after) in
    let low : number ≤ length (posts_of before) = end.within in
    record {
      here = cut.2.0;
      ended = end.is.0;
      counter = end.is.1;
      rest = cut.2.2;
      tells = end.counter ∙ sym (counted_before number (posts_of before) (posts_of after) end.within)
          ∙ ap (λ (ps : List Post). counted_to number ps) (sym posts);
      within = omega arith;
    }

pub end_tells_counted : EndTellsCounted
end_tells_counted m number count k e = (end_in m.minutes e.0 e.1 number e.2 count e.3 k.account e.4 k.given).tells

-- ---- two ends

ends_rise : (a : Account) (waiting : List Request) (number : ℕ) (o : Outcome) (count node : ℕ) (b : Account) → EndsFirst a waiting number o count node b →
    (number ≡ suc a.ended) × (a.counter ≤ count) × (b.counter ≡ count)
ends_rise a [] number o count node b h = absurd h
ends_rise a (job ∷ rest) number o count node b h =
    let more = raised_rises a.counter job in
    let is = h.3 in
    (h.2, omega arith, ap (λ (x : Account). x.counter) h.5)

give_rises : (a b : Account) (entries : List Entry) → Give a entries b → a.counter ≤ b.counter
give_rises a b [] g = (let same = ap (λ (x : Account). x.counter) g in omega arith)
give_rises a b (Posted lane job ∷ entries) g =
    let same = ap (λ (x : Account). x.counter) g.1 in
    let rest = give_rises g.0 b entries g.2 in
    omega arith
give_rises a b (Ended number o count node ∷ entries) g =
    let one = ends_rise a a.waiting number o count node g.0 g.1 in
    let low = one.1 in
    let is = one.2 in
    let rest = give_rises g.0 b entries g.2 in
    omega arith

pub counter_never_falls : CounterNeverFalls
counter_never_falls m before after number next count later node o k e h =
    let first = end_in m.minutes before after number o count node k.account e k.given in
    let cut = give_cut first.here k.account h.0 (Ended next h.2 later h.3 ∷ h.1) (subst (λ (es : List Entry). Give first.here es k.account) h.4 first.rest) in
    let two = ends_rise cut.0 cut.0.waiting next h.2 later h.3 cut.2.0 cut.2.1 in
    let number_is = first.ended in
    let count_is = first.counter in
    let ended = give_ended first.here cut.0 h.0 cut.1 in
    let rises = give_rises first.here cut.0 h.0 cut.1 in
    let next_is = two.0 in
    let low = two.1 in
    (omega arith, omega arith)

-- ---- counted cells

-- the count with a counted post is one more than that before it
counted_one : (posts : List Post) (number : ℕ) (before after : List Post) (post : Post) → posts ≡ before ++ post ∷ after → number ≡ suc (length before) →
    IsTrue (is_counted post.job) → counted_to number posts ≡ counted_to (number - 1) posts + 1
counted_one posts number before after post e n c =
    let low : length before ≡ number - 1 = omega arith in
    ap (λ (k : ℕ). counted_to k posts) n ∙ ap (λ (ps : List Post). counted_to (suc (length before)) ps) e ∙ counted_next before after post
    ∙ raised_one (counted_to (length before) (before ++ post ∷ after)) post.job c
    ∙ ap (λ (ps : List Post). counted_to (length before) ps + 1) (sym e) ∙ ap (λ (k : ℕ). counted_to k posts + 1) low

pub counted_is_next : CountedIsNext
counted_is_next m number count k h =
    end_tells_counted m number count k h.0 ∙ counted_one (posts_of m.minutes) number h.1.1.0 h.1.1.1 h.1.0 h.1.1.2 h.1.1.3 h.1.2

-- of two counted cells the later one carries a greater counter
greater : (m : Machine) (number other count : ℕ) → HasLegalMinutes m → HasCountedEnd m.minutes number count → HasCountedEnd m.minutes other count →
    number < other → ⊥
greater m number other count k a b l =
    let first = end_tells_counted m number count k a.0 in
    let second = counted_is_next m other count k b in
    let rises = counted_rises number (other - 1) (posts_of m.minutes) (omega arith) in
    omega arith

pub no_counter_twice : NoCounterTwice
no_counter_twice m number other count k a b = elim (cases_lt number other) [
  | inl l ↦ absurd (greater m number other count k a b l)
  | inr l ↦ elim (cases_lt other number) [
    | inl h ↦ absurd (greater m other number count k b a h)
    | inr h ↦ omega arith
  ]
]

-- ---- the counter of the kernel

idle_counter : (posts : List Post) (a : Account) (m : Machine) → Fits posts a → m.counter ≡ a.counter → m.queue ≡ a.waiting →
    m.counter ≡ counted_to (length posts - length m.queue) posts
idle_counter posts a m f c q =
    let queue : length m.queue ≡ length f.left = ap length (q ∙ f.waits) ∙ length-map f.left job_of_post in
    let size : length posts ≡ length f.done + length f.left = ap length f.all ∙ length-append f.done f.left in
    let begun : length f.done ≡ length posts - length m.queue = omega arith in
    c ∙ f.counter ∙ sym (counted_before (length f.done) f.done f.left (omega arith)) ∙ ap (λ (ps : List Post). counted_to (length f.done) ps) (sym f.all)
    ∙ ap (λ (n : ℕ). counted_to n posts) begun

open_counter : (posts : List Post) (a : Account) (waiting : List Request) (m : Machine) → Fits posts a → a.waiting ≡ waiting → IsOpen a waiting m →
    m.counter ≡ counted_to (length posts - length m.queue) posts
open_counter posts a [] m f w h = absurd h
open_counter posts a (job ∷ rest) m f w h = by_left f.left refl
  where
    by_left : (left : List Post) → f.left ≡ left → m.counter ≡ counted_to (length posts - length m.queue) posts
    by_left [] e = absurd (let none : job ∷ rest ≡ [] = sym w ∙ f.waits ∙ ap (λ (ps : List Post). map job_of_post ps) e in cc)
    by_left (post ∷ left) e =
        let same = first_of job post.job rest (map job_of_post left) (sym w ∙ f.waits ∙ ap (λ (ps : List Post). map job_of_post ps) e) in
        let all : posts ≡ f.done ++ post ∷ left = f.all ∙ ap (λ (ps : List Post). f.done ++ ps) e in
        let queue : length m.queue ≡ length left = ap length (h.0 ∙ same.1) ∙ length-map left job_of_post in
        let size : length posts ≡ length f.done + length (post ∷ left) = ap length all ∙ length-append f.done (post ∷ left) in
        let begun : suc (length f.done) ≡ length posts - length m.queue = omega arith in
        let before : a.counter ≡ counted_to (length f.done) (f.done ++ post ∷ left) =
        f.counter ∙ sym (counted_before (length f.done) f.done (post ∷ left) (omega arith)) in
        h.1 ∙ ap (λ (j : Request). raised a.counter j) same.0 ∙ ap (λ (n : ℕ). raised n post.job) before ∙ sym (counted_next f.done left post)
        ∙ ap (λ (ps : List Post). counted_to (suc (length f.done)) ps) (sym all) ∙ ap (λ (n : ℕ). counted_to n posts) begun

agreed_counter : (posts : List Post) (a : Account) (m : Machine) (job : Open) → Fits posts a → Agrees a m job →
    m.counter ≡ counted_to (length posts - length m.queue) posts
agreed_counter posts a m Idle f h = idle_counter posts a m f h.1 h.2
agreed_counter posts a m (Border travel) f h = open_counter posts a a.waiting m f refl h
agreed_counter posts a m (Inside e) f h = open_counter posts a a.waiting m f refl h

pub counter_is_of_begun : CounterIsOfBegun
counter_is_of_begun m k = agreed_counter (posts_of m.minutes) k.account m m.state.job (give_fits [] new_account k.account m.minutes fits_new k.given) k.agrees

open_within : (a : Account) (waiting : List Request) (m : Machine) → IsOpen a waiting m → a.counter ≤ m.counter
open_within a [] m h = absurd h
open_within a (job ∷ rest) m h = (let is = h.1 in let more = raised_rises a.counter job in omega arith)

-- the counter of the jobs that have ended is at most that of the kernel
account_within : (a : Account) (m : Machine) (job : Open) → Agrees a m job → a.counter ≤ m.counter
account_within a m Idle h = (let same = h.1 in omega arith)
account_within a m (Border travel) h = open_within a a.waiting m h
account_within a m (Inside e) h = open_within a a.waiting m h

pub ends_within_counter : EndsWithinCounter
ends_within_counter m number count k e =
    let end = end_in m.minutes e.0 e.1 number e.2 count e.3 k.account e.4 k.given in
    let is = end.counter in
    let rises = give_rises end.here k.account e.1 end.rest in
    let within = account_within k.account m m.state.job k.agrees in
    omega arith

-- ---- the jobs that have ended

-- their counter is the number of counted cells among the first posts, as many as have ended
pub account_counts : (m : Machine) (k : HasLegalMinutes m) → (k.account.counter ≡ counted_to k.account.ended (posts_of m.minutes)) ×
    (k.account.ended ≤ length (posts_of m.minutes))
account_counts m k =
    let f = give_fits [] new_account k.account m.minutes fits_new k.given in
    let size : length (posts_of m.minutes) ≡ length f.done + length f.left = ap length f.all ∙ length-append f.done f.left in
    let ended = f.ended in (
      f.counter ∙ sym (counted_before (length f.done) f.done f.left (omega arith)) ∙ ap (λ (ps : List Post). counted_to (length f.done) ps) (sym f.all)
          ∙ ap (λ (n : ℕ). counted_to n (posts_of m.minutes)) (sym f.ended),
      omega arith,
    )
