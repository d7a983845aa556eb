-- The minutes, read from their end.
use Rattle.std.proofs.Common.{◌≡◌, ℕ, zero, suc, ◌+◌, ◌-◌, ◌*◌, ◌<◌, ◌≤◌, Bool, true, false, List, [], ◌∷◌, ◌++◌, length, take, drop, map, reverse, refl, sym}
use Rattle.std.proofs.Common.{ap, ◌∙◌, subst, arith}
use Rattle.std.specs.List.{flat_map}
use Rattle.std.specs.Int.{from_bool}
use Rattle.std.specs.Prelude.{if◌then◌else◌}
use Rattle.std.proofs.lemmas.Grind.{flat_map-append}
use Rattle.std.proofs.lemmas.List.{append-nil, append_assoc, length-append, length-take, map-append, take_all, take-append-le, drop_all, drop-append-le}
use Rattle.std.proofs.lemmas.List.{reverse-append}
use Rattle.kernel_text.specs.Request.{Request, RunCell, Undo, Redo, Goto, is_counted, raised}
use Rattle.kernel_text.specs.Minutes.{Entry, Posted, Ended, Post, posts_of, posted_in, ended_in}
use Rattle.kernel_text.specs.Runs.{Machine}
use Rattle.kernel_text.specs.LegalMinutes.{Account, new_account, EndsFirst, Give, HasLegalMinutes}
use Rattle.kernel_text.specs.Counters.{counted_to}
use Rattle.kernel_text.specs.Written.{entry_of}
use Rattle.kernel_text.specs.outcome.Outcome.{Outcome}
use Rattle.kernel_text.specs.minutes.Entry.{Entry as Kept}
use Rattle.kernel_text.proofs.Posts.{posts-append, posted-append, entry_count}
use Rattle.kernel_text.proofs.Noted.{give_ended}
use Rattle.kernel_text.proofs.Counting.{counted_before, counted_rises, counter_is_of_begun, account_counts}
use Rattle.kernel_ask.specs.History.{texts_of, texts_in, numbered, inputs, told}
use Rattle.kernel_ask.specs.declared.inputs.HistoryAsk.TheVariants.{Tail}
use Rattle.kernel_ask.specs.Tail.{AreKept, last_end, counted_in}
use Rattle.kernel_ask.proofs.Counted.{length_numbered, numbered_more}

-- what is left, with its last entry
pub mapped : (rest front : List Kept) (e : Kept) (x : Entry) → rest ≡ front ++ e ∷ [] → entry_of e ≡ x → map entry_of rest ≡ map entry_of front ++ x ∷ []
mapped rest front e x split is = ap (map entry_of) split ∙ map-append entry_of front (e ∷ []) ∙ ap (λ (y : Entry). map entry_of front ++ y ∷ []) is

-- ---- the last end

pub end_behind : (given : ℕ × ℕ) (es : List Entry) (number : ℕ) (o : Outcome) (count node : ℕ) →
    last_end given (es ++ Ended number o count node ∷ []) ≡ (number, count)
end_behind given [] number o count node = refl
end_behind given (Posted lane job ∷ es) number o count node = end_behind given es number o count node
end_behind given (Ended n p c m ∷ es) number o count node = end_behind (n, c) es number o count node

pub post_behind : (given : ℕ × ℕ) (es : List Entry) (lane : ℕ) (job : Request) → last_end given (es ++ Posted lane job ∷ []) ≡ last_end given es
post_behind given [] lane job = refl
post_behind given (Posted lane' job' ∷ es) lane job = post_behind given es lane job
post_behind given (Ended n p c m ∷ es) lane job = post_behind (n, c) es lane job

-- ---- counted posts

pub text_counted : (n : ℕ) (job : Request) → length (texts_of job) + n ≡ raised n job
text_counted n (RunCell text silent store) = by_flags silent store
  where
    by_flags : (silent store : Bool) → length (texts_of (RunCell text silent store)) + n ≡ raised n (RunCell text silent store)
    by_flags true store = omega arith
    by_flags false true = omega arith
    by_flags false false = omega arith
text_counted n (Undo k) = omega arith
text_counted n (Redo k) = omega arith
text_counted n (Goto k) = omega arith

counted_more : (es : List Entry) (x : Entry) → counted_in (es ++ x ∷ []) ≡ length (texts_in x) + counted_in es
counted_more es x =
    let cut : counted_in (es ++ x ∷ []) ≡ counted_in es + length (flat_map texts_in (x ∷ [])) =
    ap length (flat_map-append texts_in es (x ∷ [])) ∙ length-append (flat_map texts_in es) (flat_map texts_in (x ∷ [])) in
    let one : length (flat_map texts_in (x ∷ [])) ≡ length (texts_in x) = ap length (append-nil (texts_in x)) in
    omega arith

pub counted_post : (es : List Entry) (lane : ℕ) (job : Request) → counted_in (es ++ Posted lane job ∷ []) ≡ raised (counted_in es) job
counted_post es lane job = counted_more es (Posted lane job) ∙ text_counted (counted_in es) job

pub counted_end : (es : List Entry) (number : ℕ) (o : Outcome) (count node : ℕ) → counted_in (es ++ Ended number o count node ∷ []) ≡ counted_in es
counted_end es number o count node = (let more = counted_more es (Ended number o count node) in omega arith)

pub counted_text : (es : List Entry) (x : Entry) (text : List ℕ) → texts_in x ≡ text ∷ [] → counted_in (es ++ x ∷ []) ≡ suc (counted_in es)
counted_text es x text e = (let more = counted_more es x in let one : length (texts_in x) ≡ 1 = ap length e in omega arith)

pub counted_none : (es : List Entry) (x : Entry) → texts_in x ≡ [] → counted_in (es ++ x ∷ []) ≡ counted_in es
counted_none es x e = (let more = counted_more es x in let none : length (texts_in x) ≡ 0 = ap length e in omega arith)

pub raised_by : (n : ℕ) (job : Request) → n + from_bool (is_counted job) ≡ raised n job
raised_by n job = by_test (is_counted job)
  where
    by_test : (b : Bool) → n + from_bool b ≡ (if b then n + 1 else n)
    by_test true = refl
    by_test false = omega arith

pub one_at_most : (b : Bool) → from_bool b ≤ 1
one_at_most true = omega arith
one_at_most false = omega arith

-- all posts that are counted
pub counted_all : (es : List Entry) → counted_in es ≡ counted_to (posted_in es) (posts_of es)
counted_all [] = refl
counted_all (Posted lane job ∷ es) =
    let size : counted_in (Posted lane job ∷ es) ≡ length (texts_of job) + counted_in es = length-append (texts_of job) (flat_map texts_in es) in
    size ∙ text_counted (counted_in es) job ∙ ap (λ (n : ℕ). raised n job) (counted_all es)
counted_all (Ended number o count node ∷ es) = counted_all es

-- the first posts, before one more
pub first_posts : (es : List Entry) (lane : ℕ) (job : Request) (left : ℕ) → 0 < left →
    counted_to (posted_in es - (left - 1)) (posts_of es) ≡ counted_to (posted_in (es ++ Posted lane job ∷ []) - left) (posts_of (es ++ Posted lane job ∷ []))
first_posts es lane job left l =
    let post : Post = record { lane = lane; job = job } in
    let size : posted_in (es ++ Posted lane job ∷ []) ≡ posted_in es + 1 = posted-append es (Posted lane job ∷ []) in
    let same : posted_in es - (left - 1) ≡ posted_in (es ++ Posted lane job ∷ []) - left = omega arith in
    sym (counted_before (posted_in es - (left - 1)) (posts_of es) (post ∷ []) (omega arith))
    ∙ ap (λ (ps : List Post). counted_to (posted_in es - (left - 1)) ps) (sym (posts-append es (Posted lane job ∷ [])))
    ∙ ap (λ (n : ℕ). counted_to n (posts_of (es ++ Posted lane job ∷ []))) same

pub posts_end : (es : List Entry) (number : ℕ) (o : Outcome) (count node : ℕ) → posts_of (es ++ Ended number o count node ∷ []) ≡ posts_of es
posts_end es number o count node = posts-append es (Ended number o count node ∷ []) ∙ append-nil (posts_of es)

-- ---- what the last end tells

ends_last : (a : Account) (waiting : List Request) (number : ℕ) (o : Outcome) (count node : ℕ) (b : Account) → EndsFirst a waiting number o count node b →
    (b.ended ≡ number) × (b.counter ≡ count)
ends_last a [] number o count node b h = absurd h
ends_last a (job ∷ rest) number o count node b h = (ap (λ (x : Account). x.ended) h.5, ap (λ (x : Account). x.counter) h.5)

give_last : (a b : Account) (es : List Entry) → Give a es b → last_end (a.ended, a.counter) es ≡ (b.ended, b.counter)
give_last a b [] g = sym (ap (λ (x : Account). (x.ended, x.counter)) g)
give_last a b (Posted lane job ∷ es) g = sym (ap (λ (x : Account). last_end (x.ended, x.counter) es) g.1) ∙ give_last g.0 b es g.2
give_last a b (Ended number o count node ∷ es) g =
    let one = ends_last a a.waiting number o count node g.0 g.1 in
    sym (ap (λ (n : ℕ). last_end (n, g.0.counter) es) one.0 ∙ ap (λ (n : ℕ). last_end (number, n) es) one.1) ∙ give_last g.0 b es g.2

-- The jobs that have ended are the first ones, and the others are as many as there are more posts than ends.
pub record Told (minutes : List Entry) (counter : ℕ) : Type 0 where
  pub ended : 2 * (last_end (0, 0) minutes).0 ≤ length minutes
  pub all : (n : ℕ) → n + counted_to (posted_in minutes - (length minutes - 2 * (last_end (0, 0) minutes).0)) (posts_of minutes) ≡ counted_in minutes →
      (last_end (0, 0) minutes).1 + n ≡ counted_in minutes
  pub begun : counter ≤ counted_in minutes
  pub short : counted_in minutes ≤ length minutes

counted_short : (es : List Entry) → counted_in es ≤ posted_in es
counted_short es = subst (λ (n : ℕ). n ≤ posted_in es) (sym (counted_all es)) (few (posted_in es) (posts_of es))
  where
    raised_most : (n k : ℕ) (job : Request) → n ≤ k → raised n job ≤ suc k
    raised_most n k job l = (let more = text_counted n job in let one = at_most_one job in omega arith)
      where
        at_most_one : (job : Request) → length (texts_of job) ≤ 1
        at_most_one (RunCell text true store) = omega arith
        at_most_one (RunCell text false true) = omega arith
        at_most_one (RunCell text false false) = omega arith
        at_most_one (Undo k) = omega arith
        at_most_one (Redo k) = omega arith
        at_most_one (Goto k) = omega arith

    few : (n : ℕ) (posts : List Post) → counted_to n posts ≤ n
    few zero posts = omega arith
    few (suc n) [] = omega arith
    few (suc n) (post ∷ posts) = raised_most (counted_to n posts) n post.job (few n posts)

told_of : (m : Machine) → HasLegalMinutes m → Told m.minutes m.counter
told_of m k =
    let es = m.minutes in
    let a = k.account in
    let last : last_end (0, 0) es ≡ (a.ended, a.counter) = give_last new_account a es k.given in
    let ended : (last_end (0, 0) es).0 ≡ a.ended = ap (λ (p : ℕ × ℕ). p.0) last in
    let count : (last_end (0, 0) es).1 ≡ a.counter = ap (λ (p : ℕ × ℕ). p.1) last in
    let ends : a.ended ≡ ended_in es = (let e = give_ended new_account a es k.given in omega arith) in
    let size = entry_count es in
    let counts = account_counts m k in
    let within : a.ended ≤ posted_in es = counts.1 in
    let short = counted_short es in
    let rises = counted_rises (posted_in es - length m.queue) (posted_in es) (posts_of es) (omega arith) in
    let now = counter_is_of_begun m k in
    let total = counted_all es in
    let first : posted_in es - (length es - 2 * (last_end (0, 0) es).0) ≡ a.ended = omega arith in
    record {
      ended = omega arith;
      all = λ n e. (let same : counted_to (posted_in es - (length es - 2 * (last_end (0, 0) es).0)) (posts_of es) ≡ a.counter = ap
          (λ (j : ℕ). counted_to j (posts_of es)) first ∙ sym counts.0 in omega arith);
      begun = omega arith;
      short = omega arith;
    }

pub told_by : (minutes : List Entry) (counter : ℕ) → AreKept minutes counter → Told minutes counter
told_by minutes counter h = subst (λ (n : ℕ). Told minutes n) h.2 (subst (λ (es : List Entry). Told es h.0.counter) h.1 (told_of h.0 h.3))

-- how many of the posts of the other jobs are counted
pub counted_by : (minutes : List Entry) (counter size n : ℕ) (last : ℕ × ℕ) → AreKept minutes counter → size ≡ length minutes → last ≡ last_end (0, 0) minutes →
    n + counted_to (posted_in minutes - (size - 2 * last.0)) (posts_of minutes) ≡ counted_in minutes → last.1 + n ≡ counted_in minutes
counted_by minutes counter size n last h long is e =
    let same : size - 2 * last.0 ≡ length minutes - 2 * (last_end (0, 0) minutes).0 = ap (λ (j : ℕ). j - 2 * last.0) long
    ∙ ap (λ (p : ℕ × ℕ). length minutes - 2 * p.0) is in
    ap (λ (p : ℕ × ℕ). p.1 + n) is
    ∙ (told_by minutes counter h).all n (ap (λ (j : ℕ). n + counted_to (posted_in minutes - j) (posts_of minutes)) (sym same) ∙ e)

-- ---- the inputs before one more

-- one that was begun
pub begun_behind : (es : List Entry) (x : Entry) (text : List ℕ) (k before number : ℕ) → texts_in x ≡ text ∷ [] → number ≡ suc (counted_in es) → number ≤ k →
    before < number →
    drop before (inputs (es ++ x ∷ []) k) ≡ drop before (inputs es k) ++ (number, text) ∷ []
begun_behind es x text k before number one n few low =
    let ts = flat_map texts_in es in
    let texts : flat_map texts_in (es ++ x ∷ []) ≡ ts ++ text ∷ [] = flat_map-append texts_in es (x ∷ [])
    ∙ ap (λ us. ts ++ us) (append-nil (texts_in x) ∙ one) in
    let size : length (ts ++ text ∷ []) ≡ length ts + 1 = length-append ts (text ∷ []) in
    let numbers = length_numbered 1 ts in
    let is : 1 + length ts ≡ number = omega arith in
    ap (λ us. drop before (numbered 1 (take k us))) texts
    ∙ ap (λ us. drop before (numbered 1 us)) (take_all k (ts ++ text ∷ []) (omega arith))
    ∙ ap (drop before) (numbered_more 1 ts text)
    ∙ drop-append-le before (numbered 1 ts) ((1 + length ts, text) ∷ []) (omega arith)
    ∙ ap (λ us. drop before (numbered 1 us) ++ (1 + length ts, text) ∷ []) (sym (take_all k ts (omega arith)))
    ∙ ap (λ (j : ℕ). drop before (inputs es k) ++ (j, text) ∷ []) is

-- one that waits
pub waiting_behind : (es : List Entry) (x : Entry) (text : List ℕ) (k : ℕ) → texts_in x ≡ text ∷ [] → k ≤ counted_in es → inputs (es ++ x ∷ []) k ≡ inputs es k
waiting_behind es x text k one l =
    ap (λ us. numbered 1 (take k us)) (flat_map-append texts_in es (x ∷ []) ∙ ap (λ us. flat_map texts_in es ++ us) (append-nil (texts_in x) ∙ one))
    ∙ ap (numbered 1) (take-append-le k (flat_map texts_in es) (text ∷ []) l)

-- an entry that is no counted cell
pub none_behind : (es : List Entry) (x : Entry) (k : ℕ) → texts_in x ≡ [] → inputs (es ++ x ∷ []) k ≡ inputs es k
none_behind es x k none =
    ap (λ us. numbered 1 (take k us))
    (flat_map-append texts_in es (x ∷ []) ∙ ap (λ us. flat_map texts_in es ++ us) (append-nil (texts_in x) ∙ none) ∙ append-nil (flat_map texts_in es))

pub none_counted : (es : List Kept) → length es ≡ 0 → counted_in (map entry_of es) ≡ 0
none_counted [] e = refl
none_counted (x ∷ es) e = absurd (omega arith)

-- where there are no more
pub none_left : (es : List Entry) (k before : ℕ) → counted_in es ≤ before → drop before (inputs es k) ≡ []
none_left es k before l =
    let ts = flat_map texts_in es in
    let numbers = length_numbered 1 (take k ts) in
    let size = length-take k ts in
    drop_all before (inputs es k) (omega arith)

-- one more is told, in front of those that were
pub told_before : (a was now told new : List (ℕ × List ℕ)) (p : ℕ × List ℕ) → now ≡ a ++ p ∷ [] → new ≡ told ++ p ∷ [] → a ++ reverse new ≡ now ++ reverse told
told_before a was now told new p e f = ap (λ xs. a ++ reverse xs) f ∙ ap (λ xs. a ++ xs) (reverse-append told (p ∷ []))
    ∙ sym (append_assoc a (p ∷ []) (reverse told)) ∙ ap (λ xs. xs ++ reverse told) (sym e)

-- the last inputs are those behind the others
pub last_inputs : (minutes : List Entry) (counter n : ℕ) → AreKept minutes counter →
    drop (counter - n) (inputs minutes counter) ≡ told (Tail n) (inputs minutes counter)
last_inputs minutes counter n h =
    let t = (told_by minutes counter h).begun in
    let ts = flat_map texts_in minutes in
    let numbers = length_numbered 1 (take counter ts) in
    let size = length-take counter ts in
    let same : counter - n ≡ length (inputs minutes counter) - n = omega arith in
    ap (λ (j : ℕ). drop j (inputs minutes counter)) same

pub map_reverse : {A B : Type 0} (f : A → B) (xs : List A) → map f (reverse xs) ≡ reverse (map f xs)
map_reverse f [] = refl
map_reverse f (x ∷ xs) = ap (map f) (reverse-append (x ∷ []) xs) ∙ map-append f (reverse xs) (x ∷ []) ∙ ap (λ ys. ys ++ f x ∷ []) (map_reverse f xs)
    ∙ sym (reverse-append (f x ∷ []) (map f xs))
