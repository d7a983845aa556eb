-- The cells that have begun and those that have ended, among the inputs.
use Rattle.std.proofs.Common.{◌≡◌, ℕ, zero, suc, ◌+◌, ◌-◌, ◌<◌, ◌≤◌, List, [], ◌∷◌, ◌++◌, length, take, drop, false, true, refl, sym, ap, ◌∙◌, subst, arith}
use Rattle.std.proofs.Common.{inl, inr, Contains}
use Rattle.std.specs.List.{flat_map}
use Rattle.std.proofs.lemmas.Bool.{cases_lt}
use Rattle.std.proofs.lemmas.List.{length-append, append_assoc}
use Rattle.kernel_text.specs.Request.{Request, RunCell, Undo, Redo, Goto, raised}
use Rattle.kernel_text.specs.Minutes.{Entry, Posted, Ended, Post, posts_of, posted_in}
use Rattle.kernel_text.specs.Runs.{Machine}
use Rattle.kernel_text.specs.LegalMinutes.{HasLegalMinutes}
use Rattle.kernel_text.specs.Counters.{counted_to}
use Rattle.kernel_text.proofs.Counting.{counted_is_next, counted_rises, counter_is_of_begun, ends_within_counter}
use Rattle.kernel_ask.specs.History.{texts_of, texts_in, numbered, inputs, CountedEndsAreInputs, IsBegunCell, InputsAreBegunCells}
use Rattle.kernel_text.proofs.NameSets.{contains_first, contains_later, contains_none, contains_cases}
use Rattle.kernel_ask.proofs.Walk.{text_counted}

-- an input stands under its number
numbered_there : (n k : ℕ) (before : List (List ℕ)) (text : List ℕ) (after : List (List ℕ)) → length before < k →
    Contains (numbered n (take k (before ++ text ∷ after))) (n + length before, text)
numbered_there n zero before text after l = absurd (omega arith)
numbered_there n (suc k) [] text after l =
    contains_first (numbered (suc n) (take k after)) (n, text) (n + 0, text) (let e : n ≡ n + 0 = omega arith in ap (λ (j : ℕ). (j, text)) e)
numbered_there n (suc k) (t ∷ before) text after l =
    let e : suc n + length before ≡ n + suc (length before) = omega arith in
    contains_later (numbered (suc n) (take k (before ++ text ∷ after))) (n, t) (n + suc (length before), text)
    (subst (λ (j : ℕ). Contains (numbered (suc n) (take k (before ++ text ∷ after))) (j, text)) e (numbered_there (suc n) k before text after (omega arith)))

one_more_text : (job : Request) (before : List (List ℕ)) → suc (length (texts_of job ++ before)) ≡ raised (suc (length before)) job
one_more_text job before =
    (let size = length-append (texts_of job) before in let one = text_counted (suc (length before)) job in omega arith)

-- the counted posts in front of one of them
record Parts (minutes : List Entry) (place : ℕ) (text : List ℕ) : Type 0 where
  before : List (List ℕ)
  after : List (List ℕ)
  all : flat_map texts_in minutes ≡ before ++ text ∷ after
  counted : length before ≡ counted_to place (posts_of minutes)
  counted_with : suc (length before) ≡ counted_to (suc place) (posts_of minutes)

parted : (minutes : List Entry) (before after : List Post) (lane : ℕ) (text : List ℕ) →
    posts_of minutes ≡ before ++ record { lane = lane; job = RunCell text false true } ∷ after → Parts minutes (length before) text
parted [] [] after lane text e = absurd (let f = e in cc)
parted [] (p ∷ before) after lane text e = absurd (let f = e in cc)
parted (Ended number o count node ∷ minutes) before after lane text e =
    (let rest = parted minutes before after lane text e in
    record { before = rest.before; after = rest.after; all = rest.all; counted = rest.counted; counted_with = rest.counted_with })
parted (Posted l job ∷ minutes) [] after lane text e =
    let job_is : job ≡ RunCell text false true = ap job_first e in
    record {
      before = [];
      after = flat_map texts_in minutes;
      all = ap (λ (j : Request). texts_of j ++ flat_map texts_in minutes) job_is;
      counted = refl;
      counted_with = sym (ap (λ (j : Request). raised 0 j) job_is);
    }
  where
    job_first : List Post → Request
    job_first [] = job
    job_first (p ∷ ps) = p.job
parted (Posted l job ∷ minutes) (p ∷ before) after lane text e =
    let rest = parted minutes before after lane text (ap (drop 1) e) in
    record {
      before = texts_of job ++ rest.before;
      after = rest.after;
      all = ap (λ ts. texts_of job ++ ts) rest.all ∙ sym (append_assoc (texts_of job) rest.before (text ∷ rest.after));
      counted = length-append (texts_of job) rest.before ∙ text_counted (length rest.before) job ∙ ap (λ (n : ℕ). raised n job) rest.counted;
      counted_with = one_more_text job rest.before ∙ ap (λ (n : ℕ). raised n job) rest.counted_with;
    }

-- the text of a counted post is an input, if the counter counts it
input_there : (m : Machine) (place count : ℕ) (text : List ℕ) (parts : Parts m.minutes place text) → 1 + length parts.before ≡ count →
    length parts.before < m.counter → Contains (inputs m.minutes m.counter) (count, text)
input_there m place count text parts is l =
    subst (λ (n : ℕ). Contains (inputs m.minutes m.counter) (n, text)) is
    (subst (λ ts. Contains (numbered 1 (take m.counter ts)) (1 + length parts.before, text)) (sym parts.all)
    (numbered_there 1 m.counter parts.before text parts.after l))

pub counted_ends_are_inputs : CountedEndsAreInputs
counted_ends_are_inputs m number count lane text k e h =
    let parts = parted m.minutes h.0 h.1 lane text h.2 in
    let next = counted_is_next m number count k (e, (record { lane = lane; job = RunCell text false true }, h, refl)) in
    let within = ends_within_counter m number count k e in
    let place : number - 1 ≡ length h.0 = (let n = h.3 in omega arith) in
    let front : length parts.before ≡ counted_to (number - 1) (posts_of m.minutes) =
    parts.counted ∙ ap (λ (n : ℕ). counted_to n (posts_of m.minutes)) (sym place) in
    input_there m (length h.0) count text parts (omega arith) (omega arith)

-- ---- the cells that have begun

-- where a number and a text come from
record Place (n k : ℕ) (texts : List (List ℕ)) (number : ℕ) (text : List ℕ) : Type 0 where
  before : List (List ℕ)
  after : List (List ℕ)
  all : texts ≡ before ++ text ∷ after
  number_is : number ≡ n + length before
  early : length before < k

place_of : (n k : ℕ) (texts : List (List ℕ)) (number : ℕ) (text : List ℕ) → Contains (numbered n (take k texts)) (number, text) → Place n k texts number text
place_of n zero texts number text h = absurd (contains_none (number, text) h)
place_of n (suc k) [] number text h = absurd (contains_none (number, text) h)
place_of n (suc k) (t ∷ texts) number text h =
    elim (contains_cases (numbered (suc n) (take k texts)) (n, t) (number, text) h) as (λ _. Place n (suc k) (t ∷ texts) number text) [
      | inl e ↦ record {
        before = [];
        after = texts;
        all = ap (λ (x : ℕ × List ℕ). x.1 ∷ texts) e;
        number_is = (let same : n ≡ number = ap (λ (x : ℕ × List ℕ). x.0) e in omega arith);
        early = omega arith;
      }
      | inr later ↦ (let rest = place_of (suc n) k texts number text later in record {
        before = t ∷ rest.before;
        after = rest.after;
        all = ap (λ ts. t ∷ ts) rest.all;
        number_is = (let is = rest.number_is in omega arith);
        early = (let l = rest.early in omega arith);
      })
    ]

-- the post of a text
record Source (minutes : List Entry) (before : List (List ℕ)) (text : List ℕ) : Type 0 where
  earlier : List Post
  later : List Post
  lane : ℕ
  all : posts_of minutes ≡ earlier ++ record { lane = lane; job = RunCell text false true } ∷ later
  counted : length before ≡ counted_to (length earlier) (posts_of minutes)
  counted_with : suc (length before) ≡ counted_to (suc (length earlier)) (posts_of minutes)

-- a job without a text raises nothing
uncounted : (n : ℕ) (job : Request) → texts_of job ≡ [] → n ≡ raised n job
uncounted n job e = (let one = text_counted n job in let none : length (texts_of job) ≡ 0 = ap length e in omega arith)

-- of a post that is not counted
behind_uncounted : (minutes : List Entry) (lane : ℕ) (job : Request) (before : List (List ℕ)) (text : List ℕ) → texts_of job ≡ [] → Source minutes before text →
    Source (Posted lane job ∷ minutes) before text
behind_uncounted minutes lane job before text none rest = record {
  earlier = record { lane = lane; job = job } ∷ rest.earlier;
  later = rest.later;
  lane = rest.lane;
  all = ap (λ (ps : List Post). record { lane = lane; job = job } ∷ ps) rest.all;
  counted = rest.counted ∙ uncounted (counted_to (length rest.earlier) (posts_of minutes)) job none;
  counted_with = rest.counted_with ∙ uncounted (counted_to (suc (length rest.earlier)) (posts_of minutes)) job none;
}

abbrev first_or : List ℕ → List (List ℕ) → List ℕ
first_or text [] = text
first_or text (t ∷ ts) = t

no_text : (before after : List (List ℕ)) (text : List ℕ) → [] ≡ before ++ text ∷ after → ⊥
no_text [] after text e = (let f = e in cc)
no_text (b ∷ before) after text e = (let f = e in cc)

source_of : (minutes : List Entry) (before after : List (List ℕ)) (text : List ℕ) → flat_map texts_in minutes ≡ before ++ text ∷ after →
    Source minutes before text
source_of [] before after text e = absurd (no_text before after text e)
source_of (Ended number o count node ∷ minutes) before after text e =
    (let rest = source_of minutes before after text e in
    record { earlier = rest.earlier; later = rest.later; lane = rest.lane; all = rest.all; counted = rest.counted; counted_with = rest.counted_with })
source_of (Posted lane (RunCell t false true) ∷ minutes) [] after text e = record {
  earlier = [];
  later = posts_of minutes;
  lane = lane;
  all = ap (λ (x : List ℕ). record { lane = lane; job = RunCell x false true } ∷ posts_of minutes) (ap (first_or t) e);
  counted = refl;
  counted_with = refl;
}
source_of (Posted lane (RunCell t false true) ∷ minutes) (b ∷ before) after text e =
    let rest = source_of minutes before after text (ap (drop 1) e) in
    record {
      earlier = record { lane = lane; job = RunCell t false true } ∷ rest.earlier;
      later = rest.later;
      lane = rest.lane;
      all = ap (λ (ps : List Post). record { lane = lane; job = RunCell t false true } ∷ ps) rest.all;
      counted = (let c = rest.counted in omega arith);
      counted_with = (let c = rest.counted_with in omega arith);
    }
source_of (Posted lane (RunCell t false false) ∷ minutes) before after text e =
    behind_uncounted minutes lane (RunCell t false false) before text refl (source_of minutes before after text e)
source_of (Posted lane (RunCell t true store) ∷ minutes) before after text e =
    behind_uncounted minutes lane (RunCell t true store) before text refl (source_of minutes before after text e)
source_of (Posted lane (Undo k) ∷ minutes) before after text e = behind_uncounted minutes lane (Undo k) before text refl (source_of minutes before after text e)
source_of (Posted lane (Redo k) ∷ minutes) before after text e = behind_uncounted minutes lane (Redo k) before text refl (source_of minutes before after text e)
source_of (Posted lane (Goto n) ∷ minutes) before after text e = behind_uncounted minutes lane (Goto n) before text refl (source_of minutes before after text e)

-- what the counter counts doesn't wait in the queue
waits_no_more : (m : Machine) (place : ℕ) → HasLegalMinutes m → counted_to place (posts_of m.minutes) < m.counter →
    suc place + length m.queue ≤ posted_in m.minutes
waits_no_more m place k l = elim (cases_lt place (posted_in m.minutes - length m.queue)) [
  | inl early ↦ omega arith
  | inr late ↦ absurd
      (let is = counter_is_of_begun m k in
      let rises = counted_rises (posted_in m.minutes - length m.queue) place (posts_of m.minutes) (omega arith) in
      omega arith)
]

begun_cell : (m : Machine) (count : ℕ) (text : List ℕ) → HasLegalMinutes m → Contains (inputs m.minutes m.counter) (count, text) → IsBegunCell m count text
begun_cell m count text k h =
    let place = place_of 1 m.counter (flat_map texts_in m.minutes) count text h in
    let source = source_of m.minutes place.before place.after text place.all in
    let front = source.counted in
    let with_it = source.counted_with in
    let is = place.number_is in
    let early = place.early in
    record {
      number = suc (length source.earlier);
      lane = source.lane;
      post = (source.earlier, source.later, source.all, refl);
      begun = waits_no_more m (length source.earlier) k (omega arith);
      counter = omega arith;
    }

begun_input : (m : Machine) (count : ℕ) (text : List ℕ) → HasLegalMinutes m → IsBegunCell m count text → Contains (inputs m.minutes m.counter) (count, text)
begun_input m count text k h =
    let parts = parted m.minutes h.post.0 h.post.1 h.lane text h.post.2 in
    let is = h.counter in
    let begun = h.begun in
    let with_it : suc (length parts.before) ≡ counted_to h.number (posts_of m.minutes) =
    parts.counted_with ∙ ap (λ (n : ℕ). counted_to n (posts_of m.minutes)) (sym h.post.3) in
    let rises = counted_rises h.number (posted_in m.minutes - length m.queue) (posts_of m.minutes) (omega arith) in
    let all = counter_is_of_begun m k in
    input_there m (length h.post.0) count text parts (omega arith) (omega arith)

pub inputs_are_begun_cells : InputsAreBegunCells
inputs_are_begun_cells m count text k = (begun_cell m count text k, begun_input m count text k)
