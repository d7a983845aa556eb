-- The minutes as the code writes them, and the queue of their places.
use Rattle.std.specs.Prelude.{vec_capacity, if◌then◌else◌}
use Rattle.std.specs.Result.{is_ok, is_err}
use Rattle.std.proofs.Common.{◌≡◌, ℕ, ◌+◌, ◌*◌, ◌<◌, ◌≤◌, Bool, false, Result, Ok, Err, List, [], ◌∷◌, ◌++◌, length, map, get_or, zero, suc, refl, sym, ap, ◌∙◌}
use Rattle.std.proofs.Common.{subst, arith, length-append, append-nil, Option, None, Some}
use Rattle.std.proofs.lemmas.List.{length-map, map-append}
use Rattle.kernel_machine.specs.State.{State}
use Rattle.kernel_machine.specs.Request.{Request, Undo, request_of}
use Rattle.kernel_machine.specs.Runs.{Machine, posted, noted, end_of_begun, end_of_sliced}
use Rattle.kernel_machine.specs.Minutes as minutes
use Rattle.kernel_machine.specs.Minutes.{posted_in, ended_in, minutes_limit}
use Rattle.kernel_core.specs.Written.{entry_of, entries_in, job_in, job_at, IsPost, IsPostAt, ArePosts, HasPlaces}
use Rattle.kernel_machine.specs.declared.outcome.Outcome.{Outcome}
use Rattle.kernel_machine.specs.declared.outcome.Begun.{Begun}
use Rattle.kernel_machine.specs.declared.outcome.Begun.TheVariants as begun
use Rattle.kernel_machine.specs.declared.outcome.Sliced.{Sliced}
use Rattle.kernel_machine.specs.declared.outcome.Sliced.TheVariants as sliced
use Rattle.kernel_core.specs.MachineParts.{machine_with}
use Rattle.kernel_machine.specs.declared.post.Job.{Job}
use Rattle.kernel_core.specs.declared.minutes.Entry.{Entry}
use Rattle.kernel_core.specs.declared.minutes.Entry.TheVariants.{Posted, Ended}
use Rattle.kernel_core.specs.declared.minutes.MinuteBook.{MinuteBook}
use Rattle.kernel_machine.proofs.Posts.{posted-append, ended-append, entry_count}

-- ---- entries

abbrev nothing : minutes.Entry
nothing = minutes.Posted 0 (Undo 0)

get_first : (xs ys : List minutes.Entry) (i : ℕ) → i < length xs → get_or (xs ++ ys) i nothing ≡ get_or xs i nothing
get_first [] ys i l = absurd (omega arith)
get_first (x ∷ xs) ys zero l = refl
get_first (x ∷ xs) ys (suc i) l = get_first xs ys i (omega arith)

get_last : (xs : List minutes.Entry) (y : minutes.Entry) → get_or (xs ++ y ∷ []) (length xs) nothing ≡ y
get_last [] y = refl
get_last (x ∷ xs) y = get_last xs y

mapped : (entries : List Entry) (i : ℕ) (d : Entry) → i < length entries → get_or (map entry_of entries) i nothing ≡ entry_of (get_or entries i d)
mapped [] i d l = absurd (omega arith)
mapped (e ∷ entries) zero d l = refl
mapped (e ∷ entries) (suc i) d l = mapped entries i d (omega arith)

-- what is read at a place is the entry there
pub entry_read : (entries : List Entry) (i : ℕ) (entry : Entry) → i < length entries → entry ≡ get_or entries i entry →
    get_or (map entry_of entries) i nothing ≡ entry_of entry
entry_read entries i entry l read = mapped entries i entry l ∙ ap entry_of (sym read)

-- an entry more
pub one_more : (entries more : List Entry) (entry : Entry) → more ≡ entries ++ entry ∷ [] → map entry_of more ≡ map entry_of entries ++ entry_of entry ∷ []
one_more entries more entry e = ap (λ (xs : List Entry). map entry_of xs) e ∙ map-append entry_of entries (entry ∷ [])

-- ---- places

-- a place of the list is one of a longer list
post_stays : (xs ys : List minutes.Entry) (i : ℕ) → IsPostAt xs i → IsPostAt (xs ++ ys) i
post_stays xs ys i h =
    let low = h.0 in
    let size = length-append xs ys in
    (omega arith, subst (λ (e : minutes.Entry). IsPost e) (sym (get_first xs ys i h.0)) h.1)

pub posts_stay : (xs ys : List minutes.Entry) (places : List ℕ) → ArePosts xs places → ArePosts (xs ++ ys) places
posts_stay xs ys [] h = tt
posts_stay xs ys (i ∷ places) h = (post_stays xs ys i h.0, posts_stay xs ys places h.1)

pub jobs_stay : (xs ys : List minutes.Entry) (places : List ℕ) → ArePosts xs places → map (job_at (xs ++ ys)) places ≡ map (job_at xs) places
jobs_stay xs ys [] h = refl
jobs_stay xs ys (i ∷ places) h =
    ap (λ (e : minutes.Entry). job_in e ∷ map (job_at (xs ++ ys)) places) (get_first xs ys i h.0.0)
    ∙ ap (λ (jobs : List Request). job_at xs i ∷ jobs) (jobs_stay xs ys places h.1)

places_more : (xs : List minutes.Entry) (places : List ℕ) (i : ℕ) → ArePosts xs places → IsPostAt xs i → ArePosts xs (places ++ i ∷ [])
places_more xs [] i h p = (p, tt)
places_more xs (j ∷ places) i h p = (h.0, places_more xs places i h.1 p)

-- a post stands behind all others
pub place_posted : (xs : List minutes.Entry) (places : List ℕ) (lane : ℕ) (job : Request) → ArePosts xs places →
    ArePosts (xs ++ minutes.Posted lane job ∷ []) (places ++ length xs ∷ [])
place_posted xs places lane job h =
    let size = length-append xs (minutes.Posted lane job ∷ []) in
    places_more (xs ++ minutes.Posted lane job ∷ []) places (length xs) (posts_stay xs (minutes.Posted lane job ∷ []) places h)
    (omega arith, subst (λ (e : minutes.Entry). IsPost e) (sym (get_last xs (minutes.Posted lane job))) tt)

pub job_posted : (xs : List minutes.Entry) (places : List ℕ) (lane : ℕ) (job : Request) → ArePosts xs places →
    map (job_at (xs ++ minutes.Posted lane job ∷ [])) (places ++ length xs ∷ []) ≡ map (job_at xs) places ++ job ∷ []
job_posted xs places lane job h =
    map-append (job_at (xs ++ minutes.Posted lane job ∷ [])) places (length xs ∷ [])
    ∙ ap (λ (jobs : List Request). jobs ++ job_at (xs ++ minutes.Posted lane job ∷ []) (length xs) ∷ []) (jobs_stay xs (minutes.Posted lane job ∷ []) places h)
    ∙ ap (λ (e : minutes.Entry). map (job_at xs) places ++ job_in e ∷ []) (get_last xs (minutes.Posted lane job))

-- ---- what the minutes keep

-- each entry is a post or an end
pub size_of : (m : MinuteBook) → HasPlaces m → length m.entries.items ≡ m.posted + m.ended
size_of m k =
    let size = length-map m.entries.items entry_of in
    let count = entry_count (entries_in m) in
    let posted = k.posted in
    let ended = k.ended in
    omega arith

pub posted_kept : (m more : MinuteBook) (lane : ℕ) (job : Job) → HasPlaces m → 2 * suc m.posted ≤ vec_capacity m.entries → 2 * suc m.posted ≤ minutes_limit →
    more.entries.items ≡ m.entries.items ++ Posted lane job ∷ [] →
    more.posted ≡ m.posted + 1 → more.ended ≡ m.ended → vec_capacity more.entries ≡ vec_capacity m.entries → HasPlaces more
posted_kept m more lane job k room within items one same capacity =
    let entries : entries_in more ≡ entries_in m ++ minutes.Posted lane (request_of job) ∷ [] =
    one_more m.entries.items more.entries.items (Posted lane job) items in
    let posts = ap posted_in entries ∙ posted-append (entries_in m) (minutes.Posted lane (request_of job) ∷ []) in
    let ends = ap ended_in entries ∙ ended-append (entries_in m) (minutes.Posted lane (request_of job) ∷ []) in
    let posted = k.posted in
    let ended = k.ended in
    let order = k.order in
    record { posted = omega arith; ended = omega arith; order = omega arith; room = omega arith; within = omega arith }

pub ended_kept : (m more : MinuteBook) (number : ℕ) (o : Outcome) (count node : ℕ) → HasPlaces m → m.ended < m.posted →
    more.entries.items ≡ m.entries.items ++ Ended number o count node ∷ [] →
    more.posted ≡ m.posted → more.ended ≡ m.ended + 1 → vec_capacity more.entries ≡ vec_capacity m.entries → HasPlaces more
ended_kept m more number o count node k some items same one capacity =
    let entries : entries_in more ≡ entries_in m ++ minutes.Ended number o count node ∷ [] =
    one_more m.entries.items more.entries.items (Ended number o count node) items in
    let posts = ap posted_in entries ∙ posted-append (entries_in m) (minutes.Ended number o count node ∷ []) in
    let ends = ap ended_in entries ∙ ended-append (entries_in m) (minutes.Ended number o count node ∷ []) in
    let posted = k.posted in
    let ended = k.ended in
    let room = k.room in
    let within = k.within in
    record { posted = omega arith; ended = omega arith; order = omega arith; room = omega arith; within = omega arith }

-- ---- the machine

-- what a push did that found its memory
pub pushed : {T E : Type 0} (r : Result T E) (xs ys zs : List ℕ) → is_err r ≡ false → zs ≡ (if is_ok r then xs else ys) → zs ≡ xs
pushed (Ok x) xs ys zs e h = h
pushed (Err x) xs ys zs e h = absurd (cc)

abbrev pub machine_from : State → List Request → ℕ → List minutes.Entry → Bool → Machine
machine_from state queue counter entries closing = record { state = state; queue = queue; counter = counter; minutes = entries; closing = closing }

-- an entry is written down
pub written_view : (es more : List minutes.Entry) (e : minutes.Entry) (state : State) (queue : List ℕ) (counter : ℕ) (closing : Bool) → more ≡ es ++ e ∷ [] →
    ArePosts es queue →
    machine_from state (map (job_at more) queue) counter more closing ≡ machine_from state (map (job_at es) queue) counter (es ++ e ∷ []) closing
written_view es more e state queue counter closing same posts =
    subst (λ (xs : List minutes.Entry). machine_from state (map (job_at xs) queue) counter xs closing ≡ machine_from state (map (job_at es) queue) counter
    (es ++ e ∷ []) closing) (sym same)
    (ap (λ (jobs : List Request). machine_from state jobs counter (es ++ e ∷ []) closing) (jobs_stay es (e ∷ []) queue posts))

-- a job is posted
pub posted_view : (es more : List minutes.Entry) (places queue : List ℕ) (lane : ℕ) (job : Request) (state : State) (counter : ℕ) (closing : Bool) →
    more ≡ es ++ minutes.Posted lane job ∷ [] → queue ≡ places ++ length es ∷ [] → ArePosts es places →
    machine_from state (map (job_at more) queue) counter more closing ≡ posted (machine_from state (map (job_at es) places) counter es closing) lane job
posted_view es more places queue lane job state counter closing same behind posts =
    subst (λ (xs : List minutes.Entry). machine_from state (map (job_at xs) queue) counter xs closing ≡ posted
    (machine_from state (map (job_at es) places) counter es closing) lane job) (sym same)
    (ap (λ (jobs : List Request). machine_from state jobs counter (es ++ minutes.Posted lane job ∷ []) closing)
    (ap (λ (q : List ℕ). map (job_at (es ++ minutes.Posted lane job ∷ [])) q) behind ∙ job_posted es places lane job posts))

-- ---- the end of a job

-- where nothing ended nothing is written down
pub no_end_begun : (told : Begun) → ((o : Outcome) → told ≡ begun.Ended o → ⊥) → end_of_begun told ≡ None
no_end_begun begun.Nothing h = refl
no_end_begun begun.Going h = refl
no_end_begun (begun.Ended o) h = absurd (h o refl)

pub no_end_sliced : (told : Sliced) → ((o : Outcome) → told ≡ sliced.Ended o → ⊥) → end_of_sliced told ≡ None
no_end_sliced sliced.Nothing h = refl
no_end_sliced sliced.Going h = refl
no_end_sliced sliced.Border h = refl
no_end_sliced sliced.Backing h = refl
no_end_sliced (sliced.Ended o) h = absurd (h o refl)

pub unnoted : (m : Machine) (end : Option Outcome) → end ≡ None → m ≡ noted m end
unnoted m end none =
    subst (λ (e : Option Outcome). m ≡ noted m e) (sym none)
    (ap (λ (es : List minutes.Entry). machine_from m.state m.queue m.counter es m.closing) (sym (append-nil m.minutes)))

-- what is written down of an end, in the machine's words
pub end_written : (m more : MinuteBook) (o : Outcome) (counter node at : ℕ) → HasPlaces m →
    more.entries.items ≡ m.entries.items ++ Ended (suc m.ended) o counter node ∷ [] → node ≡ at →
    entries_in more ≡ entries_in m ++ minutes.Ended (suc (ended_in (entries_in m))) o counter at ∷ []
end_written m more o counter node at k items same =
    one_more m.entries.items more.entries.items (Ended (suc m.ended) o counter node) items
    ∙ ap (λ (n : ℕ). entries_in m ++ minutes.Ended (suc n) o counter node ∷ []) k.ended
    ∙ ap (λ (n : ℕ). entries_in m ++ minutes.Ended (suc (ended_in (entries_in m))) o counter n ∷ []) same

pub end_noted : (state : State) (places : List ℕ) (counter : ℕ) (closing : Bool) (m more : MinuteBook) (o : Outcome) →
    entries_in more ≡ entries_in m ++ minutes.Ended (suc (ended_in (entries_in m))) o counter state.past.position ∷ [] → ArePosts (entries_in m) places →
    machine_with state places counter more closing ≡ noted (machine_with state places counter m closing) (Some o)
end_noted state places counter closing m more o written posts = written_view (entries_in m) (entries_in more) _ state places counter closing written posts

pub end_stays : (m more : MinuteBook) (e : minutes.Entry) (places : List ℕ) → entries_in more ≡ entries_in m ++ e ∷ [] → ArePosts (entries_in m) places →
    ArePosts (entries_in more) places
end_stays m more e places written posts =
    subst (λ (entries : List minutes.Entry). ArePosts entries places) (sym written) (posts_stay (entries_in m) (e ∷ []) places posts)
