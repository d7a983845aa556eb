-- What contracts see of a pass, what it sees and posts, and the tickets of its posts.
use Rattle.std.specs.Prelude.{◌≡◌, ◌⊎◌, ◌<◌, ℕ, ◌+◌, ◌-◌, ◌^◌, ◌%◌, false, List, Some, slice_get}
use mathlib.Core.List.{IsPrefix}
use Rattle.kernel_ask.specs.Minutes.{Entry, Post, IsNumberOf, posted_in}
use Rattle.kernel_ask.specs.Request.{Request}
use Rattle.kernel_ask.specs.Runs.{Machine}
use Rattle.kernel_ask.specs.LegalMinutes.{IsLegalMachine}
use Rattle.kernel_ask.specs.post.Job.{Job}
use Rattle.kernel_ask.specs.Wishes.{WishOf}
use Rattle.kernel_audit.specs.declared.pass.Ticket.{Ticket}
use Rattle.kernel_audit.specs.declared.note.Note.{Note}
use Rattle.kernel_audit.specs.Notes.{wished_in, has_shutdown}

-- a frontend's lane, how many posts it made and how many acts, which are shutdowns, changes of the comms and ends that it was told, and the beginnings of the
-- minutes and of the notes beside them that it has seen
pub record PassOf : Type 0 where
  pub lane : ℕ
  pub posts : ℕ
  pub acts : ℕ
  pub front : List Entry
  pub notes : List Note

abbrev pub pass_of : ℕ → ℕ → ℕ → List Entry → List Note → PassOf
pass_of lane posts acts front notes = record { lane = lane; posts = posts; acts = acts; front = front; notes = notes }

-- the count of acts behind one more: it is kept in 64 bits
abbrev pub next_act : ℕ → ℕ
next_act acts = (acts + 1) % 2 ^ 64

-- the pass with one act more
abbrev pub acted : PassOf → PassOf
acted p = record p { acts = next_act p.acts }

-- these are the minutes of a legal kernel
abbrev pub AreLegal : List Entry → Type 0
AreLegal entries = (k : Machine) × IsLegalMachine k × (k.minutes ≡ entries)

-- the pass has seen on: what it had seen are beginnings of what it has seen now; else it is as it was
pub record HasSeen (old new : PassOf) : Type 0 where
  pub lane : new.lane ≡ old.lane
  pub posts : new.posts ≡ old.posts
  pub onward : IsPrefix old.front new.front
  pub noted : IsPrefix old.notes new.notes

-- What two passes have seen stands in one order: what one has seen of the minutes is a beginning of what the other has, and so it is with the notes.
pub record AreInOneOrder (a b : PassOf) : Type 0 where
  pub fronts : IsPrefix a.front b.front ⊎ IsPrefix b.front a.front
  pub notes : IsPrefix a.notes b.notes ⊎ IsPrefix b.notes a.notes

-- A number of which both have seen the post is of one post, with one lane: so passes on two lanes have no number together.
abbrev pub HaveOneNumbering : PassOf → PassOf → Type 0
HaveOneNumbering a b = (n : ℕ) (post other : Post) → IsNumberOf a.front n post → IsNumberOf b.front n other → post ≡ other

-- these wishes are noted of the post with this number
abbrev pub IsWished : List Note → ℕ → List WishOf → Type 0
IsWished notes number given = slice_get (wished_in notes) (number - 1) ≡ Some given

-- the pass has posted this job, and counted it; it had seen no shutdown. What it has seen now are the minutes of a legal kernel: what it had seen is a
-- beginning of them, and its post stands there, with its lane and this job, at this number, under which its wishes are noted. The number is above those of
-- all posts that it had seen: so it is none of them.
pub record HasPosted (old : PassOf) (job : Request) (given : List WishOf) (number : ℕ) (new : PassOf) : Type 0 where
  pub lane : new.lane ≡ old.lane
  pub posts : new.posts ≡ old.posts + 1
  pub onward : IsPrefix old.front new.front
  pub noted : IsPrefix old.notes new.notes
  pub serves : has_shutdown old.notes ≡ false
  pub legal : AreLegal new.front
  pub wished : IsWished new.notes number given
  pub posted : IsNumberOf new.front number (record { lane = old.lane; job = job })
  pub fresh : posted_in old.front < number

-- the ticket of a pass's next post: its lane, which of its posts it is, the number and the job
abbrev pub ticket_of : PassOf → ℕ → Job → Ticket
ticket_of p number job = record { lane = p.lane; nth = p.posts + 1; number = number; job = job }
