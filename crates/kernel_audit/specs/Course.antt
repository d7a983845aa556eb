-- How the kernel has come to where it stands, by what is noted.
use Rattle.std.specs.Prelude.{◌≡◌, ℕ, List, [], ◌∷◌, Ok}
use Rattle.kernel_ask.specs.Request.{Request}
use Rattle.kernel_ask.specs.Runs.{Machine, new_machine, IsPost, IsBegin, IsSliceOf, shut}
use Rattle.kernel_ask.specs.LegalMinutes.{IsLegalMachine}
use Rattle.kernel_audit.specs.Passes.{PassOf}
use Rattle.kernel_audit.specs.declared.note.Note.{Note}
use Rattle.kernel_audit.specs.declared.note.Note.TheVariants.{Posted, Shut, Asked, Changed, Began, Cut, Told}

-- the kernel has gone on as this note says, by one step of its machine; a question, a change of the comms and what was told leave it where it was
abbrev pub GoesBy : Note → Machine → Machine → Type 0
GoesBy (Posted wishes) old new = (lane : ℕ) × (job : Request) × (number : ℕ) × IsPost old lane job (Ok number) new
GoesBy Shut old new = new ≡ shut old
GoesBy Asked old new = new ≡ old
GoesBy (Changed comms) old new = new ≡ old
GoesBy (Began told) old new = IsBegin old told new
GoesBy (Cut most is_asked told) old new = IsSliceOf old most is_asked told new
GoesBy (Told done) old new = new ≡ old

-- it has gone on by these notes, one after another
abbrev pub Goes : Machine → List Note → Machine → Type 0
Goes old [] new = new ≡ old
Goes old (note ∷ notes) new = (mid : Machine) × GoesBy note old mid × Goes mid notes new

-- a new kernel has gone on by these notes up to here: in the midst of a job too, by each of its slices
abbrev pub HasCome : List Note → Machine → Type 0
HasCome notes m = Goes new_machine notes m

-- THE KERNEL THAT A PASS HAS SEEN: its minutes are those that the pass has seen, and it stands where the notes that the pass has seen have led it.
pub record IsKernelSeen (pass : PassOf) (k : Machine) : Type 0 where
  pub legal : IsLegalMachine k
  pub minutes : k.minutes ≡ pass.front
  pub came : ∥ HasCome pass.notes k ∥₁
