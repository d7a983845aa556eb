-- What a frontend asks for.
use Rattle.std.specs.Prelude.{ℕ, ◌+◌, Bool, false, ◌&&◌, not, List, if◌then◌else◌}
use Rattle.kernel_machine.specs.declared.post.Job.{Job}
use Rattle.kernel_machine.specs.declared.post.Job.TheVariants as job

-- a job, with its text as octets
pub data Request : Type 0 where
  RunCell : (text : List ℕ) (silent store : Bool) → Request
  Undo : (k : ℕ) → Request
  Redo : (k : ℕ) → Request
  Goto : (n : ℕ) → Request

abbrev pub request_of : Job → Request
request_of (job.Cell code silent store) = RunCell code silent store
request_of (job.Undo k) = Undo k
request_of (job.Redo k) = Redo k
request_of (job.Goto n) = Goto n

-- a cell that is not silent and is to be stored is counted
abbrev pub is_counted : Request → Bool
is_counted (RunCell text silent store) = not silent && store
is_counted (Undo k) = false
is_counted (Redo k) = false
is_counted (Goto n) = false

-- the execution counter with the begin of a job
abbrev pub raised : ℕ → Request → ℕ
raised counter job = (if is_counted job then counter + 1 else counter)
