-- A lone kernel as a desk: what each call answers, and what it leaves.
use Rattle.std.specs.Prelude.{◌≡◌, ℕ, ◌⊎◌, List, [], ◌∷◌, ◌++◌, Bool, true, false, Result, Ok, Err, refl}
use Rattle.std.specs.Coded.{Coded, code_by, coded×, coded_ℕ, coded_bool, coded_list}
use Rattle.kernel_core.specs.Request.{Request}
use Rattle.kernel_core.specs.Runs.{Machine, IsRefusal, shut}
use Rattle.kernel_core.specs.MachineCode.{machine_code}
use Rattle.kernel_core.specs.post.PostFault.{PostFault}
use Rattle.kernel_ask.specs.Answer.{IsAnswer}
use Rattle.kernel_ask.specs.declared.answer.Ask.{Ask}
use Rattle.kernel_ask.specs.declared.answer.Answer.{Answer}
use Rattle.kernel_ask.specs.declared.answer.HallFault.{HallFault}
use Rattle.kernel_ask.specs.declared.answer.HallFault.TheVariants.{Memory}
use Rattle.kernel_ask.specs.declared.done.Done.{Done}
use Rattle.kernel_board.specs.Frames.{Frames}
use Rattle.kernel_ask.specs.CommChanges.{IsChange}
use Rattle.kernel_ask.specs.declared.comm_change.CommChange.{CommChange}
use Rattle.kernel_session.specs.Question.{Question, question_of, Change, change_of, Wishes}
use Rattle.kernel_session.specs.Call.{Call, Posted, Asked, Changed, Rang, Shut, Published, Kept, Dated}
use Rattle.kernel_server.specs.declared.slice.Slice.{Slice}
use Rattle.kernel_server.specs.contracts.slice.Slice.{the_row as slice_row}
use Rattle.kernel_server.specs.Jobs.{IsDone}

-- a kernel without an open job, the open comms, the slices that are left, the broadcasts that are kept, and whether these are all that were
-- handed over
pub record Lone : Type 0 where
  pub machine : Machine
  pub comms : List (List ℕ)
  pub slices : List Slice
  pub kept : List Frames
  pub is_whole : Bool

abbrev pub lone_code : Coded Lone
lone_code =
    code_by (Machine × (List (List ℕ) × (List Slice × (List Frames × Bool))))
    (coded× machine_code
    (coded× (coded_list (coded_list coded_ℕ)) (coded× (coded_list slice_row.coded) (coded× (coded_list (coded_list (coded_list coded_ℕ))) coded_bool))))
    (λ d. (d.machine, (d.comms, (d.slices, (d.kept, d.is_whole)))))
    (λ p. record { machine = p.0; comms = p.1.0; slices = p.1.1.0; kept = p.1.1.1.0; is_whole = p.1.1.1.1 }) (λ _. refl)

-- a job runs to its end by the slices; a refused one changes nothing
abbrev pub IsPosted : Lone → Request → Wishes → Result Done PostFault → Lone → Type 0
IsPosted old job wishes (Ok d) new =
    IsDone old.machine old.slices job wishes d new.machine new.slices × (new.comms ≡ old.comms) × (new.kept ≡ old.kept) × (new.is_whole ≡ old.is_whole)
IsPosted old job wishes (Err fault) new = IsRefusal old.machine fault × (new ≡ old)

-- a question is answered from the kernel and the comms; a refusal is want of memory
abbrev pub IsAnswered : Lone → Question → Result Answer HallFault → Type 0
IsAnswered old q (Ok answer) = (asked : Ask) × (question_of asked ≡ q) × IsAnswer old.machine old.comms asked answer
IsAnswered old q (Err fault) = fault ≡ Memory

-- a change changes the comms alone
pub record IsChanged (old : Lone) (change : Change) (told : Result Bool HallFault) (new : Lone) : Type 0 where
  pub asked : CommChange
  pub is_asked : change_of asked ≡ change
  pub comms : List (List ℕ)
  pub changes : IsChange old.comms asked told comms
  pub new_is : new ≡ record old { comms = comms }

-- THE LONE DESK: what each call may answer, and what it leaves. A ring finds no open job. A broadcast is kept behind the others; where there
-- is no memory for it, the list is told no more. The date stays.
abbrev pub lone_leads : Lone → Call → Lone → Type 0
lone_leads old (Posted job wishes told) new = IsPosted old job wishes told new
lone_leads old (Asked q told) new = IsAnswered old q told × (new ≡ old)
lone_leads old (Changed change told) new = IsChanged old change told new
lone_leads old Rang new = new ≡ old
lone_leads old Shut new = new ≡ record old { machine = shut old.machine }
lone_leads old (Published b) new = (new ≡ record old { kept = old.kept ++ b ∷ [] }) ⊎ (new ≡ record old { is_whole = false })
lone_leads old (Kept bs) new = (bs ≡ old.kept) × (old.is_whole ≡ true) × (new ≡ old)
lone_leads old (Dated before after) new = (after ≡ before) × (new ≡ old)
