-- What holds of all jobs of a lone kernel.
use Rattle.std.specs.Prelude.{◌≡◌, true, List, [], ◌∷◌, ◌++◌}
use Rattle.kernel_core.specs.State.{Idle}
use Rattle.kernel_core.specs.LegalState.{IsLegalState}
use Rattle.kernel_core.specs.Request.{Request}
use Rattle.kernel_core.specs.Runs.{Machine}
use Rattle.kernel_core.specs.Ends.{EndsUnless}
use Rattle.kernel_core.specs.Determined.{AreAmple}
use Rattle.kernel_ask.specs.declared.done.Done.{Done}
use Rattle.kernel_board.specs.Frames.{Frames}
use Rattle.kernel_session.specs.Question.{Wishes}
use Rattle.kernel_session.specs.Call.{Call, Posted, Asked, Changed, Rang, Shut, Published, Kept, Dated, Leads}
use Rattle.kernel_server.specs.declared.slice.Slice.{Slice}
use Rattle.kernel_server.specs.Jobs.{IsDone}
use Rattle.kernel_server.specs.Lone.{Lone, lone_leads}

-- What is told of a job is how it ended: a cell as a new node or with all as before, a move after whole cells, and after a shutdown as refused.
abbrev pub LoneJobsEnd : Type 0
LoneJobsEnd =
    (old new : Machine) (slices left : List Slice) (job : Request) (wishes : Wishes) (d : Done) →
    old.state.job ≡ Idle → old.queue ≡ [] → IsDone old slices job wishes d new left →
    EndsUnless old.closing old.state.past job d.outcome new.state

-- two jobs are told alike, and leave one kernel and the same slices
pub record AreAlike (d e : Done) (new other : Machine) (left rest : List Slice) : Type 0 where
  pub number : d.number ≡ e.number
  pub outcome : d.outcome ≡ e.outcome
  pub count : d.count ≡ e.count
  pub node : d.node ≡ e.node
  pub kernel : new ≡ other
  pub slices : left ≡ rest

-- Where memory is ample, the kernel and the slices alone decide what comes of a job.
abbrev pub LoneJobsAreDetermined : Type 0
LoneJobsAreDetermined =
    (old new other : Machine) (slices left rest : List Slice) (job : Request) (wishes : Wishes) (d e : Done) → IsLegalState old.state →
    (one : IsDone old slices job wishes d new left) → AreAmple one.runs.1.answers →
    (two : IsDone old slices job wishes e other rest) → AreAmple two.runs.1.answers →
    AreAlike d e new other left rest

-- the broadcast that a call hands over, if it does
abbrev pub handed : Call → List Frames
handed (Posted job wishes told) = []
handed (Asked q told) = []
handed (Changed change told) = []
handed Rang = []
handed Shut = []
handed (Published b) = b ∷ []
handed (Kept bs) = []
handed (Dated before after) = []

abbrev pub all_handed : List Call → List Frames
all_handed [] = []
all_handed (call ∷ calls) = handed call ++ all_handed calls

-- Where a desk has all broadcasts, it had them all before, and behind them stand those that were handed over since, each once and in order.
abbrev pub LoneDesksKeepAll : Type 0
LoneDesksKeepAll =
    (old new : Lone) (calls : List Call) → Leads lone_leads old calls new → new.is_whole ≡ true →
    (old.is_whole ≡ true) × (new.kept ≡ old.kept ++ all_handed calls)
