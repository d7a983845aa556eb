-- How the fields of the code are a state of the machine: its words for the types of the code.
use Rattle.std.specs.Prelude.{◌≡◌, List, [], ◌∷◌, map}
use Rattle.kernel_loader.specs.Program.{cell_of_program}
use Rattle.kernel_machine.specs.State as state
use Rattle.kernel_machine.specs.State.{Past, State, worlds_from}
use Rattle.cell_tree.specs.declared.node.Node.{Node}
use Rattle.kernel_history.specs.declared.tree.EndedCell.{EndedCell}
use Rattle.kernel_history.specs.declared.tree.HistoryTree.{HistoryTree}
use Rattle.kernel_history.specs.declared.job.Stage.{Stage}
use Rattle.kernel_history.specs.declared.job.Stage.TheVariants as stage
use Rattle.kernel_history.specs.declared.job.Work.{Work}
use Rattle.kernel_history.specs.declared.job.Work.TheVariants.{Cell as RunCell, Move}
use Rattle.kernel_history.specs.declared.job.Open.{Open}
use Rattle.kernel_history.specs.declared.job.Open.TheVariants.{Idle, Border, Inside}

abbrev pub node_of : Node EndedCell → state.Node
node_of node = record { parent = node.parent; cell = cell_of_program node.content.program; steps = node.content.steps }

-- the root, and behind it the nodes
abbrev pub nodes_of : HistoryTree → List state.Node
nodes_of tree = state.root ∷ map node_of tree.cells.nodes

abbrev pub work_of : Work → state.Work
work_of (RunCell program) = state.Posted (cell_of_program program)
work_of (Move t) = state.Move t

abbrev pub job_of : Open → state.Job
job_of Idle = state.Idle
job_of (Border t) = state.Border t
job_of (Inside e) = state.Inside (record { work = work_of e.work; count = e.count; heading = e.heading })

-- the worlds are not kept: they are computed from the nodes
abbrev pub past_of : HistoryTree → Past
past_of tree = record {
  nodes = nodes_of tree;
  worlds = worlds_from [] (nodes_of tree);
  favourites = tree.cells.favourites;
  position = tree.position;
}

abbrev pub state_of : HistoryTree → Open → State
state_of tree job = record { past = past_of tree; job = job_of job }

-- where the open job stands
abbrev pub IsStageOf : State → Stage → Type 0
IsStageOf s stage.Idle = s.job ≡ state.Idle
IsStageOf s (stage.Border t) = s.job ≡ state.Border t
IsStageOf s stage.Inside = (e : state.Entered) × (s.job ≡ state.Inside e)
