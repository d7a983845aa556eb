-- Where the runner stands: between two cells, or inside the open job's cell.
use Rattle.std.specs.Prelude.{ℕ, Bool, true, false}
use Rattle.kernel_machine.specs.State.{here, code_of}
use Rattle.kernel_machine.specs.declared.heading.Heading.{Heading}
use Rattle.kernel_machine.specs.declared.heading.Heading.TheVariants.{GoesOn, GoesBack}
use Rattle.kernel_history.specs.Fields.{past_of, work_of}
use Rattle.kernel_loader.specs.Runner as model
use Rattle.kernel_loader.specs.Runner.{ShownWorld, over, Place, Is, Between}
use Rattle.kernel_loader.specs.program.Program.{Program}
use Rattle.kernel_loader.specs.runner.Runner.{Runner}
use Rattle.kernel_history.specs.declared.tree.HistoryTree.{HistoryTree}
use Rattle.kernel_history.specs.declared.job.Work.{Work}
use Rattle.kernel_history.specs.declared.job.Open.{Open}
use Rattle.kernel_history.specs.declared.job.Open.TheVariants.{Idle, Border, Inside}
use Rattle.kernel_history.specs.Bodies.{IsProgramOf, bodies_at, bodies_in}

-- between two cells it shows the world of the position, over the bodies that are defined there
abbrev pub shown_here : HistoryTree → ShownWorld
shown_here tree = over (bodies_at tree tree.position) (here (past_of tree))

-- inside a cell it has taken `count` steps of the work's code, from the world of the position
abbrev pub place_in : HistoryTree → Work → Program → ℕ → Place
place_in tree work program count = record {
  bodies = bodies_in tree work program;
  code = code_of (past_of tree) (work_of work);
  world = here (past_of tree);
  count = count;
}

abbrev pub is_back : Heading → Bool
is_back GoesOn = false
is_back (GoesBack why) = true

-- the runner stands in the work's program
pub record StandsIn {L : Type 0} (tree : HistoryTree) (work : Work) (count : ℕ) (back : Bool) (runner : Runner L) : Type 0 where
  pub program : Program
  pub of_work : IsProgramOf tree work program
  pub stands : Is runner (model.Inside program (place_in tree work program count) back)

-- the runner is where the open job says
abbrev pub StandsAt : {L : Type 0} → HistoryTree → Open → Runner L → Type 0
StandsAt tree Idle runner = Is runner (Between (shown_here tree))
StandsAt tree (Border travel) runner = Is runner (Between (shown_here tree))
StandsAt tree (Inside e) runner = StandsIn tree e.work e.count (is_back e.heading) runner
