-- What a cell is loaded over, what stays meanwhile, and which names of procedures are new.
use Rattle.std.specs.Prelude.{◌≡◌, ◌≤◌, ◌+◌, ◌⊎◌, ◌++◌, ℕ, List, [], map, length, Contains}
use Rattle.janus_meaning.specs.Syntax.{Name, Proc}
use Rattle.janus_meaning.specs.FormedWorld.{HaveValues}
use Rattle.janus_meaning.specs.World as world
use Rattle.janus_meaning.specs.World.{World}
use Rattle.janus_slots.specs.Numbers.{IsNumbered}
use Rattle.janus_syntax.specs.Tree.{Cell}
use Rattle.janus_check.specs.Names.{Known}
use Rattle.kernel_runner.specs.linked_code.LinkedCode.{LinkedCode}
use Rattle.kernel_machine.specs.Language.{IsSound}
use Rattle.kernel_machine.specs.Text.{Accepts}
use Rattle.kernel_runner.specs.Procedures.{kept_in, places_in}
use Rattle.kernel_runner.specs.linked_procedure.LinkedProcedure.{LinkedProcedure}
use Rattle.kernel_runner.specs.procedures.Procedures.{Procedures}
use Rattle.kernel_runner.specs.Program.{tree_of, IsReady}
use Rattle.kernel_runner.specs.declared.program.Program.{Program}
use Rattle.kernel_runner.specs.Runner.{ShownWorld, Is, Between}
use Rattle.kernel_runner.specs.declared.runner.Runner.{Runner}
use Rattle.kernel_loader.specs.Known.{IsKnownOf}

-- the runner shows this world, of which this is known, and in which each name has a value
pub record ShowsKnown {L : Type 0} (runner : Runner L) (env : Known) (shown : ShownWorld) : Type 0 where
  pub is : Is runner (Between shown)
  pub known : IsKnownOf env shown.world
  pub values : HaveValues shown.world.store

-- the runner shows the well-formed world that it showed: there may be more names of procedures, and more bodies that are kept
abbrev pub KeepsShown : {L : Type 0} → Runner L → Runner L → Type 0
KeepsShown old new = (shown : ShownWorld) → IsSound shown.world → Is old (Between shown) → Is new (Between shown)

-- behind the old names stand names of these procedures, and no others
abbrev pub AddNamesOf : List Name → List Name → List Proc → Type 0
AddNamesOf old new ps = (k : ℕ) (x : Name) → length old ≤ k → IsNumbered new k x → Contains (map (λ (p : Proc). p.name) ps) x

-- the procedures of the text's cell; none, where there is no such cell
abbrev pub AreProceduresOf : World → List ℕ → List Proc → Type 0
AreProceduresOf w text ps = (ps ≡ []) ⊎ ((cell : world.Cell) × Accepts w text cell × (cell.procedures ≡ ps))

-- there are no more places for the bodies in effect than before, or than names that were there and these procedures
abbrev pub TakesFewPlaces : {L : Type 0} → Runner L → Runner L → List Proc → Type 0
TakesFewPlaces old new ps = (n : ℕ) → places_in old.procedures ≤ n → length old.entries + length ps ≤ n → places_in new.procedures ≤ n

-- this holds of each sound world that the runner shows
abbrev pub OfEachShown : {L : Type 0} → Runner L → (World → Type 0) → Type 0
OfEachShown runner P = (shown : ShownWorld) → Is runner (Between shown) → IsSound shown.world → P shown.world

-- the program of this cell and this code, whose bodies begin there
pub record IsMadeOf (cell : Cell) (book : LinkedCode) (first : ℕ) (program : Program) : Type 0 where
  pub tree : tree_of program ≡ cell
  pub code : program.book ≡ book
  pub bodies : program.first ≡ first

-- Once these bodies are kept behind others, a program of this cell and this code, whose bodies begin there, is ready over these names.
abbrev pub IsReadyOnceKept : List Name → List Name → Cell → LinkedCode → List LinkedProcedure → Type 0
IsReadyOnceKept es names cell book bodies =
    (old new : Procedures) (program : Program) → kept_in new ≡ kept_in old ++ bodies → IsMadeOf cell book (length (kept_in old)) program →
    IsReady es names new program
