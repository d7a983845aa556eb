-- How the program ends: its exit status, and the line of a fault.
use Rattle.std.specs.Prelude.{◌≡◌, ℕ, List, [], ◌∷◌, ◌++◌, codes, Result, Ok, Err}
use Rattle.cells_program.specs.Lines.{ended_line}
use Rattle.cells_program.specs.RunFault.{text_of}
use Rattle.cells_program.specs.declared.fault.RunFault.{RunFault}

-- the line that tells a fault, the name of the program before it
abbrev pub fault_line : RunFault → List ℕ
fault_line fault = ended_line (codes "janus-cells: " ++ text_of fault)

-- the exit status of a run: 0 where its input was served, 1 where a fault ended it
abbrev pub run_status : Result (Unit {0}) RunFault → ℕ
run_status (Ok served) = 0
run_status (Err fault) = 1

-- the words of a command line that asks for help: the name of the program, and `--help`
abbrev pub AsksForHelp : List (List ℕ) → Type 0
AsksForHelp words = (name : List ℕ) × (words ≡ name ∷ codes "--help" ∷ [])
