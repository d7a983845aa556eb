-- With which status the program ends, where it does not run.
use Rattle.std.specs.Prelude.{ℕ}
use Rattle.kernel_program.specs.declared.fault.ProgramFault.{ProgramFault}
use Rattle.kernel_program.specs.declared.fault.ProgramFault.TheVariants.{Memory, File, Bind}

-- no memory at the start, a wrong connection file, a socket that can't be bound
abbrev pub status_of : ProgramFault → ℕ
status_of Memory = 1
status_of (File setting) = 2
status_of (Bind setting) = 3
